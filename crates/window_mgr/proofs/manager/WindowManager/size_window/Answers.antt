use Rattle.std.proofs.Common.{refl, rules, inl, false, None, subst}
use Rattle.desk_call.specs.declared.window.WindowCall.TheVariants.{Size}
use Rattle.window_mgr.proofs.SameDeskLemmas.{is_refused}
use Rattle.window_mgr.specs.Sparing.{Spares}
use Rattle.window_mgr.proofs.PlacementCalls as placing
use Rattle.window_mgr.proofs.manager.WindowManager.size_window.Goals as goal

pub returns-then-not-may_stand-clause-step : goal.returns-then-not-may_stand-clause-step
returns-then-not-may_stand-clause-step g c =
    is_refused _ c.args.self.now (Size c.args.sized) _ (λ slots whole.
    inl (placing.may_size _ c.args.self.now c.args.self.now slots whole c.in-Some.at c.args.sized.window c.at-found.result.now c.in-Some.ensures.0 (search rules) (c.in-Some.ensures.1 c.at-found.result.now (search rules)) c.args.sized refl false (search rules)))

pub place_window-requires-clause-placeable : goal.place_window-requires-clause-placeable
place_window-requires-clause-placeable g c =
    placing.is_placeable_at _ c.args.self.now c.requires c.in-Some.at (record { place = c.at-found.result.now.place; size = c.args.sized.size; user_state = None }) c.in-Some.ensures.0 c.at-found.result.now (search rules) (search rules, c.may_stand.ensures.within (search rules))

pub place_window-requires-clause-way : goal.place_window-requires-clause-way
place_window-requires-clause-way g c =
    placing.stays_there _ c.args.self.now c.requires c.in-Some.at (record { place = c.at-found.result.now.place; size = c.args.sized.size; user_state = None }) c.in-Some.ensures.0 c.at-found.result.now (search rules) refl

pub returns-clause-step : goal.returns-clause-step
returns-clause-step g c slots whole =
    placing.size_step _ c.args.self.now c.place_window.new.self slots whole c.in-Some.at c.args.sized.window c.at-found.result.now c.in-Some.ensures.0 (search rules) (c.in-Some.ensures.1 c.at-found.result.now (search rules)) c.args.sized refl
    _ _ refl (search rules) c.place_window.ensures.step

pub returns-clause-sparing : goal.returns-clause-sparing
returns-clause-sparing g c =
    let found = c.at-found.result.now in
    subst (λ s. Spares _ s None c.args.self.now c.place_window.new.self) (c.in-Some.ensures.1 found (search rules)) (c.place_window.ensures.sparing found (search rules))
