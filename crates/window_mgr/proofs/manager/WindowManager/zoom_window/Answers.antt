use Rattle.std.proofs.Common.{refl, rules, inl, false}
use Rattle.desk_call.specs.declared.window.WindowCall.TheVariants.{Zoom}
use Rattle.window_mgr.proofs.EditSeats.{there_is}
use Rattle.window_mgr.proofs.PaintLemmas.{settled_in}
use Rattle.window_mgr.proofs.SameDeskLemmas.{is_refused}
use Rattle.window_mgr.proofs.PlacementCalls as placing
use Rattle.window_mgr.proofs.manager.WindowManager.zoom_window.Goals as goal

pub returns-in_default-direction-clause-step : goal.returns-in_default-direction-clause-step
returns-in_default-direction-clause-step g c =
    let found = there_is c.args.self.now.windows.records.items c.in-Some.at c.in-Some.ensures.0 in
    is_refused _ c.args.self.now (Zoom c.args.zoom) _ (λ slots whole.
    inl (placing.no_zoom _ c.args.self.now c.args.self.now slots whole c.in-Some.at c.args.zoom.window found.0 c.in-Some.ensures.0 found.1 (c.in-Some.ensures.1 found.0 found.1) c.args.zoom refl (search rules)))

pub returns-in_default-zoom_target-clause-step : goal.returns-in_default-zoom_target-clause-step
returns-in_default-zoom_target-clause-step g c slots whole =
    (whole, placing.stays_zoomed _ c.args.self.now c.args.self.now slots whole c.in-Some.at c.args.zoom.window c.at-found.result.now c.in-Some.ensures.0 (search rules) (c.in-Some.ensures.1 c.at-found.result.now (search rules)) c.args.zoom refl c.in-Some-direction.direction (search rules) (search rules))

pub returns-then-not-may_stand-clause-step : goal.returns-then-not-may_stand-clause-step
returns-then-not-may_stand-clause-step g c =
    is_refused _ c.args.self.now (Zoom c.args.zoom) _ (λ slots whole.
    inl (placing.may_zoom _ c.args.self.now c.args.self.now slots whole c.in-Some.at c.args.zoom.window c.at-found.result.now c.in-Some.ensures.0 (search rules) (c.in-Some.ensures.1 c.at-found.result.now (search rules)) c.args.zoom refl c.in-Some-direction.direction (search rules) c.in-Some-zoom_target.placement (search rules) false (search rules)))

pub local-by-requires-clause-point : goal.local-by-requires-clause-point
local-by-requires-clause-point g c =
    placing.arrives _ c.args.self.now c.requires c.in-Some.at c.in-Some-zoom_target.placement c.in-Some.ensures.0 c.at-found.result.now (search rules) (search rules)

pub local-by-requires-clause-place : goal.local-by-requires-clause-place
local-by-requires-clause-place g c = (settled_in _ c.args.self.now.windows.records.items c.in-Some.at c.at-found.result.now c.in-Some.ensures.0 (search rules) c.requires.whole.sound.settled).placed

pub place_window-requires-clause-placeable : goal.place_window-requires-clause-placeable
place_window-requires-clause-placeable g c =
    placing.is_placeable_at _ c.args.self.now c.requires c.in-Some.at c.in-Some-zoom_target.placement c.in-Some.ensures.0 c.at-found.result.now (search rules) (search rules, c.may_stand.ensures.within (search rules))

pub place_window-requires-clause-way : goal.place_window-requires-clause-way
place_window-requires-clause-way g c =
    placing.goes_there _ c.args.self.now c.requires c.in-Some.at c.in-Some-zoom_target.placement c.in-Some.ensures.0 c.at-found.result.now (search rules) c.local-by.result c.local-by.ensures

pub returns-clause-step : goal.returns-clause-step
returns-clause-step g c slots whole =
    placing.zoom_step _ c.args.self.now c.place_window.new.self slots whole c.in-Some.at c.args.zoom.window c.at-found.result.now c.in-Some.ensures.0 (search rules) (c.in-Some.ensures.1 c.at-found.result.now (search rules)) c.args.zoom refl c.in-Some-direction.direction (search rules) c.in-Some-zoom_target.placement (search rules)
    _ _ c.local-by.ensures (search rules) c.place_window.ensures.step
