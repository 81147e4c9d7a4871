-- What a call on menus leaves of the windows.
use Rattle.std.proofs.Common.{◌≡◌, ◌⊎◌, ⊎_elim, inl, Bool, true, false, not, ◌&&◌, if◌then◌else◌, List, Option, None, Some, Result, Ok, Err, refl, ◌∙◌}
use Rattle.tb_geom.specs.declared.point.Point.{Point}
use Rattle.tb_geom.specs.declared.refusal.Refusal.{Refusal}
use Rattle.desk_layers.specs.Change.{no_change, stale_by, image_by}
use Rattle.desk_layers.specs.Desk.{on_screen}
use Rattle.desk_layers.specs.Owner.{Owner, is_content, owner, same_owner}
use Rattle.desk_layers.specs.Scratch.{scratch}
use Rattle.desk_layers.proofs.Owning.{same_owner-self}
use Rattle.desk_ground.specs.declared.titles.BarTitle.{BarTitle}
use Rattle.desk_call.specs.declared.call.Call.TheVariants.{Menu}
use Rattle.desk_call.specs.declared.call.Reply.{Reply}
use Rattle.desk_call.specs.declared.menu.MenuCall.{MenuCall}
use Rattle.desk_call.specs.Gates.{gate, menu_standing}
use Rattle.window_mgr.specs.BarShown.{IsBarShown}
use Rattle.window_mgr.specs.Effects.{IsUnchanged}
use Rattle.window_mgr.specs.FullDesk.{FullState, IsRightState, layered_desk, layered_state}
use Rattle.menu_mgr.proofs.MenuKeeps.{step_leaves}
use Rattle.desk_toolbox.specs.Run.{IsGated, IsStep}
use Rattle.desk_toolbox.specs.ToolboxStates.{ToolboxState, with_menus}

-- nothing of the windows changed, or the menu bar shows other titles
leaves_by_gate : (why : Option Refusal) (call : MenuCall) (answer : Result Reply Refusal) (before after : ToolboxState) → IsGated why (Menu call) answer before after
    → IsUnchanged before.desk.windows after.desk.windows ⊎ ((titles : List BarTitle) × IsBarShown titles before.desk.windows after.desk.windows)
leaves_by_gate None call answer before after step = step_leaves call step.0 (with_menus before) (with_menus after) step.2.step
leaves_by_gate (Some e) call (Ok reply) before after wrong = absurd wrong
leaves_by_gate (Some e) call (Err f) before after stopped = inl stopped.2.1.desk.windows

-- a change that does nothing, where a pixel's owner stays
still_stale : (content had stale : Bool) → had ≡ true → (stale ≡ true → content ≡ true) → (if not content then false else (if had then stale else true)) ≡ stale
still_stale true true stale own is = refl
still_stale false true true own is = absurd (let e = is refl in cc)
still_stale false true false own is = refl
still_stale content false stale own is = absurd (cc)

still_shown : (content had : Bool) (drawn old : Bool) → content ≡ true → had ≡ true → (if not content then drawn else (if not had then false else old)) ≡ old
still_shown true true drawn old is own = refl
still_shown false had drawn old is own = absurd (cc)
still_shown true false drawn old is own = absurd (cc)

abbrev pub AreWindowsLeft : FullState → FullState → Point → Type 0
AreWindowsLeft before after p =
    (after.stale p ≡ before.stale p) × (is_content (owner (layered_desk before.desk) p) ≡ true → after.image p ≡ before.image p)

shown_leaves : (titles : List BarTitle) (before after : FullState) → IsRightState before → IsBarShown titles before after
    → (p : Point) → on_screen (layered_desk before.desk) p ≡ true → AreWindowsLeft before after p
shown_leaves titles before after right shown p on = (
  shown.pixels.stale p there ∙ (λ i. stale_by no_change (layered_state before) (same_owner_there i) p)
      ∙ still_stale (is_content o) _ (before.stale p) own (right.plain.content p on),
  λ content. shown.pixels.image p there ∙ (λ i. image_by no_change (layered_state before) (layered_desk after.desk) (same_owner_there i) p)
      ∙ still_shown (is_content o) _ (scratch (layered_desk after.desk) p) (before.image p) content own,
)
  where
    o : Owner
    o = owner (layered_desk before.desk) p

    there : on_screen (layered_desk after.desk) p ≡ true
    there = (λ i. on_screen (layered_desk (shown.desk i)) p) ∙ on

    same_owner_there : owner (layered_desk after.desk) p ≡ o
    same_owner_there = λ i. owner (layered_desk (shown.desk i)) p

    own : (on_screen (layered_desk before.desk) p && same_owner o o) ≡ true
    own = (λ i. on i && same_owner-self o i)

-- a call on menus leaves every update region, and of the base image all that windows' contents show
pub menus_leave_windows : (call : MenuCall) (answer : Result Reply Refusal) (before after : ToolboxState) → IsRightState before.desk.windows → IsStep (Menu call) answer before after
    → (p : Point) → on_screen (layered_desk before.desk.windows.desk) p ≡ true → AreWindowsLeft before.desk.windows after.desk.windows p
menus_leave_windows call answer before after right step p on = ⊎_elim
    (λ same. (same.stale p on, λ content. same.image p on))
    (λ shown. shown_leaves shown.0 before.desk.windows after.desk.windows right shown.1 p on)
    (leaves_by_gate (gate before.desk.activity (menu_standing call)) call answer before after step)
