-- FindControl answers for the owner of the pixel, with the pulled menu in front.
use Rattle.std.proofs.Common.{◌≡◌, inl, inr, Bool, true, false, not, ◌&&◌, if◌then◌else◌, List, [], ◌∷◌, Option, None, Some, Result, Ok, Err, refl, sym, ap, ◌∙◌, subst}
use Rattle.std.specs.Option.{option_map_or}
use Rattle.std.proofs.lemmas.Bool.{and_parts, false≢true}
use Rattle.tb_geom.specs.declared.point.Point.{Point}
use Rattle.tb_geom.specs.declared.refusal.Refusal.{Refusal}
use Rattle.tb_geom.specs.declared.refusal.Refusal.TheVariants.{NoSuchWindow, OutOfRange}
use Rattle.tb_geom.specs.Points.{plus}
use Rattle.tb_geom.specs.Rects.{in_plane}
use Rattle.tb_geom.specs.Refusals.{first_refusal}
use Rattle.desk_layers.specs.Desk.{LayeredDesk, on_screen}
use Rattle.desk_layers.specs.Owner.{owner}
use Rattle.desk_call.specs.declared.call.Call.TheVariants.{Control}
use Rattle.desk_call.specs.declared.call.Reply.{Reply}
use Rattle.desk_call.specs.declared.call.Reply.TheVariants as reply
use Rattle.desk_call.specs.declared.control.ControlCall.TheVariants as controls
use Rattle.desk_call.specs.declared.control.ControlReply.{ControlReply}
use Rattle.desk_call.specs.declared.control.ControlReply.TheVariants as control_reply
use Rattle.desk_call.specs.declared.control.FoundControl.{FoundControl}
use Rattle.desk_call.specs.declared.control.PointInWindow.{PointInWindow}
use Rattle.vis_update.specs.Records.{WindowRecord}
use Rattle.window_mgr.specs.Finding.{record_with}
use Rattle.window_mgr.specs.FullDesk.{layered_desk}
use Rattle.window_mgr.specs.Refused.{is_missing}
use Rattle.control_mgr.specs.ControlDesks.{ControlRecord}
use Rattle.control_mgr.specs.ControlSteps.{IsControlStep, control_found_by, found_from}
use Rattle.desk_toolbox.specs.Fronts.{found_by_owner, found_on_screen, is_on_menu, screen_owner}
use Rattle.desk_toolbox.specs.ToolboxStates.{ToolboxState, IsToolboxUnchanged, with_controls}
use Rattle.desk_toolbox.specs.Run.{IsAdmitted, IsControlAnswer, IsControlTold, IsGated, IsStep, is_under_menu, replied}
use Rattle.desk_laws.proofs.FrontLaws.{asks_may_come, base_is_elsewhere, menu_is_in_front}

-- neither of two reasons to refuse holds
no_reason : (a b : Bool) (d e : Refusal) → a ≡ false → b ≡ true → first_refusal ((a, d) ∷ (not b, e) ∷ []) ≡ None
no_reason a b d e present good = λ i. first_refusal ((present i, d) ∷ (not (good i), e) ∷ [])

module _ (before : ToolboxState) (asked : PointInWindow) where
  abbrev desk : LayeredDesk
  desk = layered_desk before.desk.windows.desk

  abbrev cs : List ControlRecord
  cs = before.controls.controls

  -- the pixel of the screen at the point of a window
  abbrev pixel : WindowRecord → Point
  pixel w = plus w.place asked.point

  -- what is found there by the owner
  abbrev by_owner : WindowRecord → Option FoundControl
  by_owner w = if on_screen desk (pixel w) then found_by_owner (screen_owner before (pixel w)) asked.window cs asked.point else None

  not_under : (w : WindowRecord) → is_on_menu before (pixel w) ≡ false
      → found_from before.desk.windows.desk cs asked.window w.place asked.point ≡ by_owner w
  not_under w away = by_test (on_screen desk (pixel w)) refl
    where
      by_test : (on : Bool) → on_screen desk (pixel w) ≡ on
          → (if on then control_found_by asked.window cs (owner desk (pixel w)) asked.point else None)
          ≡ (if on then found_by_owner (screen_owner before (pixel w)) asked.window cs asked.point else None)
      by_test true on = sym (ap (λ o. found_by_owner o asked.window cs asked.point) (base_is_elsewhere before (pixel w) on away).0)
      by_test false on = refl

  under : (w : WindowRecord) → is_on_menu before (pixel w) ≡ true → None ≡ by_owner w
  under w on_menu = by_test (on_screen desk (pixel w))
    where
      by_test : (on : Bool) → None ≡ (if on then found_by_owner (screen_owner before (pixel w)) asked.window cs asked.point else None)
      by_test true = sym (ap (λ o. found_by_owner o asked.window cs asked.point) (menu_is_in_front before (pixel w) on_menu).0)
      by_test false = refl

  found_so : (w : Option WindowRecord) → in_plane asked.point ≡ true
      → (in_plane asked.point && option_map_or (λ w. is_on_menu before (pixel w)) w false) ≡ false
      → option_map_or (λ w. found_from before.desk.windows.desk cs asked.window w.place asked.point) w None ≡ option_map_or by_owner w None
  found_so None inside away = refl
  found_so (Some w) inside away = not_under w (sym (λ i. inside i && is_on_menu before (pixel w)) ∙ away)

  none_so : (w : Option WindowRecord)
      → (in_plane asked.point && option_map_or (λ w. is_on_menu before (pixel w)) w false) ≡ true → None ≡ option_map_or by_owner w None
  none_so None on = refl
  none_so (Some w) on = under w (and_parts (in_plane asked.point) (is_on_menu before (pixel w)) on).1

  -- the window is there, and the point in the range of coordinates
  module _ (answer : Result Reply Refusal) (after : ToolboxState) (present : is_missing asked.window before.desk.windows.desk.windows ≡ false) (inside : in_plane asked.point ≡ true) where
    unrefused : (e : Option Refusal) → first_refusal ((is_missing asked.window before.desk.windows.desk.windows, NoSuchWindow) ∷ (not (in_plane asked.point), OutOfRange) ∷ []) ≡ e → e ≡ None
    unrefused e is = sym is ∙ no_reason (is_missing asked.window before.desk.windows.desk.windows) (in_plane asked.point) NoSuchWindow OutOfRange present inside

    answered_so : (own : Result ControlReply Refusal) → is_under_menu before asked ≡ false
        → IsControlStep (controls.Find asked) own (with_controls before) (with_controls after) → IsControlAnswer (controls.Find asked) own before after
        → (own ≡ Ok (control_reply.Found (found_on_screen before asked))) × IsToolboxUnchanged before after
    answered_so (Ok own) away (may, (is, same)) told = (
      ap Ok (is ∙ ap control_reply.Found (found_so (record_with asked.window before.desk.windows.desk.windows) inside away)),
      record { desk = same.desk; controls = same.controls; lists = told.lists; texts = told.texts; menus = told.menus; events = told.events },
    )
    answered_so (Err e) away (inl why, same) told = absurd (some_is_none (unrefused (Some e) why))
      where
        some_is_none : Some e ≡ None → ⊥
        some_is_none is = absurd (cc)
    answered_so (Err e) away (inr (why, (grows, is)), same) told = absurd (false≢true grows)

    told_so : (covered : Bool) (own : Result ControlReply Refusal) → is_under_menu before asked ≡ covered
        → IsControlTold covered (controls.Find asked) own before after
        → (own ≡ Ok (control_reply.Found (found_on_screen before asked))) × IsToolboxUnchanged before after
    told_so true own on (is, same) = (is ∙ ap (λ f. Ok (control_reply.Found f)) (none_so (record_with asked.window before.desk.windows.desk.windows) on), same)
    told_so false own away told = answered_so own away told.step told

    admitted_so : IsAdmitted (Control (controls.Find asked)) answer before after
        → (answer ≡ Ok (reply.Control (control_reply.Found (found_on_screen before asked)))) × IsToolboxUnchanged before after
    admitted_so (own, is, step) =
        let told = told_so (is_under_menu before asked) own refl step in
        (is ∙ ap (replied reply.Control) told.0, told.1)

    found_by_step : IsStep (Control (controls.Find asked)) answer before after
        → (answer ≡ Ok (reply.Control (control_reply.Found (found_on_screen before asked)))) × IsToolboxUnchanged before after
    found_by_step step =
        admitted_so (subst (λ stopped. IsGated stopped (Control (controls.Find asked)) answer before after) (asks_may_come before.desk.activity) step)

pub control_is_found_by_owner : (asked : PointInWindow) (answer : Result Reply Refusal) (before after : ToolboxState)
    → is_missing asked.window before.desk.windows.desk.windows ≡ false → in_plane asked.point ≡ true
    → IsStep (Control (controls.Find asked)) answer before after
    → (answer ≡ Ok (reply.Control (control_reply.Found (found_on_screen before asked)))) × IsToolboxUnchanged before after
control_is_found_by_owner asked answer before after present inside = found_by_step before asked answer after present inside
