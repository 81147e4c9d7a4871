-- FindWindow answers for the owner of the pixel, with the pulled menu in front.
use Rattle.std.proofs.Common.{◌≡◌, inl, inr, Bool, true, false, not, if◌then◌else◌, List, [], ◌∷◌, None, Some, Result, Ok, Err, refl, sym, ap, ◌∙◌, subst}
use Rattle.std.proofs.lemmas.Bool.{and_parts, false≢true}
use Rattle.tb_geom.specs.declared.point.Point.{Point}
use Rattle.tb_geom.specs.declared.refusal.Refusal.{Refusal}
use Rattle.tb_geom.specs.declared.refusal.Refusal.TheVariants.{OutOfRange}
use Rattle.tb_geom.specs.Rects.{in_plane}
use Rattle.tb_geom.specs.Refusals.{first_refusal}
use Rattle.desk_layers.specs.Desk.{LayeredDesk, on_screen}
use Rattle.desk_layers.specs.Owner.{owner}
use Rattle.desk_call.specs.declared.call.Call.TheVariants.{Window}
use Rattle.desk_call.specs.declared.call.Reply.{Reply}
use Rattle.desk_call.specs.declared.call.Reply.TheVariants as reply
use Rattle.desk_call.specs.declared.window.WindowCall.TheVariants.{Find}
use Rattle.desk_call.specs.declared.window.WindowPart.TheVariants.{InDesk, InMenuBar}
use Rattle.desk_call.specs.declared.window.WindowReply.{WindowReply}
use Rattle.desk_call.specs.declared.window.WindowReply.TheVariants.{Found}
use Rattle.vis_update.specs.Records.{WindowRecord}
use Rattle.window_mgr.specs.Finding.{found_at, found_by, found_none}
use Rattle.window_mgr.specs.FullDesk.{layered_desk}
use Rattle.menu_mgr.specs.Pulling.{is_in}
use Rattle.desk_toolbox.specs.Fronts.{is_on_menu, pulled, screen_owner, window_by_owner, window_on_screen}
use Rattle.desk_toolbox.specs.ToolboxStates.{ToolboxState}
use Rattle.desk_toolbox.specs.Run.{IsAdmitted, IsGated, IsStep, IsWindowTold, replied}
use Rattle.desk_laws.proofs.FrontLaws.{asks_may_come, base_is_elsewhere, menu_is_in_front}

module _ (before : ToolboxState) (p : Point) where
  abbrev desk : LayeredDesk
  desk = layered_desk before.desk.windows.desk

  abbrev ws : List WindowRecord
  ws = before.desk.windows.desk.windows

  off_the_menu : is_on_menu before p ≡ false → found_at before.desk.windows.desk p ≡ window_on_screen before p
  off_the_menu away = by_test (on_screen desk p) refl
    where
      by_test : (on : Bool) → on_screen desk p ≡ on
          → (if on then found_by ws (owner desk p) p else found_none InDesk)
          ≡ (if on then window_by_owner (screen_owner before p) ws p else found_none InDesk)
      by_test true on = sym (ap (λ o. window_by_owner o ws p) (base_is_elsewhere before p on away).0)
      by_test false on = refl

  on_the_menu : is_on_menu before p ≡ true → found_none InMenuBar ≡ window_on_screen before p
  on_the_menu on =
      let on_it = (and_parts (on_screen desk p) (is_in (pulled before) p) on).0 in
      sym (λ i. if on_it i then window_by_owner ((menu_is_in_front before p on).0 i) ws p else found_none InDesk)

  module _ (answer : Result Reply Refusal) (after : ToolboxState) (inside : in_plane p ≡ true) where
    told_so : (covered : Bool) (own : Result WindowReply Refusal) → is_on_menu before p ≡ covered
        → IsWindowTold covered (Find p) own before after → own ≡ Ok (Found (window_on_screen before p))
    told_so true own on (is, same) = is ∙ ap (λ f. Ok (Found f)) (on_the_menu on)
    told_so false (Ok told) away made = let (activity, (free, (is, same))) = made.answered in ap Ok (is ∙ ap Found (off_the_menu away))
    told_so false (Err e) away ((activity, (inl why, same)), rest) = absurd (some_is_none (sym why ∙ (λ i. first_refusal ((not (inside i), OutOfRange) ∷ []))))
      where
        some_is_none : Some e ≡ None → ⊥
        some_is_none is = absurd (cc)
    told_so false (Err e) away ((activity, (inr (free, (grows, is)), same)), rest) = absurd (false≢true grows)

    admitted_so : IsAdmitted (Window (Find p)) answer before after → answer ≡ Ok (reply.Window (Found (window_on_screen before p)))
    admitted_so (own, is, step) = is ∙ ap (replied reply.Window) (told_so (is_on_menu before p) own refl step)

pub window_is_found_by_owner : (p : Point) (answer : Result Reply Refusal) (before after : ToolboxState) → in_plane p ≡ true
    → IsStep (Window (Find p)) answer before after → answer ≡ Ok (reply.Window (Found (window_on_screen before p)))
window_is_found_by_owner p answer before after inside step =
    admitted_so before p answer after inside (subst (λ stopped. IsGated stopped (Window (Find p)) answer before after) (asks_may_come before.desk.activity) step)
