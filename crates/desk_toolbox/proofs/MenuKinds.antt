-- The slots of the stock of menus stay, for the same kinds, whatever a call does.
use Rattle.std.proofs.Common.{◌≡◌, ℕ, true, false, List, map, Option, None, Some, Result, Ok, Err, refl, ap, ◌∙◌}
use Rattle.std.specs.Prelude.{IfSome, is_none, slice_get, slice_set}
use Rattle.std.specs.Option.{option_map_or}
use Rattle.tb_geom.specs.declared.point.Point.{Point}
use Rattle.tb_geom.specs.declared.refusal.Refusal.{Refusal}
use Rattle.def_iface.specs.MenuMeaning.{MenuDefinition, MenuLoan}
use Rattle.def_iface.specs.Slots.{IsTaken, holding}
use Rattle.desk_call.specs.declared.activity.Activity.{Activity}
use Rattle.desk_call.specs.declared.activity.Activity.TheVariants.{Idle, Updating, Tracking, Pulling, TrackingControl, Dragging, Growing, Selecting}
use Rattle.desk_call.specs.declared.activity.PulledMenu.{PulledMenu}
use Rattle.desk_call.specs.declared.call.Call.{Call}
use Rattle.desk_call.specs.declared.call.Reply.{Reply}
use Rattle.desk_call.specs.declared.menu.Choice.{Choice}
use Rattle.desk_call.specs.declared.menu.MenuCall.{MenuCall}
use Rattle.desk_call.specs.declared.menu.MenuCall.TheVariants.{New, Dispose, Down, Move, Up}
use Rattle.desk_call.specs.declared.menu.MenuReply.{MenuReply}
use Rattle.desk_call.specs.declared.window.WindowCall.{WindowCall}
use Rattle.desk_call.specs.declared.window.WindowReply.{WindowReply}
use Rattle.menu_list.specs.Lists.{menu_index}
use Rattle.window_mgr.proofs.SlotLemmas.{map-set}
use Rattle.menu_mgr.specs.MenuDesks.{MenuDesk, MenuRecord, MenuSlot, MenusState}
use Rattle.menu_mgr.specs.MenuRefusals.{menu_kind}
use Rattle.menu_mgr.specs.MenuSteps.{AreMenusShown, IsDisposedAt, IsMenuEffect, IsMenuShut, IsMenuStep, IsMoved, IsMovedOn, IsPressedOn, IsMenuReleased, other_title}
use Rattle.menu_mgr.specs.Pulling.{TitleOf, title_of_point}
use Rattle.desk_toolbox.specs.Run.{IsStep, IsWindowMade}
use Rattle.desk_toolbox.specs.ToolboxStates.{ToolboxState, with_menus}
use Rattle.desk_toolbox.proofs.EachManager.{HoldsOfEach, of_step}
use Rattle.desk_call.specs.declared.window.WindowCall.TheVariants as window_calls
use Rattle.desk_call.specs.declared.window.WindowReply.TheVariants as window_reply
use Rattle.desk_toolbox.specs.Run.{put_down}

-- the kinds of the slots
abbrev pub menu_kinds : List MenuSlot → List (List ℕ)
menu_kinds kept = map (λ s. s.kind) kept

kinds_when_taken : (loan : MenuLoan) (old left : List MenuSlot) → IsTaken (λ (d : MenuDefinition). d.stage) menu_kind loan old left → menu_kinds left ≡ menu_kinds old
kinds_when_taken loan old left took = ap menu_kinds took.left ∙ map-set (λ (s : MenuSlot). s.kind) old loan.slot _ _ took.held refl

kinds_when_shut : (loan : MenuLoan) (old new : List MenuSlot) → IsMenuShut loan old new → menu_kinds new ≡ menu_kinds old
kinds_when_shut loan old new shut = by_get (slice_get old loan.slot) refl shut.left shut.back
  where
    by_get : (o : Option MenuSlot) → slice_get old loan.slot ≡ o → option_map_or (λ (s : MenuSlot). is_none s.held) o false ≡ true
        → IfSome o (λ (s : MenuSlot). new ≡ slice_set old loan.slot (holding (Some shut.definition) s)) → menu_kinds new ≡ menu_kinds old
    by_get None at none back = absurd (cc)
    by_get (Some s) at here back = ap menu_kinds back ∙ map-set (λ (s : MenuSlot). s.kind) old loan.slot s _ at refl

-- a call about menus leaves them as they are
abbrev KeepsKinds : MenuDesk → MenuDesk → Type 0
KeepsKinds before after = menu_kinds after.menus.stock ≡ menu_kinds before.menus.stock

shown_keeps : (ls : List MenuRecord) (highlighted : Option ℕ) (before after : MenuDesk) → AreMenusShown ls highlighted before.menus.stock before after → KeepsKinds before after
shown_keeps ls highlighted before after shown = ap (λ (m : MenusState). menu_kinds m.stock) shown.menus

pressed_keeps : (t : Option TitleOf) (answer : Option ℕ) (before after : MenuDesk) → IsPressedOn t answer before after → KeepsKinds before after
pressed_keeps None answer before after (is, same) = ap (λ (m : MenusState). menu_kinds m.stock) same.menus
pressed_keeps (Some t) answer before after (is, pulled) = shown_keeps _ _ before after pulled.shown

moved_on_keeps : (m : PulledMenu) (t : Option TitleOf) (p : Point) (answer : Option ℕ) (before after : MenuDesk) → IsMovedOn m t p answer before after → KeepsKinds before after
moved_on_keeps m (Some t) p answer before after (is, (menus, told, pulled)) = shown_keeps _ _ before after pulled.shown
moved_on_keeps m None p answer before after (is, (menus, told, shown)) = ap (λ (m : MenusState). menu_kinds m.stock) shown.menus

moved_keeps : (a : Activity) (p : Point) (answer : Option ℕ) (before after : MenuDesk) → IsMoved a p answer before after → KeepsKinds before after
moved_keeps (Pulling m) p answer before after moved = moved_on_keeps m (other_title m (title_of_point before p)) p answer before after moved
moved_keeps Idle p answer before after wrong = absurd wrong
moved_keeps (Updating s) p answer before after wrong = absurd wrong
moved_keeps (Tracking s) p answer before after wrong = absurd wrong
moved_keeps (TrackingControl c) p answer before after wrong = absurd wrong
moved_keeps (Dragging d) p answer before after wrong = absurd wrong
moved_keeps (Growing g) p answer before after wrong = absurd wrong
moved_keeps (Selecting k) p answer before after wrong = absurd wrong

released_keeps : (a : Activity) (p : Point) (choice : Option Choice) (before after : MenuDesk) → IsMenuReleased a p choice before after → KeepsKinds before after
released_keeps (Pulling m) p choice before after (is, away) = shown_keeps _ _ before after away.shown
released_keeps Idle p choice before after wrong = absurd wrong
released_keeps (Updating s) p choice before after wrong = absurd wrong
released_keeps (Tracking s) p choice before after wrong = absurd wrong
released_keeps (TrackingControl c) p choice before after wrong = absurd wrong
released_keeps (Dragging d) p choice before after wrong = absurd wrong
released_keeps (Growing g) p choice before after wrong = absurd wrong
released_keeps (Selecting k) p choice before after wrong = absurd wrong

disposed_keeps : (at : Option ℕ) (before after : MenuDesk) → IsDisposedAt at before after → KeepsKinds before after
disposed_keeps None before after wrong = absurd wrong
disposed_keeps (Some at) before after gone = kinds_when_shut gone.listed.definition before.menus.stock after.menus.stock gone.shut

effect_keeps : (call : MenuCall) (answer : MenuReply) (before after : MenuDesk) → IsMenuEffect call answer before after → KeepsKinds before after
effect_keeps (New n) answer before after (is, made) = kinds_when_taken made.loan before.menus.stock after.menus.stock made.taken
effect_keeps (Dispose id) answer before after (is, gone) = disposed_keeps (menu_index id before.menus.menus) before after gone
effect_keeps (Down p) answer before after (menu, is, pressed) = pressed_keeps (title_of_point before p) menu before after pressed
effect_keeps (Move p) answer before after (item, is, moved) = moved_keeps before.desk.activity p item before after moved
effect_keeps (Up p) answer before after (choice, is, released) = released_keeps before.desk.activity p choice before after released
effect_keeps _ answer before after edited = shown_keeps _ _ before after edited.shown

menu_step_keeps : (call : MenuCall) (answer : Result MenuReply Refusal) (before after : MenuDesk) → IsMenuStep call answer before after → KeepsKinds before after
menu_step_keeps call (Ok answer) before after step = effect_keeps call answer before after step.1
menu_step_keeps call (Err e) before after step = ap (λ (m : MenusState). menu_kinds m.stock) step.1.menus

-- and so does every call
abbrev KeepsMenuKinds : Call → Result Reply Refusal → ToolboxState → ToolboxState → Type 0
KeepsMenuKinds call answer before after = menu_kinds after.menus.stock ≡ menu_kinds before.menus.stock

same_menus : (before after : ToolboxState) → after.menus ≡ before.menus → menu_kinds after.menus.stock ≡ menu_kinds before.menus.stock
same_menus before after same = ap (λ (m : MenusState). menu_kinds m.stock) same

window_keeps : (call : WindowCall) (answer : Result WindowReply Refusal) (before after : ToolboxState) → IsWindowMade call answer before after → menu_kinds after.menus.stock ≡ menu_kinds before.menus.stock
window_keeps call (Ok answer) before after step = same_menus before after step.menus
window_keeps call (Err e) before after step = same_menus before after step.1.menus

each_keeps : HoldsOfEach KeepsMenuKinds
each_keeps = record {
  unchanged = λ call e before after same. same_menus before after same.menus;
  covered = λ p before after same. same_menus before after same.menus;
  hidden = λ p before after same. same_menus before after same.menus;
  window = λ call answer before after may step. window_keeps call answer before after step;
  update = λ call answer before after may step rest. same_menus before after rest.menus;
  frame = λ call answer before after may step rest. same_menus before after rest.menus;
  control = λ call answer before after may step events lists texts menus. same_menus before after menus;
  list = λ call answer before after may step events texts menus. same_menus before after menus;
  text = λ call answer before after may step events controls lists menus. same_menus before after menus;
  menu = λ call answer before after may step events controls lists texts. menu_step_keeps call answer (with_menus before) (with_menus after) step;
  outline = λ call answer before after may step rest. same_menus before after rest.menus;
  moved = λ call move before after may step. window_keeps (window_calls.Move move) (Ok window_reply.Done) (put_down before) after step;
  event = λ call answer before after step. same_menus before after step.menus;
}

pub step_keeps_menu_kinds : (call : Call) (answer : Result Reply Refusal) (before after : ToolboxState) → IsStep call answer before after → menu_kinds after.menus.stock ≡ menu_kinds before.menus.stock
step_keeps_menu_kinds = of_step KeepsMenuKinds each_keeps
