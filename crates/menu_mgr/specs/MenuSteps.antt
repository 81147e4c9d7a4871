-- One step of a call about menus: what it leaves, and what it answers.
use Rattle.std.specs.Prelude.{◌≡◌, ℕ, pos, Bool, true, false, if◌then◌else◌, ◌==◌, List, [], ◌∷◌, ◌++◌, Option, None, Some, Result, slice_get, is_none}
use Rattle.std.specs.List.{remove}
use Rattle.std.specs.Option.{option_map}
use Rattle.tb_geom.specs.declared.point.Point.{Point}
use Rattle.tb_geom.specs.declared.refusal.Refusal.{Refusal}
use Rattle.tb_geom.specs.Refusals.{first_refusal}
use Rattle.def_iface.specs.declared.window_def.Stage.TheVariants.{Live}
use Rattle.def_iface.specs.MenuMeaning.{MenuDefinition, MenuLoan, MenuHears, IsMenuBegun, SameMeasures, SameMenuLook, told_item}
use Rattle.def_iface.specs.Closing as closing
use Rattle.def_iface.specs.Slots.{IsTaken}
use Rattle.menu_record.specs.Edits.{new_menu}
use Rattle.menu_list.specs.Lists.{edit_at, menu_index, titles_of, without_highlight}
use Rattle.desk_call.specs.declared.activity.Activity.{Activity}
use Rattle.desk_call.specs.declared.activity.Activity.TheVariants.{Idle, Pulling}
use Rattle.desk_call.specs.declared.activity.PulledMenu.{PulledMenu}
use Rattle.desk_call.specs.declared.menu.Choice.{Choice}
use Rattle.desk_call.specs.declared.menu.NewMenu.{NewMenu}
use Rattle.desk_call.specs.declared.menu.MenuCall.{MenuCall}
use Rattle.desk_call.specs.declared.menu.MenuCall.TheVariants.{New, Dispose, Down, Move, Up}
use Rattle.desk_call.specs.declared.menu.MenuReply.{MenuReply}
use Rattle.desk_call.specs.declared.menu.MenuReply.TheVariants as reply
use Rattle.desk_call.specs.Steps.{IsStepOf}
use Rattle.window_mgr.specs.BarShown.{IsBarShown}
use Rattle.window_mgr.specs.DeskStates.{SameActivity}
use Rattle.menu_mgr.specs.MenuDesks.{MenuDesk, MenuRecord, MenuSlot, IsMenuDeskUnchanged}
use Rattle.menu_list.specs.MenuEdits.{answer_to, highlight_after, menus_after}
use Rattle.menu_list.specs.EditRefusals.{may_menu_grow}
use Rattle.menu_mgr.specs.MenuRefusals.{menu_kind, menu_refusals}
use Rattle.menu_mgr.specs.Pulling.{TitleOf, item_under, pulled_below, title_of_point}

-- ---- what is common to several calls

-- the menus are so now, the title of this one is highlighted, and the menu bar shows that; no other pixel of the base image
-- changed, and what is to be redrawn is as it was
pub record AreMenusShown (ls : List MenuRecord) (highlighted : Option ℕ) (slots : List MenuSlot) (before after : MenuDesk) : Type 0 where
  pub menus : after.menus ≡ record { menus = ls; highlighted = highlighted; stock = slots }
  pub bar : IsBarShown (titles_of highlighted ls) before.desk.windows after.desk.windows

-- ---- menus that are made and ended

-- the record that a new menu gets
abbrev pub new_record : NewMenu → ℕ → MenuDefinition → MenuRecord
new_record n slot definition = record {
  menu = new_menu n.menu n.title;
  inserted = false;
  definition = record { definition = definition; slot = slot };
}

-- a menu was made, with a definition that was taken out of the stock and begun
pub record IsMenuMade (n : NewMenu) (before after : MenuDesk) : Type 0 where
  pub loan : MenuLoan
  pub begun : MenuDefinition
  pub taken : IsTaken (λ d. d.stage) menu_kind loan before.menus.stock after.menus.stock
  pub live : IsMenuBegun loan.definition begun
  pub activity : SameActivity before.desk after.desk
  pub shown : AreMenusShown (before.menus.menus ++ new_record n loan.slot begun ∷ []) before.menus.highlighted after.menus.stock before after

-- the definition was closed and put into its slot, which was empty, and every other slot is as it was
abbrev pub IsMenuShut : MenuLoan → List MenuSlot → List MenuSlot → Type 0
IsMenuShut = closing.IsShut (λ (d : MenuDefinition). d.stage) SameMenuLook

-- the menu at an index is there no more, and its definition went back Closed into its slot
pub record IsMenuDisposed (at : ℕ) (before after : MenuDesk) : Type 0 where
  pub listed : MenuRecord
  pub found : slice_get before.menus.menus at ≡ Some listed
  pub shut : IsMenuShut listed.definition before.menus.stock after.menus.stock
  pub activity : SameActivity before.desk after.desk
  pub shown : AreMenusShown (remove before.menus.menus at) (without_highlight listed.menu.id before.menus.highlighted) after.menus.stock before after

-- the menu of a number is there no more
abbrev pub IsDisposedAt : Option ℕ → MenuDesk → MenuDesk → Type 0
IsDisposedAt None before after = ⊥
IsDisposedAt (Some at) before after = IsMenuDisposed at before after

-- ---- menus that are pulled down

-- the record with this definition, in its slot
abbrev pub with_definition : MenuDefinition → MenuRecord → MenuRecord
with_definition d l = record l { definition = record l.definition { definition = d } }

-- a live definition was told which item is highlighted
pub record IsItemTold (item : Option ℕ) (old new : MenuDefinition) : Type 0 where
  pub live : new.stage ≡ Live
  pub measures : SameMeasures old new
  pub heard : MenuHears (told_item item) old new

-- the definition of the menu at an index was told which item is highlighted, if there is one
abbrev pub IsToldAt : Option ℕ → Option ℕ → List MenuRecord → List MenuRecord → Type 0
IsToldAt None item before after = after ≡ before
IsToldAt (Some at) item before after =
    (l : MenuRecord) × (slice_get before at ≡ Some l)
    × ((d : MenuDefinition) × IsItemTold item l.definition.definition d × (after ≡ edit_at (with_definition d) at before))

-- that of the pulled menu was
abbrev pub IsTold : PulledMenu → Option ℕ → List MenuRecord → List MenuRecord → Type 0
IsTold m item before after = IsToldAt (menu_index (pos m.menu) before) item before after

-- the menu of this title is pulled down, and no item of it is highlighted; the title alone is
pub record IsPulledDown (t : TitleOf) (menus : List MenuRecord) (before after : MenuDesk) : Type 0 where
  pub activity : after.desk.activity ≡ Pulling (pulled_below before.desk.windows.desk t)
  pub begun : after.desk.begun ≡ before.desk.begun
  pub shown : AreMenusShown menus (Some t.hit.menu) before.menus.stock before after

-- the mouse button was pressed on this title, or on none
abbrev pub IsPressedOn : Option TitleOf → Option ℕ → MenuDesk → MenuDesk → Type 0
IsPressedOn None answer before after = (answer ≡ None) × IsMenuDeskUnchanged before after
IsPressedOn (Some t) answer before after = (answer ≡ Some t.hit.menu) × IsPulledDown t before.menus.menus before after

-- this item of the pulled menu is highlighted, if one is, and no other
pub record IsItemShown (m : PulledMenu) (item : Option ℕ) (ls : List MenuRecord) (before after : MenuDesk) : Type 0 where
  pub activity : after.desk.activity ≡ Pulling (record m { item = item })
  pub windows : after.desk.windows ≡ before.desk.windows
  pub begun : after.desk.begun ≡ before.desk.begun
  pub menus : after.menus ≡ record before.menus { menus = ls }

-- the mouse went on to the title of another menu, which is pulled down then, or to an item of this one, or to none
abbrev pub IsMovedOn : PulledMenu → Option TitleOf → Point → Option ℕ → MenuDesk → MenuDesk → Type 0
IsMovedOn m (Some t) p answer before after =
    (answer ≡ None) × ((menus : List MenuRecord) × IsTold m None before.menus.menus menus × IsPulledDown t menus before after)
IsMovedOn m None p answer before after =
    (answer ≡ item_under before.desk.windows.desk m before.menus.menus p)
    × ((menus : List MenuRecord) × IsTold m answer before.menus.menus menus × IsItemShown m answer menus before after)

-- a title of another menu than this one
abbrev pub other_title : PulledMenu → Option TitleOf → Option TitleOf
other_title m None = None
other_title m (Some t) = if t.hit.menu == m.menu then None else Some t

-- what is chosen where an item of the pulled menu is
abbrev pub choice_of : PulledMenu → Option ℕ → Option Choice
choice_of m item = option_map (λ i. record { menu = m.menu; item = i }) item

-- the pulled menu is put away; where an item is chosen its title stays highlighted, and else none is
pub record IsPutAway (m : PulledMenu) (choice : Option Choice) (before after : MenuDesk) : Type 0 where
  pub told : List MenuRecord
  pub definition : IsTold m None before.menus.menus told
  pub activity : after.desk.activity ≡ Idle
  pub begun : after.desk.begun ≡ before.desk.begun
  pub shown : AreMenusShown told (if is_none choice then None else before.menus.highlighted) before.menus.stock before after

-- the mouse, while a menu is pulled down
abbrev pub IsMoved : Activity → Point → Option ℕ → MenuDesk → MenuDesk → Type 0
IsMoved (Pulling m) p answer before after = IsMovedOn m (other_title m (title_of_point before p)) p answer before after
IsMoved _ p answer before after = ⊥

abbrev pub IsMenuReleased : Activity → Point → Option Choice → MenuDesk → MenuDesk → Type 0
IsMenuReleased (Pulling m) p answer before after =
    (answer ≡ choice_of m (item_under before.desk.windows.desk m before.menus.menus p)) × IsPutAway m answer before after
IsMenuReleased _ p answer before after = ⊥

-- ---- the step

-- the call changes menus as data
abbrev pub is_edit : MenuCall → Bool
is_edit (New n) = false
is_edit (Dispose id) = false
is_edit (Down p) = false
is_edit (Move p) = false
is_edit (Up p) = false
is_edit _ = true

-- menus were changed as data
pub record AreEdited (call : MenuCall) (answer : MenuReply) (before after : MenuDesk) : Type 0 where
  pub answered : answer ≡ answer_to call before.menus.menus
  pub activity : SameActivity before.desk after.desk
  pub shown : AreMenusShown (menus_after call before.menus.menus)
      (highlight_after call before.menus.menus before.menus.highlighted) before.menus.stock before after

-- what a call that nothing refuses answers and leaves
abbrev pub IsMenuEffect : MenuCall → MenuReply → MenuDesk → MenuDesk → Type 0
IsMenuEffect (New n) answer before after = (answer ≡ reply.Done) × IsMenuMade n before after
IsMenuEffect (Dispose id) answer before after = (answer ≡ reply.Done) × IsDisposedAt (menu_index id before.menus.menus) before after
IsMenuEffect (Down p) answer before after =
    (menu : Option ℕ) × (answer ≡ reply.Pulled menu) × IsPressedOn (title_of_point before p) menu before after
IsMenuEffect (Move p) answer before after =
    (item : Option ℕ) × (answer ≡ reply.Item item) × IsMoved before.desk.activity p item before after
IsMenuEffect (Up p) answer before after =
    (choice : Option Choice) × (answer ≡ reply.Chosen choice) × IsMenuReleased before.desk.activity p choice before after
IsMenuEffect call answer before after = AreEdited call answer before after

-- one step of a call about menus
abbrev pub IsMenuStep : MenuCall → Result MenuReply Refusal → MenuDesk → MenuDesk → Type 0
IsMenuStep call = IsStepOf (λ before why. first_refusal (menu_refusals call before.menus) ≡ why) (may_menu_grow call)
    (IsMenuEffect call) IsMenuDeskUnchanged
