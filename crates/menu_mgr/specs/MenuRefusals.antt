-- Why a call about menus refuses: the first refusal of the written order whose condition holds.
use Rattle.std.specs.Prelude.{ℕ, Bool, not, ◌||◌, nat_le, List, [], ◌∷◌, length, is_none, codes}
use Rattle.tb_geom.specs.declared.point.Point.{Point}
use Rattle.tb_geom.specs.declared.refusal.Refusal.{Refusal}
use Rattle.tb_geom.specs.declared.refusal.Refusal.TheVariants.{NoDefinition, NoSuchMenu, NoSuchName, OutOfRange, TooLong, TooMany}
use Rattle.tb_geom.specs.Rects.{in_plane}
use Rattle.def_iface.specs.Slots.{has_kind, first_offer}
use Rattle.desk_call.specs.declared.menu.NewMenu.{NewMenu}
use Rattle.desk_call.specs.declared.menu.MenuCall.{MenuCall}
use Rattle.desk_call.specs.declared.menu.MenuCall.TheVariants.{New, Dispose, Down, Move, Up}
use Rattle.menu_record.specs.Edits.{is_menu_id}
use Rattle.menu_list.specs.EditRefusals.{edit_refusals, is_long_text, is_no_menu}
use Rattle.menu_mgr.specs.MenuDesks.{MenuSlot, MenusState}

-- the name of the kind by which the stock finds menus' definitions
abbrev pub menu_kind : List ℕ
menu_kind = codes "menu"

-- no menu definition is left in the stock
abbrev pub none_is_left : List MenuSlot → Bool
none_is_left slots = is_none (first_offer (λ d. d.stage) menu_kind slots)

-- a point is none of the range of coordinates
abbrev pub point_refusals : Point → List (Bool × Refusal)
point_refusals p = (not (in_plane p), OutOfRange) ∷ []

-- the stock has no kind of menus, which is judged whatever is open
abbrev pub menu_form_refusals : MenuCall → List MenuSlot → List (Bool × Refusal)
menu_form_refusals (New n) slots = (not (has_kind menu_kind slots), NoSuchName) ∷ []
menu_form_refusals _ slots = []

-- why a menu may not be made
abbrev pub new_refusals : NewMenu → MenusState → List (Bool × Refusal)
new_refusals n s =
    (not (has_kind menu_kind s.stock), NoSuchName)
    ∷ (not (is_menu_id n.menu) || not (is_no_menu n.menu s.menus), OutOfRange)
    ∷ (is_long_text n.title, TooLong)
    ∷ (nat_le 16 (length s.menus), TooMany)
    ∷ (none_is_left s.stock, NoDefinition) ∷ []

-- why the call may be refused
abbrev pub menu_refusals : MenuCall → MenusState → List (Bool × Refusal)
menu_refusals (New n) s = new_refusals n s
menu_refusals (Dispose id) s = (is_no_menu id s.menus, NoSuchMenu) ∷ []
menu_refusals (Down p) s = point_refusals p
menu_refusals (Move p) s = point_refusals p
menu_refusals (Up p) s = point_refusals p
menu_refusals call s = edit_refusals call s.menus
