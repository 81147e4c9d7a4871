-- Which item the mouse and the keys find, of items as they stand in their window in the order of their numbers.
use Rattle.std.specs.Prelude.{ℕ, suc, ◌+◌, ◌-◌, Bool, not, ◌&&◌, if◌then◌else◌, List, [], ◌∷◌, Option, None, Some, take, drop}
use Rattle.std.specs.Option.{option_map, option_map_or, option_or}
use Rattle.std.specs.List.{list_any, position}
use Rattle.tb_geom.specs.declared.point.Point.{Point}
use Rattle.tb_geom.specs.Rects.{rect_holds}
use Rattle.dialog_items.specs.declared.look.ItemLook.{ItemLook}
use Rattle.dialog_items.specs.Kinds.{is_button_kind, is_default_kind, is_edit_kind}

-- the number of an item by its index, and 0 of none
abbrev pub number_of : Option ℕ → ℕ
number_of at = option_map_or (λ i. i + 1) at 0

-- it is shown, and its rectangle holds the point
abbrev pub has_point : Point → ItemLook → Bool
has_point p l = l.shown && rect_holds l.rect p

-- the item at a point: the first that is shown and whose rectangle holds the point
abbrev pub item_at : List ItemLook → Point → ℕ
item_at looks p = number_of (position (has_point p) looks)

-- it is shown, enabled and not inactive
abbrev pub answers : ItemLook → Bool
answers l = l.shown && (l.enabled && not l.inactive)

abbrev pub is_default_look : ItemLook → Bool
is_default_look l = is_default_kind l.kind

-- a default button of which these hold
abbrev pub is_pressed_default : ItemLook → Bool
is_pressed_default l = is_default_look l && answers l

-- a simple button of which these hold
abbrev pub is_pressed : ItemLook → Bool
is_pressed l = is_button_kind l.kind && answers l

-- item 1, if it is such a button
abbrev pub first_button : List ItemLook → ℕ
first_button [] = 0
first_button (l ∷ ls) = if is_pressed l then 1 else 0

-- the item of Return and Enter: the first default button of which these hold; without any default button item 1, if it is a simple
-- button of which they hold
abbrev pub return_item : List ItemLook → ℕ
return_item looks =
    if list_any is_default_look looks then number_of (position is_pressed_default looks) else first_button looks

abbrev pub is_shown_edit : ItemLook → Bool
is_shown_edit l = is_edit_kind l.kind && l.shown

-- the index of the last shown edit item
abbrev pub last_index : List ItemLook → Option ℕ
last_index [] = None
last_index (l ∷ ls) = option_or (option_map (λ at. suc at) (last_index ls)) (if is_shown_edit l then Some 0 else None)

-- the index of the first one from an index on
abbrev pub shown_edit_from : List ItemLook → ℕ → Option ℕ
shown_edit_from looks start = option_map (λ at. start + at) (position is_shown_edit (drop start looks))

-- the shown edit item after the edited one, and past the last from the first again
abbrev pub tab_after : List ItemLook → ℕ → ℕ
tab_after looks edited = number_of (option_or (shown_edit_from looks edited) (position is_shown_edit looks))

-- the one before it, and before the first from the last
abbrev pub tab_before : List ItemLook → ℕ → ℕ
tab_before looks edited = number_of (option_or (last_index (take (edited - 1) looks)) (last_index looks))

-- the item of Tab, and with Shift
abbrev pub tab_item : List ItemLook → ℕ → Bool → ℕ
tab_item looks edited shift = if shift then tab_before looks edited else tab_after looks edited
