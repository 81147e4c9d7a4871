-- The kinds of items: their types, their names, and what their layers are.
use Rattle.std.specs.Prelude.{ℕ, pos, ◌+ℤ◌, ◌-ℤ◌, Bool, true, false, List, codes, Option, None, Some}
use Rattle.std.specs.Bool.{beq}
use Rattle.std.specs.Option.{option_map_or}
use Rattle.tb_geom.specs.declared.rect.Rect.{Rect}
use Rattle.dialog_items.specs.declared.item.LayerSort.{LayerSort}
use Rattle.dialog_items.specs.declared.item.LayerSort.TheVariants.{Control, Text}
use Rattle.dialog_items.specs.declared.kind.ItemKind.{ItemKind}
use Rattle.dialog_items.specs.declared.kind.ItemKind.TheVariants.{Button, Check, Radio, Default, Icon, Static, Edit, User}

-- the item type of an enabled item
abbrev pub kind_type : ItemKind → ℕ
kind_type Button = 4
kind_type Check = 5
kind_type Radio = 6
kind_type Default = 4
kind_type Icon = 32
kind_type Static = 8
kind_type Edit = 16
kind_type User = 0

-- the name in scripts
abbrev pub kind_name : ItemKind → List ℕ
kind_name Button = codes "button"
kind_name Check = codes "check"
kind_name Radio = codes "radio"
kind_name Default = codes "default"
kind_name Icon = codes "icon"
kind_name Static = codes "static"
kind_name Edit = codes "edit"
kind_name User = codes "user"

-- what shows an item: a control, a text record, or nothing of the desk's
abbrev pub sort_of : ItemKind → Option LayerSort
sort_of Button = Some Control
sort_of Check = Some Control
sort_of Radio = Some Control
sort_of Default = Some Control
sort_of Icon = Some Control
sort_of Static = Some Text
sort_of Edit = Some Text
sort_of User = None

-- a layer that is a text record
abbrev pub is_text_sort : LayerSort → Bool
is_text_sort Text = true
is_text_sort Control = false

-- what shows an item of this kind is of this sort
abbrev pub has_sort : LayerSort → ItemKind → Bool
has_sort sort kind = option_map_or (λ own. beq (is_text_sort own) (is_text_sort sort)) (sort_of kind) false

-- an item of text that is edited
abbrev pub is_edit_kind : ItemKind → Bool
is_edit_kind Edit = true
is_edit_kind _ = false

-- the button that Return and Enter stand for
abbrev pub is_default_kind : ItemKind → Bool
is_default_kind Default = true
is_default_kind _ = false

-- a simple button
abbrev pub is_button_kind : ItemKind → Bool
is_button_kind Button = true
is_button_kind _ = false

-- a rectangle with 4 pixels more at each side, and with 4 less
abbrev pub ring_around : Rect → Rect
ring_around r = record { left = r.left -ℤ pos 4; top = r.top -ℤ pos 4; right = r.right +ℤ pos 4; bottom = r.bottom +ℤ pos 4 }

abbrev pub within_ring : Rect → Rect
within_ring r = record { left = r.left +ℤ pos 4; top = r.top +ℤ pos 4; right = r.right -ℤ pos 4; bottom = r.bottom -ℤ pos 4 }

-- the rectangle of an item's layer by the item's, and the other way: around a default button is a ring
abbrev pub layer_rect : ItemKind → Rect → Rect
layer_rect Default r = ring_around r
layer_rect _ r = r

abbrev pub item_rect : ItemKind → Rect → Rect
item_rect Default r = within_ring r
item_rect _ r = r
