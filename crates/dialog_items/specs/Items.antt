-- The items of a window as a list, the edited one, and what changes make of them.
use Rattle.std.specs.Prelude.{◌≡◌, ℕ, zero, suc, ◌+◌, ◌≤◌, Bool, true, false, not, ◌&&◌, nat_le, if◌then◌else◌, List, [], ◌∷◌, length, Option, None, slice_get}
use Rattle.std.specs.Option.{option_map_or}
use Rattle.std.specs.List.{list_any}
use Rattle.tb_geom.specs.declared.rect.Rect.{Rect}
use Rattle.tb_geom.specs.Rects.{empty_rect}
use Rattle.dialog_items.specs.declared.item.Item.{Item}
use Rattle.dialog_items.specs.declared.kind.ItemKind.{ItemKind}
use Rattle.dialog_items.specs.declared.kind.ItemKind.TheVariants.{User}
use Rattle.dialog_items.specs.declared.look.ItemLook.{ItemLook}
use Rattle.dialog_items.specs.Kinds.{kind_type, is_edit_kind}

-- the item type, with 128 more where the item is not enabled
abbrev pub dialog_type : Item → ℕ
dialog_type i = if i.enabled then kind_type i.kind else kind_type i.kind + 128

abbrev pub is_edit : Item → Bool
is_edit i = is_edit_kind i.kind

-- the item as it stands in its window
abbrev pub look_of : Item → Bool → Rect → Bool → ItemLook
look_of i shown rect inactive = record { kind = i.kind; enabled = i.enabled; shown = shown; rect = rect; inactive = inactive }

-- how one without a layer stands: a user item as it says itself, and another nowhere
abbrev pub own_look : Item → ItemLook
own_look i = own_look_as i.kind i
  where
    own_look_as : ItemKind → Item → ItemLook
    own_look_as User i = look_of i i.shown i.rect false
    own_look_as _ i = look_of i false empty_rect false

-- the items in the order of their numbers, the number of the edited one or 0, and for how many items there is room
pub record ItemList : Type 0 where
  pub items : List Item
  pub edited : ℕ
  pub capacity : ℕ

-- the item of a number: numbers begin with 1
abbrev pub item_of : List Item → ℕ → Option Item
item_of items zero = None
item_of items (suc at) = slice_get items at

-- a number of an edit item
abbrev pub is_edit_number : List Item → ℕ → Bool
is_edit_number items number = option_map_or is_edit (item_of items number) false

-- the number of an edit item, or 0
abbrev pub edits_one : List Item → ℕ → Bool
edits_one items zero = true
edits_one items (suc at) = option_map_or is_edit (slice_get items at) false

-- at most 64 items, and the edited item is none or an edit item
pub record IsItemList (d : ItemList) : Type 0 where
  pub few : length d.items ≤ 64
  pub edited : edits_one d.items d.edited ≡ true

-- a new item is the last; the first edit item that is ever made is edited
abbrev pub edited_with : Item → ItemList → ℕ
edited_with i d = if is_edit i && not (list_any is_edit d.items) then length d.items + 1 else d.edited

-- the number is that of an item
abbrev pub is_number : List Item → ℕ → Bool
is_number items number = nat_le 1 number && nat_le number (length items)

-- the items with one of them changed, by its index and by its number
abbrev pub changed_at : (Item → Item) → ℕ → List Item → List Item
changed_at change i [] = []
changed_at change zero (x ∷ xs) = change x ∷ xs
changed_at change (suc i) (x ∷ xs) = x ∷ changed_at change i xs

abbrev pub replaced : ℕ → (Item → Item) → List Item → List Item
replaced zero change items = items
replaced (suc at) change items = changed_at change at items

-- what may change of an item
abbrev pub with_enabled : Bool → Item → Item
with_enabled enabled i = record i { enabled = enabled }

abbrev pub with_shown : Bool → Item → Item
with_shown shown i = record i { shown = shown }
