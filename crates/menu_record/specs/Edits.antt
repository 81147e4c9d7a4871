-- How a menu begins, what changes one item, and why a change is refused.
use Rattle.std.specs.Prelude.{ℕ, zero, suc, ◌-◌, ℤ, pos, nat_abs, int_le, nat_lt, Bool, true, not, ◌&&◌, if◌then◌else◌, List, [], ◌∷◌, length, Option, None, Some}
use Rattle.std.specs.Ordering.{int_eq}
use Rattle.tb_geom.specs.declared.refusal.Refusal.{Refusal}
use Rattle.tb_geom.specs.declared.refusal.Refusal.TheVariants.{NoSuchItem, OutOfRange, TooLong}
use Rattle.tb_geom.specs.Refusals.{first_refusal}
use Rattle.menu_record.specs.declared.item.MenuItem.{MenuItem}
use Rattle.menu_record.specs.declared.menu.Menu.{Menu}

-- the number of a menu
abbrev pub is_menu_id : ℤ → Bool
is_menu_id id = int_le (pos 1) id && int_le id (pos 32767)

-- a menu as it begins: enabled, and without items
abbrev pub new_menu : ℤ → List ℕ → Menu
new_menu id title = record { id = nat_abs id; title = title; enabled = true; items = [] }

-- why no menu begins with this number and this title
abbrev pub why_no_menu : ℤ → List ℕ → Option Refusal
why_no_menu id title = first_refusal ((not (is_menu_id id), OutOfRange) ∷ (nat_lt 255 (length title), TooLong) ∷ [])

-- the list has an item of this number, which counts from 1
abbrev pub is_item : ℤ → List MenuItem → Bool
is_item number items = int_le (pos 1) number && int_le number (pos (length items))

-- the list with f of its i-th item, from 0, in the place of that
abbrev pub edit : (MenuItem → MenuItem) → ℕ → List MenuItem → List MenuItem
edit f i [] = []
edit f zero (item ∷ items) = f item ∷ items
edit f (suc i) (item ∷ items) = item ∷ edit f i items

-- the list with f of the item of this number, which counts from 1, in the place of that
abbrev pub edit_item : (MenuItem → MenuItem) → ℤ → List MenuItem → List MenuItem
edit_item f number items = edit f (nat_abs number - 1) items

-- the item with this text, whose characters are no signs
abbrev pub with_text : List ℕ → MenuItem → MenuItem
with_text text item = record item { text = text }

-- the item, enabled or disabled
abbrev pub with_enabled : Bool → MenuItem → MenuItem
with_enabled enabled item = record item { enabled = enabled }

-- the item with this mark, or with none
abbrev pub with_mark : Option ℕ → MenuItem → MenuItem
with_mark mark item = record item { mark = mark }

-- the item with the check mark, which is `*`, or without a mark
abbrev pub with_check : Bool → MenuItem → MenuItem
with_check checked item = with_mark (if checked then Some 0x2A else None) item

-- why the item of this number is not changed
abbrev pub why_no_item : ℤ → List MenuItem → Option Refusal
why_no_item number items = first_refusal ((not (is_item number items), NoSuchItem) ∷ [])

-- why the item of this number does not get this text
abbrev pub why_no_text : ℤ → List ℕ → List MenuItem → Option Refusal
why_no_text number text items =
    first_refusal ((not (is_item number items), NoSuchItem) ∷ (nat_lt 255 (length text), TooLong) ∷ [])

-- the menu with the item of this number enabled or disabled, where the item 0 is the menu itself
abbrev pub set_enabled : ℤ → Bool → Menu → Menu
set_enabled number enabled menu =
    if int_eq number (pos 0) then record menu { enabled = enabled }
    else record menu { items = edit_item (with_enabled enabled) number menu.items }

-- why the item of this number is not enabled or disabled, where the item 0 is the menu itself
abbrev pub why_not_enabled : ℤ → Menu → Option Refusal
why_not_enabled number menu = if int_eq number (pos 0) then None else why_no_item number menu.items
