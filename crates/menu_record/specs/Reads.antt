-- An item while it is read, character by character, and a text while its pieces are cut off.
use Rattle.std.specs.Prelude.{◌≡◌, ◌<◌, ◌==◌, if◌then◌else◌, true, false, List, [], ◌∷◌, ◌++◌, fold, length, ℕ, Bool, Option, Some, None, ◌⊎◌}
use Rattle.tb_geom.specs.declared.refusal.Refusal.{Refusal}
use Rattle.tb_geom.specs.declared.refusal.Refusal.TheVariants.{NoMemory}
use Rattle.std.specs.List.{cons_option}
use Rattle.menu_record.specs.declared.item.MenuItem.{MenuItem}
use Rattle.menu_record.specs.declared.reading.Reading.{Reading}
use Rattle.menu_record.specs.Appending.{is_sign, items_of, is_long_item, why_not_appended}

-- an item as far as it was read, and the sign that waits for its character
pub record ItemRead : Type 0 where
  pub item : MenuItem
  pub sign : Option ℕ

-- an item of which nothing was read: it has no text, no mark and no key, and is enabled
abbrev pub blank : MenuItem
blank = record { text = []; mark = None; key = None; enabled = true }

-- the item after a character that no sign takes
abbrev pub plain : ℕ → MenuItem → MenuItem
plain c item = if c == 0x28 then record item { enabled = false } else record item { text = item.text ++ c ∷ [] }

-- the item after a character that a sign takes
abbrev pub signed : ℕ → ℕ → MenuItem → MenuItem
signed sign c item =
    if sign == 0x21 then record item { mark = Some c }
    else (if sign == 0x2F then record item { key = Some c } else item)

-- what is read after a character
abbrev pub read_on : Option ℕ → ℕ → MenuItem → ItemRead
read_on (Some sign) c item = record { item = signed sign c item; sign = None }
read_on None c item =
    if is_sign c then record { item = item; sign = Some c } else record { item = plain c item; sign = None }

abbrev pub read_character : ItemRead → ℕ → ItemRead
read_character r c = read_on r.sign c r.item

-- what is read after all characters of a piece
abbrev pub read_all : List ℕ → ItemRead
read_all piece = fold read_character (record { item = blank; sign = None }) piece

-- the text, of which there may have been too much
abbrev pub IsText : Bool → List ℕ → List ℕ → Type 0
IsText true kept text = 255 < length text
IsText false kept text = kept ≡ text

-- this has been read
pub record IsRead (r : ItemRead) (kept : Reading) : Type 0 where
  pub text : IsText kept.is_over kept.text.items r.item.text
  pub mark : kept.mark ≡ r.item.mark
  pub key : kept.key ≡ r.item.key
  pub enabled : kept.enabled ≡ r.item.enabled
  pub sign : kept.sign ≡ r.sign

-- this item, if it is one, comes first in the text, and is short; after it come those of the rest, which is shorter
pub record IsCut (text : List ℕ) (item : Option MenuItem) (rest : List ℕ) : Type 0 where
  pub items : items_of text ≡ cons_option item (items_of rest)
  pub short : is_long_item item ≡ false
  pub shorter : 0 < length text → length rest < length text

-- the text is not appended to so many items for this: the first reason that holds, and else want of memory
abbrev pub IsNotAppended : List ℕ → ℕ → Refusal → Type 0
IsNotAppended text count e = (why_not_appended text count ≡ Some e) ⊎ ((why_not_appended text count ≡ None) × (e ≡ NoMemory))
