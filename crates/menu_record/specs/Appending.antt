-- What a text says that is appended to a menu.
use Rattle.std.specs.Prelude.{ℕ, ◌+◌, Bool, true, false, not, ◌&&◌, ◌||◌, ◌==◌, if◌then◌else◌, nat_lt, List, [], ◌∷◌, length, Option, None, Some, fold, filter_map}
use Rattle.std.specs.List.{slice_split, list_any}
use Rattle.tb_geom.specs.declared.refusal.Refusal.{Refusal}
use Rattle.tb_geom.specs.declared.refusal.Refusal.TheVariants.{TooLong, TooMany}
use Rattle.tb_geom.specs.Refusals.{first_refusal}
use Rattle.menu_record.specs.declared.item.MenuItem.{MenuItem}

-- pieces are parted by ; and by return
abbrev pub is_parting : ℕ → Bool
is_parting c = (c == 0x3B) || (c == 0x0D)

-- a sign takes the character after it: ! says the item's mark by it and / its key, and ^ and < say nothing here
abbrev pub is_sign : ℕ → Bool
is_sign c = (c == 0x21) || ((c == 0x2F) || ((c == 0x5E) || (c == 0x3C)))

-- what a piece says: a character that stands by itself, or a sign with the character that it takes
pub data Word : Type 0 where
  Bare : (c : ℕ) → Word
  Signed : (sign c : ℕ) → Word

-- what a piece says, from the left; a sign at its end, for which no character is left, says nothing
abbrev pub words : List ℕ → List Word
words [] = []
words (c ∷ []) = if is_sign c then [] else Bare c ∷ []
words (c ∷ d ∷ rest) = if is_sign c then Signed c d ∷ words rest else Bare c ∷ words (d ∷ rest)

-- the item is disabled by a ( that no sign takes
abbrev pub disables : Word → Bool
disables (Bare c) = c == 0x28
disables (Signed sign c) = false

-- a character of the item's text: any other that no sign takes
abbrev pub text_character : Word → Option ℕ
text_character (Bare c) = if c == 0x28 then None else Some c
text_character (Signed sign c) = None

-- the character that this sign takes
abbrev pub taken_by : ℕ → Word → Option ℕ
taken_by sign (Bare c) = None
taken_by sign (Signed s c) = if s == sign then Some c else None

-- the last of several characters, and `before` where there is none
abbrev pub last_of : Option ℕ → List ℕ → Option ℕ
last_of before cs = fold (λ _ c. Some c) before cs

-- the item that a piece says. Of several marks or keys the last one counts.
unfoldable pub item_of : List ℕ → MenuItem
item_of piece = record {
  text = filter_map text_character (words piece);
  mark = last_of None (filter_map (taken_by 0x21) (words piece));
  key = last_of None (filter_map (taken_by 0x2F) (words piece));
  enabled = not (list_any disables (words piece));
}

-- the item of a piece that has a character; an empty one gives none
abbrev pub item_in : List ℕ → Option MenuItem
item_in [] = None
item_in (c ∷ cs) = Some (item_of (c ∷ cs))

-- the items that a text gives: it is parted before the signs of its pieces are read
unfoldable pub items_of : List ℕ → List MenuItem
items_of text = filter_map item_in (slice_split is_parting text)

-- a character that says nothing but itself, wherever it stands in a text that is appended
abbrev pub is_plain : ℕ → Bool
is_plain c = not (is_parting c) && (not (is_sign c) && not (c == 0x28))

-- an item with this text, enabled, without a mark and without a key
abbrev pub item_saying : List ℕ → MenuItem
item_saying text = record { text = text; mark = None; key = None; enabled = true }

-- the text of the item is too long
abbrev pub is_long : MenuItem → Bool
is_long item = nat_lt 255 (length item.text)

abbrev pub is_long_item : Option MenuItem → Bool
is_long_item None = false
is_long_item (Some item) = is_long item

-- why a text is not appended to so many items, want of memory aside: the text of an item is too long, or there would be
-- more than 31 items
abbrev pub why_not_appended : List ℕ → ℕ → Option Refusal
why_not_appended text count =
    first_refusal
    ((list_any is_long (items_of text), TooLong)
    ∷ (nat_lt 31 (count + length (items_of text)), TooMany)
    ∷ [])
