-- What is read of a piece, character by character, is what its words say.
use Rattle.std.proofs.Common.{◌≡◌, ℕ, ◌||◌, Bool, true, false, List, [], ◌∷◌, ◌++◌, fold, refl, sym, ◌∙◌, append-nil, append_assoc, arith, if◌then◌else◌}
use Rattle.std.proofs.lemmas.Bool.{eqb-true}
use Rattle.std.specs.Prelude.{◌==◌, ◌&&◌, not, filter_map, Option, Some, None}
use Rattle.std.specs.List.{list_any, cons_option}
use Rattle.menu_record.specs.declared.item.MenuItem.{MenuItem}
use Rattle.menu_record.specs.Appending.{is_sign, Word, Bare, Signed, words, disables, text_character, taken_by, last_of, item_of}
use Rattle.menu_record.specs.Reads.{ItemRead, blank, plain, signed, read_character, read_all}

-- an item, and what these words add to it
abbrev said : MenuItem → List Word → MenuItem
said item ws = record {
  text = item.text ++ filter_map text_character ws;
  mark = last_of item.mark (filter_map (taken_by 0x21) ws);
  key = last_of item.key (filter_map (taken_by 0x2F) ws);
  enabled = item.enabled && not (list_any disables ws);
}

-- an item as far as it was read, with no sign that waits
abbrev from : MenuItem → ItemRead
from item = record { item = item; sign = None }

-- items with equal parts are equal
same : (t t' : List ℕ) (m m' : Option ℕ) (k k' : Option ℕ) (e e' : Bool) → t ≡ t' → m ≡ m' → k ≡ k' → e ≡ e'
    → let a : MenuItem = record { text = t; mark = m; key = k; enabled = e } in let b : MenuItem = record { text = t'; mark = m'; key = k'; enabled = e' } in a ≡ b
same t t' m m' k k' e e' p q r s = λ i. record { text = p i; mark = q i; key = r i; enabled = s i }

and_true : (b : Bool) → b ≡ b && true
and_true true = refl
and_true false = refl

and_false : (b : Bool) → false ≡ b && false
and_false true = refl
and_false false = refl

-- no words add nothing
nothing_said : (item : MenuItem) → item ≡ said item []
nothing_said item = same item.text _ item.mark _ item.key _ item.enabled _ (sym (append-nil item.text)) refl refl (and_true item.enabled)

-- a character that no sign takes
bare_by : (b : Bool) (c : ℕ) (item : MenuItem) (ws : List Word)
    → said (if b then record item { enabled = false } else record item { text = item.text ++ c ∷ [] }) ws
    ≡ record {
      text = item.text ++ cons_option (if b then None else Some c) (filter_map text_character ws);
      mark = last_of item.mark (filter_map (taken_by 0x21) ws);
      key = last_of item.key (filter_map (taken_by 0x2F) ws);
      enabled = item.enabled && not (b || list_any disables ws);
    }
bare_by true c item ws = same _ _ _ _ _ _ _ _ refl refl refl (and_false item.enabled)
bare_by false c item ws = same _ _ _ _ _ _ _ _ (append_assoc item.text (c ∷ []) (filter_map text_character ws)) refl refl refl

bare_said : (c : ℕ) (item : MenuItem) (ws : List Word) → said (plain c item) ws ≡ said item (Bare c ∷ ws)
bare_said c item ws = bare_by (c == 0x28) c item ws

-- a sign says the mark or the key, and not both
not_both : (sign : ℕ) → (sign == 0x21) ≡ true → (sign == 0x2F) ≡ true → ⊥
not_both sign m k = omega (arith, eqb-true sign 0x21 m, eqb-true sign 0x2F k)

-- a character that a sign takes
signed_by : (m k : Bool) (c : ℕ) (item : MenuItem) (ws : List Word) → (m ≡ true → k ≡ true → ⊥)
    → said (if m then record item { mark = Some c } else (if k then record item { key = Some c } else item)) ws
    ≡ record {
      text = item.text ++ filter_map text_character ws;
      mark = last_of item.mark (cons_option (if m then Some c else None) (filter_map (taken_by 0x21) ws));
      key = last_of item.key (cons_option (if k then Some c else None) (filter_map (taken_by 0x2F) ws));
      enabled = item.enabled && not (list_any disables ws);
    }
signed_by true true c item ws one = absurd (one refl refl)
signed_by true false c item ws one = refl
signed_by false true c item ws one = refl
signed_by false false c item ws one = refl

signed_said : (sign c : ℕ) (item : MenuItem) (ws : List Word) → said (signed sign c item) ws ≡ said item (Signed sign c ∷ ws)
signed_said sign c item ws = signed_by (sign == 0x21) (sign == 0x2F) c item ws (not_both sign)

-- what is read after a character, by whether it is a sign
step : Bool → ℕ → MenuItem → ItemRead
step b c item = if b then record { item = item; sign = Some c } else from (plain c item)

-- after the last character
last_read : (b : Bool) (c : ℕ) (item : MenuItem) → (step b c item).item ≡ said item (if b then [] else Bare c ∷ [])
unfolding step
last_read true c item = nothing_said item
last_read false c item = nothing_said (plain c item) ∙ bare_said c item []

-- after a character that is not the last: a sign takes the next one
more_read : (b : Bool) (c d : ℕ) (item : MenuItem) (rest : List ℕ)
    → (fold read_character (from (signed c d item)) rest).item ≡ said item (Signed c d ∷ words rest)
    → (fold read_character (from (plain c item)) (d ∷ rest)).item ≡ said item (Bare c ∷ words (d ∷ rest))
    → (fold read_character (read_character (step b c item) d) rest).item
    ≡ said item (if b then Signed c d ∷ words rest else Bare c ∷ words (d ∷ rest))
unfolding step
more_read true c d item rest sign character = sign
more_read false c d item rest sign character = character

-- what is read from an item on
reads : (item : MenuItem) (piece : List ℕ) → (fold read_character (from item) piece).item ≡ said item (words piece)
unfolding step
reads item [] = nothing_said item
reads item (c ∷ []) = last_read (is_sign c) c item
reads item (c ∷ d ∷ rest) =
    more_read (is_sign c) c d item rest
    (reads (signed c d item) rest ∙ signed_said c d item (words rest))
    (reads (plain c item) (d ∷ rest) ∙ bare_said c item (words (d ∷ rest)))

-- what is read of a piece is the item that it says
pub read_all_is : (piece : List ℕ) → (read_all piece).item ≡ item_of piece
unfolding item_of
read_all_is piece = reads blank piece
