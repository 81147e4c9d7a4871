-- Where the first piece of a text ends, and what comes after it.
use Rattle.std.proofs.Common.{◌≡◌, ◌⊎◌, inl, inr, ℕ, ◌<◌, ◌≤◌, ◌+◌, true, false, List, [], ◌∷◌, length, take, drop, get_or, drop_of_length-le, length-drop, ◌-◌, refl, ap, sym, ◌∙◌, arith}
use Rattle.std.specs.Prelude.{filter_map, not, Option, Some, None}
use Rattle.std.proofs.Math.Seq.{take-length}
use Rattle.std.specs.List.{slice_split, position_or_len, before_first, after_first, cons_option, list_any}
use Rattle.std.proofs.lemmas.Bool.{cases_lt, false≢true}
use Rattle.std.proofs.Math.Path.{ap₂}
use Rattle.std.proofs.lemmas.List.Splits.{slice_split_first, slice_split_none}
use Rattle.std.proofs.lemmas.List.Sums.{position_or_len_is, fails_before_first, prefix_len-le-length}
use Rattle.std.proofs.lemmas.List.Elements.{All-from_get_or}
use Rattle.menu_record.specs.declared.item.MenuItem.{MenuItem}
use Rattle.menu_record.specs.Appending.{is_parting, item_in, items_of, is_long, is_long_item}
use Rattle.menu_record.specs.Reads.{IsCut}

-- the first character that parts pieces ends the first one
pub first_ends : (text : List ℕ) (i : ℕ) → i < length text → ((k : ℕ) → k < i → is_parting (get_or text k 0) ≡ false)
    → is_parting (get_or text i 0) ≡ true → i ≡ position_or_len is_parting text
first_ends text i lt before here = sym (position_or_len_is is_parting text i 0 (omega arith) before (λ _. here))

-- where none parts them, all is one piece
pub none_ends : (text : List ℕ) → ((k : ℕ) → k < length text → is_parting (get_or text k 0) ≡ false)
    → length text ≡ position_or_len is_parting text
none_ends text before = sym (position_or_len_is is_parting text (length text) 0 (omega arith) before (λ lt. absurd (omega (arith, lt))))

ends_within : (text : List ℕ) → position_or_len is_parting text ≤ length text
ends_within text = prefix_len-le-length (λ c. not (is_parting c)) text

cut_where : (text : List ℕ) → (position_or_len is_parting text < length text) ⊎ (length text ≤ position_or_len is_parting text)
    → slice_split is_parting text ≡ before_first is_parting text ∷ slice_split is_parting (after_first is_parting text)
    ⊎ ((slice_split is_parting text ≡ text ∷ []) × (before_first is_parting text ≡ text) × (after_first is_parting text ≡ []))
cut_where text (inl lt) = inl (slice_split_first is_parting text 0 lt)
cut_where text (inr ge) = inr (
  slice_split_none is_parting text (All-from_get_or (λ c. is_parting c ≡ false) text 0 (λ i h. fails_before_first is_parting text i 0 (omega (arith, h, ge)))),
  (let e : position_or_len is_parting text ≡ length text = omega (arith, ge, ends_within text) in ap (λ n. take n text) e ∙ take-length text),
  drop_of_length-le text (omega (arith, ge)),
)

pub nothing_in : items_of [] ≡ []
unfolding items_of
nothing_in = refl

-- the items of a text are that of its first piece, if it gives one, and those of what comes after it
pub items_cut : (text : List ℕ) → items_of text ≡ cons_option (item_in (before_first is_parting text)) (items_of (after_first is_parting text))
unfolding items_of
items_cut text = elim (cut_where text (cases_lt (position_or_len is_parting text) (length text))) [
  | inl e ↦ ap (filter_map item_in) e
  | inr whole ↦ ap (filter_map item_in) whole.0 ∙ sym (ap₂ (λ piece rest. cons_option (item_in piece) (filter_map item_in (slice_split is_parting rest))) whole.1 whole.2)
]

-- the first piece was cut off, and read
pub cut_is : (text : List ℕ) (n : ℕ) (item : Option MenuItem) (rest : List ℕ) → n ≡ position_or_len is_parting text
    → item ≡ item_in (take n text) → is_long_item (item_in (take n text)) ≡ false → rest ≡ drop (n + 1) text → IsCut text item rest
cut_is text n item rest at is short after = record {
  items =
      (items_cut text ∙ sym (ap (λ m. cons_option (item_in (take m text)) (items_of (drop (m + 1) text))) at))
      ∙ sym (ap₂ (λ i r. cons_option i (items_of r)) is after);
  short = ap is_long_item is ∙ short;
  shorter = λ some. let e : length rest ≡ length text - (n + 1) = ap length after ∙ length-drop (n + 1) text in omega (arith, e, some);
}

any_first : (o : Option MenuItem) (xs : List MenuItem) → is_long_item o ≡ true → list_any is_long (cons_option o xs) ≡ true
any_first None xs e = absurd (false≢true e)
any_first (Some i) xs e = grind (arith, e)

-- the text of the first item is too long
pub cut_long : (text : List ℕ) (n : ℕ) → n ≡ position_or_len is_parting text → is_long_item (item_in (take n text)) ≡ true
    → list_any is_long (items_of text) ≡ true
cut_long text n at long =
    ap (list_any is_long) (items_cut text ∙ sym (ap (λ m. cons_option (item_in (take m text)) (items_of (drop (m + 1) text))) at))
    ∙ any_first (item_in (take n text)) (items_of (drop (n + 1) text)) long

-- a text without a character gives no item
pub none_left : (text : List ℕ) → length text ≡ 0 → items_of text ≡ []
none_left [] e = nothing_in
none_left (c ∷ cs) e = absurd (omega (arith, e))
