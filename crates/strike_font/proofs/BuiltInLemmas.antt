-- The built-in font's record, computed.
use Rattle.std.proofs.Common.{◌≡◌, ◌⊎◌, ℕ, zero, suc, ◌+◌, ◌-◌, ◌*◌, ◌<◌, ◌≤◌, ℤ, pos, negsuc, ◌+ℤ◌, ◌-ℤ◌, Bool, true, false, not, ◌&&◌, nat_eq, nat_lt, List, slice_index, refl, ap, arith, inl, inr}
use Rattle.std.specs.Prelude.{int_le}
use Rattle.std.proofs.lemmas.Bool.{cases_eq, cases_lt, lt-ltb}
use Rattle.std.proofs.lemmas.Int.{ints}
use Rattle.strike_font.specs.declared.built_in.TheConstants.{RECORD}
use Rattle.strike_font.specs.Record.{is_font, word, first_char, last_char, last_symbol, strike_words, location, entry, good_fields, good_head, has_tables, good_tables, kern, leading, ascent, descent, height, gap}
use Rattle.strike_font.specs.Text.{image_bit, symbol_of, glyph_of, glyph_bit, glyph_pixel}
use Rattle.strike_font.specs.BuiltIn.{columns, low_bit, place_of, table_bit, IsBuiltIn}

pub record_accepted : is_font RECORD ≡ true
unfolding is_font good_head good_fields has_tables good_tables word first_char last_char last_symbol strike_words location entry
record_accepted = refl

abbrev all_below : ℕ → (ℕ → Bool) → Bool
all_below zero p = true
all_below (suc n) p = p n && all_below n p

and_left : (a b : Bool) → (a && b) ≡ true → a ≡ true
and_left true b h = refl
and_left false b h = h

and_right : (a b : Bool) → (a && b) ≡ true → b ≡ true
and_right true b h = h
and_right false b h = absurd (cc)

below-at : (n : ℕ) (p : ℕ → Bool) (k : ℕ) → all_below n p ≡ true → k < n → p k ≡ true
below-at zero p k e h = absurd (omega arith)
below-at (suc n) p k e h = elim (cases_eq k n) [
  | inl same ↦ rw same (and_left (p n) (all_below n p) e)
  | inr other ↦ below-at n p k (and_right (p n) (all_below n p) e) (omega arith)
]

same : Bool → Bool → Bool
same true b = b
same false b = not b

same-is : (a b : Bool) → same a b ≡ true → a ≡ b
unfolding same
same-is true true e = refl
same-is true false e = absurd (cc)
same-is false true e = absurd (cc)
same-is false false e = refl

entries_are : all_below 96 (λ s. nat_eq (entry RECORD s) 6) ≡ true
unfolding word entry
entries_are = refl

locations_are : all_below 97 (λ s. nat_eq (location RECORD s) (5 * s)) ≡ true
unfolding word strike_words location
locations_are = refl

bits_are : all_below 480 (λ j. all_below 8 (λ r. same (image_bit RECORD j r) (low_bit (slice_index columns j) r))) ≡ true
unfolding word image_bit columns same
bits_are = refl

-- what the record says, by its fields
record IsTable (font : List ℕ) : Type 0 where
  first : first_char font ≡ pos 32
  last : last_char font ≡ pos 126
  other : last_symbol font ≡ 95
  kerning : kern font ≡ pos 0
  up : ascent font ≡ 7
  down : descent font ≡ 1
  apart : leading font ≡ 2
  tall : height font ≡ 8
  entries : (s : ℕ) → s < 96 → entry font s ≡ 6
  locations : (s : ℕ) → s < 97 → location font s ≡ 5 * s
  bits : (j r : ℕ) → j < 480 → r < 8 → image_bit font j r ≡ low_bit (slice_index columns j) r

eq-of : (a b : ℕ) → nat_eq a b ≡ true → a ≡ b
eq-of a b e = grind arith

record_is : IsTable RECORD
unfolding word first_char last_char last_symbol
record_is = record {
  first = refl;
  last = refl;
  other = refl;
  kerning = refl;
  up = refl;
  down = refl;
  apart = refl;
  tall = refl;
  entries = λ s h. eq-of (entry RECORD s) 6 (below-at 96 (λ s. nat_eq (entry RECORD s) 6) s entries_are h);
  locations = λ s h. eq-of (location RECORD s) (5 * s) (below-at 97 (λ s. nat_eq (location RECORD s) (5 * s)) s locations_are h);
  bits = λ j r h l.
      same-is (image_bit RECORD j r) (low_bit (slice_index columns j) r)
      (below-at 8 (λ r. same (image_bit RECORD j r) (low_bit (slice_index columns j) r)) r
      (below-at 480 (λ j. all_below 8 (λ r. same (image_bit RECORD j r) (low_bit (slice_index columns j) r))) j bits_are h) l);
}

tests_in : (c : ℕ) → 32 ≤ c → c ≤ 126 → (int_le (pos 32) (pos c) && int_le (pos c) (pos 126)) ≡ true
tests_in c h l = grind (arith, ints)

tests_out : (c : ℕ) → (c < 32) ⊎ (126 < c) → (int_le (pos 32) (pos c) && int_le (pos c) (pos 126)) ≡ false
tests_out c (inl h) = grind (arith, ints)
tests_out c (inr h) = grind (arith, ints)

gap-is : (c : ℕ) → 32 ≤ c → gap (pos 32) (pos c) ≡ c - 32
gap-is c h = grind (arith, ints)

place-in : (c : ℕ) → 32 ≤ c → c ≤ 126 → place_of c ≡ c - 32
place-in c h l = grind arith

place-out : (c : ℕ) → (c < 32) ⊎ (126 < c) → place_of c ≡ 95
place-out c (inl h) = grind arith
place-out c (inr h) = grind arith

in_or_out : (c : ℕ) → ((32 ≤ c) × (c ≤ 126)) ⊎ ((c < 32) ⊎ (126 < c))
in_or_out c = elim (cases_lt c 32) [
  | inl h ↦ inr (inl h)
  | inr h ↦ elim (cases_lt 126 c) [ inl l ↦ inr (inr l) | inr l ↦ inl (h, l) ]
]

place-below : (c : ℕ) → place_of c < 96
place-below c = elim (in_or_out c) [
  | inl h ↦ let low = h.0 in let high = h.1 in rw (place-in c low high) (omega arith)
  | inr h ↦ rw (place-out c h) (omega arith)
]

symbol-is : (font : List ℕ) → IsTable font → (c : ℕ) → symbol_of font c ≡ place_of c
unfolding symbol_of
symbol-is font t c = elim (in_or_out c) [
  | inl h ↦
      let low = h.0 in
      let high = h.1 in
      let e : entry font (c - 32) ≡ 6 = t.entries (c - 32) (omega arith) in
      rw (place-in c low high, t.first, t.last, tests_in c low high, gap-is c low, e) refl
  | inr h ↦ rw (place-out c h, t.first, t.last, tests_out c h) t.other
]

-- the glyph of a character of the table
glyph-place : (font : List ℕ) → IsTable font → (c : ℕ) → glyph_of font c ≡ record { first = 5 * place_of c; columns = 5; offset = 0; width = 6 }
unfolding glyph_of
glyph-place font t c =
    let low = place-below c in
    let e : entry font (place_of c) ≡ 6 = t.entries (place_of c) low in
    let l : location font (place_of c) ≡ 5 * place_of c = t.locations (place_of c) (omega arith) in
    let n : location font (place_of c + 1) ≡ 5 * (place_of c + 1) = t.locations (place_of c + 1) (omega arith) in
    let five : 5 * (place_of c + 1) - 5 * place_of c ≡ 5 = omega arith in
    rw (symbol-is font t c, e, n, l, five) refl

no_kern : (x : ℤ) → x -ℤ (pos 0 +ℤ pos 0) ≡ x
no_kern x = omega (arith, ints)

lt-cases : (a b : ℕ) → ((a < b) × (nat_lt a b ≡ true)) ⊎ (nat_lt a b ≡ false)
lt-cases a b = elim (cases_lt a b) [
  | inl h ↦ inl (h, lt-ltb a b h)
  | inr h ↦ inr (grind arith)
]

bits-at : (font : List ℕ) → IsTable font → (s k r : ℕ) → s < 96 → ((nat_lt k 5 && nat_lt r 8) && image_bit font (5 * s + k) r) ≡ ((nat_lt k 5 && nat_lt r 8) && low_bit (slice_index columns (5 * s + k)) r)
bits-at font t s k r low = elim (lt-cases k 5) [
  | inl h ↦ elim (lt-cases r 8) [
    | inl l ↦ let k_in = h.0 in let r_in = l.0 in rw (h.1, l.1) (t.bits (5 * s + k) r (omega arith) r_in)
    | inr l ↦ rw (h.1, l) refl
  ]
  | inr h ↦ rw h refl
]

table-pixel : (font : List ℕ) → IsTable font → (c : ℕ) (x y : ℤ) → glyph_pixel font (glyph_of font c) x y ≡ table_bit c x (y +ℤ pos 7)
unfolding glyph_pixel table_bit
table-pixel font t c x y = rw (glyph-place font t c, t.kerning, t.up, no_kern x) (by_place x (y +ℤ pos 7))
  where
    by_place : (k r : ℤ) → glyph_bit font (record { first = 5 * place_of c; columns = 5; offset = 0; width = 6 }) k r ≡ table_bit c k r
    by_place (pos k) (pos r) = rw t.tall (bits-at font t (place_of c) k r (place-below c))
    by_place (pos k) (negsuc r) = refl
    by_place (negsuc k) r = refl

pub record_looks : IsBuiltIn RECORD
record_looks = record {
  up = record_is.up;
  down = record_is.down;
  apart = record_is.apart;
  rows = record_is.tall;
  flush = record_is.kerning;
  near = λ c. ap (λ g. g.offset) (glyph-place RECORD record_is c);
  five = λ c. ap (λ g. g.columns) (glyph-place RECORD record_is c);
  wide = λ c. ap (λ g. g.width) (glyph-place RECORD record_is c);
  pixels = table-pixel RECORD record_is;
}
