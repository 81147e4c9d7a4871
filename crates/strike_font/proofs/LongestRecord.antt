-- How many bytes the parts of a FONT record may take.
use Rattle.std.proofs.Common.{◌≡◌, ℕ, ◌+◌, ◌*◌, ◌≤◌, Bool, true, false, ◌&&◌, cond, List, nat_lt, refl, arith}
use Rattle.std.proofs.lemmas.Int.{ints}
use Rattle.std.proofs.lemmas.Nat.{mul-le}
use Rattle.std.specs.Prelude.{ℤ, pos, negsuc, ◌-ℤ◌, ◌≤ℤ◌, int_le}
use Rattle.tb_geom.specs.Rects.{between}
use Rattle.strike_font.specs.Record.{signed, above, first_char, last_char, height, ascent, descent, kern, words_of_row, last_symbol, strike_words, word, is_font, is_font_type, is_within, has_head, has_tables, good_chars, good_fields, good_head, good_tables, longest_record}

-- no word is below -32768
signed-low : (n : ℕ) → negsuc 32767 ≤ℤ signed n
signed-low n = by_test (nat_lt n 32768) refl
  where
    by_test : (b : Bool) → nat_lt n 32768 ≡ b → negsuc 32767 ≤ℤ (cond b (pos n) (pos n -ℤ pos 65536))
    by_test true e = omega (arith, ints)
    by_test false e = let high : 32768 ≤ n = grind arith in omega (arith, ints)

above-high : (z : ℤ) (n : ℕ) → z ≤ℤ pos n → above z ≤ n
above-high (pos m) n l = omega (arith, ints)
above-high (negsuc m) n l = omega arith

le-true : (a b : ℤ) → int_le a b ≡ true → a ≤ℤ b
le-true a b e = grind (arith, ints)

within-high : (low n high : ℕ) → is_within low n high ≡ true → n ≤ high
within-high low n high e = grind arith

-- the bounds of the fields that say how long the parts are
record Bounds (bs : List ℕ) : Type 0 where
  pub last : last_char bs ≤ℤ pos 255
  pub tall : height bs ≤ 127
  pub wide : words_of_row bs ≤ 2047
  pub near : word bs 8 ≤ 32767

right : (a b : Bool) → (a && b) ≡ true → b ≡ true
right true b e = e
right false b e = absurd (cc)

left : (a b : Bool) → (a && b) ≡ true → a ≡ true
left true b e = refl
left false b e = absurd (cc)

bounds : (bs : List ℕ) → is_font bs ≡ true → Bounds bs
unfolding is_font good_head good_fields
bounds bs e =
    let head = left (good_head bs) (has_tables bs && good_tables bs) (right (has_head bs) _ e) in
    let chars_fields = right (is_font_type (word bs 0)) (good_chars bs && good_fields bs) head in
    let chars = left (good_chars bs) (good_fields bs) chars_fields in
    let fields = right (good_chars bs) (good_fields bs) chars_fields in
    let tall = left (is_within 1 (height bs) 127) _ fields in
    let after_tall = right (is_within 1 (height bs) 127) _ fields in
    let after_up = right (is_within 0 (ascent bs) 127) _ after_tall in
    let after_down = right (is_within 0 (descent bs) 127) _ after_up in
    let after_kern = right (between (negsuc 127) (kern bs) (pos 128)) _ after_down in
    record {
      last = le-true (last_char bs) (pos 255) (right (int_le (first_char bs) (last_char bs)) _ chars);
      tall = within-high 1 (height bs) 127 tall;
      wide = within-high 0 (words_of_row bs) 2047 (left (is_within 0 (words_of_row bs) 2047) _ after_kern);
      near = within-high 1 (word bs 8) 32767 (right (is_within 0 (words_of_row bs) 2047) _ after_kern);
    }

-- there are no more symbols than these
symbols : (bs : List ℕ) → Bounds bs → last_symbol bs ≤ 33024
unfolding last_symbol first_char
symbols bs b =
    let low = signed-low (word bs 1) in
    let last = b.last in
    let most = above-high (last_char bs -ℤ signed (word bs 1)) 33023 (omega (arith, ints)) in
    omega arith

image : (bs : List ℕ) → Bounds bs → strike_words bs ≤ 13 + 2047 * 127
unfolding strike_words
image bs b =
    let most = mul-le (words_of_row bs) (height bs) 2047 127 b.wide b.tall in
    omega arith

pub locations_end : (bs : List ℕ) → is_font bs ≡ true → 2 * (strike_words bs + (last_symbol bs + 2)) ≤ longest_record
locations_end bs e =
    let b = bounds bs e in
    let most = symbols bs b in
    let words = image bs b in
    omega arith

pub entries_end : (bs : List ℕ) → is_font bs ≡ true → 2 * (8 + word bs 8 + (last_symbol bs + 2)) ≤ longest_record
entries_end bs e =
    let b = bounds bs e in
    let most = symbols bs b in
    let near = b.near in
    omega arith
