-- The tests of a FONT record.
use Rattle.std.proofs.Common.{◌≡◌, ℕ, zero, suc, ◌+◌, ◌*◌, ◌/◌, ◌<◌, ◌≤◌, Bool, true, false, not, nat_eq, length, add-one, ◌&&◌, List, nat_le, refl, arith, inl, inr}
use Rattle.std.proofs.lemmas.Bool.{cases_eq}
use Rattle.std.proofs.lemmas.Int.{ints}
use Rattle.std.proofs.lemmas.Nat.{mul-add-lt}
use Rattle.std.specs.Prelude.{ℤ, pos, negsuc, ◌≤ℤ◌, ◌<ℤ◌}
use Rattle.tb_geom.specs.Rects.{between}
use Rattle.strike_font.specs.Record.{rising, location, is_font, entry, IsFont, has_tables, good_tables, good_head, good_fields, good_chars, is_within, is_font_type, has_head, last_symbol, words_of_row, height, ascent, descent, kern, strike_words, word}

-- locations that fail to rise do so in any longer part too
pub rising-false : (bs : List ℕ) (k n : ℕ) → k ≤ n → rising bs k ≡ false → rising bs n ≡ false
rising-false bs k zero h e = let z : k ≡ 0 = omega arith in rw z at e
rising-false bs k (suc n) h e = elim (cases_eq k (suc n)) [
  | inl same ↦ rw same at e
  | inr other ↦ rw (rising-false bs k n (omega arith) e) refl
]

and_false : (a b : Bool) → b ≡ false → (a && b) ≡ false
and_false true b e = e
and_false false b e = refl

pub rising-broken : (bs : List ℕ) (k : ℕ) → location bs (k + 1) < location bs k → rising bs (k + 1) ≡ false
rising-broken bs k h = rw add-one (and_false (rising bs k) (nat_le (location bs k) (location bs (suc k))) (grind arith))

and_left : (a b : Bool) → (a && b) ≡ true → a ≡ true
and_left true b h = refl
and_left false b h = h

and_right : (a b : Bool) → (a && b) ≡ true → b ≡ true
and_right true b h = h
and_right false b h = absurd (cc)

pub rising-at : (bs : List ℕ) (n s : ℕ) → rising bs n ≡ true → s < n → location bs s ≤ location bs (s + 1)
rising-at bs zero s e h = absurd (omega arith)
rising-at bs (suc n) s e h = elim (cases_eq s n) [
  | inl same ↦ let a : nat_le (location bs n) (location bs (suc n)) ≡ true = and_right (rising bs n) (nat_le (location bs n) (location bs (suc n))) e in rw same (grind arith)
  | inr other ↦ rising-at bs n s (and_left _ _ e) (omega arith)
]

-- a location is at most any later one
pub rising-to : (bs : List ℕ) (n s t : ℕ) → rising bs n ≡ true → s ≤ t → t ≤ n → location bs s ≤ location bs t
rising-to bs n s zero e h k = let z : s ≡ 0 = omega arith in rw z (omega arith)
rising-to bs n s (suc t) e h k = elim (cases_eq s (suc t)) [
  | inl same ↦ rw same (omega arith)
  | inr other ↦
      let a : location bs s ≤ location bs t = rising-to bs n s t e (omega arith) (omega arith) in
      let b : location bs t ≤ location bs (t + 1) = rising-at bs n t e (omega arith) in
      let c : location bs t ≤ location bs (suc t) = rw add-one at b in
      omega (arith, a, c)
]

four : (a b c d : Bool) → (a && (b && (c && d))) ≡ true → (a ≡ true) × (b ≡ true) × (c ≡ true) × (d ≡ true)
four true true true true e = (refl, refl, refl, refl)
four false b c d e = absurd (cc)
four true false c d e = absurd (cc)
four true true false d e = absurd (cc)
four true true true false e = absurd (cc)

three : (a b c : Bool) → (a && (b && c)) ≡ true → (a ≡ true) × (b ≡ true) × (c ≡ true)
three true true true e = (refl, refl, refl)
three false b c e = absurd (cc)
three true false c e = absurd (cc)
three true true false e = absurd (cc)

six : (a b c d e f : Bool) → (a && (b && (c && (d && (e && f))))) ≡ true → (a ≡ true) × (b ≡ true) × (c ≡ true) × (d ≡ true) × (e ≡ true) × (f ≡ true)
six true true true true true true e = (refl, refl, refl, refl, refl, refl)
six false b c d e f h = absurd (cc)
six true false c d e f h = absurd (cc)
six true true false d e f h = absurd (cc)
six true true true false e f h = absurd (cc)
six true true true true false f h = absurd (cc)
six true true true true true false h = absurd (cc)

-- what a test of a field says
between-low : (low x high : ℤ) → between low x high ≡ true → low ≤ℤ x
between-low low x high e = grind (arith, ints)

between-high : (low x high : ℤ) → between low x high ≡ true → x <ℤ high
between-high low x high e = grind (arith, ints)

le-true : (a b : ℕ) → nat_le a b ≡ true → a ≤ b
le-true a b e = grind arith

both-le : (a b c d : ℕ) → (nat_le a b && nat_le c d) ≡ true → (a ≤ b) × (c ≤ d)
both-le a b c d e = (le-true a b (and_left _ _ e), le-true c d (and_right (nat_le a b) _ e))

within-low : (low n high : ℕ) → is_within low n high ≡ true → low ≤ n
within-low low n high e = grind arith

within-high : (low n high : ℕ) → is_within low n high ≡ true → n ≤ high
within-high low n high e = grind arith

pub font_facts : (bs : List ℕ) → is_font bs ≡ true → IsFont bs
unfolding is_font good_head good_fields has_tables good_tables
font_facts bs e =
    let parts = four (has_head bs) (good_head bs) (has_tables bs) (good_tables bs) e in
    let tables = three (rising bs (last_symbol bs + 1)) (nat_le (location bs (last_symbol bs + 1)) (16 * words_of_row bs)) (not (nat_eq (entry bs (last_symbol bs)) 65535)) parts.3 in
    let head = three (is_font_type (word bs 0)) (good_chars bs) (good_fields bs) parts.1 in
    let fields = six (is_within 1 (height bs) 127) (is_within 0 (ascent bs) 127) (is_within 0 (descent bs) 127) (between (negsuc 127) (kern bs) (pos 128)) (is_within 0 (words_of_row bs) 2047) (is_within 1 (word bs 8) 32767) head.2 in
    let room = both-le (2 * (strike_words bs + (last_symbol bs + 2))) (length bs) (2 * (8 + word bs 8 + (last_symbol bs + 2))) (length bs) parts.2 in
    let last = le-true (location bs (last_symbol bs + 1)) (16 * words_of_row bs) tables.1 in
    let tall = within-high 1 (height bs) 127 fields.0 in
    let up = within-high 0 (ascent bs) 127 fields.1 in
    let down = within-high 0 (descent bs) 127 fields.2 in
    let wide = within-high 0 (words_of_row bs) 2047 fields.4 in
    record {
      head = le-true 26 (length bs) parts.0;
      tables = record { locations_in = room.0; entries_in = room.1 };
      rising = λ s h. rising-at bs (last_symbol bs + 1) s tables.0 (omega arith);
      ends = λ s h. let a : location bs s ≤ location bs (last_symbol bs + 1) = rising-to bs (last_symbol bs + 1) s (last_symbol bs + 1) tables.0 h (omega arith) in omega (arith, a, last);
      height_low = within-low 1 (height bs) 127 fields.0;
      height_high = omega arith;
      ascent_high = omega arith;
      descent_high = omega arith;
      kern_low = between-low (negsuc 127) (kern bs) (pos 128) fields.3;
      kern_high = between-high (negsuc 127) (kern bs) (pos 128) fields.3;
      row_high = omega arith;
    }

-- a byte of the image lies before the location table
pub image-in : (bs : List ℕ) (w column row : ℕ) → IsFont bs → w ≡ word bs 12 → column < 16 * words_of_row bs → row < height bs → 26 + row * (2 * w) + column / 8 < length bs
unfolding strike_words
image-in bs w column row f e cin rin =
    let t : 2 * (13 + w * height bs + (last_symbol bs + 2)) ≤ length bs = rw e f.tables.locations_in in
    let eighth : column / 8 < 2 * w = omega (arith, e, cin) in
    let m : row * (2 * w) + column / 8 < 2 * w * height bs = mul-add-lt row (2 * w) (column / 8) (height bs) rin eighth in
    let swap : 2 * w * height bs ≡ 2 * (w * height bs) = grind arith in
    omega (arith, t, m, swap)
