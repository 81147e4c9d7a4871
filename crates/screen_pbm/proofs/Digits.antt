-- The characters of pixels, eight at a time.
use Rattle.std.proofs.Common.{◌≡◌, ℕ, zero, suc, ◌+◌, ◌-◌, ◌*◌, ◌/◌, ◌%◌, ◌^◌, ◌<◌, ◌≤◌, Bool, true, false, ◌&&◌, pos, min, nat_eq, nat_lt, List, [], ◌∷◌, ◌++◌, map, take, drop, get_or, length, refl, sym, ap, ◌∙◌, arith}
use Rattle.std.specs.Int.{to_be_bytes, to_le_bytes, w64}
use Rattle.std.specs.Int.Bits.{bit_and}
use Rattle.std.specs.List.{range_with_len}
use Rattle.std.proofs.lemmas.Bool.Decides.{nat_tests}
use Rattle.std.proofs.lemmas.List.{ext_get_or, length-take, length-drop, get_or-take, get_or-drop}
use Rattle.std.proofs.lemmas.List.FromFn.{get_or-map-range_with_len, length-map-range_with_len}
use Rattle.std.proofs.lemmas.Bool.{and_parts}
use Rattle.tb_geom.specs.Points.{PixelSet}
use Rattle.bit_map.specs.Patterns.{bit_of}
use Rattle.bit_map.specs.Words.{bit_in, place_bit}
use Rattle.bit_map.proofs.PartLemmas.{mid, mid-below, mid-in, length-mid}
use Rattle.screen_pbm.specs.Packed.{AreDigitsPut, HasDigits}
use Rattle.screen_pbm.specs.Pbm.{digit_of, row_digits, line_text}
use Rattle.screen_pbm.proofs.Rows.{line_text-row}
use Rattle.screen_pbm.proofs.Words.{word_byte}

-- whether it holds of all numbers below another
below : (ℕ → Bool) → ℕ → Bool
below p zero = true
below p (suc n) = p n && below p n

below-at : (p : ℕ → Bool) (n : ℕ) → below p n ≡ true → (k : ℕ) → k < n → p k ≡ true
unfolding below
below-at p zero e k low = absurd (omega (arith, low))
below-at p (suc n) e k low = by_test (λ l. below-at p n (and_parts (p n) (below p n) e).1 k l) (nat_eq k n) refl
  where
    by_test : (k < n → p k ≡ true) → (t : Bool) → nat_eq k n ≡ t → p k ≡ true
    by_test before true same = let is : k ≡ n = grind (arith, nat_tests) in ap p is ∙ (and_parts (p n) (below p n) e).0
    by_test before false other = before (grind (arith, nat_tests))

-- the eight bits of a byte, each spread to a byte of its own, and turned into a character
abbrev pub spread : ℕ → ℕ
spread b = bit_and ((bit_and (b * 72340172838076673) 72624976668147840 + 9187201950435737471) / 2 ^ 7) 72340172838076673 + 3472328296227680304

is_digit : ℕ → ℕ → Bool
is_digit b j = nat_eq (get_or (to_le_bytes w64 (spread b)) j 0) (digit_of (bit_of b j))

-- so it is for each byte
all_digits : below (λ b. below (is_digit b) 8) 256 ≡ true
unfolding below is_digit
all_digits = refl

pub spread_digit : (b j : ℕ) → b < 256 → j < 8 → get_or (to_le_bytes w64 (spread b)) j 0 ≡ digit_of (bit_of b j)
unfolding is_digit
spread_digit b j low at =
    let e = below-at (is_digit b) 8 (below-at (λ c. below (is_digit c) 8) 256 all_digits b low) j at in
    grind (arith, nat_tests)

-- eight characters that are put to their place
pub digits_put : (text digits : List ℕ) (place : ℕ) (bits : ℕ → Bool) → length text ≡ 1024 → place < 128 → length digits ≡ 8 → ((j : ℕ) → j < 8 → get_or digits j 0 ≡ digit_of (bits j))
    → AreDigitsPut 8 place bits text (mid (8 * place) 8 text digits)
digits_put text digits place bits all low long are = record {
  all = length-mid (8 * place) 8 text digits (omega (arith, all, low)) long;
  own = λ k under. mid-in (8 * place) 8 text digits k (omega (arith, under, long)) (omega (arith, all, low)) ∙ are k under;
  before = λ i under. mid-below (8 * place) 8 text digits i under (omega (arith, all, low));
}

-- of a word's characters so many times eight are put to their place
pub record ArePutOf (place word done : ℕ) (old new : List ℕ) : Type 0 where
  pub all : length new ≡ length old
  pub own : (k : ℕ) → k < 8 * done → get_or new (64 * place + k) 0 ≡ digit_of (bit_in word k)
  pub before : (i : ℕ) → i < 64 * place → get_or new i 0 ≡ get_or old i 0

-- eight characters more
pub put_more : (start old new : List ℕ) (place word j byte at : ℕ) → j < 8 → at ≡ 8 * place + j → ArePutOf place word j start old → byte ≡ get_or (to_be_bytes w64 word) j 0
    → AreDigitsPut 8 at (bit_of byte) old new → ArePutOf place word (j + 1) start new
put_more start old new place word j byte at low at_is was is put = record {
  all = put.all ∙ was.all;
  own = λ k under. own k under (nat_lt k (8 * j)) refl;
  before = λ i under. put.before i (omega (arith, under, at_is)) ∙ was.before i under;
}
  where
    own : (k : ℕ) → k < 8 * (j + 1) → (t : Bool) → nat_lt k (8 * j) ≡ t → get_or new (64 * place + k) 0 ≡ digit_of (bit_in word k)
    own k under true e = let less : k < 8 * j = grind (arith, nat_tests) in put.before (64 * place + k) (omega (arith, less, at_is)) ∙ was.own k less
    own k under false e =
        let from : 8 * j ≤ k = grind (arith, nat_tests) in
        let k_low : k - 8 * j < 8 = omega (arith, under, from) in
        let there : 64 * place + k ≡ 8 * at + (k - 8 * j) = omega (arith, from, at_is) in
        let bit : 8 * j + (k - 8 * j) ≡ k = omega (arith, from) in
        ap (λ m. get_or new m 0) there ∙ put.own (k - 8 * j) k_low
        ∙ ap (λ b. digit_of (bit_of b (k - 8 * j))) is
        ∙ ap digit_of (word_byte word j (k - 8 * j) low k_low ∙ ap (bit_in word) bit)

-- the characters of one word more
pub words_more : (old new words : List ℕ) (place word : ℕ) → HasDigits old words place → word ≡ get_or words place 0 → AreDigitsPut 64 place (bit_in word) old new → HasDigits new words (place + 1)
unfolding place_bit
words_more old new words place word had is put n under = by_side (nat_lt n (64 * place)) refl
  where
    by_side : (t : Bool) → nat_lt n (64 * place) ≡ t → get_or new n 0 ≡ digit_of (bit_in (get_or words (n / 64) 0) (n % 64))
    by_side true e = let less : n < 64 * place = grind (arith, nat_tests) in put.before n less ∙ had n less
    by_side false e =
        let from : 64 * place ≤ n = grind (arith, nat_tests) in
        let there : n ≡ 64 * place + n % 64 = omega (arith, under, from) in
        let here : place ≡ n / 64 = omega (arith, under, from) in
        ap (λ m. get_or new m 0) there ∙ put.own (n % 64) (omega arith) ∙ ap (λ d. digit_of (bit_in d (n % 64))) (is ∙ ap (λ m. get_or words m 0) here)

-- the characters of a line of a row
pub line_is : (width : ℕ) (black : PixelSet) (v : ℕ) (words digits : List ℕ) (line from end : ℕ) → HasDigits digits words (length words) → length digits ≡ 1024 → width ≤ 1024 → width ≤ 64 * length words
    → ((h : ℕ) → h < width → place_bit words h ≡ black (record { h = pos h; v = pos v })) → from ≡ 70 * line → end ≡ min width (from + 70)
    → take (end - from) (drop from digits) ++ 10 ∷ [] ≡ line_text (row_digits width black v) line
line_is width black v words digits line from end had all narrow wide bits from_is end_is =
    ap (λ (l : List ℕ). l ++ 10 ∷ []) part ∙ line_text-row width black v line from (end - from) from_is (omega (arith, end_is))
  where
    value : ℕ → ℕ
    value h = digit_of (black (record { h = pos h; v = pos v }))

    long : length (take (end - from) (drop from digits)) ≡ end - from
    long = length-take (end - from) (drop from digits) ∙ omega (arith, length-drop from digits, all, narrow, end_is)

    each : (k : ℕ) → k < length (take (end - from) (drop from digits)) → get_or (take (end - from) (drop from digits)) k 0 ≡ get_or (map value (range_with_len from (end - from))) k 0
    each k low =
        let within : k < end - from = omega (arith, low, long) in
        let on : from + k < width = omega (arith, within, end_is) in
        get_or-take (end - from) (drop from digits) k 0 within ∙ get_or-drop from digits k 0
        ∙ had (from + k) (omega (arith, on, wide)) ∙ ap digit_of (bits (from + k) on)
        ∙ sym (get_or-map-range_with_len value from (end - from) k (from + k) 0 within refl)

    part : take (end - from) (drop from digits) ≡ map value (range_with_len from (end - from))
    part = ext_get_or 0 (take (end - from) (drop from digits)) (map value (range_with_len from (end - from))) (long ∙ sym (length-map-range_with_len value from (end - from))) each
