-- Bytes of the bits of words.
use Rattle.std.proofs.Common.{◌≡◌, ◌≢◌, ℕ, zero, suc, pos, ◌+◌, ◌-◌, ◌*◌, ◌/◌, ◌%◌, ◌^◌, ◌<◌, ◌≤◌, Bool, true, false, ◌&&◌, min, nat_eq, nat_lt, List, map, take, get_or, set, length, refl, sym, ap, ◌∙◌, arith}
use Rattle.std.specs.Int.{bit_at, to_be_bytes, w64}
use Rattle.std.specs.Int.Bits.{bit_and}
use Rattle.std.specs.List.{range_with_len}
use Rattle.std.proofs.Math.Pow.{shr-shr}
use Rattle.std.proofs.lemmas.Bool.Decides.{nat_tests}
use Rattle.std.proofs.lemmas.List.{ext_get_or, length-take, get_or-take, get_or-set_same, get_or-set_other}
use Rattle.std.proofs.lemmas.List.FromFn.{get_or-map-range_with_len, length-map-range_with_len}
use Rattle.std.proofs.lemmas.Nat.Bits.{bit_at-lt, bit_at_and, bit_at_cat_low, bit_at_mask_below, bit_at_mask_inside}
use Rattle.tb_geom.specs.Points.{PixelSet}
use Rattle.bit_map.specs.Patterns.{bit_of}
use Rattle.bit_map.specs.Words.{bit_in, place_bit}
use Rattle.bit_map.proofs.PartLemmas.{mid, mid-below, mid-in, length-mid}
use Rattle.screen_pbm.specs.Packed.{HasBits, IsPut}
use Rattle.screen_pbm.specs.Pbm.{row_byte, row_bytes}
use Rattle.screen_pbm.proofs.PackedLaws.{digit, is_black, row_byte-is}

-- the bits of a number below its ninth
low_byte : (m k : ℕ) → k < 8 → bit_at (m % 256) k ≡ bit_at m k
low_byte m k low = sym (bit_at_cat_low (m / 256) 8 (m % 256) k low) ∙ ap (λ n. bit_at n k) whole
  where
    whole : m / 256 * 256 + m % 256 ≡ m
    whole = omega arith

-- a byte of a word, `s` bits above its lowest one
byte_above : (n s j k : ℕ) → k < 8 → s + (7 - k) ≡ 63 - (8 * j + k) → bit_of (n / 2 ^ s % 256) k ≡ bit_in n (8 * j + k)
unfolding bit_in
byte_above n s j k low at =
    ap (λ d. nat_eq d 1) (low_byte (n / 2 ^ s) (7 - k) (omega arith) ∙ ap (λ d. d % 2) (shr-shr n s (7 - k)) ∙ ap (bit_at n) at)

-- the bytes of a word, the high one first, have its bits
pub word_byte : (n j k : ℕ) → j < 8 → k < 8 → bit_of (get_or (to_be_bytes w64 n) j 0) k ≡ bit_in n (8 * j + k)
unfolding bit_in
word_byte n zero k at low = byte_above n 56 0 k low (omega (arith, low))
word_byte n (suc zero) k at low = byte_above n 48 1 k low (omega (arith, low))
word_byte n (suc (suc zero)) k at low = byte_above n 40 2 k low (omega (arith, low))
word_byte n (suc (suc (suc zero))) k at low = byte_above n 32 3 k low (omega (arith, low))
word_byte n (suc (suc (suc (suc zero)))) k at low = byte_above n 24 4 k low (omega (arith, low))
word_byte n (suc (suc (suc (suc (suc zero))))) k at low = byte_above n 16 5 k low (omega (arith, low))
word_byte n (suc (suc (suc (suc (suc (suc zero)))))) k at low = byte_above n 8 6 k low (omega (arith, low))
word_byte n (suc (suc (suc (suc (suc (suc (suc zero))))))) k at low =
    let there : 7 - k ≡ 63 - (56 + k) = omega (arith, low) in
    ap (λ d. nat_eq d 1) (low_byte n (7 - k) (omega arith) ∙ ap (bit_at n) there)
word_byte n (suc (suc (suc (suc (suc (suc (suc (suc j)))))))) k at low = absurd (omega (arith, at))

-- a word that is put to its place
pub put_is : (bytes : List ℕ) (place word : ℕ) → length bytes ≡ 128 → place < 16 → IsPut place word bytes (mid (8 * place) 8 bytes (to_be_bytes w64 word))
put_is bytes place word all low = record {
  all = length-mid (8 * place) 8 bytes (to_be_bytes w64 word) (omega (arith, all, low)) refl;
  own = λ k under.
      let here : 8 * (k / 8) + k % 8 ≡ k = omega arith in
      ap (λ d. bit_of d (k % 8)) (mid-in (8 * place) 8 bytes (to_be_bytes w64 word) (k / 8) (omega (arith, under)) (omega (arith, all, low)))
      ∙ word_byte word (k / 8) (k % 8) (omega (arith, under)) (omega arith) ∙ ap (bit_in word) here;
  before = λ i under. mid-below (8 * place) 8 bytes (to_be_bytes w64 word) i under (omega (arith, all, low));
}

-- one word more
pub bits_more : (old new words : List ℕ) (place word : ℕ) → HasBits old words place → word ≡ get_or words place 0 → IsPut place word old new → HasBits new words (place + 1)
unfolding place_bit
bits_more old new words place word done is put n low = by_test (nat_lt n (64 * place)) refl
  where
    by_test : (t : Bool) → nat_lt n (64 * place) ≡ t → bit_of (get_or new (n / 8) 0) (n % 8) ≡ bit_in (get_or words (n / 64) 0) (n % 64)
    by_test true e =
        let before : n < 64 * place = grind (arith, nat_tests) in
        ap (λ d. bit_of d (n % 8)) (put.before (n / 8) (omega (arith, before))) ∙ done n before
    by_test false e =
        let past : 64 * place ≤ n = grind (arith, nat_tests) in
        let at : n / 8 ≡ 8 * place + n % 64 / 8 = omega (arith, past, low) in
        let bit : n % 8 ≡ n % 64 % 8 = omega arith in
        let here : place ≡ n / 64 = omega (arith, past, low) in
        (λ i. bit_of (get_or new (at i) 0) (bit i)) ∙ put.own (n % 64) (omega arith) ∙ ap (λ d. bit_in d (n % 64)) (is ∙ ap (λ j. get_or words j 0) here)

-- ---- a row

-- a digit of 0 or 1
digit_of_parity : (y : ℕ) → y < 2 → digit (nat_eq y 1) ≡ y
digit_of_parity zero low = refl
digit_of_parity (suc zero) low = refl
digit_of_parity (suc (suc y)) low = absurd (omega (arith, low))

-- a byte is the sum of its digits
byte_of_digits : (b : ℕ) → b < 256 → let w = λ (j : ℕ). digit (bit_of b j) in
    b ≡ 128 * w 0 + 64 * w 1 + 32 * w 2 + 16 * w 3 + 8 * w 4 + 4 * w 5 + 2 * w 6 + w 7
byte_of_digits b small =
    omega (
      arith,
      small,
      digit_of_parity (b / 2 ^ 7 % 2) (omega arith),
      digit_of_parity (b / 2 ^ 6 % 2) (omega arith),
      digit_of_parity (b / 2 ^ 5 % 2) (omega arith),
      digit_of_parity (b / 2 ^ 4 % 2) (omega arith),
      digit_of_parity (b / 2 ^ 3 % 2) (omega arith),
      digit_of_parity (b / 2 ^ 2 % 2) (omega arith),
      digit_of_parity (b / 2 ^ 1 % 2) (omega arith),
      digit_of_parity (b / 2 ^ 0 % 2) (omega arith),
    )

-- a byte with the bits of a row's eight pixels
byte_is : (width : ℕ) (black : PixelSet) (v k b : ℕ) → b < 256 → ((i : ℕ) → i < 8 → bit_of b i ≡ is_black width black v (8 * k + i)) → b ≡ row_byte width black v k
byte_is width black v k b small is =
    byte_of_digits b small
    ∙ (λ t. 128 * digit (is 0 (omega arith) t) + 64 * digit (is 1 (omega arith) t) + 32 * digit (is 2 (omega arith) t) + 16 * digit (is 3 (omega arith) t)
    + 8 * digit (is 4 (omega arith) t) + 4 * digit (is 5 (omega arith) t) + 2 * digit (is 6 (omega arith) t) + digit (is 7 (omega arith) t))
    ∙ sym (row_byte-is width black v k)

-- the bytes of a row have its pixels, and are white past the width
abbrev pub IsRow : ℕ → PixelSet → ℕ → List ℕ → Type 0
IsRow width black v bytes = (h : ℕ) → h < 8 * ((width + 7) / 8) → bit_of (get_or bytes (h / 8) 0) (h % 8) ≡ is_black width black v h

pub row_is : (width : ℕ) (black : PixelSet) (v : ℕ) (bytes : List ℕ) → length bytes ≡ 128 → width ≤ 1024 → ((i : ℕ) → get_or bytes i 0 < 256)
    → IsRow width black v bytes → take ((width + 7) / 8) bytes ≡ row_bytes width black v
unfolding row_bytes
row_is width black v bytes all narrow small is = ext_get_or 0 (take n bytes) (map (row_byte width black v) (range_with_len 0 n)) (omega (arith, long, length-map-range_with_len (row_byte width black v) 0 n)) each
  where
    n : ℕ
    n = (width + 7) / 8

    long : length (take n bytes) ≡ n
    long = length-take n bytes ∙ omega (arith, all, narrow)

    each : (i : ℕ) → i < length (take n bytes) → get_or (take n bytes) i 0 ≡ get_or (map (row_byte width black v) (range_with_len 0 n)) i 0
    each i low =
        let within : i < n = omega (arith, low, long) in
        get_or-take n bytes i 0 within
        ∙ byte_is width black v i (get_or bytes i 0) (small i) (λ k under.
        let byte : (8 * i + k) / 8 ≡ i = omega (arith, under) in
        let bit : (8 * i + k) % 8 ≡ k = omega (arith, under) in
        (λ t. bit_of (get_or bytes (sym byte t) 0) (sym bit t)) ∙ is (8 * i + k) (omega (arith, within, under)))
        ∙ sym (get_or-map-range_with_len (row_byte width black v) 0 n i i 0 within (omega arith))

-- the bits of the words of a row
pub row_of_words : (width : ℕ) (black : PixelSet) (v : ℕ) (bytes words : List ℕ) → length words ≡ (width + 63) / 64 → HasBits bytes words (length words)
    → ((h : ℕ) → h < width → place_bit words h ≡ black (record { h = pos h; v = pos v })) → (h : ℕ) → h < width → bit_of (get_or bytes (h / 8) 0) (h % 8) ≡ is_black width black v h
row_of_words width black v bytes words all has is h low =
    let inside : nat_lt h width ≡ true = grind (arith, nat_tests) in
    has h (omega (arith, all, low)) ∙ is h low ∙ ap (λ t. t && black (record { h = pos h; v = pos v })) (sym inside)

-- ---- a last byte that is cut

mask_is : (s : ℕ) → s < 8 → 255 * 2 ^ s % 2 ^ 8 ≡ 2 ^ 8 - 2 ^ s
mask_is zero low = refl
mask_is (suc zero) low = refl
mask_is (suc (suc zero)) low = refl
mask_is (suc (suc (suc zero))) low = refl
mask_is (suc (suc (suc (suc zero)))) low = refl
mask_is (suc (suc (suc (suc (suc zero))))) low = refl
mask_is (suc (suc (suc (suc (suc (suc zero)))))) low = refl
mask_is (suc (suc (suc (suc (suc (suc (suc zero))))))) low = refl
mask_is (suc (suc (suc (suc (suc (suc (suc (suc s)))))))) low = absurd (omega (arith, low))

both-one : (a : ℕ) → a < 2 → (nat_eq a 1 && true) ≡ nat_eq (min a 1) 1
both-one zero low = refl
both-one (suc zero) low = refl
both-one (suc (suc a)) low = absurd (omega (arith, low))

and_one : (a : Bool) → (a && true) ≡ a
and_one true = refl
and_one false = refl

and_none : (a : Bool) → (a && false) ≡ false
and_none true = refl
and_none false = refl

both-none : (a : ℕ) → (nat_eq a 1 && false) ≡ nat_eq (min a 0) 1
both-none a = let none : min a 0 ≡ 0 = omega arith in and_none (nat_eq a 1) ∙ sym (ap (λ n. nat_eq n 1) none)

-- of a byte whose last bits become white the first `r` stay
cut_byte : (b r k : ℕ) → 0 < r → r < 8 → k < 8 → bit_of (bit_and b (255 * 2 ^ (8 - r) % 2 ^ 8)) k ≡ (bit_of b k && nat_lt k r)
cut_byte b r k some few low = by_test (nat_lt k r) refl
  where
    mask : ℕ
    mask = 255 * 2 ^ (8 - r) % 2 ^ 8

    both : bit_of (bit_and b mask) k ≡ nat_eq (min (bit_at b (7 - k)) (bit_at (2 ^ 8 - 2 ^ (8 - r)) (7 - k))) 1
    both = ap (λ n. nat_eq n 1) (bit_at_and b mask (7 - k) ∙ ap (λ m. min (bit_at b (7 - k)) (bit_at m (7 - k))) (mask_is (8 - r) (omega (arith, some))))

    by_test : (t : Bool) → nat_lt k r ≡ t → bit_of (bit_and b mask) k ≡ (bit_of b k && t)
    by_test true e =
        let before : k < r = grind (arith, nat_tests) in
        both ∙ ap (λ n. nat_eq (min (bit_at b (7 - k)) n) 1) (bit_at_mask_inside (8 - r) 8 (7 - k) (omega (arith, before, few)) (omega arith)) ∙ sym (both-one (bit_at b (7 - k)) (bit_at-lt b (7 - k)))
    by_test false e =
        let past : r ≤ k = grind (arith, nat_tests) in
        both ∙ ap (λ n. nat_eq (min (bit_at b (7 - k)) n) 1) (bit_at_mask_below (8 - r) 8 (7 - k) (omega (arith, past, low, some))) ∙ sym (both-none (bit_at b (7 - k)))

-- a row whose last byte is cut
pub cut_row : (width : ℕ) (black : PixelSet) (v : ℕ) (bytes : List ℕ) → length bytes ≡ 128 → width ≤ 1024 → 0 < width % 8
    → ((h : ℕ) → h < width → bit_of (get_or bytes (h / 8) 0) (h % 8) ≡ is_black width black v h)
    → IsRow width black v (set bytes (width / 8) (bit_and (get_or bytes (width / 8) 0) (255 * 2 ^ (8 - width % 8) % 2 ^ 8)))
cut_row width black v bytes all narrow rest is h low = by_test (nat_lt (h / 8) (width / 8)) refl
  where
    new : List ℕ
    new = set bytes (width / 8) (bit_and (get_or bytes (width / 8) 0) (255 * 2 ^ (8 - width % 8) % 2 ^ 8))

    last : h / 8 ≡ width / 8 → bit_of (get_or bytes (width / 8) 0) (h % 8) && nat_lt (h % 8) (width % 8) ≡ is_black width black v h
    last here = by_column (nat_lt h width) refl
      where
        at : nat_lt (h % 8) (width % 8) ≡ nat_lt h width
        at = grind (arith, nat_tests)

        by_column : (t : Bool) → nat_lt h width ≡ t → (bit_of (get_or bytes (width / 8) 0) (h % 8) && nat_lt (h % 8) (width % 8)) ≡ is_black width black v h
        by_column true e =
            let inside : h < width = grind (arith, nat_tests) in
            (λ t. (ap (λ j. bit_of (get_or bytes j 0) (h % 8)) (sym here) ∙ is h inside) t && (at ∙ e) t)
            ∙ (λ t. (e t && black (record { h = pos h; v = pos v })) && true) ∙ and_one (black (record { h = pos h; v = pos v })) ∙ ap (λ t. t && black (record { h = pos h; v = pos v })) (sym e)
        by_column false e =
            ap (λ t. bit_of (get_or bytes (width / 8) 0) (h % 8) && t) (at ∙ e) ∙ and_none (bit_of (get_or bytes (width / 8) 0) (h % 8)) ∙ ap (λ t. t && black (record { h = pos h; v = pos v })) (sym e)

    by_test : (t : Bool) → nat_lt (h / 8) (width / 8) ≡ t → bit_of (get_or new (h / 8) 0) (h % 8) ≡ is_black width black v h
    by_test true e =
        let before : h / 8 < width / 8 = grind (arith, nat_tests) in
        let other : h / 8 ≢ width / 8 = λ same. omega (arith, before, same) in
        ap (λ d. bit_of d (h % 8)) (get_or-set_other bytes (width / 8) (h / 8) _ 0 other) ∙ is h (omega (arith, before))
    by_test false e =
        let past : width / 8 ≤ h / 8 = grind (arith, nat_tests) in
        let here : h / 8 ≡ width / 8 = omega (arith, past, low, rest) in
        ap (λ j. bit_of (get_or new j 0) (h % 8)) here
        ∙ ap (λ d. bit_of d (h % 8)) (get_or-set_same bytes (width / 8) _ 0 (omega (arith, all, narrow, rest)))
        ∙ cut_byte (get_or bytes (width / 8) 0) (width % 8) (h % 8) rest (omega arith) (omega arith)
        ∙ last here
