-- Words of the bits of bytes.
use Rattle.std.proofs.Common.{◌≡◌, ℕ, ◌+◌, ◌-◌, ◌*◌, ◌/◌, ◌%◌, ◌^◌, ◌<◌, ◌≤◌, ◌≤ℤ◌, ◌+ℤ◌, ℤ, pos, negsuc, nat_abs, Bool, true, false, ◌&&◌, cond, nat_eq, nat_lt, List, get_or, refl, sym, ap, ◌∙◌, arith}
use Rattle.std.specs.Int.{bit_at}
use Rattle.std.proofs.lemmas.Bool.Decides.{nat_tests}
use Rattle.std.proofs.lemmas.Int.{ints}
use Rattle.std.proofs.lemmas.Nat.{pow-add, pow_below}
use Rattle.std.proofs.lemmas.Nat.Bits.{bit_at_cat_low, bit_at_cat_high}
use Rattle.tb_geom.specs.declared.point.Point.{Point}
use Rattle.bit_map.specs.Bits.{is_below}
use Rattle.bit_map.specs.Images.{Image, image_holds, image_bit}
use Rattle.bit_map.specs.Patterns.{bit_of}
use Rattle.bit_map.specs.Rules.{right_of}
use Rattle.bit_map.specs.Words.{bit_in}
use Rattle.bit_map.proofs.WordLemmas.{bit_in-left}

-- a number has the bits of so many bytes, the first one high
abbrev pub HasBytes : List ℕ → ℕ → ℕ → ℕ → Type 0
HasBytes bytes place j word = (k : ℕ) → k < 8 * j → nat_eq (word / 2 ^ (8 * j - 1 - k) % 2) 1 ≡ bit_of (get_or bytes (place + k / 8) 0) (k % 8)

pub few_bytes : (j word : ℕ) → j < 8 → word < 2 ^ (8 * j) → word < 2 ^ 56
few_bytes j word low small = by_test (nat_lt j 7) refl
  where
    by_test : (t : Bool) → nat_lt j 7 ≡ t → word < 2 ^ 56
    by_test true e =
        let less : j < 7 = grind (arith, nat_tests) in
        omega (arith, small, pow_below (8 * j) 56 (omega (arith, less)))
    by_test false e =
        let same : j ≡ 7 = grind (arith, nat_tests) in
        let bits : 8 * j ≡ 56 = omega (arith, same) in
        rw bits at small

pub byte_more : (bytes : List ℕ) (place j word byte : ℕ) → byte < 256 → byte ≡ get_or bytes (place + j) 0 → word < 2 ^ (8 * j) → HasBytes bytes place j word
    → (word * 256 + byte < 2 ^ (8 * (j + 1))) × HasBytes bytes place (j + 1) (word * 256 + byte)
byte_more bytes place j word byte small is low done = (fits, each)
  where
    more : 8 * (j + 1) ≡ 8 * j + 8
    more = omega arith

    fits : word * 256 + byte < 2 ^ (8 * (j + 1))
    fits = rw more (omega (arith, pow-add 2 (8 * j) 8, low, small))

    each : HasBytes bytes place (j + 1) (word * 256 + byte)
    each k under = by_test (nat_lt k (8 * j)) refl
      where
        by_test : (t : Bool) → nat_lt k (8 * j) ≡ t → nat_eq (bit_at (word * 2 ^ 8 + byte) (8 * (j + 1) - 1 - k)) 1 ≡ bit_of (get_or bytes (place + k / 8) 0) (k % 8)
        by_test true e =
            let before : k < 8 * j = grind (arith, nat_tests) in
            let at : 8 * (j + 1) - 1 - k - 8 ≡ 8 * j - 1 - k = omega (arith, before) in
            ap (λ n. nat_eq n 1) (bit_at_cat_high word 8 byte (8 * (j + 1) - 1 - k) small (omega (arith, before)) ∙ ap (bit_at word) at) ∙ done k before
        by_test false e =
            let after : 8 * j ≤ k = grind (arith, nat_tests) in
            let at : 8 * (j + 1) - 1 - k ≡ 7 - k % 8 = omega (arith, after, under) in
            let here : place + j ≡ place + k / 8 = omega (arith, after, under) in
            ap (λ n. nat_eq n 1) (bit_at_cat_low word 8 byte (8 * (j + 1) - 1 - k) (omega (arith, after, under)) ∙ λ i. bit_at ((is ∙ ap (λ n. get_or bytes n 0) here) i) (at i))

pub bytes_all : (bytes : List ℕ) (place j word : ℕ) → j ≡ 8 → HasBytes bytes place j word → (k : ℕ) → k < 64 → bit_in word k ≡ bit_of (get_or bytes (place + k / 8) 0) (k % 8)
unfolding bit_in
bytes_all bytes place j word e done k low =
    let at : 63 - k ≡ 8 * j - 1 - k = omega (arith, e) in
    ap (λ n. nat_eq (bit_at word n) 1) at ∙ done k (omega (arith, e, low))

-- a byte at the high end of a word
pub high_byte : (byte k : ℕ) → byte < 256 → k < 8 → bit_in (byte * 2 ^ 56 % 2 ^ 64) k ≡ bit_of byte k
unfolding bit_in
high_byte byte k small low =
    let at : 63 - (k + 56) ≡ 7 - k = omega (arith, low) in
    bit_in-left byte 56 k (omega (arith, low)) ∙ ap (λ n. nat_eq (bit_at byte n) 1) at

pub bytes_joined : (bytes : List ℕ) (place first near far k : ℕ) → first < 8 → k < 64
    → ((j : ℕ) → j < 64 → bit_in near j ≡ bit_of (get_or bytes (place + j / 8) 0) (j % 8))
    → ((j : ℕ) → j < 8 → bit_in far j ≡ bit_of (get_or bytes (place + 8) 0) j)
    → cond (nat_lt (first + k) 64) (bit_in near (first + k)) (bit_in far (first + k - 64)) ≡ bit_of (get_or bytes (place + (first + k) / 8) 0) ((first + k) % 8)
bytes_joined bytes place first near far k f low is_near is_far = by_test (nat_lt (first + k) 64) refl
  where
    by_test : (t : Bool) → nat_lt (first + k) 64 ≡ t → cond t (bit_in near (first + k)) (bit_in far (first + k - 64)) ≡ bit_of (get_or bytes (place + (first + k) / 8) 0) ((first + k) % 8)
    by_test true e = is_near (first + k) (grind (arith, nat_tests))
    by_test false e =
        let past : 64 ≤ first + k = grind (arith, nat_tests) in
        let at : place + 8 ≡ place + (first + k) / 8 = omega (arith, past, f, low) in
        let bit : first + k - 64 ≡ (first + k) % 8 = omega (arith, past, f, low) in
        is_far (first + k - 64) (omega (arith, past, f, low)) ∙ λ i. bit_of (get_or bytes (at i) 0) (bit i)

further : (x : ℤ) (k : ℕ) → pos 0 ≤ℤ x → nat_abs (x +ℤ pos k) ≡ nat_abs x + k
further (pos n) k low = refl
further (negsuc n) k low = absurd (omega (arith, ints))

-- the bits from a pixel of an image on
pub image_word : (i : Image) (start : Point) (k : ℕ) → pos 0 ≤ℤ start.h
    → bit_of (get_or i.rows (nat_abs start.v * ((i.width + 7) / 8) + nat_abs start.h / 8 + (nat_abs start.h % 8 + k) / 8) 0) ((nat_abs start.h % 8 + k) % 8) ≡ image_bit i (right_of start k)
unfolding image_bit
image_word i start k low =
    let x = nat_abs start.h in
    let there : nat_abs (start.h +ℤ pos k) ≡ x + k = further start.h k low in
    let q : x / 8 + (x % 8 + k) / 8 ≡ (x + k) / 8 = omega arith in
    let r : (x % 8 + k) % 8 ≡ (x + k) % 8 = omega arith in
    let at : nat_abs start.v * ((i.width + 7) / 8) + x / 8 + (x % 8 + k) / 8 ≡ nat_abs start.v * ((i.width + 7) / 8) + (x + k) / 8 = omega (arith, q) in
    (λ j. bit_of (get_or i.rows (at j) 0) (r j)) ∙ sym (ap (λ n. bit_of (get_or i.rows (nat_abs start.v * ((i.width + 7) / 8) + n / 8) 0) (n % 8)) there)

-- a row that the image lacks has no pixel
pub image_row_off : (i : Image) (p : Point) → is_below i.height p.v ≡ false → image_holds i p ≡ false
unfolding image_holds
image_row_off i p off = ap (λ b. is_below i.width p.h && b) off ∙ none (is_below i.width p.h)
  where
    none : (a : Bool) → (a && false) ≡ false
    none true = refl
    none false = refl

-- of a row that it has, the image has the pixels in its columns
pub image_row_on : (i : Image) (p : Point) → is_below i.height p.v ≡ true → image_holds i p ≡ is_below i.width p.h
unfolding image_holds
image_row_on i p on = ap (λ b. is_below i.width p.h && b) on ∙ all (is_below i.width p.h)
  where
    all : (a : Bool) → (a && true) ≡ a
    all true = refl
    all false = refl
