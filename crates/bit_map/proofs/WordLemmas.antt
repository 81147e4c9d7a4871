-- The bits of words of 64 bits.
use Rattle.std.proofs.Common.{◌≡◌, ℕ, zero, suc, ◌+◌, ◌-◌, ◌*◌, ◌/◌, ◌%◌, ◌^◌, ◌<◌, ◌≤◌, Bool, true, false, ◌&&◌, ◌||◌, not, cond, nat_eq, nat_le, nat_lt, min, max, List, length, get_or, set, ◌≢◌, ℤ, pos, negsuc, nat_abs, ◌+ℤ◌, ◌<ℤ◌, ◌≤ℤ◌, refl, sym, ap, ◌∙◌, ◌⊎◌, inl, inr, arith}
use Rattle.std.specs.Int.{bit_at, w64}
use Rattle.std.specs.Prelude.{bit_and, bit_or, bit_xor}
use Rattle.std.proofs.lemmas.Bool.Decides.{nat_tests}
use Rattle.std.proofs.lemmas.Nat.{pow_pos, shr-shr}
use Rattle.std.proofs.lemmas.Nat.Bits.{bit_at_and, bit_at_or, bit_at_xor, bit_at-lt, bit_at_ones, bit_at_not, bit_at-zero, bit_at_above, bit_at_cat_low, bit_at_cat_high}
use Rattle.std.proofs.lemmas.Int.{ints}
use Rattle.bit_map.specs.Bits.{is_below}
use Rattle.bit_map.specs.Modes.{xor_bit}
use Rattle.std.proofs.lemmas.List.{get_or-set_same, get_or-set_other}
use Rattle.bit_map.specs.Words.{bit_in, place_bit}

-- a number that is 0 or 1
is_digit : (n : ℕ) → n < 2 → (n ≡ 0) ⊎ (n ≡ 1)
is_digit zero l = inl refl
is_digit (suc zero) l = inr refl
is_digit (suc (suc n)) l = absurd (omega arith)

both_digits : (a b c : ℕ) → a < 2 → b < 2 → c ≡ min a b → nat_eq c 1 ≡ (nat_eq a 1 && nat_eq b 1)
both_digits a b c la lb e = by_digit (is_digit a la) (is_digit b lb)
  where
    by_digit : (a ≡ 0) ⊎ (a ≡ 1) → (b ≡ 0) ⊎ (b ≡ 1) → nat_eq c 1 ≡ (nat_eq a 1 && nat_eq b 1)
    by_digit (inl x) (inl y) = rw (e, x, y) refl
    by_digit (inl x) (inr y) = rw (e, x, y) refl
    by_digit (inr x) (inl y) = rw (e, x, y) refl
    by_digit (inr x) (inr y) = rw (e, x, y) refl

either_digit : (a b c : ℕ) → a < 2 → b < 2 → c ≡ max a b → nat_eq c 1 ≡ (nat_eq a 1 || nat_eq b 1)
either_digit a b c la lb e = by_digit (is_digit a la) (is_digit b lb)
  where
    by_digit : (a ≡ 0) ⊎ (a ≡ 1) → (b ≡ 0) ⊎ (b ≡ 1) → nat_eq c 1 ≡ (nat_eq a 1 || nat_eq b 1)
    by_digit (inl x) (inl y) = rw (e, x, y) refl
    by_digit (inl x) (inr y) = rw (e, x, y) refl
    by_digit (inr x) (inl y) = rw (e, x, y) refl
    by_digit (inr x) (inr y) = rw (e, x, y) refl

one_digit : (a b c : ℕ) → a < 2 → b < 2 → c ≡ (a + b) % 2 → nat_eq c 1 ≡ xor_bit (nat_eq a 1) (nat_eq b 1)
one_digit a b c la lb e = by_digit (is_digit a la) (is_digit b lb)
  where
    by_digit : (a ≡ 0) ⊎ (a ≡ 1) → (b ≡ 0) ⊎ (b ≡ 1) → nat_eq c 1 ≡ xor_bit (nat_eq a 1) (nat_eq b 1)
    by_digit (inl x) (inl y) = rw (e, x, y) refl
    by_digit (inl x) (inr y) = rw (e, x, y) refl
    by_digit (inr x) (inl y) = rw (e, x, y) refl
    by_digit (inr x) (inr y) = rw (e, x, y) refl

other_digit : (a c : ℕ) → a < 2 → c ≡ 1 - a → nat_eq c 1 ≡ not (nat_eq a 1)
other_digit a c la e = by_digit (is_digit a la)
  where
    by_digit : (a ≡ 0) ⊎ (a ≡ 1) → nat_eq c 1 ≡ not (nat_eq a 1)
    by_digit (inl x) = rw (e, x) refl
    by_digit (inr x) = rw (e, x) refl

-- ---- the bits of what operators make

pub bit_in-and : (a b k : ℕ) → bit_in (bit_and a b) k ≡ (bit_in a k && bit_in b k)
unfolding bit_in
bit_in-and a b k = both_digits (bit_at a (63 - k)) (bit_at b (63 - k)) _ (bit_at-lt a (63 - k)) (bit_at-lt b (63 - k)) (bit_at_and a b (63 - k))

pub bit_in-or : (a b k : ℕ) → bit_in (bit_or a b) k ≡ (bit_in a k || bit_in b k)
unfolding bit_in
bit_in-or a b k = either_digit (bit_at a (63 - k)) (bit_at b (63 - k)) _ (bit_at-lt a (63 - k)) (bit_at-lt b (63 - k)) (bit_at_or a b (63 - k))

pub bit_in-xor : (a b k : ℕ) → bit_in (bit_xor a b) k ≡ xor_bit (bit_in a k) (bit_in b k)
unfolding bit_in
bit_in-xor a b k = one_digit (bit_at a (63 - k)) (bit_at b (63 - k)) _ (bit_at-lt a (63 - k)) (bit_at-lt b (63 - k)) (bit_at_xor a b (63 - k))

pub bit_in-not : (a k : ℕ) → a < 2 ^ 64 → bit_in (2 ^ 64 - 1 - a) k ≡ not (bit_in a k)
unfolding bit_in
bit_in-not a k l = other_digit (bit_at a (63 - k)) _ (bit_at-lt a (63 - k)) (bit_at_not w64 a (63 - k) l (omega arith))

pub bit_in-full : (k : ℕ) → bit_in (2 ^ 64 - 1) k ≡ true
unfolding bit_in
bit_in-full k = ap (λ n. nat_eq n 1) (bit_at_ones 64 (63 - k) (omega arith))

pub bit_in-none : (k : ℕ) → bit_in 0 k ≡ false
unfolding bit_in
bit_in-none k = ap (λ n. nat_eq n 1) (bit_at-zero (63 - k))

-- ---- a word that is shifted

pub bit_in-right : (a s k : ℕ) → s ≤ k → k < 64 → bit_in (a / 2 ^ s) k ≡ bit_in a (k - s)
unfolding bit_in
bit_in-right a s k low high =
    let e : s + (63 - k) ≡ 63 - (k - s) = omega arith in
    ap (λ n. nat_eq (n % 2) 1) (shr-shr a s (63 - k) ∙ ap (λ n. a / 2 ^ n) e)

pub bit_in-right_out : (a s k : ℕ) → a < 2 ^ 64 → k < s → k < 64 → bit_in (a / 2 ^ s) k ≡ false
unfolding bit_in
bit_in-right_out a s k small low high =
    ap (λ n. nat_eq (n % 2) 1) (shr-shr a s (63 - k)) ∙ ap (λ n. nat_eq n 1) (bit_at_above a 64 (s + (63 - k)) small (omega arith))

-- the bits of a number below a place
below_place : (a i : ℕ) → i < 64 → bit_at (a % 2 ^ 64) i ≡ bit_at a i
below_place a i low = sym (bit_at_cat_low (a / 2 ^ 64) 64 (a % 2 ^ 64) i low) ∙ ap (λ n. bit_at n i) (whole a)
  where
    whole : (n : ℕ) → n / 2 ^ 64 * 2 ^ 64 + n % 2 ^ 64 ≡ n
    whole n = omega arith

-- the bits of a number that is shifted to the left
moved_place : (a s i : ℕ) → s ≤ i → bit_at (a * 2 ^ s) i ≡ bit_at a (i - s)
moved_place a s i low = ap (λ n. bit_at n i) (more (a * 2 ^ s)) ∙ bit_at_cat_high a s 0 i (pow_pos s) low
  where
    more : (n : ℕ) → n ≡ n + 0
    more n = omega arith

-- and there are none below
emptied_place : (a s i : ℕ) → i < s → bit_at (a * 2 ^ s) i ≡ 0
emptied_place a s i low = ap (λ n. bit_at n i) (more (a * 2 ^ s)) ∙ bit_at_cat_low a s 0 i low ∙ bit_at-zero i
  where
    more : (n : ℕ) → n ≡ n + 0
    more n = omega arith

pub bit_in-left : (a s k : ℕ) → k + s < 64 → bit_in (a * 2 ^ s % 2 ^ 64) k ≡ bit_in a (k + s)
unfolding bit_in
bit_in-left a s k low =
    let e : 63 - k - s ≡ 63 - (k + s) = omega arith in
    ap (λ n. nat_eq n 1) (below_place (a * 2 ^ s) (63 - k) (omega arith) ∙ moved_place a s (63 - k) (omega arith) ∙ ap (bit_at a) e)

pub bit_in-left_out : (a s k : ℕ) → 64 ≤ k + s → k < 64 → bit_in (a * 2 ^ s % 2 ^ 64) k ≡ false
unfolding bit_in
bit_in-left_out a s k high low = ap (λ n. nat_eq n 1) (below_place (a * 2 ^ s) (63 - k) (omega arith) ∙ emptied_place a s (63 - k) (omega arith))

-- ---- masks

pub black_from-is : (place k : ℕ) → place ≤ 64 → k < 64 → bit_in ((2 ^ 64 - 1) / 2 ^ place) k ≡ nat_le place k
black_from-is place k within low = by_test (nat_le place k) refl
  where
    by_test : (t : Bool) → nat_le place k ≡ t → bit_in ((2 ^ 64 - 1) / 2 ^ place) k ≡ t
    by_test true e = bit_in-right (2 ^ 64 - 1) place k (grind (arith, nat_tests)) low ∙ bit_in-full (k - place)
    by_test false e = bit_in-right_out (2 ^ 64 - 1) place k (omega arith) (grind (arith, nat_tests)) low

pub black_between-is : (f e first end k : ℕ) → e < 2 ^ 64 → bit_in f k ≡ nat_le first k → bit_in e k ≡ nat_le end k → bit_in (bit_and f (2 ^ 64 - 1 - e)) k ≡ (nat_le first k && nat_lt k end)
black_between-is f e first end k small is_f is_e =
    bit_in-and f (2 ^ 64 - 1 - e) k ∙ (λ i. is_f i && (bit_in-not e k small ∙ ap not is_e ∙ turn) i)
  where
    turn : not (nat_le end k) ≡ nat_lt k end
    turn = grind (arith, nat_tests)

pub black_run-is : (first count k : ℕ) → 0 < count → first + count ≤ 64 → k < 64 → bit_in ((2 ^ 64 - 1) * 2 ^ (64 - count) % 2 ^ 64 / 2 ^ first) k ≡ (nat_le first k && nat_lt k (first + count))
black_run-is first count k some one low = by_first (nat_le first k) refl
  where
    all : ℕ
    all = (2 ^ 64 - 1) * 2 ^ (64 - count) % 2 ^ 64

    by_last : first ≤ k → (t : Bool) → nat_lt k (first + count) ≡ t → bit_in all (k - first) ≡ t
    by_last past true e =
        let under : k < first + count = grind (arith, nat_tests) in
        bit_in-left (2 ^ 64 - 1) (64 - count) (k - first) (omega (arith, past, under, some, one)) ∙ bit_in-full (k - first + (64 - count))
    by_last past false e =
        let over : first + count ≤ k = grind (arith, nat_tests) in
        bit_in-left_out (2 ^ 64 - 1) (64 - count) (k - first) (omega (arith, past, over, one)) (omega (arith, low))

    by_first : (t : Bool) → nat_le first k ≡ t → bit_in (all / 2 ^ first) k ≡ (t && nat_lt k (first + count))
    by_first true e =
        let past : first ≤ k = grind (arith, nat_tests) in
        bit_in-right all first k past low ∙ by_last past (nat_lt k (first + count)) refl
    by_first false e = bit_in-right_out all first k (omega arith) (grind (arith, nat_tests)) low

pub with_bit-is : (word none one k place : ℕ) (bit : Bool) → none < 2 ^ 64 → k < 64 → bit_in none k ≡ (nat_eq k place && true) → bit_in one k ≡ (nat_eq k place && bit)
    → bit_in (bit_or (bit_and word (2 ^ 64 - 1 - none)) one) k ≡ cond (nat_eq k place) bit (bit_in word k)
with_bit-is word none one k place bit small low is_none is_one =
    bit_in-or (bit_and word (2 ^ 64 - 1 - none)) one k
    ∙ (λ i. (bit_in-and word (2 ^ 64 - 1 - none) k ∙ ap (λ t. bit_in word k && t) (bit_in-not none k small ∙ ap not is_none)) i || is_one i)
    ∙ chosen (nat_eq k place) (bit_in word k) bit
  where
    chosen : (e w b : Bool) → ((w && not (e && true)) || (e && b)) ≡ cond e b w
    chosen true true b = refl
    chosen true false b = refl
    chosen false true b = refl
    chosen false false b = refl

pub blended-is : (old new mask k : ℕ) → bit_in (bit_xor old (bit_and (bit_xor old new) mask)) k ≡ cond (bit_in mask k) (bit_in new k) (bit_in old k)
blended-is old new mask k =
    bit_in-xor old (bit_and (bit_xor old new) mask) k
    ∙ ap (xor_bit (bit_in old k)) (bit_in-and (bit_xor old new) mask k ∙ ap (λ b. b && bit_in mask k) (bit_in-xor old new k))
    ∙ chosen (bit_in old k) (bit_in new k) (bit_in mask k)
  where
    chosen : (o n m : Bool) → xor_bit o (xor_bit o n && m) ≡ cond m n o
    chosen true true true = refl
    chosen true true false = refl
    chosen true false true = refl
    chosen true false false = refl
    chosen false true true = refl
    chosen false true false = refl
    chosen false false true = refl
    chosen false false false = refl

-- ---- words in a list

-- the bits of the k-th word
pub place_bit-in : (words : List ℕ) (k r : ℕ) → r < 64 → place_bit words (64 * k + r) ≡ bit_in (get_or words k 0) r
unfolding place_bit
place_bit-in words k r low =
    let q : (64 * k + r) / 64 ≡ k = omega arith in
    let m : (64 * k + r) % 64 ≡ r = omega arith in
    λ i. bit_in (get_or words (q i) 0) (m i)

-- the bits after a word was written
pub place_bit-here : (words : List ℕ) (i word n : ℕ) → i < length words → n / 64 ≡ i → place_bit (set words i word) n ≡ bit_in word (n % 64)
unfolding place_bit
place_bit-here words i word n within e = ap (λ j. bit_in (get_or (set words i word) j 0) (n % 64)) e ∙ ap (λ x. bit_in x (n % 64)) (get_or-set_same words i word 0 within)

pub place_bit-other : (words : List ℕ) (i word n : ℕ) → n / 64 ≢ i → place_bit (set words i word) n ≡ place_bit words n
unfolding place_bit
place_bit-other words i word n e = ap (λ x. bit_in x (n % 64)) (get_or-set_other words i (n / 64) word 0 e)

-- one more word of a run got its new bits
pub words_step : (value : ℕ → Bool → Bool) (old now : List ℕ) (k word : ℕ) → k < length now → ((j : ℕ) → j < 64 * k → place_bit now j ≡ value j (place_bit old j))
    → ((r : ℕ) → r < 64 → bit_in word r ≡ value (64 * k + r) (bit_in (get_or old k 0) r))
    → (j : ℕ) → j < 64 * (k + 1) → place_bit (set now k word) j ≡ value j (place_bit old j)
words_step value old now k word within done fresh j low = by_test (nat_lt j (64 * k)) refl
  where
    by_test : (t : Bool) → nat_lt j (64 * k) ≡ t → place_bit (set now k word) j ≡ value j (place_bit old j)
    by_test true e =
        let below : j < 64 * k = grind (arith, nat_tests) in
        place_bit-other now k word j (λ same. absurd (omega (arith, below, same))) ∙ done j below
    by_test false e =
        let above : 64 * k ≤ j = grind (arith, nat_tests) in
        let q : j / 64 ≡ k = omega arith in
        let is : 64 * k + j % 64 ≡ j = omega arith in
        place_bit-here now k word j within q ∙ fresh (j % 64) (omega arith) ∙ (λ i. value (is i) (sym (place_bit-in old k (j % 64) (omega arith)) i)) ∙ ap (λ n. value j (place_bit old n)) is

-- ---- a word that is made bit by bit

bit_in-digit : (d : ℕ) (b : Bool) → d ≡ cond b 1 0 → nat_eq (bit_at (cond b 1 0) 0) 1 ≡ b → bit_in d 63 ≡ b
unfolding bit_in
bit_in-digit d b e last = ap (λ n. nat_eq (bit_at n 0) 1) e ∙ last

bit_in-before : (d : ℕ) (b : Bool) (i : ℕ) → d ≡ cond b 1 0 → nat_eq (bit_at (cond b 1 0) (63 - i)) 1 ≡ false → bit_in d i ≡ false
unfolding bit_in
bit_in-before d b i e none = ap (λ n. nat_eq (bit_at n (63 - i)) 1) e ∙ none

pub one_bit-is : (d place k : ℕ) (b : Bool) → place < 64 → k < 64 → d ≡ cond b 1 0 → bit_in (d * 2 ^ (63 - place) % 2 ^ 64) k ≡ (nat_eq k place && b)
one_bit-is d place k b within low e = by_test (nat_lt place k) refl
  where
    digits : (t : Bool) (i : ℕ) → i < 63 → nat_eq (bit_at (cond t 1 0) (63 - i)) 1 ≡ false
    digits true i l = ap (λ n. nat_eq n 1) (bit_at_above 1 1 (63 - i) (omega arith) (omega (arith, l)))
    digits false i l = ap (λ n. nat_eq n 1) (bit_at-zero (63 - i))

    last : (t : Bool) → nat_eq (bit_at (cond t 1 0) 0) 1 ≡ t
    last true = refl
    last false = refl

    at_last : bit_in d 63 ≡ b
    at_last = bit_in-digit d b e (last b)

    before_last : (i : ℕ) → i < 63 → bit_in d i ≡ false
    before_last i l = bit_in-before d b i e (digits b i l)

    by_test : (t : Bool) → nat_lt place k ≡ t → bit_in (d * 2 ^ (63 - place) % 2 ^ 64) k ≡ (nat_eq k place && b)
    by_test true f =
        let other : nat_eq k place ≡ false = grind (arith, nat_tests) in
        bit_in-left_out d (63 - place) k (grind (arith, nat_tests)) low ∙ sym (ap (λ t. t && b) other)
    by_test false f = by_same (nat_eq k place) refl (grind (arith, nat_tests))
      where
        by_same : (t : Bool) → nat_eq k place ≡ t → k ≤ place → bit_in (d * 2 ^ (63 - place) % 2 ^ 64) k ≡ (t && b)
        by_same true s high =
            let same : k + (63 - place) ≡ 63 = grind (arith, nat_tests) in
            bit_in-left d (63 - place) k (omega (arith, same)) ∙ ap (bit_in d) same ∙ at_last
        by_same false s high =
            let less : k < place = grind (arith, nat_tests) in
            bit_in-left d (63 - place) k (omega (arith, less, within)) ∙ before_last (k + (63 - place)) (omega (arith, less, within))

pub bit_more : (value : ℕ → Bool) (k new one : ℕ) (b : Bool) → k < 64 → b ≡ value k → ((j : ℕ) → j < 64 → bit_in one j ≡ (nat_eq j k && b))
    → ((j : ℕ) → j < k → bit_in new j ≡ value j) → ((j : ℕ) → k ≤ j → j < 64 → bit_in new j ≡ false)
    → (j : ℕ) → j < k + 1 → bit_in (bit_or new one) j ≡ value j
bit_more value k new one b within here is done left j low = bit_in-or new one j ∙ by_same (nat_eq j k) refl
  where
    or-none : (t : Bool) → (t || false) ≡ t
    or-none true = refl
    or-none false = refl

    by_same : (t : Bool) → nat_eq j k ≡ t → (bit_in new j || bit_in one j) ≡ value j
    by_same true e =
        let same : j ≡ k = grind (arith, nat_tests) in
        (λ i. left j (omega (arith, same)) (omega (arith, same, within)) i || (is j (omega (arith, same, within)) ∙ ap (λ t. t && b) e) i) ∙ here ∙ ap value (sym same)
    by_same false e =
        let less : j < k = grind (arith, nat_tests) in
        (λ i. bit_in new j || (is j (omega (arith, less, within)) ∙ ap (λ t. t && b) e) i) ∙ or-none (bit_in new j) ∙ done j less

pub bit_none : (k new one : ℕ) (b : Bool) → ((j : ℕ) → j < 64 → bit_in one j ≡ (nat_eq j k && b))
    → ((j : ℕ) → k ≤ j → j < 64 → bit_in new j ≡ false)
    → (j : ℕ) → k + 1 ≤ j → j < 64 → bit_in (bit_or new one) j ≡ false
bit_none k new one b is left j high low =
    let other : nat_eq j k ≡ false = grind (arith, nat_tests) in
    bit_in-or new one j ∙ (λ i. left j (omega (arith, high)) low i || (is j low ∙ ap (λ t. t && b) other) i)

-- ---- numbers of a row

pub held_back : (limit back k : ℕ) (start : ℤ) → k < 64 → back ≡ min (nat_abs start) 64 → start <ℤ pos 0 → (nat_le back k && nat_lt k (min (limit + back) 64)) ≡ is_below limit (start +ℤ pos k)
held_back limit back k (pos n) low is less = absurd (omega (arith, ints))
held_back limit back k (negsuc n) low is less = by_test (nat_lt n k) refl
  where
    by_test : (t : Bool) → nat_lt n k ≡ t → (nat_le back k && nat_lt k (min (limit + back) 64)) ≡ is_below limit (negsuc n +ℤ pos k)
    by_test true e =
        let under : n < k = grind (arith, nat_tests) in
        let at : (negsuc n +ℤ pos k) ≡ pos (k - suc n) = omega (arith, ints, under) in
        let b : back ≡ suc n = omega (arith, is, under, low) in
        ap (λ j. nat_le j k && nat_lt k (min (limit + j) 64)) b ∙ (let inside : (nat_le (suc n) k && nat_lt k (min (limit + suc n) 64)) ≡ nat_lt (k - suc n) limit = grind (arith, nat_tests) in inside) ∙ sym (ap (is_below limit) at)
    by_test false e =
        let past : k ≤ n = grind (arith, nat_tests) in
        let at : (negsuc n +ℤ pos k) ≡ negsuc (n - k) = omega (arith, ints, past) in
        let out : (nat_le back k && nat_lt k (min (limit + back) 64)) ≡ false = grind (arith, nat_tests) in
        out ∙ sym (ap (is_below limit) at)

pub held_ahead : (limit ahead k : ℕ) (start : ℤ) → k < 64 → ahead ≡ nat_abs start → pos 0 ≤ℤ start → (nat_le 0 k && nat_lt k (min (limit - ahead) 64)) ≡ is_below limit (start +ℤ pos k)
held_ahead limit ahead k (pos n) low is more = let inside : (nat_le 0 k && nat_lt k (min (limit - ahead) 64)) ≡ nat_lt (n + k) limit = grind (arith, nat_tests) in inside
held_ahead limit ahead k (negsuc n) low is more = absurd (omega (arith, ints))
