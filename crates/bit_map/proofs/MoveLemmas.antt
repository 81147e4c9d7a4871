-- Runs of bits that are moved within words.
use Rattle.std.proofs.Common.{◌≡◌, ℕ, ◌+◌, ◌-◌, ◌*◌, ◌/◌, ◌%◌, ◌^◌, ◌<◌, ◌≤◌, Bool, true, false, cond, ◌||◌, ◌&&◌, List, length, get_or, set, take, drop, replicate, nat_le, nat_lt, refl, sym, ap, ◌∙◌, arith}
use Rattle.std.specs.Prelude.{bit_or}
use Rattle.std.specs.Simd.Lanes.{zip2, put_chunk}
use Rattle.std.proofs.lemmas.Simd.{get_or-zip2, length-zip2, get_or-replicate, put_chunk_whole}
use Rattle.std.proofs.lemmas.Bool.Decides.{nat_tests}
use Rattle.std.proofs.lemmas.List.{length-set, length-take, length-drop, get_or-take, get_or-drop}
use Rattle.std.proofs.lemmas.Nat.{shr-shr}
use Rattle.bit_map.specs.Words.{bit_in, place_bit, IsMoved}
use Rattle.bit_map.proofs.WordLemmas.{bit_in-or, bit_in-left, bit_in-left_out, bit_in-right, bit_in-right_out, place_bit-in, place_bit-here, place_bit-other}
use Rattle.bit_map.proofs.PartLemmas.{word_part, mid, mid-below, mid-in, mid-above, length-mid}

-- ---- a word that is read at any bit

or-none : (b : Bool) → (b || false) ≡ b
or-none true = refl
or-none false = refl

pub joined-is : (near far first k : ℕ) → far < 2 ^ 64 → first < 64 → k < 64 → bit_in (bit_or (near * 2 ^ first % 2 ^ 64) (far / 2 ^ 1 / 2 ^ (63 - first))) k ≡ cond (nat_lt (first + k) 64) (bit_in near (first + k)) (bit_in far (first + k - 64))
joined-is near far first k small within low = bit_in-or _ _ k ∙ by_test (nat_lt (first + k) 64) refl
  where
    once : far / 2 ^ 1 / 2 ^ (63 - first) ≡ far / 2 ^ (64 - first)
    once = shr-shr far 1 (63 - first) ∙ ap (λ n. far / 2 ^ n) (steps first within)
      where
        steps : (n : ℕ) → n < 64 → 1 + (63 - n) ≡ 64 - n
        steps n l = omega (arith, l)

    by_test : (t : Bool) → nat_lt (first + k) 64 ≡ t → (bit_in (near * 2 ^ first % 2 ^ 64) k || bit_in (far / 2 ^ 1 / 2 ^ (63 - first)) k) ≡ cond t (bit_in near (first + k)) (bit_in far (first + k - 64))
    by_test true e =
        let under : first + k < 64 = grind (arith, nat_tests) in
        let turn : k + first ≡ first + k = omega arith in
        (λ i. (bit_in-left near first k (omega (arith, under)) ∙ ap (bit_in near) turn) i || (ap (λ n. bit_in n k) once ∙ bit_in-right_out far (64 - first) k small (omega (arith, under)) low) i)
        ∙ or-none (bit_in near (first + k))
    by_test false e =
        let past : 64 ≤ first + k = grind (arith, nat_tests) in
        let is : k - (64 - first) ≡ first + k - 64 = omega (arith, past, within) in
        λ i. bit_in-left_out near first k (omega (arith, past)) low i || (ap (λ n. bit_in n k) once ∙ bit_in-right far (64 - first) k (omega (arith, past)) low ∙ ap (bit_in far) is) i

pub word_from-is : (words : List ℕ) (place word k : ℕ) → k < 64
    → bit_in word k ≡ cond (nat_lt (place % 64 + k) 64) (bit_in (get_or words (place / 64) 0) (place % 64 + k)) (bit_in (get_or words (place / 64 + 1) 0) (place % 64 + k - 64))
    → bit_in word k ≡ place_bit words (place + k)
unfolding place_bit
word_from-is words place word k low e = e ∙ by_test (nat_lt (place % 64 + k) 64) refl
  where
    by_test : (t : Bool) → nat_lt (place % 64 + k) 64 ≡ t → cond t (bit_in (get_or words (place / 64) 0) (place % 64 + k)) (bit_in (get_or words (place / 64 + 1) 0) (place % 64 + k - 64)) ≡ bit_in (get_or words ((place + k) / 64) 0) ((place + k) % 64)
    by_test true e =
        let under : place % 64 + k < 64 = grind (arith, nat_tests) in
        let q : place / 64 ≡ (place + k) / 64 = omega (arith, under) in
        let r : place % 64 + k ≡ (place + k) % 64 = omega (arith, under) in
        λ i. bit_in (get_or words (q i) 0) (r i)
    by_test false e =
        let past : 64 ≤ place % 64 + k = grind (arith, nat_tests) in
        let q : place / 64 + 1 ≡ (place + k) / 64 = omega (arith, past, low) in
        let r : place % 64 + k - 64 ≡ (place + k) % 64 = omega (arith, past, low) in
        λ i. bit_in (get_or words (q i) 0) (r i)

-- ---- one part

pub moved_part : (old : List ℕ) (place source count new word : ℕ) → place / 64 < length old → place % 64 + count ≤ 64
    → ((k : ℕ) → k < 64 → bit_in new k ≡ place_bit old (source + k))
    → ((k : ℕ) → k < 64 → bit_in word k ≡ cond (nat_le (place % 64) k && nat_lt k (place % 64 + count)) (bit_in (new / 2 ^ (place % 64)) k) (bit_in (get_or old (place / 64) 0) k))
    → IsMoved place source count old (set old (place / 64) word)
moved_part old place source count new word within one read is =
    let part = word_part old place count word (λ k. place_bit old (source + k)) within one (λ k low. is k low ∙ by_test k low (nat_le (place % 64) k) (nat_lt k (place % 64 + count)) refl) in
    record { all = length-set old (place / 64) word; run = part.run; before = part.before; after = part.after }
  where
    by_test : (k : ℕ) → k < 64 → (t u : Bool) → nat_le (place % 64) k ≡ t → cond (t && u) (bit_in (new / 2 ^ (place % 64)) k) (bit_in (get_or old (place / 64) 0) k) ≡ cond (t && u) (place_bit old (source + (k - place % 64))) (bit_in (get_or old (place / 64) 0) k)
    by_test k low true true e =
        let first : place % 64 ≤ k = grind (arith, nat_tests) in
        bit_in-right new (place % 64) k first low ∙ read (k - place % 64) (omega (arith, low))
    by_test k low true false e = refl
    by_test k low false u e = refl

-- one whole word
pub moved_word : (old : List ℕ) (at source word : ℕ) → at < length old → ((k : ℕ) → k < 64 → bit_in word k ≡ place_bit old (source + k)) → IsMoved (64 * at) source 64 old (set old at word)
moved_word old at source word within read = record {
  all = length-set old at word;
  run = λ k low.
      let q : (64 * at + k) / 64 ≡ at = omega (arith, low) in
      let r : (64 * at + k) % 64 ≡ k = omega (arith, low) in
      place_bit-here old at word (64 * at + k) within q ∙ ap (bit_in word) r ∙ read k low;
  before = λ i low. place_bit-other old at word i (λ same. absurd (omega (arith, low, same)));
  after = λ i high. place_bit-other old at word i (λ same. absurd (omega (arith, high, same)));
}

-- ---- one part after another

-- no bit yet
pub moved_none : (place source count : ℕ) (words : List ℕ) → count ≡ 0 → IsMoved place source count words words
moved_none place source count words e = record { all = refl; run = λ k low. absurd (omega (arith, low, e)); before = λ i low. refl; after = λ i high. refl }

-- a part, and then the one after it, from sources that lie further on
pub moved_down : (place source next from a b count : ℕ) (old mid new : List ℕ) → place ≤ source → next ≡ place + a → from ≡ source + a → count ≡ a + b
    → IsMoved place source a old mid → IsMoved next from b mid new → IsMoved place source count old new
moved_down place source next from a b count old mid new back is_next is_from is_count one two = record {
  all = two.all ∙ one.all;
  run = λ k low. by_test k low (nat_lt k a) refl;
  before = λ i low. two.before i (omega (arith, is_next, low)) ∙ one.before i low;
  after = λ i high. two.after i (omega (arith, is_next, is_count, high)) ∙ one.after i (omega (arith, is_count, high));
}
  where
    by_test : (k : ℕ) → k < count → (t : Bool) → nat_lt k a ≡ t → place_bit new (place + k) ≡ place_bit old (source + k)
    by_test k low true e =
        let under : k < a = grind (arith, nat_tests) in
        two.before (place + k) (omega (arith, is_next, under)) ∙ one.run k under
    by_test k low false e =
        let past : a ≤ k = grind (arith, nat_tests) in
        let at : place + k ≡ next + (k - a) = omega (arith, is_next, past) in
        let there : from + (k - a) ≡ source + k = omega (arith, is_from, past) in
        ap (place_bit new) at ∙ two.run (k - a) (omega (arith, is_count, low, past)) ∙ ap (place_bit mid) there ∙ one.after (source + k) (omega (arith, back, past))

-- a part, and then the one before it, from sources that lie further ahead
pub moved_up : (place source next from a b count : ℕ) (old mid new : List ℕ) → source ≤ place → next ≡ place + a → from ≡ source + a → count ≡ a + b
    → IsMoved next from b old mid → IsMoved place source a mid new → IsMoved place source count old new
moved_up place source next from a b count old mid new ahead is_next is_from is_count one two = record {
  all = two.all ∙ one.all;
  run = λ k low. by_test k low (nat_lt k a) refl;
  before = λ i low. two.before i low ∙ one.before i (omega (arith, is_next, low));
  after = λ i high. two.after i (omega (arith, is_count, high)) ∙ one.after i (omega (arith, is_next, is_count, high));
}
  where
    by_test : (k : ℕ) → k < count → (t : Bool) → nat_lt k a ≡ t → place_bit new (place + k) ≡ place_bit old (source + k)
    by_test k low true e =
        let under : k < a = grind (arith, nat_tests) in
        two.run k under ∙ one.before (source + k) (omega (arith, is_next, ahead, under))
    by_test k low false e =
        let past : a ≤ k = grind (arith, nat_tests) in
        let at : place + k ≡ next + (k - a) = omega (arith, is_next, past) in
        let there : from + (k - a) ≡ source + k = omega (arith, is_from, past) in
        two.after (place + k) (omega (arith, past)) ∙ ap (place_bit mid) at ∙ one.run (k - a) (omega (arith, is_count, low, past)) ∙ ap (place_bit old) there

-- another count that is the same
pub moved_all : (place source count other : ℕ) (old new : List ℕ) → count ≡ other → IsMoved place source count old new → IsMoved place source other old new
moved_all place source count other old new e moved = rw (← e) moved

-- ---- four words as lanes

abbrev shl_64 : ℕ → ℕ → ℕ
shl_64 a b = a * 2 ^ b % 2 ^ 64

abbrev shr_64 : ℕ → ℕ → ℕ
shr_64 a b = a / 2 ^ b

taken_four : (xs : List ℕ) → 4 ≤ length xs → length (take 4 (take 4 xs)) ≡ 4
taken_four xs long = omega (arith, length-take 4 (take 4 xs), length-take 4 xs, long)

lane_length : (f : ℕ → ℕ → ℕ) (xs : List ℕ) (n : ℕ) → length xs ≡ 4 → length (zip2 f xs (replicate 4 n)) ≡ 4
lane_length f xs n long = length-zip2 f xs (replicate 4 n) long ∙ long

lane : (f : ℕ → ℕ → ℕ) (xs : List ℕ) (n j : ℕ) → length xs ≡ 4 → j < 4 → get_or (zip2 f xs (replicate 4 n)) j 0 ≡ f (get_or xs j 0) n
lane f xs n j long low = get_or-zip2 f xs (replicate 4 n) j 0 0 0 (omega (arith, low, long)) low ∙ ap (f (get_or xs j 0)) (get_or-replicate 4 j n 0 low)

taken_lane : (xs : List ℕ) (j : ℕ) → j < 4 → get_or (take 4 (take 4 xs)) j 0 ≡ get_or xs j 0
taken_lane xs j low = get_or-take 4 (take 4 xs) j 0 low ∙ get_or-take 4 xs j 0 low

-- 64 bits from a bit of a word on
pub joined_place : (words : List ℕ) (j bit k : ℕ) → bit < 64 → k < 64 → cond (nat_lt (bit + k) 64) (bit_in (get_or words j 0) (bit + k)) (bit_in (get_or words (1 + j) 0) (bit + k - 64)) ≡ place_bit words (64 * j + bit + k)
joined_place words j bit k b low = by_test (nat_lt (bit + k) 64) refl
  where
    by_test : (t : Bool) → nat_lt (bit + k) 64 ≡ t → cond t (bit_in (get_or words j 0) (bit + k)) (bit_in (get_or words (1 + j) 0) (bit + k - 64)) ≡ place_bit words (64 * j + bit + k)
    by_test true e =
        let under : bit + k < 64 = grind (arith, nat_tests) in
        let at : 64 * j + (bit + k) ≡ 64 * j + bit + k = omega arith in
        sym (place_bit-in words j (bit + k) under) ∙ ap (place_bit words) at
    by_test false e =
        let past : 64 ≤ bit + k = grind (arith, nat_tests) in
        let at : 64 * (1 + j) + (bit + k - 64) ≡ 64 * j + bit + k = omega (arith, past) in
        sym (place_bit-in words (1 + j) (bit + k - 64) (omega (arith, past, b, low))) ∙ ap (place_bit words) at

pub lanes_are : (words : List ℕ) (bit j k : ℕ) → length words ≡ 5 → get_or words (1 + j) 0 < 2 ^ 64 → bit < 64 → j < 4 → k < 64
    → bit_in (get_or (zip2 bit_or (zip2 shl_64 (take 4 (take 4 words)) (replicate 4 bit)) (zip2 shr_64 (zip2 shr_64 (take 4 (take 4 (drop 1 words))) (replicate 4 1)) (replicate 4 (63 - bit)))) j 0) k
    ≡ place_bit words (64 * j + bit + k)
lanes_are words bit j k long small b low l =
    ap (λ n. bit_in n k)
    (get_or-zip2 bit_or near_l far_l j 0 0 0 (omega (arith, low, length-near)) (omega (arith, low, length-far))
    ∙ (λ i. bit_or (near_is i) (far_is i)))
    ∙ joined-is (get_or words j 0) (get_or words (1 + j) 0) bit k small b l
    ∙ joined_place words j bit k b l
  where
    nears : List ℕ
    nears = take 4 (take 4 words)

    fars : List ℕ
    fars = take 4 (take 4 (drop 1 words))

    near_long : length nears ≡ 4
    near_long = taken_four words (omega (arith, long))

    far_long : length fars ≡ 4
    far_long = taken_four (drop 1 words) (omega (arith, long, length-drop 1 words))

    near_l : List ℕ
    near_l = zip2 shl_64 nears (replicate 4 bit)

    half_l : List ℕ
    half_l = zip2 shr_64 fars (replicate 4 1)

    far_l : List ℕ
    far_l = zip2 shr_64 half_l (replicate 4 (63 - bit))

    length-near : length near_l ≡ 4
    length-near = lane_length shl_64 nears bit near_long

    length-half : length half_l ≡ 4
    length-half = lane_length shr_64 fars 1 far_long

    length-far : length far_l ≡ 4
    length-far = lane_length shr_64 half_l (63 - bit) length-half

    near_is : get_or near_l j 0 ≡ get_or words j 0 * 2 ^ bit % 2 ^ 64
    near_is = lane shl_64 nears bit j near_long low ∙ ap (λ n. n * 2 ^ bit % 2 ^ 64) (taken_lane words j low)

    far_is : get_or far_l j 0 ≡ get_or words (1 + j) 0 / 2 ^ 1 / 2 ^ (63 - bit)
    far_is =
        lane shr_64 half_l (63 - bit) j length-half low
        ∙ ap (λ n. n / 2 ^ (63 - bit)) (lane shr_64 fars 1 j far_long low ∙ ap (λ n. n / 2 ^ 1) (taken_lane (drop 1 words) j low ∙ get_or-drop 1 words j 0))

-- the places of a part of the words
pub part_place : (words : List ℕ) (near count n : ℕ) → n < 64 * count → place_bit (take count (drop near words)) n ≡ place_bit words (64 * near + n)
unfolding place_bit
part_place words near count n low =
    let q : near + n / 64 ≡ (64 * near + n) / 64 = omega arith in
    let r : n % 64 ≡ (64 * near + n) % 64 = omega arith in
    ap (λ w. bit_in w (n % 64)) (get_or-take count (drop near words) (n / 64) 0 (omega (arith, low)) ∙ get_or-drop near words (n / 64) 0) ∙ (λ i. bit_in (get_or words (q i) 0) (r i))

-- four whole words that were written
pub moved_four : (old lanes : List ℕ) (at near bit : ℕ) → at + 4 ≤ length old → length lanes ≡ 4
    → ((j k : ℕ) → j < 4 → k < 64 → bit_in (get_or lanes j 0) k ≡ place_bit old (64 * (near + j) + bit + k))
    → IsMoved (64 * at) (64 * near + bit) 256 old (mid at 4 old lanes)
unfolding place_bit
moved_four old lanes at near bit within long is = record {
  all = length-mid at 4 old lanes within long;
  run = λ k low.
      let q : (64 * at + k) / 64 ≡ at + k / 64 = omega arith in
      let r : (64 * at + k) % 64 ≡ k % 64 = omega arith in
      let there : 64 * (near + k / 64) + bit + k % 64 ≡ 64 * near + bit + k = omega arith in
      (λ i. bit_in (get_or (mid at 4 old lanes) (q i) 0) (r i))
      ∙ ap (λ x. bit_in x (k % 64)) (mid-in at 4 old lanes (k / 64) (omega (arith, low, long)) (omega (arith, within)))
      ∙ is (k / 64) (k % 64) (omega (arith, low)) (omega arith) ∙ ap (place_bit old) there;
  before = λ i low. ap (λ x. bit_in x (i % 64)) (mid-below at 4 old lanes (i / 64) (omega (arith, low)) (omega (arith, within)));
  after = λ i high. ap (λ x. bit_in x (i % 64)) (mid-above at 4 old lanes (i / 64) (omega (arith, high)) long (omega (arith, within)));
}

-- a slice of four words that is written whole
pub put_whole : (words lanes : List ℕ) (at : ℕ) → at + 4 ≤ length words → length lanes ≡ 4 → put_chunk 0 (take 4 (drop at words)) lanes ≡ lanes
put_whole words lanes at within long = put_chunk_whole (take 4 (drop at words)) lanes (omega (arith, length-take 4 (drop at words), length-drop at words, within, long))

-- four words that are read as they are
pub read_four : (words : List ℕ) (near j k : ℕ) → j < 4 → k < 64 → bit_in (get_or (take 4 (take 4 (drop near words))) j 0) k ≡ place_bit words (64 * (near + j) + k)
read_four words near j k low l = ap (λ n. bit_in n k) (taken_lane (drop near words) j low ∙ get_or-drop near words j 0) ∙ sym (place_bit-in words (near + j) k l)
