-- Parts of the bits of words: what is done to them, one part after another.
use Rattle.std.proofs.Common.{◌≡◌, ℕ, ◌+◌, ◌-◌, ◌*◌, ◌/◌, ◌%◌, ◌^◌, ◌<◌, ◌≤◌, ◌+ℤ◌, pos, Bool, true, false, cond, ◌&&◌, List, ◌++◌, length, get_or, set, take, drop, nat_eq, nat_le, nat_lt, refl, sym, ap, ◌∙◌, arith}
use Rattle.std.proofs.lemmas.Bool.Decides.{nat_tests}
use Rattle.std.proofs.lemmas.Int.{ints}
use Rattle.std.proofs.lemmas.List.{get_or_append_left, get_or-append_right, get_or-take, get_or-drop, length-take, length-drop, length-append}
use Rattle.tb_geom.specs.declared.point.Point.{Point}
use Rattle.bit_map.specs.Rules.{right_of, IsRuled, IsPartRuled}
use Rattle.bit_map.specs.Words.{bit_in, place_bit}
use Rattle.bit_map.proofs.WordLemmas.{place_bit-here, place_bit-other, bit_in-left, bit_in-right}

-- what was done to the bits of a part, of which the k-th now is `now k`, and no other changed
pub record IsRunOf (place count : ℕ) (now : ℕ → Bool) (old new : List ℕ) : Type 0 where
  pub run : (k : ℕ) → k < count → place_bit new (place + k) ≡ now k
  pub before : (i : ℕ) → i < place → place_bit new i ≡ place_bit old i
  pub after : (i : ℕ) → place + count ≤ i → place_bit new i ≡ place_bit old i

-- the bits of a word, of which those of a part are new ones
abbrev pub IsWordOf : ℕ → ℕ → (ℕ → Bool) → ℕ → ℕ → Type 0
IsWordOf first count now old new = (k : ℕ) → k < 64 → bit_in new k ≡ cond (nat_le first k && nat_lt k (first + count)) (now (k - first)) (bit_in old k)

-- a part of one word that was written
pub word_part : (old : List ℕ) (place count word : ℕ) (now : ℕ → Bool) → place / 64 < length old → place % 64 + count ≤ 64 → IsWordOf (place % 64) count now (get_or old (place / 64) 0) word
    → IsRunOf place count now old (set old (place / 64) word)
unfolding place_bit
word_part old place count word now within one is = record {
  run = λ k low.
      let q : (place + k) / 64 ≡ place / 64 = omega arith in
      let r : (place + k) % 64 ≡ place % 64 + k = omega arith in
      let inside : (nat_le (place % 64) (place % 64 + k) && nat_lt (place % 64 + k) (place % 64 + count)) ≡ true = grind (arith, nat_tests) in
      let less : place % 64 + k - place % 64 ≡ k = omega arith in
      place_bit-here old (place / 64) word (place + k) within q ∙ ap (bit_in word) r ∙ is (place % 64 + k) (omega arith) ∙ ap (λ t. cond t (now (place % 64 + k - place % 64)) (bit_in (get_or old (place / 64) 0) (place % 64 + k))) inside ∙ ap now less;
  before = λ i low. by_word i (nat_eq (i / 64) (place / 64)) refl (λ e. let under : i % 64 < place % 64 = omega (arith, e, low) in grind (arith, nat_tests));
  after = λ i high. by_word i (nat_eq (i / 64) (place / 64)) refl (λ e. let past : place % 64 + count ≤ i % 64 = omega (arith, e, high) in grind (arith, nat_tests));
}
  where
    here_is : (i : ℕ) → i / 64 ≡ place / 64 → bit_in (get_or old (place / 64) 0) (i % 64) ≡ place_bit old i
    here_is i e = ap (λ j. bit_in (get_or old j 0) (i % 64)) (sym e)

    by_word : (i : ℕ) (t : Bool) → nat_eq (i / 64) (place / 64) ≡ t → (i / 64 ≡ place / 64 → (nat_le (place % 64) (i % 64) && nat_lt (i % 64) (place % 64 + count)) ≡ false) → place_bit (set old (place / 64) word) i ≡ place_bit old i
    by_word i true e outside =
        let same : i / 64 ≡ place / 64 = grind (arith, nat_tests) in
        place_bit-here old (place / 64) word i within same ∙ is (i % 64) (omega arith) ∙ ap (λ t. cond t (now (i % 64 - place % 64)) (bit_in (get_or old (place / 64) 0) (i % 64))) (outside same) ∙ here_is i same
    by_word i false e outside = place_bit-other old (place / 64) word i (λ same. absurd (grind (arith, nat_tests)))

-- the bits that a rule makes of a part of a word
pub ruled_word : (value : Point → Bool → Bool) (start : Point) (old : List ℕ) (place count new : ℕ) → place % 64 + count ≤ 64
    → ((k : ℕ) → k < count → bit_in new k ≡ value (right_of start k) (bit_in (get_or old (place / 64) 0 * 2 ^ (place % 64) % 2 ^ 64) k))
    → (word : ℕ) → ((k : ℕ) → k < 64 → bit_in word k ≡ cond (nat_le (place % 64) k && nat_lt k (place % 64 + count)) (bit_in (new / 2 ^ (place % 64)) k) (bit_in (get_or old (place / 64) 0) k))
    → IsWordOf (place % 64) count (λ k. value (right_of start k) (place_bit old (place + k))) (get_or old (place / 64) 0) word
unfolding place_bit
ruled_word value start old place count new one ruled word is k low = is k low ∙ by_test (nat_le (place % 64) k) (nat_lt k (place % 64 + count)) refl refl
  where
    was : ℕ
    was = get_or old (place / 64) 0

    inside : nat_le (place % 64) k ≡ true → nat_lt k (place % 64 + count) ≡ true → bit_in (new / 2 ^ (place % 64)) k ≡ value (right_of start (k - place % 64)) (place_bit old (place + (k - place % 64)))
    inside e f =
        let first : place % 64 ≤ k = grind (arith, nat_tests) in
        let last : k < place % 64 + count = grind (arith, nat_tests) in
        let back : k - place % 64 + place % 64 ≡ k = omega (arith, first) in
        let q : (place + (k - place % 64)) / 64 ≡ place / 64 = omega (arith, first, low) in
        let r : (place + (k - place % 64)) % 64 ≡ k = omega (arith, first, low) in
        bit_in-right new (place % 64) k first low
        ∙ ruled (k - place % 64) (omega (arith, first, last))
        ∙ ap (value (right_of start (k - place % 64)))
        (bit_in-left was (place % 64) (k - place % 64) (omega (arith, back, low)) ∙ ap (bit_in was) back ∙ sym (λ i. bit_in (get_or old (q i) 0) (r i)))

    by_test : (t u : Bool) → nat_le (place % 64) k ≡ t → nat_lt k (place % 64 + count) ≡ u → cond (t && u) (bit_in (new / 2 ^ (place % 64)) k) (bit_in was k) ≡ cond (t && u) (value (right_of start (k - place % 64)) (place_bit old (place + (k - place % 64)))) (bit_in was k)
    by_test true true e f = inside e f
    by_test true false e f = refl
    by_test false u e f = refl

-- ---- words of a part, written through a slice of them

abbrev pub mid : (a count : ℕ) → List ℕ → List ℕ → List ℕ
mid a count xs ys = take a xs ++ (ys ++ drop count (drop a xs))

taken : (n : ℕ) (xs : List ℕ) → n ≤ length xs → length (take n xs) ≡ n
taken n xs within = omega (arith, length-take n xs, within)

pub mid-below : (a count : ℕ) (xs ys : List ℕ) (i : ℕ) → i < a → a ≤ length xs → get_or (mid a count xs ys) i 0 ≡ get_or xs i 0
mid-below a count xs ys i low within =
    let long : length (take a xs) ≡ a = taken a xs within in
    get_or_append_left (take a xs) (ys ++ drop count (drop a xs)) 0 i (omega (arith, long, low)) ∙ get_or-take a xs i 0 low

pub mid-in : (a count : ℕ) (xs ys : List ℕ) (j : ℕ) → j < length ys → a ≤ length xs → get_or (mid a count xs ys) (a + j) 0 ≡ get_or ys j 0
mid-in a count xs ys j low within =
    let long : length (take a xs) ≡ a = taken a xs within in
    let less : a + j - a ≡ j = omega arith in
    get_or-append_right (take a xs) (ys ++ drop count (drop a xs)) a (a + j) 0 long (omega arith)
    ∙ ap (λ n. get_or (ys ++ drop count (drop a xs)) n 0) less
    ∙ get_or_append_left ys (drop count (drop a xs)) 0 j low

pub mid-above : (a count : ℕ) (xs ys : List ℕ) (i : ℕ) → a + count ≤ i → length ys ≡ count → a ≤ length xs → get_or (mid a count xs ys) i 0 ≡ get_or xs i 0
mid-above a count xs ys i high e within =
    let long : length (take a xs) ≡ a = taken a xs within in
    let is : a + (count + (i - a - count)) ≡ i = omega (arith, high) in
    get_or-append_right (take a xs) (ys ++ drop count (drop a xs)) a i 0 long (omega (arith, high))
    ∙ get_or-append_right ys (drop count (drop a xs)) count (i - a) 0 e (omega (arith, high))
    ∙ get_or-drop count (drop a xs) (i - a - count) 0 ∙ get_or-drop a xs (count + (i - a - count)) 0 ∙ ap (λ n. get_or xs n 0) is

pub length-mid : (a count : ℕ) (xs ys : List ℕ) → a + count ≤ length xs → length ys ≡ count → length (mid a count xs ys) ≡ length xs
length-mid a count xs ys within e =
    omega (arith, length-append (take a xs) (ys ++ drop count (drop a xs)), length-append ys (drop count (drop a xs)), length-drop count (drop a xs), length-drop a xs, taken a xs (omega (arith, within)), e, within)

-- what was done to whole words, of which the slice has those of a part
pub whole_part : (value : Point → Bool → Bool) (start : Point) (old part : List ℕ) (first count : ℕ) → first + count ≤ length old
    → IsRuled value start (take count (drop first old)) part
    → (place long : ℕ) → place ≡ 64 * first → long ≡ 64 * count → (length (mid first count old part) ≡ length old) × IsRunOf place long (λ k. value (right_of start k) (place_bit old (place + k))) old (mid first count old part)
unfolding place_bit
whole_part value start old part first count within ruled place long is_place is_long = (
  length-mid first count old part within all,
  record {
    run = λ k low.
        let q : (place + k) / 64 ≡ first + k / 64 = omega (arith, is_place) in
        let r : (place + k) % 64 ≡ k % 64 = omega (arith, is_place) in
        let word : k / 64 < count = omega (arith, is_long, low) in
        (λ i. bit_in (get_or (mid first count old part) (q i) 0) (r i))
        ∙ ap (λ x. bit_in x (k % 64)) (mid-in first count old part (k / 64) (omega (arith, word, all)) (omega (arith, within)))
        ∙ ruled.each k (omega (arith, here, is_long, low))
        ∙ ap (value (right_of start k)) (ap (λ x. bit_in x (k % 64)) (get_or-take count (drop first old) (k / 64) 0 word ∙ get_or-drop first old (k / 64) 0) ∙ sym (λ i. bit_in (get_or old (q i) 0) (r i)));
    before = λ i low. ap (λ x. bit_in x (i % 64)) (mid-below first count old part (i / 64) (omega (arith, is_place, low)) (omega (arith, within)));
    after = λ i high. ap (λ x. bit_in x (i % 64)) (mid-above first count old part (i / 64) (omega (arith, is_place, is_long, high)) all (omega (arith, within)));
  },
)
  where
    here : length (take count (drop first old)) ≡ count
    here = taken count (drop first old) (omega (arith, within, length-drop first old))

    all : length part ≡ count
    all = ruled.all ∙ here

-- ---- one part after another

pub right_of-more : (start : Point) (a k : ℕ) → right_of (right_of start a) k ≡ right_of start (a + k)
right_of-more start a k = let e : (start.h +ℤ pos a) +ℤ pos k ≡ start.h +ℤ pos (a + k) = omega (arith, ints) in λ i. record { h = e i; v = start.v }

-- a part and the part after it
pub ruled_more : (value : Point → Bool → Bool) (start second : Point) (place next a b count : ℕ) (old mid new : List ℕ) → second ≡ right_of start a → next ≡ place + a → count ≡ a + b
    → IsPartRuled value start place a old mid → IsPartRuled value second next b mid new → IsPartRuled value start place count old new
ruled_more value start second place next a b count old mid new is_second is_next is_count one two = record {
  all = two.all ∙ one.all;
  run = λ k low. by_test k low (nat_lt k a) refl;
  before = λ i low. two.before i (omega (arith, is_next, low)) ∙ one.before i low;
  after = λ i high. two.after i (omega (arith, is_next, is_count, high)) ∙ one.after i (omega (arith, is_count, high));
}
  where
    by_test : (k : ℕ) → k < count → (t : Bool) → nat_lt k a ≡ t → place_bit new (place + k) ≡ value (right_of start k) (place_bit old (place + k))
    by_test k low true e =
        let under : k < a = grind (arith, nat_tests) in
        two.before (place + k) (omega (arith, is_next, under)) ∙ one.run k under
    by_test k low false e =
        let past : a ≤ k = grind (arith, nat_tests) in
        let back : a + (k - a) ≡ k = omega (arith, past) in
        let at : place + k ≡ next + (k - a) = omega (arith, is_next, past) in
        ap (place_bit new) at ∙ two.run (k - a) (omega (arith, is_count, low, past))
        ∙ (λ i. value ((ap (λ p. right_of p (k - a)) is_second ∙ right_of-more start a (k - a) ∙ ap (right_of start) back) i) ((ap (place_bit mid) (sym at) ∙ one.after (place + k) (omega (arith, past))) i))
