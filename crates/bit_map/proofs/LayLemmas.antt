-- Effects laid over words, part after part.
use Rattle.std.proofs.Common.{◌≡◌, ℕ, ◌+◌, ◌-◌, ◌*◌, ◌/◌, ◌%◌, ◌<◌, ◌≤◌, Bool, true, false, ◌&&◌, List, length, get_or, set, take, drop, replicate, nat_lt, refl, sym, ap, ◌∙◌, arith}
use Rattle.std.specs.Int.Bits.{bit_and, bit_xor}
use Rattle.std.specs.Simd.Lanes.{zip2, put_chunk}
use Rattle.std.proofs.lemmas.Simd.{get_or-zip2, length-zip2, get_or-replicate, put_chunk_whole}
use Rattle.std.proofs.lemmas.Bool.Decides.{nat_tests}
use Rattle.std.proofs.lemmas.List.{length-set, length-replicate, length-take, length-drop, get_or-take, get_or-drop}
use Rattle.bit_map.specs.Modes.{xor_bit}
use Rattle.bit_map.specs.Rules.{effects_bit, IsLaid}
use Rattle.bit_map.specs.Words.{bit_in, place_bit}
use Rattle.bit_map.specs.declared.effect.Effects.{Effects}
use Rattle.bit_map.proofs.WordLemmas.{bit_in-and, bit_in-xor, place_bit-here, place_bit-other}
use Rattle.bit_map.proofs.PartLemmas.{mid, mid-below, mid-in, mid-above, length-mid}

pub laid_none : (e : Effects) (from : ℕ) (words : List ℕ) → IsLaid e from from words words
laid_none e from words = record {
  all = refl;
  run = λ n low high. absurd (omega (arith, low, high));
  before = λ n low. refl;
  after = λ n high. refl;
}

-- one part and the next
pub laid_more : (e : Effects) (from next to : ℕ) (old part new : List ℕ) → from ≤ next → next ≤ to → IsLaid e from next old part → IsLaid e next to part new → IsLaid e from to old new
laid_more e from next to old part new rising further one two = record {
  all = two.all ∙ one.all;
  run = λ n low high. by_test n low high (nat_lt n next) refl;
  before = λ n low. two.before n (omega (arith, low, rising)) ∙ one.before n low;
  after = λ n high. two.after n high ∙ one.after n (omega (arith, high, further));
}
  where
    by_test : (n : ℕ) → from ≤ n → n < to → (t : Bool) → nat_lt n next ≡ t → place_bit new n ≡ effects_bit e (n % 64) (place_bit old n)
    by_test n low high true e1 =
        let first : n < next = grind (arith, nat_tests) in
        two.before n first ∙ one.run n low first
    by_test n low high false e1 =
        let second : next ≤ n = grind (arith, nat_tests) in
        two.run n second high ∙ ap (effects_bit e (n % 64)) (one.after n second)

-- one word
pub laid_word : (e : Effects) (old : List ℕ) (at word : ℕ) → at < length old → ((k : ℕ) → k < 64 → bit_in word k ≡ effects_bit e k (bit_in (get_or old at 0) k)) → IsLaid e (64 * at) (64 * at + 64) old (set old at word)
unfolding place_bit
laid_word e old at word within is = record {
  all = length-set old at word;
  run = λ n low high.
      let here : n / 64 ≡ at = omega (arith, low, high) in
      place_bit-here old at word n within here ∙ is (n % 64) (omega arith) ∙ ap (λ j. effects_bit e (n % 64) (bit_in (get_or old j 0) (n % 64))) (sym here);
  before = λ n low. place_bit-other old at word n (λ same. absurd (omega (arith, low, same)));
  after = λ n high. place_bit-other old at word n (λ same. absurd (omega (arith, high, same)));
}

-- eight words
pub laid_eight : (e : Effects) (old lanes : List ℕ) (at : ℕ) → at + 8 ≤ length old → length lanes ≡ 8
    → ((j k : ℕ) → j < 8 → k < 64 → bit_in (get_or lanes j 0) k ≡ effects_bit e k (bit_in (get_or (take 8 (drop at old)) j 0) k))
    → IsLaid e (64 * at) (64 * at + 512) old (mid at 8 old lanes)
unfolding place_bit
laid_eight e old lanes at within long is = record {
  all = length-mid at 8 old lanes within long;
  run = λ n low high.
      let q : n / 64 ≡ at + (n / 64 - at) = omega (arith, low) in
      let small : n / 64 - at < 8 = omega (arith, high) in
      ap (λ j. bit_in (get_or (mid at 8 old lanes) j 0) (n % 64)) q
      ∙ ap (λ x. bit_in x (n % 64)) (mid-in at 8 old lanes (n / 64 - at) (omega (arith, small, long)) (omega (arith, within)))
      ∙ is (n / 64 - at) (n % 64) small (omega arith)
      ∙ ap (λ x. effects_bit e (n % 64) (bit_in x (n % 64))) (get_or-take 8 (drop at old) (n / 64 - at) 0 small ∙ get_or-drop at old (n / 64 - at) 0 ∙ ap (λ j. get_or old j 0) (sym q));
  before = λ n low. ap (λ x. bit_in x (n % 64)) (mid-below at 8 old lanes (n / 64) (omega (arith, low)) (omega (arith, within)));
  after = λ n high. ap (λ x. bit_in x (n % 64)) (mid-above at 8 old lanes (n / 64) (omega (arith, high)) long (omega (arith, within)));
}

-- ---- eight words as lanes

pub eight_are : (words : List ℕ) (keeps turns j k : ℕ) → length words ≡ 8 → j < 8
    → bit_in (get_or (zip2 bit_xor (replicate 8 turns) (zip2 bit_and (take 8 words) (replicate 8 keeps))) j 0) k ≡ xor_bit (bit_in turns k) (bit_in (get_or words j 0) k && bit_in keeps k)
eight_are words keeps turns j k long low =
    ap (λ n. bit_in n k)
    (get_or-zip2 bit_xor turned kept j 0 0 0 (omega (arith, low, length-replicate 8 turns)) (omega (arith, low, length-kept)) ∙ (λ i. bit_xor (get_or-replicate 8 j turns 0 low i) (kept_is i)))
    ∙ bit_in-xor turns (bit_and (get_or words j 0) keeps) k ∙ ap (xor_bit (bit_in turns k)) (bit_in-and (get_or words j 0) keeps k)
  where
    turned : List ℕ
    turned = replicate 8 turns

    all : List ℕ
    all = take 8 words

    length-all : length all ≡ 8
    length-all = omega (arith, length-take 8 words, long)

    kept : List ℕ
    kept = zip2 bit_and all (replicate 8 keeps)

    length-kept : length kept ≡ 8
    length-kept = length-zip2 bit_and all (replicate 8 keeps) length-all ∙ length-all

    kept_is : get_or kept j 0 ≡ bit_and (get_or words j 0) keeps
    kept_is = get_or-zip2 bit_and all (replicate 8 keeps) j 0 0 0 (omega (arith, low, length-all)) (omega (arith, low, length-replicate 8 keeps)) ∙ (λ i. bit_and (get_or-take 8 words j 0 low i) (get_or-replicate 8 j keeps 0 low i))

-- a slice of eight words that is written whole
pub put_eight : (words lanes : List ℕ) (at : ℕ) → at + 8 ≤ length words → length lanes ≡ 8 → put_chunk 0 (take 8 (drop at words)) lanes ≡ lanes
put_eight words lanes at within long = put_chunk_whole (take 8 (drop at words)) lanes (omega (arith, length-take 8 (drop at words), length-drop at words, within, long))

-- the words of a run that are all of it
pub laid_all : (e : Effects) (to : ℕ) (old part new : List ℕ) → to ≤ length old → IsLaid e 0 (64 * to) old part → IsLaid e (64 * to) (64 * length part) part new → IsLaid e 0 (64 * length old) old new
laid_all e to old part new within one two = laid_more e 0 (64 * to) (64 * length old) old part new (omega arith) (omega (arith, within)) one (rw one.all at two)

-- one word more
pub laid_next : (e : Effects) (from k : ℕ) (old part : List ℕ) (word : ℕ) → from ≤ 64 * k → k < length part → IsLaid e from (64 * k) old part
    → ((j : ℕ) → j < 64 → bit_in word j ≡ effects_bit e j (bit_in (get_or part k 0) j)) → IsLaid e from (64 * (k + 1)) old (set part k word)
laid_next e from k old part word rising within one is =
    let end : 64 * (k + 1) ≡ 64 * k + 64 = omega arith in
    rw end (laid_more e from (64 * k) (64 * k + 64) old part (set part k word) rising (omega arith) one (laid_word e part k word within is))
