-- Bits that are moved with all words that have one of them, of which the others get their old bits again.
use Rattle.std.proofs.Common.{◌≡◌, ◌≢◌, ℕ, ◌+◌, ◌-◌, ◌*◌, ◌/◌, ◌%◌, ◌<◌, ◌≤◌, Bool, true, false, cond, List, length, get_or, set, nat_eq, nat_le, nat_lt, refl, sym, ap, ◌∙◌, arith}
use Rattle.std.proofs.lemmas.Bool.Decides.{nat_tests}
use Rattle.std.proofs.lemmas.List.{length-set}
use Rattle.bit_map.specs.Words.{bit_in, place_bit, IsMoved, IsRestored}
use Rattle.bit_map.proofs.WordLemmas.{place_bit-here, place_bit-other}

-- a word that is blended with other bits
pub restored : (old : List ℕ) (at word mask new : ℕ) → at < length old → ((k : ℕ) → k < 64 → bit_in new k ≡ cond (bit_in mask k) (bit_in (get_or old at 0) k) (bit_in word k)) → IsRestored at word mask old (set old at new)
unfolding place_bit
restored old at word mask new within is = record {
  all = length-set old at new;
  here = λ n e. place_bit-here old at new n within e ∙ is (n % 64) (omega arith) ∙ ap (λ j. cond (bit_in mask (n % 64)) (bit_in (get_or old j 0) (n % 64)) (bit_in word (n % 64))) (sym e);
  other = λ n e. place_bit-other old at new n e;
}

-- where the mask is black the bits stay
kept_at : (at word mask : ℕ) (old new : List ℕ) → IsRestored at word mask old new → (n : ℕ) → (n / 64 ≡ at → bit_in mask (n % 64) ≡ true) → place_bit new n ≡ place_bit old n
kept_at at word mask old new is n black = by_word (nat_eq (n / 64) at) refl
  where
    by_word : (t : Bool) → nat_eq (n / 64) at ≡ t → place_bit new n ≡ place_bit old n
    by_word true e =
        let here : n / 64 ≡ at = grind (arith, nat_tests) in
        is.here n here ∙ ap (λ t. cond t (place_bit old n) (bit_in word (n % 64))) (black here)
    by_word false e = is.other n (λ same. absurd (grind (arith, nat_tests)))

-- where it is white they are those of the word
white_at : (at mask : ℕ) (was old new : List ℕ) → IsRestored at (get_or was at 0) mask old new → (n : ℕ) → n / 64 ≡ at → bit_in mask (n % 64) ≡ false → place_bit new n ≡ place_bit was n
unfolding place_bit
white_at at mask was old new is n here white = is.here n here ∙ ap (λ t. cond t (place_bit old n) (bit_in (get_or was at 0) (n % 64))) white ∙ ap (λ j. bit_in (get_or was j 0) (n % 64)) (sym here)

-- the words that have bits of a part, and what is done to them
pub record IsWide (place source count : ℕ) (old mid one new : List ℕ) (left right : ℕ) : Type 0 where
  pub some : 0 < count
  pub gap : place % 64 ≤ source
  pub moved : IsMoved (64 * (place / 64)) (source - place % 64) (64 * ((place + count - 1) / 64 - place / 64 + 1)) old mid
  pub first : IsRestored (place / 64) (get_or old (place / 64) 0) left mid one
  pub last : IsRestored ((place + count - 1) / 64) (get_or old ((place + count - 1) / 64) 0) right one new
  pub from : (k : ℕ) → k < 64 → bit_in left k ≡ nat_le (place % 64) k
  pub to : (k : ℕ) → k < 64 → bit_in right k ≡ nat_lt k (place + count - 64 * ((place + count - 1) / 64))

pub wide_moved : (place source count : ℕ) (old mid one new : List ℕ) (left right : ℕ) → IsWide place source count old mid one new left right → IsMoved place source count old new
wide_moved place source count old mid one new left right w = record {
  all = w.last.all ∙ w.first.all ∙ w.moved.all;
  run = λ k low. last_kept (place + k) (omega (arith, low)) ∙ first_kept (place + k) (omega arith) ∙ inside k low;
  before = λ i low. last_kept i (omega (arith, low, w.some)) ∙ before_first i low;
  after = λ i high. by_end i high (nat_eq (i / 64) ((place + count - 1) / 64)) refl;
}
  where
    last_kept : (n : ℕ) → n < place + count → place_bit new n ≡ place_bit one n
    last_kept n low = kept_at ((place + count - 1) / 64) (get_or old ((place + count - 1) / 64) 0) right one new w.last n (λ e.
        let inside : nat_lt (n % 64) (place + count - 64 * ((place + count - 1) / 64)) ≡ true = let under : n % 64 < place + count - 64 * ((place + count - 1) / 64) = omega (arith, e, low) in grind (arith, nat_tests) in
        w.to (n % 64) (omega arith) ∙ inside)

    first_kept : (n : ℕ) → place ≤ n → place_bit one n ≡ place_bit mid n
    first_kept n high = kept_at (place / 64) (get_or old (place / 64) 0) left mid one w.first n (λ e.
        let inside : nat_le (place % 64) (n % 64) ≡ true = let past : place % 64 ≤ n % 64 = omega (arith, e, high) in grind (arith, nat_tests) in
        w.from (n % 64) (omega arith) ∙ inside)

    inside : (k : ℕ) → k < count → place_bit mid (place + k) ≡ place_bit old (source + k)
    inside k low =
        let at : 64 * (place / 64) + (place % 64 + k) ≡ place + k = omega arith in
        let from : source - place % 64 + (place % 64 + k) ≡ source + k = omega (arith, w.gap) in
        ap (place_bit mid) (sym at) ∙ w.moved.run (place % 64 + k) (omega (arith, low)) ∙ ap (place_bit old) from

    before_first : (i : ℕ) → i < place → place_bit one i ≡ place_bit old i
    before_first i low = by_word (nat_eq (i / 64) (place / 64)) refl
      where
        by_word : (t : Bool) → nat_eq (i / 64) (place / 64) ≡ t → place_bit one i ≡ place_bit old i
        by_word true e =
            let here : i / 64 ≡ place / 64 = grind (arith, nat_tests) in
            let outside : nat_le (place % 64) (i % 64) ≡ false = let under : i % 64 < place % 64 = omega (arith, here, low) in grind (arith, nat_tests) in
            white_at (place / 64) left old mid one w.first i here (w.from (i % 64) (omega arith) ∙ outside)
        by_word false e =
            let other : i / 64 ≢ place / 64 = λ same. absurd (grind (arith, nat_tests)) in
            let less : i < 64 * (place / 64) = omega (arith, other, low) in
            w.first.other i other ∙ w.moved.before i less

    by_end : (i : ℕ) → place + count ≤ i → (t : Bool) → nat_eq (i / 64) ((place + count - 1) / 64) ≡ t → place_bit new i ≡ place_bit old i
    by_end i high true e =
        let here : i / 64 ≡ (place + count - 1) / 64 = grind (arith, nat_tests) in
        let outside : nat_lt (i % 64) (place + count - 64 * ((place + count - 1) / 64)) ≡ false =
        let past : place + count - 64 * ((place + count - 1) / 64) ≤ i % 64 = omega (arith, here, high, w.some) in grind (arith, nat_tests) in
        white_at ((place + count - 1) / 64) right old one new w.last i here (w.to (i % 64) (omega arith) ∙ outside)
    by_end i high false e =
        let other : i / 64 ≢ (place + count - 1) / 64 = λ same. absurd (grind (arith, nat_tests)) in
        let past : (place + count - 1) / 64 < i / 64 = omega (arith, other, high, w.some) in
        let away : i / 64 ≢ place / 64 = λ same. absurd (omega (arith, past, same)) in
        w.last.other i other ∙ w.first.other i away ∙ w.moved.after i (omega (arith, past, w.some))
