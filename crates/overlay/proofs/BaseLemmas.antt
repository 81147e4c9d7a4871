-- The words of a row of a map, and the pixels that lie in them.
use Rattle.std.proofs.Common.{◌≡◌, ℕ, ◌+◌, ◌-◌, ◌*◌, ◌/◌, ◌%◌, ◌<◌, ◌≤◌, ℤ, pos, negsuc, nat_abs, true, List, get_or, take, drop, ap, ◌∙◌, arith}
use Rattle.std.proofs.lemmas.Bool.Decides.{nat_tests}
use Rattle.std.proofs.lemmas.Int.{ints}
use Rattle.std.proofs.lemmas.List.{get_or-take, get_or-drop}
use Rattle.bit_map.specs.Bits.{Bits, bit, on_map}
use Rattle.bit_map.specs.Rules.{right_of}
use Rattle.bit_map.specs.Words.{bit_in, place_bit}

-- the bits of some words of a list, `count` of them from `first` on
slice_bit : (first count : ℕ) (row : List ℕ) (k : ℕ) → k < 64 * count → place_bit (take (first + count - first) (drop first row)) k ≡ place_bit row (64 * first + k)
unfolding place_bit
slice_bit first count row k low =
    let small : k / 64 < first + count - first = omega (arith, low) in
    let place : first + k / 64 ≡ (64 * first + k) / 64 = omega arith in
    let bit : k % 64 ≡ (64 * first + k) % 64 = omega arith in
    ap (λ n. bit_in n (k % 64)) (get_or-take (first + count - first) (drop first row) (k / 64) 0 small ∙ get_or-drop first row (k / 64) 0)
    ∙ λ i. bit_in (get_or row (place i) 0) (bit i)

-- so the map has these pixels, and they are the words' bits
pub words_there : (m : Bits) (h v : ℤ) (first count : ℕ) (row : List ℕ) → on_map m (record { h = h; v = v }) ≡ true
    → nat_abs h ≡ 64 * first → 64 * (first + count) ≤ m.width
    → ((x : ℕ) → x < m.width → place_bit row x ≡ bit m (record { h = pos x; v = pos (nat_abs v) }))
    → (k : ℕ) → k < 64 * count
    → (on_map m (right_of (record { h = h; v = v }) k) ≡ true)
    × (place_bit (take (first + count - first) (drop first row)) k ≡ bit m (right_of (record { h = h; v = v }) k))
unfolding on_map
words_there m (pos h) (pos v) first count row on begins within is k few =
    let across : h + k < m.width = omega (arith, begins, within, few) in
    let there : 64 * first + k ≡ h + k = omega (arith, begins) in
    (grind (arith, ints, nat_tests, across, on), slice_bit first count row k few ∙ ap (place_bit row) there ∙ is (h + k) across)
words_there m (negsuc h) v first count row on begins within is k few = absurd (cc)
words_there m (pos h) (negsuc v) first count row on begins within is k few = absurd (grind (arith, ints, nat_tests, on))
