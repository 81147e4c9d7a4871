-- How far distances reach, that the numbers there have 32 bits, and what tests of two answers say.
use Rattle.std.proofs.Common.{◌≡◌, Bool, true, false, not, ℤ, pos, negsuc, ◌+ℤ◌, ◌-ℤ◌, ◌≤ℤ◌, refl, sym, arith, SFits, w32}
use Rattle.std.specs.Bool.{beq}
use Rattle.std.proofs.lemmas.Int.{ints}
use Rattle.region_bytes.specs.Bytes.{IsWord}
use Rattle.region_rows.specs.Edges.{IsCoordinate}
use Rattle.region_inset.specs.Near.{reach, widening, IsDistance, IsReached}
use Rattle.region_inset.proofs.NearLemmas.{reach_low, widening_low}

reach_high : (d : ℤ) → IsDistance d → reach d ≤ℤ pos 65535
reach_high (pos n) i = i.1
reach_high (negsuc n) i = let low = i.0 in omega (arith, ints)

pub reach_within : (d r : ℤ) → r ≡ reach d → IsDistance d → (pos 0 ≤ℤ r) × (r ≤ℤ pos 65535)
reach_within d r is i =
    let low = reach_low d in
    let high = reach_high d i in
    (omega (arith, ints), omega (arith, ints))

pub reached_fits : (z : ℤ) → IsReached z → SFits w32 z
reached_fits z i =
    let low = i.0 in
    let high = i.1 in
    search (arith, ints)

pub next_fits : (n : ℤ) → SFits w32 n → n ≤ℤ pos 200000 → SFits w32 (n +ℤ pos 1)
next_fits n f l = search (arith, ints)

-- the ends of a window around a number of 16 bits
pub record HasWindow (h r : ℤ) : Type 0 where
  pub first : IsReached (h -ℤ r)
  pub middle : IsReached (h +ℤ r)
  pub last : IsReached ((h +ℤ r) +ℤ pos 1)
  pub first_fits : SFits w32 (h -ℤ r)
  pub second_fits : SFits w32 ((h -ℤ r) +ℤ pos 1)
  pub middle_fits : SFits w32 (h +ℤ r)
  pub last_fits : SFits w32 ((h +ℤ r) +ℤ pos 1)
  pub order : (h -ℤ r) ≤ℤ (h +ℤ r)

pub window_around : (h d r : ℤ) → IsWord h → r ≡ reach d → IsDistance d → HasWindow h r
window_around h d r word is i =
    let w = reach_within d r is i in
    let low = w.0 in
    let high = w.1 in
    let first = word.0 in
    let last = word.1 in
    let a : IsReached (h -ℤ r) = (omega (arith, ints), omega (arith, ints)) in
    let b : IsReached (h +ℤ r) = (omega (arith, ints), omega (arith, ints)) in
    let c : IsReached ((h +ℤ r) +ℤ pos 1) = (omega (arith, ints), omega (arith, ints)) in
    record {
      first = a;
      middle = b;
      last = c;
      first_fits = reached_fits (h -ℤ r) a;
      second_fits = next_fits (h -ℤ r) (reached_fits (h -ℤ r) a) (omega (arith, ints));
      middle_fits = reached_fits (h +ℤ r) b;
      last_fits = reached_fits ((h +ℤ r) +ℤ pos 1) c;
      order = omega (arith, ints);
    }

-- a side that is widened, on either side
pub record HasEnds (z w : ℤ) : Type 0 where
  pub less_fits : SFits w32 (z -ℤ w)
  pub more_fits : SFits w32 (z +ℤ w)

widening_high : (d : ℤ) → IsDistance d → widening d ≤ℤ pos 65535
widening_high (pos n) i = omega (arith, ints)
widening_high (negsuc n) i =
    let low = i.0 in
    omega (arith, ints)

pub ends_of : (z d w : ℤ) → IsCoordinate z → w ≡ widening d → IsDistance d → HasEnds z w
ends_of z d w in_range is i =
    let low = widening_low d in
    let high = widening_high d i in
    let first = in_range.0 in
    let last = in_range.1 in
    record {
      less_fits = reached_fits (z -ℤ w) (omega (arith, ints), omega (arith, ints));
      more_fits = reached_fits (z +ℤ w) (omega (arith, ints), omega (arith, ints));
    }

-- a coordinate has 16 bits
pub coordinate_word : (z : ℤ) → IsCoordinate z → IsWord z
coordinate_word z i =
    let low = i.0 in
    let high = i.1 in
    (omega (arith, ints), omega (arith, ints))

-- and so has a distance of 16 bits
pub word_distance : (z : ℤ) → IsWord z → IsDistance z
word_distance z i =
    let low = i.0 in
    let high = i.1 in
    (omega (arith, ints), omega (arith, ints))

-- ---- what tests of two answers say

pub same_answers : (a b : Bool) → beq a b ≡ true → a ≡ b
same_answers true true e = refl
same_answers true false e = sym e
same_answers false true e = e
same_answers false false e = refl

pub other_answers : (a b : Bool) → beq a b ≡ false → a ≡ not b
other_answers true true e = e
other_answers true false e = refl
other_answers false true e = refl
other_answers false false e = sym e
