-- What is near a number: all numbers within a distance to either side.
use Rattle.std.specs.Prelude.{◌≡◌, Bool, true, false, not, ◌&&◌, ◌||◌, ℕ, zero, suc, ℤ, pos, negsuc, ◌+ℤ◌, ◌-ℤ◌, ◌≤ℤ◌, ◌<ℤ◌}

-- whether a test holds at x, and at each number up to n below and above x
unfoldable pub all_within : ℕ → (ℤ → Bool) → ℤ → Bool
all_within zero test x = test x
all_within (suc n) test x = all_within n test x && (test (x -ℤ pos (suc n)) && test (x +ℤ pos (suc n)))

-- whether it holds at one of these
unfoldable pub some_within : ℕ → (ℤ → Bool) → ℤ → Bool
some_within zero test x = test x
some_within (suc n) test x = some_within n test x || (test (x -ℤ pos (suc n)) || test (x +ℤ pos (suc n)))

-- a test that is narrowed by d: whether it holds at all numbers within d of x. By a negative d it is widened: whether
-- it holds at one number within -d of x
unfoldable pub narrowed : ℤ → (ℤ → Bool) → ℤ → Bool
narrowed (pos n) test x = all_within n test x
narrowed (negsuc n) test x = some_within (suc n) test x

-- whether d narrows, so that all numbers have to pass
abbrev pub narrows : ℤ → Bool
narrows (pos n) = true
narrows (negsuc n) = false

-- how far from x the numbers lie that are asked
abbrev pub reach : ℤ → ℤ
reach (pos n) = pos n
reach (negsuc n) = pos (suc n)

-- how far a test is widened
abbrev pub widening : ℤ → ℤ
widening (pos n) = pos 0
widening (negsuc n) = pos (suc n)

-- the distance is no greater than a pen may be wide
abbrev pub IsDistance : ℤ → Type 0
IsDistance d = (negsuc 65534 ≤ℤ d) × (d ≤ℤ pos 65535)

-- a number that a distance reaches from one of 16 bits
abbrev pub IsReached : ℤ → Type 0
IsReached z = (negsuc 99999 ≤ℤ z) × (z ≤ℤ pos 99999)

-- a test gives the same for the n numbers before x, and for no more of those from `from` on
pub record IsRun (same : Bool) (test : ℤ → Bool) (from x n : ℤ) : Type 0 where
  pub low : pos 0 ≤ℤ n
  pub high : n ≤ℤ (x -ℤ from)
  pub alike : (y : ℤ) → (x -ℤ n) ≤ℤ y → y <ℤ x → test y ≡ same
  pub ends : n <ℤ (x -ℤ from) → test (x -ℤ (n +ℤ pos 1)) ≡ not same
