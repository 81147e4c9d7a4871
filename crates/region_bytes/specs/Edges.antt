-- A row of pixels as its edges: the columns, from left to right, at which it turns from out to in or back.
use Rattle.std.specs.Prelude.{◌≡◌, ℕ, zero, suc, ◌<◌, Bool, true, false, not, List, [], ◌∷◌, length, slice_index_or, ℤ, pos, negsuc, ◌<ℤ◌, ◌≤ℤ◌, int_le}

-- one of the two, and not both
abbrev pub differ : Bool → Bool → Bool
differ true b = not b
differ false b = b

-- whether the row has the pixel at the column h: an odd number of edges is at h or left of it
unfoldable pub inside : List ℤ → ℤ → Bool
inside [] h = false
inside (x ∷ xs) h = differ (int_le x h) (inside xs h)

-- the numbers rise strictly
pub record IsRising (xs : List ℤ) : Type 0 where
  pub rises : (i j : ℕ) → i < j → j < length xs → slice_index_or xs i (pos 0) <ℤ slice_index_or xs j (pos 0)

-- whether a number is odd
unfoldable pub is_odd : ℕ → Bool
is_odd zero = false
is_odd (suc n) = not (is_odd n)

-- the number lies in -16384..16383
abbrev pub IsCoordinate : ℤ → Type 0
IsCoordinate z = (negsuc 16383 ≤ℤ z) × (z ≤ℤ pos 16383)

-- the edges of a row rise strictly, are coordinates, and each run of pixels has its two
pub record IsRow (edges : List ℤ) : Type 0 where
  pub rising : IsRising edges
  pub even : is_odd (length edges) ≡ false
  pub in_range : (k : ℕ) → k < length edges → IsCoordinate (slice_index_or edges k (pos 0))
