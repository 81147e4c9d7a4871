-- How far a row has been read.
use Rattle.std.specs.Prelude.{ℕ, ◌<◌, ◌≤◌, List, length, slice_index_or, ℤ, pos, ◌<ℤ◌, ◌≤ℤ◌}

-- the first n edges are those up to the column x
pub record IsCountTo (xs : List ℤ) (n : ℕ) (x : ℤ) : Type 0 where
  pub within : n ≤ length xs
  pub before : (k : ℕ) → k < n → slice_index_or xs k (pos 0) ≤ℤ x

-- and the next one, if there is one, lies right of it
pub record IsCount (xs : List ℤ) (n : ℕ) (x : ℤ) : Type 0 where
  pub counted : IsCountTo xs n x
  pub ahead : n < length xs → x <ℤ slice_index_or xs n (pos 0)
