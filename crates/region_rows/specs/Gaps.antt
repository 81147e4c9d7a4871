-- Two columns among the edges of a row that has none between them.
use Rattle.std.specs.Prelude.{if◌then◌else◌, ◌≡◌, ◌+◌, ◌<◌, ◌≤◌, ◌⊎◌, ℕ, Bool, true, false, List, ◌++◌, length, take, drop, slice_index_or, ℤ, pos, ◌<ℤ◌, ◌≤ℤ◌}
use Rattle.region_rows.specs.Edges.{only}
use Rattle.region_rows.specs.declared.turning.Gap.{Gap}

-- so many edges lie left of the column x, and it is one or not
pub record IsPlace (edges : List ℤ) (x : ℤ) (place : ℕ) (is_edge : Bool) : Type 0 where
  pub within : place ≤ length edges
  pub left : (k : ℕ) → k < place → slice_index_or edges k (pos 0) <ℤ x
  pub there : is_edge ≡ true → (place < length edges) × (slice_index_or edges place (pos 0) ≡ x)
  pub apart : is_edge ≡ false → place < length edges → x <ℤ slice_index_or edges place (pos 0)

-- no edge lies right of the one column and left of the other
abbrev pub IsFree : List ℤ → ℤ → ℤ → Type 0
IsFree edges left right = (k : ℕ) → k < length edges → (slice_index_or edges k (pos 0) ≤ℤ left) ⊎ (right ≤ℤ slice_index_or edges k (pos 0))

-- how many edges lie left of the place after both columns
abbrev pub after : Gap → ℕ
after gap = if gap.begins then (if gap.ends then gap.place + 2 else gap.place + 1) else (if gap.ends then gap.place + 1 else gap.place)

-- the edges left of both columns, these for the columns, and the edges right of both
abbrev pub across : List ℤ → Gap → List ℤ → List ℤ → List ℤ
across edges gap at_left at_right = take gap.place edges ++ (at_left ++ (at_right ++ drop (after gap) edges))

-- the columns lie so
pub record IsGap (edges : List ℤ) (left right : ℤ) (gap : Gap) : Type 0 where
  pub within : after gap ≤ length edges
  pub edges_left : (k : ℕ) → k < gap.place → slice_index_or edges k (pos 0) <ℤ left
  pub columns : edges ≡ across edges gap (only gap.begins left) (only gap.ends right)
  pub edges_right : after gap < length edges → right <ℤ slice_index_or edges (after gap) (pos 0)
