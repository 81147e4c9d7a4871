-- How two rows of edges, and two regions, are combined.
use Rattle.std.specs.Prelude.{Bool, true, false, not, ◌&&◌, ◌||◌, ◌-◌, List, [], ◌∷◌, length, slice_index_or, ℤ, pos, negsuc, ◌<ℤ◌, ◌≤ℤ◌}
pub use Rattle.region_bytes.specs.Edges.{differ, IsRising, IsCoordinate, IsRow}
unfoldable pub use Rattle.region_bytes.specs.Edges.{inside, is_odd}
use Rattle.region_rows.specs.declared.kernel.Kept.{Kept}
use Rattle.region_rows.specs.declared.kernel.Kept.TheVariants.{Shared, Alone, All}
use Rattle.region_rows.specs.declared.operator.Operator.{Operator}
use Rattle.region_rows.specs.declared.operator.Operator.TheVariants.{Union, Intersection, Difference, SymmetricDifference}

-- the numbers rise strictly, from above `low` up to `high`
abbrev pub IsClimb : ℤ → List ℤ → ℤ → Type 0
IsClimb low [] high = low ≤ℤ high
IsClimb low (x ∷ xs) high = (low <ℤ x) × IsClimb x xs high

-- they do, and are coordinates
abbrev pub IsEdges : List ℤ → Type 0
IsEdges xs = IsClimb (negsuc 16384) xs (pos 16383)

-- the last number of the one is not above the first of the other
abbrev pub EndsBefore : List ℤ → List ℤ → Type 0
EndsBefore xs ys = slice_index_or xs (length xs - 1) (pos 0) ≤ℤ slice_index_or ys 0 (pos 0)

-- whether the two are the same
abbrev pub alike : Bool → Bool → Bool
alike true b = b
alike false b = not b

-- one edge or none
abbrev pub only : Bool → ℤ → List ℤ
only true x = x ∷ []
only false x = []

-- whether a pixel of a row is kept, by whether another one has it
abbrev pub kept : Kept → Bool → Bool → Bool
kept Shared a b = a && b
kept Alone a b = a && not b
kept All a b = a

-- whether a pixel is in the combination of two regions, by whether it is in each side
abbrev pub applied : Operator → Bool → Bool → Bool
applied Union a b = a || b
applied Intersection a b = a && b
applied Difference a b = a && not b
applied SymmetricDifference a b = differ a b

-- whether a pixel is in the combination of two regions that share none, by whether it is in the first one, and in either
abbrev pub applied_apart : Operator → Bool → Bool → Bool
applied_apart Union a e = e
applied_apart Intersection a e = false
applied_apart Difference a e = a
applied_apart SymmetricDifference a e = e

-- where the first side turns, what turns of the combination, by where the second one is in
abbrev pub by_first : Operator → Kept
by_first Union = Alone
by_first Intersection = Shared
by_first Difference = Alone
by_first SymmetricDifference = All

-- and where the second side turns, by where the first one is in
abbrev pub by_second : Operator → Kept
by_second Union = Alone
by_second Intersection = Shared
by_second Difference = Shared
by_second SymmetricDifference = All
