-- Both sides of a merge, and what turns of them in a row.
use Rattle.std.specs.Prelude.{◌≡◌, Bool, List, ℤ}
use Rattle.region_rows.specs.Edges.{by_first, by_second, differ, inside, kept, IsEdges}
use Rattle.region_rows.specs.declared.merge.Sides.{Sides}
use Rattle.region_rows.specs.declared.operator.Operator.{Operator}

-- the sides are turned at their points p and q
pub record AreTurned (old new : Sides) (p q : List ℤ) : Type 0 where
  pub a_left : (h : ℤ) → inside new.of_a.edges.items h ≡ differ (inside old.of_a.edges.items h) (inside p h)
  pub b_left : (h : ℤ) → inside new.of_b.edges.items h ≡ differ (inside old.of_b.edges.items h) (inside q h)
  pub a_edges : IsEdges new.of_a.edges.items
  pub b_edges : IsEdges new.of_b.edges.items

-- where the combination turns with them
abbrev pub turns_of : Operator → Sides → List ℤ → List ℤ → ℤ → Bool
turns_of o s p q h = differ (kept (by_first o) (inside p h) (inside s.of_b.edges.items h)) (kept (by_second o) (inside q h) (differ (inside s.of_a.edges.items h) (inside p h)))
