-- The inversion points of a row below another one.
use Rattle.std.proofs.Common.{◌≡◌, List, [], length, ℤ, pos, negsuc, sym, ap, ◌∙◌, subst, arith}
use Rattle.std.proofs.lemmas.Int.{ints}
use Rattle.std.proofs.lemmas.List.{get_or_default}
use Rattle.region_bytes.specs.Points.{IsInRange}
use Rattle.region_bytes.proofs.Edges.{IsRow-nil}
use Rattle.region_rows.specs.Edges.{differ, inside, is_odd, IsCoordinate, IsEdges, IsRow}
use Rattle.region_rows.specs.Rows.{EdgeRow, with_row, IsPushed}
use Rattle.region_rows.proofs.Climbs.{edges_of, inside_above, row_of}
use Rattle.region_rows.proofs.Turnings.{IsTurned}
use Rattle.shape_region.specs.Rows.{turns}

-- the columns at which one row turns into another are even in number: right of all of them neither has a pixel
pub turned_row : (above row points : List ℤ) → IsRow above → IsRow row → IsTurned above row points → IsRow points
turned_row above row points a b t =
    row_of points t.edges
    (sym (last points t.edges) ∙ t.pixels (pos 16383) ∙ (λ i. differ ((last above (edges_of above a) ∙ a.even) i) ((last row (edges_of row b) ∙ b.even) i)))
  where
    last : (xs : List ℤ) → IsEdges xs → inside xs (pos 16383) ≡ is_odd (length xs)
    last xs e = inside_above (negsuc 16384) xs (pos 16383) (pos 16383) e (omega (arith, ints))

-- no points are no row
pub none_pushed : (rows : List EdgeRow) (v : ℤ) (above row points : List ℤ) → points ≡ [] → ((h : ℤ) → inside points h ≡ turns above row h) → IsPushed rows rows v (turns above row)
none_pushed rows v above row points e pixels =
    record { points = []; pixels = λ h. ap (λ xs. inside xs h) (sym e) ∙ pixels h; row = IsRow-nil; pushed = refl_rows }
  where
    refl_rows : rows ≡ with_row rows v []
    refl_rows = λ i. rows

-- a row in range
pub row_in_range : (v : ℤ) (xs : List ℤ) → IsCoordinate v → IsRow xs → IsInRange (v, xs)
row_in_range v xs top r = (top, λ k d m. subst IsCoordinate (get_or_default xs k (pos 0) d m) (r.in_range k m))
