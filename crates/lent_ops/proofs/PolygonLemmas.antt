-- Polygons and their frames lie in -16384..16383 where their points do.
use Rattle.std.proofs.Common.{◌≡◌, inl, inr, ℤ, pos, negsuc, ◌<ℤ◌, ◌≤ℤ◌, Bool, true, false, ◌&&◌, ◌||◌, List, [], ◌∷◌, refl, sym, ◌∙◌, arith}
use Rattle.std.specs.Prelude.{int_lt}
use Rattle.std.specs.List.{list_all}
use Rattle.std.proofs.lemmas.Bool.{and_parts}
use Rattle.std.proofs.lemmas.Int.{ints, by_lt_z}
use Rattle.tb_geom.specs.declared.point.Point.{Point}
use Rattle.tb_geom.specs.Rects.{in_plane, is_coordinate}
use Rattle.region_rows.specs.Edges.{differ}
use Rattle.shape_strips.specs.declared.pen.Pen.{Pen}
use Rattle.shape_strips.specs.Bands.{passes}
use Rattle.shape_strips.specs.Lines.{line_holds, pen_fits}
use Rattle.shape_strips.proofs.BandLemmas.{passes_above, passes_left}
use Rattle.shape_strips.proofs.RangeLemmas.{coordinate_from, coordinate_high, coordinate_low}
use Rattle.shape_region.specs.Polygons.{are_in_plane, frame_polygon_holds, odd_edges, polygon_holds, some_line}
use Rattle.shape_region.proofs.PolygonLemmas.{none_past}

-- a pixel that lies out of range, and not past the last column, is passed by no edge
passes_away : (a b p : Point) → in_plane a ≡ true → in_plane b ≡ true → in_plane p ≡ false → p.h <ℤ pos 16383 → passes a b p ≡ false
passes_away a b p from to out short =
    let at_a = and_parts (is_coordinate a.h) (is_coordinate a.v) from in
    let at_b = and_parts (is_coordinate b.h) (is_coordinate b.v) to in
    let a_left = coordinate_low a.h at_a.0 in
    let b_left = coordinate_low b.h at_b.0 in
    let a_top = coordinate_low a.v at_a.1 in
    let b_bottom = coordinate_high b.v at_b.1 in
    by_lt_z p.v a.v
    (λ above. passes_above a b p (inl above))
    (λ low. by_lt_z p.v b.v
    (λ high. by_lt_z p.h (negsuc 16383)
    (λ left. passes_left a b p (omega (arith, ints)) (omega (arith, ints)))
    (λ right.
    let across : is_coordinate p.h ≡ true = coordinate_from p.h (omega (arith, ints)) (omega (arith, ints)) in
    let down : is_coordinate p.v ≡ true = coordinate_from p.v (omega (arith, ints)) (omega (arith, ints)) in
    let within : in_plane p ≡ true = λ i. across i && down i in
    absurd (cc)))
    (λ below. passes_above a b p (inr below)))

edges_away : (from : Point) (xs : List Point) (to p : Point) → in_plane from ≡ true → are_in_plane xs ≡ true → in_plane to ≡ true
    → in_plane p ≡ false → p.h <ℤ pos 16383 → odd_edges from xs to p ≡ false
edges_away from [] to p f all t out short = λ i. passes_away from to p f t out short i || passes_away to from p t f out short i
edges_away from (x ∷ xs) to p f all t out short =
    let parts = and_parts (in_plane x) (list_all in_plane xs) all in
    λ i. differ (passes_away from x p f parts.0 out short i || passes_away x from p parts.0 f out short i) (edges_away x xs to p parts.0 parts.1 t out short i)

pub polygon_away : (xs : List Point) (p : Point) → are_in_plane xs ≡ true → in_plane p ≡ false → polygon_holds xs p ≡ false
polygon_away [] p all out = refl
polygon_away (x ∷ xs) p all out =
    let parts = and_parts (in_plane x) (list_all in_plane xs) all in
    by_lt_z p.h (pos 16383)
    (λ short. edges_away x xs x p parts.0 parts.1 parts.0 out short)
    (λ past. none_past x xs p parts.0 parts.1 past)

-- lines that have no pixel out of range
module _ (pen : Pen) (p : Point) (away : (a b : Point) → pen_fits pen a ≡ true → pen_fits pen b ≡ true → line_holds a b pen p ≡ false) where
  lines_away : (from : Point) (xs : List Point) (to : Point) → pen_fits pen from ≡ true → list_all (pen_fits pen) xs ≡ true → pen_fits pen to ≡ true
      → some_line from xs to pen p ≡ false
  lines_away from [] to f all t = away from to f t
  lines_away from (x ∷ xs) to f all t =
      let parts = and_parts (pen_fits pen x) (list_all (pen_fits pen) xs) all in
      λ i. away from x f parts.0 i || lines_away x xs to parts.0 parts.1 t i

  pub frame_away : (xs : List Point) → list_all (pen_fits pen) xs ≡ true → frame_polygon_holds xs pen p ≡ false
  frame_away [] all = refl
  frame_away (x ∷ xs) all =
      let parts = and_parts (pen_fits pen x) (list_all (pen_fits pen) xs) all in
      lines_away x xs x parts.0 parts.1 parts.0
