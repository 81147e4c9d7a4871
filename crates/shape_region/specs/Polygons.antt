-- Polygons, as lists of their points: the pixels that they have, and those of their frames.
use Rattle.std.specs.Prelude.{Bool, false, ◌||◌, List, [], ◌∷◌}
use Rattle.std.specs.List.{list_all}
use Rattle.tb_geom.specs.declared.point.Point.{Point}
use Rattle.tb_geom.specs.declared.rect.Rect.{Rect}
use Rattle.tb_geom.specs.Points.{PixelSet}
use Rattle.tb_geom.specs.Rects.{in_plane}
use Rattle.region_rows.specs.Edges.{differ}
use Rattle.shape_strips.specs.declared.pen.Pen.{Pen}
use Rattle.shape_strips.specs.Bands.{edge_turns}
use Rattle.shape_strips.specs.Lines.{line_holds}

-- whether all points lie in -16384..16383
abbrev pub are_in_plane : List Point → Bool
are_in_plane xs = list_all in_plane xs

-- whether an odd number of edges turns the pixel, on the way from one point along others to a last one
abbrev pub odd_edges : Point → List Point → Point → PixelSet
odd_edges from [] to p = edge_turns from to p
odd_edges from (x ∷ xs) to p = differ (edge_turns from x p) (odd_edges x xs to p)

-- a polygon: the pixels that an odd number of its edges turns, from each point to the next one and from the last to the
-- first
abbrev pub polygon_holds : List Point → PixelSet
polygon_holds [] p = false
polygon_holds (x ∷ xs) p = odd_edges x xs x p

-- whether one of the lines has the pixel, on the way from one point along others to a last one
abbrev pub some_line : Point → List Point → Point → Pen → PixelSet
some_line from [] to pen p = line_holds from to pen p
some_line from (x ∷ xs) to pen p = line_holds from x pen p || some_line x xs to pen p

-- the frame of a polygon: the lines of its edges
abbrev pub frame_polygon_holds : List Point → Pen → PixelSet
frame_polygon_holds [] pen p = false
frame_polygon_holds (x ∷ xs) pen p = some_line x xs x pen p

-- the rectangle whose sides are those of a point
abbrev pub single_point : Point → Rect
single_point p = record { left = p.h; top = p.v; right = p.h; bottom = p.v }
