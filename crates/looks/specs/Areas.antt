-- Areas: rectangles added and taken away, one after another.
use Rattle.std.specs.Prelude.{Bool, true, false, ◌&&◌, if◌then◌else◌, List}
use Rattle.std.specs.List.{fold}
use Rattle.tb_geom.specs.declared.point.Point.{Point}
use Rattle.tb_geom.specs.declared.rect.Rect.{Rect}
use Rattle.tb_geom.specs.Points.{PixelSet}
use Rattle.tb_geom.specs.Rects.{rect_holds, is_in_range}
use Rattle.looks.specs.declared.area.Piece.{Piece}

-- whether the point is in after the piece, where it was or was not before
abbrev pub pieced : Point → Bool → Piece → Bool
pieced p held piece = if piece.on && rect_holds piece.rect p then piece.adds else held

-- the points of an area: the last piece that holds one decides
abbrev pub area_holds : List Piece → PixelSet
area_holds pieces p = fold (pieced p) false pieces

-- a piece that is on: a rectangle that is added
abbrev pub added_rect : Rect → Piece
added_rect r = record { on = true; rect = r; adds = true }

-- one that is taken away
abbrev pub removed_rect : Rect → Piece
removed_rect r = record { on = true; rect = r; adds = false }

-- the piece, where the test holds
abbrev pub only : Bool → Piece → Piece
only test piece = record piece { on = test }

-- the rectangle of a piece that is on has its sides in range
abbrev pub piece_fits : Piece → Bool
piece_fits piece = if piece.on then is_in_range piece.rect else true
