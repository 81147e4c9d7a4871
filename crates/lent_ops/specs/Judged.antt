-- Forms whose numbers are judged.
use Rattle.tb_geom.specs.Points.{PixelSet}
use Rattle.shape_strips.specs.Rounds.{round_holds}
use Rattle.shape_strips.specs.Frames.{frame_holds}
use Rattle.shape_strips.specs.Lines.{line_holds}
use Rattle.shape_region.specs.Polygons.{frame_polygon_holds, polygon_holds}
use Rattle.shape_arcs.specs.Wedges.{arc_holds, frame_arc_holds}
use Rattle.lent_ops.specs.declared.forms.Judged.{Judged}
use Rattle.lent_ops.specs.declared.forms.Judged.TheVariants.{Painted, Framed, Drawn, Filled, Outlined, Wedge, FramedWedge}
use Rattle.lent_ops.specs.Points.{points_of}

-- the pixels of a judged form
abbrev pub judged_holds : Judged → PixelSet
judged_holds (Painted s) = round_holds s.rect s.corner
judged_holds (Framed s) = frame_holds s.rect s.corner s.pen
judged_holds (Drawn s) = line_holds s.from s.to s.pen
judged_holds (Filled s) = polygon_holds (points_of s.bytes.now)
judged_holds (Outlined s) = frame_polygon_holds (points_of s.bytes.now) s.pen
judged_holds (Wedge s) = arc_holds s.rect s.start s.angle
judged_holds (FramedWedge s) = frame_arc_holds s.rect s.start s.angle s.pen
