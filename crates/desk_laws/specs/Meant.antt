-- What the bytes that a call carries mean: the pixels of an area, and the operation of a drawing.
use Rattle.std.specs.Prelude.{nat_abs}
use Rattle.std.specs.Option.{option_map}
use Rattle.tb_geom.specs.Points.{PixelSet}
use Rattle.tb_geom.specs.Pixels.{holds}
use Rattle.tb_geom.specs.Rects.{rect_holds}
use Rattle.region_bytes.specs.Text.{pixels_of}
use Rattle.draw_port.specs.declared.shapes.Op.{Op}
use Rattle.draw_port.specs.declared.shapes.Shape.{Shape}
use Rattle.draw_port.specs.declared.shapes.Shape.TheVariants.{Erase, Invert, Fill, Frame, HLine, VLine, Text, Bits, FillRgn}
use Rattle.lent_ops.specs.declared.op_ref.OpRef.{OpRef}
use Rattle.lent_ops.specs.declared.op_ref.ShapeRef.{ShapeRef}
use Rattle.lent_ops.specs.declared.op_ref.ShapeRef.TheVariants as lent
use Rattle.lent_ops.specs.Forms.{form_pixels}
use Rattle.lent_ops.specs.OpRefs.{frame_pixels, line_of}
use Rattle.desk_call.specs.declared.update.AreaRef.{AreaRef}
use Rattle.desk_call.specs.declared.update.AreaRef.TheVariants as areas

-- the pixels of an area, as its window sees them
abbrev pub area_pixels : AreaRef → PixelSet
area_pixels (areas.Rect r) = rect_holds r
area_pixels (areas.Region bytes) = holds (pixels_of bytes)

-- the shape of a drawing
abbrev pub shape_of : ShapeRef → Shape
shape_of (lent.Erase r) = Erase r
shape_of (lent.Invert r) = Invert r
shape_of (lent.Fill r shade) = Fill r shade
shape_of (lent.Frame r shade) = Frame r shade
shape_of (lent.HLine l shade) = HLine (line_of l) shade
shape_of (lent.VLine l shade) = VLine (line_of l) shade
shape_of (lent.Text t) = Text (record { pen = t.pen; mode = t.mode; text = t.text })
shape_of (lent.Bits b) = Bits (record {
  place = b.place;
  width = nat_abs b.width;
  height = nat_abs b.height;
  mode = b.mode;
  rows = b.rows;
})
shape_of (lent.FillRgn bytes shade) = FillRgn (pixels_of bytes) shade
shape_of (lent.FrameRgn bytes pen shade) = FillRgn (frame_pixels bytes pen) shade
shape_of (lent.Form form shade) = FillRgn (form_pixels form) shade

-- its operation: the shape, cut to its clip, if it has one
abbrev pub operation_of : OpRef → Op
operation_of given = record { clip = option_map pixels_of given.clip; shape = shape_of given.shape }
