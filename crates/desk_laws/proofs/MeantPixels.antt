-- The bytes that a call carries mean what the definitions of its step say of them.
use Rattle.std.proofs.Common.{◌≡◌, ℕ, List, Option, None, Some, ap, ◌∙◌}
use Rattle.std.specs.Option.{option_map}
use Rattle.tb_geom.specs.Pixels.{Pixels, holds}
use Rattle.tb_geom.specs.Points.{PixelSet}
use Rattle.draw_port.specs.declared.shapes.Op.{Op}
use Rattle.draw_port.specs.declared.shapes.Shape.{Shape}
use Rattle.draw_port.specs.declared.shapes.Shape.TheVariants.{FillRgn}
use Rattle.lent_ops.specs.declared.op_ref.OpRef.{OpRef}
use Rattle.lent_ops.specs.declared.op_ref.ShapeRef.{ShapeRef}
use Rattle.lent_ops.specs.declared.op_ref.ShapeRef.TheVariants as lent
use Rattle.lent_ops.specs.OpRefs.{IsMeant, MeansClip, MeansShape}
use Rattle.desk_call.specs.declared.update.AreaRef.{AreaRef}
use Rattle.desk_call.specs.declared.update.AreaRef.TheVariants as areas
use Rattle.window_update.specs.Sets.{IsAreaOf}
use Rattle.desk_laws.specs.Meant.{area_pixels, operation_of, shape_of}
use Rattle.region_bytes.specs.Text.{pixels_of}
use Rattle.lent_ops.proofs.SaidPixels.{region_is}

-- ---- areas

pub area_is : (area : AreaRef) (set : PixelSet) → IsAreaOf area set → set ≡ area_pixels area
area_is (areas.Rect r) set is = λ i p. is p i
area_is (areas.Region bytes) set (region, its, is) = λ i p. (is p ∙ ap (λ g. holds g p) (region_is bytes region its)) i

-- ---- operations

shape_is : (given : ShapeRef) (shape : Shape) → MeansShape given shape → shape ≡ shape_of given
shape_is (lent.Erase r) shape is = is
shape_is (lent.Invert r) shape is = is
shape_is (lent.Fill r shade) shape is = is
shape_is (lent.Frame r shade) shape is = is
shape_is (lent.HLine l shade) shape is = is
shape_is (lent.VLine l shade) shape is = is
shape_is (lent.Text t) shape is = is
shape_is (lent.Bits b) shape is = is
shape_is (lent.Form form shade) shape is = is
shape_is (lent.FrameRgn bytes pen shade) shape is = is
shape_is (lent.FillRgn bytes shade) shape (region, its, is) = is ∙ ap (λ g. FillRgn g shade) (region_is bytes region its)

clip_is : (given : Option (List ℕ)) (clip : Option Pixels) → MeansClip given clip → clip ≡ option_map pixels_of given
clip_is None clip is = is
clip_is (Some bytes) clip (region, its, is) = is ∙ ap Some (region_is bytes region its)

pub operation_is : (given : OpRef) (op : Op) → IsMeant given op → op ≡ operation_of given
operation_is given op meant = λ i. record { clip = clip_is given.clip op.clip meant.clip i; shape = shape_is given.shape op.shape meant.shape i }
