-- What drawing operations make of a pixel.
use Rattle.std.specs.Prelude.{ℕ, ℤ, pos, ◌+ℤ◌, Bool, true, false, not, cond, ◌&&◌, ◌||◌, List, Option, Some, None}
use Rattle.std.specs.List.{fold}
use Rattle.std.specs.Ordering.{int_eq}
use Rattle.tb_geom.specs.declared.point.Point.{Point}
use Rattle.tb_geom.specs.declared.rect.Rect.{Rect}
use Rattle.tb_geom.specs.Points.{PixelSet, minus}
use Rattle.tb_geom.specs.Rects.{between, rect_holds}
use Rattle.tb_geom.specs.Pixels.{Pixels, holds}
use Rattle.bit_map.specs.Images.{Image, image_holds, image_bit}
use Rattle.bit_map.specs.Modes.{mode_bit}
use Rattle.bit_map.specs.Patterns.{pattern_bit}
use Rattle.bit_map.specs.declared.mode.Mode.{Mode}
use Rattle.bit_map.specs.declared.mode.Mode.TheVariants.{Or as OrMode, Xor as XorMode, Bic as BicMode}
use Rattle.strike_font.specs.Text.{text_holds}
use Rattle.draw_port.specs.declared.shapes.Shade.{Shade}
use Rattle.draw_port.specs.declared.shapes.Line.{Line}
use Rattle.draw_port.specs.declared.shapes.TextMode.{TextMode}
use Rattle.draw_port.specs.declared.shapes.TextMode.TheVariants.{Or, Xor, Bic}
use Rattle.draw_port.specs.declared.shapes.TextRun.{TextRun}
use Rattle.draw_port.specs.declared.shapes.RowsOfBits.{RowsOfBits}
use Rattle.draw_port.specs.declared.shapes.Shape.{Shape}
use Rattle.draw_port.specs.declared.shapes.Shape.TheVariants.{Erase, Invert, Fill, Frame, HLine, VLine, Text, Bits, FillRgn}
use Rattle.draw_port.specs.declared.shapes.Op.{Op}

-- whether x is the first or the last number of low .. high - 1, of which it is one
unfoldable pub is_end : ℤ → ℤ → ℤ → Bool
is_end low x high = int_eq x low || int_eq (x +ℤ pos 1) high

-- the outermost pixels of the rectangle
abbrev pub frame_holds : Rect → PixelSet
frame_holds r p = rect_holds r p && (is_end r.left p.h r.right || is_end r.top p.v r.bottom)

-- the pixels of a line to the right
abbrev pub row_holds : Line → PixelSet
row_holds l p = between l.start.h p.h (l.start.h +ℤ pos l.count) && int_eq p.v l.start.v

-- the pixels of a line down
abbrev pub column_holds : Line → PixelSet
column_holds l p = int_eq p.h l.start.h && between l.start.v p.v (l.start.v +ℤ pos l.count)

-- the pixels of a text
abbrev pub run_holds : List ℕ → TextRun → PixelSet
run_holds font t p = text_holds font t.text t.pen p

-- the rows as an image
abbrev pub image_of : RowsOfBits → Image
image_of b = record { width = b.width; height = b.height; rows = b.rows }

-- the mode of a text
abbrev pub text_mode : TextMode → Mode
text_mode Or = OrMode
text_mode Xor = XorMode
text_mode Bic = BicMode

-- what a shade makes of the bit d at a point
abbrev pub shade_value : Shade → Point → Bool → Bool
shade_value s p d = mode_bit s.mode (pattern_bit s.pattern p) d

-- whether the shape has the pixel
abbrev pub shape_holds : List ℕ → Shape → PixelSet
shape_holds font (Erase r) p = rect_holds r p
shape_holds font (Invert r) p = rect_holds r p
shape_holds font (Fill r s) p = rect_holds r p
shape_holds font (Frame r s) p = frame_holds r p
shape_holds font (HLine l s) p = row_holds l p
shape_holds font (VLine l s) p = column_holds l p
shape_holds font (Text t) p = run_holds font t p
shape_holds font (Bits b) p = image_holds (image_of b) (minus p b.place)
shape_holds font (FillRgn g s) p = holds g p

-- what the shape makes of the bit d of a pixel that it has
abbrev pub shape_value : Shape → Point → Bool → Bool
shape_value (Erase r) p d = false
shape_value (Invert r) p d = not d
shape_value (Fill r s) p d = shade_value s p d
shape_value (Frame r s) p d = shade_value s p d
shape_value (HLine l s) p d = shade_value s p d
shape_value (VLine l s) p d = shade_value s p d
shape_value (Text t) p d = mode_bit (text_mode t.mode) true d
shape_value (Bits b) p d = mode_bit b.mode (image_bit (image_of b) (minus p b.place)) d
shape_value (FillRgn g s) p d = shade_value s p d

-- whether a clip has the pixel; without a clip every pixel counts
abbrev pub clip_holds : Option Pixels → PixelSet
clip_holds None p = true
clip_holds (Some s) p = holds s p

-- whether the operation has the pixel: its clip has it, and its shape
unfoldable pub op_holds : List ℕ → Op → PixelSet
op_holds font op p = clip_holds op.clip p && shape_holds font op.shape p

-- what the operation makes of the bit d at a point
unfoldable pub op_value : List ℕ → Op → Point → Bool → Bool
op_value font op p d = cond (op_holds font op p) (shape_value op.shape p d) d

-- what operations make of the bit d, one after another
abbrev pub picture_value : List ℕ → List Op → Point → Bool → Bool
picture_value font ops p d = fold (λ b op. op_value font op p b) d ops

-- the value of a picture: what its operations make of white
abbrev pub picture_bit : List ℕ → List Op → PixelSet
picture_bit font ops p = picture_value font ops p false
