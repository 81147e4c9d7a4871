-- The pixels of a canvas, and what drawing on it leaves as it was.
use Rattle.std.specs.Prelude.{◌≡◌, ◌&&◌, ℕ, Bool, List, Option}
use Rattle.tb_geom.specs.declared.point.Point.{Point}
use Rattle.tb_geom.specs.Points.{PixelSet, minus}
use Rattle.tb_geom.specs.Rects.{rect_holds}
use Rattle.tb_geom.specs.Pixels.{Pixels}
use Rattle.bit_blit.specs.Draws.{IsWritten}
use Rattle.strike_font.specs.Text.{text_holds}
use Rattle.scan_region.specs.Cuts.{cut_holds}
use Rattle.draw_port.specs.Ops.{clip_holds, op_value, picture_bit, picture_value}
use Rattle.draw_port.specs.declared.shapes.Op.{Op}
use Rattle.draw_port.specs.declared.canvas.Canvas.{Canvas}

-- whether the pixel, of the map, is one of the canvas's
abbrev pub canvas_holds : Canvas → PixelSet
canvas_holds c p = rect_holds c.clip p && cut_holds c.cut.now p

-- the pixel in the canvas's own coordinates
abbrev pub canvas_point : Canvas → Point → Point
canvas_point c p = minus p c.origin

-- whether the pixel is one of the canvas's, and a clip and a text have it
abbrev pub clipped_holds : Canvas → Option Pixels → List ℕ → Point → PixelSet
clipped_holds c clip text pen p = canvas_holds c p && (clip_holds clip (canvas_point c p) && text_holds c.font.now text pen (canvas_point c p))

-- what an operation makes of the bit of a pixel of the map
abbrev pub painted_by : Canvas → Op → Point → Bool → Bool
painted_by c op p d = op_value c.font.now op (canvas_point c p) d

-- what operations make of it, one after another
abbrev pub painted_all : Canvas → List Op → Point → Bool → Bool
painted_all c ops p d = picture_value c.font.now ops (canvas_point c p) d

-- the value of a picture at a pixel of the map
abbrev pub pictured : Canvas → List Op → Point → Bool → Bool
pictured c ops p d = picture_bit c.font.now ops (canvas_point c p)

-- all but the map is as before, and of the map at most the canvas's pixels were written
pub record SameFrame (old new : Canvas) : Type 0 where
  pub clip : new.clip ≡ old.clip
  pub origin : new.origin ≡ old.origin
  pub cut : new.cut ≡ old.cut
  pub font : new.font ≡ old.font
  pub written : IsWritten (canvas_holds old) old.map.now new.map.now
  pub width : new.map.now.width ≡ old.map.now.width
  pub height : new.map.now.height ≡ old.map.now.height
