-- The text of a look, as a font makes it, and where it stands.
use Rattle.std.specs.Prelude.{ℕ, ℤ, Bool, ◌&&◌, int_le, List, negsuc, pos, ◌+ℤ◌, ◌-ℤ◌}
use Rattle.std.specs.Int.{int_div_euclid}
use Rattle.tb_geom.specs.declared.point.Point.{Point}
use Rattle.tb_geom.specs.declared.rect.Rect.{Rect}
use Rattle.tb_geom.specs.Points.{PixelSet}
use Rattle.strike_font.specs.Record.{ascent, descent}
use Rattle.strike_font.specs.Text.{text_width, text_holds}
use Rattle.looks.specs.declared.pen.Baseline.{Baseline}
use Rattle.looks.specs.declared.pen.Baseline.TheVariants.{At as AtRow, Middle as MiddleRow}
use Rattle.looks.specs.declared.pen.Pen.{Pen}
use Rattle.looks.specs.declared.pen.Pen.TheVariants.{At, Middle}
use Rattle.looks.specs.declared.pen.Place.{Place}
use Rattle.looks.specs.declared.pen.Plate.{Plate}

-- how wide a text is, how far its font reaches up and down, and its pixels where it is drawn from a pen on a baseline
pub record Lettering : Type 0 where
  pub width : ℕ
  pub ascent : ℕ
  pub descent : ℕ
  pub pixel : Point → PixelSet

-- a text in a font, which is the list of its bytes
abbrev pub lettering : List ℕ → List ℕ → Lettering
lettering font text = record { width = text_width font text; ascent = ascent font; descent = descent font; pixel = text_holds font text }

-- the column at which a text of this width begins: a given one, or so that the text is in the middle of w columns
unfoldable pub pen_column : ℕ → Pen → ℤ
pen_column width (At h) = h
pen_column width (Middle w) = int_div_euclid (pos w -ℤ pos width) (pos 2)

-- the row of the baseline: a given one, or so that the rows of the font are in the middle of so many rows
unfoldable pub baseline_row : ℕ → ℕ → Baseline → ℤ
baseline_row up down (AtRow v) = v
baseline_row up down (MiddleRow rows) = int_div_euclid (pos rows +ℤ pos up -ℤ pos down) (pos 2)

-- the point from which a text is drawn
abbrev pub pen_point : Lettering → Place → Point
pen_point t p = record { h = pen_column t.width p.pen; v = baseline_row t.ascent t.descent p.baseline }

-- the rectangle around a text of this width in the middle of another, with a margin at both sides
abbrev pub plate_rect : ℕ → Plate → Rect
plate_rect width p = record {
  left = pen_column width (Middle p.width) -ℤ pos p.margin;
  top = p.top;
  right = pen_column width (Middle p.width) +ℤ pos width +ℤ pos p.margin;
  bottom = p.bottom;
}

-- the number is one of 25 bits, as every column is at which a text of at most 65535 characters in the middle of a width begins
abbrev pub is_pen_column : ℤ → Bool
is_pen_column x = int_le (negsuc 16777215) x && int_le x (pos 16777215)
