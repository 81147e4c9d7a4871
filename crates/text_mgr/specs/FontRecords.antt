-- What a text record keeps of the font of a desk.
use Rattle.std.specs.Prelude.{◌≡◌, ◌<◌, ℕ, List, length}
use Rattle.strike_font.specs.Record.{ascent, descent, leading}
use Rattle.strike_font.specs.Text.{glyph_of}
use Rattle.text_lines.specs.Widths.{byte_width}
use Rattle.text_record.specs.declared.metrics.Metrics.{Metrics}

-- the table has the width of each byte's glyph
pub record AreWidthsOf (font widths : List ℕ) : Type 0 where
  pub many : length widths ≡ 256
  pub each : (c : ℕ) → c < 256 → byte_width widths c ≡ (glyph_of font c).width

-- these are the font's numbers
pub record AreMetricsOf (font : List ℕ) (m : Metrics) : Type 0 where
  pub ascent : m.ascent ≡ ascent font
  pub descent : m.descent ≡ descent font
  pub leading : m.leading ≡ leading font
