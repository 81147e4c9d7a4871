use Rattle.std.proofs.Common.{◌≡◌, ℕ, ◌<◌, length}
use Rattle.strike_font.specs.Text.{glyph_of}
use Rattle.text_lines.specs.Widths.{byte_width}
use Rattle.text_mgr.proofs.fonts.widths_of.Given as goal

-- the bytes before this one have their widths
abbrev pub invariant-loop-byte : goal.invariant-loop-byte
invariant-loop-byte l = (length l.widths ≡ 256) × ((c : ℕ) → c < l.byte → byte_width l.widths c ≡ (glyph_of l.font c).width)
