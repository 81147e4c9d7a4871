-- From which row on a record shows otherwise where its bytes changed.
use Rattle.std.specs.Prelude.{◌≡◌, ◌≤◌, ◌-◌, ℕ, List, length, take, ℤ, pos, ◌-ℤ◌}
use Rattle.strike_font.specs.Record.{ascent}
use Rattle.text_record.specs.Texts.{Record}
use Rattle.text_record.specs.Places.{line_top, row_of}

-- the bytes from an offset on were changed, and the selection, which lies there or behind it
pub record IsChangedFrom (m : ℕ) (before after : Record) : Type 0 where
  pub rest : after ≡ record before { text = after.text; start = after.start; end = after.end; caret = after.caret }
  pub lined : after.text ≡ record before.text { bytes = after.text.bytes }
  pub bytes : take m after.text.bytes ≡ take m before.text.bytes
  pub long : m ≤ length before.text.bytes
  pub within : m ≤ before.start
  pub behind : m ≤ after.start

-- the row from which on it may show otherwise then: the top row of the line before that of the last byte that stays, and as many
-- rows more as glyphs of the font reach above their line
abbrev pub change_row : List ℕ → ℕ → Record → ℤ
change_row font m r = line_top r (row_of r (m - 1) - 1) -ℤ pos (ascent font - r.ascent)
