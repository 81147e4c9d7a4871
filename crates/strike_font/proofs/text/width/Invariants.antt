use Rattle.std.proofs.Common.{◌≡◌, ◌+◌, ◌*◌, ◌≤◌, drop}
use Rattle.strike_font.specs.Text.{text_width}
use Rattle.strike_font.proofs.text.width.Given as goal

abbrev pub invariant-loop-character : goal.invariant-loop-character
invariant-loop-character l = record {
  value : l.across + text_width l.bytes (drop l.character-index l.text) ≡ text_width l.bytes l.text;
  small : l.across ≤ 255 * l.character-index;
}
