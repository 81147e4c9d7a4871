use Rattle.std.proofs.Common.{◌≡◌, ◌*◌, ◌≤◌, drop}
use Rattle.strike_font.specs.Text.{glyphs_pixel}
use Rattle.strike_font.proofs.text.glyphs_pixel.Given as goal

abbrev pub invariant-loop-character : goal.invariant-loop-character
invariant-loop-character l = record {
  value : glyphs_pixel l.bytes l.text 0 l.x l.y ≡ glyphs_pixel l.bytes (drop l.character-index l.text) l.across l.x l.y;
  small : l.across ≤ 255 * l.character-index;
}
