use Rattle.std.proofs.Common.{◌≡◌, ◌*◌, ◌≤◌, ◌≤ℤ◌, ℤ, drop}
use Rattle.strike_font.specs.Text.{glyphs_pixel}
use Rattle.strike_font.proofs.text.reach.Given as goal

abbrev pub invariant-loop-character : goal.invariant-loop-character
invariant-loop-character l = record {
  value : (x y : ℤ) → l.right ≤ℤ x → glyphs_pixel l.bytes l.text 0 x y ≡ glyphs_pixel l.bytes (drop l.character-index l.text) l.across x y;
  small : l.across ≤ 255 * l.character-index;
}
