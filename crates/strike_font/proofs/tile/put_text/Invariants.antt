use Rattle.std.proofs.Common.{◌≡◌, ◌<◌, ◌≤◌, ◌*◌, ◌/◌, ◌%◌, ◌+ℤ◌, ◌||◌, ◌≤ℤ◌, ℕ, ℤ, pos, drop}
use Rattle.bit_map.specs.Words.{place_bit}
use Rattle.strike_font.specs.Text.{glyphs_pixel}
use Rattle.strike_font.proofs.tile.put_text.Given as goal

abbrev pub invariant-loop-character : goal.invariant-loop-character
invariant-loop-character l = record {
  value : (n : ℕ) → n < 8192 → (place_bit l.words n || glyphs_pixel l.bytes (drop l.character-index l.text) l.across (l.x +ℤ pos (n % 512)) (l.y +ℤ pos (n / 512))) ≡ (place_bit l.fn.words n || glyphs_pixel l.bytes l.text 0 (l.x +ℤ pos (n % 512)) (l.y +ℤ pos (n / 512)));
  far : (h v : ℤ) → l.right ≤ℤ h → glyphs_pixel l.bytes l.text 0 h v ≡ glyphs_pixel l.bytes (drop l.character-index l.text) l.across h v;
  small : l.across ≤ 255 * l.character-index;
}
