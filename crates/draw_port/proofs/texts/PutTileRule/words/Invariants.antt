use Rattle.std.proofs.Common.{◌≡◌, ◌<◌, ◌≤◌, ◌*◌, ℕ, true, cond, pos, ◌+ℤ◌, ◌-ℤ◌, get_or}
use Rattle.bit_map.specs.Modes.{mode_bit}
use Rattle.bit_map.specs.Words.{place_bit}
use Rattle.strike_font.specs.Tiles.{tile_bit}
use Rattle.draw_port.proofs.texts.PutTileRule.words.Given as goal

abbrev pub invariant-loop-k : goal.invariant-loop-k
invariant-loop-k l = record {
  done : (n : ℕ) → n < 64 * l.k → place_bit l.run n ≡ cond (tile_bit l.self.tile.now (l.fn.start.h +ℤ pos n -ℤ l.self.place.h) (l.fn.start.v -ℤ l.self.place.v)) (mode_bit l.self.mode true (place_bit l.fn.run n)) (place_bit l.fn.run n);
  left : (j : ℕ) → l.k ≤ j → get_or l.run j 0 ≡ get_or l.fn.run j 0;
}
