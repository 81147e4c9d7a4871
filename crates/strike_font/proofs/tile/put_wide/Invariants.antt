use Rattle.strike_font.proofs.TileLemmas.{HasRows}
use Rattle.strike_font.proofs.tile.put_wide.Given as goal

abbrev pub invariant-loop-down : goal.invariant-loop-down
invariant-loop-down l = HasRows l.bytes l.glyph l.column l.row l.at l.down l.fn.words l.words
