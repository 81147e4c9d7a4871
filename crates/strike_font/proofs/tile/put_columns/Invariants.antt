use Rattle.strike_font.proofs.TileLemmas.{HasColumnsOf}
use Rattle.strike_font.proofs.tile.put_columns.Given as goal

abbrev pub invariant-loop-at : goal.invariant-loop-at
invariant-loop-at l = HasColumnsOf l.bytes l.glyph l.column l.row l.at l.fn.words l.words
