use Rattle.std.proofs.Common.{◌≡◌, true}
use Rattle.strike_font.specs.Record.{rising}
use Rattle.strike_font.proofs.record.are_locations_good.Given as goal

abbrev pub invariant-loop-symbol : goal.invariant-loop-symbol
invariant-loop-symbol l = rising l.bytes l.symbol ≡ true
