use Rattle.std.proofs.Common.{◌+◌, sym, arith}
use Rattle.strike_font.specs.Record.{last_symbol}
use Rattle.strike_font.proofs.RecordLemmas.{rising-false, rising-broken}
use Rattle.strike_font.proofs.record.are_locations_good.Goals as goal

pub returns-then-location : goal.returns-then-location
returns-then-location c =
    sym (rising-false c.args.bytes.now (c.loop-symbol.symbol + 1) (last_symbol c.args.bytes.now + 1) (omega arith) (rising-broken c.args.bytes.now c.loop-symbol.symbol (omega arith)))
