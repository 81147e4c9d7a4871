use Rattle.std.proofs.Common.{◌≡◌, ◌+◌}
use Rattle.std.specs.Io.KnownBytes.{Consumes}
use Rattle.watched_io.specs.Reads.{IsOpen, IsKeptOf}
use Rattle.watched_io.proofs.whole.read_to_end.Given as goal

abbrev pub invariant-loop-read : goal.invariant-loop-read
invariant-loop-read g l = record {
  going : IsOpen (g.R.Source.input l.source);
  gave : IsKeptOf l.most (Consumes (g.R.Source.input l.fn.source).remaining (g.R.Source.input l.source).remaining) l.bytes.items;
  counted : (g.R.Source.input l.source).reads + 1 ≡ l.read;
}
