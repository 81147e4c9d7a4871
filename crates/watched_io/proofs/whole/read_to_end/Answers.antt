use Rattle.std.proofs.Common.{rules, List, ℕ, Result, Ok, Err}
use Rattle.std.specs.Prelude.{IfErr}
use Rattle.std.specs.Io.KnownBytes.{Consumes}
use Rattle.std.proofs.KnownBytes.{Consumes-trans}
use Rattle.tb_geom.specs.declared.refusal.Refusal.{Refusal}
use Rattle.watched_io.specs.Reads.{Input, IsNotHad, IsStuck}
use Rattle.watched_io.proofs.whole.read_to_end.Goals as goal

not_had : {X : Type 0} (r : Result X Refusal) (input rest : Input) (front : List ℕ) → Consumes input.remaining rest.remaining front → IfErr r (IsStuck rest) → IfErr r (IsNotHad input rest)
not_had (Ok x) input rest front read why = tt
not_had (Err e) input rest front read why = record { front = front; read = read; why = why }

pub returns-in_err-keep-clause-refused : goal.returns-in_err-keep-clause-refused
returns-in_err-keep-clause-refused g c =
    let (all, gave, kept) = c.loop-read.invariant.gave in
    not_had c.from_residual-in_err-keep.result (g.R.Source.input c.args.source.now) (g.R.Source.input c.read_some.new.self) _
    (Consumes-trans _ _ _ all _ gave c.in_ok-count.ensures.bytes.consumed) (search rules)

pub returns-in_default-clause-refused : goal.returns-in_default-clause-refused
returns-in_default-clause-refused g c =
    let (all, gave, kept) = c.loop-read.invariant.gave in
    record {
      front = _;
      read = Consumes-trans _ _ _ all _ gave c.in_ok-read_some.ensures.bytes.consumed;
      why = search rules;
    }
