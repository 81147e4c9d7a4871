use Rattle.std.proofs.Common.{subst, All, Some}
use Rattle.std.proofs.lemmas.List.Elements.{All-tail, All-pop}
use Rattle.region_bytes.specs.Points.{IsInRange}
use Rattle.region_rows.proofs.layers.next_row.Goals as goal

pub returns-clause-rest : goal.returns-clause-rest
returns-clause-rest c = All-tail IsInRange c.in_ok-row-2.row.now c.in_ok-row-2.rest.now (subst (All IsInRange) c.in_ok-row-2.ensures.cases.0 c.requires)

pub returns-then-up-clause-rest : goal.returns-then-up-clause-rest
returns-then-up-clause-rest c = (All-pop IsInRange c.args.rows.now c.in_ok-row.rest.now (Some c.in_ok-row.row.now) c.in_ok-row.ensures.cases.0 c.requires).0
