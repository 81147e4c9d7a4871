use Rattle.looks.specs.Damages.{joined}
use Rattle.looks.proofs.DamageLemmas.{box_within, in_first, in_second}
use Rattle.std_mldef.specs.Rows.{band}
use Rattle.std_mldef.proofs.damage.rows_damage.Goals as goal

pub returns-clause-small : goal.returns-clause-small
returns-clause-small c =
    let old = band c.args.old in
    let new = band c.args.new in
    box_within c.union.result old new (joined old new) (rw (c.band.ensures.value, c.band-2.ensures.value) at c.union.ensures.exact) (in_first old new) (in_second old new)
