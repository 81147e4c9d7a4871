use Rattle.looks.proofs.DamageLemmas.{box_within, in_first, in_second, outside_both}
use Rattle.looks.specs.Damages.{joined}
use Rattle.own_kind.specs.Strips.{is_lit, lit_cell}
use Rattle.own_kind.proofs.strip_menu.cells_damage.Goals as goal

pub returns-clause-alike : goal.returns-clause-alike
unfolding is_lit
returns-clause-alike c = λ p inside out.
    outside_both c.union.result (lit_cell c.args.old) (lit_cell c.args.new) (rw (c.lit_cell.ensures, c.lit_cell-2.ensures) at c.union.ensures.exact) p out

pub returns-clause-small : goal.returns-clause-small
returns-clause-small c =
    let old = lit_cell c.args.old in
    let new = lit_cell c.args.new in
    box_within c.union.result old new (joined old new) (rw (c.lit_cell.ensures, c.lit_cell-2.ensures) at c.union.ensures.exact) (in_first old new) (in_second old new)
