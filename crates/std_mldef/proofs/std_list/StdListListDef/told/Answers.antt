use Rattle.std_mldef.proofs.CellLemmas.{resized}
use Rattle.std_mldef.proofs.std_list.StdListListDef.told.Goals as goal

pub returns-in-Resized-clause-damage : goal.returns-in-Resized-clause-damage
returns-in-Resized-clause-damage c =
    resized c.args.self.now c.in-Resized.size c.cell_box-old.result c.cell_box.result c.union.result c.cell_box-old.ensures c.cell_box.ensures c.union.ensures.exact
