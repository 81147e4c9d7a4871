use Rattle.list_mgr.proofs.BarsSet.{bars_set_there, kept_then}
use Rattle.list_mgr.proofs.bars.Lists+TakenList.set_bars.Goals as goal

pub set_bar-requires-2-clause-kept : goal.set_bar-requires-2-clause-kept
set_bar-requires-2-clause-kept g c =
    (kept_then _ _ c.index-list.result.now.window c.index-list.result.now.kept.vertical c.vertical_values-down.result c.args.windows.now c.set_bar.new.windows c.args.controls.now c.set_bar.new.controls c.set_bar.ensures c.requires.kept c.requires.beside).0

pub set_bar-requires-2-clause-beside : goal.set_bar-requires-2-clause-beside
set_bar-requires-2-clause-beside g c =
    (kept_then _ _ c.index-list.result.now.window c.index-list.result.now.kept.vertical c.vertical_values-down.result c.args.windows.now c.set_bar.new.windows c.args.controls.now c.set_bar.new.controls c.set_bar.ensures c.requires.kept c.requires.beside).1

pub returns : goal.returns
returns g c l is =
    bars_set_there _ _ _ l c.args.windows.now c.args.self.now c.args.spot is c.index-list.result.now c.index-list.ensures c.rows.result c.columns.result c.vertical_values-down.result c.horizontal_values-across.result
    c.rows.ensures.rows c.columns.ensures.columns c.vertical_values-down.ensures c.horizontal_values-across.ensures
    c.set_bar.new.windows c.set_bar-2.new.windows c.args.controls.now c.set_bar.new.controls c.set_bar-2.new.controls c.set_bar.ensures c.set_bar-2.ensures
