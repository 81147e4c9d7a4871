use Rattle.std.proofs.Common.{[], SFits, w32, rules}
use Rattle.std.proofs.lemmas.Int.{to_z-of_z}
use Rattle.text_mgr.proofs.Changing.{point_read, selected_read}
use Rattle.text_mgr.proofs.changes.from_backspace.Goals as goal

pub returns-then-start-end : goal.returns-then-start-end
returns-then-start-end c =
    let its = c.selection-start in
    let fits : SFits w32 c.change_row.result = search rules in
    simp to_z-of_z (point_read c.args.font.now c.args.record.now its.result c.saturating_sub.result c.change_row.result its.ensures.selection its.ensures.within c.if-start-end.true c.saturating_sub.ensures c.change_row.ensures)

pub returns-else-start-end : goal.returns-else-start-end
returns-else-start-end c =
    let its = c.selection-start in
    selected_read c.from_selection.result c.args.font.now c.args.record.now its.result its.ensures.selection c.if-start-end.false (c.from_selection.ensures.put c.args.record.now.end [])
