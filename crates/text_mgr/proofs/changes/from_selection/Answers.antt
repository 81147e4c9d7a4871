use Rattle.std.proofs.Common.{SFits, w32, rules}
use Rattle.std.proofs.lemmas.Int.{to_z-of_z}
use Rattle.text_mgr.proofs.Changing.{inserted_read, put_read}
use Rattle.text_mgr.proofs.changes.from_selection.Goals as goal

pub returns-clause-put : goal.returns-clause-put
returns-clause-put c end bytes =
    let its = c.selection-start in
    let fits : SFits w32 c.change_row.result = search rules in
    simp to_z-of_z (put_read c.args.font.now c.args.record.now its.result c.change_row.result its.ensures.selection its.ensures.order its.ensures.within c.change_row.ensures end bytes)

pub returns-clause-inserted : goal.returns-clause-inserted
returns-clause-inserted c bytes =
    let its = c.selection-start in
    let fits : SFits w32 c.change_row.result = search rules in
    simp to_z-of_z (inserted_read c.args.font.now c.args.record.now its.result c.change_row.result its.ensures.selection its.ensures.order its.ensures.within c.change_row.ensures bytes)
