use Rattle.std.proofs.Common.{refl, sym}
use Rattle.def_iface.specs.contracts.taken_list.TakenListDefined.TheImpl as list
use Rattle.list_mgr.specs.declared.line_edit.LineChange.TheVariants.{Add}
use Rattle.list_mgr.specs.LineEdits.{scrolled_after}
use Rattle.list_mgr.specs.WholeLists.{records_of}
use Rattle.list_mgr.proofs.LinesGiven.{stays_same}
use Rattle.window_items.proofs.EditLemmas.{edit_nothing}
use Rattle.list_mgr.proofs.lines.Lists+TakenList.scroll_back.Goals as goal

pub returns-in-Add-clause-lists : goal.returns-in-Add-clause-lists
returns-in-Add-clause-lists g c =
    rw c.in-Add.is (sym (edit_nothing (scrolled_after Add) c.args.spot.list (records_of (list.loan-value g.dyn-1).it c.args.self.now) (λ x there. refl)))

pub returns-in-Add-clause-changes : goal.returns-in-Add-clause-changes
returns-in-Add-clause-changes g c = rw c.in-Add.is (stays_same _)

pub returns-in-Delete-clause-lists : goal.returns-in-Delete-clause-lists
returns-in-Delete-clause-lists g c = rw c.in-Delete.is c.scroll_by.ensures.lists

pub returns-in-Delete-clause-changes : goal.returns-in-Delete-clause-changes
returns-in-Delete-clause-changes g c = rw c.in-Delete.is c.scroll_by.ensures.changes
