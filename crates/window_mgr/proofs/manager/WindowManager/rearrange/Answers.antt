use Rattle.window_mgr.proofs.EditCalls as editing
use Rattle.window_mgr.proofs.Seating.{as_many}
use Rattle.window_mgr.proofs.manager.WindowManager.rearrange.Goals as goal

pub commit_edit-requires-clause-areas : goal.commit_edit-requires-clause-areas
commit_edit-requires-clause-areas g c = as_many _ c.args.self.now c.requires.kept

pub commit_edit-requires-clause-settled : goal.commit_edit-requires-clause-settled
commit_edit-requires-clause-settled g c =
    editing.all_settled _ c.args.self.now _ c.args.edit _ c.requires.kept.whole c.requires.at c.requires.placed c.requires.size

pub returns-clause-step : goal.returns-clause-step
returns-clause-step g c slots whole =
    editing.edit_done _ c.args.edit c.args.activates _ c.args.by _ c.args.self.now c.commit_edit.new.self slots (record {
      whole = whole;
      low = c.requires.at;
      may = c.requires.placed;
      same = c.requires.size;
      way = c.requires.way;
      becomes = c.in-Ok.ensures.activation;
      planned = rw c.is_some.ensures at c.in-Ok.ensures.plan;
      committed = c.commit_edit.ensures;
    })

pub returns-clause-sparing : goal.returns-clause-sparing
returns-clause-sparing g c =
    editing.edit_spares _ c.args.edit c.args.activates _ c.args.by _ c.args.self.now c.commit_edit.new.self _ (record {
      whole = c.requires.kept.whole;
      low = c.requires.at;
      may = c.requires.placed;
      same = c.requires.size;
      way = c.requires.way;
      becomes = c.in-Ok.ensures.activation;
      planned = rw c.is_some.ensures at c.in-Ok.ensures.plan;
      committed = c.commit_edit.ensures;
    })
