use Rattle.std.proofs.Common.{take, map}
use Rattle.def_iface.specs.contracts.taken_window.TakenWindowDefined.TheImpl as taken
use Rattle.vis_update.specs.Records.{record_of}
use Rattle.window_mgr.specs.Commits.{ArePainted, erased, redrawn}
use Rattle.window_paint.specs.Writes.{IsWrittenBy}
use Rattle.window_mgr.proofs.commit.paint_parts.Given as goal

abbrev pub invariant-loop-at : goal.invariant-loop-at
invariant-loop-at g l = record {
  painted : ArePainted l.font (map (record_of ((taken.loan-value g.dyn-1).it)) (take l.at l.windows.records.items)) (take l.at l.parts) l.fn.screen l.screen;
  written : IsWrittenBy (erased (take l.at l.parts)) (redrawn (take l.at l.parts)) l.fn.screen l.screen;
}
