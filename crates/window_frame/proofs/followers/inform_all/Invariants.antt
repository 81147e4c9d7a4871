use Rattle.def_iface.specs.contracts.taken_window.TakenWindowDefined.TheImpl as taken
use Rattle.window_frame.proofs.Informing.{IsUnderWay}
use Rattle.window_frame.proofs.followers.inform_all.Given as goal

abbrev pub invariant-loop-at : goal.invariant-loop-at
invariant-loop-at g l = IsUnderWay (taken.loan-value g.dyn-1).it l.at l.fn.windows l.windows
