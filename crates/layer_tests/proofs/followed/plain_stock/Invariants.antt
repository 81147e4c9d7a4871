use Rattle.std.specs.Prelude.{All}
use Rattle.def_iface.specs.contracts.taken_window.WindowStockStocked.TheImpl as stock
use Rattle.def_iface.specs.WindowSlots.{IsFull}
use Rattle.layer_tests.proofs.followed.plain_stock.Given as goal

abbrev pub invariant-loop : goal.invariant-loop
invariant-loop g l = All IsFull ((stock.slots-value g.dyn-1).it l.stock)
