use Rattle.std.specs.Prelude.{All}
use Rattle.def_iface.specs.contracts.taken_control.ControlStockStocked.TheImpl as control_stock
use Rattle.def_iface.specs.contracts.taken_window.WindowStockStocked.TheImpl as stock
use Rattle.def_iface.specs.Slots as slots
use Rattle.def_iface.specs.WindowSlots.{IsFull}
use Rattle.desk_bench.proofs.main.OwnLists as own
use Rattle.desk_bench.proofs.main.Given as goal

abbrev pub invariant-loop : goal.invariant-loop
invariant-loop l = All IsFull ((stock.slots-value (own.own-1, own.lawful-own-1)).it l.windows)
    × All (slots.IsFull (λ d. d.stage)) ((control_stock.slots-value (own.own-2, own.lawful-own-2)).it l.controls)

abbrev pub invariant-loop-2 : goal.invariant-loop-2
invariant-loop-2 l = All IsFull ((stock.slots-value (own.own-1, own.lawful-own-1)).it l.windows)
    × All (slots.IsFull (λ d. d.stage)) ((control_stock.slots-value (own.own-2, own.lawful-own-2)).it l.controls)
