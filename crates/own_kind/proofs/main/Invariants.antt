use Rattle.std.specs.Prelude.{All}
use Rattle.def_iface.specs.contracts.taken_control.ControlStockStocked.TheImpl as control_stock
use Rattle.def_iface.specs.contracts.taken_list.ListStockStocked.TheImpl as list_stock
use Rattle.def_iface.specs.contracts.taken_menu.MenuStockStocked.TheImpl as menu_stock
use Rattle.def_iface.specs.contracts.taken_window.WindowStockStocked.TheImpl as stock
use Rattle.def_iface.specs.Slots as slots
use Rattle.def_iface.specs.WindowSlots.{IsFull}
use Rattle.own_kind.proofs.main.OwnLists as own
use Rattle.own_kind.proofs.main.Given as goal

abbrev pub invariant-loop : goal.invariant-loop
invariant-loop l = All IsFull ((stock.slots-value (own.own-1, own.lawful-own-1)).it l.windows)

abbrev pub invariant-loop-kind : goal.invariant-loop-kind
invariant-loop-kind l = All IsFull ((stock.slots-value (own.own-1, own.lawful-own-1)).it l.windows)

abbrev pub invariant-loop-2 : goal.invariant-loop-2
invariant-loop-2 l = All (slots.IsFull (λ d. d.stage)) ((control_stock.slots-value (own.own-2, own.lawful-own-2)).it l.controls)

abbrev pub invariant-loop-kind-2 : goal.invariant-loop-kind-2
invariant-loop-kind-2 l = All (slots.IsFull (λ d. d.stage)) ((control_stock.slots-value (own.own-2, own.lawful-own-2)).it l.controls)

abbrev pub invariant-loop-3 : goal.invariant-loop-3
invariant-loop-3 l = All (slots.IsFull (λ d. d.stage)) ((menu_stock.slots-value (own.own-3, own.lawful-own-3)).it l.menus)

abbrev pub invariant-loop-4 : goal.invariant-loop-4
invariant-loop-4 l = All (slots.IsFull (λ d. d.stage)) ((list_stock.slots-value (own.own-4, own.lawful-own-4)).it l.lists)

abbrev pub invariant-loop-kind-3 : goal.invariant-loop-kind-3
invariant-loop-kind-3 l = All (slots.IsFull (λ d. d.stage)) ((list_stock.slots-value (own.own-4, own.lawful-own-4)).it l.lists)
