use Rattle.std.proofs.Common.{List, ℕ, Option, map, drop}
use Rattle.tb_geom.specs.Points.{PixelSet}
use Rattle.def_iface.specs.WindowSlots.{WindowSlot}
use Rattle.def_iface.specs.contracts.taken_window.TakenWindowDefined.TheImpl as taken
use Rattle.vis_update.specs.Records.{record_of}
use Rattle.window_mgr.specs.DeskStates.{desk_state}
use Rattle.window_update.specs.Waiting.{IsFirstWaiting, IsFirstToUpdate}
use Rattle.window_update.proofs.waiting.first_to_update.Given as goal

abbrev pub invariant-loop-at : goal.invariant-loop-at
invariant-loop-at g l = (begun : PixelSet) (slots : List WindowSlot) (first : Option ℕ)
    → IsFirstWaiting (desk_state ((taken.loan-value g.dyn-1).it) l.fn.windows (record { activity = l.fn.activity; begun = begun }) slots) (map (record_of ((taken.loan-value g.dyn-1).it)) (drop l.at l.fn.windows.windows.records.items)) first
    → IsFirstToUpdate (desk_state ((taken.loan-value g.dyn-1).it) l.fn.windows (record { activity = l.fn.activity; begun = begun }) slots) first
