-- What a call does that leaves the stock alone, whatever slots the stock has.
use Rattle.std.specs.Prelude.{List, Option, Result}
use Rattle.tb_geom.specs.declared.point.Point.{Point}
use Rattle.tb_geom.specs.declared.refusal.Refusal.{Refusal}
use Rattle.def_iface.specs.Slots.{TakenBox}
use Rattle.def_iface.specs.WindowMeaning.{WindowLoan}
use Rattle.def_iface.specs.WindowSlots.{WindowSlot}
use Rattle.desk_call.specs.declared.window.WindowReply.{WindowReply}
use Rattle.window_mgr.specs.declared.arrange.Activates.{Activates}
use Rattle.window_mgr.specs.declared.arrange.Edit.{Edit}
use Rattle.window_mgr.specs.declared.manager.WindowManager.{WindowManager}
use Rattle.window_mgr.specs.Edits.{IsRearranged}
use Rattle.window_mgr.specs.Whole.{IsWholeManager}

-- `loan` says what a definition that was taken means
module _ {V : Type 0} {H : V → Type 0} (loan : TakenBox V H → WindowLoan) where
  -- over any slots over which the window manager is whole, it is whole after a call that puts one window anew, and this is
  -- what the call answers and leaves
  abbrev pub IsRearrangedOverAnySlots : Edit → Activates → Option Point → Result WindowReply Refusal
      → WindowManager V H → WindowManager V H → Type 0
  IsRearrangedOverAnySlots e activates by result old new = (slots : List WindowSlot) → IsWholeManager loan old slots
      → IsWholeManager loan new slots × IsRearranged loan e activates by result old new slots
