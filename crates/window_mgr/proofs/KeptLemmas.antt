-- A whole window manager, by itself.
use Rattle.def_iface.specs.Slots.{TakenBox}
use Rattle.std.specs.Prelude.{List}
use Rattle.def_iface.specs.WindowMeaning.{WindowLoan}
use Rattle.def_iface.specs.WindowSlots.{WindowSlot}
use Rattle.window_mgr.specs.declared.manager.WindowManager.{WindowManager}
use Rattle.window_mgr.specs.Kept.{IsKept}
use Rattle.window_mgr.specs.Whole.{IsWholeManager}

-- it is whole over some slots, these
pub kept : {V : Type 0} {H : V → Type 0} (loan : TakenBox V H → WindowLoan) (t : WindowManager V H) (slots : List WindowSlot) → IsWholeManager loan t slots → IsKept loan t
kept loan t slots whole = record { slots = slots; whole = whole }
