-- What holds of a window manager by itself, between calls.
use Rattle.std.specs.Prelude.{List}
use Rattle.def_iface.specs.Slots.{TakenBox}
use Rattle.def_iface.specs.WindowMeaning.{WindowLoan}
use Rattle.def_iface.specs.WindowSlots.{WindowSlot}
use Rattle.window_mgr.specs.declared.manager.WindowManager.{WindowManager}
use Rattle.window_mgr.specs.Whole.{IsWholeManager}

-- `loan` says what a definition that was taken means
module _ {V : Type 0} {H : V → Type 0} (loan : TakenBox V H → WindowLoan) where
  -- it is whole over some slots
  pub record IsKept (t : WindowManager V H) : Type 0 where
    pub slots : List WindowSlot
    pub whole : IsWholeManager loan t slots
