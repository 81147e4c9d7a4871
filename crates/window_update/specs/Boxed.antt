-- What is kept for updates, beside windows that are seen through what boxes of definitions mean.
use Rattle.std.specs.declared.alloc.Global.{Global}
use Rattle.std.specs.declared.dyn_box.DynBox.{DynBox}
use Rattle.def_iface.specs.declared.window_def.WindowDef as window_def
use Rattle.def_iface.specs.Boxed.{window_loan_by}
use Rattle.desk_call.specs.declared.activity.Activity.{Activity}
use Rattle.window_mgr.specs.declared.manager.WindowManager.{WindowManager}
use Rattle.window_update.specs.declared.updates.Updates.{Updates}
use Rattle.window_update.specs.WholeUpdates.{IsWholeUpdates}

-- `window` says what a box of a window's definition means
module _ {V : Type 0} {H : V → Type 0} (window : (b : DynBox V Global H) → window_def.Ghosts (H b.vtable)) where
  -- it is whole beside these windows, where this is open
  abbrev pub IsWhole : Activity → WindowManager V H → Updates → Type 0
  IsWhole activity t u = IsWholeUpdates (window_loan_by window) activity t u
