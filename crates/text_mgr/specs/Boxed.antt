-- Text records beside windows, seen through what boxes of windows' definitions mean.
use Rattle.std.specs.declared.alloc.Global.{Global}
use Rattle.std.specs.declared.dyn_box.DynBox.{DynBox}
use Rattle.def_iface.specs.declared.window_def.WindowDef as window_def
use Rattle.def_iface.specs.Boxed.{window_loan_by}
use Rattle.window_mgr.specs.declared.manager.WindowManager.{WindowManager}
use Rattle.window_mgr.specs.DeskStates.{Opened}
use Rattle.text_mgr.specs.declared.texts.Texts.{Texts}
use Rattle.text_mgr.specs.TextDesks.{TextDesk}
use Rattle.text_mgr.specs.WholeTexts as whole
use Rattle.text_mgr.specs.WholeTexts.{LeavesTexts}

-- `window` says what a box of a window's definition means
module _ {V : Type 0} {H : V → Type 0} (window : (b : DynBox V Global H) → window_def.Ghosts (H b.vtable)) where
  -- they are whole beside these windows
  abbrev pub AreBeside : WindowManager V H → Texts → Type 0
  AreBeside t m = whole.AreBeside (window_loan_by window) t m

  -- windows and text records are whole afterwards, and together they are such a step of the desk, whatever other layers show
  abbrev pub Leaves : (TextDesk → TextDesk → Type 0) → WindowManager V H → Opened → Texts → WindowManager V H → Opened → Texts → Type 0
  Leaves step t o m u p n = LeavesTexts (window_loan_by window) step t o m u p n
