-- A window when a change is made that was planned before.
use Rattle.std.specs.Prelude.{◌≡◌, ℕ}
use Rattle.tb_geom.specs.Pixels.{Pixels}
use Rattle.def_iface.specs.Slots.{TakenBox}
use Rattle.def_iface.specs.WindowMeaning.{WindowLoan}
use Rattle.window_list.specs.Holders.{PlacedLayers}
use Rattle.window_list.specs.declared.window.Window.{Window}
use Rattle.window_mgr.specs.declared.manager.WindowManager.{WindowManager}
use Rattle.window_mgr.specs.Edits.{IsWindowAt}
use Rattle.window_mgr.specs.Relayered.{HasUpdate}

-- `loan` says what a definition that was taken means
module _ {V : Type 0} {H : V → Type 0} (loan : TakenBox V H → WindowLoan) where
  -- a window manager in which the window at this place has these layers, and of its content as much is visible as in `t`, of which
  -- this is to be redrawn
  pub record IsLaidSo (at : ℕ) (ls : PlacedLayers) (update : Pixels) (t u : WindowManager V H) : Type 0 where
    pub has : HasUpdate loan at update t u
    pub layers : (w : Window V H) → IsWindowAt u.windows.records.items at w → w.layers ≡ ls
