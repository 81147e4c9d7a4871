-- What is kept for updates.
use Rattle.std.specs.Prelude.{◌≡◌, ℕ, []}
use Rattle.tb_geom.specs.Pixels.{holds}
use Rattle.def_iface.specs.Slots.{TakenBox}
use Rattle.def_iface.specs.WindowMeaning.{WindowLoan}
use Rattle.desk_call.specs.declared.activity.Activity.{Activity}
use Rattle.desk_call.specs.declared.activity.Activity.TheVariants.{Updating}
use Rattle.vis_update.specs.Areas.{stale_in}
use Rattle.window_mgr.specs.declared.manager.WindowManager.{WindowManager}
use Rattle.window_mgr.specs.DeskStates.{Opened}
use Rattle.window_mgr.specs.FullDesk.{layered_desk}
use Rattle.window_mgr.specs.Records.{desk_of}
use Rattle.window_update.specs.declared.updates.Updates.{Updates}
use Rattle.window_update.specs.Choosing.{AreChoices}

-- what is open, and what was to be redrawn when an update began
abbrev pub opened : Activity → Updates → Opened
opened activity u = record { activity = activity; begun = λ p. holds u.begun p }

-- `loan` says what a definition that was taken means
module _ {V : Type 0} {H : V → Type 0} (loan : TakenBox V H → WindowLoan) where
  -- the map for comparing is as wide and high as the screen, and for the update that is open, if one is, the regions
  -- are kept that its draws leave
  pub record IsWholeUpdates (activity : Activity) (t : WindowManager V H) (u : Updates) : Type 0 where
    pub width : u.buffer.width ≡ t.screen.width
    pub height : u.buffer.height ≡ t.screen.height
    pub choices : (s : ℕ) → activity ≡ Updating s → AreChoices s (layered_desk (desk_of loan t [])) (stale_in t.areas.items) u.choices
