-- A scroll of a window's picture, planned and drawn.
use Rattle.std.specs.Prelude.{◌≡◌, ℕ, [], slice_index_or}
use Rattle.std.specs.Vec.{with_item}
use Rattle.tb_geom.specs.declared.point.Point.{Point}
use Rattle.def_iface.specs.Slots.{TakenBox}
use Rattle.def_iface.specs.WindowMeaning.{WindowLoan}
use Rattle.window_list.specs.declared.window.Window.{Window}
use Rattle.vis_update.specs.declared.area.Area.{Area}
use Rattle.vis_update.specs.declared.scrolling.Scrolled.{Scrolled}
use Rattle.vis_update.specs.Contents.{IsScrollPlan}
use Rattle.window_mgr.specs.declared.manager.WindowManager.{WindowManager}
use Rattle.window_paint.specs.Moves.{IsScrollPainted}
use Rattle.window_mgr.specs.Edits.{IsWindowAt}
use Rattle.window_mgr.specs.FullDesk.{layered_state}
use Rattle.window_mgr.specs.Records.{state_of}

module _ {V : Type 0} {H : V → Type 0} where
  -- the scroll was drawn, and the window at this place has the update region that it leaves
  pub record IsScrollDrawn (at : ℕ) (by : Point) (s : Scrolled) (old new : WindowManager V H) : Type 0 where
    pub area : Area
    pub there : area ≡ slice_index_or old.areas.items at area
    pub painted : IsScrollPainted s.copied s.erase by old.screen new.screen
    pub state : new ≡ record old { screen = new.screen; areas = with_item old.areas at (record area { update = s.update }) }

-- `loan` says what a definition that was taken means
module _ {V : Type 0} {H : V → Type 0} (loan : TakenBox V H → WindowLoan) where
  -- the plan is right for the window at this place, whose picture moves so far
  abbrev pub IsPlanOfScroll : ℕ → Point → WindowManager V H → Scrolled → Type 0
  IsPlanOfScroll at by t s = (w : Window V H) → IsWindowAt t.windows.records.items at w
      → IsScrollPlan w.serial by (layered_state (state_of loan t [])) s
