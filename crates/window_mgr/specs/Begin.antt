-- A desk without windows.
use Rattle.std.specs.Prelude.{◌≡◌, ℕ, false, List, [], None, Some, ℤ}
use Rattle.tb_geom.specs.declared.point.Point.{Point}
use Rattle.def_iface.specs.Slots.{TakenBox}
use Rattle.def_iface.specs.WindowMeaning.{WindowLoan}
use Rattle.def_iface.specs.WindowSlots.{WindowSlot}
use Rattle.window_mgr.specs.declared.manager.WindowManager.{WindowManager}
use Rattle.window_mgr.specs.FullDesk.{FullDesk, IsRightState}
use Rattle.window_mgr.specs.Records.{desk_of, state_of}
use Rattle.window_paint.specs.White.{all_white}
use Rattle.vis_update.specs.Areas.{stale_in}
use Rattle.window_mgr.specs.Whole.{IsWholeManager}

-- the desk without windows; the first will have the serial 1
abbrev pub empty_desk : ℤ → ℤ → ℤ → List ℕ → List WindowSlot → FullDesk
empty_desk width height bar font slots = record {
  width = width;
  height = height;
  bar = record { rows = bar; titles = [] };
  font = font;
  shows = all_white;
  windows = [];
  active = None;
  next = Some 1;
  stock = slots;
}

-- `loan` says what a definition that was taken means
module _ {V : Type 0} {H : V → Type 0} (loan : TakenBox V H → WindowLoan) where
  -- a new desk: right, and nothing of it is to be redrawn
  pub record IsEmptyDesk (width height bar : ℤ) (font : List ℕ) (t : WindowManager V H) (slots : List WindowSlot) : Type 0 where
    pub desk : desk_of loan t slots ≡ empty_desk width height bar font slots
    pub drawn : (p : Point) → stale_in t.areas.items p ≡ false
    pub whole : IsWholeManager loan t slots
    pub right : IsRightState (state_of loan t slots)
