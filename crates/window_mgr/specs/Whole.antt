-- What holds of a window manager and its stock between calls.
use Rattle.std.specs.List.{list_all}
use Rattle.std.specs.Prelude.{◌≡◌, ◌⊎◌, ℕ, ◌≤◌, true, false, List, length, map, None, Some, All, AllPairs, Contains, slice_get}
use Rattle.tb_geom.specs.declared.point.Point.{Point}
use Rattle.tb_geom.specs.Rects.{in_plane, is_in_range, moved_rect, rect_holds}
use Rattle.def_iface.specs.Slots.{TakenBox}
use Rattle.def_iface.specs.declared.window_def.Stage.TheVariants.{Live}
use Rattle.def_iface.specs.WindowMeaning.{WindowLoan, IsWithin, WindowGoesBy, is_fitting}
use Rattle.def_iface.specs.WindowSlots.{WindowSlot, IsFull, is_left}
use Rattle.desk_layers.specs.Desk.{IsDesk, on_screen}
use Rattle.desk_layers.specs.Owner.{owner, own_bit, is_content}
use Rattle.window_list.specs.Holders.{fits_at}
use Rattle.window_list.specs.declared.window.Window.{Window}
use Rattle.vis_update.specs.Records.{WindowRecord, news_of}
use Rattle.vis_update.specs.Areas.{AreAreas, IsGray, IsDesktop, stale_in}
use Rattle.window_mgr.specs.declared.manager.WindowManager.{WindowManager}
use Rattle.window_mgr.specs.FullDesk.{FullDesk, FullState, AreSerials, layered_desk}
use Rattle.window_mgr.specs.Records.{desk_of, state_of}
use Rattle.window_mgr.specs.Refused.{most_windows}
use Rattle.desk_ground.specs.Screens.{is_screen}

-- the window's definition is live, and was told the window's size, which fits it; its place and its picture's origin
-- are points, its structure and its layers lie in the range of coordinates there, and its content in the box of its
-- structure; the definition goes by what the record says that it was told
pub record IsSettled (w : WindowRecord) : Type 0 where
  pub origin : in_plane w.origin ≡ true
  pub placed : in_plane w.place ≡ true
  pub live : w.definition.stage ≡ Live
  pub told : w.definition.size ≡ w.size
  pub fits : is_fitting w.definition w.size ≡ true
  pub inside : is_in_range (moved_rect (w.definition.bounds w.size) w.place.h w.place.v) ≡ true
  pub within : IsWithin (w.definition.content w.size) (rect_holds (w.definition.bounds w.size))
  pub layers : list_all (fits_at w.place) w.layers ≡ true
  pub goes_by : WindowGoesBy (news_of w) w.definition

-- a slot has its definition back, or belongs to one of these windows and is empty
abbrev pub IsSlot : List WindowRecord → List WindowSlot → ℕ → Type 0
IsSlot windows slots k = (s : WindowSlot) → slice_get slots k ≡ Some s
    → IsFull s ⊎ ((s.held ≡ None) × Contains (map (λ w. w.slot) windows) k)

-- the empty slots of the stock are those of the windows' definitions, each of another, and the definitions in the
-- other slots are fresh or closed
pub record IsStocked (windows : List WindowRecord) (slots : List WindowSlot) : Type 0 where
  pub left : All (λ w. is_left w.slot slots ≡ true) windows
  pub apart : AllPairs (λ v w. v.slot ≡ w.slot → ⊥) windows
  pub others : (k : ℕ) → IsSlot windows slots k

-- the facts on the desk alone
pub record IsSoundDesk (desk : FullDesk) : Type 0 where
  pub screen : is_screen desk.width desk.height desk.bar.rows ≡ true
  pub distinct : IsDesk (layered_desk desk)
  pub serials : AreSerials desk.next desk.windows
  pub few : length desk.windows ≤ most_windows
  pub settled : All IsSettled desk.windows
  pub stocked : IsStocked desk.windows desk.stock

-- frames, menu bar and desktop show what they are to show
abbrev pub AreFramesShown : FullState → Type 0
AreFramesShown s = let desk = layered_desk s.desk in
    (p : Point) → on_screen desk p ≡ true → is_content (owner desk p) ≡ false → s.image p ≡ own_bit desk (owner desk p) p

-- the layers of a window lie where it does
abbrev pub LieThere : {V : Type 0} {H : V → Type 0} → Window V H → Type 0
LieThere w = w.layers.place ≡ w.place

-- `loan` says what a definition that was taken means
module _ {V : Type 0} {H : V → Type 0} (loan : TakenBox V H → WindowLoan) where
  -- a window manager and the slots of its stock, between calls
  pub record IsWholeManager (t : WindowManager V H) (slots : List WindowSlot) : Type 0 where
    pub sound : IsSoundDesk (desk_of loan t slots)
    pub gray : IsGray (layered_desk (desk_of loan t slots)) t.gray
    pub desktop : IsDesktop (layered_desk (desk_of loan t slots)) t.desktop
    pub areas : AreAreas (layered_desk (desk_of loan t slots)) (stale_in t.areas.items) (desk_of loan t slots).windows
        t.areas.items
    pub frames : AreFramesShown (state_of loan t slots)
    pub layers : All LieThere t.windows.records.items
