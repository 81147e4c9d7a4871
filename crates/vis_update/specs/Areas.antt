-- What windows own of the screen.
use Rattle.std.specs.Prelude.{◌≡◌, ℕ, Bool, true, false, ◌==◌, ◌&&◌, ◌||◌, not, List, [], ◌∷◌, pos}
use Rattle.std.specs.List.{list_any}
use Rattle.tb_geom.specs.declared.point.Point.{Point}
use Rattle.tb_geom.specs.Points.{PixelSet}
use Rattle.tb_geom.specs.Pixels.{Pixels, holds}
use Rattle.tb_geom.specs.Rects.{between}
use Rattle.desk_layers.specs.Desk.{LayeredDesk, on_screen, in_bar}
use Rattle.desk_layers.specs.Owner.{Owner, owner, same_owner}
use Rattle.desk_layers.specs.Owner.Owner.{Desktop, Frame, Content}
use Rattle.vis_update.specs.declared.area.Area.{Area}
use Rattle.vis_update.specs.Records.{WindowRecord}

-- the owner is a layer of this window's content
abbrev pub is_content_of : ℕ → Owner → Bool
is_content_of s (Content t part) = t == s
is_content_of s _ = false

-- the regions of the window of this serial: what of the screen its content owns, what of that is stale, and what its
-- frame owns
pub record IsArea (desk : LayeredDesk) (stale : PixelSet) (serial : ℕ) (a : Area) : Type 0 where
  pub visible : (p : Point) → holds a.visible p ≡ (on_screen desk p && is_content_of serial (owner desk p))
  pub update : (p : Point) → holds a.update p ≡ (holds a.visible p && stale p)
  pub frame : (p : Point) → holds a.frame p ≡ (on_screen desk p && same_owner (owner desk p) (Frame serial))

-- each window has its area
abbrev pub AreAreas : LayeredDesk → PixelSet → List WindowRecord → List Area → Type 0
AreAreas desk stale [] [] = Unit {0}
AreAreas desk stale (w ∷ ws) (a ∷ areas) = IsArea desk stale w.serial a × AreAreas desk stale ws areas
AreAreas desk stale [] (a ∷ areas) = ⊥
AreAreas desk stale (w ∷ ws) [] = ⊥

-- the pixels of the update regions
abbrev pub stale_in : List Area → PixelSet
stale_in areas p = list_any (λ a. holds a.update p) areas

-- the point is the window's
abbrev pub area_has : Point → Area → Bool
area_has p a = holds a.visible p || holds a.frame p

-- an area of no pixel
pub record IsNowhere (a : Area) : Type 0 where
  pub visible : (p : Point) → holds a.visible p ≡ false
  pub update : (p : Point) → holds a.update p ≡ false
  pub frame : (p : Point) → holds a.frame p ≡ false

-- the gray region is the screen without the menu bar
abbrev pub IsGray : LayeredDesk → Pixels → Type 0
IsGray desk gray = (p : Point) → holds gray p ≡ (on_screen desk p && not (in_bar desk p))

-- the desktop's region is what of the screen no window and no menu bar owns
abbrev pub IsDesktop : LayeredDesk → Pixels → Type 0
IsDesktop desk desktop = (p : Point) → holds desktop p ≡ (on_screen desk p && same_owner (owner desk p) Desktop)

-- a pixel of the widest and highest screen
abbrev pub is_near : PixelSet
is_near p = between (pos 0) p.h (pos 1024) && between (pos 0) p.v (pos 1024)

abbrev pub IsNear : Pixels → Type 0
IsNear r = (p : Point) → holds r p ≡ true → is_near p ≡ true
