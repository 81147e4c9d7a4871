-- A call that changes the layers of one window: no window moves.
use Rattle.std.specs.Prelude.{◌≡◌, ℕ, Bool, true, false, ◌==◌, not, ◌&&◌, if◌then◌else◌, List, Option, None, Some}
use Rattle.std.specs.Borrow.{Bor}
use Rattle.tb_geom.specs.declared.point.Point.{Point}
use Rattle.tb_geom.specs.Points.{PixelSet, minus}
use Rattle.tb_geom.specs.Pixels.{Pixels, holds}
use Rattle.desk_layers.specs.declared.part.Part.{Part}
use Rattle.desk_layers.specs.Desk.{LayeredDesk, on_screen}
use Rattle.desk_layers.specs.Owner.{Owner, owner, same_owner}
use Rattle.desk_layers.specs.Owner.Owner.{Content}
use Rattle.desk_layers.specs.Change.{Change, State, no_change, had, stale_by}
use Rattle.window_list.specs.declared.layer.Layer.{Layer}
use Rattle.window_list.specs.Holders.{part_at}
use Rattle.window_list.specs.LayerChanges.{is_drawn_afresh, is_gained}
use Rattle.vis_update.specs.declared.relaying.Relaying.{Relaying}
use Rattle.vis_update.specs.Records.{WindowRecord}
use Rattle.vis_update.specs.Areas.{is_content_of}

-- the window of this serial has these layers, and all else is as it was
abbrev pub with_layers_of : ℕ → List Layer → WindowRecord → WindowRecord
with_layers_of n ls w = if w.serial == n then record w { layers = ls } else w

-- if it is the window of this serial, it lies at this place and has these layers
abbrev pub HasLayersAt : ℕ → Point → List Layer → WindowRecord → Type 0
HasLayersAt n place ls w = w.serial ≡ n → (w.place ≡ place) × (w.layers ≡ ls)

-- the owner is the part of this window that is drawn afresh, if one is
abbrev pub is_part_afresh : ℕ → Option Part → Owner → Bool
is_part_afresh n None o = false
is_part_afresh n (Some part) o = same_owner o (Content n part)

-- the change of a call that draws this part of the window afresh, or none
abbrev pub afresh_change : ℕ → Option Part → Change
afresh_change n afresh = record no_change { afresh = λ o p. is_part_afresh n afresh o }

-- the desks before and after the layers of a window at this place become the new ones: the screen is the same; the
-- window's content owns the pixels that it owned, each for the part that its layers give it; all other owners stay
pub record IsRelayered (n : ℕ) (place : Point) (old new : List Layer) (before after : LayeredDesk) : Type 0 where
  pub screen : (p : Point) → on_screen after p ≡ on_screen before p
  pub was : (p : Point) → on_screen before p ≡ true → is_content_of n (owner before p) ≡ true
      → owner before p ≡ Content n (part_at old (minus p place))
  pub becomes : (p : Point) → on_screen before p ≡ true → is_content_of n (owner before p) ≡ true
      → owner after p ≡ Content n (part_at new (minus p place))
  pub others : (p : Point) → on_screen before p ≡ true → is_content_of n (owner before p) ≡ false
      → owner after p ≡ owner before p

-- what of the screen the content of the window owns, and what of that is stale
pub record AreOfContent (state : State) (n : ℕ) (visible update : Pixels) : Type 0 where
  pub owned : (p : Point) → holds visible p ≡ (on_screen state.desk p && is_content_of n (owner state.desk p))
  pub waiting : (p : Point) → holds update p ≡ (holds visible p && state.stale p)

-- the pixels of a region, if there is one
abbrev pub region_has : Option (Bor Pixels) → PixelSet
region_has None p = false
region_has (Some r) p = holds r.now p

-- where the window is at this place, the region has what is drawn afresh of the new layers
abbrev pub IsDrawn : Point → Option Part → List Layer → Option (Bor Pixels) → Type 0
IsDrawn place afresh new drawn = (p : Point) → region_has drawn p ≡ is_drawn_afresh afresh new (minus p place)

-- and what belongs to another part than before, which is not drawn afresh
abbrev pub IsGained : Point → Option Part → List Layer → List Layer → Pixels → Type 0
IsGained place afresh old new gained = (p : Point) → holds gained p ≡ is_gained afresh old new (minus p place)

-- what of the window's content becomes white, being neither drawn afresh nor its owner's before; what of it is stale
-- after the call; and what is drawn afresh
pub record IsRelaid (n : ℕ) (afresh : Option Part) (before : State) (after : LayeredDesk) (r : Relaying) : Type 0 where
  pub erase : (p : Point) → let c = afresh_change n afresh in let o = owner after p in holds r.erase p
      ≡ ((on_screen after p && is_content_of n o) && (not (c.afresh o p) && not (had c before.desk o p)))
  pub update : (p : Point) → let c = afresh_change n afresh in let o = owner after p in holds r.update p
      ≡ ((on_screen after p && is_content_of n o) && stale_by c before o p)
  pub draw : (p : Point) → let c = afresh_change n afresh in let o = owner after p in holds r.draw p
      ≡ (on_screen after p && c.afresh o p)
