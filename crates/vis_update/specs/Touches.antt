-- What a call does with the windows that it arranges.
use Rattle.std.specs.Prelude.{◌≡◌, ℕ, Bool, true, false, ◌==◌, ◌&&◌, if◌then◌else◌, Option, None, Some, is_some}
use Rattle.tb_geom.specs.declared.point.Point.{Point}
use Rattle.tb_geom.specs.Points.{minus}
use Rattle.desk_layers.specs.Desk.{LayeredDesk}
use Rattle.desk_layers.specs.Owner.{Owner, owner}
use Rattle.desk_layers.specs.Owner.Owner.{Desktop, Bar, Frame, Content}
use Rattle.desk_layers.specs.Change.{Change, no_change}
use Rattle.vis_update.specs.declared.plan.Touch.{Touch}
use Rattle.vis_update.specs.Areas.{is_content_of}

-- where the content of this window came from, if it moved by this; all else stays where it is
abbrev pub moved_from : ℕ → Option Point → Owner → Point → Point
moved_from s None o p = p
moved_from s (Some by) Desktop p = p
moved_from s (Some by) Bar p = p
moved_from s (Some by) (Frame t) p = p
moved_from s (Some by) (Content t part) p = if t == s then minus p by else p

-- the change of a call that arranges windows: it moves the content of this one, or of none
abbrev pub moving : ℕ → Option Point → Change
moving s by = record no_change { source = moved_from s by }

-- what the call does to pixels
abbrev pub change_of : Touch → Change
change_of t = moving t.window t.by

-- how far the content of this window moves, if it does
abbrev pub way_of : Touch → ℕ → Option Point
way_of t s = if s == t.window then t.by else None

-- where a pixel was before
abbrev pub came_from : Option Point → Point → Point
came_from None p = p
came_from (Some by) p = minus p by

-- it is the window of this serial
abbrev pub is_this : Option ℕ → ℕ → Bool
is_this None s = false
is_this (Some t) s = s == t

-- the frame of this window is drawn whole
abbrev pub draws_whole : Touch → ℕ → Bool
draws_whole t s = s == t.window && t.whole

-- the pixels of this owner move
abbrev pub moves : Touch → Owner → Bool
moves t (Content s part) = s == t.window && is_some t.by
moves t _ = false

-- a pixel of a window's content belongs to the same layer as the pixel that was there before, as far away as the content
-- moves, if that was the window's content too
abbrev pub KeepsLayers : Touch → LayeredDesk → LayeredDesk → Type 0
KeepsLayers t before after = (s : ℕ) (p : Point) → let q = came_from (way_of t s) p in
    is_content_of s (owner after p) ≡ true → is_content_of s (owner before q) ≡ true → owner before q ≡ owner after p
