-- What a window's content shows, and the plan of a scroll of its picture.
use Rattle.std.specs.Prelude.{◌≡◌, ℕ, true, not, ◌&&◌, if◌then◌else◌}
use Rattle.tb_geom.specs.declared.point.Point.{Point}
use Rattle.tb_geom.specs.Points.{minus}
use Rattle.tb_geom.specs.Pixels.{Pixels, holds}
use Rattle.desk_layers.specs.declared.part.Part.TheVariants.{Picture}
use Rattle.desk_layers.specs.Desk.{LayeredDesk, on_screen}
use Rattle.desk_layers.specs.Owner.{Owner, owner, same_owner}
use Rattle.desk_layers.specs.Owner.Owner.{Content}
use Rattle.desk_layers.specs.Change.{Change, State, no_change, had, stale_by}
use Rattle.vis_update.specs.declared.scrolling.Scrolled.{Scrolled}
use Rattle.vis_update.specs.Areas.{is_content_of}

-- where the picture of this window came from, which was moved by this; all else stays where it is
abbrev pub scrolled_from : ℕ → Point → Owner → Point → Point
scrolled_from s by o p = if same_owner o (Content s Picture) then minus p by else p

-- the change of a call that moves the picture of this window
abbrev pub scroll_change : ℕ → Point → Change
scroll_change s by = record no_change { source = scrolled_from s by }

-- of the pixels that content of the window of this serial owns, these are not the picture's
abbrev pub IsCovered : LayeredDesk → ℕ → Pixels → Type 0
IsCovered desk s covered = (p : Point) → on_screen desk p ≡ true → is_content_of s (owner desk p) ≡ true
    → holds covered p ≡ not (same_owner (owner desk p) (Content s Picture))

-- all that changes where the picture of the window of this serial moves by this
pub record IsScrollPlan (serial : ℕ) (by : Point) (before : State) (s : Scrolled) : Type 0 where
  pub erase : (p : Point) → let o = owner before.desk p in
      holds s.erase p ≡ ((on_screen before.desk p && same_owner o (Content serial Picture))
      && not (had (scroll_change serial by) before.desk o p))
  pub update : (p : Point) → let o = owner before.desk p in
      holds s.update p ≡ ((on_screen before.desk p && is_content_of serial o) && stale_by (scroll_change serial by) before o p)
  pub copied : (p : Point) → let o = owner before.desk p in
      holds s.copied p ≡ ((on_screen before.desk p && same_owner o (Content serial Picture))
      && had (scroll_change serial by) before.desk o p)
