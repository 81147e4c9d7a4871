-- The visible regions and the update regions of windows, pixel by pixel of the screen.
use Rattle.std.specs.Prelude.{◌≡◌, ℕ, true, Some}
use Rattle.tb_geom.specs.declared.point.Point.{Point}
use Rattle.tb_geom.specs.Points.{PixelSet, minus}
use Rattle.desk_layers.specs.declared.part.Part.{Part}
use Rattle.desk_layers.specs.Desk.{on_screen}
use Rattle.desk_layers.specs.Owner.{owner}
use Rattle.desk_layers.specs.Owner.Owner.{Content}
use Rattle.vis_update.specs.Records.{WindowRecord}
use Rattle.window_mgr.specs.Finding.{record_with}
use Rattle.window_mgr.specs.FullDesk.{FullState, layered_desk}

-- the pixel of the screen lies in such a region of the window, which is told in the window's own coordinates
abbrev pub IsInRegion : (ℕ → FullState → PixelSet) → ℕ → FullState → Point → Type 0
IsInRegion region window s p =
    (w : WindowRecord) × (record_with window s.desk.windows ≡ Some w) × (region window s (minus p w.place) ≡ true)

-- it is one of the screen, and its owner is a content layer of the window: its picture, one of its text
-- records, of its lists or of its controls
abbrev pub IsOfContent : ℕ → FullState → Point → Type 0
IsOfContent window s p =
    (on_screen (layered_desk s.desk) p ≡ true) × ((layer : Part) × (owner (layered_desk s.desk) p ≡ Content window layer))
