-- How far a screen is from the desk painted from nothing.
use Rattle.std.specs.Prelude.{ℕ, pos, nat_abs, ◌&&◌, not, map, sum, count_by}
use Rattle.std.specs.List.{range_with_len}
use Rattle.tb_geom.specs.Points.{PixelSet}
use Rattle.region_bytes.specs.Edges.{differ}
use Rattle.desk_layers.specs.Desk.{on_screen}
use Rattle.window_mgr.specs.FullDesk.{layered_desk}
use Rattle.desk_toolbox.specs.Fronts.{screen_of, screen_scratch}
use Rattle.desk_toolbox.specs.ToolboxStates.{ToolboxState}

-- the pixel is one of the screen's, is in no update set, and shows another value than this
abbrev pub differs : ToolboxState → PixelSet → PixelSet
differs s value p = on_screen (layered_desk s.desk.windows.desk) p
    && (not (s.desk.windows.stale p) && differ (screen_of s p) (value p))

-- how many pixels of row v do so, of this many from the left
unfoldable pub row_differences : ToolboxState → PixelSet → ℕ → ℕ → ℕ
row_differences s value width v =
    count_by (differs s value) (map (λ h. record { h = pos h; v = pos v }) (range_with_len 0 width))

-- how many pixels do so of this many rows
unfoldable pub differences_of : ToolboxState → PixelSet → ℕ → ℕ → ℕ
differences_of s value width height = sum (map (row_differences s value width) (range_with_len 0 height))

-- how many pixels of the screen show another value than painting from nothing gives
abbrev pub difference_count : ToolboxState → ℕ
difference_count s =
    differences_of s (screen_scratch s) (nat_abs s.desk.windows.desk.width) (nat_abs s.desk.windows.desk.height)
