-- What of a window's picture lies behind its layers.
use Rattle.tb_geom.specs.Points.{PixelSet, minus}
use Rattle.window_list.specs.Holders.{is_covered}
use Rattle.window_list.specs.declared.window.Window.{Window}

-- a layer in front of the window's picture has the pixel of the screen
abbrev pub is_hidden : {V : Type 0} {H : V → Type 0} → Window V H → PixelSet
is_hidden w p = is_covered w.layers.layers (minus p w.layers.place)
