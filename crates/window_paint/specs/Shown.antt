-- What a window's content shows. Points are of the screen.
use Rattle.std.specs.Prelude.{ℕ, List}
use Rattle.tb_geom.specs.Points.{PixelSet, minus}
use Rattle.draw_port.specs.Ops.{picture_bit}
use Rattle.desk_layers.specs.declared.part.Part.{Part}
use Rattle.desk_layers.specs.declared.part.Part.TheVariants as part
use Rattle.window_list.specs.Holders.{part_at}
use Rattle.window_list.specs.declared.window.Window.{Window}

-- the picture of a window in this font
abbrev pub picture_shown : {V : Type 0} {H : V → Type 0} → List ℕ → Window V H → PixelSet
picture_shown font w p = picture_bit font w.picture (minus (minus p w.place) w.origin)

-- a part of the content: the picture, or a control, list or text record, of which `shows` says what it shows in the
-- window's coordinates
abbrev pub part_shown : {V : Type 0} {H : V → Type 0} → List ℕ → (Part → PixelSet) → Window V H → Part → PixelSet
part_shown font shows w part.Picture p = picture_shown font w p
part_shown font shows w (part.Control n) p = shows (part.Control n) (minus p w.place)
part_shown font shows w (part.List n) p = shows (part.List n) (minus p w.place)
part_shown font shows w (part.Text n) p = shows (part.Text n) (minus p w.place)

-- the content: each pixel shows what the part does that it belongs to
abbrev pub content_shown : {V : Type 0} {H : V → Type 0} → List ℕ → (Part → PixelSet) → Window V H → PixelSet
content_shown font shows w p = part_shown font shows w (part_at w.layers.layers (minus p w.layers.place)) p
