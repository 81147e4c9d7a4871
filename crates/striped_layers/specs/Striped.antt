-- What the controls, lists and text records of the tests show.
use Rattle.std.specs.Prelude.{[], ◌∷◌}
use Rattle.bit_map.specs.declared.pattern.Pattern.{Pattern}
use Rattle.desk_layers.specs.declared.part.Part.{Part}
use Rattle.desk_layers.specs.declared.part.Part.TheVariants as part

-- black columns of a control, black rows of a list, and every other pixel of a text record
abbrev pub stripes_of : Part → Pattern
stripes_of (part.Control n) = record { rows = 0xAA ∷ 0xAA ∷ 0xAA ∷ 0xAA ∷ 0xAA ∷ 0xAA ∷ 0xAA ∷ 0xAA ∷ [] }
stripes_of (part.Text n) = record { rows = 0xAA ∷ 0x55 ∷ 0xAA ∷ 0x55 ∷ 0xAA ∷ 0x55 ∷ 0xAA ∷ 0x55 ∷ [] }
stripes_of part.Picture = record { rows = 0xFF ∷ 0 ∷ 0xFF ∷ 0 ∷ 0xFF ∷ 0 ∷ 0xFF ∷ 0 ∷ [] }
stripes_of (part.List n) = record { rows = 0xFF ∷ 0 ∷ 0xFF ∷ 0 ∷ 0xFF ∷ 0 ∷ 0xFF ∷ 0 ∷ [] }
