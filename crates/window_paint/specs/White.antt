-- Controls and lists that show nothing.
use Rattle.std.specs.Prelude.{false}
use Rattle.tb_geom.specs.Points.{PixelSet}
use Rattle.desk_layers.specs.declared.part.Part.{Part}

-- whatever the control or list, it is white
abbrev pub all_white : Part → PixelSet
all_white part p = false
