-- What two regions make together, and a region that is moved.
use Rattle.std.specs.Prelude.{Bool, not, ◌&&◌, ◌||◌}
use Rattle.tb_geom.specs.declared.point.Point.{Point}
use Rattle.tb_geom.specs.Points.{PixelSet, minus}
use Rattle.region_rows.specs.Edges.{differ}
use Rattle.pixel_rows.specs.declared.combination.Combination.{Combination}
use Rattle.pixel_rows.specs.declared.combination.Combination.TheVariants.{Union, Sect, Diff, Xor}

-- whether a pixel is meant, by whether each of the two has it
abbrev pub means : Combination → Bool → Bool → Bool
means Union a b = a || b
means Sect a b = a && b
means Diff a b = a && not b
means Xor a b = differ a b

-- the pixels that are meant of two sets
abbrev pub combined : Combination → PixelSet → PixelSet → PixelSet
combined how s t p = means how (s p) (t p)

-- the pixels of a set, each moved by d
abbrev pub moved : PixelSet → Point → PixelSet
moved s d p = s (minus p d)
