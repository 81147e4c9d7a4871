-- The bytes of the region of a set of pixels, and why they are not told.
use Rattle.std.specs.Prelude.{◌≡◌, ◌⊎◌, ℕ, Bool, true, false, List}
use Rattle.tb_geom.specs.declared.point.Point.{Point}
use Rattle.tb_geom.specs.declared.refusal.Refusal.{Refusal}
use Rattle.tb_geom.specs.declared.refusal.Refusal.TheVariants.{NoMemory, TooLong}
use Rattle.tb_geom.specs.Points.{PixelSet}
use Rattle.tb_geom.specs.Pixels.{Pixels, holds}
use Rattle.region_bytes.specs.Bytes.{IsRegionBytes, IsTooLong}

-- the region has these pixels
abbrev pub IsRegionOf : PixelSet → Pixels → Type 0
IsRegionOf set region = (p : Point) → holds region p ≡ set p

-- whether the bytes of the region would be too long
abbrev pub IsLong : Bool → Pixels → Type 0
IsLong true region = IsTooLong region
IsLong false region = (bytes : List ℕ) × IsRegionBytes bytes region

-- whether the bytes of the region of these pixels would be too long
abbrev pub IsMeasured : PixelSet → Bool → Type 0
IsMeasured set long = (region : Pixels) × IsRegionOf set region × IsLong long region

-- these bytes are told: those of the region of these pixels
abbrev pub AreRegionBytes : PixelSet → List ℕ → Type 0
AreRegionBytes set bytes = (region : Pixels) × IsRegionOf set region × IsRegionBytes bytes region

-- why the region of these pixels is not told: its bytes would be too long, or they would not and memory is refused
abbrev pub IsNotTold : PixelSet → Refusal → Type 0
IsNotTold set e = ((e ≡ TooLong) × IsMeasured set true) ⊎ ((e ≡ NoMemory) × IsMeasured set false)
