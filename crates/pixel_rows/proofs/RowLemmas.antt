-- Rows of pixels: what turns do to them, and where there are none.
use Rattle.std.proofs.Common.{◌≡◌, ◌&&◌, Bool, true, false, List, ℤ, ◌≤ℤ◌, ◌<ℤ◌, refl, ◌∙◌, arith}
use Rattle.std.proofs.lemmas.Bool.{and_right}
use Rattle.std.proofs.lemmas.Int.{ints}
use Rattle.tb_geom.specs.declared.rect.Rect.{Rect}
use Rattle.tb_geom.specs.Points.{PixelSet}
use Rattle.tb_geom.specs.Rects.{between}
use Rattle.region_bytes.specs.Points.{in_rows}
use Rattle.region_bytes.proofs.Edges.{int_le-false}
use Rattle.region_rows.specs.Edges.{differ}
use Rattle.region_rows.specs.Rows.{EdgeRow, IsPushed}
use Rattle.region_rows.proofs.PairRows.{pushed_pixel}
use Rattle.shape_strips.proofs.RunLemmas.{between_past}
use Rattle.pixel_rows.specs.Bounds.{AreBounds}

-- between equal numbers there is none
pub between_same : (x h y : ℤ) → x ≡ y → between x h y ≡ false
between_same x h y e = grind (arith, ints)

pub differ_back : (a b : Bool) → differ (differ a b) a ≡ b
differ_back true true = refl
differ_back true false = refl
differ_back false true = refl
differ_back false false = refl

-- what a row of turns leaves above it, and from there on
pub unturned : (old new : List EdgeRow) (v : ℤ) (t : ℤ → Bool) → IsPushed old new v t → (h w : ℤ) → w <ℤ v → in_rows new h w ≡ in_rows old h w
unturned old new v t p h w l = pushed_pixel old new v t p h w ∙ (λ i. differ (int_le-false v w l i && t h) (in_rows old h w))

-- below the last row the set has no pixel
pub below_none : (s : PixelSet) (r : Rect) → AreBounds s r → (h w : ℤ) → r.bottom ≤ℤ w → s (record { h = h; v = w }) ≡ false
below_none s r b h w l = b.around (record { h = h; v = w }) (and_right (between r.left h r.right) _ (between_past r.top w r.bottom l))
