-- The bytes of the sets of pixels that rows of points stand for.
use Rattle.std.proofs.Common.{◌≡◌, ◌⊎◌, ◌<◌, ◌≤◌, ℕ, List, length, refl, sym, ◌∙◌, inl, inr}
use Rattle.tb_geom.specs.declared.point.Point.{Point}
use Rattle.tb_geom.specs.declared.refusal.Refusal.{Refusal}
use Rattle.tb_geom.specs.declared.refusal.Refusal.TheVariants.{NoMemory, TooLong}
use Rattle.tb_geom.specs.Pixels.{Pixels, holds, pixels_where}
use Rattle.region_bytes.specs.Points.{inverted, points_of, in_rows}
use Rattle.region_bytes.specs.Words.{bytes_of}
use Rattle.region_bytes.specs.Bytes.{IsRegionBytes, IsUnwritten}
use Rattle.region_bytes.proofs.Rows.{inverted-points_of}
use Rattle.region_rows.specs.Rows.{EdgeRow, AreRows}
use Rattle.region_rows.proofs.Plane.{has_viewed}

-- the set of the rows has the pixels that their points invert
set_is : (rows : List EdgeRow) (s : Pixels) → AreRows rows → pixels_where (in_rows rows) ≡ s → (p : Point) → holds s p ≡ inverted (points_of rows) p
set_is rows s r e p = has_viewed rows s e r p.h p.v ∙ sym (inverted-points_of rows p)

-- the bytes of the points are those of the set
pub IsRegionBytes-of : (rows : List EdgeRow) (s : Pixels) → AreRows rows → pixels_where (in_rows rows) ≡ s → (bytes : List ℕ) → bytes ≡ bytes_of rows → length bytes ≤ 32766 → IsRegionBytes bytes s
IsRegionBytes-of rows s r e bytes same fits =
    record { rows = rows; canonical = r.canonical; in_range = r.in_range; pixels = set_is rows s r e; written = same; fits = fits }

-- why they are refused, the set is
pub IsUnwritten-of : (rows : List EdgeRow) (s : Pixels) → AreRows rows → pixels_where (in_rows rows) ≡ s → (e : Refusal) → ((e ≡ TooLong) × (32766 < length (bytes_of rows))) ⊎ ((e ≡ NoMemory) × (length (bytes_of rows) ≤ 32766)) → IsUnwritten s e
IsUnwritten-of rows s r v e (inl (too_long, long)) =
    inl (too_long, record { rows = rows; canonical = r.canonical; in_range = r.in_range; pixels = set_is rows s r v; long = long })
IsUnwritten-of rows s r v e (inr (no_memory, fits)) =
    inr (no_memory, (bytes_of rows, IsRegionBytes-of rows s r v (bytes_of rows) refl fits))
