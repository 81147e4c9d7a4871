-- The bytes of rows that have the pixels of a set.
use Rattle.std.proofs.Common.{◌≡◌, ◌⊎◌, inl, inr, ◌<◌, ◌≤◌, ℕ, List, length, ℤ, refl, ◌∙◌}
use Rattle.tb_geom.specs.declared.refusal.Refusal.{Refusal}
use Rattle.tb_geom.specs.declared.refusal.Refusal.TheVariants.{NoMemory, TooLong}
use Rattle.tb_geom.specs.Points.{PixelSet}
use Rattle.tb_geom.specs.Pixels.{pixels_where}
use Rattle.region_bytes.specs.Points.{in_rows}
use Rattle.region_bytes.specs.Words.{bytes_of}
use Rattle.region_rows.specs.Rows.{EdgeRow, AreRows}
use Rattle.region_rows.proofs.Plane.{has_view}
use Rattle.region_rows.proofs.Sets.{IsRegionBytes-of, IsUnwritten-of}
use Rattle.pixel_rows.specs.Told.{IsRegionOf, AreRegionBytes, IsNotTold}

module _ (s : PixelSet) (rows : List EdgeRow) (r : AreRows rows) (pixels : (h v : ℤ) → in_rows rows h v ≡ s (record { h = h; v = v })) where
  its_pixels : IsRegionOf s (pixels_where (in_rows rows))
  its_pixels p = has_view rows r p.h p.v ∙ pixels p.h p.v

  pub told : (bytes : List ℕ) → bytes ≡ bytes_of rows → length bytes ≤ 32766 → AreRegionBytes s bytes
  told bytes same fits = (pixels_where (in_rows rows), its_pixels, IsRegionBytes-of rows (pixels_where (in_rows rows)) r refl bytes same fits)

  pub not_told : (e : Refusal) → ((e ≡ TooLong) × (32766 < length (bytes_of rows))) ⊎ ((e ≡ NoMemory) × (length (bytes_of rows) ≤ 32766)) → IsNotTold s e
  not_told e why = elim (IsUnwritten-of rows (pixels_where (in_rows rows)) r refl e why) [
    | inl long ↦ inl (long.0, (pixels_where (in_rows rows), its_pixels, long.1))
    | inr fits ↦ inr (fits.0, (pixels_where (in_rows rows), its_pixels, fits.1))
  ]
