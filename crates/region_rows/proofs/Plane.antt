-- The pixels of rows lie in the range of coordinates, so the view of a region has just them.
use Rattle.std.proofs.Common.{◌≡◌, ◌&&◌, List, [], ℤ, sym, ap, ◌∙◌}
use Rattle.tb_geom.specs.declared.point.Point.{Point}
use Rattle.tb_geom.specs.Rects.{in_plane}
use Rattle.tb_geom.specs.Pixels.{Pixels, has, holds, pixels_where}
use Rattle.tb_geom.proofs.PixelsLemmas.{test_holds}
use Rattle.region_bytes.specs.Points.{in_rows}
use Rattle.region_bytes.proofs.Rows.{same_rows, nil_has, inverted-points_of}
use Rattle.region_bytes.proofs.Said.{in_plane_of}
use Rattle.region_bytes.proofs.Short.{none_canonical}
use Rattle.std.specs.Prelude.{false}
use Rattle.region_rows.specs.declared.operator.Operator.{Operator}
use Rattle.region_rows.specs.Edges.{applied}
use Rattle.region_rows.specs.Rows.{EdgeRow, AreRows}

-- the view of rows has their pixels
pub has_view : (rows : List EdgeRow) → AreRows rows → (h v : ℤ) → has (pixels_where (in_rows rows)) h v ≡ in_rows rows h v
has_view rows r h v =
    let p : Point = record { h = h; v = v } in
    test_holds (in_rows rows) p ∙ ap (λ b. in_plane p && b) (sym (inverted-points_of rows p)) ∙ in_plane_of rows r.canonical r.in_range p ∙ inverted-points_of rows p

-- and so has what it is told to be
pub has_viewed : (rows : List EdgeRow) (s : Pixels) → pixels_where (in_rows rows) ≡ s → AreRows rows → (h v : ℤ) → has s h v ≡ in_rows rows h v
has_viewed rows s e r h v = ap (λ u. has u h v) (sym e) ∙ has_view rows r h v

-- the view of the rows that the operator keeps of those of two regions
pub has_merged : (a b rows : List EdgeRow) (o : Operator) (s t : Pixels) → pixels_where (in_rows a) ≡ s → pixels_where (in_rows b) ≡ t → AreRows a → AreRows b → AreRows rows → ((h v : ℤ) → in_rows rows h v ≡ applied o (in_rows a h v) (in_rows b h v)) → (h v : ℤ) → has (pixels_where (in_rows rows)) h v ≡ applied o (has s h v) (has t h v)
has_merged a b rows o s t p q ra rb r f h v =
    has_view rows r h v ∙ f h v ∙ sym (λ i. applied o (has_viewed a s p ra h v i) (has_viewed b t q rb h v i))

-- ---- one list of rows

-- rows of the same pixels are the same
pub same_list : (a b : List EdgeRow) → AreRows a → AreRows b → ((h v : ℤ) → in_rows a h v ≡ in_rows b h v) → a ≡ b
same_list a b ra rb e = same_rows a b ra.canonical.are_rows rb.canonical.are_rows e

-- and so are those of the same view
pub same_views : (a b : List EdgeRow) → AreRows a → AreRows b → pixels_where (in_rows a) ≡ pixels_where (in_rows b) → a ≡ b
same_views a b ra rb e = same_list a b ra rb (λ h v. sym (has_view a ra h v) ∙ ap (λ s. has s h v) e ∙ has_view b rb h v)

-- a region of no pixel has no rows
pub no_rows-viewed : (rows : List EdgeRow) (s : Pixels) → AreRows rows → pixels_where (in_rows rows) ≡ s → ((p : Point) → holds s p ≡ false) → rows ≡ []
no_rows-viewed rows s r e none = same_rows rows [] r.canonical.are_rows none_canonical.are_rows (λ h v. sym (has_viewed rows s e r h v) ∙ none (record { h = h; v = v }) ∙ sym (nil_has h v))

-- and one of no rows no pixel
pub no_pixel-viewed : (rows : List EdgeRow) (s : Pixels) → AreRows rows → pixels_where (in_rows rows) ≡ s → rows ≡ [] → (p : Point) → holds s p ≡ false
no_pixel-viewed rows s r e nil p = has_viewed rows s e r p.h p.v ∙ ap (λ l. in_rows l p.h p.v) nil ∙ nil_has p.h p.v
