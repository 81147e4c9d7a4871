use Rattle.std.proofs.Common.{sym, ap, ◌∙◌}
use Rattle.tb_geom.specs.Pixels.{pixels_where}
use Rattle.region_bytes.specs.Points.{in_rows}
use Rattle.region_rows.proofs.Plane.{same_views}
use Rattle.scan_region.proofs.Opened.{opened}
use Rattle.scan_region.proofs.region.Region.equals.Goals as goal

pub returns : goal.returns
returns c =
    let same = simp (c.as_slice.ensures.value, c.as_slice-2.ensures.value) at c.same_rows.ensures in (
      λ t. sym c.self.view_is ∙ ap (λ rows. pixels_where (in_rows rows)) (same.0 t) ∙ c.other.view_is,
      λ e. same.1 (same_views c.self.inside.rows.items c.other.inside.rows.items (opened _ _ c.self.invariant).are_rows (opened _ _ c.other.invariant).are_rows (c.self.view_is ∙ e ∙ sym c.other.view_is)),
    )
