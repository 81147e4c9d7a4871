use Rattle.std.proofs.Common.{◌∙◌, ap, subst, sym}
use Rattle.std.proofs.lemmas.List.{append-nil}
use Rattle.tb_geom.specs.Pixels.{pixels_where}
use Rattle.region_bytes.specs.Points.{in_rows}
use Rattle.scan_region.specs.Kept.{IsKept}
use Rattle.scan_region.proofs.region.Region.copy.Goals as goal

pub invariant_of-result : goal.invariant_of-result
invariant_of-result c = rw (c.of.ensures, c.rect.ensures) (subst (λ rows. IsKept rows c.self.inside.bounds) (sym (c.in_ok-rows.ensures ∙ append-nil _ ∙ c.as_slice.ensures.value)) c.self.invariant)

pub returns : goal.returns
returns c = ap (λ rows. pixels_where (in_rows rows)) (c.in_ok-rows.ensures ∙ append-nil _ ∙ c.as_slice.ensures.value) ∙ c.self.view_is
