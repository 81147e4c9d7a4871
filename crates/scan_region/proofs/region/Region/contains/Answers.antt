use Rattle.std.proofs.Common.{sym, ap, ◌∙◌, rules, SFits, w32}
use Rattle.std.proofs.lemmas.Int.{to_z-of_z}
use Rattle.tb_geom.specs.Rects.{rect_holds}
use Rattle.region_rows.proofs.Plane.{has_viewed}
use Rattle.region_rows.proofs.Hulls.{none_outside}
use Rattle.scan_region.proofs.Opened.{opened}
use Rattle.scan_region.proofs.region.Region.contains.Goals as goal

pub returns-then-not-contains : goal.returns-then-not-contains
returns-then-not-contains c =
    sym (has_viewed c.self.inside.rows.items _ c.self.view_is (opened _ _ c.self.invariant).are_rows c.args.point.h c.args.point.v ∙ none_outside c.self.inside.rows.items _ (opened _ _ c.self.invariant) c.args.point (ap (λ r. rect_holds r c.args.point) (sym c.rect.ensures) ∙ sym c.contains.ensures ∙ search rules))

pub returns : goal.returns
returns c =
    let fits_h : SFits w32 c.args.point.h = search rules in
    let fits_v : SFits w32 c.args.point.v = search rules in
    let found = simp (to_z-of_z, c.as_slice.ensures.value) at c.is_in_rows.ensures in
    found ∙ sym (has_viewed c.self.inside.rows.items _ c.self.view_is (opened _ _ c.self.invariant).are_rows c.args.point.h c.args.point.v)
