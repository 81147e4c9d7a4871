use Rattle.std.proofs.Common.{sym, ◌∙◌, subst}
use Rattle.std.proofs.lemmas.List.{at_drop_all}
use Rattle.shape_region.specs.Polygons.{odd_edges}
use Rattle.pixel_rows.specs.Bounds.{AreBounds}
use Rattle.shape_region.proofs.PolygonRowLemmas.{polygon_beside, reaching}
use Rattle.shape_region.proofs.polygon_rows.bounds_around.Goals as goal

pub returns : goal.returns
returns c =
    let is = sym (at_drop_all (reaching c.loop-point.bounds) c.args.others.now c.loop-point.point-index c.loop-point-test.false) ∙ c.loop-point.invariant in
    subst (AreBounds (odd_edges c.args.first c.args.others.now c.args.first)) (sym is) (polygon_beside c.args.first c.args.others.now c.requires.first_in c.requires.others_in)
