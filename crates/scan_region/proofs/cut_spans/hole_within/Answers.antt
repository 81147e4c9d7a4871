use Rattle.std.proofs.Common.{◌&&◌, true, ap, sym, ◌∙◌}
use Rattle.tb_geom.specs.Pixels.{holds}
use Rattle.tb_geom.specs.Rects.{rect_holds}
use Rattle.scan_region.specs.Parts.{lets}
use Rattle.region_rows.specs.Seen.{seen_point}
use Rattle.scan_region.proofs.Boxes.{apart_hole}
use Rattle.scan_region.proofs.cut_spans.hole_within.Goals as goal

pub returns-then-is_empty : goal.returns-then-is_empty
returns-then-is_empty c = λ p.
    let q = seen_point c.args.up p in
    let a = rect_holds c.args.area p in
    apart_hole a (rect_holds c.boxed.result.bounds p) (holds c.in_ok-region.region.now q) (sym (c.sect.ensures.pixels p) ∙ c.is_empty.ensures.pixels.0 c.if-is_empty.true p) (c.boxed.ensures.within p)
    ∙ sym (ap (λ hole. a && lets true hole q) c.in_ok-region.was)
