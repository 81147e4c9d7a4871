use Rattle.std.proofs.Common.{◌&&◌, false, ap, sym, ◌∙◌}
use Rattle.tb_geom.specs.Pixels.{holds}
use Rattle.tb_geom.specs.Rects.{rect_holds}
use Rattle.scan_region.specs.Parts.{lets}
use Rattle.region_rows.specs.Seen.{seen_point}
use Rattle.scan_region.proofs.Boxes.{cut_part}
use Rattle.scan_region.proofs.cut_spans.part_within.Goals as goal

pub returns-clause-pixels : goal.returns-clause-pixels
returns-clause-pixels c = λ p.
    let q = seen_point c.args.up p in
    let a = rect_holds c.args.area.now p in
    cut_part a (rect_holds c.boxed-boxed.result.bounds p) (rect_holds c.sect.result p) (holds c.in_ok-region.region.now q) (c.sect.ensures.pixels p) (c.boxed-boxed.ensures.within p)
    ∙ sym (ap (λ part. a && lets false part q) c.in_ok-region.was)
