use Rattle.std.proofs.Common.{◌&&◌, ap}
use Rattle.scan_region.specs.Cuts.{cut_holds}
use Rattle.bit_blit.proofs.OnceLemmas.{Once-where}
use Rattle.bit_blit.proofs.WalkLemmas.{shared-where}
use Rattle.bit_blit.proofs.walk.draw_cut.Goals as goal

pub returns : goal.returns
returns g c =
    Once-where _ _ _ _ _
    (λ x on. ap (λ b. b && cut_holds c.args.cut.now x) (shared-where c.args.map.now c.bounds.result c.args.area c.sect.result c.sect.ensures.pixels c.bounds.ensures.pixels x on))
    c.draw_spans.ensures
