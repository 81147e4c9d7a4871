use Rattle.std.proofs.Common.{◌&&◌, not, ap, ◌∙◌}
use Rattle.tb_geom.specs.Pixels.{holds}
use Rattle.window_paint.proofs.CutLemmas.{cut_holds-less}
use Rattle.window_paint.proofs.pictures.picture_cut.Goals as goal

pub returns : goal.returns
returns g c p = cut_holds-less c.args.region c.covered.result p ∙ ap (λ b. holds c.args.region.now p && not b) (c.covered.ensures p)
