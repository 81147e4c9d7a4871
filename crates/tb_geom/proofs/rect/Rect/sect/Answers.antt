use Rattle.std.proofs.Common.{◌∙◌, ap}
use Rattle.tb_geom.specs.Rects.{rect_holds}
use Rattle.tb_geom.proofs.RectLemmas.{holds-shared}
use Rattle.tb_geom.proofs.rect.Rect.sect.Goals as goal

pub returns-clause-pixels : goal.returns-clause-pixels
returns-clause-pixels c = λ p. c.or_zero.ensures.pixels p ∙ ap (λ r. rect_holds r p) c.shared.ensures ∙ holds-shared c.args.self c.args.other p
