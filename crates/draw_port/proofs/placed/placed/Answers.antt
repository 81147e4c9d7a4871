use Rattle.std.proofs.Common.{◌∙◌, ap, rules}
use Rattle.tb_geom.specs.Rects.{rect_holds}
use Rattle.tb_geom.proofs.RectLemmas.{same_rect}
use Rattle.draw_port.proofs.PlacedLemmas.{holds-placed}
use Rattle.draw_port.proofs.placed.placed.Goals as goal

pub returns : goal.returns
returns c = λ p near.
    ap (λ r. rect_holds r p) (same_rect _ _ (search rules) (search rules) (search rules) (search rules))
    ∙ holds-placed c.args.rect c.args.origin p near
