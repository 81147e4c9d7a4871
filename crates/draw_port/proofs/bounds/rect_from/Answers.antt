use Rattle.std.proofs.Common.{◌∙◌, ap, rules, pos, ◌+ℤ◌, w32}
use Rattle.std.specs.Int.{saturate_signed}
use Rattle.tb_geom.specs.Rects.{rect_holds}
use Rattle.tb_geom.proofs.RectLemmas.{same_rect}
use Rattle.draw_port.proofs.PlacedLemmas.{enclosed}
use Rattle.draw_port.proofs.bounds.rect_from.Goals as goal

pub returns : goal.returns
returns c = λ p near.
    ap (λ r. rect_holds r p) (same_rect _ (record { left = c.args.start.h; top = c.args.start.v; right = saturate_signed w32 (c.args.start.h +ℤ pos c.args.width); bottom = saturate_signed w32 (c.args.start.v +ℤ pos c.args.height) }) (search rules) (search rules) (search rules) (search rules))
    ∙ enclosed c.args.start (pos c.args.width) (pos c.args.height) p near
