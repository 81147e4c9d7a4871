use Rattle.std.proofs.Common.{◌∙◌, ap, rules}
use Rattle.std.specs.Int.{int_min, int_max}
use Rattle.tb_geom.specs.Rects.{rect_holds}
use Rattle.tb_geom.proofs.RectLemmas.{same_rect}
use Rattle.draw_port.proofs.FrameLemmas.{cut_left, cut_right}
use Rattle.draw_port.proofs.frames.split_columns.Goals as goal

pub returns-clause-left : goal.returns-clause-left
returns-clause-left c = λ p.
    ap (λ r. rect_holds r p) (same_rect _ (record { left = c.args.rect.left; top = c.args.rect.top; right = int_min c.args.rect.right c.args.h; bottom = c.args.rect.bottom }) (search rules) (search rules) (search rules) (search rules))
    ∙ cut_left c.args.rect.left c.args.rect.top c.args.rect.right c.args.rect.bottom c.args.h p

pub returns-clause-right : goal.returns-clause-right
returns-clause-right c = λ p.
    ap (λ r. rect_holds r p) (same_rect _ (record { left = int_max c.args.rect.left c.args.h; top = c.args.rect.top; right = c.args.rect.right; bottom = c.args.rect.bottom }) (search rules) (search rules) (search rules) (search rules))
    ∙ cut_right c.args.rect.left c.args.rect.top c.args.rect.right c.args.rect.bottom c.args.h p
