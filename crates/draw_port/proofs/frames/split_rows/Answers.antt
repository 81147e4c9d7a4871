use Rattle.std.proofs.Common.{◌∙◌, ap, rules}
use Rattle.std.specs.Int.{int_min, int_max}
use Rattle.tb_geom.specs.Rects.{rect_holds}
use Rattle.tb_geom.proofs.RectLemmas.{same_rect}
use Rattle.draw_port.proofs.FrameLemmas.{cut_above, cut_below}
use Rattle.draw_port.proofs.frames.split_rows.Goals as goal

pub returns-clause-above : goal.returns-clause-above
returns-clause-above c = λ p.
    ap (λ r. rect_holds r p) (same_rect _ (record { left = c.args.rect.left; top = c.args.rect.top; right = c.args.rect.right; bottom = int_min c.args.rect.bottom c.args.v }) (search rules) (search rules) (search rules) (search rules))
    ∙ cut_above c.args.rect.left c.args.rect.top c.args.rect.right c.args.rect.bottom c.args.v p

pub returns-clause-below : goal.returns-clause-below
returns-clause-below c = λ p.
    ap (λ r. rect_holds r p) (same_rect _ (record { left = c.args.rect.left; top = int_max c.args.rect.top c.args.v; right = c.args.rect.right; bottom = c.args.rect.bottom }) (search rules) (search rules) (search rules) (search rules))
    ∙ cut_below c.args.rect.left c.args.rect.top c.args.rect.right c.args.rect.bottom c.args.v p
