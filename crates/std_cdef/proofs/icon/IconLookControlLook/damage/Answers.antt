use Rattle.std.proofs.Common.{◌∙◌, sym, ap}
use Rattle.tb_geom.specs.Rects.{rect_holds}
use Rattle.std_cdef.proofs.IconLemmas.{same-icon, icons-outside, icons-damaged}
use Rattle.std_cdef.proofs.icon.IconLookControlLook.damage.Goals as goal

pub returns-then-is_same_icon-clause-alike : goal.returns-then-is_same_icon-clause-alike
returns-then-is_same_icon-clause-alike c font p plane out = same-icon c.args.old.now c.args.new.now (sym c.is_same_icon.ensures ∙ c.if-is_same_icon.true) p

pub returns-else-is_same_icon-clause-alike : goal.returns-else-is_same_icon-clause-alike
returns-else-is_same_icon-clause-alike c font p plane out =
    icons-outside c.args.old.now c.args.new.now (sym c.is_control_size.ensures ∙ c.if-not-is_control_size.false) c.requires p (ap (λ r. rect_holds r p) (sym c.around_sizes.ensures) ∙ out)

pub returns-else-is_same_icon-clause-small : goal.returns-else-is_same_icon-clause-small
returns-else-is_same_icon-clause-small c p e =
    icons-damaged c.args.old.now c.args.new.now (sym c.is_same_icon.ensures ∙ c.if-is_same_icon.false) p (ap (λ r. rect_holds r p) (sym c.around_sizes.ensures) ∙ e)
