use Rattle.std.proofs.Common.{◌∙◌, ◌&&◌, ◌||◌, not, ap, sym}
use Rattle.looks.specs.Damages.{draws_alike}
use Rattle.looks.specs.Same.{shows_text}
use Rattle.looks.proofs.DamageLemmas.{alike}
use Rattle.looks.proofs.damage.is_alike.Goals as goal

pub returns-then-is_same-clause-same : goal.returns-then-is_same-clause-same
returns-then-is_same-clause-same c = λ e u t same p d. alike c.args.old c.args.new c.args.same_text u t p d (c.is_same.ensures.same c.if-is_same.true) (sym c.keeps_text.ensures ∙ e) same

pub returns-then-is_same-clause-exact : goal.returns-then-is_same-clause-exact
unfolding draws_alike
returns-then-is_same-clause-exact c =
    c.keeps_text.ensures ∙ ap (λ b. b && (c.args.same_text || not (shows_text c.args.old.mark))) (sym c.if-is_same.true ∙ c.is_same.ensures.exact)

pub returns-else-is_same-clause-exact : goal.returns-else-is_same-clause-exact
unfolding draws_alike
returns-else-is_same-clause-exact c =
    c.if-is_same.false ∙ ap (λ b. b && (c.args.same_text || not (shows_text c.args.old.mark))) (sym c.if-is_same.false ∙ c.is_same.ensures.exact)
