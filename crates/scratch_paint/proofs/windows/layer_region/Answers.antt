use Rattle.std.proofs.Common.{◌≡◌, true, ◌&&◌, ap, ◌∙◌, sym, rules}
use Rattle.std.proofs.lemmas.Bool.{and_parts}
use Rattle.tb_geom.specs.Points.{minus}
use Rattle.tb_geom.specs.Pixels.{holds}
use Rattle.scratch_paint.proofs.windows.layer_region.Goals as goal

pub move_by-requires : goal.move_by-requires
move_by-requires c = λ p e. c.requires p (and_parts _ _ (sym (c.in_ok-region.ensures p) ∙ e)).0

pub returns : goal.returns
returns c =
    let shown : c.args.layer.now.shown ≡ true = search rules in λ p.
    let q = minus p c.args.place in
    c.move_by.ensures p ∙ c.in_ok-region.ensures q ∙ ap (λ b. holds c.args.content.now q && (b && holds c.args.layer.now.region q)) (sym shown)
