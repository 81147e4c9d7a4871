use Rattle.std.proofs.Common.{sym, ap, ◌∙◌, cond}
use Rattle.tb_geom.specs.Points.{minus}
use Rattle.bit_map.specs.Modes.{mode_bit}
use Rattle.bit_blit.proofs.copying.CopiedRule.value.Goals as goal

pub returns-then-contains : goal.returns-then-contains
returns-then-contains g c =
    let r = c.args.self.now in
    let q = minus c.args.point r.origin in
    let has = g.S.Source.has r.source.now in
    let bit = g.S.Source.bit_at r.source.now in
    let at = c.from_origin-place.ensures.here has c.contains.ensures.near in
    let on = sym c.contains.ensures.value ∙ c.if-contains.true in
    c.apply.ensures
    ∙ ap (λ b. mode_bit r.mode b c.args.old) (c.bit.ensures ∙ ap bit (at.1 on))
    ∙ sym (ap (λ t. cond t (mode_bit r.mode (bit q) c.args.old) c.args.old) (sym at.0 ∙ on))
