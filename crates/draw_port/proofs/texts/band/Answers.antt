use Rattle.std.proofs.Common.{◌∙◌, ap, refl, rules, pos, ◌+ℤ◌, ◌-ℤ◌, w32}
use Rattle.std.specs.Int.{saturate_signed}
use Rattle.tb_geom.specs.Rects.{rect_holds}
use Rattle.tb_geom.proofs.RectLemmas.{same_rect}
use Rattle.draw_port.proofs.TextLemmas.{in_band}
use Rattle.draw_port.proofs.texts.band.Goals as goal

pub returns : goal.returns
returns c =
    let pen = c.args.pen in
    let top = saturate_signed w32 (pen.v -ℤ pos c.ascent.result) in
    λ text p near held.
    ap (λ r. rect_holds r p) (same_rect _ (record { left = saturate_signed w32 (pen.h +ℤ c.kern.result); top = top; right = pos 2147483647; bottom = saturate_signed w32 (top +ℤ pos c.height.result) }) (search rules) (search rules) (search rules) (search rules))
    ∙ in_band c.args.font.now text pen p _ top _ c.kern.result c.ascent.result c.height.result c.kern.ensures.value c.ascent.ensures.value c.height.ensures.value refl refl refl near held
