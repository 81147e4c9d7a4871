use Rattle.std.proofs.Common.{SFits, w32, w64, ◌∙◌, ap, sym, rules, arith}
use Rattle.std.proofs.lemmas.Int.{ints, to_z-of_z}
use Rattle.tb_geom.specs.Rects.{rect_holds}
use Rattle.tb_geom.proofs.RectLemmas.{same_rect}
use Rattle.looks.proofs.CrossLemmas.{pixel_at, pixel_one, pixel_none, within_is}
use Rattle.looks.proofs.cross.pixel.Goals as goal

pub returns-else-has : goal.returns-else-has
returns-else-has c = λ p.
    let f : SFits w64 c.args.h = search rules in
    let g : SFits w64 c.args.v = search rules in
    ap (λ r. rect_holds r p) c.sides.ensures ∙ pixel_none c.args.rect c.args.h c.args.v (sym (simp to_z-of_z at c.has.ensures) ∙ c.if-has.false) p

pub returns-then-has : goal.returns-then-has
returns-then-has c = λ p.
    let f : SFits w64 c.args.h = search rules in
    let g : SFits w64 c.args.v = search rules in
    let held = sym (simp to_z-of_z at c.has.ensures) ∙ c.if-has.true in
    let s = within_is c.args.rect c.args.h c.args.v held in
    let r : SFits w32 c.args.rect.right = search rules in
    let b : SFits w32 c.args.rect.bottom = search rules in
    let l : SFits w32 c.args.rect.left = search rules in
    let t : SFits w32 c.args.rect.top = search rules in
    ap (λ q. rect_holds q p) (same_rect _ (pixel_at c.args.h c.args.v) (grind (arith, ints, to_z-of_z)) (grind (arith, ints, to_z-of_z)) (grind (arith, ints, to_z-of_z)) (grind (arith, ints, to_z-of_z)))
    ∙ pixel_one c.args.rect c.args.h c.args.v held p
