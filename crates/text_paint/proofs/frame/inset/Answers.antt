use Rattle.std.proofs.Common.{arith, SFits, w32}
use Rattle.std.proofs.lemmas.Int.{ints}
use Rattle.tb_geom.proofs.RectLemmas.{same_rect}
use Rattle.text_paint.proofs.frame.inset.Goals as goal

pub returns : goal.returns
returns c =
    let left : SFits w32 c.args.rect.left = search (arith, ints) in
    let top : SFits w32 c.args.rect.top = search (arith, ints) in
    let right : SFits w32 c.args.rect.right = search (arith, ints) in
    let bottom : SFits w32 c.args.rect.bottom = search (arith, ints) in
    same_rect _ _ (omega (arith, ints)) (omega (arith, ints)) (omega (arith, ints)) (omega (arith, ints))
