use Rattle.std.proofs.Common.{arith, rules, SFits, w32}
use Rattle.std.proofs.lemmas.Int.{ints}
use Rattle.tb_geom.proofs.RectLemmas.{same_rect}
use Rattle.text_mgr.proofs.judging.widened.Goals as goal

pub returns : goal.returns
returns c =
    let left : SFits w32 c.args.rect.left = search rules in
    let top : SFits w32 c.args.rect.top = search rules in
    let right : SFits w32 c.args.rect.right = search rules in
    let bottom : SFits w32 c.args.rect.bottom = search rules in
    same_rect _ _ (omega (arith, ints)) (omega (arith, ints)) (omega (arith, ints)) (omega (arith, ints))
