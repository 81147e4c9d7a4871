use Rattle.std.proofs.Common.{◌≡◌, ◌<◌, pos, arith, SFits, w32, rules}
use Rattle.std.proofs.lemmas.Int.{ints}
use Rattle.tb_geom.proofs.RectLemmas.{same_rect}
use Rattle.shape_strips.specs.Frames.{inset_rect}
use Rattle.shape_strips.proofs.RangeLemmas.{sides_in, sum_fits, rest_fits}
use Rattle.shape_strips.proofs.inside.inset_rect.Goals as goal

pub returns : goal.returns
returns c =
    let s = sides_in c.args.rect c.requires in
    let left : SFits w32 c.args.rect.left = search rules in
    let top : SFits w32 c.args.rect.top = search rules in
    let right : SFits w32 c.args.rect.right = search rules in
    let bottom : SFits w32 c.args.rect.bottom = search rules in
    let wide : c.args.pen.width < 65536 = search rules in
    let high : c.args.pen.height < 65536 = search rules in
    let across : c.from-across.result ≡ pos c.args.pen.width = search rules in
    let down : c.from-down.result ≡ pos c.args.pen.height = search rules in
    let fits_across : SFits w32 c.from-across.result = search rules in
    let fits_down : SFits w32 c.from-down.result = search rules in
    let first = sum_fits c.args.rect.left c.args.pen.width s.left_low s.left_high wide in
    let second = sum_fits c.args.rect.top c.args.pen.height s.top_low s.top_high high in
    let third = rest_fits c.args.rect.right c.args.pen.width s.right_low s.right_high wide in
    let fourth = rest_fits c.args.rect.bottom c.args.pen.height s.bottom_low s.bottom_high high in
    same_rect _ (inset_rect c.args.rect c.args.pen) (omega (arith, ints)) (omega (arith, ints)) (omega (arith, ints)) (omega (arith, ints))
