use Rattle.std.proofs.Common.{arith, refl}
use Rattle.shape_strips.specs.Ovals.{in_oval}
use Rattle.shape_strips.proofs.OvalLemmas.{square_small}
use Rattle.shape_strips.proofs.oval.Oval.contains.Goals as goal

pub overflow_add-result : goal.overflow_add-result
overflow_add-result c =
    let x = c.requires.across in
    let y = c.requires.down in
    let w = c.args.self.narrow in
    let k = c.args.self.low in
    omega (arith, square_small c.args.x c.args.self.height (omega (arith, x, w)) k, square_small c.args.y c.args.self.width (omega (arith, y, k)) w)

pub returns : goal.returns
unfolding in_oval
returns c = refl
