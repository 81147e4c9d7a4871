use Rattle.std.proofs.Common.{ℕ, ◌+◌, ◌*◌, ◌-◌, ◌/◌, arith, sym, ◌∙◌}
use Rattle.shape_strips.proofs.OvalLemmas.{further, nearer, half_in, edge_at}
use Rattle.shape_strips.proofs.oval.Oval.lacking.Goals as goal

pub loop-low-init : goal.loop-low-init
loop-low-init c = record {
  order = omega arith;
  half = omega arith;
  lacks = λ i below. absurd (omega arith);
  held = λ i from. half_in c.args.self.width c.args.self.height c.args.y i c.requires (omega (arith, from));
}

pub loop-low-preserved-then-contains : goal.loop-low-preserved-then-contains
loop-low-preserved-then-contains c =
    let test = c.loop-low-test.true in
    let half = c.loop-low.invariant.half in
    let middle : ℕ = (c.loop-low.low + c.loop-low.high) / 2 in
    record {
      order = omega arith;
      half = omega arith;
      lacks = c.loop-low.invariant.lacks;
      held = λ i from. nearer c.args.self.width c.args.self.height c.args.y (c.args.self.width - 1 - 2 * i) (c.args.self.width - 1 - 2 * ((c.loop-low.low + c.loop-low.high) / 2)) (omega (arith, from))
          (sym c.contains.ensures ∙ c.if-contains.true);
    }

pub loop-low-preserved : goal.loop-low-preserved
loop-low-preserved c =
    let test = c.loop-low-test.true in
    let half = c.loop-low.invariant.half in
    record {
      order = omega arith;
      half = half;
      lacks = λ i below. further c.args.self.width c.args.self.height c.args.y (c.args.self.width - 1 - 2 * ((c.loop-low.low + c.loop-low.high) / 2)) (c.args.self.width - 1 - 2 * i) (omega (arith, below))
          (sym c.contains.ensures ∙ c.if-contains.false);
      held = c.loop-low.invariant.held;
    }

pub returns-clause-edge : goal.returns-clause-edge
returns-clause-edge c =
    let test = c.loop-low-test.false in
    let order = c.loop-low.invariant.order in
    edge_at c.args.self.width c.args.self.height c.args.y c.loop-low.low c.loop-low.invariant.lacks (λ i from. c.loop-low.invariant.held i (omega (arith, from)))
