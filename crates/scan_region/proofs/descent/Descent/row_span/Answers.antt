use Rattle.std.proofs.Common.{◌<ℤ◌, ◌≤ℤ◌, rules, arith, SFits, w32}
use Rattle.std.proofs.lemmas.Int.{ints}
use Rattle.scan_region.proofs.KeptRuns.{descent_walked, some_weaker, none_both}
use Rattle.scan_region.proofs.descent.Descent.row_span.Goals as goal

pub row_span-requires : goal.row_span-requires
row_span-requires c = (c.args.self.now.left, c.requires.1.sides)

pub returns-then-self-clause-none : goal.returns-then-self-clause-none
returns-then-self-clause-none c = λ s r.
    let fits_v : SFits w32 c.args.self.now.v = search rules in
    let fits_u : SFits w32 c.args.self.now.until = search rules in
    let below : c.args.self.now.v <ℤ c.args.self.now.until = search (rules, ints) in
    (r.whole below, r.whole below)

pub returns-clause-descent : goal.returns-clause-descent
returns-clause-descent c = λ s r.
    let d = c.args.self.now in
    let fits_v : SFits w32 c.args.self.now.v = search rules in
    let fits_u : SFits w32 c.args.self.now.until = search rules in
    let above : c.args.self.now.until ≤ℤ c.args.self.now.v = search (rules, ints) in
    let t = c.row_span.ensures in
    descent_walked d s _ (t.walk s r.walk) (t.sides d.left r.sides) t.v (λ m. absurd (omega (arith, ints))) r

pub returns-clause-some : goal.returns-clause-some
returns-clause-some c = some_weaker c.row_span.result _ _ (λ span f s r. f s r.walk) c.row_span.ensures.some

pub returns-clause-none : goal.returns-clause-none
returns-clause-none c = none_both c.row_span.result _ _ _ (λ f g s r. (f s r.walk, g s)) c.row_span.ensures.none c.row_span.ensures.ended

pub returns-clause-right : goal.returns-clause-right
returns-clause-right c = (c.row_span.ensures.sides c.args.self.now.left c.requires.1.sides).end
