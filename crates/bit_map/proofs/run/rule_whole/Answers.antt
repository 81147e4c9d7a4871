use Rattle.std.proofs.Common.{◌≡◌, ◌+◌, ◌-◌, ◌/◌, arith}
use Rattle.bit_map.proofs.PartLemmas.{whole_part}
use Rattle.bit_map.proofs.run.rule_whole.Goals as goal

pub returns-then-count-gt0 : goal.returns-then-count-gt0
returns-then-count-gt0 g c =
    let first = c.args.place / 64 in
    let count = c.args.count / 64 in
    let less : first + count - first ≡ count = omega arith in
    let aligned = c.requires.aligned c.if-count-gt0.true in
    let part = whole_part (g.R.Rule.value c.args.rule.now) c.args.start c.args.words.now c.words.new.run first count (omega (arith, c.requires.within, c.requires.whole, aligned))
    (rw less at c.words.ensures.ruled) c.args.place c.args.count (omega (arith, aligned)) (omega (arith, c.requires.whole)) in
    rw less (record { all = part.0; run = part.1.run; before = part.1.before; after = part.1.after })
