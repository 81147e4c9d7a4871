use Rattle.std.proofs.Common.{◌≡◌, ◌+◌, ◌-◌, ◌%◌, ◌≤◌, ℕ, refl, arith}
use Rattle.bit_map.proofs.PartLemmas.{ruled_more}
use Rattle.bit_map.proofs.run.rule_run.Goals as goal

third_is : (place head count : ℕ) → place + head + (count - head - (count - head) % 64) ≡ place + (head + (count - head - (count - head) % 64))
third_is place head count = omega arith

all_is : (head count : ℕ) → head ≤ count → count ≡ head + (count - head - (count - head) % 64) + (count - head) % 64
all_is head count low = omega arith

pub returns : goal.returns
returns g c =
    let value = g.R.Rule.value c.args.rule.now in
    let head = c.head_of-head.result in
    let two = ruled_more value c.args.start c.right_of-second.result c.args.place _ head _ _ _ _ _ c.right_of-second.ensures refl refl c.rule_part.ensures c.rule_whole.ensures in
    ruled_more value c.args.start c.right_of-third.result c.args.place _ _ _ c.args.count _ _ _ c.right_of-third.ensures (third_is c.args.place head c.args.count) (all_is head c.args.count c.head_of-head.ensures.within) two c.rule_part-2.ensures
