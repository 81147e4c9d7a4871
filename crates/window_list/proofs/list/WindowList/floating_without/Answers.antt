use Rattle.std.proofs.Common.{◌≡◌, ◌<◌, ◌≤◌, length, rules, arith}
use Rattle.std.specs.List.{remove}
use Rattle.std.proofs.lemmas.Bool.Decides.{nat_tests}
use Rattle.std.proofs.lemmas.List.Sums.{prefix_len-le-length}
use Rattle.window_list.specs.Lists.{floats}
use Rattle.window_list.proofs.ClassLemmas.{walked, walk_ended, passed, counted, met}
use Rattle.window_list.proofs.list.WindowList.floating_without.Goals.{then-at-without+else-not-at, else-at-without}
use Rattle.window_list.proofs.list.WindowList.floating_without.Goals as goal

pub returns-then-not-at-clause-count : goal.returns-then-not-at-clause-count
returns-then-not-at-clause-count g c =
    let within : c.loop-at.at < length c.args.self.now.records.items = search rules in
    let so_far = c.loop-at.invariant.counted in
    let here = met floats c.loop-at.at c.args.without c.args.self.now.records.items c.at.result.now within c.at.ensures (λ e. let t = c.if-at-without.true in grind (arith, nat_tests)) c.if-not-at.true in
    let all = walked floats c.args.without c.args.self.now.records.items in
    omega arith

pub loop-at-preserved : goal.loop-at-preserved
loop-at-preserved g c =
    let within : c.loop-at.at < length c.args.self.now.records.items = search rules in
    let so_far = c.loop-at.invariant.counted in
    let low = c.loop-at.invariant.low in
    elim c.if-at-without.branch [
      | then-at-without+else-not-at w ↦
          let here = counted floats c.loop-at.at c.args.without c.args.self.now.records.items w.at.result.now within w.at.ensures (λ e. let t = w.if-at-without.true in grind (arith, nat_tests)) w.if-not-at.false in
          let n = w.count-is in
          record { counted = omega arith; low = omega arith }
      | else-at-without w ↦
          let here = passed floats c.loop-at.at c.args.without c.args.self.now.records.items within (let t = w.if-at-without.false in grind (arith, nat_tests)) in
          let n = w.count-is in
          record { counted = omega arith; low = omega arith }
    ]

pub returns-clause-count : goal.returns-clause-count
returns-clause-count g c =
    let end : length c.args.self.now.records.items ≤ c.loop-at.at = search rules in
    let so_far = c.loop-at.invariant.counted in
    let here = walk_ended floats c.loop-at.at c.args.without c.args.self.now.records.items end in
    let all = walked floats c.args.without c.args.self.now.records.items in
    omega arith

pub returns-clause-low : goal.returns-clause-low
returns-clause-low g c =
    let end : length c.args.self.now.records.items ≤ c.loop-at.at = search rules in
    let so_far = c.loop-at.invariant.counted in
    let here = walk_ended floats c.loop-at.at c.args.without c.args.self.now.records.items end in
    let all = walked floats c.args.without c.args.self.now.records.items in
    let most = prefix_len-le-length floats (remove c.args.self.now.records.items c.args.without) in
    omega arith
