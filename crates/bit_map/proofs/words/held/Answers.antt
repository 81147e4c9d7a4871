use Rattle.std.proofs.Common.{◌∙◌, ap, ◌&&◌, ◌+◌, ◌-◌, ◌<ℤ◌, ◌≤ℤ◌, pos, min, nat_le, nat_lt, SFits, w32, rules}
use Rattle.std.proofs.lemmas.Int.{ints, to_z-of_z}
use Rattle.bit_map.proofs.WordLemmas.{held_back, held_ahead}
use Rattle.bit_map.proofs.words.held.Goals as goal

pub returns-then-start-lt0 : goal.returns-then-start-lt0
returns-then-start-lt0 c =
    let fits : SFits w32 c.args.start = search rules in
    let is = simp to_z-of_z at c.unsigned_abs.ensures.value in
    let less : c.args.start <ℤ pos 0 = search (rules, ints) in
    λ k low. c.black_between.ensures k low
    ∙ ap (λ end. nat_le c.min-back.result k && nat_lt k end) (c.min.ensures ∙ ap (λ n. min (n + c.min-back.result) 64) c.from-limit.ensures)
    ∙ held_back c.args.limit c.min-back.result k c.args.start low (c.min-back.ensures ∙ ap (λ n. min n 64) is) less

pub returns-else-start-lt0 : goal.returns-else-start-lt0
returns-else-start-lt0 c =
    let fits : SFits w32 c.args.start = search rules in
    let is = simp to_z-of_z at c.unsigned_abs-ahead.ensures.value in
    let more : pos 0 ≤ℤ c.args.start = search (rules, ints) in
    λ k low. c.black_between-else-start-lt0.ensures k low
    ∙ ap (λ end. nat_le 0 k && nat_lt k end) (c.min-else-start-lt0.ensures ∙ ap (λ n. min n 64) (c.saturating_sub.ensures ∙ ap (λ n. n - c.unsigned_abs-ahead.result) c.from-limit.ensures))
    ∙ held_ahead c.args.limit c.unsigned_abs-ahead.result k c.args.start low is more
