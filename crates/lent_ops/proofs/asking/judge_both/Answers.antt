use Rattle.std.proofs.Common.{inr}
use Rattle.std.proofs.lemmas.Result.{MatchResult-weaker}
use Rattle.lent_ops.proofs.AskLemmas.{both_far, both_regions}
use Rattle.lent_ops.proofs.asking.judge_both.Goals as goal

pub returns : goal.returns
returns c =
    let one = c.in_ok-first.ensures in
    let two = c.in_ok-second.ensures in
    MatchResult-weaker c.in_range.result c.in_range.ensures
    (λ _ yes. both_regions _ _ _ _ one two yes)
    (λ e why. inr (why.0, both_far _ _ _ _ one two why.1))
