use Rattle.std.proofs.Common.{inr}
use Rattle.std.proofs.lemmas.Result.{MatchResult-weaker}
use Rattle.lent_ops.proofs.AskLemmas.{far_or_thick, frame_region}
use Rattle.lent_ops.proofs.asking.judge_frame.Goals as goal

pub returns : goal.returns
returns c =
    let given = c.in_ok-is_in_range.ensures in
    let told = rw c.is_near.ensures at c.in_range.ensures in
    MatchResult-weaker c.in_range.result told
    (λ _ yes. frame_region _ _ _ given yes)
    (λ e why. inr (why.0, far_or_thick _ _ _ given why.1))
