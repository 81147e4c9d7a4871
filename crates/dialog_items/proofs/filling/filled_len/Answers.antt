use Rattle.std.proofs.Common.{ap, ◌∙◌, arith}
use Rattle.dialog_items.specs.Filling.{lent_params, text_length}
use Rattle.dialog_items.proofs.FillLemmas.{rest-length, text-short}
use Rattle.dialog_items.proofs.filling.filled_len.Goals as goal
use Rattle.dialog_items.proofs.filling.filled_len.Goals.{then-loop-at-test+else-len-le-MOST_TEXT, else-loop-at-test}

pub returns-then-len-le-MOST_TEXT-2 : goal.returns-then-len-le-MOST_TEXT-2
returns-then-len-le-MOST_TEXT-2 c =
    elim c.loop-at-test.branch [
      | then-loop-at-test+else-len-le-MOST_TEXT w ↦ absurd (omega (arith, w.if-len-le-MOST_TEXT.false, c.if-len-le-MOST_TEXT-2.true))
      | else-loop-at-test w ↦
          text-short c.loop-at.len (omega (arith, c.if-len-le-MOST_TEXT-2.true))
          ∙ ap text_length (rest-length (lent_params c.args.params) c.args.bytes.now c.loop-at.at c.loop-at.len _ (omega (arith, w.loop-at-test.false)) c.loop-at.invariant.count)
    ]
