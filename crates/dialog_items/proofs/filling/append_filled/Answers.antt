use Rattle.std.proofs.Common.{arith}
use Rattle.dialog_items.specs.Filling.{lent_params}
use Rattle.dialog_items.proofs.FillLemmas.{rest-none}
use Rattle.dialog_items.proofs.filling.append_filled.Goals as goal

pub returns : goal.returns
returns c = rest-none (lent_params c.args.params) c.args.bytes.now c.loop-at.at c.loop-at.text.items _ (omega (arith, c.loop-at-test.false)) c.loop-at.invariant.text
