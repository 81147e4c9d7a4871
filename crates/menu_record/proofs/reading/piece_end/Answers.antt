use Rattle.std.proofs.Common.{sym, ◌∙◌, arith}
use Rattle.menu_record.proofs.Pieces.{first_ends, none_ends}
use Rattle.menu_record.proofs.reading.piece_end.Goals as goal

pub returns-then-is_parting : goal.returns-then-is_parting
returns-then-is_parting c = first_ends c.args.text.now c.loop-at.at c.loop-at-test.true c.loop-at.invariant (sym c.is_parting.ensures ∙ c.if-is_parting.true)

pub returns : goal.returns
returns c = none_ends c.args.text.now (λ k h. c.loop-at.invariant k (omega (arith, h, c.loop-at-test.false)))
