use Rattle.screen_pbm.proofs.Digits.{ArePutOf}
use Rattle.screen_pbm.proofs.p1.put_word.Given as goal

abbrev pub invariant-loop-j : goal.invariant-loop-j
invariant-loop-j l = ArePutOf l.place l.word l.j l.fn.text l.text
