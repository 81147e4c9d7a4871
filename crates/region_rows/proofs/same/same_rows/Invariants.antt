use Rattle.std.proofs.Common.{◌≡◌, length, take}
use Rattle.region_rows.proofs.same.same_rows.Given as goal

-- the rows so far are the same
abbrev pub invariant-loop-p : goal.invariant-loop-p
invariant-loop-p l = take (length l.yielded) l.a ≡ take (length l.yielded) l.b
