use Rattle.std.proofs.Common.{◌%◌, eqb, ap}
use Rattle.std.proofs.lemmas.Nat.Bits.{shr_and_one}
use Rattle.region_rows.specs.Bits.{has_bit}
use Rattle.pixel_rows.proofs.columns.has_bit.Goals as goal

pub returns : goal.returns
unfolding has_bit
returns c = ap (λ n. eqb n 1) (shr_and_one _ (c.args.place % 64))
