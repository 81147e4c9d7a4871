-- One step of a loop over coordinates.
use Rattle.std.proofs.Common.{ℤ, pos, ◌+ℤ◌, ◌<ℤ◌, arith, SFits, w32}
use Rattle.std.proofs.lemmas.Int.{ints}

-- the number after one below a limit has 32 bits where the limit has
pub fits_next : (x limit : ℤ) → SFits w32 x → SFits w32 limit → x <ℤ limit → SFits w32 (x +ℤ pos 1)
fits_next x limit p q l = search (arith, ints)
