-- Points whose numbers are coordinates, and numbers that are near 0.
use Rattle.std.specs.Prelude.{ℕ, ℤ, pos, negsuc, neg_ℤ, ◌≤ℤ◌}
use Rattle.tb_geom.specs.declared.point.Point.{Point}

-- both numbers of the point lie in -16384..16383
pub record IsPlace (p : Point) : Type 0 where
  pub h_low : negsuc 16383 ≤ℤ p.h
  pub h_high : p.h ≤ℤ pos 16383
  pub v_low : negsuc 16383 ≤ℤ p.v
  pub v_high : p.v ≤ℤ pos 16383

-- the number lies no further from 0 than m
pub record IsWithin (z : ℤ) (m : ℕ) : Type 0 where
  pub low : neg_ℤ (pos m) ≤ℤ z
  pub high : z ≤ℤ pos m
