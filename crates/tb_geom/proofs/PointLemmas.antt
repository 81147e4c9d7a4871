-- Points that are moved.
use Rattle.std.proofs.Common.{◌≡◌, ℤ, pos, ◌-ℤ◌, arith}
use Rattle.std.proofs.lemmas.Int.{ints}
use Rattle.tb_geom.specs.declared.point.Point.{Point}
use Rattle.tb_geom.specs.Points.{minus}

-- the point 0 0
abbrev pub origin : Point
origin = record { h = pos 0; v = pos 0 }

-- a point that is moved by nothing stays where it is
pub minus-origin : (p : Point) → minus p origin ≡ p
minus-origin p = λ i. record { h = same p.h i; v = same p.v i }
  where
    same : (x : ℤ) → x -ℤ pos 0 ≡ x
    same x = grind (arith, ints)
