-- Directions by whole degrees, clockwise from straight up, h to the right and v down.
use Rattle.std.specs.Prelude.{ℕ, zero, suc, ◌-◌, ◌/◌, ◌%◌, nat_le, cond, List, [], ◌∷◌, slice_index, ℤ, pos, negsuc, neg_ℤ, unsigned_abs}
use Rattle.std.specs.Int.{int_rem_euclid}
use Rattle.tb_geom.specs.declared.point.Point.{Point}

-- 65536 times the tangents of the degrees from 0 to 45, rounded
abbrev pub tangents : List ℕ
tangents =
    0 ∷ 1144 ∷ 2289 ∷ 3435 ∷ 4583 ∷ 5734 ∷ 6888 ∷ 8047 ∷ 9210 ∷ 10380 ∷ 11556 ∷ 12739 ∷
    13930 ∷ 15130 ∷ 16340 ∷ 17560 ∷ 18792 ∷ 20036 ∷ 21294 ∷ 22566 ∷ 23853 ∷ 25157 ∷ 26478 ∷ 27818 ∷
    29179 ∷ 30560 ∷ 31964 ∷ 33392 ∷ 34846 ∷ 36327 ∷ 37837 ∷ 39378 ∷ 40951 ∷ 42560 ∷ 44205 ∷ 45889 ∷
    47615 ∷ 49385 ∷ 51202 ∷ 53070 ∷ 54991 ∷ 56970 ∷ 59009 ∷ 61113 ∷ 63287 ∷ 65536 ∷ []

-- the tangent of one of them
unfoldable pub tangent : ℕ → ℕ
tangent d = slice_index tangents d

-- the directions of the degrees below 90 end on the border of a square around 0 0, 65536 from its middle to each side
unfoldable pub first_quarter : ℕ → Point
first_quarter d = cond (nat_le d 45)
    (record { h = pos (tangent d); v = negsuc 65535 })
    (record { h = pos 65536; v = neg_ℤ (pos (tangent (90 - d))) })

-- a quarter of a turn further, clockwise
abbrev pub quarter_turn : Point → Point
quarter_turn p = record { h = neg_ℤ p.v; v = p.h }

-- so many quarters of a turn further
unfoldable pub quarters : ℕ → Point → Point
quarters zero p = p
quarters (suc n) p = quarter_turn (quarters n p)

-- the degree of the circle that a whole degree is, which may be any
abbrev pub on_circle : ℤ → ℕ
on_circle degree = unsigned_abs (int_rem_euclid degree (pos 360))

-- the direction of a whole degree
unfoldable pub direction : ℤ → Point
direction degree = quarters (on_circle degree / 90) (first_quarter (on_circle degree % 90))
