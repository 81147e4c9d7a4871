-- Polygons that calls carry: the bytes of their points.
use Rattle.std.specs.Prelude.{◌≡◌, ℕ, ◌+◌, ◌==◌, Bool, true, false, nat_lt, List, [], ◌∷◌, length, ℤ}
use Rattle.std.specs.Int.{from_be_bytes, cast_signed, w16}
use Rattle.tb_geom.specs.declared.point.Point.{Point}

-- the number that two bytes say, the high one first
abbrev pub word_of : ℕ → ℕ → ℤ
word_of high low = cast_signed w16 (from_be_bytes w16 (high ∷ low ∷ []))

-- the points of bytes: of each its row and then its column; bytes that are left over are none
unfoldable pub points_of : List ℕ → List Point
points_of [] = []
points_of (a ∷ []) = []
points_of (a ∷ b ∷ []) = []
points_of (a ∷ b ∷ c ∷ []) = []
points_of (a ∷ b ∷ c ∷ d ∷ bytes) = record { h = word_of c d; v = word_of a b } ∷ points_of bytes

-- whether none are left over
unfoldable pub are_points : List ℕ → Bool
are_points [] = true
are_points (a ∷ []) = false
are_points (a ∷ b ∷ []) = false
are_points (a ∷ b ∷ c ∷ []) = false
are_points (a ∷ b ∷ c ∷ d ∷ bytes) = are_points bytes

-- whether they are more than 1024 points have
abbrev pub are_many : List ℕ → Bool
are_many bytes = nat_lt 4096 (length bytes)

-- the bytes have no point
pub record IsNoPoint (bytes : List ℕ) : Type 0 where
  pub none : points_of bytes ≡ []
  pub whole : are_points bytes ≡ (length bytes == 0)

-- this is the first point of the bytes, and these are the bytes behind it
pub record IsFirstPoint (bytes : List ℕ) (p : Point) (rest : List ℕ) : Type 0 where
  pub points : points_of bytes ≡ p ∷ points_of rest
  pub whole : are_points bytes ≡ are_points rest
  pub size : length bytes ≡ 4 + length rest
