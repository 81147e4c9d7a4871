-- The points of polygons: one by one from their bytes.
use Rattle.std.proofs.Common.{◌≡◌, ℕ, ◌-◌, ◌<◌, ◌≤◌, List, [], ◌∷◌, length, take, drop, get_or, ℤ, refl, sym, ap, arith}
use Rattle.std.proofs.lemmas.List.{take_rest}
use Rattle.lent_ops.specs.Points.{are_points, points_of, word_of, IsFirstPoint, IsNoPoint}

pub no_point : (bytes : List ℕ) → length bytes < 4 → IsNoPoint bytes
unfolding are_points points_of
no_point [] l = record { none = refl; whole = refl }
no_point (a ∷ []) l = record { none = refl; whole = refl }
no_point (a ∷ b ∷ []) l = record { none = refl; whole = refl }
no_point (a ∷ b ∷ c ∷ []) l = record { none = refl; whole = refl }
no_point (a ∷ b ∷ c ∷ d ∷ bytes) l = absurd (omega arith)

pub first_point : (bytes : List ℕ) (h v : ℤ) → 4 ≤ length bytes
    → h ≡ word_of (get_or bytes 2 0) (get_or bytes 3 0) → v ≡ word_of (get_or bytes 0 0) (get_or bytes 1 0)
    → IsFirstPoint bytes (record { h = h; v = v }) (take (length bytes - 4) (drop 4 bytes))
unfolding are_points points_of
first_point [] h v l across down = absurd (omega arith)
first_point (a ∷ []) h v l across down = absurd (omega arith)
first_point (a ∷ b ∷ []) h v l across down = absurd (omega arith)
first_point (a ∷ b ∷ c ∷ []) h v l across down = absurd (omega arith)
first_point (a ∷ b ∷ c ∷ d ∷ bytes) h v l across down =
    let rest = take_rest (a ∷ b ∷ c ∷ d ∷ bytes) 4 in
    record {
      points = λ i. record { h = sym across i; v = sym down i } ∷ points_of (sym rest i);
      whole = ap are_points (sym rest);
      size = omega (arith, ap length rest);
    }
