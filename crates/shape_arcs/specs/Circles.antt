-- Wedges that follow each other once around.
use Rattle.std.specs.Prelude.{◌≡◌, ℕ, ◌+◌, ◌-◌, ◌<◌, cond, List, [], ◌∷◌, ℤ, pos, ◌+ℤ◌}
use Rattle.tb_geom.specs.declared.point.Point.{Point}
use Rattle.tb_geom.specs.declared.rect.Rect.{Rect}
use Rattle.shape_arcs.specs.Wedges.{wedge_holds}

-- the numbers rise strictly, from above `last` on, and the last one is 360
abbrev pub GoAround : ℕ → List ℕ → Type 0
GoAround last [] = last ≡ 360
GoAround last (next ∷ rest) = (last < next) × GoAround next rest

-- how many of the wedges have the pixel that go from each of these degrees past the start to the next one
abbrev pub wedges_with : Rect → ℤ → ℕ → List ℕ → Point → ℕ
wedges_with r start from [] p = 0
wedges_with r start from (to ∷ rest) p =
    cond (wedge_holds r (start +ℤ pos from) (pos (to - from)) p) 1 0 + wedges_with r start to rest p
