-- Which title a point is on.
use Rattle.std.proofs.Common.{◌≡◌, ℕ, ◌+◌, ℤ, pos, arith, Bool, true, false, ◌&&◌, if◌then◌else◌, List, [], ◌∷◌, None, Some, refl, ap, ◌∙◌}
use Rattle.std.specs.Prelude.{int_le}
use Rattle.std.proofs.lemmas.Int.{ints}
use Rattle.tb_geom.specs.declared.point.Point.{Point}
use Rattle.tb_geom.specs.Rects.{between}
use Rattle.desk_ground.specs.declared.titles.BarTitle.{BarTitle}
use Rattle.desk_ground.specs.Bars.{title_at, title_width}

above : (v : ℤ) → int_le (pos 19) v ≡ true → between (pos 0) v (pos 19) ≡ false
above v low = grind (arith, ints)

and_false : (a b : Bool) → b ≡ false → (a && b) ≡ false
and_false true b e = e
and_false false b e = refl

-- below row 18 there is no title
pub below_titles : (font : List ℕ) (left : ℕ) (titles : List BarTitle) (p : Point) → int_le (pos 19) p.v ≡ true → title_at font left titles p ≡ None
below_titles font left [] p low = refl
below_titles font left (t ∷ ts) p low =
    ap (λ b. if b then Some (record { menu = t.menu; left = pos left }) else title_at font (left + title_width font t) ts p)
    (and_false (between (pos left) p.h (pos (left + title_width font t))) (between (pos 0) p.v (pos 19)) (above p.v low))
    ∙ below_titles font (left + title_width font t) ts p low
