-- How far a window goes from one place to another, and which of its pixels shows where.
use Rattle.std.proofs.Common.{◌≡◌, Bool, true, false, if◌then◌else◌, None, Some, ℤ, pos, negsuc, ◌-ℤ◌, refl, ap, arith}
use Rattle.std.specs.Ordering.{int_eq}
use Rattle.std.proofs.lemmas.Bool.{and_parts}
use Rattle.std.proofs.lemmas.Bool.Decides.{Decides-int_eq}
use Rattle.std.proofs.lemmas.Int.{ints}
use Rattle.tb_geom.specs.declared.point.Point.{Point}
use Rattle.tb_geom.specs.Points.{minus}
use Rattle.vis_update.specs.Touches.{came_from}
use Rattle.window_mgr.specs.Arrange.{same_place, way_between}

pub same_way : (x y z : ℤ) → (x -ℤ (y -ℤ z)) -ℤ z ≡ x -ℤ y
same_way (pos x) (pos y) (pos z) = grind (arith, ints)
same_way (pos x) (pos y) (negsuc z) = grind (arith, ints)
same_way (pos x) (negsuc y) (pos z) = grind (arith, ints)
same_way (pos x) (negsuc y) (negsuc z) = grind (arith, ints)
same_way (negsuc x) (pos y) (pos z) = grind (arith, ints)
same_way (negsuc x) (pos y) (negsuc z) = grind (arith, ints)
same_way (negsuc x) (negsuc y) (pos z) = grind (arith, ints)
same_way (negsuc x) (negsuc y) (negsuc z) = grind (arith, ints)

-- places of one pixel are one
pub same_places : (a b : Point) → same_place a b ≡ true → a ≡ b
same_places a b e =
    let parts = and_parts (int_eq a.h b.h) _ e in
    λ k. record { h = (Decides-int_eq a.h b.h).0 parts.0 k; v = (Decides-int_eq a.v b.v).0 parts.1 k }

-- a pixel that a window carries from one place to another is the same one of the window
pub on_its_way : (from to p : Point) → minus (came_from (way_between from to) p) from ≡ minus p to
on_its_way from to p = by_test (same_place from to) refl
  where
    by_test : (b : Bool) → same_place from to ≡ b → minus (came_from (if b then None else Some (minus to from)) p) from ≡ minus p to
    by_test true same = ap (minus p) (same_places from to same)
    by_test false same = λ k. record { h = same_way p.h to.h from.h k; v = same_way p.v to.v from.v k }
