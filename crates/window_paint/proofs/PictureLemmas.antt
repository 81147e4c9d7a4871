-- Where a picture lies, and its last operation.
use Rattle.std.proofs.Common.{◌≡◌, ◌+◌, ◌-◌, ◌&&◌, true, List, [], ◌∷◌, ◌++◌, length, Some, ℤ, pos, negsuc, ◌+ℤ◌, ◌-ℤ◌, refl, ap, ◌∙◌, arith}
use Rattle.std.specs.Prelude.{slice_get}
use Rattle.std.proofs.lemmas.Bool.{and_parts}
use Rattle.std.proofs.lemmas.Int.{ints}
use Rattle.std.proofs.lemmas.Option.{slice_get-get_or}
use Rattle.std.proofs.Math.Seq.{get_or-append_seam}
use Rattle.tb_geom.specs.declared.point.Point.{Point}
use Rattle.tb_geom.specs.Points.{minus, plus}
use Rattle.tb_geom.specs.Rects.{between, is_coordinate, in_plane}
use Rattle.draw_port.specs.Origins.{is_near_origin}

sum_is_near : (a b : ℤ) → is_coordinate a ≡ true → is_coordinate b ≡ true → between (negsuc 999999999) (a +ℤ b) (pos 1000000000) ≡ true
sum_is_near a b e f = grind (arith, ints)

-- the sum of two points is near enough for a canvas
pub plus_is_near : (p q : Point) → in_plane p ≡ true → in_plane q ≡ true → is_near_origin (plus p q) ≡ true
plus_is_near p q e f =
    let a = and_parts (is_coordinate p.h) (is_coordinate p.v) e in
    let b = and_parts (is_coordinate q.h) (is_coordinate q.v) f in
    λ i. sum_is_near p.h q.h a.0 b.0 i && sum_is_near p.v q.v a.1 b.1 i

minus_sum : (x a b : ℤ) → x -ℤ (a +ℤ b) ≡ (x -ℤ a) -ℤ b
minus_sum x a b = omega (arith, ints)

-- seen from the place of a picture, as from its origin in the window
pub minus_twice : (p place origin : Point) → minus p (plus place origin) ≡ minus (minus p place) origin
minus_twice p place origin = λ i. record { h = minus_sum p.h place.h origin.h i; v = minus_sum p.v place.v origin.v i }

length-snoc : {X : Type 0} (xs : List X) (x : X) → length (xs ++ x ∷ []) ≡ length xs + 1
length-snoc [] x = refl
length-snoc (y ∷ xs) x = let e = length-snoc xs x in omega arith

-- what a list ends with is its last
pub last_is : {X : Type 0} (before xs : List X) (x y : X) → xs ≡ before ++ x ∷ [] → Some y ≡ slice_get xs (length xs - 1) → y ≡ x
last_is before xs x y is last =
    let long : length (before ++ x ∷ []) ≡ length before + 1 = length-snoc before x in
    let at : length (before ++ x ∷ []) - 1 ≡ length before = omega arith in
    let there : slice_get (before ++ x ∷ []) (length before) ≡ Some x = slice_get-get_or (before ++ x ∷ []) (length before) x (omega arith) ∙ ap Some (get_or-append_seam before x [] x) in
    let both : Some y ≡ Some x = last ∙ ap (λ l. slice_get l (length l - 1)) is ∙ ap (slice_get (before ++ x ∷ [])) at ∙ there in
    cc
