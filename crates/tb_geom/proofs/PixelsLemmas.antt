-- Finite sets of pixels, pixel by pixel.
use Rattle.std.specs.Prelude.{◌≡◌, ℕ, zero, suc, Bool, true, false, ◌&&◌, ◌||◌, nat_lt, ℤ, pos, negsuc, refl}
use Rattle.std.specs.declared.cmp.Ordering.{Ordering}
use Rattle.std.specs.declared.cmp.Ordering.TheVariants.{Less, Equal, Greater}
use Rattle.std.specs.Ordering.{int_eq, is_eq, ordering_then}
use Rattle.std.specs.FinSet as set
use Rattle.std.specs.Cmp.{IsTotalOrder}
use Rattle.std.proofs.Common.{sym, ap, ◌∙◌, arith}
use Rattle.std.proofs.lemmas.Cmp.{int_cmp_total, on_total, then_total}
use Rattle.std.proofs.lemmas.Bool.Decides.{nat_tests}
use Rattle.tb_geom.specs.declared.point.Point.{Point}
use Rattle.tb_geom.specs.Rects.{in_plane, is_coordinate}
use Rattle.tb_geom.specs.Pixels.{Pixels, pixel_cmp, has, holds, with_line, square, pixels_where}

-- ---- the order of pixels

pixel_cmp_total : IsTotalOrder pixel_cmp
pixel_cmp_total = then_total (on_total (λ p. p.1) int_cmp_total) (on_total (λ p. p.0) int_cmp_total)

both_equal : (o r : Ordering) → ordering_then o r ≡ Equal → (o ≡ Equal) × (r ≡ Equal)
both_equal Less r e = cc
both_equal Equal r e = (refl, e)
both_equal Greater r e = cc

-- pixels that tie are the same
pixel_cmp-antisymmetric : set.IsAntisymmetric pixel_cmp
pixel_cmp-antisymmetric p q e =
    let tied = both_equal _ _ e in
    let v = set.int_cmp-IsAntisymmetric p.1 q.1 tied.0 in
    let h = set.int_cmp-IsAntisymmetric p.0 q.0 tied.1 in
    λ i. (h i, v i)

is_eq-then : (o r : Ordering) → is_eq (ordering_then o r) ≡ (is_eq o && is_eq r)
is_eq-then Less r = refl
is_eq-then Equal r = refl
is_eq-then Greater r = refl

-- two sets with the same pixels are equal
pub same_pixels : (s t : Pixels) → ((h v : ℤ) → has s h v ≡ has t h v) → s ≡ t
unfolding has
same_pixels s t each = set.same_set pixel_cmp_total pixel_cmp-antisymmetric s t (λ p. each p.0 p.1)

-- the same, point by point
pub same_holds : (s t : Pixels) → ((p : Point) → holds s p ≡ holds t p) → s ≡ t
same_holds s t each = same_pixels s t (λ h v. each (record { h = h; v = v }))

-- ---- what is put in

has-empty : (x y : ℤ) → has set.empty x y ≡ false
unfolding has
has-empty x y = set.contains-empty pixel_cmp (x, y)

has-insert : (s : Pixels) (h v x y : ℤ) → has (set.insert s (h, v)) x y ≡ ((int_eq y v && int_eq x h) || has s x y)
unfolding has
has-insert s h v x y = set.contains-insert pixel_cmp_total s (h, v) (x, y) ∙ ap (λ b. b || set.contains s (x, y)) (is_eq-then _ _)

has-retain : (s : Pixels) (test : ℤ → ℤ → Bool) (h v : ℤ) → has (set.retain s (λ p. test p.0 p.1)) h v ≡ (has s h v && test h v)
unfolding has
has-retain s test h v =
    set.contains-retain s (λ p. test p.0 p.1) (h, v) (λ q e. ap (λ p. test p.0 p.1) (sym (pixel_cmp-antisymmetric (h, v) q e)))

-- ---- lines and squares

-- whether a number is in -n..n-1
abbrev near : ℕ → ℤ → Bool
near n (pos k) = nat_lt k n
near n (negsuc k) = nat_lt k n

near-zero : (x : ℤ) → near 0 x ≡ false
near-zero (pos k) = grind (arith, nat_tests)
near-zero (negsuc k) = grind (arith, nat_tests)

near-more : (n : ℕ) (x : ℤ) → near (suc n) x ≡ (int_eq x (pos n) || (int_eq x (negsuc n) || near n x))
near-more n (pos k) = grind (arith, nat_tests)
near-more n (negsuc k) = grind (arith, nat_tests)

or_left : (e r : Bool) → r ≡ ((e && false) || r)
or_left true r = refl
or_left false r = refl

one_row : (e a b c r : Bool) → ((e && a) || ((e && b) || ((e && c) || r))) ≡ ((e && (a || (b || c))) || r)
one_row true true b c r = refl
one_row true false true c r = refl
one_row true false false c r = refl
one_row false a b c r = refl

has-with_line : (v : ℤ) (n : ℕ) (s : Pixels) (x y : ℤ) → has (with_line v n s) x y ≡ ((int_eq y v && near n x) || has s x y)
unfolding with_line
has-with_line v zero s x y = or_left (int_eq y v) (has s x y) ∙ ap (λ b. (int_eq y v && b) || has s x y) (sym (near-zero x))
has-with_line v (suc n) s x y =
    has-insert _ (pos n) v x y
    ∙ ap (λ b. (int_eq y v && int_eq x (pos n)) || b) (has-insert _ (negsuc n) v x y ∙ ap (λ b. (int_eq y v && int_eq x (negsuc n)) || b) (has-with_line v n s x y))
    ∙ one_row (int_eq y v) (int_eq x (pos n)) (int_eq x (negsuc n)) (near n x) (has s x y)
    ∙ ap (λ b. (int_eq y v && b) || has s x y) (sym (near-more n x))

one_square : (a b c e : Bool) → ((a && e) || ((b && e) || (c && e))) ≡ ((a || (b || c)) && e)
one_square true b c true = refl
one_square true true true false = refl
one_square true true false false = refl
one_square true false true false = refl
one_square true false false false = refl
one_square false true c true = refl
one_square false true true false = refl
one_square false true false false = refl
one_square false false c e = refl

has-square : (n m : ℕ) (x y : ℤ) → has (square n m) x y ≡ (near m y && near n x)
unfolding square
has-square n zero x y = has-empty x y ∙ ap (λ b. b && near n x) (sym (near-zero y))
has-square n (suc m) x y =
    has-with_line (pos m) n _ x y
    ∙ ap (λ b. (int_eq y (pos m) && near n x) || b) (has-with_line (negsuc m) n _ x y ∙ ap (λ b. (int_eq y (negsuc m) && near n x) || b) (has-square n m x y))
    ∙ one_square (int_eq y (pos m)) (int_eq y (negsuc m)) (near m y) (near n x)
    ∙ ap (λ b. b && near n x) (sym (near-more m y))

and-true : (b : Bool) → b ≡ (b && true)
and-true true = refl
and-true false = refl

near-is_coordinate : (z : ℤ) → near 16384 z ≡ is_coordinate z
near-is_coordinate (pos k) = grind (arith, nat_tests)
near-is_coordinate (negsuc k) = and-true _ ∙ ap (λ b. b && true) (grind (arith, nat_tests))

-- a set that is made by a test has the pixels at which the test holds
pub has-pixels_where : (test : ℤ → ℤ → Bool) (h v : ℤ) → has (pixels_where test) h v ≡ ((is_coordinate v && is_coordinate h) && test h v)
unfolding pixels_where
has-pixels_where test h v =
    has-retain (square 16384 16384) test h v
    ∙ ap (λ b. b && test h v) (has-square 16384 16384 h v ∙ (λ i. near-is_coordinate v i && near-is_coordinate h i))

and-turned : (a b : Bool) → (a && b) ≡ (b && a)
and-turned true b = and-true b
and-turned false true = refl
and-turned false false = refl

-- the same, at a point
pub test_holds : (test : ℤ → ℤ → Bool) (p : Point) → holds (pixels_where test) p ≡ (in_plane p && test p.h p.v)
test_holds test p = has-pixels_where test p.h p.v ∙ ap (λ b. b && test p.h p.v) (and-turned (is_coordinate p.v) (is_coordinate p.h))
