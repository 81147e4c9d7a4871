-- Directions by degrees.
use Rattle.std.proofs.Common.{◌≡◌, ℕ, zero, suc, ◌+◌, ◌-◌, ◌/◌, ◌%◌, ◌≤◌, ◌<◌, Bool, true, false, cond, List, get_or, length, ℤ, pos, negsuc, neg_ℤ, ◌-ℤ◌, ◌≤ℤ◌, refl, ap, inl, inr, arith, add-one, to_z, SFits, w32}
use Rattle.std.specs.Prelude.{nat_le}
use Rattle.std.specs.List.{list_all}
use Rattle.std.proofs.lemmas.Bool.{cases_Bool, le-leb, lt-leb}
use Rattle.std.proofs.lemmas.List.Folds.{list_all_at}
use Rattle.std.proofs.lemmas.Int.{ints, to_z_pos}
use Rattle.tb_geom.specs.declared.point.Point.{Point}
use Rattle.shape_arcs.specs.Directions.{tangents, tangent, first_quarter, quarter_turn, quarters, direction, on_circle}
use Rattle.shape_arcs.specs.Sights.{IsNear, PointsSomewhere}

at_most : (xs : List ℕ) (d : ℕ) → list_all (λ x. nat_le x 65536) xs ≡ true → d < length xs → get_or xs d 0 ≤ 65536
at_most xs d e l = elim (cases_Bool (nat_le (get_or xs d 0) 65536)) [
  | inl t ↦ grind arith
  | inr f ↦ let none = list_all_at (λ x. nat_le x 65536) xs d 0 l f in absurd (cc)
]

pub tangent_near : (d : ℕ) → d ≤ 45 → tangent d ≤ 65536
unfolding tangent
tangent_near d l = at_most tangents d refl (omega arith)

pub near_turned : (p : Point) → IsNear p → IsNear (quarter_turn p)
near_turned p n =
    let a = n.h_low in
    let b = n.h_high in
    let c = n.v_low in
    let d = n.v_high in
    record { h_low = omega (arith, ints); h_high = omega (arith, ints); v_low = a; v_high = b }

-- ---- casts of numbers that are small

pub cast_small : (n : ℕ) → n ≤ 65536 → to_z w32 n ≡ pos n
cast_small n l = to_z_pos w32 n (omega arith)

pub small_fits : (n : ℕ) → n ≤ 65536 → SFits w32 (pos n)
small_fits n l = search (arith, ints)

pub low_direction : (d n : ℕ) → d ≤ 45 → n ≡ d → first_quarter d ≡ record { h = pos (tangent n); v = negsuc 65535 }
unfolding first_quarter
low_direction d n l e = rw e (ap (λ b. cond b (record { h = pos (tangent d); v = negsuc 65535 }) (record { h = pos 65536; v = neg_ℤ (pos (tangent (90 - d))) })) (le-leb d 45 l))

pub high_direction : (d : ℕ) → 45 < d → first_quarter d ≡ record { h = pos 65536; v = neg_ℤ (pos (tangent (90 - d))) }
unfolding first_quarter
high_direction d l = ap (λ b. cond b (record { h = pos (tangent d); v = negsuc 65535 }) (record { h = pos 65536; v = neg_ℤ (pos (tangent (90 - d))) })) (lt-leb d 45 l)

pub minus_is_neg : (z : ℤ) → pos 0 -ℤ z ≡ neg_ℤ z
minus_is_neg z = omega (arith, ints)

pub neg_fits : (z : ℤ) → negsuc 65535 ≤ℤ z → z ≤ℤ pos 65536 → SFits w32 (pos 0 -ℤ z)
neg_fits z l m = search (arith, ints)

pub one_quarter : (n : ℕ) (p q : Point) → q ≡ quarters n p → quarter_turn q ≡ quarters (n + 1) p
unfolding quarters
one_quarter n p q e = rw add-one (ap quarter_turn e)

pub no_quarter : (p : Point) → p ≡ quarters 0 p
unfolding quarters
no_quarter p = refl

-- ---- each direction points somewhere

first_somewhere : (d : ℕ) → PointsSomewhere (first_quarter d)
unfolding first_quarter
first_somewhere d = by_test (nat_le d 45)
  where
    down : negsuc 65535 ≡ pos 0 → ⊥
    down e = absurd (cc)

    right : pos 65536 ≡ pos 0 → ⊥
    right e = omega (arith, ints)

    by_test : (b : Bool) → PointsSomewhere (cond b (record { h = pos (tangent d); v = negsuc 65535 }) (record { h = pos 65536; v = neg_ℤ (pos (tangent (90 - d))) }))
    by_test true = inr down
    by_test false = inl right

turned_somewhere : (p : Point) → PointsSomewhere p → PointsSomewhere (quarter_turn p)
turned_somewhere p (inl n) = inr n
turned_somewhere p (inr n) = inl (λ e. n (back p.v e))
  where
    back : (z : ℤ) → neg_ℤ z ≡ pos 0 → z ≡ pos 0
    back z e = omega (arith, ints)

quarters_somewhere : (n : ℕ) (p : Point) → PointsSomewhere p → PointsSomewhere (quarters n p)
unfolding quarters
quarters_somewhere zero p s = s
quarters_somewhere (suc n) p s = turned_somewhere (quarters n p) (quarters_somewhere n p s)

pub direction_somewhere : (degree : ℤ) → PointsSomewhere (direction degree)
unfolding direction
direction_somewhere degree = quarters_somewhere (on_circle degree / 90) (first_quarter (on_circle degree % 90)) (first_somewhere (on_circle degree % 90))
