-- Where pixels are seen.
use Rattle.std.proofs.Common.{◌≡◌, ◌⊎◌, ◌&&◌, ◌||◌, Bool, true, false, cond, ℕ, ◌≤◌, ℤ, pos, negsuc, ◌+ℤ◌, ◌-ℤ◌, ◌*ℤ◌, refl, sym, ap, ◌∙◌, inl, inr, arith, unsigned_abs, SFits, w32, w64, lit<}
use Rattle.std.specs.Prelude.{int_lt}
use Rattle.std.specs.Ordering.{int_eq}
use Rattle.std.proofs.lemmas.Bool.{and_parts, and_left, and_right}
use Rattle.std.proofs.lemmas.Int.{ints, fits_signed_mul}
use Rattle.tb_geom.specs.declared.point.Point.{Point}
use Rattle.tb_geom.specs.declared.rect.Rect.{Rect}
use Rattle.tb_geom.specs.Rects.{in_plane, is_coordinate, is_in_range}
use Rattle.region_rows.specs.Edges.{IsCoordinate}
use Rattle.shape_strips.specs.Places.{IsWithin}
use Rattle.shape_strips.proofs.Products.{product_within, product_fits}
use Rattle.shape_strips.proofs.RangeLemmas.{coordinate_low, coordinate_high, sides_in}
use Rattle.shape_arcs.specs.Rays.{cross, dot, is_from, is_origin, seen, stretched}
use Rattle.shape_arcs.specs.Sights.{IsNear}

-- ---- numbers

pub narrow_within : (z : ℤ) → SFits w32 z → IsWithin z 2147483648
narrow_within z f = record { low = omega (arith, ints); high = omega (arith, ints) }

pub wide_fits : (a b : ℤ) → IsWithin a 65536 → SFits w32 b → SFits w64 (a *ℤ b)
wide_fits a b n f = product_fits a b 65536 2147483648 n (narrow_within b f) (lit< tt)

pub wide_within : (a b : ℤ) → IsWithin a 65536 → SFits w32 b → IsWithin (a *ℤ b) 140737488355328
wide_within a b n f = product_within a b 65536 2147483648 n (narrow_within b f)

pub sum_of_wide : (a b : ℤ) → IsWithin a 140737488355328 → IsWithin b 140737488355328 → SFits w64 (a +ℤ b) × SFits w64 (a -ℤ b)
sum_of_wide a b m n =
    let a_low = m.low in
    let a_high = m.high in
    let b_low = n.low in
    let b_high = n.high in
    (search (arith, ints), search (arith, ints))

pub near_h : (d : Point) → IsNear d → IsWithin d.h 65536
near_h d n = record { low = n.h_low; high = n.h_high }

pub near_v : (d : Point) → IsNear d → IsWithin d.v 65536
near_v d n = record { low = n.v_low; high = n.v_high }

pub across_within : (first last : ℤ) → IsCoordinate first → IsCoordinate last → IsWithin (last -ℤ first) 32767
across_within first last m n =
    let a = m.0 in
    let b = m.1 in
    let c = n.0 in
    let d = n.1 in
    record { low = omega (arith, ints); high = omega (arith, ints) }

pub narrow_fits : (a b : ℤ) → IsWithin a 65536 → IsWithin b 32767 → SFits w32 (a *ℤ b)
narrow_fits a b m n = fits_signed_mul w32 a b 65536 32767 (abs_le a 65536 m) (abs_le b 32767 n) (lit< tt)
  where
    abs_le : (z : ℤ) (m : ℕ) → IsWithin z m → unsigned_abs z ≤ m
    abs_le z m is = let low = is.low in let high = is.high in search (arith, ints)

pub column_fits : (first last : ℤ) → IsCoordinate first → IsCoordinate last → SFits w32 (last -ℤ first)
column_fits first last m n =
    let a = m.0 in
    let b = m.1 in
    let c = n.0 in
    let d = n.1 in
    search (arith, ints)

-- ---- tests

pub is_from_ray : (d p : Point) (c : ℤ) → c ≡ cross d p → c ≡ pos 0 → int_lt (pos 0) (dot d p) ≡ is_from d p
unfolding is_from
is_from_ray d p c e z = by_test (cross d p) (int_lt (pos 0) (dot d p)) (sym e ∙ z)
  where
    by_test : (x : ℤ) (b : Bool) → x ≡ pos 0 → b ≡ (int_lt (pos 0) x || (int_eq x (pos 0) && b))
    by_test x b e = rw e refl

pub is_from_side : (d p : Point) (c : ℤ) → c ≡ cross d p → (c ≡ pos 0 → ⊥) → int_lt (pos 0) c ≡ is_from d p
unfolding is_from
is_from_side d p c e n = by_test c (cross d p) (int_lt (pos 0) (dot d p)) e n
  where
    or_none : (x : Bool) → x ≡ (x || false)
    or_none true = refl
    or_none false = refl

    by_test : (c x : ℤ) (b : Bool) → c ≡ x → (c ≡ pos 0 → ⊥) → int_lt (pos 0) c ≡ (int_lt (pos 0) x || (int_eq x (pos 0) && b))
    by_test c x b e n = rw (← e) (or_none (int_lt (pos 0) c) ∙ ap (λ t. int_lt (pos 0) c || (t && b)) (sym (other c n)))
      where
        other : (c : ℤ) → (c ≡ pos 0 → ⊥) → int_eq c (pos 0) ≡ false
        other c n = grind (arith, ints)

-- ---- where pixels are seen

pub seen_middle : (r : Rect) (p : Point) (a b : ℤ) → a ≡ (stretched r p).h → b ≡ (stretched r p).v → a ≡ pos 0 → b ≡ pos 0
    → record { h = pos 0; v = negsuc 0 } ≡ seen r p
unfolding seen
seen_middle r p a b e f g h = by_test (stretched r p) (sym e ∙ g) (sym f ∙ h)
  where
    by_test : (o : Point) → o.h ≡ pos 0 → o.v ≡ pos 0 → record { h = pos 0; v = negsuc 0 } ≡ cond (is_origin o) (record { h = pos 0; v = negsuc 0 }) o
    by_test o e f = sym (λ i. cond (int_eq (e i) (pos 0) && int_eq (f i) (pos 0)) (record { h = pos 0; v = negsuc 0 }) o)

pub seen_beside : (r : Rect) (p : Point) (a b : ℤ) → a ≡ (stretched r p).h → b ≡ (stretched r p).v → (a ≡ pos 0 → ⊥) ⊎ (b ≡ pos 0 → ⊥)
    → record { h = a; v = b } ≡ seen r p
unfolding seen
seen_beside r p a b e f n =
    let o : Point = record { h = a; v = b } in
    let same : o ≡ stretched r p = λ i. record { h = e i; v = f i } in
    sym (ap (λ t. cond t (record { h = pos 0; v = negsuc 0 }) o) (not_origin a b n)) ∙ ap (λ q. cond (is_origin q) (record { h = pos 0; v = negsuc 0 }) q) same
  where
    other : (z : ℤ) → (z ≡ pos 0 → ⊥) → int_eq z (pos 0) ≡ false
    other z n = grind (arith, ints)

    not_origin : (a b : ℤ) → (a ≡ pos 0 → ⊥) ⊎ (b ≡ pos 0 → ⊥) → (int_eq a (pos 0) && int_eq b (pos 0)) ≡ false
    not_origin a b (inl n) = and_left _ _ (other a n)
    not_origin a b (inr n) = and_right _ _ (other b n)

pub record ArePlaced (r : Rect) (p : Point) : Type 0 where
  pub left : IsCoordinate r.left
  pub top : IsCoordinate r.top
  pub right : IsCoordinate r.right
  pub bottom : IsCoordinate r.bottom
  pub h : IsCoordinate p.h
  pub v : IsCoordinate p.v

pub are_placed : (r : Rect) (p : Point) → is_in_range r ≡ true → in_plane p ≡ true → ArePlaced r p
are_placed r p e f =
    let s = sides_in r e in
    let q = and_parts (is_coordinate p.h) (is_coordinate p.v) f in
    record {
      left = (s.left_low, s.left_high);
      top = (s.top_low, s.top_high);
      right = (s.right_low, s.right_high);
      bottom = (s.bottom_low, s.bottom_high);
      h = (coordinate_low p.h q.0, coordinate_high p.h q.0);
      v = (coordinate_low p.v q.1, coordinate_high p.v q.1);
    }
