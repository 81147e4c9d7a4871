-- Wedges and arcs.
use Rattle.std.proofs.Common.{◌≡◌, ◌&&◌, ◌||◌, not, Bool, true, false, cond, ℤ, pos, neg_ℤ, ◌+ℤ◌, refl, sym, ap, ◌∙◌}
use Rattle.std.specs.Prelude.{int_le, int_lt}
use Rattle.std.proofs.lemmas.Bool.{and_left, and_parts}
use Rattle.tb_geom.specs.declared.point.Point.{Point}
use Rattle.tb_geom.specs.declared.rect.Rect.{Rect}
use Rattle.tb_geom.specs.Rects.{rect_holds}
use Rattle.shape_strips.specs.Rounds.{oval_corner, oval_holds}
use Rattle.shape_strips.proofs.RoundLemmas.{outside_rect}
use Rattle.shape_arcs.specs.Rays.{is_seen_from}
use Rattle.shape_arcs.specs.Wedges.{arc_holds, broad_wedge, clockwise, narrow_wedge, wedge_holds}
use Rattle.shape_arcs.specs.Halves.{sector_holds}

-- ---- wedges that go back, and that go on

pub goes_back : (start angle s n : ℤ) → int_lt angle (pos 0) ≡ true → s ≡ start +ℤ angle → n ≡ neg_ℤ angle → (r : Rect) (p : Point) → clockwise r s n p ≡ wedge_holds r start angle p
unfolding wedge_holds
goes_back start angle s n l e f r p =
    (λ i. clockwise r (e i) (f i) p)
    ∙ sym (ap (λ t. cond t (clockwise r (start +ℤ angle) (neg_ℤ angle) p) (clockwise r start angle p)) l)

pub goes_on : (start angle s n : ℤ) → int_lt angle (pos 0) ≡ false → s ≡ start → n ≡ angle → (r : Rect) (p : Point) → clockwise r s n p ≡ wedge_holds r start angle p
unfolding wedge_holds
goes_on start angle s n l e f r p =
    (λ i. clockwise r (e i) (f i) p)
    ∙ sym (ap (λ t. cond t (clockwise r (start +ℤ angle) (neg_ℤ angle) p) (clockwise r start angle p)) l)

-- ---- arcs by their sectors

pub outside_arc : (r : Rect) (start angle : ℤ) (p : Point) → rect_holds r p ≡ false → arc_holds r start angle p ≡ false
outside_arc r start angle p out = and_left _ _ (outside_rect r (oval_corner r) p out)

pub whole_arc : (r : Rect) (s n : ℤ) (p : Point) → int_le (pos 360) n ≡ true → oval_holds r p ≡ (oval_holds r p && clockwise r s n p)
whole_arc r s n p l =
    all (oval_holds r p)
    ∙ sym (ap (λ t. oval_holds r p && cond t true (cond (int_le n (pos 180)) (narrow_wedge r s (s +ℤ n) p) (broad_wedge r s (s +ℤ n) p))) l)
  where
    all : (b : Bool) → b ≡ (b && true)
    all true = refl
    all false = refl

not_whole : (r : Rect) (s n : ℤ) (p : Point) → int_le (pos 360) n ≡ false → clockwise r s n p ≡ cond (int_le n (pos 180)) (narrow_wedge r s (s +ℤ n) p) (broad_wedge r s (s +ℤ n) p)
not_whole r s n p l = ap (λ t. cond t true (cond (int_le n (pos 180)) (narrow_wedge r s (s +ℤ n) p) (broad_wedge r s (s +ℤ n) p))) l

pub narrow_arc : (r : Rect) (s n : ℤ) (p : Point) → int_le (pos 360) n ≡ false → int_le n (pos 180) ≡ true → sector_holds r s (s +ℤ n) (int_le n (pos 180)) p ≡ (oval_holds r p && clockwise r s n p)
narrow_arc r s n p l m = ap (λ b. sector_holds r s (s +ℤ n) b p) m ∙ sym (ap (λ t. oval_holds r p && t) (not_whole r s n p l ∙ ap (λ t. cond t (narrow_wedge r s (s +ℤ n) p) (broad_wedge r s (s +ℤ n) p)) m))

pub broad_arc : (r : Rect) (s n : ℤ) (p : Point) → int_le (pos 360) n ≡ false → int_le n (pos 180) ≡ false
    → (oval_holds r p && not (sector_holds r s (s +ℤ n) (int_le n (pos 180)) p)) ≡ (oval_holds r p && clockwise r s n p)
broad_arc r s n p l m =
    ap (λ b. oval_holds r p && not (sector_holds r s (s +ℤ n) b p)) m
    ∙ around (oval_holds r p) (is_seen_from r s p) (is_seen_from r (s +ℤ n) p)
    ∙ sym (ap (λ t. oval_holds r p && t) (not_whole r s n p l ∙ ap (λ t. cond t (narrow_wedge r s (s +ℤ n) p) (broad_wedge r s (s +ℤ n) p)) m))
  where
    around : (o a b : Bool) → (o && not (o && (not a && b))) ≡ (o && (a || not b))
    around true true true = refl
    around true true false = refl
    around true false true = refl
    around true false false = refl
    around false a b = refl

pub sector_in : (r : Rect) (s e : ℤ) (narrow : Bool) (p : Point) → sector_holds r s e narrow p ≡ true → oval_holds r p ≡ true
sector_in r s e narrow p t = (and_parts (oval_holds r p) _ t).0
