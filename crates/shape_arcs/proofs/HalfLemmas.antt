-- Halves of a rectangle, row by row.
use Rattle.std.proofs.Common.{◌≡◌, ◌⊎◌, ◌&&◌, not, Bool, true, false, cond, ℤ, ◌≤ℤ◌, ◌<ℤ◌, refl, sym, ap, ◌∙◌, inl, inr, arith}
use mathlib.Core.Bool.{beq}
use Rattle.std.specs.Prelude.{int_le}
use Rattle.std.proofs.lemmas.Bool.{and_left, and_right}
use Rattle.std.proofs.lemmas.Int.{ints, by_lt_z}
use Rattle.tb_geom.specs.declared.point.Point.{Point}
use Rattle.tb_geom.specs.declared.rect.Rect.{Rect}
use Rattle.tb_geom.specs.Rects.{between, rect_holds}
use Rattle.tb_geom.proofs.RectLemmas.{between-in}
use Rattle.region_rows.specs.Edges.{alike}
use Rattle.region_rows.proofs.Edges.{beq-alike}
use Rattle.shape_strips.proofs.RunLemmas.{between_before, between_past}
use Rattle.shape_arcs.specs.Rays.{is_from, seen}
use Rattle.shape_arcs.specs.Sights.{IsTurn}

-- outside of the rectangle there is none
pub out_of_rows : (r : Rect) (h v : ℤ) (b : Bool) → (r.right ≤ℤ r.left) ⊎ ((v <ℤ r.top) ⊎ (r.bottom ≤ℤ v)) → (rect_holds r (record { h = h; v = v }) && b) ≡ false
out_of_rows r h v b out = and_left _ b (none out)
  where
    flat : (l x m : ℤ) → m ≤ℤ l → between l x m ≡ false
    flat l x m s = grind (arith, ints)

    none : (r.right ≤ℤ r.left) ⊎ ((v <ℤ r.top) ⊎ (r.bottom ≤ℤ v)) → rect_holds r (record { h = h; v = v }) ≡ false
    none (inl l) = and_left _ _ (flat r.left h r.right l)
    none (inr (inl l)) = and_right _ _ (between_before r.top v r.bottom l)
    none (inr (inr l)) = and_right _ _ (between_past r.top v r.bottom l)

both_ways : (rises from b : Bool) → alike from (alike rises b) ≡ cond (alike rises from) b (not b)
both_ways true true b = refl
both_ways true false b = refl
both_ways false true b = refl
both_ways false false true = refl
both_ways false false false = refl

-- the columns on one side of where a row turns
pub turned_run : (r : Rect) (d : Point) (v column h : ℤ) (rises from : Bool) → r.top ≤ℤ v → v <ℤ r.bottom → IsTurn r d v column rises
    → cond (alike rises from) (between column h r.right) (between r.left h column)
    ≡ (rect_holds r (record { h = h; v = v }) && alike from (is_from d (seen r (record { h = h; v = v }))))
turned_run r d v column h rises from top bottom t =
    by_lt_z h r.left
    (λ left. ends (alike rises from) (between_before column h r.right (omega (arith, ints))) (between_before r.left h column left)
    ∙ sym (and_left _ _ (and_left _ _ (between_before r.left h r.right left))))
    (λ low. by_lt_z h r.right
    (λ high. parts (alike rises from) (from_column low high) (to_column low high)
    ∙ sym (ap (alike from) (t.edge h low high) ∙ both_ways rises from (int_le column h))
    ∙ sym (λ i. (between-in r.left h r.right low high i && between-in r.top v r.bottom top bottom i) && alike from (is_from d (seen r (record { h = h; v = v })))))
    (λ past. ends (alike rises from) (between_past column h r.right past) (between_past r.left h column (omega (arith, ints)))
    ∙ sym (and_left _ _ (and_left _ _ (between_past r.left h r.right past)))))
  where
    left_in : r.left ≤ℤ column
    left_in = t.low

    right_in : column ≤ℤ r.right
    right_in = t.high

    ends : (b : Bool) {x y : Bool} → x ≡ false → y ≡ false → cond b x y ≡ false
    ends true e f = e
    ends false e f = f

    parts : (b : Bool) {x y z : Bool} → x ≡ z → y ≡ not z → cond b x y ≡ cond b z (not z)
    parts true e f = e
    parts false e f = f

    before : (a x b : ℤ) → x <ℤ b → between a x b ≡ int_le a x
    before a x b l = grind (arith, ints)

    after : (a x b : ℤ) → a ≤ℤ x → between a x b ≡ not (int_le b x)
    after a x b l = grind (arith, ints)

    from_column : r.left ≤ℤ h → h <ℤ r.right → between column h r.right ≡ int_le column h
    from_column low high = before column h r.right high

    to_column : r.left ≤ℤ h → h <ℤ r.right → between r.left h column ≡ not (int_le column h)
    to_column low high = after r.left h column low

pub run_right : (r : Rect) (d : Point) (v column h : ℤ) (rises from : Bool) → r.top ≤ℤ v → v <ℤ r.bottom → IsTurn r d v column rises → beq rises from ≡ true
    → between column h r.right ≡ (rect_holds r (record { h = h; v = v }) && alike from (is_from d (seen r (record { h = h; v = v }))))
run_right r d v column h rises from top bottom t e =
    sym (ap (λ b. cond b (between column h r.right) (between r.left h column)) (sym (beq-alike rises from) ∙ e)) ∙ turned_run r d v column h rises from top bottom t

pub run_left : (r : Rect) (d : Point) (v column h : ℤ) (rises from : Bool) → r.top ≤ℤ v → v <ℤ r.bottom → IsTurn r d v column rises → beq rises from ≡ false
    → between r.left h column ≡ (rect_holds r (record { h = h; v = v }) && alike from (is_from d (seen r (record { h = h; v = v }))))
run_left r d v column h rises from top bottom t n =
    sym (ap (λ b. cond b (between column h r.right) (between r.left h column)) (sym (beq-alike rises from) ∙ n)) ∙ turned_run r d v column h rises from top bottom t
