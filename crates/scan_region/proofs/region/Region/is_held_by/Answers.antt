use Rattle.std.proofs.Common.{◌≡◌, ◌≤ℤ◌, true, ◌∙◌, sym, rules}
use Rattle.std.proofs.lemmas.Int.{ints}
use Rattle.tb_geom.specs.Rects.{rect_holds}
use Rattle.tb_geom.proofs.RectLemmas.{is_around, sides_rise}
use Rattle.scan_region.proofs.UnitedBoxes.{not_empty}
use Rattle.scan_region.proofs.Held.{in_box, none_left, in_second, same_sides, same_rect, equal_sides, second_too, rows_of_rect, holds_box, shares_box}
use Rattle.region_rows.proofs.Plane.{has_viewed}
use Rattle.scan_region.proofs.Opened.{opened}
use Rattle.scan_region.proofs.region.Region.is_held_by.Goals as goal
use Rattle.scan_region.proofs.region.Region.is_held_by.Goals.{then-own-others-via-then-own-others, then-own-others-via-else-own-others+then-others-own}

pub returns-in-Some-clause-none : goal.returns-in-Some-clause-none
returns-in-Some-clause-none c = λ t p.
    let a = c.self.inside in
    let b = c.other.inside in
    let same : c.sect.result ≡ c.self.inside.bounds = same_sides _ _ (sym c.eq.ensures ∙ search rules) ∙ c.rect-own.ensures in
    let shared = rw c.rect-own.ensures at c.sect.ensures.pixels in
    let rect = rw c.as_slice.ensures.value at c.in-Some.ensures.pixels in
    none_left _ _ (λ m. has_viewed b.rows.items _ c.other.view_is (opened _ _ c.other.invariant).are_rows p.h p.v ∙ rect p.h p.v
    ∙ in_second a.bounds c.in-Some.rect c.sect.result p (shared p) same (in_box a.rows.items a.bounds _ (opened _ _ c.self.invariant) c.self.view_is p m))

pub rect_of-requires : goal.rect_of-requires
rect_of-requires c = rw c.as_slice.ensures.value (opened _ _ c.other.invariant).are_rows

pub returns-then-own-others-clause-held : goal.returns-then-own-others-clause-held
returns-then-own-others-clause-held c = λ r range all none q here.
    let a = c.self.inside in
    let b = c.other.inside in
    let own = opened _ _ c.self.invariant in
    let kept = opened _ _ c.other.invariant in
    let some = not_empty a.bounds q (in_box a.rows.items a.bounds _ own c.self.view_is q here) in
    let within = holds_box a.rows.items a.bounds b.bounds _ _ own c.self.view_is (in_box b.rows.items b.bounds _ kept c.other.view_is) none in
    let around = is_around a.bounds b.bounds (sides_rise a.bounds some) within in
    let left : c.rect-others.result.left ≤ℤ c.rect-own.result.left = rw (c.rect-own.ensures, c.rect-others.ensures) around.left in
    let right : c.rect-own.result.right ≤ℤ c.rect-others.result.right = rw (c.rect-own.ensures, c.rect-others.ensures) around.right in
    elim c.then-own-others.branch [
      | then-own-others-via-then-own-others w ↦ absurd (search (rules, ints))
      | then-own-others-via-else-own-others+then-others-own w ↦ absurd (search (rules, ints))
    ]

pub returns-in-None-clause-held : goal.returns-in-None-clause-held
returns-in-None-clause-held c = λ r range all none q here.
    let b = c.other.inside in
    let kept = opened _ _ c.other.invariant in
    let inside : rect_holds r q ≡ true = sym (all q) ∙ second_too _ _ (none q) here in
    let rows = rows_of_rect b.rows.items r _ kept.are_rows c.other.view_is range (not_empty r q inside) all in
    absurd (c.in-None.ensures.none r (c.as_slice.ensures.value ∙ rows))

pub returns-in-Some-clause-held : goal.returns-in-Some-clause-held
returns-in-Some-clause-held c = λ r range all none q here.
    let a = c.self.inside in
    let b = c.other.inside in
    let own = opened _ _ c.self.invariant in
    let kept = opened _ _ c.other.invariant in
    let inside : rect_holds r q ≡ true = sym (all q) ∙ second_too _ _ (none q) here in
    let rows = rows_of_rect b.rows.items r _ kept.are_rows c.other.view_is range (not_empty r q inside) all in
    let same = same_rect c.in-Some.rect r (sym (rw c.as_slice.ensures.value at c.in-Some.ensures.rows) ∙ rows) in
    let shared = rw (c.rect-own.ensures, same) at c.sect.ensures.pixels in
    let whole = shares_box a.bounds r c.sect.result q shared (holds_box a.rows.items a.bounds r _ _ own c.self.view_is (λ p m. sym (all p) ∙ m) none) (in_box a.rows.items a.bounds _ own c.self.view_is q here) in
    c.eq.ensures ∙ equal_sides _ _ (whole ∙ sym c.rect-own.ensures)
