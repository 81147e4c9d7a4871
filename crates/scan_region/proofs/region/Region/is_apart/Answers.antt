use Rattle.std.proofs.Common.{◌∙◌}
use Rattle.scan_region.proofs.Held.{in_box, not_both, in_both, box_of}
use Rattle.scan_region.proofs.Opened.{opened}
use Rattle.scan_region.proofs.region.Region.is_apart.Goals as goal

pub returns-clause-none : goal.returns-clause-none
returns-clause-none c = λ apart p.
    let a = c.self.inside in
    let b = c.other.inside in
    let shared = rw (c.rect.ensures, c.rect-2.ensures) at c.sect.ensures.pixels in
    not_both _ _ (λ m n. in_both a.bounds b.bounds c.sect.result p (shared p) (c.is_empty.ensures.pixels.0 apart p)
    (in_box a.rows.items a.bounds _ (opened _ _ c.self.invariant) c.self.view_is p m) (in_box b.rows.items b.bounds _ (opened _ _ c.other.invariant) c.other.view_is p n))

pub returns-clause-boxes : goal.returns-clause-boxes
returns-clause-boxes c = λ apart.
    let a = c.self.inside in
    let b = c.other.inside in
    let shared = rw (c.rect.ensures, c.rect-2.ensures) at c.sect.ensures.pixels in
    c.is_empty.ensures.pixels.1 (λ p. shared p ∙ apart a.bounds b.bounds (box_of a.rows.items a.bounds _ (opened _ _ c.self.invariant) c.self.view_is) (box_of b.rows.items b.bounds _ (opened _ _ c.other.invariant) c.other.view_is) p)
