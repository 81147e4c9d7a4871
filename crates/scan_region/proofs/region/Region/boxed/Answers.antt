use Rattle.std.proofs.Common.{sym, ap, ◌∙◌}
use Rattle.tb_geom.specs.Rects.{rect_holds}
use Rattle.region_bytes.specs.Points.{in_rows}
use Rattle.region_rows.specs.Seen.{seen_point}
use Rattle.scan_region.proofs.Boxes.{seen_box, box_in_range}
use Rattle.region_rows.proofs.Hulls.{held}
use Rattle.region_rows.proofs.Plane.{has_viewed}
use Rattle.scan_region.proofs.Opened.{opened}
use Rattle.scan_region.proofs.region.Region.boxed.Goals as goal

pub returns-clause-within : goal.returns-clause-within
returns-clause-within c = λ p h.
    let s = c.self.inside in
    let q = seen_point c.args.up p in
    let seen = rw c.rect-bounds.ensures at c.seen_rect.ensures in
    ap (λ r. rect_holds r p) seen ∙ seen_box c.args.up s.bounds p ∙ held s.rows.items s.bounds (opened _ _ c.self.invariant) q (sym (has_viewed s.rows.items c.args.self.now c.self.view_is (opened _ _ c.self.invariant).are_rows q.h q.v) ∙ h)

pub returns-clause-full : goal.returns-clause-full
returns-clause-full c = λ t p.
    let s = c.self.inside in
    let q = seen_point c.args.up p in
    let seen = rw c.rect-bounds.ensures at c.seen_rect.ensures in
    let rows = c.as_slice.ensures.value in
    has_viewed s.rows.items c.args.self.now c.self.view_is (opened _ _ c.self.invariant).are_rows q.h q.v ∙ ap (λ all. in_rows all q.h q.v) (sym rows)
    ∙ (rw c.rect-bounds.ensures at c.is_rect.ensures.pixels) t q.h q.v
    ∙ sym (seen_box c.args.up s.bounds p) ∙ ap (λ r. rect_holds r p) (sym seen)

pub seen_rect-requires : goal.seen_rect-requires
seen_rect-requires c = rw c.rect-bounds.ensures (box_in_range c.self.inside.rows.items c.self.inside.bounds (opened _ _ c.self.invariant))

pub is_rect-requires : goal.is_rect-requires
is_rect-requires c = rw c.as_slice.ensures.value (opened _ _ c.self.invariant).are_rows
