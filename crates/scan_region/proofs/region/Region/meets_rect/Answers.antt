use Rattle.std.proofs.Common.{◌&&◌, refl, sym, ap, ◌∙◌}
use Rattle.std.proofs.lemmas.Bool.{and_parts, false≢true}
use Rattle.tb_geom.specs.declared.point.Point.{Point}
use Rattle.tb_geom.specs.Rects.{rect_holds}
use Rattle.tb_geom.proofs.RectLemmas.{sides_rise}
use Rattle.region_bytes.specs.Points.{in_rows}
use Rattle.scan_region.proofs.Boxes.{first_pixel}
use Rattle.region_rows.proofs.Hulls.{held}
use Rattle.region_rows.proofs.Plane.{has_viewed}
use Rattle.scan_region.proofs.Opened.{opened}
use Rattle.scan_region.proofs.region.Region.meets_rect.Goals as goal

pub meets_rows-requires-clause-rows : goal.meets_rows-requires-clause-rows
meets_rows-requires-clause-rows c = rw c.as_slice-2.ensures.value (opened _ _ c.self.invariant).are_rows

pub meets_rows-requires-clause-across : goal.meets_rows-requires-clause-across
meets_rows-requires-clause-across c = (sides_rise c.sect-area.result (sym c.is_empty.ensures.sides ∙ c.if-is_empty.false)).across

pub meets_rows-requires-clause-down : goal.meets_rows-requires-clause-down
meets_rows-requires-clause-down c = (sides_rise c.sect-area.result (sym c.is_empty.ensures.sides ∙ c.if-is_empty.false)).down

pub returns-in-Some : goal.returns-in-Some
returns-in-Some c =
    let s = c.self.inside in
    let r = (opened _ _ c.self.invariant).are_rows in
    let shared = rw c.rect-bounds.ensures at c.sect-area.ensures.pixels in
    let told = rw c.as_slice-2.ensures.value at c.in-Some.ensures in (
      λ t.
          let m = told.0 t in
          let p = m.0 in
          (p, has_viewed s.rows.items c.args.self.now c.self.view_is r p.h p.v ∙ m.1, (and_parts (rect_holds s.bounds p) (rect_holds c.args.rect p) (sym (shared p) ∙ m.2)).1),
      λ m.
          let p = m.0 in
          let here = sym (has_viewed s.rows.items c.args.self.now c.self.view_is r p.h p.v) ∙ m.1 in
          let within = held s.rows.items s.bounds (opened _ _ c.self.invariant) p here in
          told.1 (p, here, shared p ∙ (λ i. within i && m.2 i)),
    )

pub returns : goal.returns
returns c =
    let s = c.self.inside in
    let shared = rw c.rect-bounds.ensures at c.sect-area.ensures.pixels in
    let told = c.walk_meets.ensures in (
      λ t.
          let m = told.0 t in
          (m.0, m.2, (and_parts (rect_holds s.bounds m.0) (rect_holds c.args.rect m.0) (sym (shared m.0) ∙ m.1)).1),
      λ m.
          let p = m.0 in
          let here = sym (has_viewed s.rows.items c.args.self.now c.self.view_is (opened _ _ c.self.invariant).are_rows p.h p.v) ∙ m.1 in
          let within = held s.rows.items s.bounds (opened _ _ c.self.invariant) p here in
          told.1 (p, shared p ∙ (λ i. within i && m.2 i), m.1),
    )

pub returns-then-is_empty : goal.returns-then-is_empty
returns-then-is_empty c =
    let s = c.self.inside in (
      λ t. absurd (false≢true t),
      λ m.
          let p = m.0 in
          let within = held s.rows.items s.bounds (opened _ _ c.self.invariant) p (sym (has_viewed s.rows.items c.args.self.now c.self.view_is (opened _ _ c.self.invariant).are_rows p.h p.v) ∙ m.1) in
          absurd (false≢true (sym (c.is_empty.ensures.pixels.0 c.if-is_empty.true p) ∙ (rw c.rect-bounds.ensures at c.sect-area.ensures.pixels) p ∙ (λ i. within i && m.2 i))),
    )

pub returns-then-is_rect : goal.returns-then-is_rect
returns-then-is_rect c =
    let s = c.self.inside in
    let area = c.sect-area.result in
    let p : Point = record { h = area.left; v = area.top } in
    let parts = and_parts (rect_holds s.bounds p) (rect_holds c.args.rect p) (sym ((rw c.rect-bounds.ensures at c.sect-area.ensures.pixels) p) ∙ first_pixel area (sym c.is_empty.ensures.sides ∙ c.if-is_empty.false)) in
    let rows = c.as_slice.ensures.value in (
      λ t. (
        p,
        has_viewed s.rows.items c.args.self.now c.self.view_is (opened _ _ c.self.invariant).are_rows p.h p.v ∙ ap (λ all. in_rows all p.h p.v) (sym rows)
            ∙ (rw c.rect-bounds.ensures at c.is_rect.ensures.pixels) c.if-is_rect.true p.h p.v ∙ parts.0,
        parts.1,
      ),
      λ m. refl,
    )

pub is_rect-requires : goal.is_rect-requires
is_rect-requires c = rw c.as_slice.ensures.value (opened _ _ c.self.invariant).are_rows
