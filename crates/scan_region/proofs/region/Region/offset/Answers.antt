use Rattle.std.proofs.Common.{◌≡◌, ◌<◌, ◌∙◌, sym, ap, rules, length, true, false}
use Rattle.std.proofs.lemmas.Int.{to_z-of_z}
use Rattle.std.proofs.lemmas.Result.{err_from_is_err_and}
use Rattle.std.proofs.lemmas.List.{with_items_is, nil_from_length}
use Rattle.tb_geom.specs.declared.point.Point.{Point}
use Rattle.tb_geom.specs.Pixels.{holds, pixels_where}
use Rattle.tb_geom.specs.Rects.{is_in_range, moved_rect}
use Rattle.region_bytes.specs.Points.{in_rows}
use Rattle.region_rows.specs.Moves.{moved_rows}
use Rattle.region_rows.proofs.Plane.{no_pixel-viewed}
use Rattle.region_rows.proofs.MovedRows.{region_moved, holds-moved_rows, stays_in_range, leaves_range, none_leaves, none_moved}
use Rattle.scan_region.proofs.Opened.{opened, kept}
use Rattle.scan_region.proofs.region.Region.offset.Goals as goal

pub returns-then-is_empty-clause-moved : goal.returns-then-is_empty-clause-moved
returns-then-is_empty-clause-moved c =
    none_moved _ _ (no_pixel-viewed c.self.inside.rows.items _ (opened _ _ c.self.invariant).are_rows c.self.view_is (nil_from_length _ (search rules)))

pub returns-then-is_empty-clause-fits : goal.returns-then-is_empty-clause-fits
returns-then-is_empty-clause-fits c =
    none_leaves _ _ (no_pixel-viewed c.self.inside.rows.items _ (opened _ _ c.self.invariant).are_rows c.self.view_is (nil_from_length _ (search rules)))

pub move_rows-requires : goal.move_rows-requires
move_rows-requires c =
    let fits_h = c.ranges.dh in
    let fits_d = c.ranges.dv in
    let d : Point = record { h = c.args.dh; v = c.args.dv } in
    let some : 0 < length c.self.inside.rows.items = search rules in
    let stays : is_in_range (moved_rect c.self.inside.bounds c.args.dh c.args.dv) ≡ true = sym (simp (to_z-of_z, c.rect.ensures) at c.in_ok-offset.ensures.in_range) in
    simp (to_z-of_z, c.as_mut_slice.ensures.value) (region_moved c.self.inside.rows.items c.self.inside.bounds d (opened _ _ c.self.invariant) some stays).are_rows.in_range

pub returns-in_err-offset-clause-refused : goal.returns-in_err-offset-clause-refused
returns-in_err-offset-clause-refused c =
    let fits_h = c.ranges.dh in
    let fits_d = c.ranges.dv in
    let d : Point = record { h = c.args.dh; v = c.args.dv } in
    let some : 0 < length c.self.inside.rows.items = search rules in
    let leaves : is_in_range (moved_rect c.self.inside.bounds c.args.dh c.args.dv) ≡ false = sym (simp (to_z-of_z, c.rect.ensures) at c.in_err-offset.ensures.in_range) in
    let p = err_from_is_err_and c.from_residual.result c.from_residual.ensures.1 in
    rw (p.1, p.2) (c.in_err-offset.ensures.refused, leaves_range c.self.inside.rows.items c.self.inside.bounds d _ (opened _ _ c.self.invariant) c.self.view_is some leaves)

pub invariant_of-self : goal.invariant_of-self
invariant_of-self c =
    let fits_h = c.ranges.dh in
    let fits_d = c.ranges.dv in
    let d : Point = record { h = c.args.dh; v = c.args.dv } in
    let some : 0 < length c.self.inside.rows.items = search rules in
    let stays : is_in_range (moved_rect c.self.inside.bounds c.args.dh c.args.dv) ≡ true = sym (simp (to_z-of_z, c.rect.ensures) at c.in_ok-offset.ensures.in_range) in
    let sides = simp (to_z-of_z, c.rect.ensures) at c.in_ok-offset.ensures.sides in
    let long : length c.move_rows.new.rows ≡ c.self.inside.rows.len = c.move_rows.auto.rows ∙ c.as_mut_slice.ensures.len in
    let moved = simp to_z-of_z at c.move_rows.ensures in
    let rows = with_items_is c.self.inside.rows c.move_rows.new.rows long ∙ moved ∙ ap (λ r. moved_rows r d) c.as_mut_slice.ensures.value in
    kept _ _ (rw (c.of-self-inside.ensures, sides, rows) (region_moved c.self.inside.rows.items c.self.inside.bounds d (opened _ _ c.self.invariant) some stays))

pub returns-clause-moved : goal.returns-clause-moved
returns-clause-moved c =
    let fits_h = c.ranges.dh in
    let fits_d = c.ranges.dv in
    let d : Point = record { h = c.args.dh; v = c.args.dv } in
    let some : 0 < length c.self.inside.rows.items = search rules in
    let stays : is_in_range (moved_rect c.self.inside.bounds c.args.dh c.args.dv) ≡ true = sym (simp (to_z-of_z, c.rect.ensures) at c.in_ok-offset.ensures.in_range) in
    let long : length c.move_rows.new.rows ≡ c.self.inside.rows.len = c.move_rows.auto.rows ∙ c.as_mut_slice.ensures.len in
    let moved = simp to_z-of_z at c.move_rows.ensures in
    let rows = with_items_is c.self.inside.rows c.move_rows.new.rows long ∙ moved ∙ ap (λ r. moved_rows r d) c.as_mut_slice.ensures.value in
    λ p. ap (λ r. holds (pixels_where (in_rows r)) p) rows ∙ holds-moved_rows c.self.inside.rows.items d _ (opened _ _ c.self.invariant).are_rows c.self.view_is (region_moved c.self.inside.rows.items c.self.inside.bounds d (opened _ _ c.self.invariant) some stays).are_rows p

pub returns-clause-fits : goal.returns-clause-fits
returns-clause-fits c =
    let fits_h = c.ranges.dh in
    let fits_d = c.ranges.dv in
    let stays : is_in_range (moved_rect c.self.inside.bounds c.args.dh c.args.dv) ≡ true = sym (simp (to_z-of_z, c.rect.ensures) at c.in_ok-offset.ensures.in_range) in
    stays_in_range c.self.inside.rows.items c.self.inside.bounds (record { h = c.args.dh; v = c.args.dv }) _ (opened _ _ c.self.invariant) c.self.view_is stays
