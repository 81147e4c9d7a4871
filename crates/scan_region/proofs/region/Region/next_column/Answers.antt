use Rattle.std.proofs.Common.{◌≡◌, sym, subst, rules, SFits, w32, All}
use Rattle.std.proofs.lemmas.Int.{to_z-of_z}
use Rattle.region_bytes.specs.Points.{IsInRange, in_rows}
use Rattle.region_rows.specs.Columns.{seen_column}
use Rattle.region_rows.proofs.Plane.{has_viewed}
use Rattle.scan_region.proofs.Opened.{opened}
use Rattle.scan_region.proofs.SeenSteady.{seen_steady}
use Rattle.scan_region.proofs.region.Region.next_column.Goals as goal

pub next_column-requires-clause-in_range : goal.next_column-requires-clause-in_range
next_column-requires-clause-in_range c = subst (All IsInRange) (sym c.as_slice.ensures.value) (opened _ _ c.self.invariant).are_rows.in_range

pub returns-clause-steady : goal.returns-clause-steady
returns-clause-steady c =
    let fits_h = c.ranges.h in
    let fits_l = c.ranges.limit in
    let fits : SFits w32 c.next_column.result = search rules in
    let t = simp to_z-of_z at c.next_column.ensures.steady in
    simp to_z-of_z (λ x v a b. seen_steady c.args.up c.self.inside.rows.items c.args.self.now x c.args.h v
    (λ g w. has_viewed c.self.inside.rows.items c.args.self.now c.self.view_is (opened _ _ c.self.invariant).are_rows g w)
    (λ w. subst (λ rows. in_rows rows (seen_column c.args.up x) w ≡ in_rows rows (seen_column c.args.up c.args.h) w) c.as_slice.ensures.value (t x w a b)))
