use Rattle.std.proofs.Common.{◌<ℤ◌, ◌≤ℤ◌, rules, SFits, w32, pos, ◌+ℤ◌}
use Rattle.std.proofs.lemmas.Int.{ints, to_z-of_z}
use Rattle.tb_geom.proofs.Steps.{fits_next}
use Rattle.scan_region.proofs.FullSpans.{next_full, no_full}
use Rattle.scan_region.proofs.span_rows.FullRows.next_span.Goals as goal

pub returns-then-self-v-clause-none : goal.returns-then-self-v-clause-none
returns-then-self-v-clause-none c =
    let r = c.args.self.now in
    let fits_n : SFits w32 r.next = search rules in
    let fits_b : SFits w32 r.bottom = search rules in
    let low : r.bottom ≤ℤ r.next = search (rules, ints) in
    let none = no_full r.next r.left r.right r.bottom low in
    (none, none)

pub returns-clause-some : goal.returns-clause-some
returns-clause-some c =
    let r = c.args.self.now in
    let fits_n : SFits w32 r.next = search rules in
    let fits_b : SFits w32 r.bottom = search rules in
    let fits_l : SFits w32 r.left = search rules in
    let fits_r : SFits w32 r.right = search rules in
    let more : r.next <ℤ r.bottom = search (rules, ints) in
    let fits_m : SFits w32 (r.next +ℤ pos 1) = fits_next r.next r.bottom fits_n fits_b more in
    simp to_z-of_z (next_full r.next r.left r.right r.bottom more (c.requires more))
