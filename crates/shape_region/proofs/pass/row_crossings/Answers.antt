use Rattle.std.proofs.Common.{◌≡◌, true, false, length, rules}
use Rattle.std.proofs.lemmas.Int.{to_z-of_z}
use Rattle.region_rows.specs.Edges.{is_odd}
use Rattle.shape_region.specs.Polygons.{odd_edges}
use Rattle.shape_region.proofs.PolygonLemmas.{none_past}
use Rattle.shape_region.proofs.CrossLemmas.{even_pixels, even_row, odd_pixels, odd_row}
use Rattle.shape_region.proofs.pass.row_crossings.Goals as goal

pub returns-then-is_odd-clause-pixels : goal.returns-then-is_odd-clause-pixels
returns-then-is_odd-clause-pixels c =
    let fits_v = c.ranges.v in
    let xs = c.way_crossings.new.columns.items in
    let odd : is_odd (length xs) ≡ true = search rules in
    let pixels = simp to_z-of_z at c.way_crossings.ensures.pixels in
    rw c.push.ensures.items (odd_pixels xs (λ h. odd_edges c.args.first c.args.others.now c.args.first (record { h = h; v = c.args.v })) c.way_crossings.ensures.climb pixels
    (λ h l. none_past c.args.first c.args.others.now (record { h = h; v = c.args.v }) c.requires.first_in c.requires.others_in l) odd)

pub returns-then-is_odd-clause-row : goal.returns-then-is_odd-clause-row
returns-then-is_odd-clause-row c =
    let fits_v = c.ranges.v in
    let xs = c.way_crossings.new.columns.items in
    let odd : is_odd (length xs) ≡ true = search rules in
    let pixels = simp to_z-of_z at c.way_crossings.ensures.pixels in
    rw c.push.ensures.items (odd_row xs (λ h. odd_edges c.args.first c.args.others.now c.args.first (record { h = h; v = c.args.v })) c.way_crossings.ensures.climb pixels
    (λ h l. none_past c.args.first c.args.others.now (record { h = h; v = c.args.v }) c.requires.first_in c.requires.others_in l) odd)

pub returns-else-is_odd-clause-pixels : goal.returns-else-is_odd-clause-pixels
returns-else-is_odd-clause-pixels c =
    let fits_v = c.ranges.v in
    let xs = c.way_crossings.new.columns.items in
    let even : is_odd (length xs) ≡ false = search rules in
    let pixels = simp to_z-of_z at c.way_crossings.ensures.pixels in
    even_pixels xs (λ h. odd_edges c.args.first c.args.others.now c.args.first (record { h = h; v = c.args.v })) c.way_crossings.ensures.climb pixels
    (λ h l. none_past c.args.first c.args.others.now (record { h = h; v = c.args.v }) c.requires.first_in c.requires.others_in l) even

pub returns-else-is_odd-clause-row : goal.returns-else-is_odd-clause-row
returns-else-is_odd-clause-row c =
    let fits_v = c.ranges.v in
    let xs = c.way_crossings.new.columns.items in
    let even : is_odd (length xs) ≡ false = search rules in
    let pixels = simp to_z-of_z at c.way_crossings.ensures.pixels in
    even_row xs (λ h. odd_edges c.args.first c.args.others.now c.args.first (record { h = h; v = c.args.v })) c.way_crossings.ensures.climb pixels
    (λ h l. none_past c.args.first c.args.others.now (record { h = h; v = c.args.v }) c.requires.first_in c.requires.others_in l) even
