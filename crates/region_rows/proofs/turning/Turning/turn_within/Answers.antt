use Rattle.std.proofs.Common.{◌≡◌, ◌<◌, length, get_or, pos, negsuc, not, SFits, w32, arith, rules, sym, ap, ◌∙◌}
use Rattle.std.proofs.lemmas.Int.{to_z-of_z}
use Rattle.region_rows.specs.Edges.{differ, inside}
use Rattle.region_rows.proofs.Climbs.{rising_from}
use Rattle.region_rows.proofs.Gaps.{is_coordinate, two_columns, turned_edges, turned_pixels}
use Rattle.region_rows.proofs.turning.Turning.turn_within.Goals as goal

pub gap_of-requires-clause-order : goal.gap_of-requires-clause-order
gap_of-requires-clause-order c =
    let fits_l : SFits w32 (get_or c.args.columns.now 0 (pos 0)) = search rules in
    let fits_r : SFits w32 (get_or c.args.columns.now 1 (pos 0)) = search rules in
    let two : 1 < length c.args.columns.now = search rules in
    simp to_z-of_z ((rising_from (negsuc 16384) c.args.columns.now (pos 16383) c.requires.columns).rises 0 1 (omega arith) two)

pub returns-in-Some-clause-pixels : goal.returns-in-Some-clause-pixels
returns-in-Some-clause-pixels c =
    let edges = c.args.self.now.edges.items in
    let columns = c.args.columns.now in
    let left = get_or columns 0 (pos 0) in
    let right = get_or columns 1 (pos 0) in
    let fits_l : SFits w32 left = search rules in
    let fits_r : SFits w32 right = search rules in
    let two : length columns ≡ 2 = search rules in
    let gap = simp (to_z-of_z, c.as_slice.ensures.value) at c.in-Some.ensures.gap in
    let turned = simp to_z-of_z at c.in_ok-turn_gap.ensures in
    rw turned (λ h. turned_pixels edges left right c.in-Some.gap h gap ∙ ap (λ xs. differ (inside edges h) (inside xs h)) (sym (two_columns columns two)))

pub returns-in-Some-clause-edges : goal.returns-in-Some-clause-edges
returns-in-Some-clause-edges c =
    let edges = c.args.self.now.edges.items in
    let columns = c.args.columns.now in
    let left = get_or columns 0 (pos 0) in
    let right = get_or columns 1 (pos 0) in
    let fits_l : SFits w32 left = search rules in
    let fits_r : SFits w32 right = search rules in
    let one : 0 < length columns = search rules in
    let two : 1 < length columns = search rules in
    let order = (rising_from (negsuc 16384) columns (pos 16383) c.requires.columns).rises 0 1 (omega arith) two in
    let gap = simp (to_z-of_z, c.as_slice.ensures.value) at c.in-Some.ensures.gap in
    let turned = simp to_z-of_z at c.in_ok-turn_gap.ensures in
    rw turned (turned_edges edges left right c.in-Some.gap (not c.in-Some.gap.begins) (not c.in-Some.gap.ends) c.requires.edges (is_coordinate columns 0 c.requires.columns one) (is_coordinate columns 1 c.requires.columns two) order gap)
