use Rattle.std.proofs.Common.{pos, ◌-ℤ◌, sym, ◌∙◌}
use Rattle.std.proofs.lemmas.Int.{to_z-of_z}
use Rattle.pixel_rows.proofs.ChangeLemmas.{set_turns, set_within, steady_points}
use Rattle.region_inset.proofs.making.push_next.Goals as goal

pub returns-then-not-turns-clause-above : goal.returns-then-not-turns-clause-above
returns-then-not-turns-clause-above g c =
    let fits_v = c.ranges.v in
    let steady = simp to_z-of_z at (c.turns.ensures c.if-not-turns.true) in
    λ h. c.requires.above h ∙ sym (steady h)

pub returns-then-not-turns-clause-rows : goal.returns-then-not-turns-clause-rows
returns-then-not-turns-clause-rows g c =
    let fits_v = c.ranges.v in
    let steady = simp to_z-of_z at (c.turns.ensures c.if-not-turns.true) in
    steady_points (g.P.PixelRows.pixels c.args.set.now) c.args.rows.now.items c.args.v steady

pub push_changes-requires-clause-above : goal.push_changes-requires-clause-above
push_changes-requires-clause-above g c =
    set_within (g.P.PixelRows.pixels c.args.set.now) c.args.bounds (c.args.v -ℤ pos 1) c.args.above.now c.requires.bounds c.requires.above

pub push_changes-requires-clause-row : goal.push_changes-requires-clause-row
push_changes-requires-clause-row g c =
    let fits_v = c.ranges.v in
    let row = simp to_z-of_z at c.row-row.ensures in
    set_within (g.P.PixelRows.pixels c.args.set.now) c.args.bounds c.args.v c.row-row.result c.requires.bounds row

pub returns-clause-above : goal.returns-clause-above
returns-clause-above g c =
    let fits_v = c.ranges.v in
    simp to_z-of_z at c.row-row.ensures

pub returns-clause-rows : goal.returns-clause-rows
returns-clause-rows g c =
    let fits_v = c.ranges.v in
    let row = simp to_z-of_z at c.row-row.ensures in
    let pushed = simp to_z-of_z at c.in_ok-push_changes.ensures in
    set_turns (g.P.PixelRows.pixels c.args.set.now) c.args.above.now c.row-row.result c.args.rows.now.items c.push_changes.new.rows.items c.args.v c.requires.above row pushed
