use Rattle.std.proofs.Common.{pos, ◌-ℤ◌, sym, ◌∙◌}
use Rattle.std.proofs.lemmas.Int.{to_z-of_z}
use Rattle.pixel_rows.proofs.ChangeLemmas.{set_turns, set_within, steady_points}
use Rattle.pixel_rows.proofs.pixel_rows.write_next.Goals as goal

pub returns-then-not-turns-clause-above : goal.returns-then-not-turns-clause-above
returns-then-not-turns-clause-above g c =
    let fits_v = c.ranges.v in
    let steady = simp to_z-of_z at (c.turns.ensures c.if-not-turns.true) in
    λ h. c.requires.above h ∙ sym (steady h)

pub returns-then-not-turns-clause-rows : goal.returns-then-not-turns-clause-rows
returns-then-not-turns-clause-rows g c =
    let fits_v = c.ranges.v in
    let steady = simp to_z-of_z at (c.turns.ensures c.if-not-turns.true) in
    λ rows s. (rows, steady_points (g.P.PixelRows.pixels c.args.set.now) rows c.args.v steady, s)

pub write_changes-requires-clause-above : goal.write_changes-requires-clause-above
write_changes-requires-clause-above g c =
    set_within (g.P.PixelRows.pixels c.args.set.now) c.args.bounds (c.args.v -ℤ pos 1) c.args.above.now c.requires.bounds c.requires.above

pub returns-clause-above : goal.returns-clause-above
returns-clause-above g c =
    let fits_v = c.ranges.v in
    simp to_z-of_z at c.row-row.ensures

pub returns-clause-rows : goal.returns-clause-rows
returns-clause-rows g c =
    let fits_v = c.ranges.v in
    let row = simp to_z-of_z at c.row-row.ensures in
    let written = simp to_z-of_z at c.write_changes.ensures in
    λ rows s.
    let more = written rows s in
    (more.0, set_turns (g.P.PixelRows.pixels c.args.set.now) c.args.above.now c.row-row.result rows more.0 c.args.v c.requires.above row more.1, more.2)
