use Rattle.std.proofs.Common.{◌≤◌, ◌-◌, ◌+ℤ◌, pos, arith, SFits, w32, rules}
use Rattle.std.proofs.lemmas.Int.{ints, to_z-of_z}
use Rattle.tb_geom.proofs.Steps.{fits_next}
use Rattle.region_rows.proofs.Counts.{count-is}
use Rattle.region_rows.proofs.LineTurns.{turn_from, cast_small, column_fits}
use Rattle.region_rows.proofs.line.Line.turn.Goals as goal

pub returns-clause-turn : goal.returns-clause-turn
returns-clause-turn c = λ f s.
    let l = c.args.self.now in
    let fits_l : SFits w32 l.left = search rules in
    let fits_at = c.ranges.at in
    let fits_limit = c.ranges.limit in
    let left = c.requires.left in
    let order = c.requires.order in
    let right = c.requires.right in
    let fits_1 : SFits w32 (c.args.at +ℤ pos 1) = fits_next c.args.at c.args.limit fits_at fits_limit order in
    let n = c.next_bit-found.result in
    let first = simp to_z-of_z at c.place.ensures in
    let last = simp to_z-of_z at c.place-2.ensures in
    let on = c.next_bit-found.ensures.on in
    let up = c.next_bit-found.ensures.up in
    let room = l.room in
    let all = count-is l.left l.right l.order in
    let a = first.column in
    let b = last.column in
    let from = first.value in
    let to = last.value in
    let low : l.base ≤ n = omega (arith, ints) in
    let small : n - l.base ≤ 8192 = omega (arith, ints) in
    let cast = cast_small (n - l.base) small in
    let fits : SFits w32 (l.left +ℤ pos (n - l.base)) = column_fits l.left c.args.limit (n - l.base) fits_l fits_limit (omega (arith, ints)) in
    rw cast (simp to_z-of_z (turn_from _ l f c.args.at c.args.limit (l.left +ℤ pos (n - l.base)) n left order right (omega (arith, ints)) (omega (arith, ints)) (omega (arith, ints)) (rw from at c.next_bit-found.ensures.none) (rw to at c.next_bit-found.ensures.here) s))
