use Rattle.std.proofs.Common.{◌≡◌, ◌-◌, ◌%◌, length, get_or, pos, SFits, w32, arith, rules}
use Rattle.std.proofs.lemmas.Int.{ints, to_z-of_z}
use Rattle.region_rows.proofs.Beside.{ends_before, begins_after, beside_none, even_halves}
use Rattle.region_rows.proofs.Climbs.{edges_of}
use Rattle.region_rows.proofs.merge.is_beside.Goals as goal

pub returns-then-last-left-clause-apart : goal.returns-then-last-left-clause-apart
returns-then-last-left-clause-apart c =
    let p = c.args.points.now in
    let q = c.args.other.now in
    let fits_p : SFits w32 (get_or p (length p - 1) (pos 0)) = search rules in
    let fits_q : SFits w32 (get_or q 0 (pos 0)) = search rules in
    λ t h. let order = simp to_z-of_z at t in ends_before p q h (edges_of p c.requires.points) c.requires.other c.requires.points.even (omega (arith, ints))

pub returns-then-right-first-clause-apart : goal.returns-then-right-first-clause-apart
returns-then-right-first-clause-apart c =
    let p = c.args.points.now in
    let q = c.args.other.now in
    let fits_p : SFits w32 (get_or p 0 (pos 0)) = search rules in
    let fits_q : SFits w32 (get_or q (length q - 1) (pos 0)) = search rules in
    let order = simp to_z-of_z at c.if-right-first.true in
    λ t h.
    let halves : length q % 2 ≡ 0 = search rules in
    begins_after p q h (edges_of p c.requires.points) c.requires.other (even_halves (length q) halves) (omega (arith, ints))

pub returns-in_default-empty-clause-apart : goal.returns-in_default-empty-clause-apart
returns-in_default-empty-clause-apart c = λ t h. beside_none c.args.points.now c.args.other.now h (search rules)

pub returns-in_default-empty-2-clause-apart : goal.returns-in_default-empty-2-clause-apart
returns-in_default-empty-2-clause-apart c = λ t h. beside_none c.args.points.now c.args.other.now h (search rules)
