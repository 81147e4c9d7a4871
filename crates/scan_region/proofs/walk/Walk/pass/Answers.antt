use Rattle.std.proofs.Common.{◌≤ℤ◌, arith, rules, SFits, w32}
use Rattle.std.proofs.lemmas.Int.{ints, to_z-of_z}
use Rattle.scan_region.proofs.PartSteps.{ended}
use Rattle.scan_region.proofs.WalkSteps.{walk_of, sides_of}
use Rattle.scan_region.proofs.walk.Walk.pass.Goals as goal

pub returns-then-self-to-clause-walk : goal.returns-then-self-to-clause-walk
returns-then-self-to-clause-walk c =
    let w = c.args.self.now in
    let left = c.requires.sides.0 in
    let s = c.requires.sides.1 in
    let fits = c.ranges.to in
    let fits_right : SFits w32 c.args.self.now.right = search rules in
    let over : c.args.self.now.right ≤ℤ c.args.to = search (rules, ints) in
    simp to_z-of_z (λ t r. walk_of w _ t r
    (ended w.words w.first left w.right 0 s.after_first r.first_set w.v w.at c.args.to s.first over r.first)
    (ended w.words w.second left w.right s.after_first s.after_second r.second_set w.v w.at c.args.to s.second over r.second)
    (ended w.words w.third left w.right s.after_second s.after_third r.third_set w.v w.at c.args.to s.third over r.third)
    (ended w.words w.hole left w.right s.after_third 8192 r.hole_set w.v w.at c.args.to s.hole over r.hole))

pub returns-clause-walk : goal.returns-clause-walk
returns-clause-walk c =
    let w = c.args.self.now in
    let fits = c.ranges.to in
    let fits_v : SFits w32 c.args.self.now.v = search rules in
    let t = c.requires.turn in
    let p1 = simp to_z-of_z at c.pass.ensures.part in
    let p2 = simp to_z-of_z at c.pass-2.ensures.part in
    let p3 = simp to_z-of_z at c.pass-3.ensures.part in
    let p4 = simp to_z-of_z at c.pass-4.ensures.part in
    simp to_z-of_z (λ s r. walk_of w _ s r
    (p1 r.first_set w.at t.onward t.first r.first)
    (p2 r.second_set w.at t.onward t.second r.second)
    (p3 r.third_set w.at t.onward t.third r.third)
    (p4 r.hole_set w.at t.onward t.hole r.hole))

pub returns-clause-sides : goal.returns-clause-sides
returns-clause-sides c =
    let fits = c.ranges.to in
    let on = c.requires.turn.onward in
    simp to_z-of_z (λ left s.
    let begun = s.begun in
    sides_of c.args.self.now _ left _ s s.end (omega (arith, ints)) s.row (c.pass.ensures.fit left _ _ _ s.first) (c.pass-2.ensures.fit left _ _ _ s.second) (c.pass-3.ensures.fit left _ _ _ s.third) (c.pass-4.ensures.fit left _ _ _ s.hole))
