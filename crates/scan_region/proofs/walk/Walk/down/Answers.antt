use Rattle.std.proofs.Common.{arith}
use Rattle.std.proofs.lemmas.Int.{ints, to_z-of_z}
use Rattle.scan_region.proofs.WalkSteps.{Goes, walk_of, sides_of, gone_first, gone_second, gone_third, gone_hole}
use Rattle.scan_region.proofs.walk.Walk.down.Goals as goal

pub returns-clause-walk : goal.returns-clause-walk
returns-clause-walk c =
    let w = c.args.self.now in
    let fits_v = c.ranges.v in
    let fits_left = c.ranges.left in
    let s = c.requires.sides in
    let d1 = simp to_z-of_z at c.down.ensures in
    let d2 = simp to_z-of_z at c.down-2.ensures in
    let d3 = simp to_z-of_z at c.down-3.ensures in
    let d4 = simp to_z-of_z at c.down-4.ensures in
    let g1 : Goes w.words c.down.new.words w.first c.down.new.self c.args.left w.right c.args.v 0 s.after_first = record { part_is = d1.part; apart = λ k o. d1.apart w.right 0 s.after_first k s.first o; before = s.first; fit = d1.fit w.right 0 s.after_first s.first } in
    let g2 : Goes c.down.new.words c.down-2.new.words w.second c.down-2.new.self c.args.left w.right c.args.v s.after_first s.after_second = record { part_is = d2.part; apart = λ k o. d2.apart w.right s.after_first s.after_second k s.second o; before = s.second; fit = d2.fit w.right s.after_first s.after_second s.second } in
    let g3 : Goes c.down-2.new.words c.down-3.new.words w.third c.down-3.new.self c.args.left w.right c.args.v s.after_second s.after_third = record { part_is = d3.part; apart = λ k o. d3.apart w.right s.after_second s.after_third k s.third o; before = s.third; fit = d3.fit w.right s.after_second s.after_third s.third } in
    let g4 : Goes c.down-3.new.words c.down-4.new.words w.hole c.down-4.new.self c.args.left w.right c.args.v s.after_third 8192 = record { part_is = d4.part; apart = λ k o. d4.apart w.right s.after_third 8192 k s.hole o; before = s.hole; fit = d4.fit w.right s.after_third 8192 s.hole } in
    let o = c.requires.order in
    simp to_z-of_z (λ t r. walk_of w _ t r
    (gone_first w _ _ _ _ _ _ _ _ c.args.left c.args.v s g1 g2 g3 g4 o r.first_set r.first)
    (gone_second w _ _ _ _ _ _ _ _ c.args.left c.args.v s g1 g2 g3 g4 o r.second_set r.second)
    (gone_third w _ _ _ _ _ _ _ _ c.args.left c.args.v s g1 g2 g3 g4 o r.third_set r.third)
    (gone_hole w _ _ _ _ _ _ _ _ c.args.left c.args.v s g1 g2 g3 g4 o r.hole_set r.hole))

pub down-requires-4-clause-fit : goal.down-requires-4-clause-fit
down-requires-4-clause-fit c =
    let s = c.requires.sides in
    let fits_left = c.ranges.left in
    simp to_z-of_z (_, s.after_third, 8192, s.hole)

pub returns-clause-sides : goal.returns-clause-sides
returns-clause-sides c =
    let s = c.requires.sides in
    let fits_v = c.ranges.v in
    let fits_left = c.ranges.left in
    let d1 = simp to_z-of_z at c.down.ensures.fit in
    let d2 = simp to_z-of_z at c.down-2.ensures.fit in
    let d3 = simp to_z-of_z at c.down-3.ensures.fit in
    let d4 = simp to_z-of_z at c.down-4.ensures.fit in
    simp to_z-of_z (sides_of c.args.self.now _ c.args.left _ s s.end (omega (arith, ints)) c.requires.row (d1 _ _ _ s.first) (d2 _ _ _ s.second) (d3 _ _ _ s.third) (d4 _ _ _ s.hole))
