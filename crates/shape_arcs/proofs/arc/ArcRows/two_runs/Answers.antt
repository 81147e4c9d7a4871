use Rattle.std.proofs.Common.{◌&&◌, not, true, false, pos, ◌+ℤ◌, sym, ap, ◌∙◌, rules, SFits, w16, w32}
use Rattle.std.specs.Prelude.{int_le}
use Rattle.std.proofs.lemmas.Int.{to_z-of_z}
use Rattle.shape_strips.specs.Rounds.{oval_holds}
use Rattle.shape_arcs.proofs.WedgeLemmas.{whole_arc, narrow_arc, broad_arc, sector_in}
use Rattle.shape_arcs.proofs.arc.ArcRows.two_runs.Goals as goal

pub returns-then-span-ge360-clause-pixels : goal.returns-then-span-ge360-clause-pixels
returns-then-span-ge360-clause-pixels c =
    let fits_v = c.ranges.v in
    let fits_start : SFits w16 c.args.self.now.start = search rules in
    let fits_angle : SFits w16 c.args.self.now.angle = search rules in
    let fits_s : SFits w32 c.clockwise-span.result.start = search rules in
    let fits_n : SFits w32 c.clockwise-span.result.angle = search rules in
    let span = simp to_z-of_z at c.clockwise-span.ensures in
    let oval = simp to_z-of_z at c.oval_run-oval.ensures.pixels in
    let whole = simp to_z-of_z at c.if-span-ge360.true in
    λ h. c.one.ensures.pixels h ∙ oval h ∙ whole_arc c.args.self.now.rect c.clockwise-span.result.start c.clockwise-span.result.angle (record { h = h; v = c.args.v }) whole
    ∙ ap (λ b. oval_holds c.args.self.now.rect (record { h = h; v = c.args.v }) && b) (span c.args.self.now.rect (record { h = h; v = c.args.v }))

pub returns-then-span-le180-clause-pixels : goal.returns-then-span-le180-clause-pixels
returns-then-span-le180-clause-pixels c =
    let fits_v = c.ranges.v in
    let fits_start : SFits w16 c.args.self.now.start = search rules in
    let fits_angle : SFits w16 c.args.self.now.angle = search rules in
    let fits_s : SFits w32 c.clockwise-span.result.start = search rules in
    let fits_n : SFits w32 c.clockwise-span.result.angle = search rules in
    let span = simp to_z-of_z at c.clockwise-span.ensures in
    let oval = simp to_z-of_z at c.oval_run-oval.ensures.pixels in
    let sector = simp to_z-of_z at c.sector_run-sector.ensures.pixels in
    let part = simp to_z-of_z at c.if-span-ge360.false in
    let narrow = simp to_z-of_z at c.if-span-le180.true in
    λ h. c.one-then-span-le180.ensures.pixels h ∙ sector h ∙ narrow_arc c.args.self.now.rect c.clockwise-span.result.start c.clockwise-span.result.angle (record { h = h; v = c.args.v }) part narrow
    ∙ ap (λ b. oval_holds c.args.self.now.rect (record { h = h; v = c.args.v }) && b) (span c.args.self.now.rect (record { h = h; v = c.args.v }))

pub around-requires-clause-within : goal.around-requires-clause-within
around-requires-clause-within c =
    let fits_v = c.ranges.v in
    let fits_start : SFits w16 c.args.self.now.start = search rules in
    let fits_angle : SFits w16 c.args.self.now.angle = search rules in
    let fits_s : SFits w32 c.clockwise-span.result.start = search rules in
    let fits_n : SFits w32 c.clockwise-span.result.angle = search rules in
    let span = simp to_z-of_z at c.clockwise-span.ensures in
    let oval = simp to_z-of_z at c.oval_run-oval.ensures.pixels in
    let sector = simp to_z-of_z at c.sector_run-sector.ensures.pixels in
    λ h e. oval h ∙ sector_in c.args.self.now.rect c.clockwise-span.result.start (c.clockwise-span.result.start +ℤ c.clockwise-span.result.angle) (int_le c.clockwise-span.result.angle (pos 180)) (record { h = h; v = c.args.v }) (sym (sector h) ∙ e)

pub returns-clause-pixels : goal.returns-clause-pixels
returns-clause-pixels c =
    let fits_v = c.ranges.v in
    let fits_start : SFits w16 c.args.self.now.start = search rules in
    let fits_angle : SFits w16 c.args.self.now.angle = search rules in
    let fits_s : SFits w32 c.clockwise-span.result.start = search rules in
    let fits_n : SFits w32 c.clockwise-span.result.angle = search rules in
    let span = simp to_z-of_z at c.clockwise-span.ensures in
    let oval = simp to_z-of_z at c.oval_run-oval.ensures.pixels in
    let sector = simp to_z-of_z at c.sector_run-sector.ensures.pixels in
    let part = simp to_z-of_z at c.if-span-ge360.false in
    let broad = simp to_z-of_z at c.if-span-le180.false in
    λ h. c.around.ensures.pixels h ∙ (λ i. oval h i && not (sector h i))
    ∙ broad_arc c.args.self.now.rect c.clockwise-span.result.start c.clockwise-span.result.angle (record { h = h; v = c.args.v }) part broad
    ∙ ap (λ b. oval_holds c.args.self.now.rect (record { h = h; v = c.args.v }) && b) (span c.args.self.now.rect (record { h = h; v = c.args.v }))
