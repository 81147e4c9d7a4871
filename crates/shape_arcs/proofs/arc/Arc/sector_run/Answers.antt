use Rattle.std.proofs.Common.{pos, ◌+ℤ◌, arith, rules, SFits, w32}
use Rattle.std.specs.Prelude.{int_le}
use Rattle.std.proofs.lemmas.Int.{ints, to_z-of_z}
use Rattle.shape_arcs.proofs.SectorLemmas.{no_sector}
use Rattle.shape_arcs.proofs.arc.Arc.sector_run.Goals as goal

pub placed_run-requires : goal.placed_run-requires
placed_run-requires c =
    let fits_start : SFits w32 c.args.span.start = search rules in
    let fits_angle : SFits w32 c.args.span.angle = search rules in
    let start_low = c.args.span.start_low in
    let start_high = c.args.span.start_high in
    let angle_low = c.args.span.angle_low in
    let angle_high = c.args.span.angle_high in
    let fits_end : SFits w32 (c.args.span.start +ℤ c.args.span.angle) = search (arith, ints) in
    simp to_z-of_z (record {
      in_range = c.args.self.now.in_range;
      around = λ p out. no_sector c.args.self.now.rect c.args.span.start (c.args.span.start +ℤ c.args.span.angle) (int_le c.args.span.angle (pos 180)) p out;
    })

pub returns-clause-pixels : goal.returns-clause-pixels
returns-clause-pixels c =
    let fits_start : SFits w32 c.args.span.start = search rules in
    let fits_angle : SFits w32 c.args.span.angle = search rules in
    let start_low = c.args.span.start_low in
    let start_high = c.args.span.start_high in
    let angle_low = c.args.span.angle_low in
    let angle_high = c.args.span.angle_high in
    let fits_end : SFits w32 (c.args.span.start +ℤ c.args.span.angle) = search (arith, ints) in
    let fits_v = c.ranges.v in
    simp to_z-of_z at c.placed_run.ensures.pixels
