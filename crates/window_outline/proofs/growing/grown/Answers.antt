use Rattle.std.proofs.Common.{SFits, w32, rules, ap, ◌∙◌}
use Rattle.std.proofs.lemmas.Int.{to_z-of_z}
use Rattle.tb_geom.specs.Points.{minus}
use Rattle.def_iface.specs.Sizes.{is_size}
use Rattle.window_outline.specs.Outlining.{clamped}
use Rattle.window_outline.proofs.WayNumbers.{across, down, wide}
use Rattle.window_outline.proofs.WindowsRead.{size_within}
use Rattle.window_outline.proofs.growing.grown.Goals as goal

pub moved_number-requires-clause-number : goal.moved_number-requires-clause-number
moved_number-requires-clause-number c =
    let fits : SFits w32 c.args.size.width = search rules in simp to_z-of_z (wide c.args.size c.requires.size)

pub moved_number-requires-clause-from : goal.moved_number-requires-clause-from
moved_number-requires-clause-from c =
    let fits : SFits w32 c.args.from.h = search rules in simp to_z-of_z (across c.args.from c.requires.from)

pub moved_number-requires-clause-to : goal.moved_number-requires-clause-to
moved_number-requires-clause-to c =
    let fits : SFits w32 c.args.to.h = search rules in simp to_z-of_z (across c.args.to c.requires.to)

pub moved_number-requires-2-clause-from : goal.moved_number-requires-2-clause-from
moved_number-requires-2-clause-from c =
    let fits : SFits w32 c.args.from.v = search rules in simp to_z-of_z (down c.args.from c.requires.from)

pub moved_number-requires-2-clause-to : goal.moved_number-requires-2-clause-to
moved_number-requires-2-clause-to c =
    let fits : SFits w32 c.args.to.v = search rules in simp to_z-of_z (down c.args.to c.requires.to)

pub returns-clause-value : goal.returns-clause-value
returns-clause-value c =
    let width : SFits w32 c.args.size.width = search rules in
    let height : SFits w32 c.args.size.height = search rules in
    let from_h : SFits w32 c.args.from.h = search rules in
    let from_v : SFits w32 c.args.from.v = search rules in
    let to_h : SFits w32 c.args.to.h = search rules in
    let to_v : SFits w32 c.args.to.v = search rules in
    let least_width : SFits w32 c.args.limits.least.width = search rules in
    let least_height : SFits w32 c.args.limits.least.height = search rules in
    let most_width : SFits w32 c.args.limits.most.width = search rules in
    let most_height : SFits w32 c.args.limits.most.height = search rules in
    let first : SFits w32 c.moved_number.result = search rules in
    let second : SFits w32 c.moved_number-2.result = search rules in
    let third : SFits w32 c.clamped.result = search rules in
    let fourth : SFits w32 c.clamped-2.result = search rules in
    let wide_by = simp to_z-of_z at c.moved_number.ensures in
    let high_by = simp to_z-of_z at c.moved_number-2.ensures in
    let wide_is = simp to_z-of_z at c.clamped.ensures in
    let high_is = simp to_z-of_z at c.clamped-2.ensures in
    simp to_z-of_z (λ i. record {
      width = (wide_is ∙ ap (clamped c.args.limits.least.width c.args.limits.most.width) wide_by) i;
      height = (high_is ∙ ap (clamped c.args.limits.least.height c.args.limits.most.height) high_by) i;
    })

pub returns-clause-size : goal.returns-clause-size
returns-clause-size c = ap is_size (returns-clause-value c) ∙ size_within c.args.limits c.args.size (minus c.args.to c.args.from) c.requires.limits
