use Rattle.std.proofs.Common.{SFits, w32, rules, arith}
use Rattle.std.proofs.lemmas.Int.{to_z-of_z}
use Rattle.std.proofs.lemmas.List.{drop_all}
use Rattle.tb_geom.specs.Rects.{empty_rect}
use Rattle.overlay.proofs.OutlineLemmas.{next_left, none_left}
use Rattle.overlay.proofs.outline.draw_outline.Goals as goal

pub loop-line-init : goal.loop-line-init
loop-line-init c =
    let fits : SFits w32 c.args.bar = search rules in
    simp to_z-of_z (record { apart = c.requires; rest = λ end drawn. drawn })

pub loop-line-preserved : goal.loop-line-preserved
loop-line-preserved c =
    let fits : SFits w32 c.args.bar = search rules in
    simp to_z-of_z
    (next_left c.args.bar c.args.lines.now c.loop-line.line-index empty_rect c.below.result c.args.map.now c.loop-line.map c.draw_line.new.map
    (omega arith) (simp to_z-of_z at c.below.ensures) (simp to_z-of_z at c.loop-line.invariant) c.draw_line.ensures)

pub returns : goal.returns
returns c =
    let fits : SFits w32 c.args.bar = search rules in
    none_left c.args.bar c.args.lines.now c.loop-line.line-index c.args.map.now c.loop-line.map
    (drop_all c.loop-line.line-index c.args.lines.now (omega arith)) (simp to_z-of_z at c.loop-line.invariant)
