use Rattle.std.proofs.Common.{ap, rules, SFits, w32}
use Rattle.std.proofs.lemmas.Int.{to_z-of_z}
use Rattle.tb_geom.specs.declared.rect.Rect.{Rect}
use Rattle.bit_blit.proofs.DrawsLemmas.{Draws-once}
use Rattle.desk_ground.proofs.GroundLemmas.{empty_painted}
use Rattle.desk_ground.proofs.ground.paint_empty.Goals as goal

pub returns : goal.returns
returns c =
    let bar : SFits w32 c.args.bar = search rules in
    let right : SFits w32 c.bounds.result.right = search rules in
    let row = simp to_z-of_z at c.last_row-last_row.ensures in
    empty_painted c.args.bar c.bounds.result.right _ c.args.gray.now c.args.screen.now c.fill.new.map c.draw_rect.new.map (ap (λ (r : Rect). r.right) c.bounds.ensures.sides) row (Draws-once _ _ _ _ c.fill.ensures) (Draws-once _ _ _ _ c.draw_rect.ensures)
