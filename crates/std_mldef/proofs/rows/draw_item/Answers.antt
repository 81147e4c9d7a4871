use Rattle.std.proofs.Common.{◌&&◌, sym, ap, ◌∙◌}
use Rattle.tb_geom.specs.declared.rect.Rect.{Rect}
use Rattle.tb_geom.specs.Rects.{rect_holds}
use Rattle.draw_port.specs.Canvases.{canvas_point}
use Rattle.std_mldef.proofs.IdleLemmas.{drawn_already}
use Rattle.std_mldef.proofs.rows.draw_item.Goals as goal

pub returns-then-is_empty-clause-drawn : goal.returns-then-is_empty-clause-drawn
returns-then-is_empty-clause-drawn c =
    let canvas = c.args.canvas.now in
    drawn_already canvas c.args.row c.args.item.now c.args.bright c.args.lit
    (λ p. ap (λ (r : Rect). rect_holds canvas.clip p && rect_holds r (canvas_point canvas p)) (sym c.row_box.ensures) ∙ sym (c.placed_within.ensures p)
    ∙ c.is_empty.ensures.pixels.0 c.if-is_empty.true p)
