use Rattle.std.proofs.Common.{◌∙◌, rules}
use Rattle.draw_port.proofs.CanvasLemmas.{SameFrame-then}
use Rattle.std_mldef.specs.Measures.{menu_size}
use Rattle.std_mldef.specs.Rows.{framed_bit}
use Rattle.std_mldef.proofs.RowLemmas.{rows-more}
use Rattle.std_mldef.proofs.rows.draw_menu.Goals as goal

pub loop-at-preserved : goal.loop-at-preserved
loop-at-preserved c =
    let was = c.loop-at.invariant in
    record {
      same_map = c.draw_item.ensures.same_map ∙ was.same_map;
      same_frame = SameFrame-then _ _ _ was.same_frame c.draw_item.ensures.same_frame;
      drawn = rows-more c.args.canvas.now c.loop-at.canvas c.args.menu.now c.args.lit c.loop-at.at c.index-items-at.result c.row_of.result c.is_bright.result c.is_lit.result (framed_bit c.args.canvas.now.font.now (menu_size c.args.canvas.now.font.now c.args.menu.now)) _ _ _ (search rules) (search rules) (search rules) c.is_bright.ensures c.is_lit.ensures was.same_frame was.drawn c.draw_item.ensures.drawn;
    }
