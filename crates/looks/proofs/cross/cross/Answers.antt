use Rattle.std.proofs.Common.{refl, ap, pos, ◌+ℤ◌, ◌≤ℤ◌, ◌&&◌, ◌∙◌, arith}
use Rattle.std.proofs.lemmas.Int.{ints}
use Rattle.bit_blit.proofs.DrawsLemmas.{Draws-none, Draws-where}
use Rattle.draw_port.specs.Canvases.{canvas_holds, canvas_point}
use Rattle.draw_port.proofs.CanvasLemmas.{SameFrame-none, SameFrame-then}
use Rattle.looks.specs.Marks.{cross_holds}
use Rattle.looks.specs.Diagonals.{is_row, is_before}
use Rattle.looks.proofs.CrossLemmas.{black_more, rows_none, rows_more, rows_all, held_none}
use Rattle.looks.proofs.cross.cross.Goals as goal

pub loop-row-init : goal.loop-row-init
loop-row-init c = record {
  same_map = refl;
  same_frame = SameFrame-none _;
  drawn = Draws-none _ _ _ (λ p on. ap (λ x. canvas_holds c.args.canvas.now p && x) (rows_none c.args.rect (canvas_point c.args.canvas.now p)) ∙ held_none (canvas_holds c.args.canvas.now p));
}

pub loop-row-preserved : goal.loop-row-preserved
loop-row-preserved c =
    let was = c.loop-row.invariant in
    let rect = c.args.rect in
    record {
      same_map = c.cross_row.ensures.same_map ∙ was.same_map;
      same_frame = SameFrame-then _ _ _ was.same_frame c.cross_row.ensures.same_frame;
      drawn = black_more c.args.canvas.now c.loop-row.canvas (λ q. cross_holds rect q && is_before rect c.loop-row.row q) (λ q. is_row rect c.loop-row.row q && cross_holds rect q) _ _ _ _ was.same_frame (rows_more c.args.rect c.loop-row.row) was.drawn c.cross_row.ensures.drawn;
    }

pub returns-clause-drawn : goal.returns-clause-drawn
returns-clause-drawn c =
    let all = c.rows-row-end.ensures in
    let past = c.loop-row-test.false in
    let enough : c.args.rect.bottom ≤ℤ (c.args.rect.top +ℤ pos c.loop-row.row) = omega (arith, ints) in
    Draws-where _ _ _ _ _ (λ p on. ap (λ x. canvas_holds c.args.canvas.now p && x) (rows_all c.args.rect c.loop-row.row (canvas_point c.args.canvas.now p) enough)) c.loop-row.invariant.drawn
