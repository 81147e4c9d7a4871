use Rattle.std.proofs.Common.{◌≡◌, ◌+◌, ◌++◌, ◌∷◌, [], take, ap, sym, ◌∙◌, arith}
use Rattle.std.proofs.lemmas.List.{take_more}
use Rattle.draw_port.proofs.CanvasLemmas.{SameFrame-then}
use Rattle.desk_ground.specs.Bars.{title_width}
use Rattle.desk_ground.proofs.BarLemmas.{columns, columns-more, titles-more, font_stays}
use Rattle.desk_ground.proofs.bar.draw_titles.Goals as goal

pub loop-title-preserved : goal.loop-title-preserved
loop-title-preserved c =
    let was = c.loop-title.invariant in
    let titles = c.args.titles.now in
    let k = c.loop-title.title-index in
    let one : take (k + 1) titles ≡ take k titles ++ c.title-item.result ∷ [] = take_more titles k c.title-item.result c.loop-title-test.true ∙ ap (λ x. take k titles ++ x ∷ []) (sym c.title-item.is) in
    let wide : c.title_width-width.result ≡ title_width c.args.canvas.now.font.now c.title-item.result = c.title_width-width.ensures.value ∙ font_stays _ _ c.title-item.result was.same_frame in
    record {
      same_map = c.draw_title.ensures.same_map ∙ was.same_map;
      same_frame = SameFrame-then _ _ _ was.same_frame c.draw_title.ensures.same_frame;
      left = (λ i. was.left i + wide i) ∙ sym (ap (columns c.args.canvas.now.font.now 10) one ∙ columns-more c.args.canvas.now.font.now 10 (take k titles) c.title-item.result);
      near = omega (arith, was.near, c.title_width-width.ensures.small);
      drawn = titles-more c.args.canvas.now c.loop-title.canvas titles k c.loop-title.left c.title_width-width.result c.title-item.result _ _ _ one was.left wide was.same_frame was.drawn c.draw_title.ensures.drawn;
    }
