use Rattle.std.proofs.Common.{refl, rules, ap, ◌∙◌}
use Rattle.looks.specs.Marks.{black_fill}
use Rattle.desk_ground.proofs.BarLemmas.{bar_drawn}
use Rattle.desk_ground.proofs.bar.draw_bar.Goals as goal

pub returns : goal.returns
returns c =
    let same = c.draw_look.ensures.same_frame in
    bar_drawn c.args.titles.now c.as_slice.result.now c.black_fill.result c.args.rows c.sides.result _ _ c.args.font c.draw_look.new.canvas c.args.map.now _ c.draw_titles.new.canvas.map.now _
    c.as_slice.ensures.same (c.black_fill.ensures ∙ ap black_fill c.sides-2.ensures) c.requires (search rules) (search rules) refl refl same.clip same.origin same.cut same.font
    c.draw_look.ensures.drawn c.draw_titles.ensures.drawn
