use Rattle.std.proofs.Common.{◌∙◌, ◌&&◌, ◌+ℤ◌, pos, ap}
use Rattle.tb_geom.specs.Rects.{between}
use Rattle.draw_port.proofs.PlacedLemmas.{one_row}
use Rattle.draw_port.proofs.bounds.column_bounds.Goals as goal

pub returns : goal.returns
returns c =
    let line = c.args.line in
    λ p near. c.rect_from.ensures p near ∙ ap (λ b. b && between line.start.v p.v (line.start.v +ℤ pos line.count)) (one_row p.h line.start.h)
