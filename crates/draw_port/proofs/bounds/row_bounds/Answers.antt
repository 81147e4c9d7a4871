use Rattle.std.proofs.Common.{◌∙◌, ◌&&◌, ◌+ℤ◌, pos, ap}
use Rattle.tb_geom.specs.Rects.{between}
use Rattle.draw_port.proofs.PlacedLemmas.{one_row}
use Rattle.draw_port.proofs.bounds.row_bounds.Goals as goal

pub returns : goal.returns
returns c =
    let line = c.args.line in
    λ p near. c.rect_from.ensures p near ∙ ap (λ b. between line.start.h p.h (line.start.h +ℤ pos line.count) && b) (one_row p.v line.start.v)
