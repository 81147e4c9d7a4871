use Rattle.std.proofs.Common.{◌∙◌, ◌&&◌}
use Rattle.tb_geom.specs.Rects.{rect_holds}
use Rattle.list_view.specs.Views.{view_rect, whole_cell}
use Rattle.list_view.proofs.ViewLemmas.{common_is}
use Rattle.list_view.proofs.view.ListView.cell_rect.Goals as goal

pub returns-clause-sides : goal.returns-clause-sides
returns-clause-sides c =
    common_is (view_rect c.args.self) (whole_cell c.args.self c.args.cell) c.sect.result
    (λ p. c.sect.ensures.pixels p ∙ (λ i. rect_holds (c.rect.ensures.sides i) p && rect_holds (c.whole_cell.ensures i) p)) c.sect.ensures.none
