use Rattle.bit_blit.proofs.DrawsLemmas.{Draws-value}
use Rattle.draw_port.specs.Canvases.{canvas_point}
use Rattle.list_mgr.specs.Seen.{seen}
use Rattle.list_mgr.proofs.Drawn.{settled_there, shown_there, told_fits}
use Rattle.list_mgr.proofs.lists.Lists.draw_at.Goals as goal

pub paint_list-requires-clause-live : goal.paint_list-requires-clause-live
paint_list-requires-clause-live g c =
    (settled_there g.D.DrawnList.list_loan c.args.self.now.list.items.items c.args.at c.index-list.result.now c.requires.at c.index-list.ensures c.requires.settled).live

pub paint_list-requires-clause-told : goal.paint_list-requires-clause-told
paint_list-requires-clause-told g c =
    told_fits (seen g.D.DrawnList.list_loan c.index-list.result.now)
    (settled_there g.D.DrawnList.list_loan c.args.self.now.list.items.items c.args.at c.index-list.result.now c.requires.at c.index-list.ensures c.requires.settled)

pub returns-clause-drawn : goal.returns-clause-drawn
returns-clause-drawn g c =
    Draws-value _ _ _ _ _
    (λ p d. shown_there g.D.DrawnList.list_loan c.args.canvas.now.font.now c.args.self.now.list.items.items c.args.at c.index-list.result.now (canvas_point c.args.canvas.now p) c.requires.at c.index-list.ensures)
    c.paint_list.ensures.drawn
