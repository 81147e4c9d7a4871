use Rattle.window_paint.proofs.PictureLemmas.{plus_is_near}
use Rattle.draw_port.specs.Canvases.{canvas_holds}
use Rattle.control_mgr.proofs.Drawn.{drawn_there, settled_there, told_fits}
use Rattle.control_mgr.proofs.controls.Controls.draw_at.Goals as goal

pub picture_place-requires-clause-origin : goal.picture_place-requires-clause-origin
picture_place-requires-clause-origin g c =
    (settled_there g.D.DrawnControl.control_loan c.args.self.now.list.items.items c.args.at c.index-control.result.now c.requires.at c.index-control.ensures c.requires.settled).placed

pub invariant_of-there : goal.invariant_of-there
invariant_of-there g c =
    let x = c.index-control.result.now in
    let settled = settled_there g.D.DrawnControl.control_loan c.args.self.now.list.items.items c.args.at x c.requires.at c.index-control.ensures c.requires.settled in
    record { near = rw c.picture_place.ensures (plus_is_near c.args.canvas.now.origin x.kept.place c.requires.origin settled.placed) }

pub draw_control-requires-clause-live : goal.draw_control-requires-clause-live
draw_control-requires-clause-live g c =
    (settled_there g.D.DrawnControl.control_loan c.args.self.now.list.items.items c.args.at c.index-control.result.now c.requires.at c.index-control.ensures c.requires.settled).live

pub draw_control-requires-clause-told : goal.draw_control-requires-clause-told
draw_control-requires-clause-told g c =
    told_fits g.D.DrawnControl.control_loan c.index-control.result.now
    (settled_there g.D.DrawnControl.control_loan c.args.self.now.list.items.items c.args.at c.index-control.result.now c.requires.at c.index-control.ensures c.requires.settled)

pub returns-clause-drawn : goal.returns-clause-drawn
returns-clause-drawn g c =
    drawn_there g.D.DrawnControl.control_loan (canvas_holds c.args.canvas.now) c.args.canvas.now.font.now c.args.self.now.list.items.items c.args.at c.index-control.result.now
    c.args.canvas.now.origin c.picture_place.result c.args.canvas.now.map.now c.draw_control.new.canvas.map.now c.requires.at c.index-control.ensures c.picture_place.ensures c.draw_control.ensures.drawn
