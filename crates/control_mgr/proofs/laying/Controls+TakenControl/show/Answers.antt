use Rattle.control_mgr.proofs.Moves.{may_stay, show_step, shown_agrees}
use Rattle.control_mgr.proofs.laying.Controls+TakenControl.show.Goals as goal

pub lay-requires-clause-may : goal.lay-requires-clause-may
lay-requires-clause-may g c =
    may_stay _ _ c.args.control c.args.windows.now c.args.self.now c.in_ok-spot.spot c.in_ok-spot.ensures c.requires.kept c.requires.beside c.lie.result c.lie.ensures c.args.shown

pub returns : goal.returns
returns g c o =
    let spot = c.in_ok-spot.spot in
    let is = c.in_ok-spot.ensures in
    show_step _ _ c.args.control c.args.windows.now c.args.self.now spot is c.args.shown _ c.lay.result c.lay.new.windows c.lay.new.self o
    (shown_agrees _ _ c.args.control c.args.windows.now c.args.self.now spot is c.lie.result c.args.shown c.lie.ensures)
    (c.lay.ensures c.args.control is o)
