use Rattle.def_iface.specs.contracts.taken_control.TakenControlDefined.TheImpl as control
use Rattle.control_mgr.proofs.Added as adding
use Rattle.control_mgr.proofs.making.Controls+TakenControl.grow.Goals as goal

pub shape_of-requires : goal.shape_of-requires
shape_of-requires g c = adding.grow_so c.args.new.now _ c.args.ticket c.args.layers.now c.requires.may

pub with-requires-clause-lies : goal.with-requires-clause-lies
with-requires-clause-lies g c = adding.own_lies c.args.new.now _ c.args.ticket c.args.layers.now c.requires.may c.in_ok-shape.shape c.in_ok-shape.ensures

pub plan_layers-requires-clause-apart : goal.plan_layers-requires-clause-apart
plan_layers-requires-clause-apart g c =
    adding.new_apart c.args.new.now _ c.args.ticket c.args.layers.now c.requires.may c.in_ok-shape.shape c.in_ok-shape.ensures c.in_ok-relaid.relaid c.in_ok-relaid.ensures.layers

pub plan_layers-requires-clause-afresh : goal.plan_layers-requires-clause-afresh
plan_layers-requires-clause-afresh g c =
    adding.new_low c.args.new.now _ c.args.ticket c.args.layers.now c.requires.may c.in_ok-shape.shape c.in_ok-shape.ensures c.in_ok-relaid.relaid c.in_ok-relaid.ensures.layers

pub returns-clause-grown : goal.returns-clause-grown
returns-clause-grown g c =
    adding.grown c.args.new.now _ c.args.ticket c.args.layers.now c.requires.may c.in_ok-shape.shape c.in_ok-shape.ensures c.in_ok-relaid.relaid c.in_ok-relaid.ensures.layers c.in_ok-relaying.relaying

pub returns-clause-planned : goal.returns-clause-planned
returns-clause-planned g c u m ready =
    adding.added_is c.args.new.now _ c.args.ticket c.args.layers.now c.requires.may c.in_ok-shape.shape c.in_ok-shape.ensures c.in_ok-relaid.relaid c.in_ok-relaid.ensures.layers
    _ (control.loan-value g.dyn-1).it c.args.update.now c.args.windows.now u m ready c.in_ok-relaid.ensures.gained c.in_ok-relaying.relaying c.in_ok-relaying.ensures
