use Rattle.std.proofs.Common.{◌≡◌, rules, None, Some}
use Rattle.def_iface.specs.contracts.taken_control.TakenControlDefined.TheImpl as control
use Rattle.desk_layers.specs.declared.part.Part.TheVariants as part
use Rattle.window_list.specs.Holders.{layer_index}
use Rattle.control_mgr.proofs.LayerOut.{apart_out}
use Rattle.control_mgr.proofs.TakenOut.{ending_is, not_there, taken_out}
use Rattle.control_mgr.proofs.ending.Controls+TakenControl.plan_ending.Goals as goal

pub returns-in_default-clause-planned : goal.returns-in_default-clause-planned
returns-in_default-clause-planned g c u m ready =
    let none : layer_index (part.Control c.args.control.control) c.args.layers.now.layers ≡ None = search rules in
    not_there _ (control.loan-value g.dyn-1).it c.args.control c.args.window c.args.layers.now c.args.update.now c.args.windows.now u m ready none

pub plan_layers-requires-clause-apart : goal.plan_layers-requires-clause-apart
plan_layers-requires-clause-apart g c =
    apart_out c.args.layers.now c.in-Some.layer c.in-Some.ensures.within c.requires.apart c.in_ok-relaid.relaid.layers c.in_ok-relaid.ensures.layers

pub returns-clause-out : goal.returns-clause-out
returns-clause-out g c =
    let is : layer_index (part.Control c.args.control.control) c.args.layers.now.layers ≡ Some c.in-Some.layer = search rules in
    taken_out c.args.window c.args.control.control c.in-Some.layer c.args.layers.now c.in_ok-relaid.relaid.layers c.in_ok-relaying.relaying is c.in-Some.ensures.within c.requires.apart c.in_ok-relaid.ensures.layers

pub returns-clause-planned : goal.returns-clause-planned
returns-clause-planned g c u m ready =
    let is : layer_index (part.Control c.args.control.control) c.args.layers.now.layers ≡ Some c.in-Some.layer = search rules in
    ending_is _ (control.loan-value g.dyn-1).it c.args.control c.args.window c.args.layers.now c.args.update.now c.args.windows.now u m ready c.in-Some.layer is
    c.in_ok-relaid.relaid c.in_ok-relaid.ensures.layers c.in-Some.ensures.within c.requires.apart c.in_ok-relaid.ensures.gained c.in_ok-relaying.relaying c.in_ok-relaying.ensures
