use Rattle.std.proofs.Common.{◌≡◌, rules, Some, refl, sym, ◌∙◌}
use Rattle.def_iface.specs.contracts.taken_control.TakenControlDefined.TheImpl as control
use Rattle.control_mgr.proofs.Disposed as ending
use Rattle.control_mgr.proofs.TakenOut.{found_again, layers_at, planned_at, spot_at}
use Rattle.control_mgr.proofs.ending.Controls+TakenControl.end_control.Goals as goal

pub unwrap-at-requires : goal.unwrap-at-requires
unwrap-at-requires g c =
    let is = found_again _ (control.loan-value g.dyn-1).it c.args.control c.args.windows.now c.args.self.now c.args.ending c.requires.ending c.find.result c.find.ensures.first in
    search (rules, is)

pub commit_layers-requires-clause-planned : goal.commit_layers-requires-clause-planned
commit_layers-requires-clause-planned g c part is =
    planned_at _ (control.loan-value g.dyn-1).it c.args.control c.args.windows.now c.args.self.now c.args.ending c.requires.ending c.requires.ending.at refl part is

pub commit_layers-requires-clause-whole : goal.commit_layers-requires-clause-whole
commit_layers-requires-clause-whole g c =
    ending.settled_left (control.loan-value g.dyn-1).it c.args.self.now c.unwrap-at.result _ c.remove-ended.ensures.items c.requires.whole.settled

pub put_away-requires-clause-live : goal.put_away-requires-clause-live
put_away-requires-clause-live g c =
    ending.ended_live (control.loan-value g.dyn-1).it c.args.self.now c.unwrap-at.result c.remove-ended.result c.remove-ended.ensures.value c.requires.whole.settled

pub put_away-requires-clause-left : goal.put_away-requires-clause-left
put_away-requires-clause-left g c =
    ending.ended_left (control.loan-value g.dyn-1).it c.args.self.now c.unwrap-at.result c.remove-ended.result _ c.remove-ended.ensures.value c.requires.whole.stocked

pub returns-clause-step : goal.returns-clause-step
returns-clause-step g c =
    let control_loan = (control.loan-value g.dyn-1).it in
    let is = found_again _ control_loan c.args.control c.args.windows.now c.args.self.now c.args.ending c.requires.ending c.find.result c.find.ensures.first in
    let at : Some c.requires.ending.at ≡ Some c.unwrap-at.result = sym is ∙ c.unwrap-at.ensures in
    ending.ended _ control_loan c.args.control c.args.windows.now c.args.self.now (record { window = c.args.ending.window; control = c.unwrap-at.result })
    (spot_at _ control_loan c.args.control c.args.windows.now c.args.self.now c.args.ending c.requires.ending c.unwrap-at.result at) c.requires.kept _ refl c.args.ending.layers
    (layers_at _ control_loan c.args.control c.args.windows.now c.args.self.now c.args.ending c.requires.ending c.unwrap-at.result at)
    c.commit_layers.new.self (record { alloc = c.args.self.now.alloc; list = c.remove-ended.new.self }) c.remove-ended.result
    c.remove-ended.ensures.value c.remove-ended.ensures.items c.remove-ended.ensures.next _ _ c.put_away.ensures c.commit_layers.ensures.set
