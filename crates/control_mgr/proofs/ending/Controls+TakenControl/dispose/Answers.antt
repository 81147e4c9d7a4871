use Rattle.std.proofs.Common.{false, rules}
use Rattle.def_iface.specs.contracts.taken_control.TakenControlDefined.TheImpl as control
use Rattle.window_mgr.specs.Edits.{IsWindowAt}
use Rattle.window_mgr.proofs.Contents.{layers_apart}
use Rattle.window_mgr.proofs.Remarked.{area_there}
use Rattle.control_mgr.proofs.Disposed.{disposed_step}
use Rattle.control_mgr.proofs.Planned.{ending_now}
use Rattle.control_mgr.proofs.ending.Controls+TakenControl.dispose.Goals as goal

pub area-requires : goal.area-requires
area-requires g c = area_there _ c.args.windows.now c.requires.kept c.in_ok-spot.spot.window c.in_ok-spot.ensures.window.0

pub plan_ending-requires-clause-apart : goal.plan_ending-requires-clause-apart
plan_ending-requires-clause-apart g c =
    let lies : IsWindowAt c.args.windows.now.windows.records.items c.in_ok-spot.spot.window c.at.result.now = search rules in
    layers_apart _ c.args.windows.now c.requires.kept.slots c.requires.kept.whole c.in_ok-spot.spot.window c.in_ok-spot.ensures.window.0 c.at.result.now lies (λ font q p. false)

pub end_planned-requires-clause-planned : goal.end_planned-requires-clause-planned
end_planned-requires-clause-planned g c =
    let lies : IsWindowAt c.args.windows.now.windows.records.items c.in_ok-spot.spot.window c.at.result.now = search rules in
    c.in_ok-planned.ensures.planned c.args.windows.now c.args.self.now
    (ending_now _ (control.loan-value g.dyn-1).it c.args.control c.args.windows.now c.args.self.now c.in_ok-spot.spot c.requires.kept _ c.requires.whole c.in_ok-spot.ensures c.at.result.now lies c.area.result.now c.area.ensures)

pub returns : goal.returns
returns g c =
    disposed_step _ (control.loan-value g.dyn-1).it c.args.control c.args.windows.now c.args.self.now c.in_ok-spot.spot c.in_ok-spot.ensures c.end_planned.new.windows c.end_planned.new.self _ _ c.end_planned.ensures.step
