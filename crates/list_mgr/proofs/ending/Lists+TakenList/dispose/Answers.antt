use Rattle.std.proofs.Common.{◌≡◌, rules, ap}
use Rattle.def_iface.specs.contracts.taken_control.TakenControlDefined.TheImpl as control
use Rattle.def_iface.specs.contracts.taken_list.TakenListDefined.TheImpl as list
use Rattle.list_mgr.specs.declared.list_record.ListRecord.{ListRecord}
use Rattle.window_mgr.specs.Edits.{IsWindowAt}
use Rattle.window_mgr.proofs.Remarked.{area_there}
use Rattle.control_mgr.proofs.Lays.{one_item}
use Rattle.control_mgr.proofs.Places.{read_is}
use Rattle.list_mgr.specs.BarEnds.{bar_serial}
use Rattle.list_mgr.proofs.ListsDisposed.{controls_first, controls_second, disposed, first_apart, kept_first, kept_second, may_first, next_apart, planned_first, ready_first, ready_second, relaid_apart}
use Rattle.list_mgr.proofs.ListsEnded.{ended_left, ended_live, settled_left}
use Rattle.list_mgr.proofs.ending.Lists+TakenList.dispose.Goals as goal
use Rattle.window_items.specs.declared.item.Item.{Item}

pub without-requires-clause-apart : goal.without-requires-clause-apart
without-requires-clause-apart g c =
    let list_loan = (list.loan-value g.dyn-1).it in
    let control_loan = (control.loan-value g.dyn-2).it in
    let l = c.args.list in
    let t = c.args.windows.now in
    let m = c.args.self.now in
    let s = c.in_ok-spot.spot in
    let is = c.in_ok-spot.ensures in
    let w = c.at.result.now in
    let lies : IsWindowAt t.windows.records.items s.window w = search rules in
    let its = c.layer-layer.ensures w lies in
    first_apart _ list_loan control_loan l t m s is c.requires.kept w lies c.layer-layer.result its

pub area-requires : goal.area-requires
area-requires g c = area_there _ c.args.windows.now c.requires.kept c.in_ok-spot.spot.window c.in_ok-spot.ensures.window.0

pub plan_layers-requires-clause-apart : goal.plan_layers-requires-clause-apart
plan_layers-requires-clause-apart g c =
    let list_loan = (list.loan-value g.dyn-1).it in
    let control_loan = (control.loan-value g.dyn-2).it in
    let l = c.args.list in
    let t = c.args.windows.now in
    let m = c.args.self.now in
    let s = c.in_ok-spot.spot in
    let is = c.in_ok-spot.ensures in
    let w = c.at.result.now in
    let lies : IsWindowAt t.windows.records.items s.window w = search rules in
    let its = c.layer-layer.ensures w lies in
    relaid_apart _ list_loan control_loan l t m s is c.requires.kept w lies c.layer-layer.result its
    c.in_ok-relaid.relaid c.in_ok-relaid.ensures.layers

pub plan_bar-requires-clause-apart : goal.plan_bar-requires-clause-apart
plan_bar-requires-clause-apart g c =
    let list_loan = (list.loan-value g.dyn-1).it in
    let control_loan = (control.loan-value g.dyn-2).it in
    let l = c.args.list in
    let t = c.args.windows.now in
    let m = c.args.self.now in
    let s = c.in_ok-spot.spot in
    let is = c.in_ok-spot.ensures in
    let w = c.at.result.now in
    let lies : IsWindowAt t.windows.records.items s.window w = search rules in
    let its = c.layer-layer.ensures w lies in
    relaid_apart _ list_loan control_loan l t m s is c.requires.kept w lies c.layer-layer.result its
    c.in_ok-relaid.relaid c.in_ok-relaid.ensures.layers

pub plan_bar-requires-2-clause-apart : goal.plan_bar-requires-2-clause-apart
plan_bar-requires-2-clause-apart g c =
    let list_loan = (list.loan-value g.dyn-1).it in
    let control_loan = (control.loan-value g.dyn-2).it in
    let l = c.args.list in
    let t = c.args.windows.now in
    let m = c.args.self.now in
    let s = c.in_ok-spot.spot in
    let is = c.in_ok-spot.ensures in
    let w = c.at.result.now in
    let lies : IsWindowAt t.windows.records.items s.window w = search rules in
    let its = c.layer-layer.ensures w lies in
    next_apart _ list_loan control_loan l t m s is c.requires.kept w lies c.layer-layer.result its
    c.in_ok-relaid.relaid c.in_ok-relaid.ensures.layers (bar_serial c.index-list.result.now.kept.vertical) c.in_ok-one.one c.in_ok-one.ensures.out c.layers_left-layers.result.now c.layers_left-layers.ensures

pub commit_layers-requires-clause-may : goal.commit_layers-requires-clause-may
commit_layers-requires-clause-may g c =
    let list_loan = (list.loan-value g.dyn-1).it in
    let control_loan = (control.loan-value g.dyn-2).it in
    let l = c.args.list in
    let t = c.args.windows.now in
    let m = c.args.self.now in
    let s = c.in_ok-spot.spot in
    let is = c.in_ok-spot.ensures in
    let w = c.at.result.now in
    let lies : IsWindowAt t.windows.records.items s.window w = search rules in
    let its = c.layer-layer.ensures w lies in
    may_first _ list_loan control_loan l t m s is c.requires.kept w lies c.layer-layer.result its
    c.in_ok-relaid.relaid c.in_ok-relaid.ensures.layers c.area.result.now c.area.ensures

pub commit_layers-requires-clause-planned : goal.commit_layers-requires-clause-planned
commit_layers-requires-clause-planned g c =
    let list_loan = (list.loan-value g.dyn-1).it in
    let control_loan = (control.loan-value g.dyn-2).it in
    let l = c.args.list in
    let t = c.args.windows.now in
    let m = c.args.self.now in
    let s = c.in_ok-spot.spot in
    let is = c.in_ok-spot.ensures in
    let w = c.at.result.now in
    let lies : IsWindowAt t.windows.records.items s.window w = search rules in
    let its = c.layer-layer.ensures w lies in
    planned_first _ list_loan control_loan l t m s is c.requires.kept w lies c.layer-layer.result its
    c.in_ok-relaid.relaid c.in_ok-relaid.ensures.layers c.area.result.now c.area.ensures c.in_ok-relaid.ensures.gained c.in_ok-relaying.relaying c.in_ok-relaying.ensures

pub commit_layers-requires-clause-whole : goal.commit_layers-requires-clause-whole
commit_layers-requires-clause-whole g c = settled_left (list.loan-value g.dyn-1).it c.args.self.now c.in_ok-spot.spot.list c.remove-ended.new.self.items.items c.remove-ended.ensures.items c.requires.lists.settled

pub put_away-requires-clause-live : goal.put_away-requires-clause-live
put_away-requires-clause-live g c = ended_live (list.loan-value g.dyn-1).it c.args.self.now c.in_ok-spot.spot.list c.remove-ended.result c.remove-ended.ensures.value c.requires.lists.settled

pub put_away-requires-clause-left : goal.put_away-requires-clause-left
put_away-requires-clause-left g c = ended_left (list.loan-value g.dyn-1).it c.args.self.now c.in_ok-spot.spot.list c.remove-ended.result _ c.remove-ended.ensures.value c.requires.lists.stocked

pub end_bar-requires-clause-kept : goal.end_bar-requires-clause-kept
end_bar-requires-clause-kept g c =
    let list_loan = (list.loan-value g.dyn-1).it in
    let control_loan = (control.loan-value g.dyn-2).it in
    let l = c.args.list in
    let t = c.args.windows.now in
    let m = c.args.self.now in
    let s = c.in_ok-spot.spot in
    let is = c.in_ok-spot.ensures in
    let w = c.at.result.now in
    let lies : IsWindowAt t.windows.records.items s.window w = search rules in
    let its = c.layer-layer.ensures w lies in
    kept_first _ list_loan control_loan l t m s is c.requires.kept w lies c.layer-layer.result its
    c.in_ok-relaid.relaid c.in_ok-relaid.ensures.layers c.area.result.now c.area.ensures
    c.in_ok-relaying.relaying (record m { list = c.remove-ended.new.self }) c.remove-ended.result c.remove-ended.ensures.value c.remove-ended.ensures.items c.remove-ended.ensures.next c.commit_layers.new.self c.commit_layers.ensures.put c.commit_layers.ensures.set c.args.controls.now _ c.requires.controls _ c.requires.lists

pub end_bar-requires-clause-whole : goal.end_bar-requires-clause-whole
end_bar-requires-clause-whole g c =
    let list_loan = (list.loan-value g.dyn-1).it in
    let control_loan = (control.loan-value g.dyn-2).it in
    let l = c.args.list in
    let t = c.args.windows.now in
    let m = c.args.self.now in
    let s = c.in_ok-spot.spot in
    let is = c.in_ok-spot.ensures in
    let w = c.at.result.now in
    let lies : IsWindowAt t.windows.records.items s.window w = search rules in
    let its = c.layer-layer.ensures w lies in
    controls_first _ list_loan control_loan l t m s is c.requires.kept w lies c.layer-layer.result its
    c.in_ok-relaid.relaid c.in_ok-relaid.ensures.layers c.area.result.now c.area.ensures
    c.in_ok-relaying.relaying (record m { list = c.remove-ended.new.self }) c.remove-ended.result c.remove-ended.ensures.value c.remove-ended.ensures.items c.remove-ended.ensures.next c.commit_layers.new.self c.commit_layers.ensures.put c.commit_layers.ensures.set c.args.controls.now _ c.requires.controls _ c.requires.lists

pub end_bar-requires-clause-planned : goal.end_bar-requires-clause-planned
end_bar-requires-clause-planned g c =
    let list_loan = (list.loan-value g.dyn-1).it in
    let control_loan = (control.loan-value g.dyn-2).it in
    let l = c.args.list in
    let t = c.args.windows.now in
    let m = c.args.self.now in
    let s = c.in_ok-spot.spot in
    let is = c.in_ok-spot.ensures in
    let w = c.at.result.now in
    let lies : IsWindowAt t.windows.records.items s.window w = search rules in
    let its = c.layer-layer.ensures w lies in
    c.in_ok-one.ensures.planned c.commit_layers.new.self c.args.controls.now
    (ready_first _ list_loan control_loan l t m s is c.requires.kept w lies c.layer-layer.result its
    c.in_ok-relaid.relaid c.in_ok-relaid.ensures.layers c.area.result.now c.area.ensures
    c.in_ok-relaying.relaying (record m { list = c.remove-ended.new.self }) c.remove-ended.result c.remove-ended.ensures.value c.remove-ended.ensures.items c.remove-ended.ensures.next c.commit_layers.new.self c.commit_layers.ensures.put c.commit_layers.ensures.set c.args.controls.now _ c.requires.controls _ c.requires.lists c.index-list.result.now.kept.vertical)

pub end_bar-requires-2-clause-kept : goal.end_bar-requires-2-clause-kept
end_bar-requires-2-clause-kept g c =
    let list_loan = (list.loan-value g.dyn-1).it in
    let control_loan = (control.loan-value g.dyn-2).it in
    let l = c.args.list in
    let t = c.args.windows.now in
    let m = c.args.self.now in
    let s = c.in_ok-spot.spot in
    let is = c.in_ok-spot.ensures in
    let w = c.at.result.now in
    let lies : IsWindowAt t.windows.records.items s.window w = search rules in
    let its = c.layer-layer.ensures w lies in
    kept_second _ list_loan control_loan l t m s is c.requires.kept w lies c.layer-layer.result its
    c.in_ok-relaid.relaid c.in_ok-relaid.ensures.layers c.area.result.now c.area.ensures
    c.in_ok-relaying.relaying (record m { list = c.remove-ended.new.self }) c.remove-ended.result c.remove-ended.ensures.value c.remove-ended.ensures.items c.remove-ended.ensures.next c.commit_layers.new.self c.commit_layers.ensures.put c.commit_layers.ensures.set c.args.controls.now _ c.requires.controls _ c.requires.lists _ c.put_away.ensures
    c.index-list.result.now.kept.vertical c.in_ok-one.one c.in_ok-one.ensures.out c.end_bar.new.windows c.end_bar.new.controls _ c.end_bar.ensures.gone c.end_bar.ensures.put

pub end_bar-requires-2-clause-whole : goal.end_bar-requires-2-clause-whole
end_bar-requires-2-clause-whole g c =
    let list_loan = (list.loan-value g.dyn-1).it in
    let control_loan = (control.loan-value g.dyn-2).it in
    let l = c.args.list in
    let t = c.args.windows.now in
    let m = c.args.self.now in
    let s = c.in_ok-spot.spot in
    let is = c.in_ok-spot.ensures in
    let w = c.at.result.now in
    let lies : IsWindowAt t.windows.records.items s.window w = search rules in
    let its = c.layer-layer.ensures w lies in
    controls_second _ list_loan control_loan l t m s is c.requires.kept w lies c.layer-layer.result its
    c.in_ok-relaid.relaid c.in_ok-relaid.ensures.layers c.area.result.now c.area.ensures
    c.in_ok-relaying.relaying (record m { list = c.remove-ended.new.self }) c.remove-ended.result c.remove-ended.ensures.value c.remove-ended.ensures.items c.remove-ended.ensures.next c.commit_layers.new.self c.commit_layers.ensures.put c.commit_layers.ensures.set c.args.controls.now _ c.requires.controls _ c.requires.lists _ c.put_away.ensures
    c.index-list.result.now.kept.vertical c.in_ok-one.one c.in_ok-one.ensures.out c.end_bar.new.windows c.end_bar.new.controls _ c.end_bar.ensures.gone c.end_bar.ensures.put

pub end_bar-requires-2-clause-planned : goal.end_bar-requires-2-clause-planned
end_bar-requires-2-clause-planned g c =
    let list_loan = (list.loan-value g.dyn-1).it in
    let control_loan = (control.loan-value g.dyn-2).it in
    let l = c.args.list in
    let t = c.args.windows.now in
    let m = c.args.self.now in
    let s = c.in_ok-spot.spot in
    let is = c.in_ok-spot.ensures in
    let w = c.at.result.now in
    let lies : IsWindowAt t.windows.records.items s.window w = search rules in
    let its = c.layer-layer.ensures w lies in
    c.in_ok-two.ensures.planned c.end_bar.new.windows c.end_bar.new.controls
    (ready_second _ list_loan control_loan l t m s is c.requires.kept w lies c.layer-layer.result its
    c.in_ok-relaid.relaid c.in_ok-relaid.ensures.layers c.area.result.now c.area.ensures
    c.in_ok-relaying.relaying (record m { list = c.remove-ended.new.self }) c.remove-ended.result c.remove-ended.ensures.value c.remove-ended.ensures.items c.remove-ended.ensures.next c.commit_layers.new.self c.commit_layers.ensures.put c.commit_layers.ensures.set c.args.controls.now _ c.requires.controls _ c.requires.lists _ c.put_away.ensures
    c.index-list.result.now.kept.vertical c.in_ok-one.one c.in_ok-one.ensures.out c.end_bar.new.windows c.end_bar.new.controls _ c.end_bar.ensures.gone c.end_bar.ensures.put c.index-list.result.now.kept.horizontal c.layers_left-layers.result.now c.update_left-update.result.now c.layers_left-layers.ensures c.update_left-update.ensures)

pub returns : goal.returns
returns g c =
    let list_loan = (list.loan-value g.dyn-1).it in
    let control_loan = (control.loan-value g.dyn-2).it in
    let l = c.args.list in
    let t = c.args.windows.now in
    let m = c.args.self.now in
    let s = c.in_ok-spot.spot in
    let is = c.in_ok-spot.ensures in
    let w = c.at.result.now in
    let lies : IsWindowAt t.windows.records.items s.window w = search rules in
    let its = c.layer-layer.ensures w lies in
    let same : c.index-list.result.now ≡ c.remove-ended.result = one_item m.list.items.items s.list c.index-list.result.now c.remove-ended.result is.low c.index-list.ensures (read_is m.list.items.items s.list c.remove-ended.result c.remove-ended.ensures.value) in
    disposed _ list_loan control_loan l t m s is c.requires.kept w lies c.layer-layer.result its
    c.in_ok-relaid.relaid c.in_ok-relaid.ensures.layers c.area.result.now c.area.ensures
    c.in_ok-relaying.relaying (record m { list = c.remove-ended.new.self }) c.remove-ended.result c.remove-ended.ensures.value c.remove-ended.ensures.items c.remove-ended.ensures.next c.commit_layers.new.self c.commit_layers.ensures.put c.commit_layers.ensures.set c.args.controls.now _ c.requires.controls _ c.requires.lists _ c.put_away.ensures
    c.index-list.result.now.kept.vertical c.in_ok-one.one c.in_ok-one.ensures.out c.end_bar.new.windows c.end_bar.new.controls _ c.end_bar.ensures.gone c.end_bar.ensures.put c.index-list.result.now.kept.horizontal c.end_bar-2.new.windows c.end_bar-2.new.controls _ c.end_bar-2.ensures.gone
    (ap (λ (x : Item (ListRecord _)). x.kept.vertical) same) (ap (λ (x : Item (ListRecord _)). x.kept.horizontal) same)
