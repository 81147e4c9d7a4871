use Rattle.std.proofs.Common.{rules, ◌≡◌, false, ap, subst, sym, ◌∙◌}
use Rattle.tb_geom.specs.Pixels.{holds}
use Rattle.def_iface.specs.contracts.taken_window.TakenWindowDefined.TheImpl as taken
use Rattle.vis_update.specs.declared.area.Area.{Area}
use Rattle.vis_update.specs.Relayings.{IsGained}
use Rattle.window_mgr.specs.Relayered.{HasUpdate, MayHaveLayers}
use Rattle.window_mgr.proofs.Remarked.{area_there}
use Rattle.striped_layers.proofs.Changed.{one_there, part_of, part_is, read_there}
use Rattle.striped_layers.proofs.relaying.relay.Goals as goal

pub area-requires : goal.area-requires
area-requires g c = area_there _ c.args.windows.now c.requires.kept c.args.at c.requires.at

pub commit_layers-requires-clause-planned : goal.commit_layers-requires-clause-planned
commit_layers-requires-clause-planned g c part there =
    let t = c.args.windows.now in
    let low = area_there (taken.loan-value g.dyn-1).it t c.requires.kept c.args.at c.requires.at in
    let has : HasUpdate (taken.loan-value g.dyn-1).it c.args.at c.area.result.now.update t t = record {
      kept = c.requires.kept;
      low = c.requires.at;
      shown = λ a b a_is b_is p. ap (λ (x : Area). holds x.visible p) (one_there t.areas.items c.args.at a b low a_is b_is);
      stale = λ b b_is p. ap (λ (x : Area). holds x.update p) (one_there t.areas.items c.args.at c.area.result.now b low c.area.ensures b_is);
    } in
    let relaid = c.args.relaying.relaid in
    let may : MayHaveLayers c.args.at t relaid.layers = search rules in
    c.in_ok-plan.ensures t has may part there (λ w lies.
    subst (λ place. IsGained place part w.layers.layers relaid.layers.layers relaid.gained) (sym (c.requires.is w lies).place ∙ may.there w lies) ((c.requires.is w lies).gained part there))

pub returns : goal.returns
returns g c slots whole =
    let there = read_there c.list.result.now c.args.windows.now.windows c.args.at c.at.result.now c.list.ensures c.at.ensures in
    (c.commit_layers.ensures.set c.at.result.now there (part_of c.args.relaying.relaid.layers.layers c.args.relaying.afresh)
    (part_is c.args.relaying.relaid.layers.layers c.args.relaying.afresh (c.requires.is c.at.result.now there).afresh)
    (λ _ _ _. false) slots whole).0
