use Rattle.std.proofs.Common.{refl}
use Rattle.def_iface.specs.contracts.taken_window.TakenWindowDefined.TheImpl as taken
use Rattle.def_iface.specs.contracts.taken_control.TakenControlDefined.TheImpl as taken_control
use Rattle.def_iface.specs.contracts.taken_list.TakenListDefined.TheImpl as taken_list
use Rattle.def_iface.specs.contracts.taken_menu.TakenMenuDefined.TheImpl as taken_menu
use Rattle.window_paint.specs.White.{all_white}
use Rattle.window_update.specs.WholeUpdates.{opened}
use Rattle.text_mgr.specs.TextDesks.{texts_show}
use Rattle.desk_toolbox.proofs.ListsAside.{menus_after_list, trackable_after_list, updates_after_list}
use Rattle.desk_toolbox.proofs.KnownLayers.{list_leaves_known, list_leaves_texts}
use Rattle.desk_toolbox.proofs.toolbox.Toolbox.list_call.Goals as goal

pub returns-clause-whole : goal.returns-clause-whole
returns-clause-whole g c =
    let self = c.args.self.now in
    let loan = (taken.loan-value g.dyn-1).it in
    let control_loan = (taken_control.loan-value g.dyn-2).it in
    let menu_loan = (taken_menu.loan-value g.dyn-3).it in
    let list_loan = (taken_list.loan-value g.dyn-4).it in
    let others = texts_show (λ font. all_white) self.texts.list.items.items in
    let began = opened self.activity self.updates in
    let done = c.perform.ensures others began _ c.requires.whole.managers.windows c.requires.whole.managers.controls c.requires.whole.managers.lists in
    let made = done.3 c.requires.whole.right in
    let menus =
    menus_after_list loan menu_loan control_loan list_loan others self.windows c.perform.new.windows _ _ began self.controls c.perform.new.controls _ _ self.lists c.perform.new.self _ _
    c.args.call.now c.perform.result c.requires.admitted made self.menus self.front _ (record { menus = c.requires.whole.managers.menus; front = c.requires.whole.managers.front }) in
    record {
      windows = done.0;
      updates = updates_after_list loan menu_loan control_loan list_loan others self.windows c.perform.new.windows _ _ began self.controls c.perform.new.controls _ _ self.lists c.perform.new.self _ _
          c.args.call.now c.perform.result c.requires.admitted made self.updates c.requires.whole.managers.updates;
      controls = done.1;
      trackable = trackable_after_list loan menu_loan control_loan list_loan others self.windows c.perform.new.windows _ _ began self.controls c.perform.new.controls _ _ self.lists c.perform.new.self _ _
          c.args.call.now c.perform.result c.requires.admitted made c.requires.whole.managers.trackable;
      menus = menus.menus;
      front = menus.front;
      lists = done.2;
      texts = list_leaves_texts c.args.call.now c.perform.result _ _ _
          (record { desk = record { right = c.requires.whole.right; shows = refl; whole = c.requires.whole.managers.controls }; lists = c.requires.whole.managers.lists }) made c.requires.whole.managers.texts;
      selectable = c.requires.whole.managers.selectable;
      known = list_leaves_known c.args.call.now c.perform.result _ _
          (record { desk = record { right = c.requires.whole.right; shows = refl; whole = c.requires.whole.managers.controls }; lists = c.requires.whole.managers.lists }) made c.requires.whole.managers.known;
    }

pub returns-clause-step : goal.returns-clause-step
returns-clause-step g c =
    let began = opened c.args.self.now.activity c.args.self.now.updates in
    let done = c.perform.ensures (texts_show (λ font. all_white) c.args.self.now.texts.list.items.items) began _ c.requires.whole.managers.windows c.requires.whole.managers.controls c.requires.whole.managers.lists in
    record { step = done.3 c.requires.whole.right; events = refl; texts = refl; menus = refl }
