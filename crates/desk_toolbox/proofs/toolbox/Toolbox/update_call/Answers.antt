use Rattle.std.proofs.Common.{refl}
use Rattle.def_iface.specs.contracts.taken_control.TakenControlDefined.TheImpl as taken_control
use Rattle.def_iface.specs.contracts.taken_list.TakenListDefined.TheImpl as taken_list
use Rattle.window_update.specs.WholeUpdates.{opened}
use Rattle.window_paint.specs.White.{all_white}
use Rattle.control_mgr.specs.ControlDesks.{controls_show}
use Rattle.control_mgr.specs.WholeControls.{records_of}
use Rattle.list_mgr.specs.ListDesks.{lists_show}
use Rattle.list_mgr.specs.WholeLists as lists
use Rattle.text_mgr.specs.TextDesks.{texts_show}
use Rattle.desk_toolbox.proofs.ContentsBeside.{updates_leave, updates_leave_lists, updates_leave_texts, updates_leave_known}
use Rattle.desk_toolbox.proofs.MenusBeside.{update_whole}
use Rattle.desk_toolbox.proofs.SelectedTexts.{update_selectable}
use Rattle.desk_toolbox.proofs.TrackedControls.{update_trackable}
use Rattle.desk_toolbox.proofs.toolbox.Toolbox.update_call.Goals as goal

pub returns-clause-whole : goal.returns-clause-whole
returns-clause-whole g c stocks whole =
    let self = c.args.self.now in
    let done = c.perform.ensures.step stocks.windows whole.managers.windows in
    let first = opened self.activity self.updates in
    let last = opened c.perform.new.activity c.perform.new.self in
    let shows = controls_show (lists_show (texts_show (λ font. all_white) self.texts.list.items.items) (lists.records_of (taken_list.loan-value g.dyn-4).it self.lists)) (records_of (taken_control.loan-value g.dyn-2).it self.controls) in
    let menus =
    update_whole _ _ self.windows c.perform.new.windows _ _ _ _ _ shows first last c.args.call.now c.perform.result c.requires.admitted done.1
    (record { menus = whole.managers.menus; front = whole.managers.front }) in
    record {
      windows = done.0;
      updates = c.perform.ensures.whole;
      controls = updates_leave c.args.call.now c.perform.result _ _ _ done.1 whole.managers.controls;
      trackable = update_trackable _ _ _ whole.managers.trackable c.args.call.now c.perform.result done.1;
      menus = menus.menus;
      front = menus.front;
      lists = updates_leave_lists c.args.call.now c.perform.result _ _ _ done.1 whole.managers.lists;
      texts = updates_leave_texts c.args.call.now c.perform.result _ _ _ done.1 whole.managers.texts;
      selectable = update_selectable _ _ _ whole.managers.selectable c.args.call.now c.perform.result done.1;
      known = updates_leave_known c.args.call.now c.perform.result _ _ done.1 whole.managers.known;
    }

pub returns-clause-step : goal.returns-clause-step
returns-clause-step g c stocks whole = ((c.perform.ensures.step stocks.windows whole.managers.windows).1, record { events = refl; controls = refl; lists = refl; texts = refl; menus = refl })
