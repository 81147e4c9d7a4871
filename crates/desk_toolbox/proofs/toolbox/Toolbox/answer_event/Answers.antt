use Rattle.std.proofs.Common.{◌≡◌, refl, subst}
use Rattle.desk_toolbox.specs.EventSteps.{event_step}
use Rattle.tb_geom.specs.Pixels.{holds}
use Rattle.def_iface.specs.contracts.taken_window.TakenWindowDefined.TheImpl as taken
use Rattle.def_iface.specs.contracts.taken_control.TakenControlDefined.TheImpl as taken_control
use Rattle.def_iface.specs.contracts.taken_list.TakenListDefined.TheImpl as taken_list
use Rattle.window_mgr.specs.DeskStates.{desk_state}
use Rattle.window_update.specs.WholeUpdates.{opened}
use Rattle.window_paint.specs.White.{all_white}
use Rattle.control_mgr.specs.ControlDesks.{controls_show}
use Rattle.control_mgr.specs.WholeControls.{records_of}
use Rattle.list_mgr.specs.ListDesks.{lists_show}
use Rattle.text_mgr.specs.TextDesks.{texts_show}
use Rattle.list_mgr.specs.WholeLists as lists
use Rattle.desk_toolbox.proofs.WaitingShown.{first_showing}
use Rattle.desk_toolbox.proofs.toolbox.Toolbox.answer_event.Goals as goal

pub returns-clause-whole : goal.returns-clause-whole
returns-clause-whole g c stocks whole = record {
  windows = whole.managers.windows;
  updates = whole.managers.updates;
  controls = whole.managers.controls;
  trackable = whole.managers.trackable;
  menus = whole.managers.menus;
  front = whole.managers.front;
  lists = whole.managers.lists;
  texts = whole.managers.texts;
  selectable = whole.managers.selectable;
  known = whole.managers.known;
}

pub returns-clause-step : goal.returns-clause-step
returns-clause-step g c stocks =
    let self = c.args.self.now in
    let shows = controls_show (lists_show (texts_show (λ font. all_white) self.texts.list.items.items) (lists.records_of (taken_list.loan-value g.dyn-4).it self.lists)) (records_of (taken_control.loan-value g.dyn-2).it self.controls) in
    record {
      desk = record { windows = record { desk = refl; stale = λ p on. refl; image = λ p on. refl }; activity = refl; begun = refl };
      controls = refl;
      lists = refl;
      texts = refl;
      menus = refl;
      update = c.first_to_update-update.result;
      first = first_showing shows (desk_state (taken.loan-value g.dyn-1).it self.windows (opened self.activity self.updates) stocks.windows) c.first_to_update-update.result (c.first_to_update-update.ensures (λ p. holds self.updates.begun p) stocks.windows);
      step = subst (λ l. (c.perform.result, c.perform.new.self) ≡ event_step c.args.call l.active c.first_to_update-update.result self.events) c.list.ensures
          (subst (λ active. (c.perform.result, c.perform.new.self) ≡ event_step c.args.call active c.first_to_update-update.result self.events) c.active-active.ensures c.perform.ensures);
    }
