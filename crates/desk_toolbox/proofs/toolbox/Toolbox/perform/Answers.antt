use Rattle.std.proofs.Common.{◌≡◌, false, None, refl, rules, subst}
use Rattle.tb_geom.specs.Pixels.{holds}
use Rattle.desk_call.specs.Gates.{gate, standing_of}
use Rattle.def_iface.specs.contracts.taken_window.TakenWindowDefined.TheImpl as taken
use Rattle.def_iface.specs.contracts.taken_control.TakenControlDefined.TheImpl as taken_control
use Rattle.def_iface.specs.contracts.taken_list.TakenListDefined.TheImpl as taken_list
use Rattle.window_mgr.specs.DeskStates.{Opened, desk_with}
use Rattle.window_mgr.specs.Records.{state_of}
use Rattle.window_frame.proofs.FramesShowing.{frame_step_showing}
use Rattle.window_paint.specs.White.{all_white}
use Rattle.control_mgr.specs.ControlDesks.{controls_show}
use Rattle.control_mgr.specs.WholeControls.{records_of}
use Rattle.list_mgr.specs.ListDesks.{lists_show}
use Rattle.list_mgr.specs.WholeLists as lists
use Rattle.text_mgr.specs.TextDesks.{texts_show}
use Rattle.menu_mgr.proofs.MenusShowing.{menu_step_showing}
use Rattle.desk_toolbox.proofs.ContentsBeside.{frames_leave, frames_leave_lists, frames_leave_texts, frames_leave_known, menus_leave, menus_leave_lists, menus_leave_texts, menus_leave_known}
use Rattle.desk_toolbox.proofs.MenuStands.{menu_outlines_none, menu_selectable, menu_trackable}
use Rattle.desk_toolbox.proofs.TrackedControls.{frame_trackable}
use Rattle.desk_toolbox.proofs.SelectedTexts.{frame_selectable}
use Rattle.desk_toolbox.proofs.MenusBeside.{frame_whole}
use Rattle.desk_toolbox.proofs.Quiet.{quiet_named}
use Rattle.desk_toolbox.proofs.UpdatesBeside.{updates_after_frame, updates_after_menu}
use Rattle.desk_toolbox.proofs.toolbox.Toolbox.perform.Goals as goal

pub returns-in-Update-clause-whole : goal.returns-in-Update-clause-whole
returns-in-Update-clause-whole g c = c.update_call.ensures.whole _ c.requires.whole

pub returns-in-Update-clause-step : goal.returns-in-Update-clause-step
returns-in-Update-clause-step g c = rw c.in-Update.is (c.update_call.result, search rules, c.update_call.ensures.step _ c.requires.whole)

pub returns-in-Frame-clause-whole : goal.returns-in-Frame-clause-whole
returns-in-Frame-clause-whole g c =
    let done = c.perform.ensures.step (λ p. false) _ c.requires.whole.managers.windows in
    let may = subst (λ call. gate c.args.self.now.activity (standing_of call) ≡ None) c.in-Frame.is c.requires.admitted in
    let before : Opened = record { activity = c.args.self.now.activity; begun = λ p. false } in
    let after : Opened = record { activity = c.perform.new.activity; begun = λ p. false } in
    let menus =
    frame_whole _ _ c.args.self.now.windows c.perform.new.windows _ _ _ _ _ before after c.in-Frame.call c.perform.result may done.1
    (record { menus = c.requires.whole.managers.menus; front = c.requires.whole.managers.front }) in
    record {
      windows = done.0;
      updates = updates_after_frame _ c.args.self.now.windows c.perform.new.windows c.args.self.now.updates _ _ before after c.in-Frame.call c.perform.result may done.1 c.requires.whole.managers.updates;
      controls = frames_leave c.in-Frame.call c.perform.result _ _ _ done.1 c.requires.whole.managers.controls;
      lists = frames_leave_lists c.in-Frame.call c.perform.result _ _ _ done.1 c.requires.whole.managers.lists;
      texts = frames_leave_texts c.in-Frame.call c.perform.result _ _ _ done.1 c.requires.whole.managers.texts;
      selectable = frame_selectable _ _ _ c.requires.whole.managers.selectable c.in-Frame.call c.perform.result done.1;
      known = frames_leave_known c.in-Frame.call c.perform.result _ _ done.1 c.requires.whole.managers.known;
      trackable = frame_trackable _ _ _ c.requires.whole.managers.trackable c.in-Frame.call c.perform.result done.1;
      menus = menus.menus;
      front = menus.front;
    }

pub returns-in-Frame-clause-step : goal.returns-in-Frame-clause-step
returns-in-Frame-clause-step g c =
    let kept = holds c.args.self.now.updates.begun in
    let done = c.perform.ensures.step kept _ c.requires.whole.managers.windows in
    let before : Opened = record { activity = c.args.self.now.activity; begun = kept } in
    let after : Opened = record { activity = c.perform.new.activity; begun = kept } in
    rw c.in-Frame.is (
      c.perform.result,
      search rules,
      (
        frame_step_showing (controls_show (lists_show (texts_show (λ font. all_white) c.args.self.now.texts.list.items.items) (lists.records_of (taken_list.loan-value g.dyn-4).it c.args.self.now.lists)) (records_of (taken_control.loan-value g.dyn-2).it c.args.self.now.controls)) c.in-Frame.call c.perform.result (desk_with before (state_of (taken.loan-value g.dyn-1).it c.args.self.now.windows _)) (desk_with after (state_of (taken.loan-value g.dyn-1).it c.perform.new.windows _))
            c.requires.whole.managers.windows.sound.distinct done.1,
        record { events = refl; controls = refl; lists = refl; texts = refl; menus = refl },
      ),
    )

pub returns-in-Menu-clause-whole : goal.returns-in-Menu-clause-whole
returns-in-Menu-clause-whole g c =
    let done = c.perform-in-Menu.ensures.step (λ p. holds c.args.self.now.updates.begun p) _ c.requires.whole.managers.windows in
    let may = subst (λ call. gate c.args.self.now.activity (standing_of call) ≡ None) c.in-Menu.is c.requires.admitted in
    let before : Opened = record { activity = c.args.self.now.activity; begun = λ p. holds c.args.self.now.updates.begun p } in
    let after : Opened = record { activity = c.perform-in-Menu.new.activity; begun = λ p. holds c.args.self.now.updates.begun p } in
    let none = menu_outlines_none c.in-Menu.call c.perform-in-Menu.result _ _ c.perform-in-Menu.new.windows c.perform-in-Menu.new.front may done.2 in
    record {
      windows = done.0;
      updates = updates_after_menu _ c.args.self.now.windows c.perform-in-Menu.new.windows c.args.self.now.updates _ _ before after _ _ c.in-Menu.call c.perform-in-Menu.result may done.2 c.requires.whole.managers.updates;
      controls = menus_leave c.in-Menu.call c.perform-in-Menu.result _ _ _ done.2 c.requires.whole.managers.controls;
      lists = menus_leave_lists c.in-Menu.call c.perform-in-Menu.result _ _ _ done.2 c.requires.whole.managers.lists;
      texts = menus_leave_texts c.in-Menu.call c.perform-in-Menu.result _ _ _ done.2 c.requires.whole.managers.texts;
      selectable = menu_selectable c.in-Menu.call c.perform-in-Menu.result _ _ _ may done.2;
      known = menus_leave_known c.in-Menu.call c.perform-in-Menu.result _ _ done.2 c.requires.whole.managers.known;
      trackable = menu_trackable c.in-Menu.call c.perform-in-Menu.result _ _ _ may done.2;
      menus = done.1;
      front = record { menu = c.perform-in-Menu.ensures.front; kept = none.0; outline = none.1 };
    }

pub returns-in-Menu-clause-step : goal.returns-in-Menu-clause-step
returns-in-Menu-clause-step g c =
    let done = c.perform-in-Menu.ensures.step (λ p. holds c.args.self.now.updates.begun p) _ c.requires.whole.managers.windows in
    rw c.in-Menu.is (
      c.perform-in-Menu.result,
      search rules,
      record {
        step = menu_step_showing (controls_show (lists_show (texts_show (λ font. all_white) c.args.self.now.texts.list.items.items) (lists.records_of (taken_list.loan-value g.dyn-4).it c.args.self.now.lists)) (records_of (taken_control.loan-value g.dyn-2).it c.args.self.now.controls)) _ _ c.requires.whole.managers.windows.sound.distinct c.in-Menu.call c.perform-in-Menu.result done.2;
        events = refl;
        controls = refl;
        lists = refl;
        texts = refl;
      },
    )

pub returns-in-Event-clause-whole : goal.returns-in-Event-clause-whole
returns-in-Event-clause-whole g c = c.answer_event.ensures.whole _ c.requires.whole

pub returns-in-Event-clause-step : goal.returns-in-Event-clause-step
returns-in-Event-clause-step g c = rw c.in-Event.is (c.answer_event.result, search rules, c.answer_event.ensures.step _)

pub returns-in-Control-clause-whole : goal.returns-in-Control-clause-whole
returns-in-Control-clause-whole g c = c.control_call.ensures.whole

pub returns-in-Control-clause-step : goal.returns-in-Control-clause-step
returns-in-Control-clause-step g c = rw c.in-Control.is (c.control_call.result, search rules, c.control_call.ensures.step)

pub returns-in-List-clause-whole : goal.returns-in-List-clause-whole
returns-in-List-clause-whole g c = c.list_call.ensures.whole

pub returns-in-List-clause-step : goal.returns-in-List-clause-step
returns-in-List-clause-step g c = rw c.in-List.is (c.list_call.result, search rules, c.list_call.ensures.step)

pub returns-in-Text-clause-whole : goal.returns-in-Text-clause-whole
returns-in-Text-clause-whole g c = c.text_call.ensures.whole _ c.requires.whole

pub returns-in-Text-clause-step : goal.returns-in-Text-clause-step
returns-in-Text-clause-step g c = rw c.in-Text.is (c.text_call.result, search rules, c.text_call.ensures.step _ c.requires.whole)

pub returns-in-Window-clause-step : goal.returns-in-Window-clause-step
returns-in-Window-clause-step g c = rw c.in-Window.is (c.window_call.result, search rules, c.window_call.ensures.step)

pub returns-in-Window-clause-economy : goal.returns-in-Window-clause-economy
returns-in-Window-clause-economy g c = rw c.in-Window.is c.window_call.ensures.economy

pub returns-in-Window-clause-quiet : goal.returns-in-Window-clause-quiet
returns-in-Window-clause-quiet g c = rw c.in-Window.is (quiet_named c.in-Window.call c.window_call.result _ _ _ (search rules) c.window_call.ensures.quiet)

pub returns-in-Outline-clause-whole : goal.returns-in-Outline-clause-whole
returns-in-Outline-clause-whole g c = c.outline_call.ensures.whole

pub returns-in-Outline-clause-step : goal.returns-in-Outline-clause-step
returns-in-Outline-clause-step g c = rw c.in-Outline.is (c.outline_call.result, search rules, c.outline_call.ensures.step)

pub returns-in-Outline-clause-economy : goal.returns-in-Outline-clause-economy
returns-in-Outline-clause-economy g c = rw c.in-Outline.is c.outline_call.ensures.economy
