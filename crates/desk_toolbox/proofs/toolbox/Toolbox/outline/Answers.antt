use Rattle.std.proofs.Common.{Ok, Err, [], inl, refl}
use Rattle.def_iface.specs.contracts.taken_window.TakenWindowDefined.TheImpl as taken
use Rattle.def_iface.specs.contracts.taken_control.TakenControlDefined.TheImpl as taken_control
use Rattle.def_iface.specs.contracts.taken_list.TakenListDefined.TheImpl as taken_list
use Rattle.def_iface.specs.contracts.taken_menu.TakenMenuDefined.TheImpl as taken_menu
use Rattle.window_mgr.specs.Records.{desk_of}
use Rattle.window_paint.specs.White.{all_white}
use Rattle.control_mgr.specs.ControlDesks.{controls_show}
use Rattle.control_mgr.specs.WholeControls.{records_of}
use Rattle.list_mgr.specs.ListDesks.{lists_show}
use Rattle.text_mgr.specs.TextDesks.{texts_show}
use Rattle.list_mgr.specs.WholeLists as lists
use Rattle.window_outline.proofs.OutlinesShowing.{outlining_showing}
use Rattle.desk_toolbox.proofs.OutlineStands.{outlining_next, outlining_selects_none, outlining_tracks_none}
use Rattle.desk_toolbox.proofs.OutlinesMade.{outlined_menus, outlined_updates, outlining_shows_none, unchanged}
use Rattle.desk_toolbox.proofs.toolbox.Toolbox.outline.Goals as goal

pub returns-in-Ok-clause-whole : goal.returns-in-Ok-clause-whole
returns-in-Ok-clause-whole g c stocks whole =
    let old = c.args.self.now in
    let is = outlining_next c.args.call.now old.activity c.in-Ok.next.activity _ c.requires.admitted c.in-Ok.ensures.step.1.1 in
    record {
      windows = whole.managers.windows;
      updates = outlined_updates _ old.windows old.updates old.activity c.in-Ok.next.activity is whole.managers.updates;
      controls = whole.managers.controls;
      trackable = outlining_tracks_none c.in-Ok.next.activity _ is;
      menus = outlined_menus (taken_menu.loan-value g.dyn-3).it old.menus stocks.menus old.activity c.in-Ok.next.activity is whole.managers.menus;
      front = record {
        menu = record {
          width = c.show_outline.ensures.width;
          height = c.show_outline.ensures.height;
          shown = outlining_shows_none (taken_menu.loan-value g.dyn-3).it old.windows old.menus c.show_outline.new.front c.in-Ok.next.activity is;
        };
        kept = c.in-Ok.ensures.outline;
        outline = c.show_outline.ensures.shown;
      };
      lists = whole.managers.lists;
      texts = whole.managers.texts;
      selectable = outlining_selects_none c.in-Ok.next.activity _ is;
      known = whole.managers.known;
    }

pub returns-in-Ok-clause-step : goal.returns-in-Ok-clause-step
returns-in-Ok-clause-step g c stocks whole =
    let old = c.args.self.now in
    let shows = controls_show (lists_show (texts_show (λ font. all_white) old.texts.list.items.items) (lists.records_of (taken_list.loan-value g.dyn-4).it old.lists)) (records_of (taken_control.loan-value g.dyn-2).it old.controls) in
    let step = outlining_showing shows stocks.windows (desk_of (taken.loan-value g.dyn-1).it old.windows []) c.args.call.now old.activity (Ok c.in-Ok.next) c.in-Ok.ensures.step in (
      (step.0, record { answer_is = step.1.0; leaves = record { windows = unchanged _; activity_is = step.1.1; begun = refl } }),
      record { events = refl; controls = refl; lists = refl; texts = refl; menus = refl },
    )

pub returns-in-Err-clause-step : goal.returns-in-Err-clause-step
returns-in-Err-clause-step g c stocks whole =
    let old = c.args.self.now in
    let shows = controls_show (lists_show (texts_show (λ font. all_white) old.texts.list.items.items) (lists.records_of (taken_list.loan-value g.dyn-4).it old.lists)) (records_of (taken_control.loan-value g.dyn-2).it old.controls) in
    let why = outlining_showing shows stocks.windows (desk_of (taken.loan-value g.dyn-1).it old.windows []) c.args.call.now old.activity (Err c.in-Err.refusal) c.in-Err.ensures.step in
    ((inl why, record { windows = unchanged _; activity = refl; begun = refl }), record { events = refl; controls = refl; lists = refl; texts = refl; menus = refl })
