use Rattle.std.proofs.Common.{refl, ap, ◌≡◌, None, Some, Ok, Err, sym, subst}
use Rattle.std.proofs.lemmas.List.Elements.{All-weaker}
use Rattle.def_iface.specs.contracts.taken_control.ControlStockStocked.TheImpl as control_stock
use Rattle.def_iface.specs.contracts.taken_list.ListStockStocked.TheImpl as list_stock
use Rattle.def_iface.specs.contracts.stock.StockStockedAll.TheImpl as stock
use Rattle.def_iface.specs.contracts.taken_window.TakenWindowDefined.TheImpl as taken
use Rattle.def_iface.specs.contracts.taken_control.TakenControlDefined.TheImpl as taken_control
use Rattle.def_iface.specs.contracts.taken_list.TakenListDefined.TheImpl as taken_list
use Rattle.def_iface.specs.contracts.taken_menu.TakenMenuDefined.TheImpl as taken_menu
use Rattle.def_iface.specs.contracts.taken_window.WindowStockStocked.TheImpl as window_stock
use Rattle.def_iface.specs.declared.window_def.Stage.TheVariants.{Live}
use Rattle.desk_call.specs.Gates.{window_standing}
use Rattle.window_mgr.specs.DeskStates.{desk_with}
use Rattle.window_mgr.specs.FullDesk.{FullDesk}
use Rattle.window_mgr.specs.Records.{look_on, state_of, state_showing}
use Rattle.window_mgr.proofs.KeptLemmas.{kept}
use Rattle.window_mgr.proofs.StepsShowing.{step_showing}
use Rattle.window_mgr.proofs.SameDeskLemmas.{on_refusal}
use Rattle.window_update.specs.WholeUpdates.{opened}
use Rattle.window_frame.proofs.Economical.{all_economical, economical_untouched, others_if_done, refused_economical}
use Rattle.window_frame.proofs.FramesShowing.{caught_up_by_showing}
use Rattle.window_paint.specs.White.{all_white}
use Rattle.control_mgr.specs.ControlDesks.{ControlRecord, controls_show}
use Rattle.control_mgr.specs.Settled.{IsSettledControl}
use Rattle.control_mgr.specs.WholeControls.{AreWholeControls, controls_state, records_of}
use Rattle.list_mgr.specs.ListDesks.{KeptList, lists_show}
use Rattle.list_mgr.specs.WholeLists.{AreWholeLists, IsSettledList, lists_state}
use Rattle.list_mgr.specs.WholeLists as lists
use Rattle.text_mgr.specs.TextDesks.{texts_show}
use Rattle.text_mgr.specs.WholeTexts.{AreWholeTexts, texts_state}
use Rattle.desk_toolbox.specs.Run.{IsWindowDone, IsWindowTold}
use Rattle.desk_toolbox.specs.ToolboxStates.{ToolboxState}
use Rattle.desk_toolbox.specs.WholeToolbox.{toolbox_state}
use Rattle.desk_toolbox.proofs.Asked.{menu_is_told, window_is_told}
use Rattle.desk_toolbox.proofs.ContentsLeft.{made_keeps_contents}
use Rattle.desk_toolbox.proofs.KeptDesks.{refused_keeps_desk}
use Rattle.desk_toolbox.proofs.MenusBeside.{followed_whole, window_whole}
use Rattle.desk_toolbox.proofs.Narrowed.{narrowed_made}
use Rattle.desk_toolbox.proofs.Natures.{caught_up_so, covered_so, ends_its, narrowed_so}
use Rattle.desk_toolbox.proofs.Stands.{left_trackable}
use Rattle.desk_toolbox.proofs.UpdatesBeside.{updates_after_following, updates_after_window}
use Rattle.desk_toolbox.specs.KnownLayers.{AreLayersKnown}
use Rattle.desk_toolbox.proofs.SelectedTexts.{left_selectable}
use Rattle.desk_toolbox.proofs.toolbox.Toolbox.window_call.Goals as goal

-- ---- the menus tell

pub returns-then-is_behind_menu-clause-step : goal.returns-then-is_behind_menu-clause-step
returns-then-is_behind_menu-clause-step g c = menu_is_told _ c.args.call.now _ (covered_so c.args.call.now c.args.nature c.requires.nature _ _ _ (c.is_behind_menu.ensures _) c.if-is_behind_menu.true)

pub returns-then-is_behind_menu-clause-economy : goal.returns-then-is_behind_menu-clause-economy
returns-then-is_behind_menu-clause-economy g c informed = economical_untouched _ c.args.call.now c.args.self.now.windows

pub returns-then-is_behind_menu-clause-whole : goal.returns-then-is_behind_menu-clause-whole
returns-then-is_behind_menu-clause-whole g c = c.requires.whole.managers

-- ---- the open update tells

pub returns-in-Some-clause-step : goal.returns-in-Some-clause-step
returns-in-Some-clause-step g c =
    let state : ToolboxState =
    toolbox_state (taken.loan-value g.dyn-1).it (taken_menu.loan-value g.dyn-3).it (taken_control.loan-value g.dyn-2).it (taken_list.loan-value g.dyn-4).it
    c.args.self.now ((stock.all_slots-value g.dyn-1 g.dyn-2 g.dyn-4 g.dyn-3).it c.args.stock.now) in
    window_is_told _ c.args.call.now c.in-Some.answer _ _ (covered_so c.args.call.now c.args.nature c.requires.nature _ _ _ (c.is_behind_menu.ensures _) c.if-is_behind_menu.false)
    (narrowed_made c.args.call.now c.in-Some.answer state c.in-Some.ensures.0 (narrowed_so c.args.call.now c.args.nature c.requires.nature c.args.self.now.activity (opened c.args.self.now.activity c.args.self.now.updates).begun (Some c.in-Some.ensures.0) c.in-Some.ensures.1) c.in-Some.ensures.2 refl)

pub returns-in-Some-clause-whole : goal.returns-in-Some-clause-whole
returns-in-Some-clause-whole g c = c.requires.whole.managers

pub returns-in-Some-clause-quiet : goal.returns-in-Some-clause-quiet
returns-in-Some-clause-quiet g c = on_refusal _ _ refl

pub returns-in-Some-clause-economy : goal.returns-in-Some-clause-economy
returns-in-Some-clause-economy g c informed = economical_untouched _ c.args.call.now c.args.self.now.windows

-- ---- the windows perform it

pub forget-requires-clause-live : goal.forget-requires-clause-live
forget-requires-clause-live g c =
    All-weaker IsSettledControl (λ (k : ControlRecord). k.kept.definition.definition.stage ≡ Live) (λ k settled. settled.live)
    (records_of (taken_control.loan-value g.dyn-2).it c.args.self.now.controls) c.requires.whole.managers.controls.settled

pub forget-requires-clause-live_lists : goal.forget-requires-clause-live_lists
forget-requires-clause-live_lists g c =
    All-weaker IsSettledList (λ (k : KeptList). k.kept.definition.definition.stage ≡ Live) (λ k settled. settled.live)
    (lists.records_of (taken_list.loan-value g.dyn-4).it c.args.self.now.lists) c.requires.whole.managers.lists.settled

pub returns-in-Ok-clause-step : goal.returns-in-Ok-clause-step
returns-in-Ok-clause-step g c =
    let old = c.args.self.now in
    let loan = (taken.loan-value g.dyn-1).it in
    let shows = controls_show (lists_show (texts_show (λ font. all_white) old.texts.list.items.items) (lists.records_of (taken_list.loan-value g.dyn-4).it old.lists)) (records_of (taken_control.loan-value g.dyn-2).it old.controls) in
    let done = c.in-Ok.ensures in
    let caught = (caught_up_so c.args.call.now c.args.nature c.requires.nature _ c.perform.new.self c.follow.new.windows c.follow.ensures.told _ done.whole).1 in
    window_is_told _ c.args.call.now (Ok c.in-Ok.reply) _ _ (covered_so c.args.call.now c.args.nature c.requires.nature _ _ _ (c.is_behind_menu.ensures _) c.if-is_behind_menu.false)
    (record {
      middle = _;
      answered = rw (narrowed_so c.args.call.now c.args.nature c.requires.nature c.args.self.now.activity (opened c.args.self.now.activity c.args.self.now.updates).begun None c.in_default.ensures) (
        record { activity = refl; begun = refl },
        step_showing shows c.args.call.now (Ok c.in-Ok.reply) (state_of loan old.windows _) (state_of loan c.perform.new.self _) done.whole.sound.distinct done.step,
      );
      told = state_showing shows (state_of loan c.follow.new.windows _);
      activity = record { activity = refl; begun = refl };
      caught_up = caught_up_by_showing shows (window_standing c.args.call.now) (state_of loan c.perform.new.self _) (state_of loan c.follow.new.windows _) done.whole.sound.distinct caught;
      shown = refl;
      controls = c.forget.ensures.controls c.args.call.now (ends_its c.args.call.now c.args.nature c.requires.nature);
      lists = c.forget.ensures.lists c.args.call.now (ends_its c.args.call.now c.args.nature c.requires.nature);
      texts = c.forget.ensures.texts c.args.call.now (ends_its c.args.call.now c.args.nature c.requires.nature);
      events = c.forget.ensures.events c.args.call.now (ends_its c.args.call.now c.args.nature c.requires.nature);
      menus = refl;
    })

pub returns-in-Ok-clause-whole : goal.returns-in-Ok-clause-whole
returns-in-Ok-clause-whole g c =
    let old = c.args.self.now in
    let mid = c.perform.new.self in
    let loan = (taken.loan-value g.dyn-1).it in
    let menu_loan = (taken_menu.loan-value g.dyn-3).it in
    let control_loan = (taken_control.loan-value g.dyn-2).it in
    let slots = (control_stock.slots-value g.dyn-2).it in
    let window_slots = (window_stock.slots-value g.dyn-1).it in
    let list_loan = (taken_list.loan-value g.dyn-4).it in
    let list_slots = (list_stock.slots-value g.dyn-4).it in
    let done = c.in-Ok.ensures in
    let told = caught_up_so c.args.call.now c.args.nature c.requires.nature _ mid c.follow.new.windows c.follow.ensures.told _ done.whole in
    let updates = updates_after_window _ old.windows mid old.updates _ _ old.activity c.args.call.now (Ok c.in-Ok.reply) c.requires.admitted done.step c.requires.whole.managers.updates in
    let menus =
    followed_whole loan menu_loan mid c.follow.new.windows old.menus old.front _ _ _ old.activity c.args.call.now c.requires.admitted told.1
    (window_whole _ _ old.windows mid _ _ _ _ _ old.activity c.args.call.now (Ok c.in-Ok.reply) c.requires.admitted done.step (record { menus = c.requires.whole.managers.menus; front = c.requires.whole.managers.front })) in
    let before : ToolboxState = toolbox_state loan menu_loan control_loan list_loan old ((stock.all_slots-value g.dyn-1 g.dyn-2 g.dyn-4 g.dyn-3).it c.args.stock.now) in
    let after : ToolboxState = record {
      desk = desk_with (opened old.activity old.updates) (state_showing (controls_show (lists_show (texts_show (λ font. all_white) c.forget.new.texts.list.items.items) (lists.records_of list_loan c.forget.new.lists)) (records_of control_loan c.forget.new.controls)) (state_of loan c.follow.new.windows (window_slots c.perform.new.stock)));
      controls = controls_state control_loan c.forget.new.controls (slots c.forget.new.control_stock);
      lists = lists_state list_loan c.forget.new.lists (list_slots c.forget.new.list_stock);
      texts = texts_state c.forget.new.texts;
      menus = before.menus;
      events = c.forget.new.events;
    } in
    let step : IsWindowDone c.args.call.now c.in-Ok.reply before after =
    subst (λ b. IsWindowTold b c.args.call.now (Ok c.in-Ok.reply) before after) (covered_so c.args.call.now c.args.nature c.requires.nature _ _ _ (c.is_behind_menu.ensures _) c.if-is_behind_menu.false) (returns-in-Ok-clause-step g c) in
    let right = made_keeps_contents c.args.call.now c.in-Ok.reply before step.middle step.told after (record { controls = c.requires.whole.managers.controls; lists = c.requires.whole.managers.lists; texts = c.requires.whole.managers.texts; known = c.requires.whole.managers.known; shown = refl })
    (record { look = look_on old.windows; distinct = c.requires.whole.managers.windows.sound.distinct; serials = c.requires.whole.managers.windows.sound.serials }) step.answered step.caught_up step.shown step.controls step.lists step.texts in
    record {
      windows = told.0;
      updates = updates_after_following loan mid c.follow.new.windows old.updates _ _ old.activity c.args.call.now c.requires.admitted told.1 updates;
      controls = right.controls;
      lists = right.lists;
      texts = right.texts;
      selectable = left_selectable c.args.call.now before after c.requires.admitted refl step.texts c.requires.whole.managers.selectable;
      known = right.known;
      trackable = left_trackable c.args.call.now before after c.requires.admitted refl step.controls c.requires.whole.managers.trackable;
      menus = menus.menus;
      front = menus.front;
    }

pub returns-in-Ok-clause-economy : goal.returns-in-Ok-clause-economy
returns-in-Ok-clause-economy g c informed =
    all_economical _ c.args.call.now c.args.self.now.windows c.perform.new.self c.follow.new.windows (others_if_done c.args.call.now (Ok c.in-Ok.reply) _ _ c.in-Ok.ensures.step) c.in-Ok.ensures.sparing
    (kept _ c.perform.new.self _ c.in-Ok.ensures.whole) (caught_up_so c.args.call.now c.args.nature c.requires.nature _ c.perform.new.self c.follow.new.windows c.follow.ensures.told)
    c.follow.ensures.repainted informed

-- ---- they refuse it

pub returns-in-Err-clause-step : goal.returns-in-Err-clause-step
returns-in-Err-clause-step g c =
    let old = c.args.self.now in
    let shows = controls_show (lists_show (texts_show (λ font. all_white) old.texts.list.items.items) (lists.records_of (taken_list.loan-value g.dyn-4).it old.lists)) (records_of (taken_control.loan-value g.dyn-2).it old.controls) in
    window_is_told _ c.args.call.now (Err c.in-Err.refusal) _ _ (covered_so c.args.call.now c.args.nature c.requires.nature _ _ _ (c.is_behind_menu.ensures _) c.if-is_behind_menu.false) (
      rw (narrowed_so c.args.call.now c.args.nature c.requires.nature c.args.self.now.activity (opened c.args.self.now.activity c.args.self.now.updates).begun None c.in_default.ensures) (
        record { activity = refl; begun = refl },
        step_showing shows c.args.call.now (Err c.in-Err.refusal) (state_of (taken.loan-value g.dyn-1).it old.windows _) (state_of (taken.loan-value g.dyn-1).it c.perform.new.self _) c.in-Err.ensures.whole.sound.distinct c.in-Err.ensures.step,
      ),
      record { events = refl; controls = refl; lists = refl; texts = refl; menus = refl },
    )

pub returns-in-Err-clause-whole : goal.returns-in-Err-clause-whole
returns-in-Err-clause-whole g c =
    let old = c.args.self.now in
    let loan = (taken.loan-value g.dyn-1).it in
    let control_loan = (taken_control.loan-value g.dyn-2).it in
    let list_loan = (taken_list.loan-value g.dyn-4).it in
    let done = c.in-Err.ensures in
    let o = opened old.activity old.updates in
    let same = refused_keeps_desk None c.args.call.now c.in-Err.refusal (desk_with o (state_of loan old.windows _)) (desk_with o (state_of loan c.perform.new.self _)) (record { activity = refl; begun = refl }, done.step) in
    let windows = ap (λ (d : FullDesk). d.windows) same in
    let menus =
    window_whole _ _ old.windows c.perform.new.self _ _ _ _ _ old.activity c.args.call.now (Err c.in-Err.refusal) c.requires.admitted done.step
    (record { menus = c.requires.whole.managers.menus; front = c.requires.whole.managers.front }) in
    record {
      windows = done.whole;
      updates = updates_after_window _ old.windows c.perform.new.self old.updates _ _ old.activity c.args.call.now (Err c.in-Err.refusal) c.requires.admitted done.step c.requires.whole.managers.updates;
      controls = subst (λ ws. AreWholeControls ws (controls_state control_loan old.controls ((control_stock.slots-value g.dyn-2).it c.args.stock.now.controls))) (sym windows) c.requires.whole.managers.controls;
      trackable = c.requires.whole.managers.trackable;
      menus = menus.menus;
      front = menus.front;
      lists = subst (λ ws. AreWholeLists ws (lists_state list_loan old.lists ((list_stock.slots-value g.dyn-4).it c.args.stock.now.lists))) (sym windows) c.requires.whole.managers.lists;
      texts = subst (λ ws. AreWholeTexts ws (texts_state old.texts)) (sym windows) c.requires.whole.managers.texts;
      selectable = c.requires.whole.managers.selectable;
      known = subst AreLayersKnown (sym windows) c.requires.whole.managers.known;
    }

pub returns-in-Err-clause-quiet : goal.returns-in-Err-clause-quiet
returns-in-Err-clause-quiet g c = c.in-Err.ensures.quiet

pub returns-in-Err-clause-economy : goal.returns-in-Err-clause-economy
returns-in-Err-clause-economy g c informed = refused_economical _ c.args.call.now c.args.self.now.windows c.perform.new.self c.in-Err.ensures.sparing
