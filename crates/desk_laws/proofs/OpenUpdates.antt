-- While an update is open only calls may come that ask, beside its draws and its end: so what its draws leave is what serving it leaves.
use Rattle.std.proofs.Common.{◌≡◌, ⊎_elim, ℕ, ◌==◌, Bool, true, false, if◌then◌else◌, List, ◌∷◌, Option, None, Some, Result, Ok, Err, refl, sym, ap, ◌∙◌, subst}
use Rattle.std.specs.Prelude.{◌≢◌}
use Rattle.std.proofs.lemmas.Bool.{eqb-true}
use Rattle.tb_geom.specs.declared.refusal.Refusal.{Refusal}
use Rattle.tb_geom.specs.declared.refusal.Refusal.TheVariants.{NotBusy}
use Rattle.tb_geom.specs.Points.{PixelSet}
use Rattle.desk_layers.specs.declared.part.Part.{Part}
use Rattle.desk_call.specs.declared.activity.Activity.{Activity}
use Rattle.desk_call.specs.declared.activity.Activity.TheVariants.{Idle, Updating}
use Rattle.desk_call.specs.declared.activity.Standing.{Standing}
use Rattle.desk_call.specs.declared.activity.Standing.TheVariants.{Asks, Updates}
use Rattle.desk_call.specs.declared.call.Call.{Call}
use Rattle.desk_call.specs.declared.call.Call.TheVariants.{Window, Update, Frame, Control, Menu, Event}
use Rattle.desk_call.specs.declared.call.Call.TheVariants as calls
use Rattle.desk_call.specs.declared.call.Reply.{Reply}
use Rattle.desk_call.specs.declared.call.Reply.TheVariants as reply
use Rattle.desk_call.specs.declared.control.ControlCall.{ControlCall}
use Rattle.desk_call.specs.declared.control.ControlReply.{ControlReply}
use Rattle.desk_call.specs.declared.list.ListCall.{ListCall}
use Rattle.desk_call.specs.declared.list.ListReply.{ListReply}
use Rattle.desk_call.specs.declared.text.TextCall.{TextCall}
use Rattle.desk_call.specs.declared.text.TextReply.{TextReply}
use Rattle.desk_call.specs.declared.update.LayerKind.{LayerKind}
use Rattle.desk_call.specs.declared.update.UpdateCall.{UpdateCall}
use Rattle.desk_call.specs.declared.update.UpdateCall.TheVariants as update
use Rattle.desk_call.specs.declared.window.WindowCall.{WindowCall}
use Rattle.desk_call.specs.declared.window.WindowCall.TheVariants as asks
use Rattle.desk_call.specs.declared.window.WindowReply.{WindowReply}
use Rattle.desk_call.specs.Gates.{gate, window_standing, update_standing, frame_standing, menu_standing, control_standing, list_standing, text_standing}
use Rattle.window_mgr.specs.DeskStates.{DeskState, IsDeskUnchanged, SameActivity, narrowed}
use Rattle.window_mgr.specs.Effects.{IsUnchanged}
use Rattle.window_mgr.specs.FullDesk.{FullDesk, FullState}
use Rattle.window_mgr.specs.Updating.{IsRefreshed, is_of_kind}
use Rattle.window_update.specs.UpdateSteps.{IsUpdateStep}
use Rattle.window_update.proofs.AnyOrder.{AreDrawnSince, drawn_more, drawn_stay}
use Rattle.window_frame.specs.Followers.{IsCaughtUpBy}
use Rattle.window_paint.specs.White.{all_white}
use Rattle.control_mgr.specs.ControlDesks.{ControlsState, ShowsControls, controls_show}
use Rattle.control_mgr.specs.ControlSteps.{IsControlStep}
use Rattle.list_mgr.specs.ListDesks.{ListsState, lists_show}
use Rattle.list_mgr.specs.ListSteps.{IsListStep}
use Rattle.text_mgr.specs.TextDesks.{TextsState, texts_show}
use Rattle.text_mgr.specs.TextSteps.{IsTextStep}
use Rattle.desk_toolbox.specs.Run.{AreControlsLeft, AreListsLeft, AreTextsLeft, IsWindowAnswer, IsWindowMade, IsStep, replied}
use Rattle.desk_toolbox.specs.ToolboxStates.{ToolboxState, with_controls, with_lists, with_texts}
use Rattle.desk_toolbox.proofs.EachManager.{HoldsOfEach, of_step}
use Rattle.desk_call.specs.declared.outline.OutlineCall.{OutlineCall}
use Rattle.desk_call.specs.declared.outline.OutlineCall.TheVariants.{Drag, StepDrag, EndDrag, Grow, StepGrow, EndGrow}
use Rattle.desk_call.specs.Gates.{outline_standing}
use Rattle.desk_toolbox.proofs.ListStands.{list_comes_then}
use Rattle.desk_toolbox.proofs.TextStands.{AtMostText, text_comes_then}
use Rattle.desk_toolbox.proofs.AskingCalls.{asked_changes_nothing, window_asks}
use Rattle.desk_toolbox.proofs.TrackedControls.{AtMostControl, comes_then}
use Rattle.desk_toolbox.proofs.UpdatesBeside.{frame_comes_apart, menu_comes_apart}

-- the kinds of layers that were drawn, once this call was answered so
abbrev pub with_drawn : Call → Result Reply Refusal → List LayerKind → List LayerKind
with_drawn (Update (update.Draw d)) (Ok answer) kinds = d.layers ∷ kinds
with_drawn _ _ kinds = kinds

refused_draws_none : (call : Call) (e : Refusal) (kinds : List LayerKind) → with_drawn call (Err e) kinds ≡ kinds
refused_draws_none (Window call) e kinds = refl
refused_draws_none (Update (update.Invalidate m)) e kinds = refl
refused_draws_none (Update (update.Validate m)) e kinds = refl
refused_draws_none (Update (update.Begin s)) e kinds = refl
refused_draws_none (Update (update.Draw d)) e kinds = refl
refused_draws_none (Update (update.End s)) e kinds = refl
refused_draws_none (Update (update.Serve s)) e kinds = refl
refused_draws_none (Frame call) e kinds = refl
refused_draws_none (Control call) e kinds = refl
refused_draws_none (calls.List call) e kinds = refl
refused_draws_none (calls.Text call) e kinds = refl
refused_draws_none (Menu call) e kinds = refl
refused_draws_none (calls.Outline call) e kinds = refl
refused_draws_none (Event call) e kinds = refl

-- ---- a call on windows that asks

answer_asks : (asked : Option PixelSet) (call : WindowCall) (answer : Result WindowReply Refusal) (before after : DeskState) → IsWindowAnswer asked call answer before after → window_standing call ≡ Asks → IsUnchanged before.windows after.windows
answer_asks None call answer before after step e = asked_changes_nothing call answer before.windows after.windows step.1 e
answer_asks (Some set) call answer before after step e = step.1.windows

answer_stays_open : (asked : Option PixelSet) (call : WindowCall) (answer : Result WindowReply Refusal) (before after : DeskState) → IsWindowAnswer asked call answer before after → SameActivity before after
answer_stays_open None call answer before after step = step.0
answer_stays_open (Some set) call answer before after step = record { activity = step.1.activity; begun = step.1.begun }

asking_leaves_controls : (call : WindowCall) (before after : ControlsState) → window_standing call ≡ Asks → AreControlsLeft call before after → after ≡ before
asking_leaves_controls (asks.Dispose s) before after e left = absurd (cc)
asking_leaves_controls call before after e left = left

asking_leaves_lists : (call : WindowCall) (before after : ListsState) → window_standing call ≡ Asks → AreListsLeft call before after → after ≡ before
asking_leaves_lists (asks.Dispose s) before after e left = absurd (cc)
asking_leaves_lists call before after e left = left

asking_leaves_texts : (call : WindowCall) (before after : TextsState) → window_standing call ≡ Asks → AreTextsLeft call before after → after ≡ before
asking_leaves_texts (asks.Dispose s) before after e left = absurd (cc)
asking_leaves_texts call before after e left = left

-- what these controls, lists and text records show
abbrev contents_show : ControlsState → ListsState → TextsState → List ℕ → Part → PixelSet
contents_show c l t = controls_show (lists_show (texts_show (λ font. all_white) t.texts) l.lists) c.controls

-- where the windows show the controls, the lists and the text records, they still do so once a call asked
shown_still : (before after : ToolboxState) (middle : FullState) → ShowsControls (with_controls before) → after.controls ≡ before.controls → after.lists ≡ before.lists → after.texts ≡ before.texts
    → after.desk.windows ≡ record middle { desk = record middle.desk { shows = contents_show after.controls after.lists after.texts middle.desk.font } }
    → IsUnchanged before.desk.windows middle → IsUnchanged before.desk.windows after.desk.windows
shown_still before after middle shows controls lists texts is same =
    let look : FullDesk → FullDesk = λ d. record d { shows = contents_show after.controls after.lists after.texts d.font } in
    let shown : look before.desk.windows.desk ≡ before.desk.windows.desk =
    λ i. record before.desk.windows.desk { shows = ((λ j. contents_show (controls j) (lists j) (texts j) before.desk.windows.desk.font) ∙ sym shows) i } in
    record {
      desk = ap (λ (s : FullState). s.desk) is ∙ ap look same.desk ∙ shown;
      stale = λ p on. ap (λ (s : FullState). s.stale p) is ∙ same.stale p on;
      image = λ p on. ap (λ (s : FullState). s.image p) is ∙ same.image p on;
    }

made_changes_nothing : (call : WindowCall) (answer : Result WindowReply Refusal) (before after : ToolboxState) → window_standing call ≡ Asks → ShowsControls (with_controls before) → IsWindowMade call answer before after → IsUnchanged before.desk.windows after.desk.windows
made_changes_nothing call (Ok answer) before after e shows made =
    let told_is : made.told ≡ made.middle.windows = subst (λ standing. IsCaughtUpBy standing made.middle.windows made.told) e made.caught_up in
    shown_still before after made.told shows (asking_leaves_controls call before.controls after.controls e made.controls) (asking_leaves_lists call before.lists after.lists e made.lists)
    (asking_leaves_texts call before.texts after.texts e made.texts) made.shown
    (subst (λ (s : FullState). IsUnchanged before.desk.windows s) (sym told_is) (answer_asks (narrowed call before.desk.activity before.desk.begun) call (Ok answer) before.desk made.middle made.answered e))
made_changes_nothing call (Err e) before after asks_only shows step = answer_asks (narrowed call before.desk.activity before.desk.begun) call (Err e) before.desk after.desk step.0 asks_only

pub made_stays_open : (call : WindowCall) (answer : Result WindowReply Refusal) (before after : ToolboxState) → IsWindowMade call answer before after → SameActivity before.desk after.desk
made_stays_open call (Ok answer) before after made =
    let first = answer_stays_open (narrowed call before.desk.activity before.desk.begun) call (Ok answer) before.desk made.middle made.answered in
    record { activity = made.activity.activity ∙ first.activity; begun = made.activity.begun ∙ first.begun }
made_stays_open call (Err e) before after step = answer_stays_open (narrowed call before.desk.activity before.desk.begun) call (Err e) before.desk after.desk step.0

-- ---- each call while the update of a window is open

module _ (s : ℕ) where
  -- the update is still open, its begin is as it was, and of the windows no more changed than was drawn
  pub record GoesOn (call : Call) (answer : Result Reply Refusal) (before after : ToolboxState) : Type 0 where
    pub activity : after.desk.activity ≡ Updating s
    pub begun : after.desk.begun ≡ before.desk.begun
    pub drawn : ShowsControls (with_controls before) → (kinds : List LayerKind) (first : FullState) → AreDrawnSince s kinds first before.desk.windows → AreDrawnSince s (with_drawn call answer kinds) first after.desk.windows

  abbrev GoesOnOpen : Call → Result Reply Refusal → ToolboxState → ToolboxState → Type 0
  GoesOnOpen call answer before after = before.desk.activity ≡ Updating s → call ≢ Update (update.End s) → GoesOn call answer before after

  -- no call changed anything
  still_open : (call : Call) (answer : Result Reply Refusal) (before after : ToolboxState) → ((kinds : List LayerKind) → with_drawn call answer kinds ≡ kinds) → before.desk.activity ≡ Updating s → IsDeskUnchanged before.desk after.desk → GoesOn call answer before after
  still_open call answer before after none opened same = record {
    activity = same.activity ∙ opened;
    begun = same.begun;
    drawn = λ shows kinds first was. subst (λ ks. AreDrawnSince s ks first after.desk.windows) (sym (none kinds)) (drawn_stay s kinds first before.desk.windows after.desk.windows was same.windows);
  }

  may_then : (a : Activity) (standing : Standing) → a ≡ Updating s → gate a standing ≡ None → gate (Updating s) standing ≡ None
  may_then a standing opened may = subst (λ b. gate b standing ≡ None) opened may

  window_goes_on : (call : WindowCall) (answer : Result WindowReply Refusal) (before after : ToolboxState) → gate before.desk.activity (window_standing call) ≡ None → IsWindowMade call answer before after → before.desk.activity ≡ Updating s → GoesOn (Window call) (replied reply.Window answer) before after
  window_goes_on call answer before after may step opened =
      let asks_only = window_asks call (Updating s) refl (may_then before.desk.activity (window_standing call) opened may) in
      let same = made_stays_open call answer before after step in
      record {
        activity = same.activity ∙ opened;
        begun = same.begun;
        drawn = λ shows kinds first was. drawn_stay s kinds first before.desk.windows after.desk.windows was (made_changes_nothing call answer before after asks_only shows step);
      }

  -- a draw, or the end, is one of this window
  same_window : (t : ℕ) → gate (Updating s) (Updates t) ≡ None → s ≡ t
  same_window t may = by_test (s == t) refl may
    where
      by_test : (b : Bool) → (s == t) ≡ b → (if b then None else Some NotBusy) ≡ None → s ≡ t
      by_test true e h = eqb-true s t e
      by_test false e h = absurd (cc)

  update_goes_on : (call : UpdateCall) (answer : Result WindowReply Refusal) (before after : ToolboxState) → gate (Updating s) (update_standing call) ≡ None → IsUpdateStep call answer before.desk after.desk → before.desk.activity ≡ Updating s → Update call ≢ Update (update.End s) → GoesOn (Update call) (replied reply.Window answer) before after
  update_goes_on (update.Draw d) (Ok answer) before after may step opened rests = record {
    activity = step.1.1.0.activity ∙ opened;
    begun = step.1.1.0.begun;
    drawn = λ shows kinds first was. drawn_more s d.layers kinds first before.desk.windows after.desk.windows was
        (subst (λ t. IsRefreshed (is_of_kind d.layers t) before.desk.windows after.desk.windows) (sym (same_window d.window may)) step.1.1.1);
  }
  update_goes_on (update.Draw d) (Err e) before after may step opened rests = still_open (Update (update.Draw d)) (Err e) before after (λ kinds. refl) opened step.1
  update_goes_on (update.End t) answer before after may step opened rests = absurd (rests (ap (λ n. Update (update.End n)) (sym (same_window t may))))
  update_goes_on (update.Invalidate m) answer before after may step opened rests = absurd (cc)
  update_goes_on (update.Validate m) answer before after may step opened rests = absurd (cc)
  update_goes_on (update.Begin t) answer before after may step opened rests = absurd (cc)
  update_goes_on (update.Serve t) answer before after may step opened rests = absurd (cc)

  not_control : AtMostControl (Updating s) → ⊥
  not_control most = ⊎_elim (λ idle. absurd (cc)) (λ (k, is). absurd (cc)) most

  control_goes_on : (call : ControlCall) (answer : Result ControlReply Refusal) (before after : ToolboxState) → gate before.desk.activity (control_standing call) ≡ None → IsControlStep call answer (with_controls before) (with_controls after) → before.desk.activity ≡ Updating s → GoesOn (Control call) (replied reply.Control answer) before after
  control_goes_on call (Err e) before after may step opened = still_open (Control call) (Err e) before after (λ kinds. refl) opened step.1.desk
  control_goes_on call (Ok answer) before after may step opened = ⊎_elim
      (λ same. still_open (Control call) (Ok (reply.Control answer)) before after (λ kinds. refl) opened same.desk)
      (λ most. absurd (not_control (subst AtMostControl opened most)))
      (comes_then call answer (with_controls before) (with_controls after) may step.1)

  not_idle : Updating s ≡ Idle → ⊥
  not_idle is = absurd (cc)

  list_goes_on : (call : ListCall) (answer : Result ListReply Refusal) (before after : ToolboxState) → gate before.desk.activity (list_standing call) ≡ None → IsListStep call answer (with_lists before) (with_lists after) → before.desk.activity ≡ Updating s → GoesOn (calls.List call) (replied reply.List answer) before after
  list_goes_on call (Err e) before after may step opened = still_open (calls.List call) (Err e) before after (λ kinds. refl) opened step.1.desk
  list_goes_on call (Ok answer) before after may step opened = ⊎_elim
      (λ same. still_open (calls.List call) (Ok (reply.List answer)) before after (λ kinds. refl) opened same.desk)
      (λ idle. absurd (not_idle (sym opened ∙ idle)))
      (list_comes_then call answer (with_lists before) (with_lists after) may step.1)

  not_text : AtMostText (Updating s) → ⊥
  not_text most = ⊎_elim (λ idle. absurd (cc)) (λ (k, is). absurd (cc)) most

  text_goes_on : (call : TextCall) (answer : Result TextReply Refusal) (before after : ToolboxState) → gate before.desk.activity (text_standing call) ≡ None → IsTextStep call answer (with_texts before) (with_texts after) → before.desk.activity ≡ Updating s → GoesOn (calls.Text call) (replied reply.Text answer) before after
  text_goes_on call (Err e) before after may step opened = still_open (calls.Text call) (Err e) before after (λ kinds. refl) opened step.1.desk
  text_goes_on call (Ok answer) before after may step opened = ⊎_elim
      (λ same. still_open (calls.Text call) (Ok (reply.Text answer)) before after (λ kinds. refl) opened same.desk)
      (λ most. absurd (not_text (subst AtMostText opened most)))
      (text_comes_then call answer (with_texts before) (with_texts after) may step.1)

  none_is_outlined : (call : OutlineCall) → gate (Updating s) (outline_standing call) ≡ None → ⊥
  none_is_outlined (Drag d) may = absurd (cc)
  none_is_outlined (StepDrag p) may = absurd (cc)
  none_is_outlined (EndDrag p) may = absurd (cc)
  none_is_outlined (Grow g) may = absurd (cc)
  none_is_outlined (StepGrow p) may = absurd (cc)
  none_is_outlined (EndGrow p) may = absurd (cc)

  each_goes_on : HoldsOfEach GoesOnOpen
  each_goes_on = record {
    unchanged = λ call e before after same opened rests. still_open call (Err e) before after (refused_draws_none call e) opened same.desk;
    covered = λ p before after same opened rests. still_open (Window (asks.Find p)) (Ok (reply.Window _)) before after (λ kinds. refl) opened same.desk;
    hidden = λ p before after same opened rests. still_open (Control _) (Ok (reply.Control _)) before after (λ kinds. refl) opened same.desk;
    window = λ call answer before after may step opened rests. window_goes_on call answer before after may step opened;
    update = λ call answer before after may step rest opened rests. update_goes_on call answer before after (may_then before.desk.activity (update_standing call) opened may) step opened rests;
    frame = λ call answer before after may step rest opened rests. absurd (frame_comes_apart call (Updating s) (may_then before.desk.activity (frame_standing call) opened may));
    control = λ call answer before after may step events lists texts menus opened rests. control_goes_on call answer before after may step opened;
    list = λ call answer before after may step events texts menus opened rests. list_goes_on call answer before after may step opened;
    text = λ call answer before after may step events controls lists menus opened rests. text_goes_on call answer before after may step opened;
    menu = λ call answer before after may step events controls lists texts opened rests. absurd (menu_comes_apart call (Updating s) (may_then before.desk.activity (menu_standing call) opened may));
    outline = λ call answer before after may step rest opened rests. absurd (none_is_outlined call (may_then before.desk.activity (outline_standing call) opened may));
    moved = λ call move before after may step opened rests. absurd (none_is_outlined call (may_then before.desk.activity (outline_standing call) opened may));
    event = λ call answer before after step opened rests. still_open (Event call) (replied reply.Event answer) before after (λ kinds. refl) opened step.desk;
  }

  pub step_goes_on : (call : Call) (answer : Result Reply Refusal) (before after : ToolboxState) → IsStep call answer before after → before.desk.activity ≡ Updating s → call ≢ Update (update.End s) → GoesOn call answer before after
  step_goes_on = of_step GoesOnOpen each_goes_on
