-- The controls, the lists and the text records of a desk stay whole, and its windows show them, beside the calls of the other
-- managers.
use Rattle.std.proofs.Common.{◌≡◌, ℕ, ◌≤◌, ◌==◌, Bool, true, false, if◌then◌else◌, List, [], ◌∷◌, Result, refl, sym, ◌∙◌, subst, arith}
use Rattle.std.proofs.lemmas.Bool.{eqb-true}
use Rattle.std.proofs.lemmas.List.Elements.{All-head, All-tail, All-weaker}
use Rattle.std.specs.Prelude.{All}
use Rattle.tb_geom.specs.declared.refusal.Refusal.{Refusal}
use Rattle.def_iface.specs.WindowNews.{WindowNews, told_title, told_highlighted, told_tracked}
use Rattle.window_items.specs.Items.{items_of}
use Rattle.desk_call.specs.declared.frame.FrameCall.{FrameCall}
use Rattle.desk_call.specs.declared.frame.FrameReply.{FrameReply}
use Rattle.desk_call.specs.declared.activity.Standing.{Standing}
use Rattle.desk_call.specs.declared.menu.MenuCall.{MenuCall}
use Rattle.desk_call.specs.declared.update.UpdateCall.{UpdateCall}
use Rattle.desk_call.specs.declared.window.WindowReply.{WindowReply}
use Rattle.window_update.specs.UpdateSteps.{IsUpdateStep}
use Rattle.menu_mgr.specs.MenuDesks.{MenuDesk}
use Rattle.desk_toolbox.proofs.UpdatedDesks.{update_keeps_desk}
use Rattle.desk_call.specs.declared.menu.MenuReply.{MenuReply}
use Rattle.vis_update.specs.Records.{WindowRecord}
use Rattle.window_mgr.specs.DeskStates.{DeskState}
use Rattle.window_mgr.specs.FrameNotices.{IsFrameNotified}
use Rattle.window_mgr.specs.FullDesk.{FullDesk, FullState, IsRightState}
use Rattle.window_mgr.specs.Refused.{is_missing}
use Rattle.window_frame.specs.Followers.{Flag, IsCaughtUpBy, told_flag, with_heard}
use Rattle.window_frame.specs.Followers.Flag.{Highlighting, Zooming}
use Rattle.window_frame.specs.FrameSteps.{IsFrameStep, with_flag, with_title, with_tracked}
use Rattle.window_frame.proofs.FrameKeeps.{frame_keeps}
use Rattle.window_frame.proofs.ToldSteps.{HoldsOfFrames, of_caught_up, of_frame}
use Rattle.window_paint.specs.White.{all_white}
use Rattle.control_mgr.specs.ControlDesks.{ControlRecord, ControlsState, controls_show}
use Rattle.control_mgr.specs.ControlSteps.{AreLayersOf}
use Rattle.control_mgr.specs.WholeControls.{AreWholeControls}
use Rattle.list_mgr.specs.ListDesks.{KeptList, ListsState, lists_show}
use Rattle.list_mgr.specs.ListSteps.{AreListLayers}
use Rattle.list_mgr.specs.WholeLists.{AreWholeLists}
use Rattle.text_mgr.specs.TextDesks.{KeptText, TextsState, texts_show}
use Rattle.text_mgr.specs.TextLayers.{AreTextLayersOf}
use Rattle.text_mgr.specs.WholeTexts.{AreWholeTexts}
use Rattle.menu_mgr.specs.MenuSteps.{IsMenuStep}
use Rattle.menu_mgr.proofs.MenuKeeps.{menu_keeps}
use Rattle.desk_toolbox.specs.Reached.{AreContentsRight}
use Rattle.desk_toolbox.specs.ToolboxStates.{ToolboxState, with_menus}
use Rattle.desk_toolbox.proofs.Bonds.{Bond, Every, every_all, all_every, every_changed}
use Rattle.desk_toolbox.proofs.StepCounts.{frame_counts}
use Rattle.desk_toolbox.proofs.Totals.{copies, counted_is_found, either_class, found_counts}
use Rattle.desk_toolbox.specs.KnownLayers.{AreLayersKnown}
use Rattle.desk_toolbox.proofs.KnownLayers.{known_to}

-- a right state whose controls, lists and text records are whole and shown
pub record IsRightToolbox (s : ToolboxState) : Type 0 where
  pub right : IsRightState s.desk.windows
  pub contents : AreContentsRight s

-- ---- the same desk, and the same controls, lists and text records

pub still : (before after : ToolboxState) → after.desk.windows.desk ≡ before.desk.windows.desk → after.controls ≡ before.controls → after.lists ≡ before.lists → after.texts ≡ before.texts → AreContentsRight before → AreContentsRight after
still before after desk controls lists texts was = record {
  controls = subst (λ (x : FullDesk × ControlsState). AreWholeControls x.0.windows x.1) (λ i. (sym desk i, sym controls i)) was.controls;
  lists = subst (λ (x : FullDesk × ListsState). AreWholeLists x.0.windows x.1) (λ i. (sym desk i, sym lists i)) was.lists;
  texts = subst (λ (x : FullDesk × TextsState). AreWholeTexts x.0.windows x.1) (λ i. (sym desk i, sym texts i)) was.texts;
  known = subst (λ (d : FullDesk). AreLayersKnown d.windows) (sym desk) was.known;
  shown = subst (λ (x : FullDesk × ControlsState × ListsState × TextsState). x.0.shows ≡ controls_show (lists_show (texts_show (λ font. all_white) x.3.texts) x.2.lists) x.1.controls x.0.font) (λ i. (sym desk i, sym controls i, sym lists i, sym texts i)) was.shown;
}

-- ---- the same controls, beside other windows

-- a window's layers begin with its controls'
abbrev pub joined_to : List ControlRecord → Bond
joined_to cs n floating ls = AreLayersOf (items_of n cs) ls

pub whole_on : (s : ControlsState) (ws vs : List WindowRecord) → ((x : ℕ) → copies x ws ≤ copies x vs) → Every (joined_to s.controls) vs → AreWholeControls ws s → AreWholeControls vs s
whole_on s ws vs more every whole = record {
  settled = whole.settled;
  apart = whole.apart;
  given = whole.given;
  somewhere = All-weaker (λ (c : ControlRecord). is_missing c.window ws ≡ false) (λ (c : ControlRecord). is_missing c.window vs ≡ false)
      (λ c h. let some = found_counts c.window ws h in let m = more c.window in counted_is_found c.window vs (omega arith)) s.controls whole.somewhere;
  few = whole.few;
  joined = every_all (joined_to s.controls) vs every;
  stocked = whole.stocked;
}

pub joined_every : (s : ControlsState) (ws : List WindowRecord) → AreWholeControls ws s → Every (joined_to s.controls) ws
joined_every s ws whole = all_every (joined_to s.controls) ws whole.joined

-- so are whole lists
abbrev pub listed_to : List KeptList → Bond
listed_to ls n floating layers = AreListLayers (items_of n ls) layers

pub lists_on : (s : ListsState) (ws vs : List WindowRecord) → ((x : ℕ) → copies x ws ≤ copies x vs) → Every (listed_to s.lists) vs → AreWholeLists ws s → AreWholeLists vs s
lists_on s ws vs more every whole = record {
  settled = whole.settled;
  apart = whole.apart;
  given = whole.given;
  somewhere = All-weaker (λ (l : KeptList). is_missing l.window ws ≡ false) (λ (l : KeptList). is_missing l.window vs ≡ false)
      (λ l h. let some = found_counts l.window ws h in let m = more l.window in counted_is_found l.window vs (omega arith)) s.lists whole.somewhere;
  few = whole.few;
  joined = every_all (listed_to s.lists) vs every;
  stocked = whole.stocked;
}

pub listed_every : (s : ListsState) (ws : List WindowRecord) → AreWholeLists ws s → Every (listed_to s.lists) ws
listed_every s ws whole = all_every (listed_to s.lists) ws whole.joined

-- so are whole text records
abbrev pub texted_to : List KeptText → Bond
texted_to ts n floating layers = AreTextLayersOf (items_of n ts) layers

pub texts_on : (s : TextsState) (ws vs : List WindowRecord) → ((x : ℕ) → copies x ws ≤ copies x vs) → Every (texted_to s.texts) vs → AreWholeTexts ws s → AreWholeTexts vs s
texts_on s ws vs more every whole = record {
  boxes = whole.boxes;
  apart = whole.apart;
  given = whole.given;
  somewhere = All-weaker (λ (t : KeptText). is_missing t.window ws ≡ false) (λ (t : KeptText). is_missing t.window vs ≡ false)
      (λ t h. let some = found_counts t.window ws h in let m = more t.window in counted_is_found t.window vs (omega arith)) s.texts whole.somewhere;
  few = whole.few;
  joined = every_all (texted_to s.texts) vs every;
}

pub texted_every : (s : TextsState) (ws : List WindowRecord) → AreWholeTexts ws s → Every (texted_to s.texts) ws
texted_every s ws whole = all_every (texted_to s.texts) ws whole.joined

-- a window that is not there has no lists
pub no_lists_of_missing : (n : ℕ) (ls : List KeptList) (ws : List WindowRecord) → All (λ l. is_missing l.window ws ≡ false) ls → copies n ws ≡ 0 → items_of n ls ≡ []
no_lists_of_missing n [] ws there none = refl
no_lists_of_missing n (l ∷ ls) ws there none =
    by_this (l.window == n) refl
    (no_lists_of_missing n ls ws (All-tail (λ (l : KeptList). is_missing l.window ws ≡ false) l ls there) none)
    (found_counts l.window ws (All-head (λ (l : KeptList). is_missing l.window ws ≡ false) l ls there))
  where
    by_this : (b : Bool) → (l.window == n) ≡ b → items_of n ls ≡ [] → 1 ≤ copies l.window ws → (if b then l ∷ items_of n ls else items_of n ls) ≡ []
    by_this true same rest some =
        let its : 1 ≤ copies n ws = subst (λ m. 1 ≤ copies m ws) (eqb-true l.window n same) some in
        absurd (omega arith)
    by_this false other rest some = rest

-- nor has it text records
pub no_texts_of_missing : (n : ℕ) (ts : List KeptText) (ws : List WindowRecord) → All (λ t. is_missing t.window ws ≡ false) ts → copies n ws ≡ 0 → items_of n ts ≡ []
no_texts_of_missing n [] ws there none = refl
no_texts_of_missing n (t ∷ ts) ws there none =
    by_this (t.window == n) refl
    (no_texts_of_missing n ts ws (All-tail (λ (t : KeptText). is_missing t.window ws ≡ false) t ts there) none)
    (found_counts t.window ws (All-head (λ (t : KeptText). is_missing t.window ws ≡ false) t ts there))
  where
    by_this : (b : Bool) → (t.window == n) ≡ b → items_of n ts ≡ [] → 1 ≤ copies t.window ws → (if b then t ∷ items_of n ts else items_of n ts) ≡ []
    by_this true same rest some =
        let its : 1 ≤ copies n ws = subst (λ m. 1 ≤ copies m ws) (eqb-true t.window n same) some in
        absurd (omega arith)
    by_this false other rest some = rest

-- nor has it controls
pub none_of_missing : (n : ℕ) (cs : List ControlRecord) (ws : List WindowRecord) → All (λ c. is_missing c.window ws ≡ false) cs → copies n ws ≡ 0 → items_of n cs ≡ []
none_of_missing n [] ws there none = refl
none_of_missing n (c ∷ cs) ws there none =
    by_this (c.window == n) refl
    (none_of_missing n cs ws (All-tail (λ (c : ControlRecord). is_missing c.window ws ≡ false) c cs there) none)
    (found_counts c.window ws (All-head (λ (c : ControlRecord). is_missing c.window ws ≡ false) c cs there))
  where
    by_this : (b : Bool) → (c.window == n) ≡ b → items_of n cs ≡ [] → 1 ≤ copies c.window ws → (if b then c ∷ items_of n cs else items_of n cs) ≡ []
    by_this true same rest some =
        let its : 1 ≤ copies n ws = subst (λ m. 1 ≤ copies m ws) (eqb-true c.window n same) some in
        absurd (omega arith)
    by_this false other rest some = rest

-- ---- definitions of windows that are told

module _ (B : Bond) where
  told_holds : (s : ℕ) (news : WindowRecord → WindowNews → WindowNews) (kept : WindowRecord → WindowRecord) → ((w : WindowRecord) → B w.serial w.floating w.layers → B (kept w).serial (kept w).floating (kept w).layers) → (before after : FullState) → IsFrameNotified s news kept before after → Every B before.desk.windows → Every B after.desk.windows
  told_holds s news kept same before after told h =
      subst (λ (d : FullDesk). Every B d.windows) (sym told.desk)
      (every_changed B s (λ w. record (kept w) { definition = told.definition }) same before.desk.windows h)

  heard_holds : (flag : Flag) (w : WindowRecord) → B w.serial w.floating w.layers → B (with_heard flag w).serial (with_heard flag w).floating (with_heard flag w).layers
  heard_holds Highlighting w h = h
  heard_holds Zooming w h = h

  abbrev StaysHeld : FullState → FullState → Type 0
  StaysHeld before after = Every B before.desk.windows → Every B after.desk.windows

  frames_hold : HoldsOfFrames StaysHeld
  frames_hold = record {
    unchanged = λ before after same h. subst (λ (d : FullDesk). Every B d.windows) (sym same.desk) h;
    titled = λ title s before after told h. told_holds s (λ _. told_title title) (with_title title) (λ w k. k) before after told h;
    highlighted = λ on s before after told h. told_holds s (λ _. told_highlighted on) (with_flag on) (λ w k. k) before after told h;
    tracked = λ inside s before after told h. told_holds s (λ _. told_tracked inside) (with_tracked inside) (λ w k. k) before after told h;
  }

  pub caught_up_holds : (standing : Standing) (before after : FullState) → IsCaughtUpBy standing before after → Every B before.desk.windows → Every B after.desk.windows
  caught_up_holds = of_caught_up StaysHeld (record {
    same = λ s h. h;
    joined = λ first middle last one next h. next (one h);
    told = λ flag s before after told h. told_holds s (told_flag flag) (with_heard flag) (heard_holds flag) before after told h;
  })

  frame_holds : (call : FrameCall) (answer : Result FrameReply Refusal) (before after : DeskState) → IsFrameStep call answer before after → Every B before.windows.desk.windows → Every B after.windows.desk.windows
  frame_holds = of_frame StaysHeld frames_hold

-- ---- windows that have the same serials and layers

-- the same controls, lists and text records, shown in the same font
shown_on : (before after : ToolboxState) → after.desk.windows.desk.shows ≡ before.desk.windows.desk.shows → after.desk.windows.desk.font ≡ before.desk.windows.desk.font → after.controls ≡ before.controls → after.lists ≡ before.lists → after.texts ≡ before.texts → AreContentsRight before
    → after.desk.windows.desk.shows ≡ controls_show (lists_show (texts_show (λ font. all_white) after.texts.texts) after.lists.lists) after.controls.controls after.desk.windows.desk.font
shown_on before after shows font controls lists texts was =
    shows ∙ was.shown ∙ (λ i. controls_show (lists_show (texts_show (λ font. all_white) (sym texts i).texts) (sym lists i).lists) (sym controls i).controls (sym font i))

pub frames_leave : (call : FrameCall) (answer : Result FrameReply Refusal) (before after : DeskState) (s : ControlsState) → IsFrameStep call answer before after → AreWholeControls before.windows.desk.windows s → AreWholeControls after.windows.desk.windows s
frames_leave call answer before after s step whole =
    let counts = frame_counts call answer before after step in
    whole_on s before.windows.desk.windows after.windows.desk.windows (λ x. let count = counts.count either_class x in omega arith)
    (frame_holds (joined_to s.controls) call answer before after step (joined_every s before.windows.desk.windows whole)) whole

pub updates_leave : (call : UpdateCall) (answer : Result WindowReply Refusal) (before after : DeskState) (s : ControlsState) → IsUpdateStep call answer before after → AreWholeControls before.windows.desk.windows s → AreWholeControls after.windows.desk.windows s
updates_leave call answer before after s step whole = subst (λ (d : FullDesk). AreWholeControls d.windows s) (sym (update_keeps_desk call answer before after step)) whole

pub menus_leave : (call : MenuCall) (answer : Result MenuReply Refusal) (before after : MenuDesk) (s : ControlsState) → IsMenuStep call answer before after → AreWholeControls before.desk.windows.desk.windows s → AreWholeControls after.desk.windows.desk.windows s
menus_leave call answer before after s step whole = subst (λ ws. AreWholeControls ws s) (sym (menu_keeps (λ d. d.windows) (λ d titles. refl) call answer before after step)) whole

pub frames_leave_lists : (call : FrameCall) (answer : Result FrameReply Refusal) (before after : DeskState) (s : ListsState) → IsFrameStep call answer before after → AreWholeLists before.windows.desk.windows s → AreWholeLists after.windows.desk.windows s
frames_leave_lists call answer before after s step whole =
    let counts = frame_counts call answer before after step in
    lists_on s before.windows.desk.windows after.windows.desk.windows (λ x. let count = counts.count either_class x in omega arith)
    (frame_holds (listed_to s.lists) call answer before after step (listed_every s before.windows.desk.windows whole)) whole

pub updates_leave_lists : (call : UpdateCall) (answer : Result WindowReply Refusal) (before after : DeskState) (s : ListsState) → IsUpdateStep call answer before after → AreWholeLists before.windows.desk.windows s → AreWholeLists after.windows.desk.windows s
updates_leave_lists call answer before after s step whole = subst (λ (d : FullDesk). AreWholeLists d.windows s) (sym (update_keeps_desk call answer before after step)) whole

pub menus_leave_lists : (call : MenuCall) (answer : Result MenuReply Refusal) (before after : MenuDesk) (s : ListsState) → IsMenuStep call answer before after → AreWholeLists before.desk.windows.desk.windows s → AreWholeLists after.desk.windows.desk.windows s
menus_leave_lists call answer before after s step whole = subst (λ ws. AreWholeLists ws s) (sym (menu_keeps (λ d. d.windows) (λ d titles. refl) call answer before after step)) whole

pub frames_leave_texts : (call : FrameCall) (answer : Result FrameReply Refusal) (before after : DeskState) (s : TextsState) → IsFrameStep call answer before after → AreWholeTexts before.windows.desk.windows s → AreWholeTexts after.windows.desk.windows s
frames_leave_texts call answer before after s step whole =
    let counts = frame_counts call answer before after step in
    texts_on s before.windows.desk.windows after.windows.desk.windows (λ x. let count = counts.count either_class x in omega arith)
    (frame_holds (texted_to s.texts) call answer before after step (texted_every s before.windows.desk.windows whole)) whole

pub updates_leave_texts : (call : UpdateCall) (answer : Result WindowReply Refusal) (before after : DeskState) (s : TextsState) → IsUpdateStep call answer before after → AreWholeTexts before.windows.desk.windows s → AreWholeTexts after.windows.desk.windows s
updates_leave_texts call answer before after s step whole = subst (λ (d : FullDesk). AreWholeTexts d.windows s) (sym (update_keeps_desk call answer before after step)) whole

pub menus_leave_texts : (call : MenuCall) (answer : Result MenuReply Refusal) (before after : MenuDesk) (s : TextsState) → IsMenuStep call answer before after → AreWholeTexts before.desk.windows.desk.windows s → AreWholeTexts after.desk.windows.desk.windows s
menus_leave_texts call answer before after s step whole = subst (λ ws. AreWholeTexts ws s) (sym (menu_keeps (λ d. d.windows) (λ d titles. refl) call answer before after step)) whole

-- windows whose layers are controls', lists' and text records' alone have no others
pub frames_leave_known : (call : FrameCall) (answer : Result FrameReply Refusal) (before after : DeskState) → IsFrameStep call answer before after → AreLayersKnown before.windows.desk.windows → AreLayersKnown after.windows.desk.windows
frames_leave_known call answer before after step none =
    every_all known_to after.windows.desk.windows (frame_holds known_to call answer before after step (all_every known_to before.windows.desk.windows none))

pub updates_leave_known : (call : UpdateCall) (answer : Result WindowReply Refusal) (before after : DeskState) → IsUpdateStep call answer before after → AreLayersKnown before.windows.desk.windows → AreLayersKnown after.windows.desk.windows
updates_leave_known call answer before after step none = subst (λ (d : FullDesk). AreLayersKnown d.windows) (sym (update_keeps_desk call answer before after step)) none

pub menus_leave_known : (call : MenuCall) (answer : Result MenuReply Refusal) (before after : MenuDesk) → IsMenuStep call answer before after → AreLayersKnown before.desk.windows.desk.windows → AreLayersKnown after.desk.windows.desk.windows
menus_leave_known call answer before after step none = subst AreLayersKnown (sym (menu_keeps (λ d. d.windows) (λ d titles. refl) call answer before after step)) none

pub beside_frames : (call : FrameCall) (answer : Result FrameReply Refusal) (before after : ToolboxState) → IsFrameStep call answer before.desk after.desk → after.controls ≡ before.controls → after.lists ≡ before.lists → after.texts ≡ before.texts → AreContentsRight before → AreContentsRight after
beside_frames call answer before after step controls lists texts was = record {
  controls = subst (AreWholeControls after.desk.windows.desk.windows) (sym controls) (frames_leave call answer before.desk after.desk before.controls step was.controls);
  lists = subst (AreWholeLists after.desk.windows.desk.windows) (sym lists) (frames_leave_lists call answer before.desk after.desk before.lists step was.lists);
  texts = subst (AreWholeTexts after.desk.windows.desk.windows) (sym texts) (frames_leave_texts call answer before.desk after.desk before.texts step was.texts);
  known = frames_leave_known call answer before.desk after.desk step was.known;
  shown = shown_on before after (frame_keeps (λ d. d.shows) (λ d ws. refl) call answer before.desk after.desk step)
      (frame_keeps (λ d. d.font) (λ d ws. refl) call answer before.desk after.desk step) controls lists texts was;
}

pub beside_menus : (call : MenuCall) (answer : Result MenuReply Refusal) (before after : ToolboxState) → IsMenuStep call answer (with_menus before) (with_menus after) → after.controls ≡ before.controls → after.lists ≡ before.lists → after.texts ≡ before.texts → AreContentsRight before → AreContentsRight after
beside_menus call answer before after step controls lists texts was = record {
  controls = subst (AreWholeControls after.desk.windows.desk.windows) (sym controls) (menus_leave call answer (with_menus before) (with_menus after) before.controls step was.controls);
  lists = subst (AreWholeLists after.desk.windows.desk.windows) (sym lists) (menus_leave_lists call answer (with_menus before) (with_menus after) before.lists step was.lists);
  texts = subst (AreWholeTexts after.desk.windows.desk.windows) (sym texts) (menus_leave_texts call answer (with_menus before) (with_menus after) before.texts step was.texts);
  known = menus_leave_known call answer (with_menus before) (with_menus after) step was.known;
  shown = shown_on before after (menu_keeps (λ d. d.shows) (λ d titles. refl) call answer (with_menus before) (with_menus after) step)
      (menu_keeps (λ d. d.font) (λ d titles. refl) call answer (with_menus before) (with_menus after) step) controls lists texts was;
}
