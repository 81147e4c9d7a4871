-- Text records are there only where calls ask for them, and the scrap outlives windows.
use Rattle.std.proofs.Common.{◌≡◌, ℕ, zero, suc, Bool, true, false, List, [], ◌∷◌, Result, Ok, Err, refl, sym, ap, ◌∙◌, arith}
use Rattle.std.specs.Prelude.{All, Contains, ◌<◌}
use Rattle.std.specs.List.{remove}
use Rattle.std.proofs.lemmas.Bool.{false≢true}
use Rattle.std.proofs.lemmas.List.Elements.{All-head, All-tail}
use Rattle.tb_geom.specs.declared.point.Point.{Point}
use Rattle.tb_geom.specs.declared.refusal.Refusal.{Refusal}
use Rattle.desk_call.specs.declared.activity.Activity.{Activity}
use Rattle.desk_call.specs.declared.activity.Activity.TheVariants.{Idle, Updating, Tracking, Pulling, TrackingControl, Dragging, Growing, Selecting}
use Rattle.desk_call.specs.declared.call.Call.{Call}
use Rattle.desk_call.specs.declared.call.Call.TheVariants as calls
use Rattle.desk_call.specs.declared.call.Reply.{Reply}
use Rattle.desk_call.specs.declared.text.ClickText.{ClickText}
use Rattle.desk_call.specs.declared.text.TextCall.{TextCall}
use Rattle.desk_call.specs.declared.text.TextCall.TheVariants as call
use Rattle.desk_call.specs.declared.text.TextOf.{TextOf}
use Rattle.desk_call.specs.declared.text.TextReply.{TextReply}
use Rattle.desk_call.specs.declared.window.WindowCall.{WindowCall}
use Rattle.desk_call.specs.declared.window.WindowCall.TheVariants as windows
use Rattle.desk_call.specs.declared.window.WindowReply.{WindowReply}
use Rattle.desk_call.specs.declared.window.WindowReply.TheVariants as window_reply
use Rattle.text_record.specs.Texts.{Record}
use Rattle.text_edits.specs.declared.selecting.ClickMode.{ClickMode}
use Rattle.text_edits.specs.Selecting.{is_clicked}
use Rattle.window_items.specs.Items.{edit_at, with_kept}
use Rattle.text_mgr.specs.TextDesks.{KeptText, TextDesk, TextsState}
use Rattle.text_mgr.specs.TextSteps.{IsOpenedIf, IsScrapSet, IsSelected, IsTextChanged, IsTextEdited, IsTextEffect, IsTextStep}
use Rattle.desk_toolbox.specs.Run.{AreTextsLeft, IsRunOfCalls, IsStep, IsWindowMade, put_down}
use Rattle.desk_toolbox.specs.ToolboxStates.{ToolboxState, with_texts}
use Rattle.desk_toolbox.proofs.EachManager.{HoldsOfEach, of_step}
use Rattle.desk_laws.specs.TextsAsked.{asks_for_text}

-- ---- the scrap

left_scrap : (call : WindowCall) (before after : TextsState) → AreTextsLeft call before after → after.scrap ≡ before.scrap
left_scrap (windows.Dispose s) before after left = left.scrap
left_scrap call before after same = ap (λ (s : TextsState). s.scrap) same

abbrev KeepsScrap : Call → Result Reply Refusal → ToolboxState → ToolboxState → Type 0
KeepsScrap (calls.Window call) answer before after = after.texts.scrap ≡ before.texts.scrap
KeepsScrap _ answer before after = Unit {0}

refused_keeps_scrap : (call : Call) (e : Refusal) (before after : ToolboxState) → after.texts ≡ before.texts → KeepsScrap call (Err e) before after
refused_keeps_scrap (calls.Window call) e before after same = ap (λ (s : TextsState). s.scrap) same
refused_keeps_scrap (calls.Update call) e before after same = tt
refused_keeps_scrap (calls.Frame call) e before after same = tt
refused_keeps_scrap (calls.Control call) e before after same = tt
refused_keeps_scrap (calls.List call) e before after same = tt
refused_keeps_scrap (calls.Text call) e before after same = tt
refused_keeps_scrap (calls.Menu call) e before after same = tt
refused_keeps_scrap (calls.Outline call) e before after same = tt
refused_keeps_scrap (calls.Event call) e before after same = tt

window_keeps_scrap : (call : WindowCall) (answer : Result WindowReply Refusal) (before after : ToolboxState) → IsWindowMade call answer before after → after.texts.scrap ≡ before.texts.scrap
window_keeps_scrap call (Ok answer) before after step = left_scrap call before.texts after.texts step.texts
window_keeps_scrap call (Err e) before after step = ap (λ (s : TextsState). s.scrap) step.1.texts

each_keeps_scrap : HoldsOfEach KeepsScrap
each_keeps_scrap = record {
  unchanged = λ call e before after same. refused_keeps_scrap call e before after same.texts;
  covered = λ p before after same. ap (λ (s : TextsState). s.scrap) same.texts;
  hidden = λ p before after same. tt;
  window = λ call answer before after may step. window_keeps_scrap call answer before after step;
  update = λ call answer before after may step rest. tt;
  frame = λ call answer before after may step rest. tt;
  control = λ call answer before after may step events lists texts menus. tt;
  list = λ call answer before after may step events texts menus. tt;
  text = λ call answer before after may step events controls lists menus. tt;
  menu = λ call answer before after may step events controls lists texts. tt;
  outline = λ call answer before after may step rest. tt;
  moved = λ call move before after may step. tt;
  event = λ call answer before after step. tt;
}

pub scrap_stays : (call : WindowCall) (answer : Result Reply Refusal) (before after : ToolboxState) → IsStep (calls.Window call) answer before after → after.texts.scrap ≡ before.texts.scrap
scrap_stays call answer before after step = of_step KeepsScrap each_keeps_scrap (calls.Window call) answer before after step

-- ---- no text records

edit_none : (f : KeptText → KeptText) (at : ℕ) (none : List KeptText) → none ≡ [] → edit_at f at none ≡ []
edit_none f at [] is = refl
edit_none f at (t ∷ ts) is = absurd (cc)

remove_none : (at : ℕ) (none : List KeptText) → none ≡ [] → remove none at ≡ []
remove_none zero [] is = refl
remove_none (suc i) [] is = refl
remove_none at (t ∷ ts) is = absurd (cc)

-- those that stay were there
within_none : (ts us : List KeptText) → ts ≡ [] → All (Contains ts) us → us ≡ []
within_none ts [] is within = refl
within_none [] (u ∷ us) is within =
    let none : List KeptText = [] in
    let its = All-head (Contains none) u us within in
    absurd (nowhere its.0 its.1)
  where
    nowhere : (k : ℕ) → k < 0 → ⊥
    nowhere k low = omega (arith, low)
within_none (t ∷ ts) (u ∷ us) is within = absurd (cc)

module _ (before after : TextDesk) (none : before.texts.texts ≡ []) where
  abbrev StillNone : Type 0
  StillNone = after.texts.texts ≡ []

  still : after.texts ≡ before.texts → StillNone
  still same = ap (λ (s : TextsState). s.texts) same ∙ none

  changed_none : (t : TextOf) (f : Record → Record) (scrap : List ℕ) → IsTextChanged t f scrap before after → StillNone
  changed_none t f scrap done = ap (λ (s : TextsState). s.texts) done.texts ∙ edit_none (with_kept f) done.at before.texts.texts none

  edited_none : (t : TextOf) (c : TextCall) (answer : TextReply) → IsTextEdited t c answer before after → StillNone
  edited_none t c answer (is, activity, (x, named, done)) = changed_none t _ _ done.changed

  scrap_none : (bytes : List ℕ) → IsScrapSet bytes before after → StillNone
  scrap_none bytes done = ap (λ (s : TextsState). s.texts) done.texts ∙ none

  clicked_none : (b : Bool) (c : ClickText) (mode : ClickMode) (r : Record) (answer : TextReply) → IsOpenedIf b c mode r answer before after → StillNone
  clicked_none false c mode r answer (is, same) = still same.texts
  clicked_none true c mode r answer (is, opens, done) = changed_none c.text _ _ done.changed

  selected_none : (was now : Activity) (p : Point) (answer : TextReply) → IsSelected was now p answer before after → StillNone
  selected_none (Selecting k) now p answer (opens, (x, named, (is, done))) = changed_none k.text _ _ done.changed
  selected_none Idle now p answer wrong = absurd wrong
  selected_none (Updating s) now p answer wrong = absurd wrong
  selected_none (Tracking s) now p answer wrong = absurd wrong
  selected_none (Pulling m) now p answer wrong = absurd wrong
  selected_none (TrackingControl k) now p answer wrong = absurd wrong
  selected_none (Dragging d) now p answer wrong = absurd wrong
  selected_none (Growing g) now p answer wrong = absurd wrong

  effect_none : (c : TextCall) (answer : TextReply) → asks_for_text (calls.Text c) ≡ false → IsTextEffect c answer before after → StillNone
  effect_none (call.New n) answer other done = absurd (false≢true (sym other))
  effect_none (call.Place p) answer other (is, done) = changed_none p.text _ _ done.changed
  effect_none (call.Dispose t) answer other (is, gone) = ap (λ (s : TextsState). s.texts) gone.texts ∙ remove_none gone.at before.texts.texts none
  effect_none (call.Show t) answer other (is, done) = changed_none t _ _ done.changed
  effect_none (call.Hide t) answer other (is, done) = changed_none t _ _ done.changed
  effect_none (call.Set b) answer other done = edited_none b.text (call.Set b) answer done
  effect_none (call.Insert b) answer other done = edited_none b.text (call.Insert b) answer done
  effect_none (call.Delete t) answer other done = edited_none t (call.Delete t) answer done
  effect_none (call.Key n) answer other done = edited_none n.text (call.Key n) answer done
  effect_none (call.Cut t) answer other done = edited_none t (call.Cut t) answer done
  effect_none (call.Copy t) answer other (is, (x, named, done)) = scrap_none _ done
  effect_none (call.Paste t) answer other done = edited_none t (call.Paste t) answer done
  effect_none (call.Select z) answer other done = edited_none z.text (call.Select z) answer done
  effect_none (call.Activate f) answer other done = edited_none f.text (call.Activate f) answer done
  effect_none (call.Idle n) answer other done = edited_none n.text (call.Idle n) answer done
  effect_none (call.Justify n) answer other done = edited_none n.text (call.Justify n) answer done
  effect_none (call.Scroll z) answer other done = edited_none z.text (call.Scroll z) answer done
  effect_none (call.ShowSelection t) answer other done = edited_none t (call.ShowSelection t) answer done
  effect_none (call.Click c) answer other (mode, of, (x, named, done)) = clicked_none (is_clicked x.kept c.point) c mode x.kept answer done
  effect_none (call.Step p) answer other done = selected_none before.desk.activity before.desk.activity p answer done
  effect_none (call.End p) answer other done = selected_none before.desk.activity Idle p answer done
  effect_none (call.Get t) answer other (x, named, (is, same)) = still same.texts
  effect_none (call.Info t) answer other (x, named, (is, same)) = still same.texts
  effect_none (call.Line n) answer other (x, named, (is, same)) = still same.texts
  effect_none (call.PlaceOf n) answer other (x, named, (is, same)) = still same.texts
  effect_none (call.OffsetAt p) answer other (x, named, (is, same)) = still same.texts
  effect_none call.Scrap answer other (is, same) = still same.texts
  effect_none (call.SetScrap bytes) answer other (is, done) = scrap_none bytes done
  effect_none (call.Width bytes) answer other (is, same) = still same.texts
  effect_none call.FontInfo answer other (is, same) = still same.texts

  text_none : (c : TextCall) (result : Result TextReply Refusal) → asks_for_text (calls.Text c) ≡ false → IsTextStep c result before after → StillNone
  text_none c (Ok answer) other step = effect_none c answer other step.1
  text_none c (Err e) other step = still step.1.texts

left_none : (call : WindowCall) (before after : TextsState) → before.texts ≡ [] → AreTextsLeft call before after → after.texts ≡ []
left_none (windows.Dispose s) before after none left = within_none before.texts after.texts none left.within
left_none call before after none same = ap (λ (s : TextsState). s.texts) same ∙ none

window_none : (call : WindowCall) (answer : Result WindowReply Refusal) (before after : ToolboxState) → before.texts.texts ≡ [] → IsWindowMade call answer before after → after.texts.texts ≡ []
window_none call (Ok answer) before after none step = left_none call before.texts after.texts none step.texts
window_none call (Err e) before after none step = ap (λ (s : TextsState). s.texts) step.1.texts ∙ none

abbrev AddsNone : Call → Result Reply Refusal → ToolboxState → ToolboxState → Type 0
AddsNone call answer before after = asks_for_text call ≡ false → before.texts.texts ≡ [] → after.texts.texts ≡ []

same_none : (before after : ToolboxState) → after.texts ≡ before.texts → before.texts.texts ≡ [] → after.texts.texts ≡ []
same_none before after same none = ap (λ (s : TextsState). s.texts) same ∙ none

each_adds_none : HoldsOfEach AddsNone
each_adds_none = record {
  unchanged = λ call e before after same other none. same_none before after same.texts none;
  covered = λ p before after same other none. same_none before after same.texts none;
  hidden = λ p before after same other none. same_none before after same.texts none;
  window = λ call answer before after may step other none. window_none call answer before after none step;
  update = λ call answer before after may step rest other none. same_none before after rest.texts none;
  frame = λ call answer before after may step rest other none. same_none before after rest.texts none;
  control = λ call answer before after may step events lists texts menus other none. same_none before after texts none;
  list = λ call answer before after may step events texts menus other none. same_none before after texts none;
  text = λ call answer before after may step events controls lists menus other none. text_none (with_texts before) (with_texts after) none call answer other step;
  menu = λ call answer before after may step events controls lists texts other none. same_none before after texts none;
  outline = λ call answer before after may step rest other none. same_none before after rest.texts none;
  moved = λ call move before after may step other none. window_none (windows.Move move) (Ok window_reply.Done) (put_down before) after none step;
  event = λ call answer before after step other none. same_none before after step.texts none;
}

abbrev Other : Call → Type 0
Other call = asks_for_text call ≡ false

pub texts_only_where_asked : (first last : ToolboxState) (calls : List Call) (answers : List (Result Reply Refusal)) → IsRunOfCalls first calls answers last → All (λ call. asks_for_text call ≡ false) calls → first.texts.texts ≡ [] → last.texts.texts ≡ []
texts_only_where_asked first last [] [] run others none = ap (λ (s : ToolboxState). s.texts.texts) run ∙ none
texts_only_where_asked first last [] (answer ∷ answers) run others none = absurd run
texts_only_where_asked first last (c ∷ cs) [] run others none = absurd run
texts_only_where_asked first last (c ∷ cs) (answer ∷ answers) run others none =
    texts_only_where_asked run.0 last cs answers run.2 (All-tail Other c cs others)
    (of_step AddsNone each_adds_none c answer first run.0 run.1 (All-head Other c cs others) none)
