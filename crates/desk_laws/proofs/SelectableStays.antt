-- The text record in which the mouse selects is there after any call about text records, and has the bytes that stay selected.
use Rattle.std.proofs.Common.{◌≡◌, ℕ, Bool, true, false, List, None, Some, Result, Ok, Err, refl, sym, ap, ◌∙◌, subst}
use Rattle.std.specs.Prelude.{slice_get}
use Rattle.std.specs.Option.{option_and_then}
use Rattle.tb_geom.specs.declared.point.Point.{Point}
use Rattle.tb_geom.specs.declared.refusal.Refusal.{Refusal}
use Rattle.desk_call.specs.declared.activity.Activity.{Activity}
use Rattle.desk_call.specs.declared.activity.Activity.TheVariants.{Idle, Updating, Tracking, Pulling, TrackingControl, Dragging, Growing, Selecting}
use Rattle.desk_call.specs.declared.activity.Standing.TheVariants.{Changes}
use Rattle.desk_call.specs.declared.text.ClickText.{ClickText}
use Rattle.desk_call.specs.declared.text.TextCall.{TextCall}
use Rattle.desk_call.specs.declared.text.TextCall.TheVariants as call
use Rattle.desk_call.specs.declared.text.TextOf.{TextOf}
use Rattle.desk_call.specs.declared.text.TextReply.{TextReply}
use Rattle.desk_call.specs.Gates.{gate, text_standing}
use Rattle.text_record.specs.Texts.{Record}
use Rattle.text_edits.specs.declared.selecting.ClickMode.{ClickMode}
use Rattle.text_edits.specs.Selecting.{extended_to, is_clicked}
use Rattle.window_items.specs.Items.{edit_at, with_kept}
use Rattle.window_items.proofs.EditLemmas.{there_edited}
use Rattle.window_items.proofs.WindowLemmas.{item_index-edit_at}
use Rattle.text_mgr.specs.TextDesks.{IsTextDeskUnchanged, KeptText, TextDesk, TextsState, text_of}
use Rattle.text_mgr.specs.TextSteps.{IsOpenedIf, IsSelected, IsTextChanged, IsTextEffect, IsTextStep}
use Rattle.text_mgr.specs.WholeTexts.{IsSelectable}
use Rattle.desk_toolbox.specs.Reached.{AreRecords}
use Rattle.desk_laws.proofs.HeldTexts.{held_named, there_at}
use Rattle.desk_laws.proofs.SelectionsStay.{anchor_in}

-- a call that changes something comes where nothing is open
idle_now : (a : Activity) → gate a Changes ≡ None → a ≡ Idle
idle_now Idle may = refl
idle_now (Updating s) may = absurd (cc)
idle_now (Tracking s) may = absurd (cc)
idle_now (Pulling m) may = absurd (cc)
idle_now (TrackingControl k) may = absurd (cc)
idle_now (Dragging d) may = absurd (cc)
idle_now (Growing g) may = absurd (cc)
idle_now (Selecting k) may = absurd (cc)

module _ (before after : TextDesk) where
  abbrev Selectable : Type 0
  Selectable = IsSelectable after.desk.activity after.texts.texts

  still : IsTextDeskUnchanged before after → IsSelectable before.desk.activity before.texts.texts → Selectable
  still same its = subst (λ (x : Activity × TextsState). IsSelectable x.0 x.1.texts) (λ i. (sym same.desk.activity i, sym same.texts i)) its

  -- nothing is open
  when_idle : after.desk.activity ≡ Idle → Selectable
  when_idle idle = subst (λ a. IsSelectable a after.texts.texts) (sym idle) tt

  -- the text record that was changed is there then
  changed_named : (t : TextOf) (f : Record → Record) (scrap : List ℕ) (x : KeptText) → IsTextChanged t f scrap before after → text_of t before.texts.texts ≡ Some x → text_of t after.texts.texts ≡ Some (with_kept f x)
  changed_named t f scrap x done named =
      let ts = before.texts.texts in
      let there = there_at t ts done.at x done.found named in
      ap (λ (s : TextsState). text_of t s.texts) done.texts
      ∙ ap (option_and_then (slice_get (edit_at (with_kept f) done.at ts))) (item_index-edit_at (with_kept f) (λ y. refl) (λ y. refl) t.window t.text done.at ts ∙ done.found)
      ∙ there_edited (with_kept f) done.at ts x there

  clicked : (b : Bool) (c : ClickText) (mode : ClickMode) (x : KeptText) (answer : TextReply) → AreRecords before.texts → before.desk.activity ≡ Idle → text_of c.text before.texts.texts ≡ Some x → IsOpenedIf b c mode x.kept answer before after → Selectable
  clicked false c mode x answer held idle named (is, same) = when_idle (same.desk.activity ∙ idle)
  clicked true c mode x answer held idle named (is, opens, done) =
      let anchor = anchor_in mode c.point x.kept (held_named c.text before.texts.texts x held.texts named) in
      subst (λ a. IsSelectable a after.texts.texts) (sym opens.activity) (_, changed_named c.text _ _ x done.changed named, anchor.order, anchor.within)

  stepped : (a now : Activity) (p : Point) (answer : TextReply) → now ≡ a → IsSelectable a before.texts.texts → IsSelected a now p answer before after → Selectable
  stepped (Selecting k) now p answer same (t, there, order, within) (opens, (x, named, (is, done))) =
      subst (λ a. IsSelectable a after.texts.texts) (sym (opens.activity ∙ same))
      (with_kept (extended_to k.anchor k.mode p) t, changed_named k.text (extended_to k.anchor k.mode p) before.texts.scrap t done.changed there, order, within)
  stepped Idle now p answer same its wrong = absurd wrong
  stepped (Updating s) now p answer same its wrong = absurd wrong
  stepped (Tracking s) now p answer same its wrong = absurd wrong
  stepped (Pulling m) now p answer same its wrong = absurd wrong
  stepped (TrackingControl k) now p answer same its wrong = absurd wrong
  stepped (Dragging d) now p answer same its wrong = absurd wrong
  stepped (Growing g) now p answer same its wrong = absurd wrong

  ended : (a : Activity) (p : Point) (answer : TextReply) → IsSelected a Idle p answer before after → Selectable
  ended (Selecting k) p answer (opens, done) = when_idle opens.activity
  ended Idle p answer wrong = absurd wrong
  ended (Updating s) p answer wrong = absurd wrong
  ended (Tracking s) p answer wrong = absurd wrong
  ended (Pulling m) p answer wrong = absurd wrong
  ended (TrackingControl k) p answer wrong = absurd wrong
  ended (Dragging d) p answer wrong = absurd wrong
  ended (Growing g) p answer wrong = absurd wrong

  effect_selectable : (c : TextCall) (answer : TextReply) → gate before.desk.activity (text_standing c) ≡ None → AreRecords before.texts → IsSelectable before.desk.activity before.texts.texts → IsTextEffect c answer before after → Selectable
  effect_selectable (call.New n) answer may held its (serial, is, made) = when_idle (made.activity.activity ∙ idle_now before.desk.activity may)
  effect_selectable (call.Place p) answer may held its (is, done) = when_idle (done.activity.activity ∙ idle_now before.desk.activity may)
  effect_selectable (call.Dispose t) answer may held its (is, gone) = when_idle (gone.activity.activity ∙ idle_now before.desk.activity may)
  effect_selectable (call.Show t) answer may held its (is, done) = when_idle (done.activity.activity ∙ idle_now before.desk.activity may)
  effect_selectable (call.Hide t) answer may held its (is, done) = when_idle (done.activity.activity ∙ idle_now before.desk.activity may)
  effect_selectable (call.Set b) answer may held its (is, activity, done) = when_idle (activity.activity ∙ idle_now before.desk.activity may)
  effect_selectable (call.Insert b) answer may held its (is, activity, done) = when_idle (activity.activity ∙ idle_now before.desk.activity may)
  effect_selectable (call.Delete t) answer may held its (is, activity, done) = when_idle (activity.activity ∙ idle_now before.desk.activity may)
  effect_selectable (call.Key n) answer may held its (is, activity, done) = when_idle (activity.activity ∙ idle_now before.desk.activity may)
  effect_selectable (call.Cut t) answer may held its (is, activity, done) = when_idle (activity.activity ∙ idle_now before.desk.activity may)
  effect_selectable (call.Copy t) answer may held its (is, (x, named, done)) = when_idle (done.activity.activity ∙ idle_now before.desk.activity may)
  effect_selectable (call.Paste t) answer may held its (is, activity, done) = when_idle (activity.activity ∙ idle_now before.desk.activity may)
  effect_selectable (call.Select z) answer may held its (is, activity, done) = when_idle (activity.activity ∙ idle_now before.desk.activity may)
  effect_selectable (call.Activate f) answer may held its (is, activity, done) = when_idle (activity.activity ∙ idle_now before.desk.activity may)
  effect_selectable (call.Idle n) answer may held its (is, activity, done) = when_idle (activity.activity ∙ idle_now before.desk.activity may)
  effect_selectable (call.Justify n) answer may held its (is, activity, done) = when_idle (activity.activity ∙ idle_now before.desk.activity may)
  effect_selectable (call.Scroll z) answer may held its (is, activity, done) = when_idle (activity.activity ∙ idle_now before.desk.activity may)
  effect_selectable (call.ShowSelection t) answer may held its (is, activity, done) = when_idle (activity.activity ∙ idle_now before.desk.activity may)
  effect_selectable (call.Click c) answer may held its (mode, of, (x, named, done)) = clicked (is_clicked x.kept c.point) c mode x answer held (idle_now before.desk.activity may) named done
  effect_selectable (call.Step p) answer may held its done = stepped before.desk.activity before.desk.activity p answer refl its done
  effect_selectable (call.End p) answer may held its done = ended before.desk.activity p answer done
  effect_selectable (call.Get t) answer may held its (x, named, (is, same)) = still same its
  effect_selectable (call.Info t) answer may held its (x, named, (is, same)) = still same its
  effect_selectable (call.Line n) answer may held its (x, named, (is, same)) = still same its
  effect_selectable (call.PlaceOf n) answer may held its (x, named, (is, same)) = still same its
  effect_selectable (call.OffsetAt p) answer may held its (x, named, (is, same)) = still same its
  effect_selectable call.Scrap answer may held its (is, same) = still same its
  effect_selectable (call.SetScrap bytes) answer may held its (is, done) = when_idle (done.activity.activity ∙ idle_now before.desk.activity may)
  effect_selectable (call.Width bytes) answer may held its (is, same) = still same its
  effect_selectable call.FontInfo answer may held its (is, same) = still same its

  pub text_selectable : (c : TextCall) (result : Result TextReply Refusal) → gate before.desk.activity (text_standing c) ≡ None → AreRecords before.texts → IsSelectable before.desk.activity before.texts.texts → IsTextStep c result before after → Selectable
  text_selectable c (Ok answer) may held its step = effect_selectable c answer may held its step.1
  text_selectable c (Err e) may held its step = still step.1 its
