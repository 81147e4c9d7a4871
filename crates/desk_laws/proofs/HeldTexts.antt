-- After any call about text records no selection reaches past its text, and no text and no scrap is too long.
use Rattle.std.proofs.Common.{◌≡◌, ℕ, zero, suc, ◌≤◌, Bool, true, false, not, ◌&&◌, List, [], ◌∷◌, ◌++◌, length, Option, None, Some, Result, Ok, Err, refl, sym, ap, ◌∙◌, subst, arith}
use Rattle.std.specs.Prelude.{All, Contains, nat_abs, pos, slice_get, is_none}
use Rattle.std.specs.List.{remove}
use Rattle.std.specs.Option.{option_and_then, option_map_or}
use Rattle.std.proofs.lemmas.Bool.{false≢true}
use Rattle.std.proofs.lemmas.Bool.Decides.{nat_tests}
use Rattle.std.proofs.lemmas.List.Elements.{All-cons, All-contains, All-head, All-nil, All-tail}
use Rattle.tb_geom.specs.declared.point.Point.{Point}
use Rattle.tb_geom.specs.declared.refusal.Refusal.{Refusal}
use Rattle.tb_geom.specs.declared.refusal.Refusal.TheVariants.{NoSuchText, NoSuchWindow, OutOfRange, TooLong}
use Rattle.tb_geom.specs.Refusals.{first_refusal}
use Rattle.desk_call.specs.declared.activity.Activity.{Activity}
use Rattle.desk_call.specs.declared.activity.Activity.TheVariants.{Idle, Updating, Tracking, Pulling, TrackingControl, Dragging, Growing, Selecting}
use Rattle.desk_call.specs.declared.call.Call.{Call}
use Rattle.desk_call.specs.declared.call.Reply.{Reply}
use Rattle.desk_call.specs.declared.text.ClickText.{ClickText}
use Rattle.desk_call.specs.declared.text.TextCall.{TextCall}
use Rattle.desk_call.specs.declared.text.TextCall.TheVariants as call
use Rattle.desk_call.specs.declared.text.TextOf.{TextOf}
use Rattle.desk_call.specs.declared.text.TextReply.{TextReply}
use Rattle.desk_call.specs.declared.window.WindowCall.{WindowCall}
use Rattle.desk_call.specs.declared.window.WindowCall.TheVariants as windows
use Rattle.desk_call.specs.declared.window.WindowReply.{WindowReply}
use Rattle.desk_call.specs.declared.window.WindowReply.TheVariants as window_reply
use Rattle.text_record.specs.declared.placing.Justification.{Justification}
use Rattle.text_record.specs.Changes.{is_too_long, justified, placed, shown_as}
use Rattle.text_record.specs.Places.{offset_at}
use Rattle.text_record.specs.Texts.{Record}
use Rattle.text_edits.specs.declared.selecting.ClickMode.{ClickMode}
use Rattle.text_edits.specs.Edits.{is_selection, is_typed, selected_bytes}
use Rattle.text_edits.specs.Selecting.{anchor_of, extended_to, is_clicked}
use Rattle.window_items.specs.Items.{edit_at, with_kept}
use Rattle.window_mgr.specs.FullDesk.{FullDesk}
use Rattle.window_mgr.specs.Refused.{is_missing}
use Rattle.control_mgr.proofs.Steps.{none_hold}
use Rattle.text_mgr.specs.CallEdits.{are_too_many, edit_refusals, edited, is_outside, scrap_after}
use Rattle.text_mgr.specs.TextDesks.{KeptText, TextDesk, TextsState, index_of, text_of}
use Rattle.text_mgr.specs.TextPlaces.{justification_of, placing_of}
use Rattle.text_mgr.specs.TextRefusals.{named_refusals, text_refusals}
use Rattle.text_mgr.specs.TextSteps.{IsOpenedIf, IsScrapSet, IsSelected, IsTextChanged, IsTextEdited, IsTextEffect, IsTextLaid, IsTextStep}
use Rattle.text_mgr.specs.WholeTexts.{IsSelectable}
use Rattle.desk_toolbox.specs.Reached.{AreRecords, IsHeld}
use Rattle.desk_toolbox.specs.Run.{AreTextsLeft, IsStep, IsWindowMade, put_down}
use Rattle.desk_toolbox.specs.ToolboxStates.{ToolboxState, with_texts}
use Rattle.desk_toolbox.proofs.EachManager.{HoldsOfEach, of_step}
use Rattle.desk_laws.proofs.SelectionsStay.{IsAnchorIn, anchor_in, deleted_held, extended_held, inserted_held, keyed_held, pasted_held, range_few, selected_held, set_held}

-- ---- each text record, and the scrap

abbrev pub Held : KeptText → Type 0
Held t = IsHeld t.kept

edited_all : (f : Record → Record) (at : ℕ) (ts : List KeptText) → All Held ts → ((x : KeptText) → slice_get ts at ≡ Some x → IsHeld (f x.kept)) → All Held (edit_at (with_kept f) at ts)
edited_all f at [] held h = All-nil Held
edited_all f zero (t ∷ ts) held h = All-cons Held (with_kept f t) ts (h t refl) (All-tail Held t ts held)
edited_all f (suc i) (t ∷ ts) held h = All-cons Held t (edit_at (with_kept f) i ts) (All-head Held t ts held) (edited_all f i ts (All-tail Held t ts held) h)

removed_all : (at : ℕ) (ts : List KeptText) → All Held ts → All Held (remove ts at)
removed_all zero [] held = All-nil Held
removed_all (suc i) [] held = All-nil Held
removed_all zero (t ∷ ts) held = All-tail Held t ts held
removed_all (suc i) (t ∷ ts) held = All-cons Held t (remove ts i) (All-head Held t ts held) (removed_all i ts (All-tail Held t ts held))

pushed_all : (ts : List KeptText) (t : KeptText) → All Held ts → Held t → All Held (ts ++ t ∷ [])
pushed_all [] t held its = All-cons Held t [] its (All-nil Held)
pushed_all (u ∷ us) t held its = All-cons Held u (us ++ t ∷ []) (All-head Held u us held) (pushed_all us t (All-tail Held u us held) its)

held_at : (ts : List KeptText) (at : ℕ) (x : KeptText) → All Held ts → slice_get ts at ≡ Some x → Held x
held_at [] at x held e = absurd (cc)
held_at (t ∷ ts) zero x held e = let same : t ≡ x = cc in subst Held same (All-head Held t ts held)
held_at (t ∷ ts) (suc i) x held e = held_at ts i x (All-tail Held t ts held) e

pub there_at : (t : TextOf) (ts : List KeptText) (at : ℕ) (x : KeptText) → index_of t ts ≡ Some at → text_of t ts ≡ Some x → slice_get ts at ≡ Some x
there_at t ts at x found named = sym (ap (option_and_then (slice_get ts)) found) ∙ named

named_at : (t : TextOf) (ts : List KeptText) (at : ℕ) (x : KeptText) → index_of t ts ≡ Some at → slice_get ts at ≡ Some x → text_of t ts ≡ Some x
named_at t ts at x found there = ap (option_and_then (slice_get ts)) found ∙ there

-- the one that is named
pub held_named : (t : TextOf) (ts : List KeptText) (x : KeptText) → All Held ts → text_of t ts ≡ Some x → Held x
held_named t ts x held named = by_place (index_of t ts) refl
  where
    by_place : (o : Option ℕ) → index_of t ts ≡ o → Held x
    by_place None e = let none : text_of t ts ≡ None = ap (option_and_then (slice_get ts)) e in absurd (cc)
    by_place (Some at) e = held_at ts at x held (there_at t ts at x e named)

-- ---- why an edit was not refused

judged_none : (t : TextOf) (judged : Record → List (Bool × Refusal)) (d : FullDesk) (ts : List KeptText) (x : KeptText) → text_of t ts ≡ Some x → first_refusal (named_refusals t judged d ts) ≡ None → first_refusal (judged x.kept) ≡ None
judged_none t judged d ts x named none =
    let rest : List (Bool × Refusal) = option_map_or (λ (y : KeptText). judged y.kept) (text_of t ts) [] in
    let first = none_hold (is_missing t.window d.windows) NoSuchWindow ((is_none (index_of t ts), NoSuchText) ∷ rest) none in
    let second = none_hold (is_none (index_of t ts)) NoSuchText rest first.1 in
    sym (ap (λ o. first_refusal (option_map_or (λ (y : KeptText). judged y.kept) o [])) named) ∙ second.1

few_bytes : (bytes : List ℕ) → are_too_many bytes ≡ false → length bytes ≤ 255
few_bytes bytes e = grind (arith, nat_tests)

is_so : (b : Bool) → not b ≡ false → b ≡ true
is_so true e = refl
is_so false e = absurd (false≢true (sym e))

and_false : (a b : Bool) → (a && b) ≡ false → a ≡ true → b ≡ false
and_false true b e h = e
and_false false b e h = absurd (false≢true h)

-- what an edit makes of a record that nothing refuses
edited_held : (c : TextCall) (scrap : List ℕ) (r : Record) → IsHeld r → first_refusal (edit_refusals c scrap r) ≡ None → IsHeld (edited c scrap r)
edited_held (call.Set b) scrap r was none = set_held r was b.bytes (few_bytes b.bytes (none_hold (are_too_many b.bytes) TooLong [] none).0)
edited_held (call.Insert b) scrap r was none =
    let first = none_hold (are_too_many b.bytes) TooLong ((is_too_long r.start r.start b.bytes r, TooLong) ∷ []) none in
    inserted_held r was b.bytes (none_hold (is_too_long r.start r.start b.bytes r) TooLong [] first.1).0
edited_held (call.Delete t) scrap r was none = deleted_held r was
edited_held (call.Key n) scrap r was none =
    let first = none_hold (is_outside (pos 0) (pos 255) n.number) OutOfRange ((is_typed (nat_abs n.number) && is_too_long r.start r.end (nat_abs n.number ∷ []) r, TooLong) ∷ []) none in
    let second = none_hold (is_typed (nat_abs n.number) && is_too_long r.start r.end (nat_abs n.number ∷ []) r) TooLong [] first.1 in
    keyed_held r was (nat_abs n.number) (λ typed. and_false (is_typed (nat_abs n.number)) (is_too_long r.start r.end (nat_abs n.number ∷ []) r) second.0 typed)
edited_held (call.Cut t) scrap r was none = deleted_held r was
edited_held (call.Paste t) scrap r was none = pasted_held r was scrap (none_hold (is_too_long r.start r.end scrap r) TooLong [] none).0
edited_held (call.Select z) scrap r was none = selected_held r was z.start z.end (is_so (is_selection z.start z.end) (none_hold (not (is_selection z.start z.end)) OutOfRange [] none).0)
edited_held (call.Activate f) scrap r was none = record { order = was.order; within = was.within; short = was.short }
edited_held (call.Idle n) scrap r was none = record { order = was.order; within = was.within; short = was.short }
edited_held (call.Justify n) scrap r was none = by_name (justification_of n.number)
  where
    by_name : (o : Option Justification) → IsHeld (option_map_or (λ j. justified j r) o r)
    by_name None = was
    by_name (Some j) = record { order = was.order; within = was.within; short = was.short }
edited_held (call.Scroll z) scrap r was none = record { order = was.order; within = was.within; short = was.short }
edited_held (call.ShowSelection t) scrap r was none = record { order = was.order; within = was.within; short = was.short }
edited_held c scrap r was none = was

cut_short : (r : Record) → IsHeld r → length (selected_bytes r) ≤ 32000
cut_short r was = omega (arith, range_few r.text.bytes r.start r.end, was.within, was.short)

scrap_short : (c : TextCall) (scrap : List ℕ) (r : Record) → IsHeld r → length scrap ≤ 32000 → length (scrap_after c scrap r) ≤ 32000
scrap_short (call.Cut t) scrap r was short = cut_short r was
scrap_short c scrap r was short = short

-- ---- any call

module _ (before after : TextDesk) (was : AreRecords before.texts) where
  still : after.texts ≡ before.texts → AreRecords after.texts
  still same = subst AreRecords (sym same) was

  changed_held : (t : TextOf) (f : Record → Record) (scrap : List ℕ) → IsTextChanged t f scrap before after → length scrap ≤ 32000 → ((x : KeptText) → text_of t before.texts.texts ≡ Some x → Held x → IsHeld (f x.kept)) → AreRecords after.texts
  changed_held t f scrap done short h = subst AreRecords (sym done.texts) (record {
    texts = edited_all f done.at before.texts.texts was.texts (λ x there. h x (named_at t before.texts.texts done.at x done.found there) (held_at before.texts.texts done.at x was.texts there));
    scrap = short;
  })

  laid_held : (t : TextOf) (f : Record → Record) → IsTextLaid t f before after → ((r : Record) → IsHeld r → IsHeld (f r)) → AreRecords after.texts
  laid_held t f done h = changed_held t f before.texts.scrap done.changed was.scrap (λ x named held. h x.kept held)

  scrap_held : (bytes : List ℕ) → IsScrapSet bytes before after → length bytes ≤ 32000 → AreRecords after.texts
  scrap_held bytes done short = subst AreRecords (sym done.texts) (record { texts = was.texts; scrap = short })

  edit_held : (t : TextOf) (c : TextCall) (answer : TextReply) → first_refusal (named_refusals t (edit_refusals c before.texts.scrap) before.desk.windows.desk before.texts.texts) ≡ None → IsTextEdited t c answer before after → AreRecords after.texts
  edit_held t c answer none (is, activity, (x, named, done)) =
      changed_held t (edited c before.texts.scrap) (scrap_after c before.texts.scrap x.kept) done.changed
      (scrap_short c before.texts.scrap x.kept (held_named t before.texts.texts x was.texts named) was.scrap)
      (λ y its held. edited_held c before.texts.scrap y.kept held (judged_none t (edit_refusals c before.texts.scrap) before.desk.windows.desk before.texts.texts y its none))

  clicked_held : (b : Bool) (c : ClickText) (mode : ClickMode) (x : KeptText) (answer : TextReply) → text_of c.text before.texts.texts ≡ Some x → IsOpenedIf b c mode x.kept answer before after → AreRecords after.texts
  clicked_held false c mode x answer named (is, same) = still same.texts
  clicked_held true c mode x answer named (is, opens, done) =
      changed_held c.text _ before.texts.scrap done.changed was.scrap
      (λ y its held.
      let same : x ≡ y = one_some x y (sym named ∙ its) in
      extended_held _ mode c.point y.kept held (subst (λ (z : KeptText). IsAnchorIn (anchor_of mode (offset_at x.kept c.point) x.kept) z.kept) same (anchor_in mode c.point x.kept (held_named c.text before.texts.texts x was.texts named))))
    where
      one_some : (a b : KeptText) → Some a ≡ Some b → a ≡ b
      one_some a b e = cc

  step_held : (a now : Activity) (p : Point) (answer : TextReply) → IsSelectable a before.texts.texts → IsSelected a now p answer before after → AreRecords after.texts
  step_held (Selecting k) now p answer (t, there, order, within) (opens, (x, named, (is, done))) =
      changed_held k.text (extended_to k.anchor k.mode p) before.texts.scrap done.changed was.scrap
      (λ y its held.
      let same : t ≡ y = one_some t y (sym there ∙ its) in
      extended_held k.anchor k.mode p y.kept held (subst (λ (z : KeptText). IsAnchorIn k.anchor z.kept) same (record { order = order; within = within })))
    where
      one_some : (a b : KeptText) → Some a ≡ Some b → a ≡ b
      one_some a b e = cc
  step_held Idle now p answer its wrong = absurd wrong
  step_held (Updating s) now p answer its wrong = absurd wrong
  step_held (Tracking s) now p answer its wrong = absurd wrong
  step_held (Pulling m) now p answer its wrong = absurd wrong
  step_held (TrackingControl k) now p answer its wrong = absurd wrong
  step_held (Dragging d) now p answer its wrong = absurd wrong
  step_held (Growing g) now p answer its wrong = absurd wrong

  effect_held : (c : TextCall) (answer : TextReply) → IsSelectable before.desk.activity before.texts.texts → first_refusal (text_refusals c before.desk.windows.desk before.texts) ≡ None → IsTextEffect c answer before after → AreRecords after.texts
  effect_held (call.New n) answer its none (serial, is, made) = subst AreRecords (sym made.texts) (record {
    texts = pushed_all before.texts.texts made.text was.texts (subst Held (sym made.made) (record { order = omega arith; within = omega arith; short = omega arith }));
    scrap = was.scrap;
  })
  effect_held (call.Place p) answer its none (is, done) = laid_held p.text (placed (placing_of p.place)) done (λ r held. record { order = held.order; within = held.within; short = held.short })
  effect_held (call.Dispose t) answer its none (is, gone) = subst AreRecords (sym gone.texts) (record { texts = removed_all gone.at before.texts.texts was.texts; scrap = was.scrap })
  effect_held (call.Show t) answer its none (is, done) = laid_held t (shown_as true) done (λ r held. record { order = held.order; within = held.within; short = held.short })
  effect_held (call.Hide t) answer its none (is, done) = laid_held t (shown_as false) done (λ r held. record { order = held.order; within = held.within; short = held.short })
  effect_held (call.Set b) answer its none done = edit_held b.text (call.Set b) answer none done
  effect_held (call.Insert b) answer its none done = edit_held b.text (call.Insert b) answer none done
  effect_held (call.Delete t) answer its none done = edit_held t (call.Delete t) answer none done
  effect_held (call.Key n) answer its none done = edit_held n.text (call.Key n) answer none done
  effect_held (call.Cut t) answer its none done = edit_held t (call.Cut t) answer none done
  effect_held (call.Copy t) answer its none (is, (x, named, done)) = scrap_held _ done (cut_short x.kept (held_named t before.texts.texts x was.texts named))
  effect_held (call.Paste t) answer its none done = edit_held t (call.Paste t) answer none done
  effect_held (call.Select z) answer its none done = edit_held z.text (call.Select z) answer none done
  effect_held (call.Activate f) answer its none done = edit_held f.text (call.Activate f) answer none done
  effect_held (call.Idle n) answer its none done = edit_held n.text (call.Idle n) answer none done
  effect_held (call.Justify n) answer its none done = edit_held n.text (call.Justify n) answer none done
  effect_held (call.Scroll z) answer its none done = edit_held z.text (call.Scroll z) answer none done
  effect_held (call.ShowSelection t) answer its none done = edit_held t (call.ShowSelection t) answer none done
  effect_held (call.Click c) answer its none (mode, of, (x, named, done)) = clicked_held (is_clicked x.kept c.point) c mode x answer named done
  effect_held (call.Step p) answer its none done = step_held before.desk.activity before.desk.activity p answer its done
  effect_held (call.End p) answer its none done = step_held before.desk.activity Idle p answer its done
  effect_held (call.Get t) answer its none (x, named, (is, same)) = still same.texts
  effect_held (call.Info t) answer its none (x, named, (is, same)) = still same.texts
  effect_held (call.Line n) answer its none (x, named, (is, same)) = still same.texts
  effect_held (call.PlaceOf n) answer its none (x, named, (is, same)) = still same.texts
  effect_held (call.OffsetAt p) answer its none (x, named, (is, same)) = still same.texts
  effect_held call.Scrap answer its none (is, same) = still same.texts
  effect_held (call.SetScrap bytes) answer its none (is, done) =
      let few = few_bytes bytes (none_hold (are_too_many bytes) TooLong [] none).0 in
      scrap_held bytes done (omega (arith, few))
  effect_held (call.Width bytes) answer its none (is, same) = still same.texts
  effect_held call.FontInfo answer its none (is, same) = still same.texts

  pub text_held : (c : TextCall) (result : Result TextReply Refusal) → IsSelectable before.desk.activity before.texts.texts → IsTextStep c result before after → AreRecords after.texts
  text_held c (Ok answer) its step = effect_held c answer its step.0 step.1
  text_held c (Err e) its step = still step.1.texts

-- ---- each step of a Toolbox

-- those that stay were there
all_within : (ts us : List KeptText) → All Held ts → All (Contains ts) us → All Held us
all_within ts [] held within = All-nil Held
all_within ts (u ∷ us) held within =
    All-cons Held u us (All-contains Held ts u held (All-head (Contains ts) u us within)) (all_within ts us held (All-tail (Contains ts) u us within))

left_held : (c : WindowCall) (before after : TextsState) → AreTextsLeft c before after → AreRecords before → AreRecords after
left_held (windows.Dispose s) before after left was = record {
  texts = all_within before.texts after.texts was.texts left.within;
  scrap = subst (λ bytes. length bytes ≤ 32000) (sym left.scrap) was.scrap;
}
left_held c before after same was = subst AreRecords (sym same) was

window_held : (c : WindowCall) (answer : Result WindowReply Refusal) (before after : ToolboxState) → IsWindowMade c answer before after → AreRecords before.texts → AreRecords after.texts
window_held c (Ok answer) before after step was = left_held c before.texts after.texts step.texts was
window_held c (Err e) before after step was = subst AreRecords (sym step.1.texts) was

abbrev StaysHeld : Call → Result Reply Refusal → ToolboxState → ToolboxState → Type 0
StaysHeld c answer before after = IsSelectable before.desk.activity before.texts.texts → AreRecords before.texts → AreRecords after.texts

same_held : (before after : ToolboxState) → after.texts ≡ before.texts → AreRecords before.texts → AreRecords after.texts
same_held before after same was = subst AreRecords (sym same) was

each_stays_held : HoldsOfEach StaysHeld
each_stays_held = record {
  unchanged = λ c e before after same its was. same_held before after same.texts was;
  covered = λ p before after same its was. same_held before after same.texts was;
  hidden = λ p before after same its was. same_held before after same.texts was;
  window = λ c answer before after may step its was. window_held c answer before after step was;
  update = λ c answer before after may step rest its was. same_held before after rest.texts was;
  frame = λ c answer before after may step rest its was. same_held before after rest.texts was;
  control = λ c answer before after may step events lists texts menus its was. same_held before after texts was;
  list = λ c answer before after may step events texts menus its was. same_held before after texts was;
  text = λ c answer before after may step events controls lists menus its was. text_held (with_texts before) (with_texts after) was c answer its step;
  menu = λ c answer before after may step events controls lists texts its was. same_held before after texts was;
  outline = λ c answer before after may step rest its was. same_held before after rest.texts was;
  moved = λ c move before after may step its was. window_held (windows.Move move) (Ok window_reply.Done) (put_down before) after step was;
  event = λ c answer before after step its was. same_held before after step.texts was;
}

-- where the text record in which the mouse selects is there
pub step_keeps_texts : (c : Call) (answer : Result Reply Refusal) (before after : ToolboxState) → IsStep c answer before after → IsSelectable before.desk.activity before.texts.texts → AreRecords before.texts → AreRecords after.texts
step_keeps_texts = of_step StaysHeld each_stays_held
