-- The text records are whole after any call about text records where they were before.
use Rattle.std.proofs.Common.{◌≡◌, ℕ, ◌<◌, ◌||◌, Bool, true, false, not, List, [], ◌∷◌, ◌++◌, map, Option, None, Some, Result, Ok, Err, refl, sym, ap, ◌∙◌, subst, arith}
use Rattle.std.specs.Prelude.{is_none, nat_le, slice_get}
use Rattle.std.specs.List.{remove}
use Rattle.std.specs.Option.{option_and_then, option_map_or}
use Rattle.std.proofs.lemmas.Bool.{false≢true}
use Rattle.std.proofs.lemmas.Bool.Decides.{nat_tests}
use Rattle.tb_geom.specs.declared.refusal.Refusal.{Refusal}
use Rattle.tb_geom.specs.declared.refusal.Refusal.TheVariants.{NoSuchText, NoSuchWindow, OutOfRange, TooMany}
use Rattle.tb_geom.specs.Refusals.{first_refusal}
use Rattle.tb_geom.specs.Rects.{is_in_range}
use Rattle.desk_layers.proofs.Owning.{same_number}
use Rattle.desk_layers.specs.declared.part.Part.TheVariants as part
use Rattle.desk_call.specs.declared.activity.Activity.{Activity}
use Rattle.desk_call.specs.declared.activity.Activity.TheVariants.{Idle, Selecting}
use Rattle.desk_call.specs.declared.text.ClickText.{ClickText}
use Rattle.desk_call.specs.declared.text.NewText.{NewText}
use Rattle.desk_call.specs.declared.text.PlaceText.{PlaceText}
use Rattle.desk_call.specs.declared.text.TextCall.{TextCall}
use Rattle.desk_call.specs.declared.text.TextCall.TheVariants as call
use Rattle.desk_call.specs.declared.text.TextOf.{TextOf}
use Rattle.desk_call.specs.declared.text.TextReply.{TextReply}
use Rattle.text_record.specs.Changes.{placed, shown_as}
use Rattle.text_record.specs.Placings.{box_of}
use Rattle.text_record.specs.Texts.{Record}
use Rattle.text_edits.specs.declared.selecting.ClickMode.{ClickMode}
use Rattle.tb_geom.specs.declared.point.Point.{Point}
use Rattle.window_items.specs.Items.{count_of, edit_at, items_of, place_among, serial_after, with_kept}
use Rattle.window_items.proofs.EditLemmas.{All-there}
use Rattle.window_items.proofs.SerialLemmas.{apart_among}
use Rattle.window_items.proofs.WindowLemmas.{items_of-edit_at, items_of-push, items_of-remove, slice_get-items_of}
use Rattle.window_list.specs.Holders.{layer_index}
use Rattle.window_list.specs.LayerChanges.{reshaped}
use Rattle.vis_update.specs.Records.{WindowRecord}
use Rattle.vis_update.specs.Relayings.{with_layers_of}
use Rattle.window_mgr.specs.Finding.{record_with}
use Rattle.window_mgr.specs.Refused.{is_missing}
use Rattle.control_mgr.proofs.ControlBits.{at_serial}
use Rattle.control_mgr.proofs.Places.{IsThere}
use Rattle.control_mgr.proofs.Steps.{none_hold}
use Rattle.text_mgr.specs.TextDesks.{IsTextDeskUnchanged, KeptText, TextDesk, TextsState, index_of, text_of}
use Rattle.text_mgr.specs.TextLayers.{AreTextLayersOf, IsShapeOf}
use Rattle.text_mgr.specs.TextPlaces.{justification_of, may_stand_in, placing_of}
use Rattle.text_mgr.specs.TextRefusals.{is_full, text_refusals}
use Rattle.text_mgr.specs.TextSteps.{IsOpenedIf, IsScrapSet, IsSelected, IsTextDisposed, IsTextEdited, IsTextEffect, IsTextLaid, IsTextMade, IsTextShownAnew, IsTextStep}
use Rattle.text_mgr.specs.WholeTexts.{AreWholeTexts}
use Rattle.text_mgr.proofs.Edits.{edited_box}
use Rattle.text_mgr.proofs.Layered.{ItsLayer, its_layer, joined_more, joined_removed, joined_reshaped}
use Rattle.text_mgr.proofs.PlaceParts.{place_parts}
use Rattle.text_mgr.proofs.Places.{found_names, found_window, one_there, text_there}
use Rattle.text_mgr.proofs.SerialsStay.{found_item}
use Rattle.text_mgr.proofs.Whole.{SameBox, whole_edited, whole_laid, whole_pushed, whole_removed}

not_false : (b : Bool) → not b ≡ false → b ≡ true
not_false true e = refl
not_false false e = absurd (false≢true (sym e))

-- a window that is not missing
pub there_window : (o : Option WindowRecord) → is_none o ≡ false → (w : WindowRecord) × (o ≡ Some w)
there_window None e = absurd (false≢true (sym e))
there_window (Some w) e = (w, refl)

-- what a window that is not full has
fewer : (n : ℕ) (o : Option ℕ) → (nat_le 64 n || is_none o) ≡ false → n < 64
fewer n o e = by_test (nat_le 64 n) refl e
  where
    less : nat_le 64 n ≡ false → n < 64
    less h = grind (arith, nat_tests)

    by_test : (b : Bool) → nat_le 64 n ≡ b → (b || is_none o) ≡ false → n < 64
    by_test true is h = absurd (false≢true (sym h))
    by_test false is h = less is

module _ (before after : TextDesk) (whole : AreWholeTexts before.desk.windows.desk.windows before.texts) where
  abbrev ws : List WindowRecord
  ws = before.desk.windows.desk.windows

  abbrev ts : List KeptText
  ts = before.texts.texts

  abbrev WholeAfter : Type 0
  WholeAfter = AreWholeTexts after.desk.windows.desk.windows after.texts

  same_whole : IsTextDeskUnchanged before after → WholeAfter
  same_whole same = subst (λ (x : List WindowRecord × TextsState). AreWholeTexts x.0 x.1) (λ i. ((sym same.desk.windows.desk i).windows, sym same.texts i)) whole

  scrap_whole : (bytes : List ℕ) → IsScrapSet bytes before after → WholeAfter
  scrap_whole bytes set =
      subst (λ (x : List WindowRecord × TextsState). AreWholeTexts x.0 x.1) (λ i. ((sym set.windows i).desk.windows, sym set.texts i))
      (record { boxes = whole.boxes; apart = whole.apart; given = whole.given; somewhere = whole.somewhere; few = whole.few; joined = whole.joined })

  -- a text record that is edited
  anew_whole : (t : TextOf) (f : Record → Record) (scrap : List ℕ) → ((r : Record) → SameBox r (f r)) → IsTextShownAnew t f scrap before after → WholeAfter
  anew_whole t f scrap same done =
      subst (λ (x : List WindowRecord × TextsState). AreWholeTexts x.0 x.1) (λ i. ((sym done.shown.desk i).windows, sym done.changed.texts i))
      (whole_edited f done.changed.at ws before.texts scrap (λ x e. same x.kept) whole)

  -- ---- a text record of a window that is there, and its layer

  module _ (t : TextOf) (at : ℕ) (found : index_of t ts ≡ Some at) where
    item : IsThere ts at
    item = found_item t ts at found

    names : (item.item.window ≡ t.window) × (item.item.serial ≡ t.text)
    names = found_names t ts at found item.item item.there

    pub window_at : (w : WindowRecord) × (record_with t.window ws ≡ Some w)
    window_at = there_window (record_with t.window ws) (subst (λ n. is_missing n ws ≡ false) names.0 (All-there (λ (x : KeptText). is_missing x.window ws ≡ false) at ts item.item item.there whole.somewhere))

    joined : AreTextLayersOf (items_of t.window ts) window_at.0.layers
    joined =
        let its = at_serial (λ w. AreTextLayersOf (items_of w.serial ts) w.layers) t.window ws window_at.0 window_at.1 whole.joined in
        subst (λ n. AreTextLayersOf (items_of n ts) window_at.0.layers) its.1 its.0

    among : slice_get (items_of t.window ts) (place_among at ts) ≡ Some item.item
    among = slice_get-items_of t.window at ts (found_window t ts at found) ∙ item.there

    its : ItsLayer item.item window_at.0.layers
    its = its_layer window_at.0.layers (items_of t.window ts) (place_among at ts) item.item joined (apart_among t.window ts whole.apart) among

    its_found : layer_index (part.Text t.text) window_at.0.layers ≡ Some its.index
    its_found = subst (λ n. layer_index (part.Text n) window_at.0.layers ≡ Some its.index) names.1 its.found

  -- laid elsewhere, or shown or hidden
  laid_whole : (t : TextOf) (f : Record → Record) (done : IsTextLaid t f before after)
      → ((x : KeptText) → text_of t ts ≡ Some x → is_in_range (box_of (f x.kept).framed (f x.kept).view) ≡ true) → WholeAfter
  laid_whole t f done may =
      let at = done.changed.at in
      let found = done.changed.found in
      let i = item t at found in
      let w = window_at t at found in
      let l = its t at found in
      let named : text_of t ts ≡ Some i.item = text_there t ts at found i.item i.there in
      let shape : IsShapeOf (f i.item.kept) done.shape = subst (λ (y : KeptText). IsShapeOf (f y.kept) done.shape) (one_there (text_of t ts) done.is.0 i.item done.is.1 named) done.is.2 in
      let layers : done.laid.layers ≡ reshaped done.shape l.index w.0.layers = done.laid.become w.0 w.1 ∙ ap (λ o. option_map_or (λ k. reshaped done.shape k w.0.layers) o w.0.layers) (its_found t at found) in
      let joined_new : AreTextLayersOf (items_of t.window (edit_at (with_kept f) at ts)) done.laid.layers =
      subst (λ ks. AreTextLayersOf ks done.laid.layers) (sym (items_of-edit_at (with_kept f) (λ y. refl) t.window at ts (found_window t ts at found)))
      (subst (AreTextLayersOf (edit_at (with_kept f) (place_among at ts) (items_of t.window ts))) (sym layers)
      (joined_reshaped (items_of t.window ts) w.0.layers (place_among at ts) l.index i.item l.layer (joined t at found) (apart_among t.window ts whole.apart) (among t at found) l.there l.is (with_kept f) done.shape
      (λ k was. record { part = was.part; shape = record { shown = shape.shown; region = shape.region; bounds = shape.bounds } }))) in
      subst (λ (x : List WindowRecord × TextsState). AreWholeTexts x.0 x.1) (λ j. ((sym done.laid.set.desk j).windows, sym done.changed.texts j))
      (whole_laid f at t.window done.laid.layers ws before.texts whole (found_window t ts at found)
      (λ y e. may y (text_there t ts at found y e)) joined_new)

  -- disposed of
  disposed_whole : (t : TextOf) → IsTextDisposed t before after → WholeAfter
  disposed_whole t gone =
      let at = gone.at in
      let found = gone.found in
      let i = item t at found in
      let w = window_at t at found in
      let l = its t at found in
      let layers : gone.laid.layers ≡ remove w.0.layers l.index = gone.laid.become w.0 w.1 ∙ ap (λ o. option_map_or (λ k. remove w.0.layers k) o w.0.layers) (its_found t at found) in
      let joined_left : AreTextLayersOf (items_of t.window (remove ts at)) gone.laid.layers =
      subst (λ ks. AreTextLayersOf ks gone.laid.layers) (sym (items_of-remove t.window at ts (found_window t ts at found)))
      (subst (AreTextLayersOf (remove (items_of t.window ts) (place_among at ts))) (sym layers)
      (joined_removed (items_of t.window ts) w.0.layers (place_among at ts) l.index i.item l.layer (joined t at found) (apart_among t.window ts whole.apart) (among t at found) l.there l.is)) in
      subst (λ (x : List WindowRecord × TextsState). AreWholeTexts x.0 x.1) (λ j. ((sym gone.laid.set.desk j).windows, sym gone.texts j))
      (whole_removed at t.window gone.laid.layers ws before.texts whole (found_window t ts at found) joined_left)

  -- ---- shown or hidden, and placed

  shown_range : (shown : Bool) (t : TextOf) (x : KeptText) → text_of t ts ≡ Some x → is_in_range (box_of (shown_as shown x.kept).framed (shown_as shown x.kept).view) ≡ true
  shown_range shown t x named = by_index (index_of t ts) refl named
    where
      by_index : (o : Option ℕ) → index_of t ts ≡ o → option_and_then (slice_get ts) o ≡ Some x → is_in_range (box_of x.kept.framed x.kept.view) ≡ true
      by_index None e h = absurd (cc)
      by_index (Some at) e h = All-there (λ (y : KeptText). is_in_range (box_of y.kept.framed y.kept.view) ≡ true) at ts x h whole.boxes

  edited_whole : (t : TextOf) (c : TextCall) (answer : TextReply) → IsTextEdited t c answer before after → WholeAfter
  edited_whole t c answer done = anew_whole t _ _ (λ r. edited_box c before.texts.scrap r) done.2.2

  opened_whole : (b : Bool) (c : ClickText) (mode : ClickMode) (r : Record) (answer : TextReply) → IsOpenedIf b c mode r answer before after → WholeAfter
  opened_whole false c mode r answer done = same_whole done.1
  opened_whole true c mode r answer done = anew_whole c.text _ before.texts.scrap (λ s. record { framed = refl; view = refl; shown = refl }) done.2

  selected_whole : (a now : Activity) (p : Point) (answer : TextReply) → IsSelected a now p answer before after → WholeAfter
  selected_whole (Selecting k) now p answer done = anew_whole k.text _ before.texts.scrap (λ s. record { framed = refl; view = refl; shown = refl }) done.1.2.1
  selected_whole a now p answer wrong = absurd wrong

  placed_range : (p : PlaceText) → first_refusal (text_refusals (call.Place p) before.desk.windows.desk before.texts) ≡ None → (x : KeptText) → text_of p.text ts ≡ Some x
      → is_in_range (box_of (placed (placing_of p.place) x.kept).framed (placed (placing_of p.place) x.kept).view) ≡ true
  placed_range p none x named =
      let judged = λ (y : KeptText). (not (may_stand_in y.kept.framed p.place (record_with p.text.window ws)), OutOfRange) ∷ [] in
      let first = none_hold (is_missing p.text.window ws) NoSuchWindow ((is_none (index_of p.text ts), NoSuchText) ∷ option_map_or judged (text_of p.text ts) []) none in
      let second = none_hold (is_none (index_of p.text ts)) NoSuchText (option_map_or judged (text_of p.text ts) []) first.1 in
      let third : first_refusal (judged x) ≡ None = ap (λ o. first_refusal (option_map_or judged o [])) (sym named) ∙ second.1 in
      let may = not_false (may_stand_in x.kept.framed p.place (record_with p.text.window ws)) (none_hold (not (may_stand_in x.kept.framed p.place (record_with p.text.window ws))) OutOfRange [] third).0 in
      let w = there_window (record_with p.text.window ws) first.0 in
      (place_parts x.kept.framed p.place w.0.place (ap (may_stand_in x.kept.framed p.place) (sym w.1) ∙ may)).inside

  made_whole : (n : NewText) (serial : ℕ) → first_refusal (text_refusals (call.New n) before.desk.windows.desk before.texts) ≡ None → IsTextMade n serial before after → WholeAfter
  made_whole n serial none made =
      let full = is_full (count_of n.window ts) before.texts.next in
      let last = (full, TooMany) ∷ [] in
      let third_on = (is_none (justification_of n.justification), OutOfRange) ∷ last in
      let second_on = (not (may_stand_in false n.place (record_with n.window ws)), OutOfRange) ∷ third_on in
      let first = none_hold (is_missing n.window ws) NoSuchWindow second_on none in
      let second = none_hold (not (may_stand_in false n.place (record_with n.window ws))) OutOfRange third_on first.1 in
      let third = none_hold (is_none (justification_of n.justification)) OutOfRange last second.1 in
      let fourth = none_hold full TooMany [] third.1 in
      let w = there_window (record_with n.window ws) first.0 in
      let may = not_false (may_stand_in false n.place (record_with n.window ws)) second.0 in
      let inside = (place_parts false n.place w.0.place (ap (may_stand_in false n.place) (sym w.1) ∙ may)).inside in
      let in_window : made.text.window ≡ n.window = ap (λ (x : KeptText). x.window) made.made in
      let its = at_serial (λ v. AreTextLayersOf (items_of v.serial ts) v.layers) n.window ws w.0 w.1 whole.joined in
      let joined_now : AreTextLayersOf (items_of n.window ts) w.0.layers = subst (λ k. AreTextLayersOf (items_of k ts) w.0.layers) its.1 its.0 in
      let joined_new : AreTextLayersOf (items_of made.text.window (ts ++ made.text ∷ [])) made.laid.layers =
      subst (λ xs. AreTextLayersOf xs made.laid.layers) (sym (items_of-push made.text.window ts made.text (same_number made.text.window)))
      (subst (λ k. AreTextLayersOf (items_of k ts ++ made.text ∷ []) made.laid.layers) (sym in_window)
      (subst (AreTextLayersOf (items_of n.window ts ++ made.text ∷ [])) (sym (made.laid.become w.0 w.1)) (joined_more (items_of n.window ts) w.0.layers made.text made.layer joined_now made.is))) in
      subst (λ (x : List WindowRecord × TextsState). AreWholeTexts x.0 x.1) (λ j. ((sym made.laid.set.desk j).windows, sym made.texts j))
      (subst (λ k. AreWholeTexts (map (with_layers_of k made.laid.layers) ws) (record before.texts { texts = ts ++ made.text ∷ []; next = serial_after serial })) in_window
      (subst (λ k. AreWholeTexts (map (with_layers_of made.text.window made.laid.layers) ws) (record before.texts { texts = ts ++ made.text ∷ []; next = serial_after k })) (ap (λ (x : KeptText). x.serial) made.made)
      (whole_pushed made.text made.laid.layers ws before.texts whole (made.serials ∙ ap (λ (x : KeptText). Some x.serial) (sym made.made))
      (ap (λ (x : KeptText). is_in_range (box_of x.kept.framed x.kept.view)) made.made ∙ inside)
      (subst (λ k. is_missing k ws ≡ false) (sym in_window) first.0) (subst (λ k. count_of k ts < 64) (sym in_window) (fewer (count_of n.window ts) before.texts.next fourth.0)) joined_new)))

  -- ---- any call

  effect_whole : (c : TextCall) (answer : TextReply) → first_refusal (text_refusals c before.desk.windows.desk before.texts) ≡ None → IsTextEffect c answer before after → WholeAfter
  effect_whole (call.New n) answer none (serial, is, made) = made_whole n serial none made
  effect_whole (call.Place p) answer none (is, done) = laid_whole p.text _ done (placed_range p none)
  effect_whole (call.Dispose t) answer none (is, gone) = disposed_whole t gone
  effect_whole (call.Show t) answer none (is, done) = laid_whole t _ done (shown_range true t)
  effect_whole (call.Hide t) answer none (is, done) = laid_whole t _ done (shown_range false t)
  effect_whole (call.Set b) answer none done = edited_whole b.text (call.Set b) answer done
  effect_whole (call.Insert b) answer none done = edited_whole b.text (call.Insert b) answer done
  effect_whole (call.Delete t) answer none done = edited_whole t (call.Delete t) answer done
  effect_whole (call.Key n) answer none done = edited_whole n.text (call.Key n) answer done
  effect_whole (call.Cut t) answer none done = edited_whole t (call.Cut t) answer done
  effect_whole (call.Copy t) answer none (is, (x, there, set)) = scrap_whole _ set
  effect_whole (call.Paste t) answer none done = edited_whole t (call.Paste t) answer done
  effect_whole (call.Select z) answer none done = edited_whole z.text (call.Select z) answer done
  effect_whole (call.Activate f) answer none done = edited_whole f.text (call.Activate f) answer done
  effect_whole (call.Idle n) answer none done = edited_whole n.text (call.Idle n) answer done
  effect_whole (call.Justify n) answer none done = edited_whole n.text (call.Justify n) answer done
  effect_whole (call.Scroll z) answer none done = edited_whole z.text (call.Scroll z) answer done
  effect_whole (call.ShowSelection t) answer none done = edited_whole t (call.ShowSelection t) answer done
  effect_whole (call.Click c) answer none (mode, is, (x, there, done)) = opened_whole _ c mode x.kept answer done
  effect_whole (call.Step p) answer none done = selected_whole before.desk.activity before.desk.activity p answer done
  effect_whole (call.End p) answer none done = selected_whole before.desk.activity Idle p answer done
  effect_whole (call.Get t) answer none (x, there, (told, same)) = same_whole same
  effect_whole (call.Info t) answer none (x, there, (told, same)) = same_whole same
  effect_whole (call.Line n) answer none (x, there, (told, same)) = same_whole same
  effect_whole (call.PlaceOf n) answer none (x, there, (told, same)) = same_whole same
  effect_whole (call.OffsetAt p) answer none (x, there, (told, same)) = same_whole same
  effect_whole call.Scrap answer none (told, same) = same_whole same
  effect_whole (call.SetScrap bytes) answer none (is, set) = scrap_whole bytes set
  effect_whole (call.Width bytes) answer none (told, same) = same_whole same
  effect_whole call.FontInfo answer none (told, same) = same_whole same

  pub text_whole : (c : TextCall) (result : Result TextReply Refusal) → IsTextStep c result before after → WholeAfter
  text_whole c (Ok answer) step = effect_whole c answer step.0 step.1
  text_whole c (Err e) step = same_whole step.1
