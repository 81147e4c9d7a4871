-- What a call about text records changes of pixels is its change.
use Rattle.std.proofs.Common.{◌≡◌, ℕ, zero, suc, Bool, true, false, not, ◌==◌, cond, if◌then◌else◌, List, [], ◌∷◌, map, Some, refl, sym, ap, ◌∙◌, subst}
use Rattle.std.specs.Prelude.{All, slice_get}
use Rattle.std.specs.List.{AllZip, list_any}
use Rattle.std.specs.Option.{option_map}
use Rattle.std.proofs.lemmas.Bool.{and_parts, false≢true}
use Rattle.std.proofs.lemmas.List.Elements.{All-cons, All-head, All-nil, All-tail, All-weaker}
use Rattle.tb_geom.specs.declared.point.Point.{Point}
use Rattle.tb_geom.specs.Pixels.{holds}
use Rattle.desk_layers.specs.declared.part.Part.{Part}
use Rattle.desk_layers.specs.declared.part.Part.TheVariants as part
use Rattle.desk_layers.specs.Desk.{on_screen, same_part}
use Rattle.desk_layers.specs.Owner.{Owner, is_content, own_bit, owner, same_owner}
use Rattle.desk_layers.specs.Owner.Owner.{Content}
use Rattle.desk_layers.specs.Scratch.{scratch}
use Rattle.desk_layers.specs.Change.{Change, IsChanged, IsRight, State, had, no_change}
use Rattle.desk_layers.proofs.Painting.{scratch_is_owners}
use Rattle.desk_call.specs.declared.activity.Activity.{Activity}
use Rattle.desk_call.specs.declared.activity.Activity.TheVariants.{Idle, Selecting}
use Rattle.desk_call.specs.declared.text.ClickText.{ClickText}
use Rattle.desk_call.specs.declared.text.TextCall.{TextCall}
use Rattle.desk_call.specs.declared.text.TextCall.TheVariants as call
use Rattle.desk_call.specs.declared.text.TextOf.{TextOf}
use Rattle.desk_call.specs.declared.text.TextReply.{TextReply}
use Rattle.desk_call.specs.declared.update.LayerKind.TheVariants.{Texts}
use Rattle.text_record.specs.Changes.{shown_as}
use Rattle.text_record.specs.Texts.{Record}
use Rattle.text_edits.specs.declared.selecting.ClickMode.{ClickMode}
use Rattle.text_edits.specs.Selecting.{is_clicked}
use Rattle.window_items.specs.Items.{AreApart, edit_at, has_serial, is_in, items_of, with_kept}
use Rattle.window_items.proofs.SerialLemmas.{or_parts}
use Rattle.window_list.specs.declared.layer.Layer.{Layer}
use Rattle.window_list.specs.Holders.{layer_has, part_at}
use Rattle.vis_update.specs.Records.{WindowRecord}
use Rattle.vis_update.specs.Relayings.{afresh_change}
use Rattle.window_paint.specs.Kinds.{is_of}
use Rattle.window_mgr.specs.Effects.{IsUnchanged}
use Rattle.window_mgr.specs.FullDesk.{FullDesk, layered_desk, layered_state}
use Rattle.control_mgr.proofs.ControlBits.{bare}
use Rattle.text_mgr.specs.TextDesks.{KeptText, TextDesk, TextsState, texts_show}
use Rattle.text_mgr.specs.TextLayers.{AreTextLayersOf, IsLayerOf}
use Rattle.text_mgr.specs.TextSteps.{IsOpenedIf, IsSelected, IsTextEdited, IsTextEffect, IsTextLaid, IsTextShownAnew}
use Rattle.text_mgr.proofs.Layered.{text_layers}
use Rattle.text_mgr.proofs.Places.{found_names}
use Rattle.text_mgr.proofs.SerialsStay.{found_item, stay_changed}
use Rattle.text_mgr.proofs.TextBits.{same_own}
use Rattle.text_mgr.proofs.TextsKept.{IsRightDesk}
use Rattle.desk_laws.specs.Changes.{change_of_text, selected_anew, text_anew}
use Rattle.desk_laws.proofs.GoneParts.{another}
use Rattle.desk_laws.proofs.HiddenControls.{drawing_none}
use Rattle.desk_laws.proofs.JoinedChanges.{marking, none_added, shown_anew_too}
use Rattle.desk_laws.proofs.KeptValues.{HaveSameOwners, changed_keeps, changed_to_right, had_itself}
use Rattle.desk_laws.proofs.ManagerChanges.{same_windows}
use Rattle.desk_laws.proofs.PartsThere.{HasSuch, is_part, no_part, owners_are, plain_part}
use Rattle.desk_laws.proofs.WindowChanges.{same_but_shows, unchanged_changes}
use Rattle.desk_toolbox.specs.ToolboxStates.{ToolboxState, with_texts}

by_test : {X : Type 0} (b : Bool) → (b ≡ true → X) → (b ≡ false → X) → X
by_test true on off = on refl
by_test false on off = off refl

-- ---- other owners shown anew

-- where some owners were shown anew, and what is shown was right and is, others were shown anew, if all that are none of these show what they showed
module _ (these those : Owner → Bool) (before after : State) (same : HaveSameOwners before.desk after.desk) (changed : IsChanged (marking none_added these) before after) where
  there : (p : Point) → on_screen after.desk p ≡ true → had no_change before.desk (owner after.desk p) p ≡ true
  there p on = had_itself before.desk (owner after.desk p) p (same.screen p ∙ on) (same.owners p)

  -- no pixel of content is more stale or less
  as_stale : (p : Point) → on_screen after.desk p ≡ true → is_content (owner after.desk p) ≡ true → after.stale p ≡ before.stale p
  as_stale p on n = changed.stale p on ∙ (λ i. if not (n i) then false else (if there p on i then before.stale p else true))

  either : (r v : Bool) → (if r then v else v) ≡ v
  either true v = refl
  either false v = refl

  pub anew_instead : IsRight before → IsRight after
      → ((p : Point) → on_screen after.desk p ≡ true → is_content (owner after.desk p) ≡ true → those (owner after.desk p) ≡ false → scratch after.desk p ≡ scratch before.desk p)
      → IsChanged (marking none_added those) before after
  anew_instead was right shows = changed_to_right (marking none_added those) before after right changed.stale
      (λ p on n a s.
      let o = owner after.desk p in
      by_test (after.stale p)
      (λ stale. changed_keeps (marking none_added these) before after changed p on n refl (λ h r. stale)
      ∙ (λ i. if not (there p on i) then false else either (these o) (before.image p) i))
      (λ fresh. by_test (those o)
      (λ anew. absurd (false≢true (sym fresh ∙ s (there p on) anew)))
      (λ other. right.right p on fresh ∙ shows p on n other ∙ sym (was.right p (same.screen p ∙ on) (sym (as_stale p on n) ∙ fresh))))
      ∙ sym (λ i. if not (there p on i) then false else either (those o) (before.image p) i))

module _ (before after : TextDesk) (was : IsRightDesk before) (are : IsRightDesk after) where
  abbrev Changes : Change → Type 0
  Changes c = IsChanged c (layered_state before.desk.windows) (layered_state after.desk.windows)

  abbrev d : FullDesk
  d = before.desk.windows.desk

  abbrev e : FullDesk
  e = after.desk.windows.desk

  still : IsUnchanged before.desk.windows after.desk.windows → Changes no_change
  still same = unchanged_changes before.desk.windows after.desk.windows was.right same

  still_anew : (t : TextOf) → IsUnchanged before.desk.windows after.desk.windows → Changes (text_anew t)
  still_anew t same = shown_anew_too (is_part t.window (part.Text t.text)) (layered_state before.desk.windows) (layered_state after.desk.windows)
      (record {
        screen = λ p i. on_screen (layered_desk (sym same.desk i)) p;
        owners = λ p i. owner (layered_desk (sym same.desk i)) p;
      })
      (still same) are.right.plain

  -- the text record is the only one that may show something else
  shown_anew : (t : TextOf) (f : Record → Record) (scrap : List ℕ) → IsTextShownAnew t f scrap before after → Changes (text_anew t)
  shown_anew t f scrap done = anew_instead done.shown.anew own (layered_state before.desk.windows) (layered_state after.desk.windows) owners done.shown.pixels was.right.plain are.right.plain
      (λ p on content other.
      scratch_is_owners (layered_desk e) p are.right.plain.desk
      ∙ sym (same_own before.others d e before.texts.texts after.texts.texts was.shows showing
      (ap (λ (x : FullDesk). x.font) done.shown.desk) (ap (λ (x : FullDesk). map bare x.windows) done.shown.desk) was.whole.joined are.whole.joined own
      (stay_changed t f scrap before after was.whole.apart are.whole.apart done.changed)
      p (owner (layered_desk e) p) was.right.plain.desk are.right.plain.desk (owners.owners p) refl content other)
      ∙ sym (ap (λ o. own_bit (layered_desk d) o p) (owners.owners p))
      ∙ sym (scratch_is_owners (layered_desk d) p was.right.plain.desk))
    where
      own : Owner → Bool
      own o = same_owner o (Content t.window (part.Text t.text))

      owners : HaveSameOwners (layered_desk d) (layered_desk e)
      owners = same_but_shows d e done.shown.desk

      showing : e.shows ≡ texts_show before.others after.texts.texts e.font
      showing = are.shows ∙ ap (λ others. texts_show others after.texts.texts e.font) done.shown.elsewhere

  edited_changes : (t : TextOf) (c : TextCall) (answer : TextReply) → IsTextEdited t c answer before after → Changes (text_anew t)
  edited_changes t c answer (is, activity, (x, named, done)) = shown_anew t _ _ done

  clicked_changes : (b : Bool) (c : ClickText) (mode : ClickMode) (r : Record) (answer : TextReply) → IsOpenedIf b c mode r answer before after → Changes (text_anew c.text)
  clicked_changes false c mode r answer (is, same) = still_anew c.text same.desk.windows
  clicked_changes true c mode r answer (is, opens, done) = shown_anew c.text _ _ done

  selected_changes : (a now : Activity) (p : Point) (answer : TextReply) → IsSelected a now p answer before after → Changes (selected_anew a)
  selected_changes (Selecting k) now p answer (opens, (x, named, (is, done))) = shown_anew k.text _ _ done
  selected_changes a now p answer wrong = absurd wrong

-- ---- a text record that is hidden

-- the text record is hidden, if it has this serial
abbrev IsHidden : ℕ → KeptText → Type 0
IsHidden n t = has_serial n t ≡ true → t.kept.shown ≡ false

-- where no text record has the serial
none_hidden : (n : ℕ) (ts : List KeptText) → list_any (has_serial n) ts ≡ false → All (IsHidden n) ts
none_hidden n [] none = All-nil (IsHidden n)
none_hidden n (t ∷ ts) none =
    let parts = or_parts (has_serial n t) (list_any (has_serial n) ts) none in
    All-cons (IsHidden n) t ts (λ e. absurd (false≢true (sym parts.0 ∙ e))) (none_hidden n ts parts.1)

-- the one that is hidden is the only one of its serial
edited_hidden : (n : ℕ) (g : KeptText → KeptText) → ((t : KeptText) → (g t).kept.shown ≡ false) → (at : ℕ) (ts : List KeptText) (x : KeptText) → AreApart ts → slice_get ts at ≡ Some x → x.serial ≡ n → All (IsHidden n) (edit_at g at ts)
edited_hidden n g hides at [] x apart there its = absurd (cc)
edited_hidden n g hides zero (t ∷ ts) x apart there its =
    let same : t ≡ x = cc in
    All-cons (IsHidden n) (g t) ts (λ e. hides t) (none_hidden n ts (ap (λ k. list_any (has_serial k) ts) (sym its ∙ ap (λ (y : KeptText). y.serial) (sym same)) ∙ apart.0))
edited_hidden n g hides (suc i) (t ∷ ts) x apart there its =
    All-cons (IsHidden n) t (edit_at g i ts)
    (λ e. absurd (false≢true (sym (ap (λ k. t.serial == k) (sym its) ∙ another t.serial i ts x apart.0 there) ∙ e)))
    (edited_hidden n g hides i ts x apart.1 there its)

-- those of a window are hidden too
hidden_in : (n window : ℕ) (ts : List KeptText) → All (IsHidden n) ts → All (IsHidden n) (items_of window ts)
hidden_in n window [] hidden = All-nil (IsHidden n)
hidden_in n window (t ∷ ts) hidden = by_window (is_in window t) (hidden_in n window ts (All-tail (IsHidden n) t ts hidden))
  where
    by_window : (b : Bool) → All (IsHidden n) (items_of window ts) → All (IsHidden n) (cond b (t ∷ items_of window ts) (items_of window ts))
    by_window true rest = All-cons (IsHidden n) t (items_of window ts) (All-head (IsHidden n) t ts hidden) rest
    by_window false rest = rest

-- a part that is no text record's is not this one's
no_text : (q : Part) (n : ℕ) → is_of Texts q ≡ false → same_part q (part.Text n) ≡ false
no_text part.Picture n e = refl
no_text (part.Control m) n e = refl
no_text (part.List m) n e = refl
no_text (part.Text m) n e = absurd (false≢true (sym e))

-- no point has a text record that is hidden
hidden_has_none : (n : ℕ) (ks : List Layer) (ts : List KeptText) (q : Point) → AreTextLayersOf ts ks → All (IsHidden n) ts → same_part (part_at ks q) (part.Text n) ≡ false
hidden_has_none n [] ts q joined hidden = refl
hidden_has_none n (k ∷ ks) ts q joined hidden = by_kind (is_of Texts k.part) refl ts joined hidden (layer_has k q) refl (λ us. hidden_has_none n ks us q)
  where
    by_serial : (y : KeptText) → IsLayerOf y k → IsHidden n y → layer_has k q ≡ true → (b : Bool) → has_serial n y ≡ b → b ≡ false
    by_serial y its hides has false is = refl
    by_serial y its hides has true is = absurd (false≢true (sym (its.shape.shown ∙ hides is) ∙ (and_parts k.shown (holds k.region q) has).0))

    by_kind : (b : Bool) → is_of Texts k.part ≡ b → (us : List KeptText) → AllZip IsLayerOf us (cond b (k ∷ text_layers ks) (text_layers ks)) → All (IsHidden n) us → (h : Bool) → layer_has k q ≡ h
        → ((vs : List KeptText) → AreTextLayersOf vs ks → All (IsHidden n) vs → same_part (part_at ks q) (part.Text n) ≡ false)
        → same_part (cond h k.part (part_at ks q)) (part.Text n) ≡ false
    by_kind false is us joined hidden true has rest = no_text k.part n is
    by_kind false is us joined hidden false has rest = rest us joined hidden
    by_kind true is [] joined hidden h has rest = absurd joined
    by_kind true is (y ∷ ys) joined hidden true has rest =
        ap (λ p. same_part p (part.Text n)) joined.0.part ∙ by_serial y joined.0 (All-head (IsHidden n) y ys hidden) has (has_serial n y) refl
    by_kind true is (y ∷ ys) joined hidden false has rest = rest ys joined.1 (All-tail (IsHidden n) y ys hidden)

-- so that hiding it draws none
hidden_changes : (t : TextOf) (before after : TextDesk) → IsRightDesk before → IsRightDesk after → IsTextLaid t (shown_as false) before after → IsChanged no_change (layered_state before.desk.windows) (layered_state after.desk.windows)
hidden_changes t before after was are done =
    drawing_none (is_part t.window (part.Text t.text)) (layered_state before.desk.windows) (layered_state after.desk.windows) none done.laid.set.pixels
  where
    x : KeptText
    x = (found_item t before.texts.texts done.changed.at done.changed.found).item

    there : slice_get before.texts.texts done.changed.at ≡ Some x
    there = (found_item t before.texts.texts done.changed.at done.changed.found).there

    hidden : All (IsHidden t.text) after.texts.texts
    hidden = subst (All (IsHidden t.text)) (sym (ap (λ (s : TextsState). s.texts) done.changed.texts))
        (edited_hidden t.text (with_kept (shown_as false)) (λ y. refl) done.changed.at before.texts.texts x was.whole.apart there (found_names t before.texts.texts done.changed.at done.changed.found x there).1)

    none : (p : Point) → on_screen (layered_desk after.desk.windows.desk) p ≡ true → is_part t.window (part.Text t.text) (owner (layered_desk after.desk.windows.desk) p) ≡ false
    none p on = owners_are (λ o. is_part t.window (part.Text t.text) o ≡ false) (plain_part t.window (part.Text t.text)) after.desk.windows.desk
        (All-weaker (λ (w : WindowRecord). AreTextLayersOf (items_of w.serial after.texts.texts) w.layers) (HasSuch (λ o. is_part t.window (part.Text t.text) o ≡ false))
        (λ w joined q. no_part t.window w.serial (part.Text t.text) (part_at w.layers q)
        (λ e. hidden_has_none t.text w.layers (items_of w.serial after.texts.texts) q joined (hidden_in t.text w.serial after.texts.texts hidden)))
        after.desk.windows.desk.windows are.whole.joined) p

-- ---- any call

pub text_changes : (c : TextCall) (answer : TextReply) (before after : ToolboxState) → IsRightDesk (with_texts before) → IsRightDesk (with_texts after) → IsTextEffect c answer (with_texts before) (with_texts after)
    → IsChanged (change_of_text c before) (layered_state before.desk.windows) (layered_state after.desk.windows)
text_changes c answer before after was are effect = by_call c effect
  where
    b : TextDesk
    b = with_texts before

    a : TextDesk
    a = with_texts after

    by_call : (k : TextCall) → IsTextEffect k answer b a → IsChanged (change_of_text k before) (layered_state before.desk.windows) (layered_state after.desk.windows)
    by_call (call.New n) (serial, is, made) =
        subst (λ o. IsChanged (afresh_change n.window (option_map part.Text o)) (layered_state before.desk.windows) (layered_state after.desk.windows)) (sym made.serials) made.laid.set.pixels
    by_call (call.Place p) (is, done) = done.laid.set.pixels
    by_call (call.Dispose t) (is, gone) = gone.laid.set.pixels
    by_call (call.Show t) (is, done) = done.laid.set.pixels
    by_call (call.Hide t) (is, done) = hidden_changes t b a was are done
    by_call (call.Set s) done = edited_changes b a was are s.text (call.Set s) answer done
    by_call (call.Insert s) done = edited_changes b a was are s.text (call.Insert s) answer done
    by_call (call.Delete t) done = edited_changes b a was are t (call.Delete t) answer done
    by_call (call.Key n) done = edited_changes b a was are n.text (call.Key n) answer done
    by_call (call.Cut t) done = edited_changes b a was are t (call.Cut t) answer done
    by_call (call.Copy t) (is, (x, named, set)) = still b a was are (same_windows before.desk.windows after.desk.windows set.windows)
    by_call (call.Paste t) done = edited_changes b a was are t (call.Paste t) answer done
    by_call (call.Select z) done = edited_changes b a was are z.text (call.Select z) answer done
    by_call (call.Activate f) done = edited_changes b a was are f.text (call.Activate f) answer done
    by_call (call.Idle n) done = edited_changes b a was are n.text (call.Idle n) answer done
    by_call (call.Justify n) done = edited_changes b a was are n.text (call.Justify n) answer done
    by_call (call.Scroll z) done = edited_changes b a was are z.text (call.Scroll z) answer done
    by_call (call.ShowSelection t) done = edited_changes b a was are t (call.ShowSelection t) answer done
    by_call (call.Click k) (mode, of, (x, named, done)) = clicked_changes b a was are (is_clicked x.kept k.point) k mode x.kept answer done
    by_call (call.Step p) done = selected_changes b a was are before.desk.activity before.desk.activity p answer done
    by_call (call.End p) done = selected_changes b a was are before.desk.activity Idle p answer done
    by_call (call.Get t) (x, named, (is, same)) = still b a was are same.desk.windows
    by_call (call.Info t) (x, named, (is, same)) = still b a was are same.desk.windows
    by_call (call.Line n) (x, named, (is, same)) = still b a was are same.desk.windows
    by_call (call.PlaceOf n) (x, named, (is, same)) = still b a was are same.desk.windows
    by_call (call.OffsetAt p) (x, named, (is, same)) = still b a was are same.desk.windows
    by_call call.Scrap (is, same) = still b a was are same.desk.windows
    by_call (call.SetScrap bytes) (is, set) = still b a was are (same_windows before.desk.windows after.desk.windows set.windows)
    by_call (call.Width bytes) (is, same) = still b a was are same.desk.windows
    by_call call.FontInfo (is, same) = still b a was are same.desk.windows
