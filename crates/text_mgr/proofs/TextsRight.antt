-- A call about text records leaves a right desk right: its steps are sound changes.
use Rattle.std.proofs.Common.{◌≡◌, ⊎_elim, inl, inr, ◌⊎◌, ℕ, Bool, true, false, not, ◌&&◌, ◌==◌, cond, List, [], ◌∷◌, map, Option, None, Some, Result, Ok, Err, refl, sym, ap, ◌∙◌, subst}
use Rattle.std.specs.Prelude.{is_none}
use Rattle.std.proofs.lemmas.Bool.{and_parts}
use Rattle.tb_geom.specs.declared.point.Point.{Point}
use Rattle.tb_geom.specs.declared.refusal.Refusal.{Refusal}
use Rattle.tb_geom.specs.declared.refusal.Refusal.TheVariants.{NoSuchWindow, OutOfRange, TooMany}
use Rattle.tb_geom.specs.Points.{PixelSet}
use Rattle.tb_geom.specs.Refusals.{first_refusal}
use Rattle.desk_layers.specs.declared.part.Part.{Part}
use Rattle.desk_layers.specs.declared.part.Part.TheVariants as part
use Rattle.desk_layers.specs.Change as plain
use Rattle.desk_layers.specs.Desk.{IsDesk, on_screen}
use Rattle.desk_layers.specs.Owner.{owner, same_owner}
use Rattle.desk_layers.proofs.Changing.{stays_right}
use Rattle.desk_layers.proofs.Owning.{same_owner-true}
use Rattle.desk_call.specs.declared.activity.Activity.{Activity}
use Rattle.desk_call.specs.declared.activity.Activity.TheVariants.{Idle, Selecting}
use Rattle.desk_call.specs.declared.text.ClickText.{ClickText}
use Rattle.desk_call.specs.declared.text.NewText.{NewText}
use Rattle.desk_call.specs.declared.text.TextCall.{TextCall}
use Rattle.desk_call.specs.declared.text.TextCall.TheVariants as call
use Rattle.desk_call.specs.declared.text.TextOf.{TextOf}
use Rattle.desk_call.specs.declared.text.TextReply.{TextReply}
use Rattle.text_record.specs.Texts.{Record}
use Rattle.text_edits.specs.declared.selecting.ClickMode.{ClickMode}
use Rattle.window_items.specs.Items.{AreApart, are_before, count_of}
use Rattle.window_list.specs.declared.layer.Layer.{Layer}
use Rattle.window_list.specs.Holders.{ArePartsApart}
use Rattle.vis_update.specs.Records.{WindowRecord}
use Rattle.vis_update.specs.Relayings.{afresh_change, is_part_afresh, with_layers_of}
use Rattle.window_mgr.proofs.EachChanged.{numbered_map}
use Rattle.window_mgr.proofs.Running.{unchanged_stays_right}
use Rattle.window_mgr.specs.Effects.{IsUnchanged}
use Rattle.window_mgr.specs.Finding.{record_with}
use Rattle.window_mgr.specs.FullDesk.{AreSerials, FullDesk, FullState, IsRightState, layered_desk, layered_state}
use Rattle.window_mgr.specs.Refused.{is_missing}
use Rattle.control_mgr.proofs.ControlBits.{bare, bare_laid}
use Rattle.control_mgr.proofs.Steps.{none_hold}
use Rattle.text_mgr.specs.TextDesks.{IsTextDeskUnchanged, KeptText, ShowsTexts, TextDesk, TextsState, texts_show}
use Rattle.text_mgr.specs.TextLayers.{with_last, with_shape_of, without_part}
use Rattle.text_mgr.specs.TextPlaces.{justification_of, may_stand_in}
use Rattle.text_mgr.specs.TextRefusals.{is_full, text_refusals}
use Rattle.text_mgr.specs.TextSteps.{AreTextsLaid, AreTextsShownAnew, IsOpenedIf, IsScrapSet, IsSelected, IsTextEdited, IsTextEffect, IsTextLaid, IsTextMade, IsTextStep}
use Rattle.text_mgr.specs.WholeTexts.{AreWholeTexts}
use Rattle.text_mgr.proofs.Distinct.{last_apart, none_new, shaped_apart, without_apart}
use Rattle.text_mgr.proofs.SerialsStay.{stay_anew, stay_changed, stay_pushed, stay_removed}
use Rattle.text_mgr.proofs.TextBits.{StayTexts, same_own}
use Rattle.text_mgr.proofs.TextsWhole.{there_window, window_at}
use Rattle.text_mgr.proofs.Whole.{AreJoined}

-- ---- what any call leaves of what is shown

-- nothing that is shown changed
pub record IsStillDesk (before after : TextDesk) : Type 0 where
  pub windows : IsUnchanged before.desk.windows after.desk.windows
  pub texts : after.texts.texts ≡ before.texts.texts
  pub others : after.others ≡ before.others

-- the layers of a window were set, and all text records in a window stay but what is drawn afresh
pub record IsRelaidDesk (before after : TextDesk) : Type 0 where
  pub window : ℕ
  pub relaid : List Layer → List Layer
  pub afresh : Option Part
  pub laid : AreTextsLaid window relaid afresh before after
  pub stay : StayTexts (is_part_afresh window afresh) before.texts.texts after.texts.texts
  -- the window is there, and its layers stay apart
  pub there : (w : WindowRecord) × (record_with window before.desk.windows.desk.windows ≡ Some w)
  pub apart : ArePartsApart there.0.layers → ArePartsApart (relaid there.0.layers)

-- nothing that is shown changed, or a window's layers were set, or text records were shown anew
abbrev pub LeavesShown : TextDesk → TextDesk → Type 0
LeavesShown before after = IsStillDesk before after ⊎ (IsRelaidDesk before after ⊎ AreTextsShownAnew before after)

module _ (before after : TextDesk) (was : AreWholeTexts before.desk.windows.desk.windows before.texts) (apart_now : AreApart after.texts.texts) where
  laid_leaves : (t : TextOf) (f : Record → Record) → IsTextLaid t f before after → LeavesShown before after
  laid_leaves t f done = inr (inl (record {
    window = t.window;
    relaid = with_shape_of (part.Text t.text) done.shape;
    afresh = Some (part.Text t.text);
    laid = done.laid;
    stay = stay_changed t f before.texts.scrap before after was.apart apart_now done.changed;
    there = window_at before after was t done.changed.at done.changed.found;
    apart = shaped_apart (part.Text t.text) done.shape _;
  }))

  same_leaves : IsTextDeskUnchanged before after → LeavesShown before after
  same_leaves same = inl (record { windows = same.desk.windows; texts = ap (λ (s : TextsState). s.texts) same.texts; others = same.others })

  scrap_leaves : (bytes : List ℕ) → IsScrapSet bytes before after → LeavesShown before after
  scrap_leaves bytes set = inl (record {
    windows = record {
      desk = ap (λ (s : FullState). s.desk) set.windows;
      stale = λ p on. ap (λ (s : FullState). s.stale p) set.windows;
      image = λ p on. ap (λ (s : FullState). s.image p) set.windows;
    };
    texts = ap (λ (s : TextsState). s.texts) set.texts;
    others = set.others;
  })

  edited_leaves : (t : TextOf) (c : TextCall) (answer : TextReply) → IsTextEdited t c answer before after → LeavesShown before after
  edited_leaves t c answer done = inr (inr done.2.2.shown)

  opened_leaves : (b : Bool) (c : ClickText) (mode : ClickMode) (r : Record) (answer : TextReply) → IsOpenedIf b c mode r answer before after → LeavesShown before after
  opened_leaves false c mode r answer done = same_leaves done.1
  opened_leaves true c mode r answer done = inr (inr done.2.shown)

  selected_leaves : (a now : Activity) (p : Point) (answer : TextReply) → IsSelected a now p answer before after → LeavesShown before after
  selected_leaves (Selecting k) now p answer done = inr (inr done.1.2.1.shown)
  selected_leaves a now p answer wrong = absurd wrong

  -- a new text record is in a window that is there, of which no layer is of its serial
  new_there : (n : NewText) → first_refusal (text_refusals (call.New n) before.desk.windows.desk before.texts) ≡ None → (w : WindowRecord) × (record_with n.window before.desk.windows.desk.windows ≡ Some w)
  new_there n none = there_window (record_with n.window before.desk.windows.desk.windows) (none_hold (is_missing n.window before.desk.windows.desk.windows) NoSuchWindow
      ((not (may_stand_in false n.place (record_with n.window before.desk.windows.desk.windows)), OutOfRange)
      ∷ (is_none (justification_of n.justification), OutOfRange)
      ∷ (is_full (count_of n.window before.texts.texts) before.texts.next, TooMany) ∷ []) none).0

  new_apart : (n : NewText) (serial : ℕ) (made : IsTextMade n serial before after) (w : (v : WindowRecord) × (record_with n.window before.desk.windows.desk.windows ≡ Some v))
      → ArePartsApart w.0.layers → ArePartsApart (with_last made.layer w.0.layers)
  new_apart n serial made w =
      let its : serial ≡ made.text.serial = ap (λ (x : KeptText). x.serial) (sym made.made) in
      let given : are_before (Some made.text.serial) before.texts.texts ≡ true = subst (λ o. are_before o before.texts.texts ≡ true) (made.serials ∙ ap Some its) was.given in
      last_apart made.text made.layer w.0.layers made.is (none_new made.text n.window before.texts.texts before.desk.windows.desk.windows w.0 given was.joined w.1)

  effect_leaves : (c : TextCall) (answer : TextReply) → first_refusal (text_refusals c before.desk.windows.desk before.texts) ≡ None → IsTextEffect c answer before after → LeavesShown before after
  effect_leaves (call.New n) answer none (serial, is, made) = inr (inl (record {
    window = n.window;
    relaid = with_last made.layer;
    afresh = Some (part.Text serial);
    laid = made.laid;
    stay = stay_pushed (is_part_afresh n.window (Some (part.Text serial))) before.texts.texts after.texts.texts made.text (ap (λ (s : TextsState). s.texts) made.texts);
    there = new_there n none;
    apart = new_apart n serial made (new_there n none);
  }))
  effect_leaves (call.Place p) answer none (is, done) = laid_leaves p.text _ done
  effect_leaves (call.Dispose t) answer none (is, gone) = inr (inl (record {
    window = t.window;
    relaid = without_part (part.Text t.text);
    afresh = None;
    laid = gone.laid;
    stay = stay_removed (is_part_afresh t.window None) before.texts.texts after.texts.texts gone.at was.apart (ap (λ (s : TextsState). s.texts) gone.texts);
    there = window_at before after was t gone.at gone.found;
    apart = without_apart (part.Text t.text) _;
  }))
  effect_leaves (call.Show t) answer none (is, done) = laid_leaves t _ done
  effect_leaves (call.Hide t) answer none (is, done) = laid_leaves t _ done
  effect_leaves (call.Set b) answer none done = edited_leaves b.text (call.Set b) answer done
  effect_leaves (call.Insert b) answer none done = edited_leaves b.text (call.Insert b) answer done
  effect_leaves (call.Delete t) answer none done = edited_leaves t (call.Delete t) answer done
  effect_leaves (call.Key n) answer none done = edited_leaves n.text (call.Key n) answer done
  effect_leaves (call.Cut t) answer none done = edited_leaves t (call.Cut t) answer done
  effect_leaves (call.Copy t) answer none (is, (x, there, set)) = scrap_leaves _ set
  effect_leaves (call.Paste t) answer none done = edited_leaves t (call.Paste t) answer done
  effect_leaves (call.Select z) answer none done = edited_leaves z.text (call.Select z) answer done
  effect_leaves (call.Activate f) answer none done = edited_leaves f.text (call.Activate f) answer done
  effect_leaves (call.Idle n) answer none done = edited_leaves n.text (call.Idle n) answer done
  effect_leaves (call.Justify n) answer none done = edited_leaves n.text (call.Justify n) answer done
  effect_leaves (call.Scroll z) answer none done = edited_leaves z.text (call.Scroll z) answer done
  effect_leaves (call.ShowSelection t) answer none done = edited_leaves t (call.ShowSelection t) answer done
  effect_leaves (call.Click c) answer none (mode, is, (x, there, done)) = opened_leaves _ c mode x.kept answer done
  effect_leaves (call.Step p) answer none done = selected_leaves before.desk.activity before.desk.activity p answer done
  effect_leaves (call.End p) answer none done = selected_leaves before.desk.activity Idle p answer done
  effect_leaves (call.Get t) answer none (x, there, (told, same)) = same_leaves same
  effect_leaves (call.Info t) answer none (x, there, (told, same)) = same_leaves same
  effect_leaves (call.Line n) answer none (x, there, (told, same)) = same_leaves same
  effect_leaves (call.PlaceOf n) answer none (x, there, (told, same)) = same_leaves same
  effect_leaves (call.OffsetAt p) answer none (x, there, (told, same)) = same_leaves same
  effect_leaves call.Scrap answer none (told, same) = same_leaves same
  effect_leaves (call.SetScrap bytes) answer none (is, set) = scrap_leaves bytes set
  effect_leaves (call.Width bytes) answer none (told, same) = same_leaves same
  effect_leaves call.FontInfo answer none (told, same) = same_leaves same

  pub step_leaves : (c : TextCall) (result : Result TextReply Refusal) → IsTextStep c result before after → LeavesShown before after
  step_leaves c (Ok answer) step = effect_leaves c answer step.0 step.1
  step_leaves c (Err e) step = same_leaves step.1

-- ---- what is right stays so

module _ (before after : TextDesk) (right : IsRightState before.desk.windows) (shows : ShowsTexts before) (was : AreJoined before.texts.texts before.desk.windows.desk.windows)
    (are : AreJoined after.texts.texts after.desk.windows.desk.windows) (distinct : IsDesk (layered_desk after.desk.windows.desk)) where
  abbrev d : FullDesk
  d = before.desk.windows.desk

  abbrev e : FullDesk
  e = after.desk.windows.desk

  -- other layers show what they showed
  still_shown : after.others ≡ before.others → ShowsTexts after → e.shows ≡ texts_show before.others after.texts.texts e.font
  still_shown same showing = showing ∙ ap (λ others. texts_show others after.texts.texts e.font) same

  -- what a pixel's owner has there, it had there
  its_owner : (p : Point) → (on_screen (layered_desk d) p && same_owner (owner (layered_desk d) p) (owner (layered_desk e) p)) ≡ true → owner (layered_desk d) p ≡ owner (layered_desk e) p
  its_owner p there = same_owner-true (owner (layered_desk d) p) (owner (layered_desk e) p) (and_parts (on_screen (layered_desk d) p) (same_owner (owner (layered_desk d) p) (owner (layered_desk e) p)) there).1

  relaid_right : IsRelaidDesk before after → IsRightState after.desk.windows
  relaid_right its = record {
    plain = stays_right change (layered_state before.desk.windows) (layered_state after.desk.windows) right.plain sound its.laid.set.pixels;
    serials = subst (λ (x : FullDesk). AreSerials x.next x.windows) (sym its.laid.set.desk) (numbered_map (with_layers_of its.window its.laid.layers) same_serial d.next d.windows right.serials);
  }
    where
      change : plain.Change
      change = afresh_change its.window its.afresh

      same_serial : (w : WindowRecord) → (with_layers_of its.window its.laid.layers w).serial ≡ w.serial
      same_serial w = by_test (w.serial == its.window)
        where
          by_test : (b : Bool) → (cond b (record w { layers = its.laid.layers }) w).serial ≡ w.serial
          by_test true = refl
          by_test false = refl

      windows : map bare e.windows ≡ map bare d.windows
      windows = ap (λ (x : FullDesk). map bare x.windows) its.laid.set.desk ∙ bare_laid its.window its.laid.layers d.windows

      sound : plain.IsSound change (layered_state before.desk.windows) (layered_desk e)
      sound = record {
        desk = distinct;
        kept = λ p on content afresh taken put redrawn there.
            same_own before.others d e before.texts.texts after.texts.texts shows (still_shown its.laid.elsewhere its.laid.shows) (ap (λ (x : FullDesk). x.font) its.laid.set.desk) windows was are
            (is_part_afresh its.window its.afresh) its.stay p (owner (layered_desk e) p) right.plain.desk distinct (its_owner p there) refl content afresh;
        right = λ p on taken. absurd (cc);
      }

  anew_right : AreApart before.texts.texts → AreApart after.texts.texts → AreTextsShownAnew before after → IsRightState after.desk.windows
  anew_right apart apart_now its = record {
    plain = stays_right change (layered_state before.desk.windows) (layered_state after.desk.windows) right.plain sound its.pixels;
    serials = subst (λ (x : FullDesk). AreSerials x.next x.windows) (sym its.desk) right.serials;
  }
    where
      change : plain.Change
      change = record plain.no_change { redrawn = its.anew }

      sound : plain.IsSound change (layered_state before.desk.windows) (layered_desk e)
      sound = record {
        desk = distinct;
        kept = λ p on content afresh taken put redrawn there.
            same_own before.others d e before.texts.texts after.texts.texts shows (still_shown its.elsewhere its.shows) (ap (λ (x : FullDesk). x.font) its.desk) (ap (λ (x : FullDesk). map bare x.windows) its.desk) was are
            its.anew (stay_anew its.anew before.texts.texts after.texts.texts apart apart_now its.same)
            p (owner (layered_desk e) p) right.plain.desk distinct (its_owner p there) refl content redrawn;
        right = λ p on taken. absurd (cc);
      }

  pub leaves_right : AreApart before.texts.texts → AreApart after.texts.texts → LeavesShown before after → IsRightState after.desk.windows
  leaves_right apart apart_now leaves = ⊎_elim
      (λ still. unchanged_stays_right before.desk.windows after.desk.windows right still.windows)
      (λ other. ⊎_elim relaid_right (anew_right apart apart_now) other)
      leaves

-- a call about text records leaves a right state right
pub text_right : (c : TextCall) (result : Result TextReply Refusal) (before after : TextDesk) → IsRightState before.desk.windows → ShowsTexts before
    → AreWholeTexts before.desk.windows.desk.windows before.texts → AreWholeTexts after.desk.windows.desk.windows after.texts → IsDesk (layered_desk after.desk.windows.desk)
    → IsTextStep c result before after → IsRightState after.desk.windows
text_right c result before after right shows was are distinct step =
    leaves_right before after right shows was.joined are.joined distinct was.apart are.apart (step_leaves before after was are.apart c result step)

-- the windows show the text records after any such call
pub text_shows : (c : TextCall) (result : Result TextReply Refusal) (before after : TextDesk) → AreWholeTexts before.desk.windows.desk.windows before.texts → AreApart after.texts.texts → ShowsTexts before → IsTextStep c result before after → ShowsTexts after
text_shows c result before after was apart_now shows step = ⊎_elim
    (λ still. subst (λ (x : FullDesk × List KeptText × (List ℕ → Part → PixelSet)). x.0.shows ≡ texts_show x.2 x.1 x.0.font) (λ i. (sym still.windows.desk i, sym still.texts i, sym still.others i)) shows)
    (λ other. ⊎_elim (λ its. its.laid.shows) (λ its. its.shows) other)
    (step_leaves before after was apart_now c result step)
