-- What holds of a desk with text records between calls holds after any call about text records.
use Rattle.std.proofs.Common.{⊎_elim, Result, sym, subst}
use Rattle.tb_geom.specs.declared.refusal.Refusal.{Refusal}
use Rattle.desk_layers.specs.Desk.{IsDesk}
use Rattle.desk_call.specs.declared.text.TextCall.{TextCall}
use Rattle.desk_call.specs.declared.text.TextReply.{TextReply}
use Rattle.window_list.specs.Holders.{ArePartsApart}
use Rattle.window_mgr.specs.FullDesk.{FullDesk, IsRightState, layered_desk}
use Rattle.text_mgr.specs.TextDesks.{ShowsTexts, TextDesk}
use Rattle.text_mgr.specs.TextSteps.{AreTextsShownAnew, IsTextStep}
use Rattle.text_mgr.specs.WholeTexts.{AreWholeTexts}
use Rattle.text_mgr.proofs.Distinct.{laid_distinct, layers_apart, shown_distinct}
use Rattle.text_mgr.proofs.TextsRight.{IsRelaidDesk, IsStillDesk, step_leaves, text_right, text_shows}
use Rattle.text_mgr.proofs.TextsWhole.{text_whole}

-- ---- windows and layers that are told apart

module _ (before after : TextDesk) (distinct : IsDesk (layered_desk before.desk.windows.desk)) where
  abbrev d : FullDesk
  d = before.desk.windows.desk

  abbrev e : FullDesk
  e = after.desk.windows.desk

  still_distinct : IsStillDesk before after → IsDesk (layered_desk e)
  still_distinct still = subst (λ (x : FullDesk). IsDesk (layered_desk x)) (sym still.windows.desk) distinct

  relaid_distinct : IsRelaidDesk before after → IsDesk (layered_desk e)
  relaid_distinct its =
      let w = its.there in
      laid_distinct d e its.window its.laid.layers its.laid.set.desk
      (subst ArePartsApart (sym (its.laid.become w.0 w.1)) (its.apart (layers_apart d its.window w.0 distinct w.1))) distinct

  anew_distinct : AreTextsShownAnew before after → IsDesk (layered_desk e)
  anew_distinct its = shown_distinct d e its.desk distinct

-- the windows and their layers are told apart after any call about text records
pub text_distinct : (c : TextCall) (result : Result TextReply Refusal) (before after : TextDesk) → IsDesk (layered_desk before.desk.windows.desk)
    → AreWholeTexts before.desk.windows.desk.windows before.texts → IsTextStep c result before after → IsDesk (layered_desk after.desk.windows.desk)
text_distinct c result before after distinct was step = ⊎_elim
    (still_distinct before after distinct)
    (λ other. ⊎_elim (relaid_distinct before after distinct) (anew_distinct before after distinct) other)
    (step_leaves before after was (text_whole before after was c result step).apart c result step)

-- ---- the whole

-- what holds between calls: the state is right, the windows show the text records, and these are whole
pub record IsRightDesk (d : TextDesk) : Type 0 where
  pub right : IsRightState d.desk.windows
  pub shows : ShowsTexts d
  pub whole : AreWholeTexts d.desk.windows.desk.windows d.texts

-- a call about text records keeps it
pub text_keeps : (c : TextCall) (result : Result TextReply Refusal) (before after : TextDesk) → IsRightDesk before → IsTextStep c result before after → IsRightDesk after
text_keeps c result before after was step =
    let whole = text_whole before after was.whole c result step in
    record {
      right = text_right c result before after was.right was.shows was.whole whole (text_distinct c result before after was.right.plain.desk was.whole step) step;
      shows = text_shows c result before after was.whole whole.apart was.shows step;
      whole = whole;
    }
