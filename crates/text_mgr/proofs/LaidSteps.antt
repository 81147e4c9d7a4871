-- A text record shown, hidden or put elsewhere, as a step.
use Rattle.std.proofs.Common.{◌≡◌, inr, ℕ, Bool, true, false, List, [], Some, None, Result, Ok, Err, refl, ap, ◌∙◌, subst}
use Rattle.tb_geom.specs.declared.refusal.Refusal.{Refusal}
use Rattle.tb_geom.specs.Points.{PixelSet}
use Rattle.tb_geom.specs.Refusals.{first_refusal}
use Rattle.desk_layers.specs.declared.part.Part.{Part}
use Rattle.def_iface.specs.Slots.{TakenBox}
use Rattle.def_iface.specs.WindowMeaning.{WindowLoan}
use Rattle.def_iface.specs.WindowSlots.{WindowSlot}
use Rattle.desk_call.specs.declared.text.TextCall.{TextCall}
use Rattle.desk_call.specs.declared.text.TextCall.TheVariants as asks
use Rattle.desk_call.specs.declared.text.TextOf.{TextOf}
use Rattle.desk_call.specs.declared.text.TextReply.{TextReply}
use Rattle.desk_call.specs.declared.text.TextReply.TheVariants.{Done}
use Rattle.text_record.specs.Changes.{placed, shown_as}
use Rattle.text_record.specs.Texts.{Record, placing_of}
use Rattle.window_items.specs.Items.{with_kept}
use Rattle.window_items.proofs.EditLemmas.{edit_alike}
use Rattle.window_mgr.specs.declared.manager.WindowManager.{WindowManager}
use Rattle.window_mgr.specs.DeskStates.{Opened}
use Rattle.window_mgr.specs.Records.{desk_of}
use Rattle.text_mgr.specs.declared.laying.Lie.{Lie}
use Rattle.text_mgr.specs.declared.spots.TextAt.{TextAt}
use Rattle.text_mgr.specs.declared.texts.Texts.{Texts}
use Rattle.text_mgr.specs.Laying.{IsLaidOrShort, laid, shown_call}
use Rattle.text_mgr.specs.Spots.{IsSpotOf}
use Rattle.text_mgr.specs.TextDesks.{KeptText, TextDesk, text_of}
use Rattle.text_mgr.specs.TextLayers.{IsShapeOf}
use Rattle.text_mgr.specs.TextRefusals.{may_text_grow, missing_refusals, text_refusals}
use Rattle.text_mgr.specs.TextSteps.{IsTextEffect, IsTextLaid, IsTextStep}
use Rattle.text_mgr.specs.WholeTexts.{LeavesTexts, text_desk, texts_state}
use Rattle.text_mgr.proofs.Places.{named_there, one_there, record_there, text_there}
use Rattle.text_mgr.proofs.Steps.{desk_seen, nothing_missing, refused_by}

module _ {V : Type 0} {H : V → Type 0} (loan : TakenBox V H → WindowLoan) where
  module _ (x : TextOf) (t : WindowManager V H) (m : Texts) (s : TextAt) (is : IsSpotOf loan x t m s) (l : Lie) where
    abbrev there : KeptText
    there = (record_there loan x t m s is).item

    -- a record laid by one rule is laid by another that makes the same of it
    other_rule : (f : Record → Record) (others : List ℕ → Part → PixelSet) (o : Opened) (slots : List WindowSlot) (after : TextDesk) → laid l there.kept ≡ f there.kept
        → IsTextLaid x (laid l) (text_desk loan others t o slots m) after → IsTextLaid x f (text_desk loan others t o slots m) after
    other_rule f others o slots after same h =
        let ts = m.list.items.items in
        let it : (y : KeptText) → text_of x ts ≡ Some y → there ≡ y = λ y e. one_there (text_of x ts) there y (named_there loan x t m s is) e in
        let alike : (y : KeptText) → there ≡ y → laid l y.kept ≡ f y.kept = λ y e. subst (λ (z : KeptText). laid l z.kept ≡ f z.kept) e same in
        record {
          changed = record {
            at = h.changed.at;
            found = h.changed.found;
            texts = h.changed.texts ∙ ap (λ us. record (texts_state m) { texts = us; scrap = m.scrap })
                (edit_alike (with_kept (laid l)) (with_kept f) h.changed.at ts
                (λ y e. ap (λ k. record y { kept = k }) (alike y (it y (text_there x ts h.changed.at h.changed.found y e)))));
          };
          shape = h.shape;
          is = (h.is.0, h.is.1, subst (λ k. IsShapeOf k h.shape) (alike h.is.0 (it h.is.0 h.is.1)) h.is.2);
          laid = h.laid;
          activity = h.activity;
        }

    -- laid by a call
    pub laid_by : (f : Record → Record) (call : TextCall) (result : Result TextReply Refusal) (u : WindowManager V H) (o r : Opened) (n : Texts) → laid l there.kept ≡ f there.kept → may_text_grow call ≡ true
        → ((others : List ℕ → Part → PixelSet) (slots : List WindowSlot) → first_refusal (text_refusals call (desk_seen loan others t slots m) (texts_state m)) ≡ None)
        → ((answer : TextReply) (before after : TextDesk) → (answer ≡ Done) × IsTextLaid x f before after → IsTextEffect call answer before after)
        → LeavesTexts loan (IsLaidOrShort x (laid l) result) t o m u r n → LeavesTexts loan (IsTextStep call result) t o m u r n
    laid_by f call (Ok answer) u o r n same grows why effect leaves others slots whole b =
        let left = leaves others slots whole b in
        (left.0, left.1, (why others slots, effect answer _ _ (left.2.0, other_rule f others o slots _ same left.2.1)))
    laid_by f call (Err e) u o r n same grows why effect leaves others slots whole b =
        let left = leaves others slots whole b in
        (left.0, left.1, (inr (why others slots, (grows, left.2.0)), left.2.1))

    -- the call shows it, or hides it
    pub shown_by : (shown : Bool) → l.placing ≡ placing_of there.kept → l.shown ≡ shown → (result : Result TextReply Refusal) (u : WindowManager V H) (o r : Opened) (n : Texts)
        → LeavesTexts loan (IsLaidOrShort x (laid l) result) t o m u r n → LeavesTexts loan (IsTextStep (shown_call shown x) result) t o m u r n
    shown_by true placing seen result u o r n =
        laid_by (shown_as true) (asks.Show x) result u o r n (λ i. placed (placing i) (shown_as (seen i) there.kept)) refl (λ others slots. nothing_missing loan x t m s is) (λ answer before after h. h)
    shown_by false placing seen result u o r n =
        laid_by (shown_as false) (asks.Hide x) result u o r n (λ i. placed (placing i) (shown_as (seen i) there.kept)) refl (λ others slots. nothing_missing loan x t m s is) (λ answer before after h. h)

  -- neither is done to a text record that is missing
  pub shown_missing : (shown : Bool) (x : TextOf) (result : Result TextReply Refusal) (e : Refusal) (t : WindowManager V H) (o : Opened) (m : Texts) → result ≡ Err e
      → first_refusal (missing_refusals x (desk_of loan t []) m.list.items.items) ≡ Some e → LeavesTexts loan (IsTextStep (shown_call shown x) result) t o m t o m
  shown_missing true x result e t o m is why = refused_by loan (asks.Show x) result e t o m is (λ others slots. why)
  shown_missing false x result e t o m is why = refused_by loan (asks.Hide x) result e t o m is (λ others slots. why)
