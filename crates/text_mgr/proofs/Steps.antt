-- Steps of calls about text records: refused ones, those that tell something, and what is known where nothing is missing.
use Rattle.std.proofs.Common.{◌≡◌, inl, inr, ℕ, Bool, true, false, List, [], ◌∷◌, Some, None, Result, Ok, Err, refl, sym, ap, ◌∙◌, subst}
use Rattle.std.specs.Prelude.{is_none}
use Rattle.std.specs.Option.{option_map_or}
use Rattle.tb_geom.specs.declared.refusal.Refusal.{Refusal}
use Rattle.tb_geom.specs.declared.refusal.Refusal.TheVariants.{NoMemory, NoSuchText, NoSuchWindow}
use Rattle.tb_geom.specs.Points.{PixelSet}
use Rattle.tb_geom.specs.Refusals.{first_refusal}
use Rattle.desk_layers.specs.declared.part.Part.{Part}
use Rattle.def_iface.specs.Slots.{TakenBox}
use Rattle.def_iface.specs.WindowMeaning.{WindowLoan}
use Rattle.def_iface.specs.WindowSlots.{WindowSlot}
use Rattle.desk_call.specs.declared.text.TextCall.{TextCall}
use Rattle.desk_call.specs.declared.text.TextOf.{TextOf}
use Rattle.desk_call.specs.declared.text.TextReply.{TextReply}
use Rattle.text_record.specs.Texts.{Record}
use Rattle.window_mgr.specs.declared.manager.WindowManager.{WindowManager}
use Rattle.window_mgr.specs.DeskStates.{Opened}
use Rattle.window_mgr.specs.FullDesk.{FullDesk}
use Rattle.window_mgr.specs.Records.{desk_of, desk_showing}
use Rattle.window_mgr.specs.Refused.{is_missing}
use Rattle.control_mgr.proofs.Steps.{first_fails, one_fails}
use Rattle.text_mgr.specs.declared.spots.TextAt.{TextAt}
use Rattle.text_mgr.specs.declared.texts.Texts.{Texts}
use Rattle.text_mgr.specs.Spots.{IsSpotOf}
use Rattle.text_mgr.specs.TextDesks.{IsTextDeskUnchanged, KeptText, TextDesk, index_of, text_of, texts_show}
use Rattle.text_mgr.specs.TextRefusals.{may_text_grow, missing_refusals, named_refusals, text_refusals}
use Rattle.text_mgr.specs.TextSteps.{IsTextEffect, IsTextStep, IsWhereRight}
use Rattle.text_mgr.specs.WholeTexts.{LeavesTexts, text_desk, texts_state}
use Rattle.text_mgr.proofs.Places.{named_there, record_there}

-- ---- refusals of a call that names a text record

-- where the record is missing, whatever else would be judged
pub missing_first : (t : TextOf) (judged : Record → List (Bool × Refusal)) (desk : FullDesk) (ts : List KeptText) (e : Refusal)
    → first_refusal (missing_refusals t desk ts) ≡ Some e → first_refusal (named_refusals t judged desk ts) ≡ Some e
missing_first t judged desk ts e h =
    by_tests (is_missing t.window desk.windows) (is_none (index_of t ts)) (option_map_or (λ (x : KeptText). judged x.kept) (text_of t ts) []) h
  where
    by_tests : (a b : Bool) (rest : List (Bool × Refusal)) → first_refusal ((a, NoSuchWindow) ∷ (b, NoSuchText) ∷ []) ≡ Some e → first_refusal ((a, NoSuchWindow) ∷ (b, NoSuchText) ∷ rest) ≡ Some e
    by_tests true b rest h = h
    by_tests false true rest h = h
    by_tests false false rest h = absurd (cc)

module _ {V : Type 0} {H : V → Type 0} (loan : TakenBox V H → WindowLoan) where
  -- the desk of windows and text records, as refusals and steps see it, where other layers show this
  abbrev pub desk_seen : (List ℕ → Part → PixelSet) → WindowManager V H → List WindowSlot → Texts → FullDesk
  desk_seen others t slots m = desk_showing (texts_show others m.list.items.items) (desk_of loan t slots)

  pub unchanged : (others : List ℕ → Part → PixelSet) (t : WindowManager V H) (o : Opened) (slots : List WindowSlot) (m : Texts)
      → IsTextDeskUnchanged (text_desk loan others t o slots m) (text_desk loan others t o slots m)
  unchanged others t o slots m = record {
    desk = record { windows = record { desk = refl; stale = λ p on. refl; image = λ p on. refl }; activity = refl; begun = refl };
    texts = refl;
    others = refl;
  }

  -- a refused call changes nothing
  pub refused : (call : TextCall) (e : Refusal) (t : WindowManager V H) (o : Opened) (m : Texts)
      → ((others : List ℕ → Part → PixelSet) (slots : List WindowSlot) → first_refusal (text_refusals call (desk_seen others t slots m) (texts_state m)) ≡ Some e)
      → LeavesTexts loan (IsTextStep call (Err e)) t o m t o m
  refused call e t o m why others slots windows texts = (windows, texts, (inl (why others slots), unchanged others t o slots m))

  pub refused_by : (call : TextCall) (result : Result TextReply Refusal) (e : Refusal) (t : WindowManager V H) (o : Opened) (m : Texts) → result ≡ Err e
      → ((others : List ℕ → Part → PixelSet) (slots : List WindowSlot) → first_refusal (text_refusals call (desk_seen others t slots m) (texts_state m)) ≡ Some e)
      → LeavesTexts loan (IsTextStep call result) t o m t o m
  refused_by call result e t o m is why = subst (λ r. LeavesTexts loan (IsTextStep call r) t o m t o m) (sym is) (refused call e t o m why)

  -- the step was made, also where the screen was right
  pub where_right : (step : TextDesk → TextDesk → Type 0) (t u : WindowManager V H) (m n : Texts) (o r : Opened)
      → LeavesTexts loan step t o m u r n → LeavesTexts loan (IsWhereRight step) t o m u r n
  where_right step t u m n o r leaves others slots windows texts = let l = leaves others slots windows texts in (l.0, l.1, λ right. l.2)

  -- so is one for which there was no memory
  pub short : (call : TextCall) (e : Refusal) (t : WindowManager V H) (o : Opened) (m : Texts) → may_text_grow call ≡ true → e ≡ NoMemory
      → ((others : List ℕ → Part → PixelSet) (slots : List WindowSlot) → first_refusal (text_refusals call (desk_seen others t slots m) (texts_state m)) ≡ None)
      → LeavesTexts loan (IsTextStep call (Err e)) t o m t o m
  short call e t o m grows is why others slots windows texts = (windows, texts, (inr (why others slots, (grows, is)), unchanged others t o slots m))

  -- a call that tells something
  pub told : (call : TextCall) (answer : TextReply) (t : WindowManager V H) (o : Opened) (m : Texts)
      → ((others : List ℕ → Part → PixelSet) (slots : List WindowSlot) → first_refusal (text_refusals call (desk_seen others t slots m) (texts_state m)) ≡ None)
      → ((others : List ℕ → Part → PixelSet) (slots : List WindowSlot) → IsTextEffect call answer (text_desk loan others t o slots m) (text_desk loan others t o slots m))
      → LeavesTexts loan (IsTextStep call (Ok answer)) t o m t o m
  told call answer t o m why effect others slots windows texts = (windows, texts, (why others slots, effect others slots))

  -- ---- a text record that is there

  module _ (x : TextOf) (t : WindowManager V H) (m : Texts) (s : TextAt) (is : IsSpotOf loan x t m s) where
    -- where nothing is missing the other reasons are looked at
    pub other_reasons : (judged : Record → List (Bool × Refusal)) → first_refusal (named_refusals x judged (desk_of loan t []) m.list.items.items) ≡ first_refusal (judged (record_there loan x t m s is).item.kept)
    other_reasons judged =
        let rest = option_map_or (λ (y : KeptText). judged y.kept) (text_of x m.list.items.items) [] in
        first_fails (is_missing x.window (desk_of loan t []).windows) NoSuchWindow ((is_none (index_of x m.list.items.items), NoSuchText) ∷ rest) is.there
        ∙ first_fails (is_none (index_of x m.list.items.items)) NoSuchText rest (ap is_none is.text)
        ∙ ap (λ o. first_refusal (option_map_or (λ (y : KeptText). judged y.kept) o [])) (named_there loan x t m s is)

    pub nothing_missing : first_refusal (missing_refusals x (desk_of loan t []) m.list.items.items) ≡ None
    nothing_missing =
        first_fails (is_missing x.window (desk_of loan t []).windows) NoSuchWindow ((is_none (index_of x m.list.items.items), NoSuchText) ∷ []) is.there
        ∙ one_fails (is_none (index_of x m.list.items.items)) NoSuchText (ap is_none is.text)
