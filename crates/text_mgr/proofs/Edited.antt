-- A text record that a call edits: why it is refused, and the step.
use Rattle.std.proofs.Common.{◌≡◌, inl, inr, ⊎_elim, ℕ, List, [], Some, None, Result, Ok, Err, refl, sym, ap, ◌∙◌, subst}
use Rattle.std.specs.Prelude.{IfSome, slice_get}
use Rattle.tb_geom.specs.declared.refusal.Refusal.{Refusal}
use Rattle.tb_geom.specs.Points.{PixelSet}
use Rattle.tb_geom.specs.Refusals.{first_refusal}
use Rattle.desk_layers.specs.declared.part.Part.{Part}
use Rattle.def_iface.specs.Slots.{TakenBox}
use Rattle.def_iface.specs.WindowMeaning.{WindowLoan}
use Rattle.def_iface.specs.WindowSlots.{WindowSlot}
use Rattle.desk_call.specs.declared.text.TextCall.{TextCall}
use Rattle.desk_call.specs.declared.text.TextCall.TheVariants as call
use Rattle.desk_call.specs.declared.text.TextOf.{TextOf}
use Rattle.desk_call.specs.declared.text.TextReply.{TextReply}
use Rattle.desk_call.specs.declared.text.TextReply.TheVariants as reply
use Rattle.text_record.specs.Texts.{Record}
use Rattle.window_items.specs.declared.items.Items.{Items}
use Rattle.window_items.specs.Items.{edit_at, with_kept}
use Rattle.window_items.specs.Lends.{with_value}
use Rattle.window_items.proofs.EditLemmas.{edit_nothing}
use Rattle.window_mgr.specs.declared.manager.WindowManager.{WindowManager}
use Rattle.window_mgr.specs.DeskStates.{Opened, desk_with}
use Rattle.window_mgr.specs.FullDesk.{FullDesk}
use Rattle.window_mgr.specs.Records.{desk_of, state_of, state_showing}
use Rattle.window_mgr.specs.Whole.{IsWholeManager}
use Rattle.text_mgr.specs.declared.spots.TextAt.{TextAt}
use Rattle.text_mgr.specs.declared.texts.Texts.{Texts}
use Rattle.text_mgr.specs.CallEdits.{edit_refusals, edited, scrap_after, text_edited}
use Rattle.text_mgr.specs.Editing.{IsEditRefused}
use Rattle.text_mgr.specs.Changing.{DrawsChanged}
use Rattle.text_mgr.specs.Spots.{IsSpotOf}
use Rattle.text_mgr.specs.TextDesks.{KeptText, TextDesk, TextsState, texts_show}
use Rattle.text_mgr.specs.TextRefusals.{missing_refusals, named_refusals, text_refusals}
use Rattle.text_mgr.specs.TextSteps.{IsTextEdited, IsTextEffect, IsTextShownAnew, IsTextStep, IsWhereRight}
use Rattle.text_mgr.specs.WholeTexts.{AreWholeTexts, LeavesTexts, text_desk, texts_state}
use Rattle.text_mgr.proofs.Edits.{edited_box}
use Rattle.text_mgr.proofs.Places.{named_there, record_there}
use Rattle.text_mgr.proofs.Shown.{put_done}
use Rattle.text_mgr.proofs.Steps.{desk_seen, missing_first, other_reasons, refused_by, unchanged, where_right}
use Rattle.text_mgr.proofs.Written.{written}

-- ---- calls that edit

named : (P : TextOf → Type 0) (u t : TextOf) → Some u ≡ Some t → P u → P t
named P u t e h = let same : u ≡ t = cc in subst P same h

-- such a call is refused by what it makes of the text record that it edits
pub edit_reasons : (c : TextCall) (t : TextOf) (desk : FullDesk) (s : TextsState) → text_edited c ≡ Some t → text_refusals c desk s ≡ named_refusals t (edit_refusals c s.scrap) desk s.texts
edit_reasons (call.Set b) t desk s e = named (λ u. text_refusals (call.Set b) desk s ≡ named_refusals u (edit_refusals (call.Set b) s.scrap) desk s.texts) b.text t e refl
edit_reasons (call.Insert b) t desk s e = named (λ u. text_refusals (call.Insert b) desk s ≡ named_refusals u (edit_refusals (call.Insert b) s.scrap) desk s.texts) b.text t e refl
edit_reasons (call.Delete x) t desk s e = named (λ u. text_refusals (call.Delete x) desk s ≡ named_refusals u (edit_refusals (call.Delete x) s.scrap) desk s.texts) x t e refl
edit_reasons (call.Key n) t desk s e = named (λ u. text_refusals (call.Key n) desk s ≡ named_refusals u (edit_refusals (call.Key n) s.scrap) desk s.texts) n.text t e refl
edit_reasons (call.Cut x) t desk s e = named (λ u. text_refusals (call.Cut x) desk s ≡ named_refusals u (edit_refusals (call.Cut x) s.scrap) desk s.texts) x t e refl
edit_reasons (call.Paste x) t desk s e = named (λ u. text_refusals (call.Paste x) desk s ≡ named_refusals u (edit_refusals (call.Paste x) s.scrap) desk s.texts) x t e refl
edit_reasons (call.Select z) t desk s e = named (λ u. text_refusals (call.Select z) desk s ≡ named_refusals u (edit_refusals (call.Select z) s.scrap) desk s.texts) z.text t e refl
edit_reasons (call.Activate f) t desk s e = named (λ u. text_refusals (call.Activate f) desk s ≡ named_refusals u (edit_refusals (call.Activate f) s.scrap) desk s.texts) f.text t e refl
edit_reasons (call.Idle n) t desk s e = named (λ u. text_refusals (call.Idle n) desk s ≡ named_refusals u (edit_refusals (call.Idle n) s.scrap) desk s.texts) n.text t e refl
edit_reasons (call.Justify n) t desk s e = named (λ u. text_refusals (call.Justify n) desk s ≡ named_refusals u (edit_refusals (call.Justify n) s.scrap) desk s.texts) n.text t e refl
edit_reasons (call.Scroll z) t desk s e = named (λ u. text_refusals (call.Scroll z) desk s ≡ named_refusals u (edit_refusals (call.Scroll z) s.scrap) desk s.texts) z.text t e refl
edit_reasons (call.ShowSelection x) t desk s e = named (λ u. text_refusals (call.ShowSelection x) desk s ≡ named_refusals u (edit_refusals (call.ShowSelection x) s.scrap) desk s.texts) x t e refl
edit_reasons c t desk s e = absurd (cc)

-- and has its effect by that
edit_effect : (c : TextCall) (t : TextOf) (answer : TextReply) (before after : TextDesk) → text_edited c ≡ Some t → IsTextEdited t c answer before after → IsTextEffect c answer before after
edit_effect (call.Set b) t answer before after e h = named (λ u. IsTextEdited u (call.Set b) answer before after → IsTextEffect (call.Set b) answer before after) b.text t e (λ x. x) h
edit_effect (call.Insert b) t answer before after e h = named (λ u. IsTextEdited u (call.Insert b) answer before after → IsTextEffect (call.Insert b) answer before after) b.text t e (λ x. x) h
edit_effect (call.Delete x) t answer before after e h = named (λ u. IsTextEdited u (call.Delete x) answer before after → IsTextEffect (call.Delete x) answer before after) x t e (λ x. x) h
edit_effect (call.Key n) t answer before after e h = named (λ u. IsTextEdited u (call.Key n) answer before after → IsTextEffect (call.Key n) answer before after) n.text t e (λ x. x) h
edit_effect (call.Cut x) t answer before after e h = named (λ u. IsTextEdited u (call.Cut x) answer before after → IsTextEffect (call.Cut x) answer before after) x t e (λ x. x) h
edit_effect (call.Paste x) t answer before after e h = named (λ u. IsTextEdited u (call.Paste x) answer before after → IsTextEffect (call.Paste x) answer before after) x t e (λ x. x) h
edit_effect (call.Select z) t answer before after e h = named (λ u. IsTextEdited u (call.Select z) answer before after → IsTextEffect (call.Select z) answer before after) z.text t e (λ x. x) h
edit_effect (call.Activate f) t answer before after e h = named (λ u. IsTextEdited u (call.Activate f) answer before after → IsTextEffect (call.Activate f) answer before after) f.text t e (λ x. x) h
edit_effect (call.Idle n) t answer before after e h = named (λ u. IsTextEdited u (call.Idle n) answer before after → IsTextEffect (call.Idle n) answer before after) n.text t e (λ x. x) h
edit_effect (call.Justify n) t answer before after e h = named (λ u. IsTextEdited u (call.Justify n) answer before after → IsTextEffect (call.Justify n) answer before after) n.text t e (λ x. x) h
edit_effect (call.Scroll z) t answer before after e h = named (λ u. IsTextEdited u (call.Scroll z) answer before after → IsTextEffect (call.Scroll z) answer before after) z.text t e (λ x. x) h
edit_effect (call.ShowSelection x) t answer before after e h = named (λ u. IsTextEdited u (call.ShowSelection x) answer before after → IsTextEffect (call.ShowSelection x) answer before after) x t e (λ x. x) h
edit_effect c t answer before after e h = absurd (cc)

-- what is written as it was lent changes nothing
pub same_written : (s : Items Record) (at : ℕ) (lent new : Record) → IfSome (slice_get s.items.items at) (λ x. lent ≡ x.kept) → new ≡ lent → (with_value s at new).items.items ≡ s.items.items
same_written s at lent new is e = written (λ r. r) s at lent new is e ∙ edit_nothing (with_kept (λ r. r)) at s.items.items (λ x there. refl)

module _ {V : Type 0} {H : V → Type 0} (loan : TakenBox V H → WindowLoan) where
  -- a step is one as well of text records that are the same as plain data
  pub leaves_same : (step : TextDesk → TextDesk → Type 0) (t u : WindowManager V H) (o r : Opened) (m n n' : Texts) → n'.list.items.items ≡ n.list.items.items → n'.list.next ≡ n.list.next → n'.scrap ≡ n.scrap
      → LeavesTexts loan step t o m u r n → LeavesTexts loan step t o m u r n'
  leaves_same step t u o r m n n' items next scrap leaves others slots whole beside =
      let l = leaves others slots whole beside in
      subst (λ (s : TextsState). IsWholeManager loan u slots × AreWholeTexts (desk_of loan u []).windows s
      × step (text_desk loan others t o slots m) (record { desk = desk_with r (state_showing (texts_show others s.texts) (state_of loan u slots)); texts = s; others = others }))
      (λ i. record { texts = sym items i; next = sym next i; scrap = sym scrap i }) l

  module _ (x : TextOf) (c : TextCall) (edits : text_edited c ≡ Some x) (t : WindowManager V H) (m : Texts) where
    -- the text record is missing
    pub edit_missing : (result : Result TextReply Refusal) (e : Refusal) → result ≡ Err e → first_refusal (missing_refusals x (desk_of loan t []) m.list.items.items) ≡ Some e
        → (o : Opened) → LeavesTexts loan (IsWhereRight (IsTextStep c result)) t o m t o m
    edit_missing result e is why o =
        where_right loan (IsTextStep c result) t t m m o o (refused_by loan c result e t o m is
        (λ others slots. ap first_refusal (edit_reasons c x (desk_seen loan others t slots m) (texts_state m) edits) ∙ missing_first x (edit_refusals c m.scrap) (desk_seen loan others t slots m) m.list.items.items e why))

    module _ (s : TextAt) (is : IsSpotOf loan x t m s) (lent : Record) (lent_is : IfSome (slice_get m.list.items.items s.text) (λ y. lent ≡ y.kept)) where
      item_is : lent ≡ (record_there loan x t m s is).item.kept
      item_is = subst (λ o. IfSome o (λ (y : KeptText). lent ≡ y.kept)) (record_there loan x t m s is).there lent_is

      -- whatever other layers show, these are the reasons
      reasons : (others : List ℕ → Part → PixelSet) (slots : List WindowSlot) → first_refusal (text_refusals c (desk_seen loan others t slots m) (texts_state m)) ≡ first_refusal (edit_refusals c m.scrap lent)
      reasons others slots =
          ap first_refusal (edit_reasons c x (desk_seen loan others t slots m) (texts_state m) edits)
          ∙ other_reasons loan x t m s is (edit_refusals c m.scrap)
          ∙ ap (λ r. first_refusal (edit_refusals c m.scrap r)) (sym item_is)

      -- the edit was refused, and changed nothing
      pub edit_failed : (result : Result TextReply Refusal) (e : Refusal) (n : Texts) → result ≡ Err e → IsEditRefused c m.scrap lent e → n.list.items.items ≡ m.list.items.items → n.list.next ≡ m.list.next → n.scrap ≡ m.scrap
          → (o : Opened) → LeavesTexts loan (IsWhereRight (IsTextStep c result)) t o m t o n
      edit_failed result e n err why items next scrap o =
          leaves_same (IsWhereRight (IsTextStep c result)) t t o o m m n items next scrap
          (subst (λ r. LeavesTexts loan (IsWhereRight (IsTextStep c r)) t o m t o m) (sym err)
          (λ others slots whole beside. (
            whole,
            beside,
            λ right. (
              ⊎_elim (λ some. inl (reasons others slots ∙ some)) (λ none. inr (reasons others slots ∙ none.0, none.1)) why,
              unchanged loan others t o slots m,
            ),
          )))

      -- it was made, and drawn
      pub edit_done : (u : WindowManager V H) (n : Texts) → n.list.items.items ≡ edit_at (with_kept (edited c m.scrap)) s.text m.list.items.items → n.list.next ≡ m.list.next → n.scrap ≡ scrap_after c m.scrap lent
          → first_refusal (edit_refusals c m.scrap lent) ≡ None
          → DrawsChanged loan x (record_there loan x t m s is).item.kept t u n
          → (o : Opened) → LeavesTexts loan (IsWhereRight (IsTextStep c (Ok reply.Done))) t o m u o n
      edit_done u n items next scrap none drawn o others slots whole beside =
          let done = put_done loan x (edited c m.scrap) (scrap_after c m.scrap lent) t u m n s is (λ y e. edited_box c m.scrap y.kept) items next scrap drawn o o others slots whole beside in (
            done.0,
            done.1,
            λ right. (
              reasons others slots ∙ none,
              edit_effect c x reply.Done (text_desk loan others t o slots m) (text_desk loan others u o slots n) edits (
                refl,
                record { activity = refl; begun = refl },
                (
                  (record_there loan x t m s is).item,
                  named_there loan x t m s is,
                  subst (λ r. IsTextShownAnew x (edited c m.scrap) (scrap_after c m.scrap r) (text_desk loan others t o slots m) (text_desk loan others u o slots n)) item_is (done.2.shown right),
                ),
              ),
            ),
          )
