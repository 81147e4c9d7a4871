-- A text record that is put elsewhere, as a step.
use Rattle.std.proofs.Common.{◌≡◌, ℕ, Bool, true, false, not, List, [], ◌∷◌, get_or, Some, Result, Err, refl, sym, ap, ◌∙◌}
use Rattle.std.proofs.lemmas.Bool.{and_parts}
use Rattle.tb_geom.specs.declared.refusal.Refusal.{Refusal}
use Rattle.tb_geom.specs.declared.refusal.Refusal.TheVariants.{OutOfRange}
use Rattle.tb_geom.specs.Points.{PixelSet}
use Rattle.tb_geom.specs.Rects.{is_in_range, moved_rect}
use Rattle.tb_geom.specs.Refusals.{first_refusal}
use Rattle.desk_layers.specs.declared.part.Part.{Part}
use Rattle.def_iface.specs.Slots.{TakenBox}
use Rattle.def_iface.specs.WindowMeaning.{WindowLoan}
use Rattle.def_iface.specs.WindowSlots.{WindowSlot}
use Rattle.desk_call.specs.declared.text.PlaceText.{PlaceText}
use Rattle.desk_call.specs.declared.text.TextCall.TheVariants as asks
use Rattle.desk_call.specs.declared.text.TextReply.{TextReply}
use Rattle.text_record.specs.Changes.{placed, shown_as}
use Rattle.text_record.specs.Placings.{box_of, is_near, is_placing, is_sized, is_width}
use Rattle.window_list.specs.declared.window.Window.{Window}
use Rattle.window_mgr.specs.declared.manager.WindowManager.{WindowManager}
use Rattle.window_mgr.specs.DeskStates.{Opened}
use Rattle.window_mgr.specs.Edits.{IsWindowAt}
use Rattle.window_mgr.specs.Finding.{record_with}
use Rattle.window_mgr.specs.Kept.{IsKept}
use Rattle.window_mgr.specs.Records.{desk_of}
use Rattle.control_mgr.proofs.Lays.{one_item}
use Rattle.control_mgr.proofs.Places.{read_is}
use Rattle.text_mgr.specs.declared.laying.Lie.{Lie}
use Rattle.text_mgr.specs.declared.spots.TextAt.{TextAt}
use Rattle.text_mgr.specs.declared.texts.Texts.{Texts}
use Rattle.text_mgr.specs.Laying.{IsLaidOrShort, MayLie, laid}
use Rattle.text_mgr.specs.Spots.{IsSpotOf}
use Rattle.text_mgr.specs.TextDesks.{KeptText}
use Rattle.text_mgr.specs.TextPlaces.{may_stand, may_stand_at, may_stand_in, placing_of}
use Rattle.text_mgr.specs.TextRefusals.{missing_refusals, text_refusals}
use Rattle.text_mgr.specs.TextSteps.{IsTextStep}
use Rattle.text_mgr.specs.WholeTexts.{LeavesTexts, texts_state}
use Rattle.text_mgr.proofs.LaidSteps.{laid_by}
use Rattle.text_mgr.proofs.NewJudged.{window_is}
use Rattle.text_mgr.proofs.Places.{it_is, record_there}
use Rattle.text_mgr.proofs.Steps.{desk_seen, missing_first, other_reasons, refused_by}

module _ {V : Type 0} {H : V → Type 0} (loan : TakenBox V H → WindowLoan) (p : PlaceText) (t : WindowManager V H) (m : Texts) where
  pub place_missing : (result : Result TextReply Refusal) (e : Refusal) (o : Opened) → result ≡ Err e
      → first_refusal (missing_refusals p.text (desk_of loan t []) m.list.items.items) ≡ Some e → LeavesTexts loan (IsTextStep (asks.Place p) result) t o m t o m
  place_missing result e o is why =
      refused_by loan (asks.Place p) result e t o m is (λ others slots.
      missing_first p.text (λ r. (not (may_stand_in r.framed p.place (record_with p.text.window (desk_of loan t []).windows)), OutOfRange) ∷ []) (desk_seen loan others t slots m) m.list.items.items e why)

  module _ (s : TextAt) (is : IsSpotOf loan p.text t m s) (y : KeptText) (here : y ≡ get_or m.list.items.items s.text y) (framed : Bool) (framed_is : framed ≡ y.kept.framed)
      (w : Window V H) (lies : IsWindowAt t.windows.records.items s.window w) where
    abbrev there : KeptText
    there = (record_there loan p.text t m s is).item

    item_is : there ≡ y
    item_is = one_item m.list.items.items s.text there y is.low (read_is m.list.items.items s.text there (record_there loan p.text t m s is).there) here

    framed_there : there.kept.framed ≡ framed
    framed_there = ap (λ (z : KeptText). z.kept.framed) item_is ∙ sym framed_is

    module _ (kept : IsKept loan t) where
      reasons : (others : List ℕ → Part → PixelSet) (slots : List WindowSlot)
          → first_refusal (text_refusals (asks.Place p) (desk_seen loan others t slots m) (texts_state m)) ≡ first_refusal ((not (may_stand_at framed p.place w.place), OutOfRange) ∷ [])
      reasons others slots =
          other_reasons loan p.text t m s is (λ r. (not (may_stand_in r.framed p.place (record_with p.text.window (desk_of loan t []).windows)), OutOfRange) ∷ [])
          ∙ (λ i. first_refusal ((not (may_stand_in (framed_there i) p.place (window_is loan t kept p.text.window s.window is.window w lies i)), OutOfRange) ∷ []))

      pub not_placed : may_stand_at framed p.place w.place ≡ false → (o : Opened) → LeavesTexts loan (IsTextStep (asks.Place p) (Err OutOfRange)) t o m t o m
      not_placed e o = refused_by loan (asks.Place p) (Err OutOfRange) OutOfRange t o m refl (λ others slots. reasons others slots ∙ (λ i. first_refusal ((not (e i), OutOfRange) ∷ [])))

      module _ (l : Lie) (may : may_stand_at framed p.place w.place ≡ true) (placing : l.placing ≡ placing_of p.place) where
        pub may_be_laid : MayLie t m s l
        may_be_laid x v e v_lies =
            let same : x ≡ there = sym (it_is loan p.text t m s is x e) in
            let framed_so : framed ≡ x.kept.framed = sym (ap (λ (z : KeptText). z.kept.framed) same ∙ framed_there) in
            let window : w ≡ v = one_item t.windows.records.items s.window w v is.window.0 lies v_lies in
            let parts = and_parts (may_stand framed p.place) _ may in
            let put = (and_parts _ (is_placing framed (placing_of p.place)) parts.0).1 in
            let tops = and_parts (is_near (placing_of p.place).top) _ (and_parts (is_near (placing_of p.place).left) _ put).1 in
            let box = (and_parts (is_sized (placing_of p.place).view) _ (and_parts (is_width (placing_of p.place).width) _ tops.1).1).1 in (
              (λ i. is_placing (sym framed_so i) (placing i)) ∙ put,
              (λ i. is_in_range (box_of (sym framed_so i) (placing i).view)) ∙ box,
              (λ i. is_in_range (moved_rect (box_of (sym framed_so i) (placing i).view) (sym window i).place.h (sym window i).place.v)) ∙ parts.1,
            )

        pub placed_so : l.shown ≡ there.kept.shown → (result : Result TextReply Refusal) (u : WindowManager V H) (o r : Opened) (n : Texts)
            → LeavesTexts loan (IsLaidOrShort p.text (laid l) result) t o m u r n → LeavesTexts loan (IsTextStep (asks.Place p) result) t o m u r n
        placed_so shown result u o r n =
            laid_by loan p.text t m s is l (placed (placing_of p.place)) (asks.Place p) result u o r n (λ i. placed (placing i) (shown_as (shown i) there.kept)) refl
            (λ others slots. reasons others slots ∙ (λ i. first_refusal ((not (may i), OutOfRange) ∷ []))) (λ answer before after h. h)
