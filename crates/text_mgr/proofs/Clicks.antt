-- Selecting with the mouse, as steps.
use Rattle.std.proofs.Common.{◌≡◌, ℕ, Bool, true, false, List, [], ◌∷◌, get_or, Some, None, Result, Ok, Err, refl, sym, ap, ◌∙◌, subst}
use Rattle.std.specs.Prelude.{is_none, not}
use Rattle.tb_geom.specs.declared.point.Point.{Point}
use Rattle.tb_geom.specs.declared.refusal.Refusal.{Refusal}
use Rattle.tb_geom.specs.declared.refusal.Refusal.TheVariants.{OutOfRange}
use Rattle.tb_geom.specs.Points.{PixelSet}
use Rattle.tb_geom.specs.Rects.{in_plane}
use Rattle.tb_geom.specs.Refusals.{first_refusal}
use Rattle.desk_layers.specs.declared.part.Part.{Part}
use Rattle.def_iface.specs.Slots.{TakenBox}
use Rattle.def_iface.specs.WindowMeaning.{WindowLoan}
use Rattle.def_iface.specs.WindowSlots.{WindowSlot}
use Rattle.desk_call.specs.declared.activity.Activity.{Activity}
use Rattle.desk_call.specs.declared.activity.Activity.TheVariants.{Idle, Selecting}
use Rattle.desk_call.specs.declared.activity.SelectedText.{SelectedText}
use Rattle.desk_call.specs.declared.text.ClickText.{ClickText}
use Rattle.desk_call.specs.declared.text.TextCall.TheVariants as asks
use Rattle.desk_call.specs.declared.text.TextReply.{TextReply}
use Rattle.desk_call.specs.declared.text.TextReply.TheVariants as reply
use Rattle.text_record.specs.Places.{offset_at}
use Rattle.text_edits.specs.declared.selecting.Anchor.{Anchor}
use Rattle.text_edits.specs.declared.selecting.ClickMode.{ClickMode}
use Rattle.text_edits.specs.Selecting.{anchor_of, extended, extended_to, is_clicked}
use Rattle.window_mgr.specs.declared.manager.WindowManager.{WindowManager}
use Rattle.window_mgr.specs.DeskStates.{Opened}
use Rattle.window_mgr.specs.FullDesk.{IsRightState}
use Rattle.window_mgr.specs.Records.{desk_of}
use Rattle.control_mgr.proofs.Lays.{one_item}
use Rattle.control_mgr.proofs.Places.{read_is}
use Rattle.text_mgr.specs.declared.spots.TextAt.{TextAt}
use Rattle.text_mgr.specs.declared.texts.Texts.{Texts}
use Rattle.text_mgr.specs.Showing.{IsPut}
use Rattle.text_mgr.specs.Spots.{IsSpotOf, opened}
use Rattle.text_mgr.specs.TextDesks.{KeptText, TextDesk}
use Rattle.text_mgr.specs.TextPlaces.{click_mode}
use Rattle.text_mgr.specs.TextRefusals.{missing_refusals, text_refusals}
use Rattle.text_mgr.specs.TextSteps.{IsOpenedIf, IsSelected, IsTextShownAnew, IsTextStep, IsWhereRight, Opens, offsets_of}
use Rattle.text_mgr.specs.WholeTexts.{LeavesTexts, text_desk, texts_state}
use Rattle.text_mgr.proofs.Places.{named_there, record_there}
use Rattle.text_mgr.proofs.Steps.{desk_seen, missing_first, other_reasons, refused_by, told, unchanged, where_right}

-- ---- the mouse button is pressed

module _ {V : Type 0} {H : V → Type 0} (loan : TakenBox V H → WindowLoan) (c : ClickText) (t : WindowManager V H) (m : Texts) where
  abbrev judged : List (Bool × Refusal)
  judged = (not (in_plane c.point), OutOfRange) ∷ (is_none (click_mode c.mode), OutOfRange) ∷ []

  pub click_missing : (result : Result TextReply Refusal) (e : Refusal) (o : Opened) → result ≡ Err e → first_refusal (missing_refusals c.text (desk_of loan t []) m.list.items.items) ≡ Some e
      → LeavesTexts loan (IsWhereRight (IsTextStep (asks.Click c) result)) t o m t o m
  click_missing result e o is why =
      where_right loan (IsTextStep (asks.Click c) result) t t m m o o
      (refused_by loan (asks.Click c) result e t o m is (λ others slots. missing_first c.text (λ r. judged) (desk_seen loan others t slots m) m.list.items.items e why))

  module _ (s : TextAt) (is : IsSpotOf loan c.text t m s) where
    reasons : (others : List ℕ → Part → PixelSet) (slots : List WindowSlot) → first_refusal (text_refusals (asks.Click c) (desk_seen loan others t slots m) (texts_state m)) ≡ first_refusal judged
    reasons others slots = other_reasons loan c.text t m s is (λ r. judged)

    refused_so : (first_refusal judged ≡ Some OutOfRange) → (o : Opened) → LeavesTexts loan (IsWhereRight (IsTextStep (asks.Click c) (Err OutOfRange))) t o m t o m
    refused_so why o =
        where_right loan (IsTextStep (asks.Click c) (Err OutOfRange)) t t m m o o
        (refused_by loan (asks.Click c) (Err OutOfRange) OutOfRange t o m refl (λ others slots. reasons others slots ∙ why))

    -- outside of the range of coordinates
    pub click_outside : in_plane c.point ≡ false → (o : Opened) → LeavesTexts loan (IsWhereRight (IsTextStep (asks.Click c) (Err OutOfRange))) t o m t o m
    click_outside e o = refused_so (λ i. first_refusal ((not (e i), OutOfRange) ∷ (is_none (click_mode c.mode), OutOfRange) ∷ [])) o

    module _ (inside : in_plane c.point ≡ true) where
      -- in no mode that there is
      pub no_mode : click_mode c.mode ≡ None → (o : Opened) → LeavesTexts loan (IsWhereRight (IsTextStep (asks.Click c) (Err OutOfRange))) t o m t o m
      no_mode e o = refused_so (λ i. first_refusal ((not (inside i), OutOfRange) ∷ (is_none (e i), OutOfRange) ∷ [])) o

      module _ (mode : ClickMode) (mode_is : click_mode c.mode ≡ Some mode) (y : KeptText) (here : y ≡ get_or m.list.items.items s.text y) where
        nothing_refuses : (others : List ℕ → Part → PixelSet) (slots : List WindowSlot) → first_refusal (text_refusals (asks.Click c) (desk_seen loan others t slots m) (texts_state m)) ≡ None
        nothing_refuses others slots = reasons others slots ∙ (λ i. first_refusal ((not (inside i), OutOfRange) ∷ (is_none (mode_is i), OutOfRange) ∷ []))

        abbrev there : KeptText
        there = (record_there loan c.text t m s is).item

        item_is : there ≡ y
        item_is = one_item m.list.items.items s.text there y is.low (read_is m.list.items.items s.text there (record_there loan c.text t m s is).there) here

        clicked_there : (b : Bool) → is_clicked y.kept c.point ≡ b → b ≡ is_clicked there.kept c.point
        clicked_there b e = sym (ap (λ (z : KeptText). is_clicked z.kept c.point) item_is ∙ e)

        -- where the click selects nothing
        pub not_clicked : is_clicked y.kept c.point ≡ false → (o : Opened) → LeavesTexts loan (IsWhereRight (IsTextStep (asks.Click c) (Ok (reply.Opened false)))) t o m t o m
        not_clicked e o =
            where_right loan (IsTextStep (asks.Click c) (Ok (reply.Opened false))) t t m m o o
            (told loan (asks.Click c) (reply.Opened false) t o m nothing_refuses
            (λ others slots. (
              mode,
              mode_is,
              (
                there,
                named_there loan c.text t m s is,
                subst (λ b. IsOpenedIf b c mode there.kept (reply.Opened false) (text_desk loan others t o slots m) (text_desk loan others t o slots m)) (clicked_there false e) (refl, unchanged loan others t o slots m),
              ),
            )))

        -- where it does
        module _ (clicked : is_clicked y.kept c.point ≡ true) (a : Anchor) (a_is : a ≡ anchor_of mode (offset_at y.kept c.point) y.kept) (u : WindowManager V H) (n : Texts) (was : Activity) (begun : PixelSet) where
          abbrev opens : SelectedText
          opens = record { text = c.text; mode = mode; anchor = a }

          anchor_there : a ≡ anchor_of mode (offset_at there.kept c.point) there.kept
          anchor_there = a_is ∙ ap (λ (z : KeptText). anchor_of mode (offset_at z.kept c.point) z.kept) (sym item_is)

          -- the selection opened from this anchor on
          abbrev OpensFrom : Anchor → TextDesk → TextDesk → Type 0
          OpensFrom b before after = (reply.Opened true ≡ reply.Opened true) × Opens (Selecting (record { text = c.text; mode = mode; anchor = b })) before after
              × IsTextShownAnew c.text (extended_to b mode c.point) before.texts.scrap before after

          pub clicked_so : ((o r : Opened) → LeavesTexts loan (IsPut c.text (extended_to a mode c.point)) t o m u r n)
              → LeavesTexts loan (IsWhereRight (IsTextStep (asks.Click c) (Ok (reply.Opened true)))) t (opened was begun) m u (opened (Selecting opens) begun) n
          clicked_so put others slots whole beside =
              let o = opened was begun in
              let r = opened (Selecting opens) begun in
              let before = text_desk loan others t o slots m in
              let after = text_desk loan others u r slots n in
              let done = put o r others slots whole beside in (
                done.0,
                done.1,
                λ right. (
                  nothing_refuses others slots,
                  (
                    mode,
                    mode_is,
                    (
                      there,
                      named_there loan c.text t m s is,
                      subst (λ b. IsOpenedIf b c mode there.kept (reply.Opened true) before after) (clicked_there true clicked)
                          (subst (λ b. OpensFrom b before after) anchor_there (refl, record { activity = refl; begun = refl }, done.2.shown right)),
                    ),
                  ),
                ),
              )

-- ---- and held

module _ {V : Type 0} {H : V → Type 0} (loan : TakenBox V H → WindowLoan) (k : SelectedText) (p : Point) (t : WindowManager V H) (m : Texts) where
  -- outside of the range of coordinates
  pub step_outside : in_plane p ≡ false → (o : Opened) → LeavesTexts loan (IsWhereRight (IsTextStep (asks.Step p) (Err OutOfRange))) t o m t o m
  step_outside e o =
      where_right loan (IsTextStep (asks.Step p) (Err OutOfRange)) t t m m o o
      (refused_by loan (asks.Step p) (Err OutOfRange) OutOfRange t o m refl (λ others slots. (λ i. first_refusal ((not (e i), OutOfRange) ∷ []))))

  pub end_outside : in_plane p ≡ false → (o : Opened) → LeavesTexts loan (IsWhereRight (IsTextStep (asks.End p) (Err OutOfRange))) t o m t o m
  end_outside e o =
      where_right loan (IsTextStep (asks.End p) (Err OutOfRange)) t t m m o o
      (refused_by loan (asks.End p) (Err OutOfRange) OutOfRange t o m refl (λ others slots. (λ i. first_refusal ((not (e i), OutOfRange) ∷ []))))

  module _ (s : TextAt) (is : IsSpotOf loan k.text t m s) (inside : in_plane p ≡ true) (u : WindowManager V H) (n : Texts) (put : (o r : Opened) → LeavesTexts loan (IsPut k.text (extended_to k.anchor k.mode p)) t o m u r n)
      (answer : TextReply) (told_is : answer ≡ offsets_of (extended k.anchor k.mode p (record_there loan k.text t m s is).item.kept)) (begun : PixelSet) where
    -- what is selected then, whatever is open afterwards
    pub selects : (now : Activity) → LeavesTexts loan (λ before after. IsRightState before.desk.windows → IsSelected (Selecting k) now p answer before after) t (opened (Selecting k) begun) m u (opened now begun) n
    selects now others slots whole beside =
        let done = put (opened (Selecting k) begun) (opened now begun) others slots whole beside in (
          done.0,
          done.1,
          λ right. (
            record { activity = refl; begun = refl },
            ((record_there loan k.text t m s is).item, named_there loan k.text t m s is, (told_is, done.2.shown right)),
          ),
        )

    pub stepped : LeavesTexts loan (IsWhereRight (IsTextStep (asks.Step p) (Ok answer))) t (opened (Selecting k) begun) m u (opened (Selecting k) begun) n
    stepped others slots whole beside =
        let done = selects (Selecting k) others slots whole beside in
        (done.0, done.1, λ right. ((λ i. first_refusal ((not (inside i), OutOfRange) ∷ [])), done.2 right))

    ended : LeavesTexts loan (IsWhereRight (IsTextStep (asks.End p) (Ok answer))) t (opened (Selecting k) begun) m u (opened Idle begun) n
    ended others slots whole beside =
        let done = selects Idle others slots whole beside in
        (done.0, done.1, λ right. ((λ i. first_refusal ((not (inside i), OutOfRange) ∷ [])), done.2 right))

    -- and let go
    pub let_go : (was : Activity) → was ≡ Selecting k → LeavesTexts loan (IsWhereRight (IsTextStep (asks.End p) (Ok answer))) t (opened was begun) m u (opened Idle begun) n
    let_go was e = subst (λ a. LeavesTexts loan (IsWhereRight (IsTextStep (asks.End p) (Ok answer))) t (opened a begun) m u (opened Idle begun) n) (sym e) ended
