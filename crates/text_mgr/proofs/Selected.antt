-- A text record whose selection was extended and drawn: what is left of the text records, and what stays selectable.
use Rattle.std.proofs.Common.{◌≡◌, ℕ, ◌<◌, ◌≤◌, false, List, [], ◌∷◌, length, get_or, Option, Some, None, refl, sym, ap, ◌∙◌, subst}
use Rattle.std.specs.Prelude.{IfSome, is_none, slice_get}
use Rattle.std.specs.Option.{option_and_then}
use Rattle.tb_geom.specs.declared.point.Point.{Point}
use Rattle.tb_geom.specs.declared.refusal.Refusal.TheVariants.{NoSuchText, NoSuchWindow}
use Rattle.tb_geom.specs.Refusals.{first_refusal}
use Rattle.def_iface.specs.Slots.{TakenBox}
use Rattle.def_iface.specs.WindowMeaning.{WindowLoan}
use Rattle.desk_call.specs.declared.activity.Activity.TheVariants.{Idle, Selecting}
use Rattle.desk_call.specs.declared.activity.SelectedText.{SelectedText}
use Rattle.desk_call.specs.declared.text.TextOf.{TextOf}
use Rattle.desk_call.specs.declared.text.TextReply.{TextReply}
use Rattle.desk_call.specs.declared.text.TextReply.TheVariants.{Offsets}
use Rattle.text_record.specs.Texts.{Record}
use Rattle.text_edits.specs.declared.selecting.Anchor.{Anchor}
use Rattle.text_edits.specs.declared.selecting.ClickMode.{ClickMode}
use Rattle.text_edits.specs.Selecting.{extended, extended_to}
use Rattle.window_items.specs.Items.{edit_at, with_kept}
use Rattle.window_items.proofs.EditLemmas.{All-there, there_edited}
use Rattle.window_items.proofs.ListLemmas.{length-edit_at}
use Rattle.window_items.proofs.WindowLemmas.{item_index-edit_at}
use Rattle.window_mgr.specs.declared.manager.WindowManager.{WindowManager}
use Rattle.window_mgr.specs.DeskStates.{Opened}
use Rattle.window_mgr.specs.Kept.{IsKept}
use Rattle.window_mgr.specs.Records.{desk_of}
use Rattle.window_mgr.specs.Refused.{is_missing}
use Rattle.control_mgr.proofs.Places.{get_is, there_is}
use Rattle.control_mgr.proofs.Steps.{first_fails, one_fails}
use Rattle.text_mgr.specs.declared.spots.TextAt.{TextAt}
use Rattle.text_mgr.specs.declared.texts.Texts.{Texts}
use Rattle.text_mgr.specs.Changing.{DrawsChanged}
use Rattle.text_mgr.specs.Showing.{IsPut}
use Rattle.text_mgr.specs.Spots.{IsSpotOf, opened}
use Rattle.text_mgr.specs.TextDesks.{KeptText, TextsState, index_of, text_of}
use Rattle.text_mgr.specs.TextRefusals.{missing_refusals}
use Rattle.text_mgr.specs.TextSteps.{offsets_of}
use Rattle.text_mgr.specs.WholeTexts.{AreBeside, IsSelectable, LeavesTexts}
use Rattle.text_mgr.proofs.Places.{found_names, named_there, one_there, record_there}
use Rattle.text_mgr.proofs.Shown.{put_done}
use Rattle.text_mgr.proofs.Whole.{SameBox}

module _ {V : Type 0} {H : V → Type 0} (loan : TakenBox V H → WindowLoan) (x : TextOf) (f : Record → Record) (t u : WindowManager V H) (m n : Texts) (s : TextAt) (is : IsSpotOf loan x t m s) where
  -- it was put so, and drawn
  pub put_so : ((y : KeptText) → slice_get m.list.items.items s.text ≡ Some y → SameBox y.kept (f y.kept)) → n.list.items.items ≡ edit_at (with_kept f) s.text m.list.items.items
      → n.list.next ≡ m.list.next → n.scrap ≡ m.scrap
      → DrawsChanged loan x (record_there loan x t m s is).item.kept t u n
      → (o r : Opened) → LeavesTexts loan (IsPut x f) t o m u r n
  put_so same texts next scrapped drawn o r others slots whole beside =
      let done = put_done loan x f m.scrap t u m n s is same texts next scrapped drawn o r others slots whole beside in
      (done.0, done.1, record { changed = done.2.changed; shown = done.2.shown })

  -- so the text records are these
  pub put_texts : IsKept loan t → AreBeside loan t m → ((o r : Opened) → LeavesTexts loan (IsPut x f) t o m u r n) → n.list.items.items ≡ edit_at (with_kept f) s.text m.list.items.items
  put_texts kept beside put =
      let o = opened Idle (λ p. false) in
      let done = put o o (λ font q p. false) kept.slots kept.whole beside in
      let at : done.2.changed.at ≡ s.text = one_there (index_of x m.list.items.items) done.2.changed.at s.text done.2.changed.found is.text in
      ap (λ (z : TextsState). z.texts) done.2.changed.texts ∙ ap (λ i. edit_at (with_kept f) i m.list.items.items) at

  module _ (texts : n.list.items.items ≡ edit_at (with_kept f) s.text m.list.items.items) where
    pub still_low : s.text < length n.list.items.items
    still_low = subst (λ k. s.text < k) (sym (ap length texts ∙ length-edit_at (with_kept f) s.text m.list.items.items)) is.low

    -- and this one is what was made of it
    pub put_there : slice_get n.list.items.items s.text ≡ Some (with_kept f (record_there loan x t m s is).item)
    put_there = ap (λ xs. slice_get xs s.text) texts ∙ there_edited (with_kept f) s.text m.list.items.items (record_there loan x t m s is).item (record_there loan x t m s is).there

    pub put_named : text_of x n.list.items.items ≡ Some (with_kept f (record_there loan x t m s is).item)
    put_named =
        ap (λ xs. option_and_then (slice_get n.list.items.items) (index_of x xs)) texts
        ∙ ap (option_and_then (slice_get n.list.items.items)) (item_index-edit_at (with_kept f) (λ c. refl) (λ c. refl) x.window x.text s.text m.list.items.items ∙ is.text)
        ∙ put_there

-- ---- what is selected from an anchor on

module _ {V : Type 0} {H : V → Type 0} (loan : TakenBox V H → WindowLoan) (x : TextOf) (t : WindowManager V H) (m : Texts) (s : TextAt) (is : IsSpotOf loan x t m s) (a : Anchor) where
  abbrev item : KeptText
  item = (record_there loan x t m s is).item

  -- the anchor lies within the text record that stands here, where it lies within the one that was read
  pub within_read : (y : KeptText) → y ≡ get_or m.list.items.items s.text y → a.end ≤ length y.kept.text.bytes → IfSome (slice_get m.list.items.items s.text) (λ z. a.end ≤ length z.kept.text.bytes)
  within_read y read low = subst (λ o. IfSome o (λ (z : KeptText). a.end ≤ length z.kept.text.bytes)) (sym (get_is m.list.items.items s.text y is.low read)) low

  within_item : IfSome (slice_get m.list.items.items s.text) (λ z. a.end ≤ length z.kept.text.bytes) → a.end ≤ length item.kept.text.bytes
  within_item within = subst (λ o. IfSome o (λ (z : KeptText). a.end ≤ length z.kept.text.bytes)) (record_there loan x t m s is).there within

  module _ (mode : ClickMode) (p : Point) (n : Texts) (texts : n.list.items.items ≡ edit_at (with_kept (extended_to a mode p)) s.text m.list.items.items) (u : WindowManager V H) where
    -- it stays selectable
    pub still_selectable : a.start ≤ a.end → IfSome (slice_get m.list.items.items s.text) (λ z. a.end ≤ length z.kept.text.bytes)
        → IsSelectable (Selecting (record { text = x; mode = mode; anchor = a })) n.list.items.items
    still_selectable order within = (with_kept (extended_to a mode p) item, put_named loan x (extended_to a mode p) t u m n s is texts, order, within_item within)

    -- and what is told is what is selected
    pub told_selected : (answer : TextReply) → IfSome (slice_get n.list.items.items s.text) (λ z. answer ≡ Offsets z.kept.start z.kept.end) → answer ≡ offsets_of (extended a mode p item.kept)
    told_selected answer told = subst (λ o. IfSome o (λ (z : KeptText). answer ≡ Offsets z.kept.start z.kept.end)) (put_there loan x (extended_to a mode p) t u m n s is texts) told

-- a text record that was lent has what the one in the list has
pub within_lent : (a : Anchor) (xs : List KeptText) (at : ℕ) (lent : Record) → at < length xs → IfSome (slice_get xs at) (λ x. lent ≡ x.kept) → IfSome (slice_get xs at) (λ x. a.end ≤ length x.kept.text.bytes)
    → a.end ≤ length lent.text.bytes
within_lent a xs at lent low is within = by_item (slice_get xs at) refl is within
  where
    by_item : (o : Option KeptText) → slice_get xs at ≡ o → IfSome o (λ x. lent ≡ x.kept) → IfSome o (λ x. a.end ≤ length x.kept.text.bytes) → a.end ≤ length lent.text.bytes
    by_item None e h k = absurd (no_item xs at low e)
      where
        no_item : (ys : List KeptText) (i : ℕ) → i < length ys → slice_get ys i ≡ None → ⊥
        no_item ys i low e = let its = there_is ys i low in absurd (cc)
    by_item (Some y) e h k = subst (λ (r : Record). a.end ≤ length r.text.bytes) (sym h) k

-- ---- while a selection is open

module _ {V : Type 0} {H : V → Type 0} (loan : TakenBox V H → WindowLoan) (k : SelectedText) (t : WindowManager V H) (m : Texts) (selectable : IsSelectable (Selecting k) m.list.items.items) where
  -- its text record is not missing
  pub not_missing : AreBeside loan t m → first_refusal (missing_refusals k.text (desk_of loan t []) m.list.items.items) ≡ None
  not_missing beside = by_index (index_of k.text m.list.items.items) refl selectable.1
    where
      by_index : (o : Option ℕ) → index_of k.text m.list.items.items ≡ o → option_and_then (slice_get m.list.items.items) o ≡ Some selectable.0
          → first_refusal (missing_refusals k.text (desk_of loan t []) m.list.items.items) ≡ None
      by_index None e h = absurd (cc)
      by_index (Some at) e h =
          let names = found_names k.text m.list.items.items at e selectable.0 h in
          let there : is_missing k.text.window (desk_of loan t []).windows ≡ false =
          subst (λ w. is_missing w (desk_of loan t []).windows ≡ false) names.0 (All-there (λ (z : KeptText). is_missing z.window (desk_of loan t []).windows ≡ false) at m.list.items.items selectable.0 h beside.somewhere) in
          first_fails (is_missing k.text.window (desk_of loan t []).windows) NoSuchWindow ((is_none (index_of k.text m.list.items.items), NoSuchText) ∷ []) there
          ∙ one_fails (is_none (index_of k.text m.list.items.items)) NoSuchText (ap is_none e)

  -- and has the anchor
  pub within_open : (s : TextAt) (is : IsSpotOf loan k.text t m s) → IfSome (slice_get m.list.items.items s.text) (λ z. k.anchor.end ≤ length z.kept.text.bytes)
  within_open s is =
      let it = record_there loan k.text t m s is in
      subst (λ o. IfSome o (λ (z : KeptText). k.anchor.end ≤ length z.kept.text.bytes)) (sym it.there)
      (subst (λ (z : KeptText). k.anchor.end ≤ length z.kept.text.bytes) (one_there (text_of k.text m.list.items.items) selectable.0 it.item selectable.1 (named_there loan k.text t m s is)) selectable.3)
