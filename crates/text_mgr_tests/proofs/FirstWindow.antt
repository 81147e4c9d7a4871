-- The first window of a desk: it has no layer, so that no text record is whole beside it.
use Rattle.std.proofs.Common.{◌≡◌, ℕ, ◌≤◌, Bool, true, false, if◌then◌else◌, List, [], map, refl, sym, ap, ◌∙◌, subst, arith}
use Rattle.std.specs.Prelude.{All}
use Rattle.std.proofs.lemmas.List.Elements.{All-cons, All-nil, All-weaker}
use Rattle.desk_call.specs.declared.window.NewWindow.{NewWindow}
use Rattle.window_items.specs.Items.{AreApart, are_before, count_of, items_of}
use Rattle.window_list.specs.Classes.{put_front}
use Rattle.vis_update.specs.Records.{WindowRecord, is_floating}
use Rattle.window_mgr.specs.Arrange.{with_highlighting}
use Rattle.window_mgr.specs.Effects.{IsNewWindow, begins_active, new_record}
use Rattle.window_mgr.specs.FullDesk.{FullDesk, FullState}
use Rattle.window_mgr.specs.Refused.{is_missing}
use Rattle.text_mgr.specs.TextDesks.{KeptText, TextsState}
use Rattle.text_mgr.specs.TextLayers.{AreTextLayersOf}
use Rattle.text_mgr.specs.TextRefusals.{most_texts}
use Rattle.text_mgr.specs.WholeTexts.{AreBoxesInRange, AreWholeTexts}

abbrev pub is_bare : WindowRecord → Type 0
is_bare w = w.layers ≡ []

-- a window that is made where there is none has no layer
pub first_is_bare : (n : NewWindow) (serial : ℕ) (before after : FullState) → before.desk.windows ≡ [] → IsNewWindow false n serial before after → All is_bare after.desk.windows
first_is_bare n serial before after none its =
    subst (All is_bare) (sym (ap (λ (d : FullDesk). d.windows) its.desk ∙ ap (λ ws. with_it (begins_active false n) ws) none)) (by_flag (begins_active false n))
  where
    it : WindowRecord
    it = new_record false n serial its.loan.slot its.begun

    with_it : Bool → List WindowRecord → List WindowRecord
    with_it b ws = put_front is_floating it (if b then map (with_highlighting false before.desk.active) ws else ws)

    by_flag : (b : Bool) → All is_bare (with_it b [])
    by_flag true = All-cons is_bare it [] refl (All-nil is_bare)
    by_flag false = All-cons is_bare it [] refl (All-nil is_bare)

-- no text record is whole beside windows without layers
pub none_beside : (ws : List WindowRecord) (s : TextsState) → s.texts ≡ [] → All is_bare ws → AreWholeTexts ws s
none_beside ws s e bare = record {
  boxes = subst AreBoxesInRange (sym e) (All-nil _);
  apart = subst AreApart (sym e) tt;
  given = ap (are_before s.next) e;
  somewhere = subst (All (λ (t : KeptText). is_missing t.window ws ≡ false)) (sym e) (All-nil _);
  few = λ n. subst (λ xs. count_of n xs ≤ most_texts) (sym e) (omega arith);
  joined = All-weaker is_bare (λ w. AreTextLayersOf (items_of w.serial s.texts) w.layers)
      (λ w none. subst (AreTextLayersOf (items_of w.serial s.texts)) (sym none) (subst (λ xs. AreTextLayersOf (items_of w.serial xs) []) (sym e) tt)) ws bare;
}
