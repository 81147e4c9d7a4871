-- What is right and whole stays so where the text records of a window that is no more are taken out.
use Rattle.std.proofs.Common.{◌≡◌, ℕ, ◌≤◌, Bool, true, false, ◌==◌, cond, List, [], ◌∷◌, length, refl, sym, ap, ◌∙◌, subst, arith, eqb-true}
use Rattle.std.specs.Prelude.{All}
use Rattle.std.specs.List.{list_any}
use Rattle.std.proofs.lemmas.Bool.{false≢true}
use Rattle.std.proofs.lemmas.Bool.Decides.{nat_tests}
use Rattle.std.proofs.lemmas.List.Elements.{All-cons, All-nil}
use Rattle.tb_geom.specs.declared.point.Point.{Point}
use Rattle.tb_geom.specs.Points.{PixelSet}
use Rattle.tb_geom.specs.Rects.{is_in_range}
use Rattle.desk_layers.specs.declared.part.Part.{Part}
use Rattle.desk_layers.specs.declared.part.Part.TheVariants as part
use Rattle.text_record.specs.Placings.{box_of}
use Rattle.window_items.specs.Items.{AreApart, are_before, count_of, has_serial, is_before, is_in, items_of}
use Rattle.window_items.proofs.SerialLemmas.{with_among}
use Rattle.window_items.proofs.WindowLemmas.{count_of-length}
use Rattle.vis_update.specs.Records.{WindowRecord}
use Rattle.window_paint.specs.White.{all_white}
use Rattle.window_mgr.specs.FullDesk.{FullState, IsRightState}
use Rattle.window_mgr.specs.Records.{desk_showing, state_showing}
use Rattle.window_mgr.specs.Refused.{is_missing}
use Rattle.window_mgr.proofs.Showing.{distinct_showing, owner_showing}
use Rattle.control_mgr.specs.ControlDesks.{ControlRecord, controls_show}
use Rattle.control_mgr.proofs.ControlsFollowed.{all_tests, all_within, both_all, no_such_window, shown_alike_right, test_all}
use Rattle.list_mgr.specs.ListDesks.{KeptList, lists_show}
use Rattle.text_mgr.specs.TextDesks.{KeptText, TextsState, texts_show, with_serial}
use Rattle.text_mgr.specs.TextLayers.{AreTextLayersOf}
use Rattle.text_mgr.specs.TextRefusals.{most_texts}
use Rattle.text_mgr.specs.WholeTexts.{AreBoxesInRange, AreWholeTexts}
use Rattle.text_mgr.proofs.TextBits.{StayTexts, same_own}
use Rattle.text_mgr.proofs.Whole.{AreJoined}
use Rattle.desk_toolbox.specs.TextsLeft.{AreTextsOfLeft}

-- ---- what is shown of controls, of lists and of text records is the same, whichever is said first

module _ (cs : List ControlRecord) (ls : List KeptList) (ts : List KeptText) where
  alike_at : (font : List ℕ) (q : Part) (p : Point) → controls_show (lists_show (texts_show (λ font. all_white) ts) ls) cs font q p ≡ texts_show (controls_show (lists_show (λ font. all_white) ls) cs) ts font q p
  alike_at font part.Picture p = refl
  alike_at font (part.Control n) p = refl
  alike_at font (part.List n) p = refl
  alike_at font (part.Text n) p = refl

  pub shows_alike : controls_show (lists_show (texts_show (λ font. all_white) ts) ls) cs ≡ texts_show (controls_show (lists_show (λ font. all_white) ls) cs) ts
  shows_alike = λ i font q p. alike_at font q p i

-- ---- text records of other windows

-- where a window has no text record, each is in another
all_elsewhere : (window : ℕ) (ts : List KeptText) → items_of window ts ≡ [] → All (λ t. is_in window t ≡ false) ts
all_elsewhere window [] none = All-nil (λ (t : KeptText). is_in window t ≡ false)
all_elsewhere window (t ∷ ts) none = by_test (all_elsewhere window ts) (is_in window t) refl none
  where
    by_test : (items_of window ts ≡ [] → All (λ x. is_in window x ≡ false) ts) → (b : Bool) → is_in window t ≡ b → cond b (t ∷ items_of window ts) (items_of window ts) ≡ [] → All (λ x. is_in window x ≡ false) (t ∷ ts)
    by_test rest true e none = absurd (cc)
    by_test rest false e none = All-cons (λ (x : KeptText). is_in window x ≡ false) t ts e (rest none)

differ : (a b : ℕ) → (a == b) ≡ false → a ≡ b → ⊥
differ a b e f = grind (arith, nat_tests)

module _ (window : ℕ) (before after : TextsState) (left : AreTextsOfLeft window before after) where
  -- those of each window that has one are the same as before
  stay_left : AreApart before.texts → StayTexts (λ o. false) before.texts after.texts
  stay_left apart s n was is other = by_test (window == s) refl
    where
      by_test : (b : Bool) → (window == s) ≡ b → with_serial n after.texts ≡ with_serial n before.texts
      by_test true e =
          let none : items_of s after.texts ≡ [] = ap (λ k. items_of k after.texts) (sym (eqb-true window s e)) ∙ left.gone in
          absurd (false≢true (sym (ap (list_any (has_serial n)) none) ∙ is))
      by_test false e =
          sym (with_among n s after.texts (left.apart apart) is)
          ∙ ap (with_serial n) (left.others s (differ window s e))
          ∙ with_among n s before.texts apart was

  -- the layers of each window that is there which are text records' are those of its own
  pub joined_left : (ws : List WindowRecord) → is_missing window ws ≡ true → AreJoined before.texts ws → AreJoined after.texts ws
  joined_left ws missing joined =
      both_all (λ w. (window == w.serial) ≡ false) (λ w. AreTextLayersOf (items_of w.serial before.texts) w.layers) (λ w. AreTextLayersOf (items_of w.serial after.texts) w.layers)
      (λ w away its. subst (λ ts. AreTextLayersOf ts w.layers) (sym (left.others w.serial (differ window w.serial away))) its)
      ws (no_such_window window ws missing) joined

  given_left : are_before before.next before.texts ≡ true → are_before after.next after.texts ≡ true
  given_left given =
      ap (λ next. are_before next after.texts) left.next
      ∙ test_all (λ t. is_before before.next t.serial) after.texts
      (all_within (λ t. is_before before.next t.serial ≡ true) before.texts after.texts left.within (all_tests (λ t. is_before before.next t.serial) before.texts given))

  -- no window has more text records then
  few_left : ((t : ℕ) → count_of t before.texts ≤ most_texts) → (t : ℕ) → count_of t after.texts ≤ most_texts
  few_left few t = by_test (window == t) refl
    where
      by_test : (b : Bool) → (window == t) ≡ b → count_of t after.texts ≤ most_texts
      by_test true e =
          let none : count_of t after.texts ≡ 0 = count_of-length t after.texts ∙ ap length (ap (λ k. items_of k after.texts) (sym (eqb-true window t e)) ∙ left.gone) in
          omega (arith, none)
      by_test false e =
          let same : count_of t after.texts ≡ count_of t before.texts = count_of-length t after.texts ∙ ap length (left.others t (differ window t e)) ∙ sym (count_of-length t before.texts) in
          subst (λ n. n ≤ most_texts) (sym same) (few t)

  -- those that stay are whole
  pub whole_left : (ws : List WindowRecord) → AreBoxesInRange before.texts → AreApart before.texts → are_before before.next before.texts ≡ true → ((t : ℕ) → count_of t before.texts ≤ most_texts) → AreJoined before.texts ws
      → All (λ t. is_in window t ≡ false → is_missing t.window ws ≡ false) before.texts → is_missing window ws ≡ true → AreWholeTexts ws after
  whole_left ws boxes apart given few joined there missing = record {
    boxes = all_within (λ t. is_in_range (box_of t.kept.framed t.kept.view) ≡ true) before.texts after.texts left.within boxes;
    apart = left.apart apart;
    given = given_left given;
    somewhere = both_all (λ t. is_in window t ≡ false) (λ t. is_in window t ≡ false → is_missing t.window ws ≡ false) (λ t. is_missing t.window ws ≡ false) (λ t e its. its e)
        after.texts (all_elsewhere window after.texts left.gone)
        (all_within (λ t. is_in window t ≡ false → is_missing t.window ws ≡ false) before.texts after.texts left.within there);
    few = few_left few;
    joined = joined_left ws missing joined;
  }

  -- and a right state stays right, beside whatever other layers show
  pub right_left : (others : List ℕ → Part → PixelSet) (s : FullState) → IsRightState s → s.desk.shows ≡ texts_show others before.texts s.desk.font → AreApart before.texts
      → AreJoined before.texts s.desk.windows → is_missing window s.desk.windows ≡ true → IsRightState (state_showing (texts_show others after.texts) s)
  right_left others s right shows apart joined missing =
      let now = desk_showing (texts_show others after.texts) s.desk in
      shown_alike_right (texts_show others after.texts) s right
      (λ p o here e. sym (same_own others s.desk now before.texts after.texts shows refl refl refl joined (joined_left s.desk.windows missing joined) (λ o. false) (stay_left apart) p o right.plain.desk
      (distinct_showing (texts_show others after.texts) s.desk right.plain.desk) here
      (owner_showing (texts_show others after.texts) s.desk p ∙ here) e refl))
