-- What is right and whole stays so where the lists of a window that is no more are taken out.
use Rattle.std.proofs.Common.{◌≡◌, ℕ, ◌≤◌, Bool, true, false, ◌==◌, cond, List, [], ◌∷◌, length, refl, sym, ap, ◌∙◌, subst, arith, eqb-true}
use Rattle.std.specs.Prelude.{All}
use Rattle.std.specs.List.{list_any}
use Rattle.std.proofs.lemmas.Bool.{false≢true}
use Rattle.std.proofs.lemmas.Bool.Decides.{nat_tests}
use Rattle.std.proofs.lemmas.List.Elements.{All-cons, All-nil}
use Rattle.window_items.specs.Items.{are_before, count_of, has_serial, is_before, is_in, items_of}
use Rattle.window_items.proofs.WindowLemmas.{count_of-length}
use Rattle.vis_update.specs.Records.{WindowRecord}
use Rattle.window_mgr.specs.FullDesk.{FullState, IsRightState}
use Rattle.window_mgr.specs.Records.{desk_showing, state_showing}
use Rattle.window_mgr.specs.Refused.{is_missing}
use Rattle.window_mgr.proofs.Showing.{distinct_showing, owner_showing}
use Rattle.control_mgr.specs.ControlDesks.{ControlRecord, controls_show}
use Rattle.control_mgr.proofs.ControlBits.{same_own}
use Rattle.control_mgr.proofs.ControlsFollowed.{all_tests, all_within, both_all, no_such_window, shown_alike_right, test_all}
use Rattle.control_mgr.proofs.Settled.{AreJoined}
use Rattle.list_mgr.specs.ListClosing.{AreListsOfLeft}
use Rattle.list_mgr.specs.ListDesks.{KeptList, ListsState, lists_show, with_serial}
use Rattle.list_mgr.specs.ListRefusals.{most_lists}
use Rattle.list_mgr.specs.ListSteps.{AreListLayers}
use Rattle.list_mgr.specs.WholeLists.{AreListsApart, AreSettled, AreWholeLists, IsSettledList}
use Rattle.window_items.proofs.SerialLemmas.{with_among}
use Rattle.list_mgr.proofs.ListsFound.{StaySame}
use Rattle.list_mgr.proofs.ListsStay.{AreListsJoined, lists_stay}
use Rattle.tb_geom.specs.Points.{PixelSet}
use Rattle.desk_layers.specs.declared.part.Part.{Part}

-- where a window has no list, each list is in another
all_elsewhere : (window : ℕ) (ls : List KeptList) → items_of window ls ≡ [] → All (λ l. is_in window l ≡ false) ls
all_elsewhere window [] none = All-nil (λ (l : KeptList). is_in window l ≡ false)
all_elsewhere window (l ∷ ls) none = by_test (all_elsewhere window ls) (is_in window l) refl none
  where
    by_test : (items_of window ls ≡ [] → All (λ x. is_in window x ≡ false) ls) → (b : Bool) → is_in window l ≡ b → cond b (l ∷ items_of window ls) (items_of window ls) ≡ [] → All (λ x. is_in window x ≡ false) (l ∷ ls)
    by_test rest true e none = absurd (cc)
    by_test rest false e none = All-cons (λ (x : KeptList). is_in window x ≡ false) l ls e (rest none)

differ : (a b : ℕ) → (a == b) ≡ false → a ≡ b → ⊥
differ a b e f = grind (arith, nat_tests)

module _ (window : ℕ) (before after : ListsState) (left : AreListsOfLeft window before after) where
  -- those of each window that has one are the same as before
  stay_left : AreListsApart before.lists → StaySame (λ o. false) before.lists after.lists
  stay_left apart s n was is other = by_test (window == s) refl
    where
      by_test : (b : Bool) → (window == s) ≡ b → with_serial n after.lists ≡ with_serial n before.lists
      by_test true e =
          let none : items_of s after.lists ≡ [] = ap (λ k. items_of k after.lists) (sym (eqb-true window s e)) ∙ left.gone in
          absurd (false≢true (sym (ap (list_any (has_serial n)) none) ∙ is))
      by_test false e =
          sym (with_among n s after.lists (left.apart apart) is)
          ∙ ap (with_serial n) (left.others s (differ window s e))
          ∙ with_among n s before.lists apart was

  -- the layers of each window that is there behind its controls are its lists
  joined_left : (ws : List WindowRecord) → is_missing window ws ≡ true → AreListsJoined before.lists ws → AreListsJoined after.lists ws
  joined_left ws missing joined =
      both_all (λ w. (window == w.serial) ≡ false) (λ w. AreListLayers (items_of w.serial before.lists) w.layers) (λ w. AreListLayers (items_of w.serial after.lists) w.layers)
      (λ w away its. subst (λ ls. AreListLayers ls w.layers) (sym (left.others w.serial (differ window w.serial away))) its)
      ws (no_such_window window ws missing) joined

  given_left : are_before before.next before.lists ≡ true → are_before after.next after.lists ≡ true
  given_left given =
      ap (λ next. are_before next after.lists) left.next
      ∙ test_all (λ l. is_before before.next l.serial) after.lists
      (all_within (λ l. is_before before.next l.serial ≡ true) before.lists after.lists left.within (all_tests (λ l. is_before before.next l.serial) before.lists given))

  -- no window has more lists then
  few_left : ((t : ℕ) → count_of t before.lists ≤ most_lists) → (t : ℕ) → count_of t after.lists ≤ most_lists
  few_left few t = by_test (window == t) refl
    where
      by_test : (b : Bool) → (window == t) ≡ b → count_of t after.lists ≤ most_lists
      by_test true e =
          let none : count_of t after.lists ≡ 0 = count_of-length t after.lists ∙ ap length (ap (λ k. items_of k after.lists) (sym (eqb-true window t e)) ∙ left.gone) in
          omega (arith, none)
      by_test false e =
          let same : count_of t after.lists ≡ count_of t before.lists = count_of-length t after.lists ∙ ap length (left.others t (differ window t e)) ∙ sym (count_of-length t before.lists) in
          subst (λ n. n ≤ most_lists) (sym same) (few t)

  -- the lists of a window that is no more were taken out: those that stay are whole
  pub whole_left : (ws : List WindowRecord) → AreSettled before.lists → AreListsApart before.lists → are_before before.next before.lists ≡ true → ((t : ℕ) → count_of t before.lists ≤ most_lists) → AreListsJoined before.lists ws
      → All (λ l. is_in window l ≡ false → is_missing l.window ws ≡ false) before.lists → is_missing window ws ≡ true → AreWholeLists ws after
  whole_left ws settled apart given few joined there missing = record {
    settled = all_within IsSettledList before.lists after.lists left.within settled;
    apart = left.apart apart;
    given = given_left given;
    few = few_left few;
    somewhere = both_all (λ l. is_in window l ≡ false) (λ l. is_in window l ≡ false → is_missing l.window ws ≡ false) (λ l. is_missing l.window ws ≡ false) (λ l e its. its e)
        after.lists (all_elsewhere window after.lists left.gone)
        (all_within (λ l. is_in window l ≡ false → is_missing l.window ws ≡ false) before.lists after.lists left.within there);
    joined = joined_left ws missing joined;
    stocked = left.stocked;
  }

  -- and a right state stays right, whose windows show these controls
  pub right_left : (others : List ℕ → Part → PixelSet) (s : FullState) (cs : List ControlRecord) → IsRightState s → s.desk.shows ≡ controls_show (lists_show others before.lists) cs s.desk.font → AreJoined cs s.desk.windows → AreListsApart before.lists
      → AreListsJoined before.lists s.desk.windows → is_missing window s.desk.windows ≡ true → IsRightState (state_showing (controls_show (lists_show others after.lists) cs) s)
  right_left others s cs right shows controls apart joined missing =
      let now = desk_showing (controls_show (lists_show others after.lists) cs) s.desk in
      shown_alike_right (controls_show (lists_show others after.lists) cs) s right
      (λ p o here e. sym (same_own (lists_show others before.lists) (lists_show others after.lists) s.desk now cs cs shows refl refl refl controls controls (λ o. false) (λ t n was now other. refl)
      (lists_stay (λ o. false) others others before.lists after.lists s.desk now joined (joined_left s.desk.windows missing joined) (stay_left apart)) (λ t n q was now other r. refl) p o right.plain.desk
      (distinct_showing (controls_show (lists_show others after.lists) cs) s.desk right.plain.desk) here
      (owner_showing (controls_show (lists_show others after.lists) cs) s.desk p ∙ here) e refl))
