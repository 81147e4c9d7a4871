-- What is right and whole stays so where the controls of a window that is no more are taken out.
use Rattle.std.proofs.Common.{◌≡◌, ℕ, ◌≤◌, Bool, true, false, ◌&&◌, ◌==◌, cond, List, [], ◌∷◌, length, Some, refl, sym, ap, ◌∙◌, subst, arith, eqb-true}
use Rattle.std.specs.Prelude.{All, Contains, is_none}
use Rattle.std.specs.List.{list_all, list_any}
use Rattle.std.proofs.lemmas.Bool.{and_parts, false≢true}
use Rattle.std.proofs.lemmas.Bool.Decides.{nat_tests}
use Rattle.std.proofs.lemmas.List.Elements.{All-cons, All-contains, All-head, All-nil, All-tail, All-weaker}
use Rattle.tb_geom.specs.declared.point.Point.{Point}
use Rattle.tb_geom.specs.Points.{PixelSet}
use Rattle.window_items.specs.Items.{are_before, items_of, count_of, has_serial, is_before, is_in}
use Rattle.window_items.proofs.WindowLemmas.{count_of-length}
use Rattle.desk_layers.specs.declared.part.Part.{Part}
use Rattle.desk_layers.specs.Desk.{IsDesk}
use Rattle.desk_layers.specs.Owner.{Owner, is_content, owner, own_bit}
use Rattle.desk_layers.specs.Scratch.{scratch}
use Rattle.desk_layers.proofs.Painting.{scratch_is_owners}
use Rattle.vis_update.specs.Records.{WindowRecord}
use Rattle.window_mgr.specs.Finding.{record_with}
use Rattle.window_mgr.specs.FullDesk.{FullDesk, FullState, IsRightState, layered_desk}
use Rattle.window_mgr.specs.Records.{desk_showing, state_showing}
use Rattle.window_mgr.specs.Refused.{is_missing}
use Rattle.window_mgr.proofs.Showing.{bit_showing, distinct_showing, owner_showing}
use Rattle.control_mgr.specs.ControlClosing.{IsWindowLeft}
use Rattle.control_mgr.specs.ControlDesks.{ControlRecord, ControlsState, controls_show, with_serial}
use Rattle.control_mgr.specs.ControlRefusals.{most_controls}
use Rattle.control_mgr.specs.ControlSteps.{AreLayersOf}
use Rattle.control_mgr.specs.Settled.{AreSettled, IsSettledControl}
use Rattle.control_mgr.specs.WholeControls.{AreControlsApart, AreWholeControls}
use Rattle.control_mgr.proofs.Settled.{AreJoined}
use Rattle.control_mgr.proofs.ControlBits.{same_own}
use Rattle.window_items.proofs.SerialLemmas.{with_among}
use Rattle.control_mgr.proofs.SerialsFound.{StayControls}

-- ---- lists

pub all_tests : {X : Type 0} (p : X → Bool) (xs : List X) → list_all p xs ≡ true → All (λ x. p x ≡ true) xs
all_tests p [] h = All-nil (λ x. p x ≡ true)
all_tests p (x ∷ xs) h = let parts = and_parts (p x) (list_all p xs) h in All-cons (λ x. p x ≡ true) x xs parts.0 (all_tests p xs parts.1)

pub test_all : {X : Type 0} (p : X → Bool) (xs : List X) → All (λ x. p x ≡ true) xs → list_all p xs ≡ true
test_all p [] h = refl
test_all p (x ∷ xs) h = λ i. All-head (λ x. p x ≡ true) x xs h i && test_all p xs (All-tail (λ x. p x ≡ true) x xs h) i

-- what holds of each control that was there holds of each that stays
pub all_within : {X : Type 0} (P : X → Type 0) (xs ys : List X) → All (Contains xs) ys → All P xs → All P ys
all_within P xs ys within h = All-weaker (Contains xs) P (λ y its. All-contains P xs y h its) ys within

-- where a window has no control, each control is in another
all_elsewhere : (window : ℕ) (cs : List ControlRecord) → items_of window cs ≡ [] → All (λ c. is_in window c ≡ false) cs
all_elsewhere window [] none = All-nil (λ (c : ControlRecord). is_in window c ≡ false)
all_elsewhere window (c ∷ cs) none = by_test (all_elsewhere window cs) (is_in window c) refl none
  where
    by_test : (items_of window cs ≡ [] → All (λ x. is_in window x ≡ false) cs) → (b : Bool) → is_in window c ≡ b → cond b (c ∷ items_of window cs) (items_of window cs) ≡ [] → All (λ x. is_in window x ≡ false) (c ∷ cs)
    by_test rest true e none = absurd (cc)
    by_test rest false e none = All-cons (λ (x : ControlRecord). is_in window x ≡ false) c cs e (rest none)

turned : (a b : ℕ) → (b == a) ≡ false → (a == b) ≡ false
turned a b e = grind (arith, nat_tests)

-- where a window is missing, each is another
pub no_such_window : (window : ℕ) (ws : List WindowRecord) → is_missing window ws ≡ true → All (λ w. (window == w.serial) ≡ false) ws
no_such_window window [] e = All-nil (λ (w : WindowRecord). (window == w.serial) ≡ false)
no_such_window window (w ∷ ws) e = by_test (no_such_window window ws) (w.serial == window) refl e
  where
    by_test : (is_none (record_with window ws) ≡ true → All (λ x. (window == x.serial) ≡ false) ws) → (b : Bool) → (w.serial == window) ≡ b → is_none (cond b (Some w) (record_with window ws)) ≡ true
        → All (λ x. (window == x.serial) ≡ false) (w ∷ ws)
    by_test rest true is e = absurd (false≢true e)
    by_test rest false is e = All-cons (λ (x : WindowRecord). (window == x.serial) ≡ false) w ws (turned window w.serial is) (rest e)

-- ---- what is shown

-- a right state stays right where its layers show other things, but at each pixel that they have what they showed
module _ (shows : List ℕ → Part → PixelSet) (s : FullState) (right : IsRightState s)
    (alike : (p : Point) (o : Owner) → owner (layered_desk s.desk) p ≡ o → is_content o ≡ true → own_bit (layered_desk (desk_showing shows s.desk)) o p ≡ own_bit (layered_desk s.desk) o p) where
  abbrev now : FullDesk
  now = desk_showing shows s.desk

  distinct : IsDesk (layered_desk now)
  distinct = distinct_showing shows s.desk right.plain.desk

  same_owners : (p : Point) → owner (layered_desk now) p ≡ owner (layered_desk s.desk) p
  same_owners p = owner_showing shows s.desk p

  same_shown : (p : Point) (o : Owner) → owner (layered_desk s.desk) p ≡ o → own_bit (layered_desk now) o p ≡ own_bit (layered_desk s.desk) o p
  same_shown p o here = by_content (is_content o) refl
    where
      by_content : (b : Bool) → is_content o ≡ b → own_bit (layered_desk now) o p ≡ own_bit (layered_desk s.desk) o p
      by_content false e = bit_showing shows s.desk o p e
      by_content true e = alike p o here e

  same_scratch : (p : Point) → scratch (layered_desk now) p ≡ scratch (layered_desk s.desk) p
  same_scratch p =
      scratch_is_owners (layered_desk now) p distinct
      ∙ ap (λ o. own_bit (layered_desk now) o p) (same_owners p)
      ∙ same_shown p (owner (layered_desk s.desk) p) refl
      ∙ sym (scratch_is_owners (layered_desk s.desk) p right.plain.desk)

  pub shown_alike_right : IsRightState (state_showing shows s)
  shown_alike_right = record {
    plain = record {
      desk = distinct;
      right = λ p on fresh. right.plain.right p on fresh ∙ sym (same_scratch p);
      content = λ p on old. ap is_content (same_owners p) ∙ right.plain.content p on old;
    };
    serials = right.serials;
  }

-- ---- controls that stay

pub both_all : {X : Type 0} (P Q R : X → Type 0) → ((x : X) → P x → Q x → R x) → (xs : List X) → All P xs → All Q xs → All R xs
both_all P Q R f [] h k = All-nil R
both_all P Q R f (x ∷ xs) h k = All-cons R x xs (f x (All-head P x xs h) (All-head Q x xs k)) (both_all P Q R f xs (All-tail P x xs h) (All-tail Q x xs k))

module _ (window : ℕ) (before after : ControlsState) (left : IsWindowLeft window before after) where
  -- those of each window that has one are the same as before
  stay_left : AreControlsApart before.controls → StayControls (λ o. false) before.controls after.controls
  stay_left apart s n was is other = by_test (window == s) refl
    where
      differ : (a b : ℕ) → (a == b) ≡ false → a ≡ b → ⊥
      differ a b e f = grind (arith, nat_tests)

      by_test : (b : Bool) → (window == s) ≡ b → with_serial n after.controls ≡ with_serial n before.controls
      by_test true e =
          let none : items_of s after.controls ≡ [] = ap (λ k. items_of k after.controls) (sym (eqb-true window s e)) ∙ left.gone in
          absurd (false≢true (sym (ap (list_any (has_serial n)) none) ∙ is))
      by_test false e =
          sym (with_among n s after.controls (left.apart apart) is)
          ∙ ap (with_serial n) (left.others s (differ window s e))
          ∙ with_among n s before.controls apart was

  -- the layers of each window that is there begin with its controls', and no other is a control's
  joined_left : (ws : List WindowRecord) → is_missing window ws ≡ true → AreJoined before.controls ws → AreJoined after.controls ws
  joined_left ws missing joined =
      both_all (λ w. (window == w.serial) ≡ false) (λ w. AreLayersOf (items_of w.serial before.controls) w.layers) (λ w. AreLayersOf (items_of w.serial after.controls) w.layers)
      (λ w away its. subst (λ cs. AreLayersOf cs w.layers) (sym (left.others w.serial (differ window w.serial away))) its)
      ws (no_such_window window ws missing) joined
    where
      differ : (a b : ℕ) → (a == b) ≡ false → a ≡ b → ⊥
      differ a b e f = grind (arith, nat_tests)

  -- each that stays is in a window that is there
  somewhere_left : (ws : List WindowRecord) → All (λ c. is_in window c ≡ false → is_missing c.window ws ≡ false) before.controls → All (λ c. is_missing c.window ws ≡ false) after.controls
  somewhere_left ws there =
      both_all (λ c. is_in window c ≡ false) (λ c. is_in window c ≡ false → is_missing c.window ws ≡ false) (λ c. is_missing c.window ws ≡ false) (λ c e its. its e)
      after.controls (all_elsewhere window after.controls left.gone)
      (all_within (λ c. is_in window c ≡ false → is_missing c.window ws ≡ false) before.controls after.controls left.within there)

  given_left : are_before before.next before.controls ≡ true → are_before after.next after.controls ≡ true
  given_left given =
      ap (λ next. are_before next after.controls) left.next
      ∙ test_all (λ c. is_before before.next c.serial) after.controls
      (all_within (λ c. is_before before.next c.serial ≡ true) before.controls after.controls left.within (all_tests (λ c. is_before before.next c.serial) before.controls given))

  -- no window has more controls then
  few_left : ((t : ℕ) → count_of t before.controls ≤ most_controls) → (t : ℕ) → count_of t after.controls ≤ most_controls
  few_left few t = by_test (window == t) refl
    where
      differ : (a b : ℕ) → (a == b) ≡ false → a ≡ b → ⊥
      differ a b e f = grind (arith, nat_tests)

      by_test : (b : Bool) → (window == t) ≡ b → count_of t after.controls ≤ most_controls
      by_test true e =
          let none : count_of t after.controls ≡ 0 = count_of-length t after.controls ∙ ap length (ap (λ k. items_of k after.controls) (sym (eqb-true window t e)) ∙ left.gone) in
          omega (arith, none)
      by_test false e =
          let same : count_of t after.controls ≡ count_of t before.controls = count_of-length t after.controls ∙ ap length (left.others t (differ window t e)) ∙ sym (count_of-length t before.controls) in
          subst (λ n. n ≤ most_controls) (sym same) (few t)

  pub whole_left : (ws : List WindowRecord) → AreSettled before.controls → AreControlsApart before.controls → are_before before.next before.controls ≡ true → ((t : ℕ) → count_of t before.controls ≤ most_controls) → AreJoined before.controls ws
      → All (λ c. is_in window c ≡ false → is_missing c.window ws ≡ false) before.controls → is_missing window ws ≡ true → AreWholeControls ws after
  whole_left ws settled apart given few joined there missing = record {
    settled = all_within IsSettledControl before.controls after.controls left.within settled;
    apart = left.apart apart;
    given = given_left given;
    somewhere = somewhere_left ws there;
    few = few_left few;
    joined = joined_left ws missing joined;
    stocked = left.stocked;
  }

  -- ---- what is shown

  right_left : (others : List ℕ → Part → PixelSet) (s : FullState) → IsRightState s → s.desk.shows ≡ controls_show others before.controls s.desk.font → AreControlsApart before.controls
      → AreJoined before.controls s.desk.windows → is_missing window s.desk.windows ≡ true → IsRightState (state_showing (controls_show others after.controls) s)
  right_left others s right shows apart joined missing =
      shown_alike_right (controls_show others after.controls) s right
      (λ p o here e. sym (same_own others others s.desk (desk_showing (controls_show others after.controls) s.desk) before.controls after.controls shows refl refl refl joined (joined_left s.desk.windows missing joined) (λ o. false)
      (stay_left apart) (λ t n q was now other r. refl) (λ t n q was now other r. refl) p o right.plain.desk (distinct_showing (controls_show others after.controls) s.desk right.plain.desk) here
      (owner_showing (controls_show others after.controls) s.desk p ∙ here) e refl))

-- the controls of a window that is no more were taken out: a right state stays right, and whole controls whole, whatever other
-- layers show
pub followed_right : (others : List ℕ → Part → PixelSet) (window : ℕ) (s : FullState) (before after : ControlsState) → IsRightState s → s.desk.shows ≡ controls_show others before.controls s.desk.font
    → AreSettled before.controls → AreControlsApart before.controls → are_before before.next before.controls ≡ true → ((t : ℕ) → count_of t before.controls ≤ most_controls) → AreJoined before.controls s.desk.windows
    → All (λ c. is_in window c ≡ false → is_missing c.window s.desk.windows ≡ false) before.controls → is_missing window s.desk.windows ≡ true → IsWindowLeft window before after
    → IsRightState (state_showing (controls_show others after.controls) s) × AreWholeControls s.desk.windows after
followed_right others window s before after right shows settled apart given few joined there missing left = (
  right_left window before after left others s right shows apart joined missing,
  whole_left window before after left s.desk.windows settled apart given few joined there missing,
)
