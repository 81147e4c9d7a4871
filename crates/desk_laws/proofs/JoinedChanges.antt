-- Two changes of one sort that follow each other, as one.
use Rattle.std.proofs.Common.{◌≡◌, Bool, true, false, not, ◌&&◌, ◌||◌, if◌then◌else◌, refl, sym, ap, ◌∙◌}
use Rattle.std.proofs.lemmas.Bool.{false≢true}
use Rattle.tb_geom.specs.declared.point.Point.{Point}
use Rattle.desk_layers.specs.Desk.{LayeredDesk, on_screen}
use Rattle.desk_layers.specs.Owner.{Owner, owner, is_content, same_owner}
use Rattle.desk_layers.specs.Change.{Change, State, IsChanged, IsRight, had, no_change, stale_by}
use Rattle.desk_layers.proofs.Owning.{same_owner-self, same_owner-true}
use Rattle.desk_laws.proofs.KeptValues.{HaveSameOwners, changed_keeps, changed_to_right, had_itself, kept_by}

by_test : {X : Type 0} (b : Bool) → (b ≡ true → X) → (b ≡ false → X) → X
by_test true on off = on refl
by_test false on off = off refl

-- either of two holds
either : (a b : Bool) → (a || b) ≡ false → (a ≡ false) × (b ≡ false)
either false false e = (refl, refl)
either true b e = absurd (false≢true (sym e))
either false true e = absurd (false≢true (sym e))

twice : (n b : Bool) → (if not n then false else (if not n then false else b)) ≡ (if not n then false else b)
twice true b = refl
twice false b = refl

-- ---- pixels that are marked, and shown anew

-- the change of a call that marks pixels, and shows owners anew
abbrev pub marking : (Owner → Point → Bool) → (Owner → Bool) → Change
marking added redrawn = record no_change { added = added; redrawn = redrawn }

abbrev pub none_added : Owner → Point → Bool
none_added o p = false

-- owners, stale pixels and the image stay, but where these owners are shown anew
pub record IsLeftBut (these : Owner → Bool) (before after : State) : Type 0 where
  pub owners : HaveSameOwners before.desk after.desk
  pub stale : (p : Point) → on_screen after.desk p ≡ true → (is_content (owner after.desk p) ≡ false → before.stale p ≡ false) → after.stale p ≡ before.stale p
  pub image : (p : Point) → on_screen after.desk p ≡ true → is_content (owner after.desk p) ≡ true → (these (owner after.desk p) ≡ true → after.stale p ≡ true) → after.image p ≡ before.image p

pub left_anew : (these : Owner → Bool) (before after : State) → HaveSameOwners before.desk after.desk → IsChanged (marking none_added these) before after → IsLeftBut these before after
left_anew these before after same changed = record {
  owners = same;
  stale = λ p on none.
      let o = owner after.desk p in
      changed.stale p on
      ∙ (λ i. if not (is_content o) then false else (if there p on i then before.stale p else true))
      ∙ sym (by_content (is_content o) (before.stale p) none);
  image = λ p on n s.
      let o = owner after.desk p in
      changed_keeps (marking none_added these) before after changed p on n refl (λ h r. s r)
      ∙ (λ i. if not (there p on i) then false else (if these o then before.image p else before.image p))
      ∙ same_either (these o) (before.image p);
}
  where
    there : (p : Point) → on_screen after.desk p ≡ true → had (marking none_added these) before.desk (owner after.desk p) p ≡ true
    there p on = had_itself before.desk (owner after.desk p) p (same.screen p ∙ on) (same.owners p)

    by_content : (n b : Bool) → (n ≡ false → b ≡ false) → b ≡ (if not n then false else b)
    by_content true b none = refl
    by_content false b none = none refl

    same_either : (r v : Bool) → (if r then v else v) ≡ v
    same_either true v = refl
    same_either false v = refl

pub left_through : (these : Owner → Bool) (one two three : State) → IsLeftBut these one two → IsLeftBut these two three → IsLeftBut these one three
left_through these one two three first next = record {
  owners = record {
    screen = λ p. first.owners.screen p ∙ next.owners.screen p;
    owners = λ p. first.owners.owners p ∙ next.owners.owners p;
  };
  stale = λ p on none.
      let here = next.owners.owners p in
      let before = first.stale p (next.owners.screen p ∙ on) (λ e. none (sym (ap is_content here) ∙ e)) in
      next.stale p on (λ e. before ∙ none e) ∙ before;
  image = λ p on n s.
      let here = next.owners.owners p in
      next.image p on n s
      ∙ first.image p (next.owners.screen p ∙ on) (ap is_content here ∙ n)
      (λ t. sym (next.stale p on (λ e. absurd (false≢true (sym e ∙ n)))) ∙ s (sym (ap these here) ∙ t));
}

pub left_wider : (these wider : Owner → Bool) (before after : State) → ((o : Owner) → wider o ≡ false → these o ≡ false) → IsLeftBut these before after → IsLeftBut wider before after
left_wider these wider before after less its = record {
  owners = its.owners;
  stale = its.stale;
  image = λ p on n s. its.image p on n (λ t. by_test (wider (owner after.desk p)) s (λ e. absurd (false≢true (sym (less (owner after.desk p) e) ∙ t))));
}

module _ (A : Owner → Point → Bool) (R T : Owner → Bool) (before middle after : State) (one : HaveSameOwners before.desk middle.desk) (first : IsChanged (marking A R) before middle) (next : IsLeftBut T middle after)
    (less : (o : Owner) → T o ≡ false → R o ≡ false) where
  on_middle : (p : Point) → on_screen after.desk p ≡ true → on_screen middle.desk p ≡ true
  on_middle p on = next.owners.screen p ∙ on

  as_stale : (p : Point) → on_screen after.desk p ≡ true → after.stale p ≡ middle.stale p
  as_stale p on = next.stale p on (λ e. first.stale p (on_middle p on) ∙ none (is_content (owner middle.desk p)) _ (ap is_content (next.owners.owners p) ∙ e))
    where
      none : (n b : Bool) → n ≡ false → (if not n then false else b) ≡ false
      none true b e = absurd (false≢true (sym e))
      none false b e = refl

  marked_stale : (p : Point) → on_screen after.desk p ≡ true → after.stale p ≡ stale_by (marking A T) before (owner after.desk p) p
  marked_stale p on = as_stale p on ∙ first.stale p (on_middle p on) ∙ ap (λ q. stale_by (marking A R) before q p) (next.owners.owners p)

  had_before : (p : Point) → on_screen after.desk p ≡ true → had (marking A T) before.desk (owner after.desk p) p ≡ true
  had_before p on = had_itself before.desk (owner after.desk p) p (one.screen p ∙ on_middle p on) (one.owners p ∙ next.owners.owners p)

  same_either : (r v : Bool) → (if r then v else v) ≡ v
  same_either true v = refl
  same_either false v = refl

  pub marked_then : IsRight after → IsChanged (marking A T) before after
  marked_then right = changed_to_right (marking A T) before after right marked_stale
      (λ p on n a s.
      let o = owner after.desk p in
      let here = next.owners.owners p in
      let known : T o ≡ true → after.stale p ≡ true = s (had_before p on) in
      next.image p on n known
      ∙ changed_keeps (marking A R) before middle first p (on_middle p on) (ap is_content here ∙ n) refl
      (λ h r. sym (as_stale p on) ∙ by_test (T o) known (λ e. absurd (false≢true (sym (less o e) ∙ sym (ap R here) ∙ r))))
      ∙ ap (λ q. kept_by (marking A R) before q p) here
      ∙ (λ i. if not (had_before p on i) then false else same_either (R o) (before.image p) i)
      ∙ sym (λ i. if not (had_before p on i) then false else same_either (T o) (before.image p) i))

-- where nothing changed, and what is shown is right, any owners may be shown anew
module _ (T : Owner → Bool) (before after : State) (same : HaveSameOwners before.desk after.desk) (changed : IsChanged no_change before after) where
  pub shown_anew_too : IsRight after → IsChanged (marking none_added T) before after
  shown_anew_too right = changed_to_right (marking none_added T) before after right changed.stale
      (λ p on n a s.
      let o = owner after.desk p in
      changed_keeps no_change before after changed p on n refl (λ h r. absurd (false≢true r))
      ∙ keeps_either (had no_change before.desk o p) (T o) (before.image p))
    where
      keeps_either : (h t v : Bool) → (if not h then false else v) ≡ (if not h then false else (if t then v else v))
      keeps_either true true v = refl
      keeps_either true false v = refl
      keeps_either false t v = refl

-- ---- layers that are drawn afresh

-- the change of a call that draws owners afresh
abbrev pub drawing : (Owner → Bool) → Change
drawing these = record no_change { afresh = λ o p. these o }

-- the owners that are none of these are what they were
pub record AreOthersSame (these : Owner → Bool) (one two : LayeredDesk) : Type 0 where
  pub screen : (p : Point) → on_screen one p ≡ on_screen two p
  pub owners : (p : Point) → on_screen two p ≡ true → these (owner two p) ≡ false → owner one p ≡ owner two p

module _ (F G H : Owner → Bool) (before middle after : State) (same : AreOthersSame G middle.desk after.desk) (screen : (p : Point) → on_screen before.desk p ≡ on_screen middle.desk p)
    (first : IsChanged (drawing F) before middle) (next : IsChanged (drawing G) middle after) (both : (o : Owner) → H o ≡ (F o || G o)) where
  drawn_stale : (p : Point) → on_screen after.desk p ≡ true → after.stale p ≡ stale_by (drawing H) before (owner after.desk p) p
  drawn_stale p on = next.stale p on ∙ by_test (G o) drawn other
    where
      o : Owner
      o = owner after.desk p

      all_off : (n f : Bool) (u v : Bool) → (if not n then false else (if true then false else u)) ≡ (if not n then false else (if f || true then false else v))
      all_off false f u v = refl
      all_off true false u v = refl
      all_off true true u v = refl

      drawn : G o ≡ true → stale_by (drawing G) middle o p ≡ stale_by (drawing H) before o p
      drawn g =
          (λ i. if not (is_content o) then false else (if g i then false else (if had no_change middle.desk o p then middle.stale p else true)))
          ∙ all_off (is_content o) (F o) (if had no_change middle.desk o p then middle.stale p else true) (if had no_change before.desk o p then before.stale p else true)
          ∙ (λ i. if not (is_content o) then false else (if (sym (both o ∙ ap (λ b. F o || b) g)) i then false else (if had no_change before.desk o p then before.stale p else true)))

      or_false : (b : Bool) → (b || false) ≡ b
      or_false true = refl
      or_false false = refl

      other : G o ≡ false → stale_by (drawing G) middle o p ≡ stale_by (drawing H) before o p
      other g =
          let here = same.owners p on g in
          let on_middle = same.screen p ∙ on in
          (λ i. if not (is_content o) then false else (if g i then false else (if had_itself middle.desk o p on_middle here i then (first.stale p on_middle ∙ ap (λ q. stale_by (drawing F) before q p) here) i else true)))
          ∙ twice (is_content o) (if F o then false else (if had no_change before.desk o p then before.stale p else true))
          ∙ (λ i. if not (is_content o) then false else (if (sym (both o ∙ ap (λ b. F o || b) g ∙ or_false (F o))) i then false else (if had no_change before.desk o p then before.stale p else true)))

  pub drawn_then : IsRight after → IsChanged (drawing H) before after
  drawn_then right = changed_to_right (drawing H) before after right drawn_stale
      (λ p on n a s.
      let o = owner after.desk p in
      let neither = either (F o) (G o) (sym (both o) ∙ a) in
      let here = same.owners p on neither.1 in
      let on_middle = same.screen p ∙ on in
      changed_keeps (drawing G) middle after next p on n neither.1 (λ h r. absurd (false≢true r))
      ∙ (λ i. if not (had_itself middle.desk o p on_middle here i) then false else middle.image p)
      ∙ changed_keeps (drawing F) before middle first p on_middle (ap is_content here ∙ n) (ap F here ∙ neither.0) (λ h r. absurd (false≢true r))
      ∙ ap (λ q. kept_by (drawing F) before q p) here)

-- ---- layers that are taken away

-- the owners that were none of these are what they were
pub record AreOthersKept (these : Owner → Bool) (one two : LayeredDesk) : Type 0 where
  pub screen : (p : Point) → on_screen one p ≡ on_screen two p
  pub owners : (p : Point) → on_screen one p ≡ true → these (owner one p) ≡ false → owner one p ≡ owner two p

pub kept_through : (these : Owner → Bool) (one two three : LayeredDesk) → AreOthersKept these one two → AreOthersKept these two three → AreOthersKept these one three
kept_through these one two three first next = record {
  screen = λ p. first.screen p ∙ next.screen p;
  owners = λ p on other. let here = first.owners p on other in here ∙ next.owners p (sym (first.screen p) ∙ on) (sym (ap these here) ∙ other);
}

module _ (these : Owner → Bool) (before middle after : State) (one : AreOthersKept these before.desk middle.desk) (two : AreOthersKept these middle.desk after.desk)
    (gone : (p : Point) → on_screen after.desk p ≡ true → these (owner after.desk p) ≡ false)
    (first : IsChanged no_change before middle) (next : IsChanged no_change middle after) where
  -- where the owner is what it was, it was so in between
  between : (p : Point) → on_screen after.desk p ≡ true → owner before.desk p ≡ owner after.desk p → owner middle.desk p ≡ owner after.desk p
  between p on same =
      let on_middle = two.screen p ∙ on in
      sym (one.owners p (one.screen p ∙ on_middle) (ap these same ∙ gone p on)) ∙ same

  -- had, in one step
  had_by : (x : LayeredDesk) (o : Owner) (p : Point) (b : Bool) → on_screen x p ≡ true → same_owner (owner x p) o ≡ b → had no_change x o p ≡ b
  had_by x o p b on is = λ i. on i && is i

  gone_stale : (p : Point) → on_screen after.desk p ≡ true → after.stale p ≡ stale_by no_change before (owner after.desk p) p
  gone_stale p on = next.stale p on ∙ by_test (same_owner (owner middle.desk p) o) still left
    where
      o : Owner
      o = owner after.desk p

      on_middle : on_screen middle.desk p ≡ true
      on_middle = two.screen p ∙ on

      on_before : on_screen before.desk p ≡ true
      on_before = one.screen p ∙ on_middle

      still : same_owner (owner middle.desk p) o ≡ true → stale_by no_change middle o p ≡ stale_by no_change before o p
      still e =
          let here = same_owner-true (owner middle.desk p) o e in
          (λ i. if not (is_content o) then false else (if had_by middle.desk o p true on_middle e i then (first.stale p on_middle ∙ ap (λ q. stale_by no_change before q p) here) i else true))
          ∙ twice (is_content o) (if had no_change before.desk o p then before.stale p else true)

      left : same_owner (owner middle.desk p) o ≡ false → stale_by no_change middle o p ≡ stale_by no_change before o p
      left e =
          (λ i. if not (is_content o) then false else (if had_by middle.desk o p false on_middle e i then middle.stale p else true))
          ∙ sym (λ i. if not (is_content o) then false else (if had_by before.desk o p false on_before was i then before.stale p else true))
        where
          was : same_owner (owner before.desk p) o ≡ false
          was = by_test (same_owner (owner before.desk p) o)
              (λ f. absurd (false≢true (sym e ∙ ap (λ q. same_owner q o) (between p on (same_owner-true (owner before.desk p) o f)) ∙ same_owner-self o)))
              (λ f. f)

  pub gone_then : IsRight after → IsChanged no_change before after
  gone_then right = changed_to_right no_change before after right gone_stale
      (λ p on n a s.
      changed_keeps no_change middle after next p on n refl (λ h r. absurd (false≢true r))
      ∙ by_test (same_owner (owner middle.desk p) (owner after.desk p)) (still p on n) (left p on))
    where
      still : (p : Point) → on_screen after.desk p ≡ true → is_content (owner after.desk p) ≡ true → same_owner (owner middle.desk p) (owner after.desk p) ≡ true → kept_by no_change middle (owner after.desk p) p ≡ kept_by no_change before (owner after.desk p) p
      still p on n e =
          let here = same_owner-true (owner middle.desk p) (owner after.desk p) e in
          (λ i. if not (had_by middle.desk (owner after.desk p) p true (two.screen p ∙ on) e i) then false else middle.image p)
          ∙ changed_keeps no_change before middle first p (two.screen p ∙ on) (ap is_content here ∙ n) refl (λ h r. absurd (false≢true r))
          ∙ ap (λ q. kept_by no_change before q p) here

      left : (p : Point) → on_screen after.desk p ≡ true → same_owner (owner middle.desk p) (owner after.desk p) ≡ false → kept_by no_change middle (owner after.desk p) p ≡ kept_by no_change before (owner after.desk p) p
      left p on e =
          (λ i. if not (had_by middle.desk (owner after.desk p) p false (two.screen p ∙ on) e i) then false else middle.image p)
          ∙ sym (λ i. if not (had_by before.desk (owner after.desk p) p false (one.screen p ∙ (two.screen p ∙ on)) was i) then false else before.image p)
        where
          was : same_owner (owner before.desk p) (owner after.desk p) ≡ false
          was = by_test (same_owner (owner before.desk p) (owner after.desk p))
              (λ f. absurd (false≢true (sym e ∙ ap (λ q. same_owner q (owner after.desk p)) (between p on (same_owner-true (owner before.desk p) (owner after.desk p) f)) ∙ same_owner-self (owner after.desk p))))
              (λ f. f)
