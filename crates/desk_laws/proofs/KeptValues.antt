-- What a change leaves of each pixel, where the state after it is right, and a change after which nothing more is changed.
use Rattle.std.proofs.Common.{◌≡◌, Bool, true, false, not, ◌&&◌, if◌then◌else◌, refl, sym, ap, ◌∙◌}
use Rattle.std.proofs.lemmas.Bool.{false≢true}
use Rattle.tb_geom.specs.declared.point.Point.{Point}
use Rattle.desk_layers.specs.Desk.{LayeredDesk, on_screen}
use Rattle.desk_layers.specs.Owner.{Owner, owner, is_content, same_owner}
use Rattle.desk_layers.specs.Scratch.{scratch}
use Rattle.desk_layers.specs.Change.{Change, State, IsChanged, IsRight, had, no_change, stale_by}
use Rattle.desk_layers.proofs.Owning.{same_owner-self}

-- ---- a change whose state after it is right

-- the value that a content layer keeps, where it is not drawn afresh
abbrev pub kept_by : Change → State → Owner → Point → Bool
kept_by c before o p =
    if not (had c before.desk o p) then false
    else (if c.redrawn o then before.image (c.source o p) else c.drawn o p (before.image (c.source o p)))

-- a pixel of content that is not drawn afresh, and is not shown anew, keeps a value
abbrev pub Keeps : Change → State → State → Point → Type 0
Keeps c before after p = let o = owner after.desk p in on_screen after.desk p ≡ true → is_content o ≡ true → c.afresh o p ≡ false
    → (had c before.desk o p ≡ true → c.redrawn o ≡ true → after.stale p ≡ true) → after.image p ≡ kept_by c before o p

-- n: it is content, a: drawn afresh, h: had, r: redrawn, s: stale; v stays, u the same as drawn on, x the one of painting from nothing
one_value : (n a h r s v u x i : Bool) → (s ≡ false → i ≡ x) → (n ≡ false → s ≡ false) → (a ≡ true → s ≡ false)
    → (n ≡ true → a ≡ false → (h ≡ true → r ≡ true → s ≡ true) → i ≡ (if not h then false else (if r then v else u)))
    → i ≡ (if not n then x else (if a then x else (if not h then false else (if r then (if s then v else x) else u))))
one_value false a h r s v u x i right off drawn kept = right (off refl)
one_value true true h r s v u x i right off drawn kept = right (drawn refl)
one_value true false false r s v u x i right off drawn kept = kept refl refl (λ e. absurd (false≢true e))
one_value true false true true true v u x i right off drawn kept = kept refl refl (λ e f. refl)
one_value true false true true false v u x i right off drawn kept = right refl
one_value true false true false s v u x i right off drawn kept = kept refl refl (λ e f. absurd (false≢true f))

no_content_stale : (n b : Bool) → n ≡ false → (if not n then false else b) ≡ false
no_content_stale true b e = absurd (false≢true (sym e))
no_content_stale false b e = refl

no_afresh_stale : (n a b : Bool) → a ≡ true → (if not n then false else (if a then false else b)) ≡ false
no_afresh_stale true true b e = refl
no_afresh_stale true false b e = absurd (false≢true e)
no_afresh_stale false a b e = refl

-- where the state after it is right, what is stale and what stays tell the change
pub changed_to_right : (c : Change) (before after : State) → IsRight after
    → ((p : Point) → on_screen after.desk p ≡ true → after.stale p ≡ stale_by c before (owner after.desk p) p)
    → ((p : Point) → Keeps c before after p) → IsChanged c before after
changed_to_right c before after right stale keeps = record {
  stale = stale;
  image = λ p on.
      let o = owner after.desk p in
      one_value (is_content o) (c.afresh o p) (had c before.desk o p) (c.redrawn o) (stale_by c before o p) (before.image (c.source o p)) (c.drawn o p (before.image (c.source o p))) (scratch after.desk p) (after.image p)
      (λ e. right.right p on (stale p on ∙ e))
      (λ e. no_content_stale (is_content o) _ e)
      (λ e. no_afresh_stale (is_content o) (c.afresh o p) _ e)
      (λ n a s. keeps p on n a (λ h r. stale p on ∙ s h r));
}

still_value : (n a h r s v u x : Bool) → n ≡ true → a ≡ false → (h ≡ true → r ≡ true → s ≡ true)
    → (if not n then x else (if a then x else (if not h then false else (if r then (if s then v else x) else u)))) ≡ (if not h then false else (if r then v else u))
still_value false a h r s v u x n d f = absurd (false≢true n)
still_value true true h r s v u x n d f = absurd (false≢true (sym d))
still_value true false false r s v u x n d f = refl
still_value true false true false s v u x n d f = refl
still_value true false true true true v u x n d f = refl
still_value true false true true false v u x n d f = absurd (false≢true (f refl refl))

-- and it keeps what it keeps
pub changed_keeps : (c : Change) (before after : State) → IsChanged c before after → (p : Point) → Keeps c before after p
changed_keeps c before after changed p on n a s =
    let o = owner after.desk p in
    changed.image p on
    ∙ still_value (is_content o) (c.afresh o p) (had c before.desk o p) (c.redrawn o) (stale_by c before o p) (before.image (c.source o p)) (c.drawn o p (before.image (c.source o p))) (scratch after.desk p)
    n a (λ h r. sym (changed.stale p on) ∙ s h r)

-- ---- two desks with the same owners

pub record HaveSameOwners (one two : LayeredDesk) : Type 0 where
  pub screen : (p : Point) → on_screen one p ≡ on_screen two p
  pub owners : (p : Point) → owner one p ≡ owner two p

pub had_itself : (desk : LayeredDesk) (o : Owner) (p : Point) → on_screen desk p ≡ true → owner desk p ≡ o → (on_screen desk p && same_owner (owner desk p) o) ≡ true
had_itself desk o p on is = (λ i. on i && same_owner (is i) o) ∙ same_owner-self o

-- nothing is changed more where the owners stay and no pixel moves
module _ (c : Change) (before middle after : State) (same : HaveSameOwners middle.desk after.desk) (first : IsChanged c before middle) (next : IsChanged no_change middle after) where
  there : (p : Point) → on_screen after.desk p ≡ true → had no_change middle.desk (owner after.desk p) p ≡ true
  there p on = had_itself middle.desk (owner after.desk p) p (same.screen p ∙ on) (same.owners p)

  stays_stale : (p : Point) → on_screen after.desk p ≡ true → after.stale p ≡ stale_by c before (owner after.desk p) p
  stays_stale p on =
      let o = owner after.desk p in
      next.stale p on
      ∙ (λ i. if not (is_content o) then false else (if there p on i then (first.stale p (same.screen p ∙ on) ∙ ap (λ q. stale_by c before q p) (same.owners p)) i else true))
      ∙ twice (is_content o) _
    where
      twice : (n b : Bool) → (if not n then false else (if not n then false else b)) ≡ (if not n then false else b)
      twice true b = refl
      twice false b = refl

  as_stale : (p : Point) → on_screen after.desk p ≡ true → after.stale p ≡ middle.stale p
  as_stale p on = stays_stale p on ∙ sym (ap (λ q. stale_by c before q p) (same.owners p)) ∙ sym (first.stale p (same.screen p ∙ on))

  pub then_nothing : IsRight after → IsChanged c before after
  then_nothing right = changed_to_right c before after right stays_stale
      (λ p on n a s.
      let same_here = same.owners p in
      changed_keeps no_change middle after next p on n refl (λ h r. absurd (false≢true r))
      ∙ (λ i. if not (there p on i) then false else middle.image p)
      ∙ changed_keeps c before middle first p (same.screen p ∙ on) (ap is_content same_here ∙ n) (ap (λ q. c.afresh q p) same_here ∙ a)
      (λ h r. sym (as_stale p on) ∙ s (sym (ap (λ q. had c before.desk q p) same_here) ∙ h) (sym (ap c.redrawn same_here) ∙ r))
      ∙ ap (λ q. kept_by c before q p) same_here)

-- where owners, stale pixels and the image stay, and what is shown is right, nothing changed
pub nothing_changed : (before after : State) → HaveSameOwners before.desk after.desk → IsRight before → IsRight after
    → ((p : Point) → on_screen before.desk p ≡ true → after.stale p ≡ before.stale p) → ((p : Point) → on_screen before.desk p ≡ true → after.image p ≡ before.image p) → IsChanged no_change before after
nothing_changed before after same was right stale image = changed_to_right no_change before after right
    (λ p on.
    let o = owner after.desk p in
    let on_before = same.screen p ∙ on in
    stale p on_before
    ∙ by_content (is_content o) (before.stale p) (λ e. ap is_content (sym (same.owners p)) ∙ was.content p on_before e)
    ∙ sym (λ i. if not (is_content o) then false else (if had_itself before.desk o p on_before (same.owners p) i then before.stale p else true)))
    (λ p on n a s.
    let o = owner after.desk p in
    let on_before = same.screen p ∙ on in
    image p on_before ∙ sym (λ i. if not (had_itself before.desk o p on_before (same.owners p) i) then false else before.image p))
  where
    by_content : (n s : Bool) → (s ≡ true → n ≡ true) → s ≡ (if not n then false else s)
    by_content true s content = refl
    by_content false true content = absurd (false≢true (content refl))
    by_content false false content = refl
