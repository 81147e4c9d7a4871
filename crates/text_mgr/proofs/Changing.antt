-- What of a text record may show otherwise where a call edits it.
use Rattle.std.proofs.Common.{◌≡◌, ℕ, ◌+◌, ◌-◌, ◌<◌, ◌≤◌, ◌==◌, ◌⊎◌, inl, inr, Bool, true, false, ◌||◌, cond, List, [], ◌∷◌, ◌++◌, ℤ, length, length-append, take, drop, Option, None, Some, refl, sym, ap, ◌∙◌, subst, arith}
use Rattle.std.proofs.lemmas.Bool.{eq-eqb, ne_eqb}
use Rattle.std.proofs.lemmas.Bool.Decides.{nat_tests}
use Rattle.std.proofs.lemmas.List.{length-take-le, take-append-le, take-take}
use Rattle.text_record.specs.Changes.{put}
use Rattle.text_record.specs.Texts.{Record, put_bytes}
use Rattle.text_edits.specs.Edits.{above, backspaced, below, deleted, inserted, keyed, left_of, pasted, pointed, right_of}
use Rattle.text_paint.specs.declared.selected.Selection.{Selection}
use Rattle.text_paint.specs.Rows.{IsChangedFrom, change_row}
use Rattle.text_paint.specs.Selected.{reselected, selected_of}
use Rattle.text_paint.proofs.AboveLemmas.{all_above}
use Rattle.text_mgr.specs.declared.changes.Change.{Change}
use Rattle.text_mgr.specs.declared.changes.Change.TheVariants.{All, From, Selected}
use Rattle.text_mgr.specs.Changing.{IsShownSo}

-- the bytes before those that were put stay
kept_before : (m end : ℕ) (other bytes : List ℕ) → m ≤ length bytes → take m (put_bytes m end other bytes) ≡ take m bytes
kept_before m end other bytes p =
    let low : m ≤ length (take m bytes) = omega (arith, length-take-le m bytes p) in
    let long : m ≤ length (take m bytes ++ other) = omega (arith, low, length-append (take m bytes) other) in
    take-append-le m (take m bytes ++ other) (drop end bytes) long ∙ take-append-le m (take m bytes) other low ∙ take-take m m bytes (omega arith)

put_from : (m end : ℕ) (other : List ℕ) (r : Record) → m ≤ length r.text.bytes → m ≤ r.start → IsChangedFrom m r (put m end other r)
put_from m end other r long within = record {
  rest = refl;
  lined = refl;
  bytes = kept_before m end other r.text.bytes long;
  long = long;
  within = within;
  behind = omega arith;
}

-- above the row of the change the record shows the same
put_shown : (font : List ℕ) (m end : ℕ) (other : List ℕ) (r : Record) → m ≤ length r.text.bytes → m ≤ r.start → IsShownSo (From (change_row font m r)) font r (put m end other r)
unfolding IsShownSo
put_shown font m end other r long within = λ p above. all_above font r (put m end other r) m p (put_from m end other r long within) above

-- also where the selection stays on the bytes behind
inserted_shown : (font text : List ℕ) (r : Record) → r.start ≤ length r.text.bytes → IsShownSo (From (change_row font r.start r)) font r (inserted text r)
unfolding IsShownSo
inserted_shown font text r long = λ p above.
    let from : IsChangedFrom r.start r (inserted text r) = record {
      rest = refl;
      lined = refl;
      bytes = kept_before r.start r.start text r.text.bytes long;
      long = long;
      within = omega arith;
      behind = omega arith;
    } in
    all_above font r (inserted text r) r.start p from above

-- ---- a selection as it was read

pub put_read : (font : List ℕ) (r : Record) (range : ℕ × ℕ) (row : ℤ) → range ≡ (r.start, r.end) → range.0 ≤ range.1 → range.1 ≤ length r.text.bytes → row ≡ change_row font range.0 r
    → (end : ℕ) (other : List ℕ) → IsShownSo (From row) font r (put r.start end other r)
put_read font r range row is order within row_is end other =
    let start : range.0 ≡ r.start = ap (λ (s : ℕ × ℕ). s.0) is in
    let long : r.start ≤ length r.text.bytes = omega (arith, order, within, start) in
    subst (λ v. IsShownSo (From v) font r (put r.start end other r)) (sym (row_is ∙ ap (λ m. change_row font m r) start)) (put_shown font r.start end other r long (omega arith))

pub inserted_read : (font : List ℕ) (r : Record) (range : ℕ × ℕ) (row : ℤ) → range ≡ (r.start, r.end) → range.0 ≤ range.1 → range.1 ≤ length r.text.bytes → row ≡ change_row font range.0 r
    → (text : List ℕ) → IsShownSo (From row) font r (inserted text r)
inserted_read font r range row is order within row_is text =
    let start : range.0 ≡ r.start = ap (λ (s : ℕ × ℕ). s.0) is in
    let long : r.start ≤ length r.text.bytes = omega (arith, order, within, start) in
    subst (λ v. IsShownSo (From v) font r (inserted text r)) (sym (row_is ∙ ap (λ m. change_row font m r) start)) (inserted_shown font text r long)

-- ---- keys

-- the key of a number is its byte
pub code_is : (b : Bool) (n k : ℕ) (o : Option ℕ) → o ≡ cond b None (Some n) → o ≡ Some k → n ≡ k
code_is true n k o e f = absurd (cc (e, f))
code_is false n k o e f = cc (e, f)

-- what is shown so by its byte is shown so
pub keyed_shown : (change : Change) (font : List ℕ) (n k : ℕ) (r : Record) → n ≡ k → IsShownSo change font r (keyed k r) → IsShownSo change font r (keyed n r)
keyed_shown change font n k r e so = subst (λ i. IsShownSo change font r (keyed i r)) (sym e) so

-- a backspace takes the byte before a point
pub point_read : (font : List ℕ) (r : Record) (range : ℕ × ℕ) (before : ℕ) (row : ℤ) → range ≡ (r.start, r.end) → range.1 ≤ length r.text.bytes → range.0 ≡ range.1 → before ≡ range.0 - 1 → row ≡ change_row font before r
    → IsShownSo (From row) font r (keyed 8 r)
point_read font r range before row is within same before_is row_is =
    let start : range.0 ≡ r.start = ap (λ (s : ℕ × ℕ). s.0) is in
    let end : range.1 ≡ r.end = ap (λ (s : ℕ × ℕ). s.1) is in
    let back : before ≡ r.start - 1 = before_is ∙ ap (λ m. m - 1) start in
    let shown = put_shown font (r.start - 1) r.start [] r (omega (arith, within, start, same)) (omega arith) in
    subst (λ v. IsShownSo (From v) font r (keyed 8 r)) (sym (row_is ∙ ap (λ m. change_row font m r) back))
    (subst (λ b. IsShownSo (From (change_row font (r.start - 1) r)) font r (cond b (put (r.start - 1) r.start [] r) (deleted r))) (sym (eq-eqb r.start r.end (sym start ∙ same ∙ end))) shown)

-- and else the selected bytes
pub selected_read : (change : Change) (font : List ℕ) (r : Record) (range : ℕ × ℕ) → range ≡ (r.start, r.end) → (range.0 ≡ range.1 → ⊥) → IsShownSo change font r (deleted r) → IsShownSo change font r (keyed 8 r)
selected_read change font r range is other so =
    let start : range.0 ≡ r.start = ap (λ (s : ℕ × ℕ). s.0) is in
    let end : range.1 ≡ r.end = ap (λ (s : ℕ × ℕ). s.1) is in
    subst (λ b. IsShownSo change font r (cond b (put (r.start - 1) r.start [] r) (deleted r))) (sym (ne_eqb r.start r.end (λ e. other (start ∙ e ∙ sym end)))) so

-- an arrow key moves the selection alone
arrow_alone : (r other typed : Record) (a b c d : ℕ) (back left right up down : Bool) → back ≡ false → (left || (right || (up || down))) ≡ true
    → r ≡ reselected (selected_of r) (cond back other (cond left (pointed a r) (cond right (pointed b r) (cond up (pointed c r) (cond down (pointed d r) typed)))))
arrow_alone r other typed a b c d true left right up down e f = absurd (cc e)
arrow_alone r other typed a b c d false true right up down e f = refl
arrow_alone r other typed a b c d false false true up down e f = refl
arrow_alone r other typed a b c d false false false true down e f = refl
arrow_alone r other typed a b c d false false false false true e f = refl
arrow_alone r other typed a b c d false false false false false e f = absurd (cc f)

pub arrow_shown : (font : List ℕ) (k : ℕ) (r : Record) (was : Selection) → was ≡ selected_of r → 28 ≤ k → k ≤ 31 → IsShownSo (Selected was) font r (keyed k r)
unfolding IsShownSo
arrow_shown font k r was is low high =
    subst (λ s. r ≡ reselected s (keyed k r)) (sym is)
    (arrow_alone r (backspaced r) (pasted (k ∷ []) r) (left_of r) (right_of r) (above r) (below r) (k == 8) (k == 28) (k == 29) (k == 30) (k == 31) (grind (arith, nat_tests, low)) (grind (arith, nat_tests, low, high)))

-- another key puts its byte
typed_key : (k : ℕ) (r : Record) → (k ≡ 8 → ⊥) → k < 28 ⊎ 31 < k → keyed k r ≡ pasted (k ∷ []) r
typed_key k r other outside =
    let arrows : (k == 28) ≡ false × (k == 29) ≡ false × (k == 30) ≡ false × (k == 31) ≡ false =
    elim outside [
      | inl l ↦ (ne_eqb k 28 (λ e. omega (arith, e, l)), ne_eqb k 29 (λ e. omega (arith, e, l)), ne_eqb k 30 (λ e. omega (arith, e, l)), ne_eqb k 31 (λ e. omega (arith, e, l)))
      | inr l ↦ (ne_eqb k 28 (λ e. omega (arith, e, l)), ne_eqb k 29 (λ e. omega (arith, e, l)), ne_eqb k 30 (λ e. omega (arith, e, l)), ne_eqb k 31 (λ e. omega (arith, e, l)))
    ] in
    rw (ne_eqb k 8 other, arrows.0, arrows.1, arrows.2, arrows.3) refl

pub typed_shown : (change : Change) (font : List ℕ) (k : ℕ) (r : Record) → (k ≡ 8 → ⊥) → k < 28 ⊎ 31 < k → IsShownSo change font r (put r.start r.end (k ∷ []) r) → IsShownSo change font r (keyed k r)
typed_shown change font k r other outside so = subst (λ u. IsShownSo change font r u) (sym (typed_key k r other outside)) so

-- where the selection alone changed
pub chosen_alone : (font : List ℕ) (r u : Record) (was : Selection) → was ≡ selected_of r → r ≡ reselected (selected_of r) u → IsShownSo (Selected was) font r u
unfolding IsShownSo
chosen_alone font r u was is alone = subst (λ s. r ≡ reselected s u) (sym is) alone

-- of a change of any of it nothing is said
pub nothing_said : (font : List ℕ) (r u : Record) → IsShownSo All font r u
unfolding IsShownSo
nothing_said font r u = tt
