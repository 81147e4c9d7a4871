-- Words are the data of rows exactly where the scan says so.
use Rattle.std.proofs.Common.{◌≡◌, ℕ, zero, suc, ◌<◌, Bool, true, false, not, ◌&&◌, cond, List, [], ◌∷◌, ◌++◌, length, get_or, map, ℤ, pos, negsuc, ◌<ℤ◌, ◌≤ℤ◌, refl, sym, ap, ◌∙◌, arith, All, ◌⊎◌, inl, inr, append_assoc}
use Rattle.std.specs.Prelude.{int_lt}
use Rattle.std.specs.List.{flat_map}
use Rattle.std.specs.Ordering.{int_eq}
use Rattle.std.proofs.lemmas.Int.{ints}
use Rattle.std.proofs.lemmas.Bool.{and_parts, true≢false, false≢true}
use Rattle.std.proofs.lemmas.Bool.Decides.{Decides-int_eq}
use Rattle.std.proofs.lemmas.List.Elements.{All-head, All-tail, All-nil, All-cons}
use Rattle.region_bytes.specs.Edges.{differ, is_odd, IsRising}
use Rattle.region_bytes.specs.Points.{PointRow, top_of, IsPointRow}
use Rattle.region_bytes.proofs.Tests.{int_eq-same, int_eq-apart}
use Rattle.region_bytes.specs.Words.{row_words, data_words}
use Rattle.region_bytes.specs.Bytes.{IsWord, IsOfWords, IsWithoutEnd}
use Rattle.region_bytes.specs.Scan.{is_nil, are_rows}

-- a row of words in canonical form
pub record IsFormRow (row : PointRow) : Type 0 where
  pub top : IsWord row.0
  pub columns : All IsWord row.1
  pub rising : IsRising row.1
  pub even : is_odd (length row.1) ≡ false
  pub some : 0 < length row.1

pub form_rows : (rows : List PointRow) → All IsPointRow rows → All IsOfWords rows → All IsFormRow rows
form_rows [] p w = All-nil IsFormRow
form_rows (row ∷ rows) p w =
    let good = All-head IsPointRow row rows p in
    let words = All-head IsOfWords row rows w in
    All-cons IsFormRow row rows
    (record { top = words.0; columns = words.1; rising = good.rising; even = good.even; some = good.some })
    (form_rows rows (All-tail IsPointRow row rows p) (All-tail IsOfWords row rows w))

pub point_rows : (rows : List PointRow) → All IsFormRow rows → All IsPointRow rows
point_rows [] f = All-nil IsPointRow
point_rows (row ∷ rows) f =
    let good = All-head IsFormRow row rows f in
    All-cons IsPointRow row rows (record { rising = good.rising; even = good.even; some = good.some }) (point_rows rows (All-tail IsFormRow row rows f))

pub rows_of_words : (rows : List PointRow) → All IsFormRow rows → All IsOfWords rows
rows_of_words [] f = All-nil IsOfWords
rows_of_words (row ∷ rows) f =
    let good = All-head IsFormRow row rows f in
    All-cons IsOfWords row rows (good.top, good.columns) (rows_of_words rows (All-tail IsFormRow row rows f))

pub rising_tail : (x : ℤ) (xs : List ℤ) → IsRising (x ∷ xs) → IsRising xs
rising_tail x xs r = record { rises = λ i j m n. r.rises (suc i) (suc j) (omega arith) (omega arith) }

rising_one : (x : ℤ) → IsRising (x ∷ [])
rising_one x = record { rises = λ i j m n. absurd (omega arith) }

rising_cons : (w x : ℤ) (xs : List ℤ) → IsRising (x ∷ xs) → w <ℤ x → IsRising (w ∷ x ∷ xs)
rising_cons w x xs r l = record { rises = up }
  where
    up : (i j : ℕ) → i < j → j < length (w ∷ x ∷ xs) → get_or (w ∷ x ∷ xs) i (pos 0) <ℤ get_or (w ∷ x ∷ xs) j (pos 0)
    up zero zero m n = absurd (omega arith)
    up zero (suc zero) m n = l
    up zero (suc (suc j)) m n = let f = r.rises zero (suc j) (omega arith) (omega arith) in omega (arith, ints)
    up (suc i) zero m n = absurd (omega arith)
    up (suc i) (suc j) m n = r.rises i j (omega arith) (omega arith)

pub regroup : (row : PointRow) (rows : List PointRow) → data_words (row ∷ rows) ≡ row.0 ∷ (row.1 ++ (pos 32767 ∷ data_words rows))
regroup row rows = ap (λ l. row.0 ∷ l) (ap (λ l. l ++ pos 32767 ∷ []) (append_assoc row.1 (pos 32767 ∷ []) (flat_map row_words rows)) ∙ append_assoc row.1 (pos 32767 ∷ flat_map row_words rows) (pos 32767 ∷ []))

-- the words are the data of rows below v
pub record IsBelow (v : ℤ) (ws : List ℤ) : Type 0 where
  pub rows : List PointRow
  pub same : data_words rows ≡ ws
  pub rising : IsRising (v ∷ map top_of rows)
  pub each : All IsFormRow rows
  pub told : All IsWithoutEnd rows

-- the words are the last columns of a row, right of h, and then data of rows below v
pub record IsOpen (v h : ℤ) (odd : Bool) (ws : List ℤ) : Type 0 where
  pub xs : List ℤ
  pub rest : List ℤ
  pub same : xs ++ (pos 32767 ∷ rest) ≡ ws
  pub below : IsBelow v rest
  pub rising : IsRising (h ∷ xs)
  pub parity : differ odd (is_odd (length xs)) ≡ false
  pub some : (0 < length xs) ⊎ (negsuc 32768 <ℤ h)
  pub columns : All IsWord xs
  pub told : All (λ x. x ≡ pos 32767 → ⊥) xs

abbrev Found : Bool → ℤ → ℤ → Bool → List ℤ → Type 0
Found false v h odd ws = IsBelow v ws
Found true v h odd ws = IsOpen v h odd ws

chosen : (b x y : Bool) → cond b x y ≡ true → ((b ≡ true) × (x ≡ true)) ⊎ ((b ≡ false) × (y ≡ true))
chosen true x y e = inl (refl, e)
chosen false x y e = inr (refl, e)

from_lt : (x y : ℤ) → int_lt x y ≡ true → x <ℤ y
from_lt x y e = grind (arith, ints)

from_nil : (ws : List ℤ) → is_nil ws ≡ true → [] ≡ ws
from_nil [] e = refl
from_nil (w ∷ ws) e = absurd (false≢true e)

from_not : (b : Bool) → not b ≡ true → b ≡ false
from_not true e = sym e
from_not false e = refl

apart : (w : ℤ) → int_eq w (pos 32767) ≡ false → w ≡ pos 32767 → ⊥
apart w e f = true≢false (sym (int_eq-same (pos 32767)) ∙ ap (λ z. int_eq z (pos 32767)) (sym f) ∙ e)

differ_not : (a b : Bool) → differ a (not b) ≡ differ (not a) b
differ_not true true = refl
differ_not true false = refl
differ_not false true = refl
differ_not false false = refl

odd_suc : (n : ℕ) → is_odd (suc n) ≡ not (is_odd n)
unfolding is_odd
odd_suc n = refl

odd_zero : is_odd 0 ≡ false
unfolding is_odd
odd_zero = refl

data_none : (v w : ℤ) (ws : List ℤ) → w ≡ pos 32767 → [] ≡ ws → IsBelow v (w ∷ ws)
data_none v w ws e f = record { rows = []; same = (λ i. sym e i ∷ f i); rising = rising_one v; each = All-nil IsFormRow; told = All-nil IsWithoutEnd }

data_row : (v w : ℤ) (ws : List ℤ) → IsWord w → v <ℤ w → (w ≡ pos 32767 → ⊥) → IsOpen w (negsuc 32768) false ws → IsBelow v (w ∷ ws)
data_row v w ws f l n o =
    record {
      rows = (w, o.xs) ∷ o.below.rows;
      same = regroup (w, o.xs) o.below.rows ∙ ap (λ r. w ∷ (o.xs ++ (pos 32767 ∷ r))) o.below.same ∙ ap (λ r. w ∷ r) o.same;
      rising = rising_cons v w (map top_of o.below.rows) o.below.rising l;
      each = All-cons IsFormRow (w, o.xs) o.below.rows (record {
        top = f;
        columns = o.columns;
        rising = rising_tail (negsuc 32768) o.xs o.rising;
        even = o.parity;
        some = elim o.some [ inl s ↦ s | inr s ↦ absurd (omega (arith, ints)) ];
      }) o.below.each;
      told = All-cons IsWithoutEnd (w, o.xs) o.below.rows (n, o.told) o.below.told;
    }

open_none : (v h w : ℤ) (odd : Bool) (ws : List ℤ) → w ≡ pos 32767 → odd ≡ false → negsuc 32768 <ℤ h → IsBelow v ws → IsOpen v h odd (w ∷ ws)
open_none v h w odd ws e o l d =
    record {
      xs = [];
      rest = ws;
      same = ap (λ z. z ∷ ws) (sym e);
      below = d;
      rising = rising_one h;
      parity = (λ i. differ (o i) (odd_zero i));
      some = inr l;
      columns = All-nil IsWord;
      told = All-nil (λ x. x ≡ pos 32767 → ⊥);
    }

open_more : (v h w : ℤ) (odd : Bool) (ws : List ℤ) → IsWord w → h <ℤ w → (w ≡ pos 32767 → ⊥) → IsOpen v w (not odd) ws → IsOpen v h odd (w ∷ ws)
open_more v h w odd ws f l n o =
    record {
      xs = w ∷ o.xs;
      rest = o.rest;
      same = ap (λ r. w ∷ r) o.same;
      below = o.below;
      rising = rising_cons h w o.xs o.rising l;
      parity = ap (differ odd) (odd_suc (length o.xs)) ∙ differ_not odd _ ∙ o.parity;
      some = inl (omega arith);
      columns = All-cons IsWord w o.xs f o.columns;
      told = All-cons (λ x. x ≡ pos 32767 → ⊥) w o.xs n o.told;
    }

pub found : (v h : ℤ) (within odd : Bool) (ws : List ℤ) → All IsWord ws → are_rows v h within odd ws ≡ true → Found within v h odd ws
unfolding are_rows
found v h within odd [] f e = absurd (false≢true e)
found v h false odd (w ∷ ws) f e =
    elim (chosen (int_eq w (pos 32767)) _ _ e) [
      | inl t ↦ data_none v w ws ((Decides-int_eq w (pos 32767)).0 t.0) (from_nil ws t.1)
      | inr t ↦ (let p = and_parts (int_lt v w) (are_rows w (negsuc 32768) true false ws) t.1 in
          data_row v w ws (All-head IsWord w ws f) (from_lt v w p.0) (apart w t.0) (found w (negsuc 32768) true false ws (All-tail IsWord w ws f) p.1))
    ]
found v h true odd (w ∷ ws) f e =
    elim (chosen (int_eq w (pos 32767)) _ _ e) [
      | inl t ↦ (let p = and_parts (not odd && int_lt (negsuc 32768) h) (are_rows v h false odd ws) t.1 in
          let q = and_parts (not odd) (int_lt (negsuc 32768) h) p.0 in
          open_none v h w odd ws ((Decides-int_eq w (pos 32767)).0 t.0) (from_not odd q.0) (from_lt (negsuc 32768) h q.1) (found v h false odd ws (All-tail IsWord w ws f) p.1))
      | inr t ↦ (let p = and_parts (int_lt h w) (are_rows v w true (not odd) ws) t.1 in
          open_more v h w odd ws (All-head IsWord w ws f) (from_lt h w p.0) (apart w t.0) (found v w true (not odd) ws (All-tail IsWord w ws f) p.1))
    ]

-- ---- and back

int_lt-true : (x y : ℤ) → x <ℤ y → int_lt x y ≡ true
int_lt-true x y l = grind (arith, ints)

between_any : (v h k : ℤ) (odd even : Bool) (ws : List ℤ) → are_rows v h false odd ws ≡ are_rows v k false even ws
unfolding are_rows
between_any v h k odd even [] = refl
between_any v h k odd even (w ∷ ws) = refl

all_columns : (v h : ℤ) (odd : Bool) (xs ws : List ℤ) → IsRising (h ∷ xs) → negsuc 32768 ≤ℤ h → All (λ x. x ≡ pos 32767 → ⊥) xs → differ odd (is_odd (length xs)) ≡ false → (0 < length xs) ⊎ (negsuc 32768 <ℤ h) → are_rows v h false odd ws ≡ true → are_rows v h true odd (xs ++ (pos 32767 ∷ ws)) ≡ true
unfolding are_rows
all_columns v h odd [] ws r b n p s e =
    let l : negsuc 32768 <ℤ h = elim s [ inl z ↦ absurd (omega arith) | inr z ↦ z ] in
    let even : odd ≡ false = not_odd odd p in
    (λ i. cond (int_eq-same (pos 32767) i) ((not (even i) && int_lt-true (negsuc 32768) h l i) && e i) (int_lt h (pos 32767) && are_rows v (pos 32767) true (not odd) ws))
  where
    not_odd : (odd : Bool) → differ odd (is_odd 0) ≡ false → odd ≡ false
    not_odd odd p = same odd (is_odd 0) odd_zero p
      where
        same : (a b : Bool) → b ≡ false → differ a b ≡ false → a ≡ false
        same true b e f = sym (ap not e) ∙ f
        same false b e f = refl
all_columns v h odd (x ∷ xs) ws r b n p s e =
    let up : h <ℤ x = r.rises zero (suc zero) (omega arith) (omega arith) in
    let parity : differ (not odd) (is_odd (length xs)) ≡ false = sym (differ_not odd _) ∙ ap (differ odd) (sym (odd_suc (length xs))) ∙ p in
    let low : (0 < length xs) ⊎ (negsuc 32768 <ℤ x) = inr (omega (arith, ints)) in
    let rest = all_columns v x (not odd) xs ws (rising_tail h (x ∷ xs) r) (omega (arith, ints)) (All-tail (λ x. x ≡ pos 32767 → ⊥) x xs n) parity low (between_any v x h (not odd) odd ws ∙ e) in
    (λ i. cond (int_eq-apart x (pos 32767) (All-head (λ x. x ≡ pos 32767 → ⊥) x xs n) i) ((not odd && int_lt (negsuc 32768) h) && are_rows v h false odd (xs ++ (pos 32767 ∷ ws))) (int_lt-true h x up i && rest i))

pub from_words : (xs : List ℤ) → IsRising xs → All IsWord xs → IsRising (negsuc 32768 ∷ xs)
from_words [] r f = rising_one (negsuc 32768)
from_words (x ∷ xs) r f = rising_cons (negsuc 32768) x xs r (let w = All-head IsWord x xs f in omega (arith, ints, w.0))

pub all_rows : (v h : ℤ) (odd : Bool) (rows : List PointRow) → IsRising (v ∷ map top_of rows) → All IsFormRow rows → All IsWithoutEnd rows → are_rows v h false odd (data_words rows) ≡ true
unfolding are_rows
all_rows v h odd [] r f t = (λ i. cond (int_eq-same (pos 32767) i) true (int_lt v (pos 32767) && are_rows (pos 32767) (negsuc 32768) true false []))
all_rows v h odd (row ∷ rows) r f t =
    let good = All-head IsFormRow row rows f in
    let told = All-head IsWithoutEnd row rows t in
    let up : v <ℤ row.0 = r.rises zero (suc zero) (omega arith) (omega arith) in
    let below = all_rows row.0 (negsuc 32768) false rows (rising_tail v (row.0 ∷ map top_of rows) r) (All-tail IsFormRow row rows f) (All-tail IsWithoutEnd row rows t) in
    let columns = all_columns row.0 (negsuc 32768) false row.1 (data_words rows) (from_words row.1 good.rising good.columns) (omega (arith, ints)) told.1 good.even (inl good.some) below in
    ap (are_rows v h false odd) (regroup row rows)
    ∙ (λ i. cond (int_eq-apart row.0 (pos 32767) told.0 i) (is_nil (row.1 ++ (pos 32767 ∷ data_words rows))) (int_lt-true v row.0 up i && columns i))
