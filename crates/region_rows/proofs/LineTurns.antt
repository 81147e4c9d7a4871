-- The turns of a line.
use Rattle.std.proofs.Common.{◌≡◌, ◌⊎◌, ℕ, zero, suc, ◌+◌, ◌/◌, ◌%◌, ◌^◌, ◌<◌, ◌≤◌, Bool, true, false, not, eqb, List, get_or, replicate, ℤ, pos, ◌+ℤ◌, ◌-ℤ◌, ◌<ℤ◌, ◌≤ℤ◌, refl, sym, ap, ◌∙◌, inl, inr, arith, SFits, w32, to_z}
use Rattle.std.specs.Prelude.{int_le}
use Rattle.std.proofs.lemmas.Int.{ints, by_lt_z, to_z_pos}
use Rattle.std.proofs.lemmas.Bool.{ne_eqb}
use Rattle.std.proofs.lemmas.Nat.Bits.{bit_at-zero}
use Rattle.region_rows.specs.Edges.{differ}
use Rattle.region_rows.specs.Counts.{count_to}
use Rattle.region_rows.specs.Bits.{has_bit}
use Rattle.region_rows.specs.Lines.{IsLine, IsLineTurn, place_in}
use Rattle.region_rows.specs.declared.line.Line.{Line}
use Rattle.region_rows.proofs.BitPlaces.{same_eqb}
use Rattle.region_rows.proofs.Counts.{count-is}
use Rattle.region_bytes.proofs.Edges.{int_le-true, int_le-false}

-- ---- a line that turns at one more column

itself : (b : Bool) → differ b b ≡ false
itself true = refl
itself false = refl

both_not : (a b : Bool) → differ (not a) (not b) ≡ differ a b
both_not true true = refl
both_not true false = refl
both_not false true = refl
both_not false false = refl

one_not : (a b : Bool) → differ (not a) b ≡ not (differ a b)
one_not true true = refl
one_not true false = refl
one_not false b = refl

toggled-left : (x h : ℤ) (f : ℤ → Bool) → h <ℤ x → differ (differ (int_le x h) (f h)) (differ (int_le x (h -ℤ pos 1)) (f (h -ℤ pos 1))) ≡ differ (f h) (f (h -ℤ pos 1))
toggled-left x h f l = λ i. differ (differ (int_le-false x h l i) (f h)) (differ (int_le-false x (h -ℤ pos 1) (omega (arith, ints)) i) (f (h -ℤ pos 1)))

toggled-right : (x h : ℤ) (f : ℤ → Bool) → x <ℤ h → differ (differ (int_le x h) (f h)) (differ (int_le x (h -ℤ pos 1)) (f (h -ℤ pos 1))) ≡ differ (f h) (f (h -ℤ pos 1))
toggled-right x h f l = (λ i. differ (differ (int_le-true x h (omega (arith, ints)) i) (f h)) (differ (int_le-true x (h -ℤ pos 1) (omega (arith, ints)) i) (f (h -ℤ pos 1)))) ∙ both_not (f h) (f (h -ℤ pos 1))

toggled-here : (x h : ℤ) (f : ℤ → Bool) → h ≡ x → differ (differ (int_le x h) (f h)) (differ (int_le x (h -ℤ pos 1)) (f (h -ℤ pos 1))) ≡ not (differ (f h) (f (h -ℤ pos 1)))
toggled-here x h f e = (λ i. differ (differ (int_le-true x h (omega (arith, ints)) i) (f h)) (differ (int_le-false x (h -ℤ pos 1) (omega (arith, ints)) i) (f (h -ℤ pos 1)))) ∙ one_not (f h) (f (h -ℤ pos 1))

pub toggled_before : (words : List ℕ) (l n : Line) (f : ℤ → Bool) (x : ℤ) → n.left ≡ l.left → n.right ≡ l.right → n.base ≡ l.base → n.first ≡ not l.first → x ≤ℤ l.left → IsLine words l f → IsLine words n (λ h. differ (int_le x h) (f h))
toggled_before words l n f x el er eb ef left s = record {
  first = ef ∙ ap not s.first ∙ sym (λ i. differ ((ap (int_le x) el ∙ int_le-true x l.left left) i) (f (el i)));
  turns = λ h a b. (λ i. has_bit words (eb i + count_to (el i) h)) ∙ s.turns h (omega (arith, ints)) (omega (arith, ints)) ∙ sym (toggled-right x h f (omega (arith, ints)));
}

pub toggled_after : (words : List ℕ) (l : Line) (f : ℤ → Bool) (x : ℤ) → l.left <ℤ x → l.right ≤ℤ x → IsLine words l f → IsLine words l (λ h. differ (int_le x h) (f h))
toggled_after words l f x left right s = record {
  first = s.first ∙ sym (ap (λ b. differ b (f l.left)) (int_le-false x l.left left));
  turns = λ h a b. s.turns h a b ∙ sym (toggled-left x h f (omega (arith, ints)));
}

same_place : (l : Line) (h x : ℤ) → h ≡ x → eqb (place_in l h) (place_in l x) ≡ true
same_place l h x e = ap (λ z. eqb (place_in l z) (place_in l x)) e ∙ same_eqb (place_in l x)

other_place : (l : Line) (h x : ℤ) → l.left ≤ℤ h → l.left ≤ℤ x → (h ≡ x → ⊥) → eqb (place_in l h) (place_in l x) ≡ false
other_place l h x a b n = ne_eqb (place_in l h) (place_in l x) (λ e. let p = count-is l.left h a in let q = count-is l.left x b in n (omega (arith, ints)))

pub toggled_between : (words after : List ℕ) (l : Line) (f : ℤ → Bool) (x : ℤ) → ((k : ℕ) → has_bit after k ≡ differ (eqb k (place_in l x)) (has_bit words k)) → l.left <ℤ x → IsLine words l f → IsLine after l (λ h. differ (int_le x h) (f h))
toggled_between words after l f x bits left s = record {
  first = s.first ∙ sym (ap (λ b. differ b (f l.left)) (int_le-false x l.left left));
  turns = λ h a b.
      let old = s.turns h a b in
      bits (place_in l h) ∙ by_lt_z h x
      (λ m. ap (λ t. differ t (has_bit words (place_in l h))) (other_place l h x (omega (arith, ints)) (omega (arith, ints)) (λ e. omega (arith, ints))) ∙ old ∙ sym (toggled-left x h f m))
      (λ m. by_lt_z x h
      (λ k. ap (λ t. differ t (has_bit words (place_in l h))) (other_place l h x (omega (arith, ints)) (omega (arith, ints)) (λ e. omega (arith, ints))) ∙ old ∙ sym (toggled-right x h f k))
      (λ k. let e : h ≡ x = omega (arith, ints) in ap (λ t. differ t (has_bit words (place_in l h))) (same_place l h x e) ∙ ap not old ∙ sym (toggled-here x h f e)));
}

-- the bits of other places stay
pub kept_apart : (words after : List ℕ) (l : Line) (x : ℤ) (k : ℕ) → ((k : ℕ) → has_bit after k ≡ differ (eqb k (place_in l x)) (has_bit words k)) → l.left ≤ℤ x → x <ℤ l.right → (k < l.base) ⊎ (l.base + count_to l.left l.right ≤ k) → has_bit after k ≡ has_bit words k
kept_apart words after l x k bits low high o = bits k ∙ ap (λ t. differ t (has_bit words k)) (ne_eqb k (place_in l x) (not_here o))
  where
    not_here : (k < l.base) ⊎ (l.base + count_to l.left l.right ≤ k) → k ≡ place_in l x → ⊥
    not_here (inl m) e = omega (arith, e)
    not_here (inr m) e =
        let p = count-is l.left x low in
        let q = count-is l.left l.right (omega (arith, ints)) in
        let r : count_to l.left x < count_to l.left l.right = omega (arith, ints) in
        omega (arith, e)

-- ---- the next turn

same_from : (a b : Bool) → differ a b ≡ false → a ≡ b
same_from true true e = refl
same_from true false e = e
same_from false true e = sym e
same_from false false e = refl

steady_steps : (f : ℤ → Bool) (at : ℤ) (n : ℕ) → ((x : ℤ) → at <ℤ x → x ≤ℤ (at +ℤ pos n) → f x ≡ f (x -ℤ pos 1)) → f (at +ℤ pos n) ≡ f at
steady_steps f at zero s = ap f (omega (arith, ints))
steady_steps f at (suc n) s =
    s (at +ℤ pos (suc n)) (omega (arith, ints)) (omega (arith, ints)) ∙ ap f (back at n)
    ∙ steady_steps f at n (λ x a b. s x a (omega (arith, ints)))
  where
    back : (at : ℤ) (n : ℕ) → (at +ℤ pos (suc n)) -ℤ pos 1 ≡ at +ℤ pos n
    back at n = omega (arith, ints)

steady_to : (f : ℤ → Bool) (at x : ℤ) → at ≤ℤ x → ((z : ℤ) → at <ℤ z → z ≤ℤ x → f z ≡ f (z -ℤ pos 1)) → f x ≡ f at
steady_to f at x l s =
    let n : ℕ = count_to at x in
    let e = count-is at x l in
    let end : (at +ℤ pos (count_to at x)) ≡ x = omega (arith, ints) in
    ap f (sym end) ∙ steady_steps f at n (λ z a b. s z a (omega (arith, ints)))

-- where the first bit that is set right of `at` is that of the column `to`, or no bit is up to the limit
pub turn_from : (words : List ℕ) (l : Line) (f : ℤ → Bool) (at limit to : ℤ) (found : ℕ) → l.left ≤ℤ at → at <ℤ limit → limit ≤ℤ l.right → pos found ≡ pos l.base +ℤ (to -ℤ l.left) → at <ℤ to → to ≤ℤ limit
    → ((k : ℕ) → place_in l (at +ℤ pos 1) ≤ k → k < found → has_bit words k ≡ false) → (found < place_in l limit → has_bit words found ≡ true) → IsLine words l f → IsLineTurn f at limit to
turn_from words l f at limit to found left order right place on up none here s = record {
  onward = on;
  within = up;
  steady = steady;
  turned = λ m.
      let p = count-is l.left to (omega (arith, ints)) in
      let q = count-is l.left limit (omega (arith, ints)) in
      let e : found ≡ place_in l to = omega (arith, ints) in
      let less : found < place_in l limit = omega (arith, ints) in
      sym (λ i. differ (f to) (steady (to -ℤ pos 1) (omega (arith, ints)) (omega (arith, ints)) i)) ∙ sym (s.turns to (omega (arith, ints)) (omega (arith, ints))) ∙ ap (has_bit words) (sym e) ∙ here less;
}
  where
    step : (x : ℤ) → at <ℤ x → x <ℤ to → f x ≡ f (x -ℤ pos 1)
    step x a b =
        let p = count-is l.left x (omega (arith, ints)) in
        let q = count-is l.left (at +ℤ pos 1) (omega (arith, ints)) in
        same_from (f x) (f (x -ℤ pos 1)) (sym (s.turns x (omega (arith, ints)) (omega (arith, ints))) ∙ none (place_in l x) (omega (arith, ints)) (omega (arith, ints)))

    steady : (x : ℤ) → at ≤ℤ x → x <ℤ to → f x ≡ f at
    steady x a b = steady_to f at x a (λ z m n. step z m (omega (arith, ints)))

-- ---- a line beside others

-- a line reads no other bits than its own
pub line_apart : (words after : List ℕ) (l : Line) (f : ℤ → Bool) → ((k : ℕ) → l.base ≤ k → k < l.base + count_to l.left l.right → has_bit after k ≡ has_bit words k) → IsLine words l f → IsLine after l f
line_apart words after l f same s = record {
  first = s.first;
  turns = λ x a b.
      let p = count-is l.left x (omega (arith, ints)) in
      let q = count-is l.left l.right (omega (arith, ints)) in
      same (place_in l x) (omega (arith, ints)) (omega (arith, ints)) ∙ s.turns x a b;
}

-- no bit of words of zero is set
zero_word : (n k : ℕ) → let z : ℕ = 0 in get_or (replicate n z) k z ≡ z
zero_word zero k = refl
zero_word (suc n) zero = refl
zero_word (suc n) (suc k) = zero_word n k

pub no_bit : (words : List ℕ) (n : ℕ) → words ≡ replicate n 0 → (k : ℕ) → has_bit words k ≡ false
unfolding has_bit
no_bit words n e k = ap (λ ws. has_bit ws k) e ∙ ap (λ w. eqb w 1) (ap (λ w. w / 2 ^ (k % 64) % 2) (zero_word n (k / 64)) ∙ bit_at-zero (k % 64))

-- a line without bits does not turn
pub line_new : (words : List ℕ) (l : Line) → ((k : ℕ) → has_bit words k ≡ false) → IsLine words l (λ x. l.first)
line_new words l none = record { first = refl; turns = λ x a b. none (place_in l x) ∙ sym (itself l.first) }

-- ---- columns as numbers of 32 bits

pub cast_small : (n : ℕ) → n ≤ 8192 → to_z w32 n ≡ pos n
cast_small n l = to_z_pos w32 n (omega arith)

pub column_fits : (left limit : ℤ) (n : ℕ) → SFits w32 left → SFits w32 limit → (left +ℤ pos n) ≤ℤ limit → SFits w32 (left +ℤ pos n)
column_fits left limit n f g l = search (arith, ints)
