-- Texts over a range of numbers, one after the other.
use Rattle.std.proofs.Common.{◌≡◌, ℕ, zero, suc, ◌+◌, ◌-◌, ◌<◌, ◌≤◌, List, [], ◌∷◌, ◌++◌, refl, sym, ap, ◌∙◌, subst, append-nil, arith, Result, sum_by}
use Rattle.std.specs.Result.{IsErrAnd}
use Rattle.std.specs.List.{flat_map, range_with_len}
use Rattle.std.proofs.lemmas.List.Concat.{flat_map-append}
use Rattle.std.proofs.lemmas.List.Sums.{sum_by_push}
use Rattle.tb_geom.specs.declared.refusal.Refusal.{Refusal}
use Rattle.tb_geom.specs.declared.refusal.Refusal.TheVariants.{WriteFault}
use Rattle.watched_io.specs.Writes.{Output, Sent, BrokeOff, Sends}
use Rattle.watched_io.proofs.Written.{Sent-trans, Sends-exit}

-- a range in two parts
pub range_with_len-add : (a m n : ℕ) → range_with_len a (m + n) ≡ range_with_len a m ++ range_with_len (a + m) n
range_with_len-add a zero n =
    let e : zero + n ≡ n = omega arith in
    let f : a + zero ≡ a = omega arith in
    rw (e, f) refl
range_with_len-add a (suc m) n =
    let e : suc m + n ≡ suc (m + n) = omega arith in
    let f : a + suc m ≡ (a + 1) + m = omega arith in
    ap (range_with_len a) e ∙ ap (λ l. a ∷ l) (range_with_len-add (a + 1) m n) ∙ ap (λ k. a ∷ range_with_len (a + 1) m ++ range_with_len k n) (sym f)

-- one more text
pub flat_map-range_more : (f : ℕ → List ℕ) (n : ℕ) → flat_map f (range_with_len 0 (n + 1)) ≡ flat_map f (range_with_len 0 n) ++ f n
flat_map-range_more f n =
    let z : 0 + n ≡ n = omega arith in
    ap (flat_map f) (range_with_len-add 0 n 1) ∙ flat_map-append f (range_with_len 0 n) (range_with_len (0 + n) 1)
    ∙ ap (λ k. flat_map f (range_with_len 0 n) ++ (f k ++ [])) z ∙ ap (λ l. flat_map f (range_with_len 0 n) ++ l) (append-nil (f n))

-- one more text of a range from a number on
pub flat_map-more_from : (f : ℕ → List ℕ) (a n : ℕ) → flat_map f (range_with_len a (n + 1)) ≡ flat_map f (range_with_len a n) ++ f (a + n)
flat_map-more_from f a n =
    ap (flat_map f) (range_with_len-add a n 1) ∙ flat_map-append f (range_with_len a n) (range_with_len (a + n) 1)
    ∙ ap (λ l. flat_map f (range_with_len a n) ++ l) (append-nil (f (a + n)))

-- so many texts more
flat_map-range_add : (f : ℕ → List ℕ) (n m : ℕ) → flat_map f (range_with_len 0 (n + m)) ≡ flat_map f (range_with_len 0 n) ++ flat_map f (range_with_len n m)
flat_map-range_add f n m =
    let z : 0 + n ≡ n = omega arith in
    ap (flat_map f) (range_with_len-add 0 n m) ∙ flat_map-append f (range_with_len 0 n) (range_with_len (0 + n) m)
    ∙ ap (λ k. flat_map f (range_with_len 0 n) ++ flat_map f (range_with_len k m)) z

-- one more number
pub sum_by-range_more : (f : ℕ → ℕ) (a n : ℕ) → sum_by f (range_with_len a (n + 1)) ≡ sum_by f (range_with_len a n) + f (a + n)
sum_by-range_more f a n = ap (sum_by f) (range_with_len-add a n 1) ∙ sum_by_push f (range_with_len a n) (a + n)

-- the texts before the k-th, that one, and those after it
pub flat_map-range_around : (f : ℕ → List ℕ) (n k : ℕ) → k < n → flat_map f (range_with_len 0 n) ≡ (flat_map f (range_with_len 0 k) ++ f k) ++ flat_map f (range_with_len (k + 1) (n - (k + 1)))
flat_map-range_around f n k h =
    let e : n ≡ (k + 1) + (n - (k + 1)) = omega arith in
    let z : 0 + (k + 1) ≡ k + 1 = omega arith in
    ap (λ m. flat_map f (range_with_len 0 m)) e ∙ ap (flat_map f) (range_with_len-add 0 (k + 1) (n - (k + 1)))
    ∙ flat_map-append f (range_with_len 0 (k + 1)) (range_with_len (0 + (k + 1)) (n - (k + 1)))
    ∙ ap (λ m. flat_map f (range_with_len 0 (k + 1)) ++ flat_map f (range_with_len m (n - (k + 1)))) z
    ∙ ap (λ l. l ++ flat_map f (range_with_len (k + 1) (n - (k + 1)))) (flat_map-range_more f k)

-- a turn of a loop that writes a text for each number
pub Sent-range_more : (a b c : Output) (f : ℕ → List ℕ) (n : ℕ) → Sent a b (flat_map f (range_with_len 0 n)) → Sent b c (f n) → Sent a c (flat_map f (range_with_len 0 (n + 1)))
Sent-range_more a b c f n p q = subst (Sent a c) (sym (flat_map-range_more f n)) (Sent-trans a b c _ _ p q)

-- its exit by `?`
pub Sends-range_exit : {X : Type 0} (a b c : Output) (r : Result X Refusal) (e : Refusal) (f : ℕ → List ℕ) (n k : ℕ) → k < n
    → IsErrAnd r (λ y. y ≡ e) → Sent a b (flat_map f (range_with_len 0 k)) → (e ≡ WriteFault) × BrokeOff b c (f k) → Sends a c r (flat_map f (range_with_len 0 n))
Sends-range_exit a b c r e f n k h failed p q = Sends-exit a b c r e _ _ _ _ failed p q (flat_map-range_around f n k h)

-- its end
pub Sent-range_end : (a b : Output) (f : ℕ → List ℕ) (n k : ℕ) → k ≡ n → Sent a b (flat_map f (range_with_len 0 k)) → Sent a b (flat_map f (range_with_len 0 n))
Sent-range_end a b f n k e p = subst (λ m. Sent a b (flat_map f (range_with_len 0 m))) e p

-- a turn of a loop that writes the texts for so many numbers
pub Sent-range_add : (a b c : Output) (f : ℕ → List ℕ) (n m : ℕ) → Sent a b (flat_map f (range_with_len 0 n)) → Sent b c (flat_map f (range_with_len n m)) → Sent a c (flat_map f (range_with_len 0 (n + m)))
Sent-range_add a b c f n m p q = subst (Sent a c) (sym (flat_map-range_add f n m)) (Sent-trans a b c _ _ p q)

-- its exit by `?`
pub Sends-range_part : {X : Type 0} (a b c : Output) (r : Result X Refusal) (e : Refusal) (f : ℕ → List ℕ) (n k m : ℕ) → k + m ≤ n
    → IsErrAnd r (λ y. y ≡ e) → Sent a b (flat_map f (range_with_len 0 k)) → (e ≡ WriteFault) × BrokeOff b c (flat_map f (range_with_len k m)) → Sends a c r (flat_map f (range_with_len 0 n))
Sends-range_part a b c r e f n k m within failed p q = Sends-exit a b c r e _ _ (flat_map f (range_with_len (k + m) (n - (k + m)))) _ failed p q split
  where
    whole : n ≡ (k + m) + (n - (k + m))
    whole = omega (arith, within)

    split : flat_map f (range_with_len 0 n) ≡ (flat_map f (range_with_len 0 k) ++ flat_map f (range_with_len k m)) ++ flat_map f (range_with_len (k + m) (n - (k + m)))
    split =
        ap (λ j. flat_map f (range_with_len 0 j)) whole ∙ flat_map-range_add f (k + m) (n - (k + m))
        ∙ ap (λ l. l ++ flat_map f (range_with_len (k + m) (n - (k + m)))) (flat_map-range_add f k m)
