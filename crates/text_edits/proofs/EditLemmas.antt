-- What is cut and pasted again.
use Rattle.std.specs.Prelude.{slice_range, nat_lt, not, ◌||◌, ◌==◌}
use Rattle.std.proofs.lemmas.Bool.{and_parts, not-true, ne_eqb, eq-eqb}
use Rattle.std.proofs.lemmas.Bool.Decides.{nat_tests}
use Rattle.std.proofs.Common.{true, false, eqb, ◌⊎◌, ◌<◌, ◌≡◌, ℕ, ◌+◌, ◌-◌, ◌≤◌, List, [], ◌∷◌, ◌++◌, length, take, drop, refl, sym, ap, ◌∙◌, arith, append-nil, append_assoc, length-drop, length-append}
use Rattle.std.proofs.lemmas.List.{take_at, drop_at, take-append-drop, length-take-le, drop-drop}
use Rattle.text_record.specs.Texts.{Record, put_bytes}
use Rattle.text_edits.specs.Edits.{selected_bytes, deleted, pasted, pointed, is_typed, keyed}

-- the parts of a list, one after another, are the list
parts : (xs : List ℕ) (start end : ℕ) → start ≤ end → take start xs ++ take (end - start) (drop start xs) ++ drop end xs ≡ xs
parts xs start end p =
    let same : start + (end - start) ≡ end = omega arith in
    append_assoc (take start xs) (take (end - start) (drop start xs)) (drop end xs)
    ∙ ap (λ l. take start xs ++ (take (end - start) (drop start xs) ++ l)) (ap (λ n. drop n xs) (sym same) ∙ sym (drop-drop (end - start) start xs))
    ∙ ap (λ l. take start xs ++ l) (take-append-drop (end - start) (drop start xs))
    ∙ take-append-drop start xs

-- what was taken out, put in again
put_again : (xs : List ℕ) (start end : ℕ) → start ≤ end → end ≤ length xs → put_bytes start start (slice_range xs start end) (put_bytes start end [] xs) ≡ xs
put_again xs start end p q =
    let first : length (take start xs) ≡ start = length-take-le start xs (omega arith) in
    let gone : put_bytes start end [] xs ≡ take start xs ++ drop end xs = ap (λ l. l ++ drop end xs) (append-nil (take start xs)) in
    ap (put_bytes start start (slice_range xs start end)) gone
    ∙ (λ i. take_at (take start xs) (drop end xs) start first i ++ slice_range xs start end ++ drop_at (take start xs) (drop end xs) start first i)
    ∙ parts xs start end p

long : (xs : List ℕ) (start end : ℕ) → start ≤ end → end ≤ length xs → start + length (slice_range xs start end) ≡ end
long xs start end p q = omega (arith, length-take-le (end - start) (drop start xs) (omega (arith, length-drop start xs)))

pub cut_pasted : (r : Record) → r.start ≤ r.end → r.end ≤ length r.text.bytes → pasted (selected_bytes r) (deleted r) ≡ pointed r.end r
cut_pasted r p q =
    let none : r.start + 0 ≡ r.start = omega arith in
    let bytes = ap (λ n. put_bytes n n (selected_bytes r) (put_bytes r.start r.end [] r.text.bytes)) none ∙ put_again r.text.bytes r.start r.end p q in
    let place = ap (λ n. n + length (selected_bytes r)) none ∙ long r.text.bytes r.start r.end p q in
    λ i. record r { text = record r.text { bytes = bytes i }; start = place i; end = place i; caret = true }

-- a key that is typed puts its byte
typed : (key : ℕ) (r : Record) → is_typed key ≡ true → keyed key r ≡ pasted (key ∷ []) r
typed key r e =
    let parts = and_parts (not (key == 8)) (nat_lt key 28 || nat_lt 31 key) e in
    let a : eqb key 8 ≡ false = not-true (key == 8) parts.0 in
    let b : eqb key 28 ≡ false = ne_eqb key 28 (λ s. absurd (omega (arith, outside key parts.1, s))) in
    let c : eqb key 29 ≡ false = ne_eqb key 29 (λ s. absurd (omega (arith, outside key parts.1, s))) in
    let d : eqb key 30 ≡ false = ne_eqb key 30 (λ s. absurd (omega (arith, outside key parts.1, s))) in
    let f : eqb key 31 ≡ false = ne_eqb key 31 (λ s. absurd (omega (arith, outside key parts.1, s))) in
    rw (a, b, c, d, f) refl
  where
    outside : (key : ℕ) → (nat_lt key 28 || nat_lt 31 key) ≡ true → (key < 28) ⊎ (31 < key)
    outside key e = grind (arith, nat_tests)

-- a byte that is put in, taken out again
byte_gone : (xs : List ℕ) (s c : ℕ) → s ≤ length xs → put_bytes s (s + 1) [] (put_bytes s s (c ∷ []) xs) ≡ xs
byte_gone xs s c p =
    let first : length (take s xs) ≡ s = length-take-le s xs p in
    let more : length (take s xs ++ c ∷ []) ≡ s + 1 = omega (arith, length-append (take s xs) (c ∷ []), first) in
    let before : take s (take s xs ++ c ∷ [] ++ drop s xs) ≡ take s xs = ap (take s) (append_assoc (take s xs) (c ∷ []) (drop s xs)) ∙ take_at (take s xs) (c ∷ [] ++ drop s xs) s first in
    (λ i. (append-nil (before i)) i ++ drop_at (take s xs ++ c ∷ []) (drop s xs) (s + 1) more i)
    ∙ take-append-drop s xs

pub key_taken_back : (r : Record) (key : ℕ) → r.start ≡ r.end → r.end ≤ length r.text.bytes → is_typed key ≡ true → keyed 8 (keyed key r) ≡ pointed r.start r
key_taken_back r key e p t =
    let first = ap (keyed 8) (typed key r t) in
    let same : eqb (r.start + 1) (r.start + 1) ≡ true = eq-eqb (r.start + 1) (r.start + 1) refl in
    let back : (r.start + 1) - 1 ≡ r.start = omega arith in
    let none : (r.start + 1) - 1 + 0 ≡ r.start = omega arith in
    let bytes : put_bytes ((r.start + 1) - 1) (r.start + 1) [] (put_bytes r.start r.end (key ∷ []) r.text.bytes) ≡ r.text.bytes =
    (λ i. put_bytes (back i) (r.start + 1) [] (put_bytes r.start (sym e i) (key ∷ []) r.text.bytes)) ∙ byte_gone r.text.bytes r.start key (omega arith) in
    first ∙ rw same (λ i. record r { text = record r.text { bytes = bytes i }; start = none i; end = none i; caret = true })
