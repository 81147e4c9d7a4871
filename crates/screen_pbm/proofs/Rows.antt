-- The characters of a row, line by line.
use Rattle.std.proofs.Common.{◌≡◌, ℕ, zero, suc, pos, ◌+◌, ◌-◌, ◌*◌, min, List, [], ◌∷◌, ◌++◌, map, length, take, drop, refl, sym, ap, ◌∙◌, arith, length-append, length-drop}
use Rattle.std.specs.List.{range_with_len}
use Rattle.std.proofs.lemmas.List.{drop-map, length-take}
use Rattle.std.proofs.lemmas.List.FromFn.{length-map-range_with_len}
use Rattle.tb_geom.specs.Points.{PixelSet}
use Rattle.screen_pbm.specs.Pbm.{digit_of, row_digits, line_text}

-- what is left of a range without its first k numbers
drop-range : (k a n : ℕ) → drop k (range_with_len a n) ≡ range_with_len (a + k) (n - k)
drop-range zero a n =
    let e : a + zero ≡ a = omega arith in
    let f : n - zero ≡ n = omega arith in
    rw (e, f) refl
drop-range (suc k) a zero = let e : zero - suc k ≡ zero = omega arith in rw e refl
drop-range (suc k) a (suc n) =
    let e : a + suc k ≡ (a + 1) + k = omega arith in
    let f : suc n - suc k ≡ n - k = omega arith in
    rw (e, f) (drop-range k (a + 1) n)

-- the first m of a range's characters
take-range : (f : ℕ → ℕ) (m a n : ℕ) → take m (map f (range_with_len a n)) ≡ map f (range_with_len a (min m n))
take-range f zero a n = let e : min zero n ≡ zero = omega arith in rw e refl
take-range f (suc m) a zero = let e : min (suc m) zero ≡ zero = omega arith in rw e refl
take-range f (suc m) a (suc n) =
    let e : min (suc m) (suc n) ≡ suc (min m n) = omega arith in
    rw e (ap (λ l. f a ∷ l) (take-range f m (a + 1) n))

-- m of the characters from the k-th on
part-range : (f : ℕ → ℕ) (width k m n : ℕ) → n ≡ min m (width - k) → map f (range_with_len k n) ≡ take m (drop k (map f (range_with_len 0 width)))
part-range f width k m n e =
    let z : 0 + k ≡ k = omega arith in
    ap (λ j. map f (range_with_len k j)) e ∙ sym (take-range f m k (width - k))
    ∙ ap (λ j. take m (map f (range_with_len j (width - k)))) (sym z)
    ∙ ap (λ l. take m (map f l)) (sym (drop-range k 0 width)) ∙ ap (take m) (sym (drop-map f k (range_with_len 0 width)))

-- a line of a row, from its first column on
pub line_text-row : (width : ℕ) (black : PixelSet) (v k from n : ℕ) → from ≡ 70 * k → n ≡ min 70 (width - from)
    → map (λ h. digit_of (black (record { h = pos h; v = pos v }))) (range_with_len from n) ++ 10 ∷ [] ≡ line_text (row_digits width black v) k
unfolding line_text row_digits
line_text-row width black v k from n e f =
    let digit = λ (h : ℕ). digit_of (black (record { h = pos h; v = pos v })) in
    ap (λ (l : List ℕ). l ++ 10 ∷ []) (part-range digit width from 70 n f) ∙ ap (λ (j : ℕ). take 70 (drop j (map digit (range_with_len 0 width))) ++ 10 ∷ []) e

-- how many bytes a line of a row has
pub length-line_text : (width : ℕ) (black : PixelSet) (v k : ℕ) → length (line_text (row_digits width black v) k) ≡ min 70 (width - 70 * k) + 1
unfolding line_text row_digits
length-line_text width black v k =
    let digits = map (λ (h : ℕ). digit_of (black (record { h = pos h; v = pos v }))) (range_with_len 0 width) in
    length-append (take 70 (drop (70 * k) digits)) (10 ∷ [])
    ∙ ap (λ n. n + 1) (length-take 70 (drop (70 * k) digits) ∙ ap (min 70) (length-drop (70 * k) digits ∙ ap (λ n. n - 70 * k) (length-map-range_with_len (λ h. digit_of (black (record { h = pos h; v = pos v }))) 0 width)))
