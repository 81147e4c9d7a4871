-- Bytes that are put in the place of others.
use Rattle.std.proofs.Common.{◌≡◌, ℕ, suc, ◌+◌, ◌-◌, ◌≤◌, List, [], ◌∷◌, ◌++◌, length, take, drop, refl, ap, ◌∙◌, arith, append_assoc, length-drop}
use Rattle.std.proofs.lemmas.List.{take_at, drop_at, take-take}

-- the first of two lists, and the beginning of the second
take_beyond : (xs ys : List ℕ) (n k : ℕ) → n ≡ length xs + k → take n (xs ++ ys) ≡ xs ++ take k ys
take_beyond [] ys n k e = let same : n ≡ k = omega arith in rw same refl
take_beyond (x ∷ xs) ys n k e =
    let less : n ≡ suc (length xs + k) = omega arith in
    rw less (ap (λ l. x ∷ l) (take_beyond xs ys (length xs + k) k refl))

-- the bytes behind go before the others, those that go are dropped, other bytes are put behind, and the bytes behind go
-- behind all
pub put_in : (xs ys zs ws vs other : List ℕ) (start end rest behind : ℕ) → start ≤ end → end ≤ length xs → rest ≡ length xs - (end - start) → behind ≡ length xs - end
    → ys ≡ drop end xs ++ take end xs → zs ≡ take rest ys → ws ≡ zs ++ other → vs ≡ drop behind ws ++ take behind ws → vs ≡ take start xs ++ other ++ drop end xs
put_in xs ys zs ws vs other start end rest behind order within is_rest is_behind y z w v =
    let long : length (drop end xs) ≡ behind = omega (arith, length-drop end xs) in
    let further : rest ≡ length (drop end xs) + start = omega (arith, length-drop end xs) in
    let z' : zs ≡ drop end xs ++ take start xs = z ∙ ap (take rest) y ∙ take_beyond (drop end xs) (take end xs) rest start further ∙ ap (λ l. drop end xs ++ l) (take-take start end xs order) in
    let w' : ws ≡ drop end xs ++ (take start xs ++ other) = w ∙ ap (λ l. l ++ other) z' ∙ append_assoc (drop end xs) (take start xs) other in
    v ∙ ap (λ l. drop behind l ++ take behind l) w' ∙ (λ i. drop_at (drop end xs) (take start xs ++ other) behind long i ++ take_at (drop end xs) (take start xs ++ other) behind long i)
