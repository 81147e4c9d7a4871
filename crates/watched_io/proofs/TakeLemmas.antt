-- The first bytes of an input that comes in pieces.
use Rattle.std.proofs.Common.{◌≡◌, ℕ, zero, suc, ◌-◌, List, [], ◌∷◌, ◌++◌, length, min, ap, take, arith, ◌∙◌}
use Rattle.std.proofs.lemmas.List.{take_min}

-- as many more as there is room for
pub take_more : (most : ℕ) (all more : List ℕ) → (take most all ++ take (min (most - length (take most all)) (length more)) more) ≡ take most (all ++ more)
take_more zero all more = take_min zero more
take_more (suc n) [] more =
    let e : suc n - 0 ≡ suc n = omega arith in
    ap (λ m. take (min m (length more)) more) e ∙ take_min (suc n) more
take_more (suc n) (x ∷ all) more =
    let e : suc n - length (x ∷ take n all) ≡ n - length (take n all) = omega arith in
    ap (λ m. x ∷ (take n all ++ take (min m (length more)) more)) e ∙ ap (λ xs. x ∷ xs) (take_more n all more)
