-- A loop that writes over each element in place.
use Rattle.std.proofs.Common.{◌≡◌, ℕ, ◌+◌, ◌-◌, ◌<◌, ◌≤◌, List, ◌++◌, length, get_or, take, drop, map, ℤ, pos, negsuc, ◌≤ℤ◌, SFits, w32, ap, ◌∙◌, arith}
use Rattle.std.proofs.lemmas.Int.{ints}
use Rattle.std.proofs.lemmas.List.{get_or-append_right, get_or-drop, length-map, length-take-le, take_all, drop_all, append-nil}

-- what the loop has not reached is as it was
pub unreached : {X : Type 0} (f : X → X) (xs ys : List X) (i : ℕ) (d : X) → i < length xs → ys ≡ map f (take i xs) ++ drop i xs → get_or ys i d ≡ get_or xs i d
unreached f xs ys i d l e =
    let here : i + (i - i) ≡ i = omega arith in
    ap (λ zs. get_or zs i d) e
    ∙ get_or-append_right (map f (take i xs)) (drop i xs) i i d (length-map (take i xs) f ∙ length-take-le i xs (omega arith)) (omega arith)
    ∙ get_or-drop i xs (i - i) d ∙ ap (λ n. get_or xs n d) here

-- at its end all are written
pub all_reached : {X : Type 0} (f : X → X) (xs ys : List X) (i : ℕ) → length xs ≤ i → ys ≡ map f (take i xs) ++ drop i xs → ys ≡ map f xs
all_reached f xs ys i l e = e ∙ (λ k. map f (take_all i xs l k) ++ drop_all i xs l k) ∙ append-nil (map f xs)

-- a coordinate is a number of 32 bits
pub coordinate_fits : (x : ℤ) → negsuc 16383 ≤ℤ x → x ≤ℤ pos 16383 → SFits w32 x
coordinate_fits x low high = search (arith, ints)
