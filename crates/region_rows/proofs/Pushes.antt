-- One more number.
use Rattle.std.proofs.Common.{◌≡◌, ℕ, ◌+◌, ◌<◌, List, [], ◌∷◌, ◌++◌, length, get_or, ℤ, pos, ◌<ℤ◌, ◌≤ℤ◌, arith, inl, inr}
use Rattle.std.proofs.lemmas.Int.{ints}
use Rattle.std.proofs.lemmas.Bool.{cases_lt}
use Rattle.std.proofs.lemmas.List.{get_or_push, get_or_append_left, length_push}
use Rattle.region_rows.specs.Edges.{IsRising}

-- what rises, rises with one more number above all
pub IsRising-push : (xs : List ℤ) (x y : ℤ) → IsRising xs → ((k : ℕ) → k < length xs → get_or xs k (pos 0) ≤ℤ x) → x <ℤ y → IsRising (xs ++ y ∷ [])
IsRising-push xs x y r below l =
    record {
      rises = λ i j m n.
          let e : length (xs ++ y ∷ []) ≡ length xs + 1 = length_push xs y in
          let first : get_or (xs ++ y ∷ []) i (pos 0) ≡ get_or xs i (pos 0) = get_or_append_left xs (y ∷ []) (pos 0) i (omega arith) in
          elim (cases_lt j (length xs)) [
            | inl w ↦ rw (first, get_or_append_left xs (y ∷ []) (pos 0) j w) (r.rises i j m w)
            | inr w ↦ rw (first, get_or_push xs y (pos 0) j (omega arith)) (let b = below i (omega arith) in omega (arith, ints))
          ];
    }

-- what holds of each number and of one more, holds of each with it
pub each_push : (P : ℤ → Type 0) (xs : List ℤ) (y : ℤ) → ((k : ℕ) → k < length xs → P (get_or xs k (pos 0))) → P y → (k : ℕ) → k < length (xs ++ y ∷ []) → P (get_or (xs ++ y ∷ []) k (pos 0))
each_push P xs y each h k n =
    let e : length (xs ++ y ∷ []) ≡ length xs + 1 = length_push xs y in
    elim (cases_lt k (length xs)) [
      | inl w ↦ rw (get_or_append_left xs (y ∷ []) (pos 0) k w) (each k w)
      | inr w ↦ rw (get_or_push xs y (pos 0) k (omega arith)) h
    ]
