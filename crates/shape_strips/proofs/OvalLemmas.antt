-- Sums and orders of squares.
use Rattle.std.proofs.Common.{ℕ, ◌+◌, ◌*◌, ◌-◌, ◌<◌, ◌≤◌, ◌≡◌, true, false, arith, sym, ◌∙◌, inl, inr}
use Rattle.std.specs.Prelude.{nat_le}
use Rattle.std.proofs.lemmas.Nat.{mul-le}
use Rattle.std.proofs.lemmas.Bool.{cases_lt, le-leb, lt-leb}
use Rattle.shape_strips.specs.Ovals.{in_oval}

-- the square of a product of two numbers below 2 ^ 15
pub square_small : (a b : ℕ) → a < 32768 → b < 32768 → (a * b) * (a * b) ≤ 1152921504606846976
square_small a b p q =
    let side : a * b ≤ 32768 * 32768 = mul-le a b 32768 32768 (omega arith) (omega arith) in
    let all : (a * b) * (a * b) ≤ (32768 * 32768) * (32768 * 32768) = mul-le _ _ _ _ side side in
    omega (arith, all)

-- a place further from the middle is not in the oval, where a nearer one is not
pub further : (w k y a b : ℕ) → a ≤ b → in_oval w k a y ≡ false → in_oval w k b y ≡ false
unfolding in_oval
further w k y a b le out =
    let side : a * k ≤ b * k = mul-le _ _ _ _ le (omega arith) in
    let bigger : (a * k) * (a * k) ≤ (b * k) * (b * k) = mul-le _ _ _ _ side side in
    grind (arith, bigger, out)

-- a place nearer to the middle is in the oval, where a further one is
pub nearer : (w k y a b : ℕ) → a ≤ b → in_oval w k b y ≡ true → in_oval w k a y ≡ true
unfolding in_oval
nearer w k y a b le in_it =
    let side : a * k ≤ b * k = mul-le _ _ _ _ le (omega arith) in
    let bigger : (a * k) * (a * k) ≤ (b * k) * (b * k) = mul-le _ _ _ _ side side in
    grind (arith, bigger, in_it)

-- the middle of a row of an oval is in it
pub middle_in : (w k y : ℕ) → y ≤ k → in_oval w k 0 y ≡ true
unfolding in_oval
middle_in w k y le =
    let side : y * w ≤ k * w = mul-le _ _ _ _ le (omega arith) in
    let bigger : (y * w) * (y * w) ≤ (k * w) * (k * w) = mul-le _ _ _ _ side side in
    grind (arith, bigger)

-- the right half of a row, and what is past it
pub half_in : (w k y i : ℕ) → y ≤ k → w ≤ 2 * i + 1 → in_oval w k (w - 1 - 2 * i) y ≡ true
half_in w k y i le past =
    let none : w - 1 - 2 * i ≡ 0 = omega arith in
    rw none (middle_in w k y le)

-- an edge, from what lies before it and what lies after it
pub edge_at : (w k y n : ℕ) → ((i : ℕ) → i < n → in_oval w k (w - 1 - 2 * i) y ≡ false) → ((i : ℕ) → n ≤ i → in_oval w k (w - 1 - 2 * i) y ≡ true) → (i : ℕ) → in_oval w k (w - 1 - 2 * i) y ≡ nat_le n i
edge_at w k y n lacks held i = elim (cases_lt i n) [
  | inl l ↦ lacks i l ∙ sym (lt-leb n i l)
  | inr r ↦ held i r ∙ sym (le-leb n i r)
]
