-- Rows that are collected one after the other.
use Rattle.std.proofs.Common.{◌≡◌, ℕ, ◌+◌, ◌≤◌, List, ◌++◌, length, take, drop, sym, ap, ◌∙◌, arith}
use Rattle.std.proofs.Math.Seq.{take-append-add}
use Rattle.std.proofs.lemmas.List.{length-take-le, take-append-le}
use Rattle.bit_map.proofs.PartLemmas.{mid}

-- behind the rows that there are, one more is put to the front of 128 bytes
pub row_more : (old part rows row : List ℕ) (at n next : ℕ) → at + 128 ≤ length old → length part ≡ 128 → n ≤ 128 → next ≡ at + n
    → take at old ≡ rows → take n part ≡ row → take next (mid at 128 old part) ≡ rows ++ row
row_more old part rows row at n next room all short is_next was is_row =
    let long : length (take at old) ≡ at = length-take-le at old (omega (arith, room)) in
    ap (λ j. take j (mid at 128 old part)) (is_next ∙ ap (λ j. j + n) (sym long))
    ∙ take-append-add (take at old) (part ++ drop 128 (drop at old)) n
    ∙ ap (λ l. take at old ++ l) (take-append-le n part (drop 128 (drop at old)) (omega (arith, all, short)))
    ∙ (λ i. was i ++ is_row i)
