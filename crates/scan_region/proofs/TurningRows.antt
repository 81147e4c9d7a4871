-- Rows of pixels from one to the next.
use Rattle.std.proofs.Common.{◌≡◌, ◌≢◌, ℕ, ◌<◌, Bool, true, false, ◌&&◌, List, [], ◌∷◌, length, ℤ, pos, ◌-ℤ◌, refl, sym, ◌∙◌, arith, All}
use Rattle.std.specs.Prelude.{int_le}
use Rattle.std.proofs.lemmas.Int.{ints, by_lt_z}
use Rattle.std.proofs.lemmas.List.Elements.{All-head, All-tail}
use Rattle.region_bytes.specs.Points.{in_rows}
use Rattle.region_bytes.proofs.Boxed.{row_turns}
use Rattle.region_bytes.proofs.Edges.{int_le-true, int_le-false}
use Rattle.region_rows.specs.Edges.{differ, inside}
use Rattle.region_rows.specs.Hull.{row_in}
use Rattle.region_rows.specs.Rows.{EdgeRow, AreRows}

same_le : (w v : ℤ) → w ≢ v → int_le w v ≡ int_le w (v -ℤ pos 1)
same_le w v n = by_lt_z w v
    (λ l. int_le-true w v (omega (arith, ints)) ∙ sym (int_le-true w (v -ℤ pos 1) (omega (arith, ints))))
    (λ l. by_lt_z v w
    (λ m. int_le-false w v m ∙ sym (int_le-false w (v -ℤ pos 1) (omega (arith, ints))))
    (λ m. absurd (n (omega (arith, ints)))))

-- a row without points is as the row above it
pub as_above : (rows : List EdgeRow) (v : ℤ) → All (λ (row : EdgeRow). row.0 ≢ v) rows → (h : ℤ) → in_rows rows h v ≡ in_rows rows h (v -ℤ pos 1)
unfolding in_rows
as_above [] v none h = refl
as_above (row ∷ rows) v none h =
    λ i. differ (same_le row.0 v (All-head (λ (r : EdgeRow). r.0 ≢ v) row rows none) i && inside row.1 h) (as_above rows v (All-tail (λ (r : EdgeRow). r.0 ≢ v) row rows none) h i)

-- a row of points turns the row above it
pub turned_row : (rows : List EdgeRow) (k : ℕ) → AreRows rows → k < length rows → (h : ℤ) → in_rows rows h (row_in rows k).0 ≡ differ (in_rows rows h ((row_in rows k).0 -ℤ pos 1)) (inside (row_in rows k).1 h)
turned_row rows k r l h = row_turns rows k h r.canonical.are_rows l ∙ swapped (inside (row_in rows k).1 h) (in_rows rows h ((row_in rows k).0 -ℤ pos 1))
  where
    swapped : (a b : Bool) → differ a b ≡ differ b a
    swapped true true = refl
    swapped true false = refl
    swapped false true = refl
    swapped false false = refl
