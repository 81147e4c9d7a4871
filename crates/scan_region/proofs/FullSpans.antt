-- The spans of the rows of a rectangle.
use Rattle.std.proofs.Common.{◌≡◌, ◌∷◌, ◌++◌, [], ℤ, pos, ◌+ℤ◌, ◌<ℤ◌, ◌≤ℤ◌, refl, ap, ◌∙◌, arith}
use Rattle.std.proofs.lemmas.Int.{ints}
use Rattle.region_rows.specs.Counts.{count_to}
use Rattle.scan_region.specs.SpanRows.{all_pixels}
use Rattle.scan_region.specs.Walks.{row_runs, rows_runs}
use Rattle.scan_region.proofs.WalkRuns.{run-to, runs-end, rows-more, rows-end}

-- a row of a rectangle is one span
one_span : (v left right : ℤ) → left <ℤ right → row_runs all_pixels v left right ≡ record { v = v; left = left; right = right } ∷ []
one_span v left right l =
    run-to (λ h. all_pixels (record { h = h; v = v })) v left right right l (omega (arith, ints)) (λ x a b. refl) (λ m. absurd (omega (arith, ints)))
    ∙ ap (λ rest. record { v = v; left = left; right = right } ∷ rest) (runs-end (λ h. all_pixels (record { h = h; v = v })) v right right (omega (arith, ints)))

-- the first of them, and those below it
pub next_full : (v left right bottom : ℤ) → v <ℤ bottom → left <ℤ right
    → rows_runs all_pixels v left right (count_to v bottom) ≡ record { v = v; left = left; right = right } ∷ rows_runs all_pixels (v +ℤ pos 1) left right (count_to (v +ℤ pos 1) bottom)
next_full v left right bottom low l =
    rows-more all_pixels v left right bottom low
    ∙ ap (λ row. row ++ rows_runs all_pixels (v +ℤ pos 1) left right (count_to (v +ℤ pos 1) bottom)) (one_span v left right l)

pub no_full : (v left right bottom : ℤ) → bottom ≤ℤ v → rows_runs all_pixels v left right (count_to v bottom) ≡ []
no_full v left right bottom l = rows-end all_pixels v left right bottom l
