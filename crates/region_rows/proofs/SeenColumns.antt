-- Columns as they are seen, and the points before and after them.
use Rattle.std.proofs.Common.{◌≡◌, ◌&&◌, ◌+◌, ◌<◌, ℕ, Bool, true, false, ℤ, pos, ◌≤ℤ◌, ◌<ℤ◌, List, length, get_or, take, sym, ap, ◌∙◌, arith}
use Rattle.std.specs.Prelude.{int_le}
use Rattle.std.proofs.lemmas.Int.{ints}
use Rattle.region_bytes.specs.Points.{in_rows}
use Rattle.region_bytes.proofs.Edges.{inside-more}
use Rattle.region_rows.specs.Columns.{seen_column}
use Rattle.region_rows.specs.Edges.{differ, inside}
use Rattle.region_rows.specs.Rows.{EdgeRow}
use Rattle.region_rows.specs.Seen.{sign}
use Rattle.region_rows.proofs.Merged.{in_rows-more}

-- a point that is not right of the column at hand counts alike for those right of it
pub point_passed : (up : Bool) (x h z : ℤ) → sign up x ≤ℤ h → h ≤ℤ z → int_le x (seen_column up z) ≡ int_le x (seen_column up h)
point_passed false x h z l a =
    let p : int_le x z ≡ true = grind (arith, ints) in
    let q : int_le x h ≡ true = grind (arith, ints) in
    p ∙ sym q
point_passed true x h z l a =
    let p : int_le x (seen_column true z) ≡ false = grind (arith, ints) in
    let q : int_le x (seen_column true h) ≡ false = grind (arith, ints) in
    p ∙ sym q

-- and so does one that is right of both
pub point_ahead : (up : Bool) (x h z : ℤ) → h ≤ℤ z → z <ℤ sign up x → int_le x (seen_column up z) ≡ int_le x (seen_column up h)
point_ahead false x h z a l =
    let p : int_le x z ≡ false = grind (arith, ints) in
    let q : int_le x h ≡ false = grind (arith, ints) in
    p ∙ sym q
point_ahead true x h z a l =
    let p : int_le x (seen_column true z) ≡ true = grind (arith, ints) in
    let q : int_le x (seen_column true h) ≡ true = grind (arith, ints) in
    p ∙ sym q

-- one more point that counts alike in two columns
pub points_more : (xs : List ℤ) (i : ℕ) (g h x : ℤ) → i < length xs → x ≡ get_or xs i (pos 0) → int_le x g ≡ int_le x h → inside (take i xs) g ≡ inside (take i xs) h
    → inside (take (i + 1) xs) g ≡ inside (take (i + 1) xs) h
points_more xs i g h x l e f same =
    inside-more xs i g l ∙ (λ k. differ ((ap (λ y. int_le y g) (sym e) ∙ f ∙ ap (λ y. int_le y h) e) k) (same k)) ∙ sym (inside-more xs i h l)

-- and one more row
pub rows_more : (rows : List EdgeRow) (i : ℕ) (row : EdgeRow) (g h v : ℤ) → i < length rows → row ≡ get_or rows i row → inside row.1 g ≡ inside row.1 h → in_rows (take i rows) g v ≡ in_rows (take i rows) h v
    → in_rows (take (i + 1) rows) g v ≡ in_rows (take (i + 1) rows) h v
rows_more rows i row g h v l e f same =
    in_rows-more rows i row g v l e ∙ (λ k. differ (int_le row.0 v && f k) (same k)) ∙ sym (in_rows-more rows i row h v l e)
