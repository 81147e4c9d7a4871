-- How many bytes cells hold together, where some are put in, taken out and changed.
use Rattle.std.proofs.Common.{◌≡◌, ℕ, zero, suc, ◌+◌, ◌*◌, ◌≤◌, ◌<◌, List, [], ◌∷◌, ◌++◌, length, take, drop, replicate, refl, ap, ◌∙◌, arith}
use Rattle.std.specs.Prelude.{slice_set}
use Rattle.std.proofs.Math.Nat.{mul-zero}
use Rattle.std.proofs.lemmas.List.{drop-drop}
use Rattle.std.proofs.lemmas.List.Sums.{sum_by-append, sum_by-cons, sum_by-set, sum_by-take-drop, get_or-le-sum_by}
use Rattle.std.proofs.lemmas.List.Folds.{sum_by-replicate}
use Rattle.list_cells.specs.Contents.{Content, empty_content, bytes_held, opened, closed, passed, in_rows}
use Rattle.list_cells.specs.Blocks.{content_at}
use Rattle.list_cells.specs.Grids.{Grid, rows_added, rows_deleted, columns_added, columns_deleted}

-- how many bytes one cell holds
abbrev size : Content → ℕ
size c = length c.bytes

-- empty cells hold none
pub empty_held : (n : ℕ) → bytes_held (replicate n empty_content) ≡ 0
empty_held n = sum_by-replicate size n empty_content ∙ mul-zero n

-- a part of the cells and the others
parts_held : (n : ℕ) (cells : List Content) → bytes_held (take n cells) + bytes_held (drop n cells) ≡ bytes_held cells
parts_held n cells = sum_by-take-drop size cells n

append_held : (cells others : List Content) → bytes_held (cells ++ others) ≡ bytes_held cells + bytes_held others
append_held cells others = sum_by-append size cells others

-- whether a change leaves no more bytes
pub record HoldsNoMore (change : List Content → List Content) : Type 0 where
  pub held : (cells : List Content) → bytes_held (change cells) ≤ bytes_held cells

-- what such a change leaves of cells
pub held_after : (change : List Content → List Content) → HoldsNoMore change → (all cells now : List Content) → cells ≡ all → now ≡ change cells → bytes_held now ≤ bytes_held all
held_after change less all cells now is changed = omega (arith, ap bytes_held is, ap bytes_held changed, less.held cells)

pub opened_held : (at n : ℕ) → HoldsNoMore (opened at n)
unfolding opened
opened_held at n = record {
  held = λ cells.
      let all : bytes_held (take at cells ++ (replicate n empty_content ++ drop at cells)) ≡ bytes_held (take at cells) + bytes_held (replicate n empty_content ++ drop at cells) = append_held (take at cells) (replicate n empty_content ++ drop at cells) in
      omega (arith, all, append_held (replicate n empty_content) (drop at cells), empty_held n, parts_held at cells);
}

pub closed_held : (at n : ℕ) → HoldsNoMore (closed at n)
unfolding closed
closed_held at n = record {
  held = λ cells.
      let rest : bytes_held (drop n (drop at cells)) ≡ bytes_held (drop (at + n) cells) = ap bytes_held (drop-drop n at cells) in
      omega (arith, append_held (take at cells) (drop (at + n) cells), rest, parts_held n (drop at cells), parts_held at cells);
}

pub passed_held : (width : ℕ) (change : List Content → List Content) → HoldsNoMore change → HoldsNoMore (passed width change)
unfolding passed
passed_held width change less = record {
  held = λ cells.
      omega (arith, append_held (drop width cells) (change (take width cells)), less.held (take width cells), parts_held width cells);
}

in_rows_less : (width : ℕ) (change : List Content → List Content) → HoldsNoMore change → (rows : ℕ) (cells : List Content) → bytes_held (in_rows width change rows cells) ≤ bytes_held cells
unfolding in_rows
in_rows_less width change less zero cells = omega arith
in_rows_less width change less (suc rows) cells =
    omega (arith, append_held (change (take width cells)) (in_rows width change rows (drop width cells)), less.held (take width cells), in_rows_less width change less rows (drop width cells), parts_held width cells)

pub in_rows_held : (width : ℕ) (change : List Content → List Content) (rows : ℕ) → HoldsNoMore change → HoldsNoMore (in_rows width change rows)
in_rows_held width change rows less = record { held = in_rows_less width change less rows }

-- one cell with other bytes
pub set_held : (cells : List Content) (place : ℕ) (c : Content) → place < length cells
    → bytes_held (slice_set cells place c) + length (content_at cells place).bytes ≡ bytes_held cells + length c.bytes
set_held cells place c low = sum_by-set size cells place c empty_content low

-- one cell holds no more than all
pub cell_held : (cells : List Content) (place : ℕ) → place < length cells → length (content_at cells place).bytes ≤ bytes_held cells
cell_held cells place low = get_or-le-sum_by size cells place empty_content low

-- as many cells with the same bytes
pub same_held : (cells others : List Content) → length cells ≡ length others
    → ((place : ℕ) → place < length others → (content_at cells place).bytes ≡ (content_at others place).bytes) → bytes_held cells ≡ bytes_held others
same_held [] [] many each = refl
same_held [] (d ∷ others) many each = absurd (omega (arith, many))
same_held (c ∷ cells) [] many each = absurd (omega (arith, many))
same_held (c ∷ cells) (d ∷ others) many each =
    let first : length c.bytes ≡ length d.bytes = ap length (each 0 (omega arith)) in
    let rest : bytes_held cells ≡ bytes_held others = same_held cells others (omega (arith, many)) (λ k low. each (suc k) (omega (arith, low))) in
    omega (arith, sum_by-cons size c cells, sum_by-cons size d others, first, rest)

-- ---- rows and columns that are put in and taken out

pub rows_added_held : (g : Grid) (at n : ℕ) → bytes_held (rows_added at n g).contents ≤ bytes_held g.contents
rows_added_held g at n = (opened_held (at * g.columns) (n * g.columns)).held g.contents

pub rows_deleted_held : (g : Grid) (at n : ℕ) → bytes_held (rows_deleted at n g).contents ≤ bytes_held g.contents
rows_deleted_held g at n = (closed_held (at * g.columns) (n * g.columns)).held g.contents

pub columns_added_held : (g : Grid) (at n : ℕ) → bytes_held (columns_added at n g).contents ≤ bytes_held g.contents
columns_added_held g at n = (in_rows_held g.columns (opened at n) g.rows (opened_held at n)).held g.contents

pub columns_deleted_held : (g : Grid) (at n : ℕ) → bytes_held (columns_deleted at n g).contents ≤ bytes_held g.contents
columns_deleted_held g at n = (in_rows_held g.columns (closed at n) g.rows (closed_held at n)).held g.contents
