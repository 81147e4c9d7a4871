-- How many cells are selected, where some are put in, taken out and changed.
use Rattle.std.proofs.Common.{◌≡◌, ℕ, zero, suc, ◌+◌, ◌*◌, ◌≤◌, Bool, true, false, cond, if◌then◌else◌, List, [], ◌∷◌, ◌++◌, length, take, drop, replicate, get_or, refl, sym, ap, ◌∙◌, arith}
use Rattle.std.specs.Prelude.{slice_set, sum_by}
use Rattle.std.specs.List.{filter}
use Rattle.std.proofs.Math.Nat.{mul-zero}
use Rattle.std.proofs.lemmas.List.{drop-drop}
use Rattle.std.proofs.lemmas.List.Sums.{sum_by-append, sum_by-cons, sum_by-take-drop}
use Rattle.std.proofs.lemmas.List.Folds.{sum_by-replicate}
use Rattle.list_cells.specs.declared.cell.Cell.{Cell}
use Rattle.list_cells.specs.declared.click.Click.{Click}
use Rattle.list_cells.specs.declared.click.Click.TheVariants.{SelectsAlone, Toggles}
use Rattle.list_cells.specs.declared.click.ClickKeys.{ClickKeys}
use Rattle.list_cells.specs.declared.click.SelectionFlags.{SelectionFlags}
use Rattle.list_cells.specs.Blocks.{clicked, clicked_cell, content_at, with_selected}
use Rattle.list_cells.specs.Clicks.{shift_click}
use Rattle.list_cells.specs.Contents.{Content, closed, deselected_content, deselected_contents, empty_content, in_rows, opened}
use Rattle.list_cells.specs.Grids.{Grid, columns_added, columns_deleted, content_of, deselected, empty_grid, place_of, rows_added, rows_deleted, with_bytes}
use Rattle.list_cells.specs.Selections.{chosen_cell}
use Rattle.list_mgr.specs.WholeLists.{count_selected}

-- ---- as a sum

abbrev one : Content → ℕ
one c = if c.selected then 1 else 0

abbrev many : List Content → ℕ
many cells = sum_by one cells

many_is : (cells : List Content) → length (filter (λ (c : Content). c.selected) cells) ≡ many cells
many_is [] = refl
many_is (c ∷ cells) = by_test c.selected (many_is cells) ∙ sym (sum_by-cons one c cells)
  where
    by_test : (b : Bool) → length (filter (λ (x : Content). x.selected) cells) ≡ many cells
        → length (cond b (c ∷ filter (λ (x : Content). x.selected) cells) (filter (λ (x : Content). x.selected) cells)) ≡ (cond b 1 0) + many cells
    by_test true e = omega (arith, e)
    by_test false e = omega (arith, e)

-- ---- one cell

-- one cell more is selected at most
set_most : (cells : List Content) (i : ℕ) (c : Content) → many (slice_set cells i c) ≤ many cells + one c
set_most [] i c = omega arith
set_most (x ∷ xs) zero c = omega (arith, sum_by-cons one c xs, sum_by-cons one x xs)
set_most (x ∷ xs) (suc i) c = omega (arith, sum_by-cons one x (slice_set xs i c), sum_by-cons one x xs, set_most xs i c)

-- none where its selection stays
set_same : (cells : List Content) (i : ℕ) (c : Content) → c.selected ≡ (get_or cells i empty_content).selected → many (slice_set cells i c) ≤ many cells
set_same [] i c e = omega arith
set_same (x ∷ xs) zero c e = let same : one c ≡ one x = ap (λ b. if b then 1 else 0) e in omega (arith, sum_by-cons one c xs, sum_by-cons one x xs, same)
set_same (x ∷ xs) (suc i) c e = omega (arith, sum_by-cons one x (slice_set xs i c), sum_by-cons one x xs, set_same xs i c e)

none_selected : (cells : List Content) → many (deselected_contents cells) ≡ 0
none_selected [] = refl
none_selected (c ∷ cells) =
    let first : one (deselected_content c) ≡ 0 = refl in
    omega (arith, sum_by-cons one (deselected_content c) (deselected_contents cells), first, none_selected cells)

-- other data leave the selection
pub bytes_selected : (g : Grid) (c : Cell) (bytes : List ℕ) → count_selected (with_bytes g c bytes) ≤ count_selected g
bytes_selected g c bytes =
    let set = set_same g.contents (place_of g c) (record (content_of g c) { bytes = bytes }) refl in
    omega (arith, many_is (with_bytes g c bytes).contents, many_is g.contents, set)

-- ---- rows and columns

empty_many : (n : ℕ) → many (replicate n empty_content) ≡ 0
empty_many n = sum_by-replicate one n empty_content ∙ mul-zero n

-- whether a change leaves no more selected
record SelectsNoMore (change : List Content → List Content) : Type 0 where
  pub less : (cells : List Content) → many (change cells) ≤ many cells

opened_many : (at n : ℕ) → SelectsNoMore (opened at n)
unfolding opened
opened_many at n = record {
  less = λ cells.
      omega (
        arith,
        sum_by-append one (take at cells) (replicate n empty_content ++ drop at cells),
        sum_by-append one (replicate n empty_content) (drop at cells),
        empty_many n,
        sum_by-take-drop one cells at,
      );
}

closed_many : (at n : ℕ) → SelectsNoMore (closed at n)
unfolding closed
closed_many at n = record {
  less = λ cells.
      let rest : many (drop n (drop at cells)) ≡ many (drop (at + n) cells) = ap many (drop-drop n at cells) in
      omega (arith, sum_by-append one (take at cells) (drop (at + n) cells), rest, sum_by-take-drop one (drop at cells) n, sum_by-take-drop one cells at);
}

in_rows_many : (width : ℕ) (change : List Content → List Content) → SelectsNoMore change → (rows : ℕ) (cells : List Content) → many (in_rows width change rows cells) ≤ many cells
unfolding in_rows
in_rows_many width change less zero cells = omega arith
in_rows_many width change less (suc rows) cells =
    omega (
      arith,
      sum_by-append one (change (take width cells)) (in_rows width change rows (drop width cells)),
      less.less (take width cells),
      in_rows_many width change less rows (drop width cells),
      sum_by-take-drop one cells width,
    )

pub rows_added_selected : (g : Grid) (at n : ℕ) → count_selected (rows_added at n g) ≤ count_selected g
rows_added_selected g at n = omega (arith, many_is (rows_added at n g).contents, many_is g.contents, (opened_many (at * g.columns) (n * g.columns)).less g.contents)

pub rows_deleted_selected : (g : Grid) (at n : ℕ) → count_selected (rows_deleted at n g) ≤ count_selected g
rows_deleted_selected g at n = omega (arith, many_is (rows_deleted at n g).contents, many_is g.contents, (closed_many (at * g.columns) (n * g.columns)).less g.contents)

pub columns_added_selected : (g : Grid) (at n : ℕ) → count_selected (columns_added at n g) ≤ count_selected g
columns_added_selected g at n = omega (arith, many_is (columns_added at n g).contents, many_is g.contents, in_rows_many g.columns (opened at n) (opened_many at n) g.rows g.contents)

pub columns_deleted_selected : (g : Grid) (at n : ℕ) → count_selected (columns_deleted at n g) ≤ count_selected g
columns_deleted_selected g at n = omega (arith, many_is (columns_deleted at n g).contents, many_is g.contents, in_rows_many g.columns (closed at n) (closed_many at n) g.rows g.contents)

pub new_selected : (columns rows : ℕ) → count_selected (empty_grid columns rows) ≡ 0
new_selected columns rows = many_is (empty_grid columns rows).contents ∙ empty_many (rows * columns)

-- ---- calls that select, where one cell is selected at most

-- one that is selected alone
alone_many : (cells : List Content) (i : ℕ) (c : Content) → many (slice_set (deselected_contents cells) i c) ≤ 1
alone_many cells i c = let least = at_most c.selected in omega (arith, set_most (deselected_contents cells) i c, none_selected cells, least)
  where
    at_most : (b : Bool) → (cond b 1 0) ≤ 1
    at_most true = omega arith
    at_most false = omega arith

pub chosen_single : (only : Bool) (g : Grid) (c : Cell) (selected : Bool) → only ≡ true → count_selected g ≤ 1 → count_selected (chosen_cell c selected only g) ≤ 1
chosen_single false g c selected e few = absurd (cc)
chosen_single true g c true e few =
    let set = alone_many g.contents (place_of g c) (record (content_of (deselected g) c) { selected = true }) in
    omega (arith, many_is (chosen_cell c true true g).contents, set)
chosen_single true g c false e few =
    let set = set_most g.contents (place_of g c) (record (content_of g c) { selected = false }) in
    omega (arith, many_is (chosen_cell c false true g).contents, many_is g.contents, set, few)

pub clicked_single : (flags : SelectionFlags) (keys : ClickKeys) (c : Cell) (g : Grid) → flags.only_one ≡ true → count_selected (clicked_cell flags keys c g) ≤ 1
unfolding clicked
clicked_single flags keys c g e =
    let is = many_is (clicked_cell flags keys c g).contents in
    let other : Click = if keys.command then Toggles else if keys.shift then shift_click flags.use_sense flags.no_extend (content_of g c).selected else SelectsAlone in
    let alone : many (clicked_cell flags keys c g).contents ≡ many (with_selected (place_of g c) true (deselected_contents g.contents)) =
    ap (λ b. many (clicked (if b then SelectsAlone else other) g.columns (place_of g c) g.contents)) e in
    let set = alone_many g.contents (place_of g c) (record (content_at (deselected_contents g.contents) (place_of g c)) { selected = true }) in
    omega (arith, is, alone, set)
