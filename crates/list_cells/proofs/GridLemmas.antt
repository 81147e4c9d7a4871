-- Lists of cells with more and fewer rows and columns, and with other data in a cell.
use Rattle.std.proofs.Common.{◌≡◌, ℕ, ◌+◌, ◌*◌, ◌-◌, ◌<◌, ◌≤◌, Bool, true, false, not, List, [], ◌∷◌, length, refl, sym, ap, subst, ◌∙◌, arith}
use Rattle.std.specs.Prelude.{None, get_or, slice_set}
use Rattle.std.proofs.Math.Nat.{mul-le-mul_right}
use Rattle.std.proofs.Math.ListN.{length-set}
use Rattle.std.proofs.lemmas.Bool.Decides.{nat_tests}
use Rattle.std.proofs.lemmas.List.{get_or_default}
use Rattle.tb_geom.specs.Refusals.{first_refusal}
use Rattle.tb_geom.specs.declared.refusal.Refusal.TheVariants.{NoSuchCell, TooLong}
use Rattle.list_cells.specs.Contents.{Content, empty_content, bytes_held, passed, opened, closed}
use Rattle.list_cells.specs.declared.cell.Cell.{Cell}
use Rattle.list_cells.specs.declared.runs.Run.{Run}
use Rattle.list_cells.specs.Blocks.{content_at}
use Rattle.list_cells.specs.Grids.{Grid, IsGrid, is_cell, place_of, content_of, is_too_long, data_refusals, rows_added, rows_deleted}
use Rattle.list_cells.proofs.ByteLemmas.{set_held, cell_held}
use Rattle.list_cells.proofs.RowLemmas.{passes_whole}

-- what lines take of the cells
pub lines_within : (at n lines across : ℕ) → at + n ≤ lines → at * across + n * across ≤ lines * across
lines_within at n lines across l = let h : (at + n) * across ≤ lines * across = mul-le-mul_right across l in grind arith

-- what is left of the cells
pub lines_left : (n lines across : ℕ) → n ≤ lines → (lines - n) * across + n * across ≤ lines * across
lines_left n lines across l = lines_within (lines - n) n lines across (omega arith)

lines_split : (n rest lines across : ℕ) → rest + n ≡ lines → rest * across + n * across ≡ lines * across
lines_split n rest lines across e = let h : (rest + n) * across ≡ lines * across = ap (λ k. k * across) e in grind arith

-- fewer rows of the same width
pub rows_left : (g h : Grid) (n : ℕ) → IsGrid g → n ≤ g.rows → h.columns ≡ g.columns → h.rows ≡ g.rows - n → length h.contents + n * g.columns ≡ length g.contents
    → bytes_held h.contents ≤ bytes_held g.contents → IsGrid h
rows_left g h n is l columns rows len held =
    let split : (g.rows - n) * g.columns + n * g.columns ≡ g.rows * g.columns = lines_split n (g.rows - n) g.rows g.columns (omega arith) in
    let shape : length h.contents ≡ (g.rows - n) * g.columns = omega (arith, is.shape) in
    record {
      shape = shape ∙ (λ i. sym rows i * sym columns i);
      columns_within = omega (arith, is.columns_within);
      rows_within = omega (arith, is.rows_within);
      cells_within = omega (arith, is.cells_within);
      bytes_within = omega (arith, is.bytes_within, held);
    }

-- as many rows that are narrower
pub columns_left : (g h : Grid) (n : ℕ) → IsGrid g → n ≤ g.columns → h.columns ≡ g.columns - n → h.rows ≡ g.rows → length h.contents + g.rows * n ≡ length g.contents
    → bytes_held h.contents ≤ bytes_held g.contents → IsGrid h
columns_left g h n is l columns rows len held =
    let split : (g.columns - n) * g.rows + n * g.rows ≡ g.columns * g.rows = lines_split n (g.columns - n) g.columns g.rows (omega arith) in
    let shape : length h.contents ≡ g.rows * (g.columns - n) = grind (arith, is.shape) in
    record {
      shape = shape ∙ (λ i. sym rows i * sym columns i);
      columns_within = omega (arith, is.columns_within);
      rows_within = omega (arith, is.rows_within);
      cells_within = omega (arith, is.cells_within);
      bytes_within = omega (arith, is.bytes_within, held);
    }

-- more rows of the same width
pub rows_more : (g h : Grid) (n : ℕ) → IsGrid g → g.rows + n ≤ 4096 → (g.rows + n) * g.columns ≤ 4096 → h.columns ≡ g.columns → h.rows ≡ g.rows + n
    → length h.contents ≡ length g.contents + n * g.columns → bytes_held h.contents ≤ bytes_held g.contents → IsGrid h
rows_more g h n is many all columns rows len held =
    let split : g.rows * g.columns + n * g.columns ≡ (g.rows + n) * g.columns = lines_split n g.rows (g.rows + n) g.columns refl in
    let shape : length h.contents ≡ (g.rows + n) * g.columns = omega (arith, is.shape) in
    record {
      shape = shape ∙ (λ i. sym rows i * sym columns i);
      columns_within = omega (arith, is.columns_within);
      rows_within = omega arith;
      cells_within = omega arith;
      bytes_within = omega (arith, is.bytes_within, held);
    }

-- as many rows that are wider
pub columns_more : (g h : Grid) (n : ℕ) → IsGrid g → g.columns + n ≤ 4096 → (g.columns + n) * g.rows ≤ 4096 → h.columns ≡ g.columns + n → h.rows ≡ g.rows
    → length h.contents ≡ length g.contents + g.rows * n → bytes_held h.contents ≤ bytes_held g.contents → IsGrid h
columns_more g h n is many all columns rows len held =
    let split : g.columns * g.rows + n * g.rows ≡ (g.columns + n) * g.rows = lines_split n g.columns (g.columns + n) g.rows refl in
    let shape : length h.contents ≡ g.rows * (g.columns + n) = grind (arith, is.shape) in
    record {
      shape = shape ∙ (λ i. sym rows i * sym columns i);
      columns_within = omega arith;
      rows_within = omega (arith, is.rows_within);
      cells_within = grind arith;
      bytes_within = omega (arith, is.bytes_within, held);
    }

-- what a list is once all its cells were passed, some more among them
pub rows_added_is : (g s : Grid) (run : Run) (a n : Grid → ℕ) (now old : List Content) (width : ℕ) → g ≡ s → run ≡ record { at = a g; count = n g } → width ≡ length old → old ≡ g.contents
    → now ≡ passed width (opened (run.at * g.columns) (run.count * g.columns)) old → record { columns = g.columns; rows = g.rows + run.count; contents = now } ≡ rows_added (a s) (n s) s
rows_added_is g s run a n now old width view run_is whole old_is now_is =
    let change = opened (run.at * g.columns) (run.count * g.columns) in
    let is : now ≡ change g.contents = now_is ∙ passes_whole change old width whole ∙ ap change old_is in
    (λ i. record { columns = g.columns; rows = g.rows + run.count; contents = is i }) ∙ (λ i. rows_added (run_is i).at (run_is i).count g) ∙ (λ i. rows_added (a (view i)) (n (view i)) (view i))

-- and some fewer
pub rows_deleted_is : (g s : Grid) (run : Run) (a n : Grid → ℕ) (now : List Content) (width : ℕ) → g ≡ s → run ≡ record { at = a g; count = n g } → width ≡ length g.contents
    → now ≡ passed width (closed (run.at * g.columns) (run.count * g.columns)) g.contents → record { columns = g.columns; rows = g.rows - run.count; contents = now } ≡ rows_deleted (a s) (n s) s
rows_deleted_is g s run a n now width view run_is whole now_is =
    let change = closed (run.at * g.columns) (run.count * g.columns) in
    let is : now ≡ change g.contents = now_is ∙ passes_whole change g.contents width whole in
    (λ i. record { columns = g.columns; rows = g.rows - run.count; contents = is i }) ∙ (λ i. rows_deleted (run_is i).at (run_is i).count g) ∙ (λ i. rows_deleted (a (view i)) (n (view i)) (view i))

-- ---- other data in a cell

-- a call that is not refused leaves no more bytes than there may be
within_of_refusals : (g : Grid) (c : Cell) (gone n : ℕ) → first_refusal (data_refusals g c gone n) ≡ None → bytes_held g.contents - gone + n ≤ 32000
unfolding data_refusals
within_of_refusals g c gone n e = by_cell (is_cell g c) e
  where
    by_long : (long : Bool) → is_too_long g gone n ≡ long → first_refusal ((long, TooLong) ∷ []) ≡ None → bytes_held g.contents - gone + n ≤ 32000
    by_long true is e = absurd (cc e)
    by_long false is e = grind (arith, nat_tests, is)

    by_cell : (is : Bool) → first_refusal ((not is, NoSuchCell) ∷ (is_too_long g gone n, TooLong) ∷ []) ≡ None → bytes_held g.contents - gone + n ≤ 32000
    by_cell true e = by_long (is_too_long g gone n) refl e
    by_cell false e = absurd (cc e)

-- one cell with other bytes
with_cell : (g : Grid) (place : ℕ) (c : Content) → IsGrid g → place < length g.contents
    → bytes_held (slice_set g.contents place c) ≤ 32000 → IsGrid (record g { contents = slice_set g.contents place c })
with_cell g place c is low held = record {
  shape = length-set g.contents place c ∙ is.shape;
  columns_within = is.columns_within;
  rows_within = is.rows_within;
  cells_within = omega (arith, is.cells_within, length-set g.contents place c);
  bytes_within = held;
}

-- a cell whose data loses so many bytes and gains as many as it may
cell_changed : (g : Grid) (c : Cell) (place gone n : ℕ) (now : Content) → IsGrid g → first_refusal (data_refusals g c gone n) ≡ None → place < g.rows * g.columns
    → gone ≤ length (content_at g.contents place).bytes → length now.bytes + gone ≡ length (content_at g.contents place).bytes + n
    → IsGrid (record g { contents = slice_set g.contents place now })
cell_changed g c place gone n now is allowed within less more =
    let low : place < length g.contents = omega (arith, is.shape) in
    with_cell g place now is low (omega (arith, set_held g.contents place now low, cell_held g.contents place low, within_of_refusals g c gone n allowed))

-- a cell with other data, as it was seen before
pub data_set : (g s : Grid) (c : Cell) (place n : ℕ) (now : Content) → IsGrid g → g ≡ s → first_refusal (data_refusals s c (length (content_of s c).bytes) n) ≡ None
    → place ≡ place_of s c → place < s.rows * s.columns → length now.bytes ≡ n → IsGrid (record g { contents = slice_set g.contents place now })
data_set g s c place n now is view allowed at within many =
    let its : length (content_at s.contents place).bytes ≡ length (content_of s c).bytes = ap (λ k. length (content_at s.contents k).bytes) at in
    subst (λ (x : Grid). IsGrid (record x { contents = slice_set x.contents place now })) (sym view)
    (cell_changed s c place (length (content_of s c).bytes) n now (subst IsGrid view is) allowed within (omega (arith, its)) (omega (arith, its, many)))

-- a cell with data behind its own
pub data_added : (g s : Grid) (c : Cell) (place n : ℕ) (old now : Content) → IsGrid g → g ≡ s → first_refusal (data_refusals s c 0 n) ≡ None
    → place < s.rows * s.columns → old ≡ get_or g.contents place old → length now.bytes ≡ length old.bytes + n → IsGrid (record g { contents = slice_set g.contents place now })
data_added g s c place n old now is view allowed within read many =
    let low : place < g.rows * g.columns = subst (λ (x : Grid). place < x.rows * x.columns) (sym view) within in
    let its : old ≡ content_at g.contents place = read ∙ get_or_default g.contents place old empty_content (omega (arith, is.shape, low)) in
    let long : length old.bytes ≡ length (content_at g.contents place).bytes = ap (λ (x : Content). length x.bytes) its in
    cell_changed g c place 0 n now is (subst (λ (x : Grid). first_refusal (data_refusals x c 0 n) ≡ None) (sym view) allowed) low (omega arith) (omega (arith, long, many))
