-- Lists with rows and columns more or fewer, and scrolled lists: they are settled, and the former are others.
use Rattle.std.proofs.Common.{◌≡◌, ℕ, zero, suc, ◌+◌, ◌*◌, ◌-◌, ◌<◌, ◌≤◌, ◌&&◌, true, not, List, [], ◌∷◌, length, take, drop, ℤ, pos, negsuc, None, refl, ap, ◌∙◌, arith, length-append}
use Rattle.std.specs.Prelude.{int_le, int_lt, nat_abs, nat_le}
use Rattle.std.proofs.lemmas.Bool.{and_parts, not-false}
use Rattle.std.proofs.lemmas.Grind.{common_steps}
use Rattle.std.proofs.lemmas.Int.{ints, clamps}
use Rattle.tb_geom.specs.declared.refusal.Refusal.TheVariants.{NoSuchCell, OutOfRange, TooMany}
use Rattle.tb_geom.specs.Refusals.{first_refusal}
use Rattle.list_cells.specs.declared.click.SelectionFlags.{SelectionFlags}
use Rattle.list_cells.specs.Contents.{Content, closed, in_rows, opened}
use Rattle.list_cells.specs.Grids.{Grid, IsGrid, columns_added, columns_deleted, rows_added, rows_deleted}
use Rattle.list_cells.specs.Runs.{add_refusals, count_to_delete, delete_refusals, fits, is_count, place_to_add}
use Rattle.list_cells.proofs.ByteLemmas.{columns_added_held, columns_deleted_held, rows_added_held, rows_deleted_held}
use Rattle.list_cells.proofs.GridLemmas.{columns_left, columns_more, lines_within, rows_left, rows_more}
use Rattle.list_view.specs.declared.axis.Axis.{Axis}
use Rattle.list_view.specs.Axes.{IsLine, scrolled_line}
use Rattle.list_view.proofs.LineLemmas.{scrolled_least, scrolled_most}
use Rattle.desk_call.specs.declared.list.ListLines.{ListLines}
use Rattle.control_mgr.proofs.Steps.{none_hold}
use Rattle.list_mgr.specs.declared.line_edit.LineAxis.{LineAxis}
use Rattle.list_mgr.specs.declared.line_edit.LineAxis.TheVariants.{Columns, Rows}
use Rattle.list_mgr.specs.declared.line_edit.LineChange.{LineChange}
use Rattle.list_mgr.specs.declared.line_edit.LineChange.TheVariants.{Add, Delete}
use Rattle.list_mgr.specs.LineEdits.{changed_by, refusals_of}
use Rattle.list_mgr.specs.ListDesks.{KeptList}
use Rattle.list_mgr.specs.ListSteps.{with_columns_fewer, with_columns_more, with_grid, with_rows_fewer, with_rows_more, with_scroll}
use Rattle.list_mgr.specs.WholeLists.{IsSettledList}
use Rattle.list_mgr.proofs.Cells.{number_in}
use Rattle.list_mgr.proofs.SelectedCells.{columns_added_selected, columns_deleted_selected, rows_added_selected, rows_deleted_selected}
use Rattle.list_mgr.proofs.Becoming.{IsSettledBut, MayBecome, MayBecomeWider, grid_settles, grid_stays}

-- ---- what is known of lines that may be added or deleted

count_least : (n : ℤ) → is_count n ≡ true → 1 ≤ nat_abs n
count_least (pos m) e = grind (arith, ints, e)
count_least (negsuc m) e = absurd (grind (arith, ints, e))

few : (lines across : ℕ) → fits lines across ≡ true → (lines ≤ 4096) × (lines * across ≤ 4096)
few lines across e =
    let both = and_parts (nat_le lines 4096) (nat_le (lines * across) 4096) e in
    (grind (arith, both.0), grind (arith, both.1))

pub record MayAdd (lines across : ℕ) (n : ℤ) : Type 0 where
  pub some : 1 ≤ nat_abs n
  pub lines_within : lines + nat_abs n ≤ 4096
  pub cells_within : (lines + nat_abs n) * across ≤ 4096

pub may_add : (lines across : ℕ) (n before : ℤ) → first_refusal (add_refusals lines across n before) ≡ None → MayAdd lines across n
unfolding add_refusals
may_add lines across n before none =
    let place = none_hold (int_lt before (pos 0)) NoSuchCell ((not (is_count n), OutOfRange) ∷ (not (fits (lines + nat_abs n) across), TooMany) ∷ []) none in
    let count = none_hold (not (is_count n)) OutOfRange ((not (fits (lines + nat_abs n) across), TooMany) ∷ []) place.1 in
    let room = none_hold (not (fits (lines + nat_abs n) across)) TooMany [] count.1 in
    let within = few (lines + nat_abs n) across (not-false (fits (lines + nat_abs n) across) room.0) in
    record { some = count_least n (not-false (is_count n) count.0); lines_within = within.0; cells_within = within.1 }

pub record MayDelete (lines : ℕ) (n first : ℤ) : Type 0 where
  pub some : 1 ≤ count_to_delete lines n first
  pub within : nat_abs first + count_to_delete lines n first ≤ lines

pub may_delete : (lines : ℕ) (n first : ℤ) → first_refusal (delete_refusals lines n first) ≡ None → MayDelete lines n first
unfolding delete_refusals
may_delete lines n first none =
    let place = none_hold (not (int_le (pos 0) first && int_lt first (pos lines))) NoSuchCell ((not (is_count n), OutOfRange) ∷ []) none in
    let count = none_hold (not (is_count n)) OutOfRange [] place.1 in
    let low : nat_abs first < lines = number_in first lines (not-false (int_le (pos 0) first && int_lt first (pos lines)) place.0) in
    let more : 1 ≤ nat_abs n = count_least n (not-false (is_count n) count.0) in
    record { some = omega arith; within = omega arith }

-- ---- how many cells there are then

opened_length : (at n : ℕ) (cells : List Content) → length (opened at n cells) ≡ length cells + n
unfolding opened
opened_length at n cells = grind (arith, common_steps)

closed_length : (at n : ℕ) (cells : List Content) → at + n ≤ length cells → length (closed at n cells) + n ≡ length cells
unfolding closed
closed_length at n cells low = grind (arith, common_steps)

in_rows_length : (width k : ℕ) (change : List Content → List Content) → ((cells : List Content) → length cells ≡ width → length (change cells) ≡ k)
    → (rows : ℕ) (cells : List Content) → length cells ≡ rows * width → length (in_rows width change rows cells) ≡ rows * k
unfolding in_rows
in_rows_length width k change each zero cells len = grind arith
in_rows_length width k change each (suc rows) cells len =
    let first : length (take width cells) ≡ width = grind (arith, common_steps) in
    let rest : length (drop width cells) ≡ rows * width = grind (arith, common_steps) in
    let further : length (in_rows width change rows (drop width cells)) ≡ rows * k = in_rows_length width k change each rows (drop width cells) rest in
    grind (arith, length-append (change (take width cells)) (in_rows width change rows (drop width cells)), each (take width cells) first, further)

-- ---- what holds between calls

rows_added_grid : {flags : SelectionFlags} (g : Grid) (at : ℕ) (n : ℤ) → IsGrid g → MayAdd g.rows g.columns n → MayBecomeWider flags g (rows_added at (nat_abs n) g)
rows_added_grid g at n is may = record {
  cells = record {
    grid = rows_more g (rows_added at (nat_abs n) g) (nat_abs n) is may.lines_within may.cells_within refl refl
        (opened_length (at * g.columns) (nat_abs n * g.columns) g.contents) (rows_added_held g at (nat_abs n));
    single = λ only few. let less = rows_added_selected g at (nat_abs n) in omega (arith, less, few);
  };
  columns = omega arith;
  rows = omega arith;
}

columns_added_grid : {flags : SelectionFlags} (g : Grid) (at : ℕ) (n : ℤ) → IsGrid g → MayAdd g.columns g.rows n → MayBecomeWider flags g (columns_added at (nat_abs n) g)
columns_added_grid g at n is may =
    let len = in_rows_length g.columns (g.columns + nat_abs n) (opened at (nat_abs n)) (λ cells e. opened_length at (nat_abs n) cells ∙ ap (λ k. k + nat_abs n) e) g.rows g.contents is.shape in
    record {
      cells = record {
        grid = columns_more g (columns_added at (nat_abs n) g) (nat_abs n) is may.lines_within may.cells_within refl refl (grind (arith, len, is.shape)) (columns_added_held g at (nat_abs n));
        single = λ only few. let less = columns_added_selected g at (nat_abs n) in omega (arith, less, few);
      };
      columns = omega arith;
      rows = omega arith;
    }

rows_deleted_grid : {flags : SelectionFlags} (g : Grid) (n first : ℤ) → IsGrid g → MayDelete g.rows n first → MayBecome flags g (rows_deleted (nat_abs first) (count_to_delete g.rows n first) g)
rows_deleted_grid g n first is may =
    let at = nat_abs first in
    let k = count_to_delete g.rows n first in
    let within = lines_within at k g.rows g.columns may.within in
    record {
      grid = rows_left g (rows_deleted at k g) k is (omega (arith, may.within)) refl refl (closed_length (at * g.columns) (k * g.columns) g.contents (omega (arith, within, is.shape))) (rows_deleted_held g at k);
      single = λ only few. let less = rows_deleted_selected g at k in omega (arith, less, few);
    }

parted : (rows a b both : ℕ) → a + b ≡ both → rows * a + rows * b ≡ rows * both
parted rows a b both e = let h : (a + b) * rows ≡ both * rows = ap (λ k. k * rows) e in grind arith

columns_deleted_grid : {flags : SelectionFlags} (g : Grid) (n first : ℤ) → IsGrid g → MayDelete g.columns n first
    → MayBecome flags g (columns_deleted (nat_abs first) (count_to_delete g.columns n first) g)
columns_deleted_grid g n first is may =
    let at = nat_abs first in
    let k = count_to_delete g.columns n first in
    let narrow : (cells : List Content) → length cells ≡ g.columns → length (closed at k cells) ≡ g.columns - k =
    λ cells e. omega (arith, closed_length at k cells (omega (arith, may.within, e)), e) in
    let len = in_rows_length g.columns (g.columns - k) (closed at k) narrow g.rows g.contents is.shape in
    let split = parted g.rows (g.columns - k) k g.columns (omega (arith, may.within)) in
    record {
      grid = columns_left g (columns_deleted at k g) k is (omega (arith, may.within)) refl refl (omega (arith, len, is.shape, split)) (columns_deleted_held g at k);
      single = λ only few. let less = columns_deleted_selected g at k in omega (arith, less, few);
    }

-- ---- that the cells are others

rows_added_other : (g : Grid) (at : ℕ) (n : ℤ) → MayAdd g.rows g.columns n → rows_added at (nat_abs n) g ≡ g → ⊥
rows_added_other g at n may same = let rows : g.rows + nat_abs n ≡ g.rows = ap (λ (h : Grid). h.rows) same in omega (arith, rows, may.some)

columns_added_other : (g : Grid) (at : ℕ) (n : ℤ) → MayAdd g.columns g.rows n → columns_added at (nat_abs n) g ≡ g → ⊥
columns_added_other g at n may same = let columns : g.columns + nat_abs n ≡ g.columns = ap (λ (h : Grid). h.columns) same in omega (arith, columns, may.some)

rows_deleted_other : (g : Grid) (n first : ℤ) → MayDelete g.rows n first → rows_deleted (nat_abs first) (count_to_delete g.rows n first) g ≡ g → ⊥
rows_deleted_other g n first may same =
    let rows : g.rows - count_to_delete g.rows n first ≡ g.rows = ap (λ (h : Grid). h.rows) same in omega (arith, rows, may.some, may.within)

columns_deleted_other : (g : Grid) (n first : ℤ) → MayDelete g.columns n first → columns_deleted (nat_abs first) (count_to_delete g.columns n first) g ≡ g → ⊥
columns_deleted_other g n first may same =
    let columns : g.columns - count_to_delete g.columns n first ≡ g.columns = ap (λ (h : Grid). h.columns) same in omega (arith, columns, may.some, may.within)

-- ---- what an edit makes of cells

pub edit_wider : {flags : SelectionFlags} (axis : LineAxis) (n : ListLines) (g : Grid) → IsGrid g → first_refusal (refusals_of Add axis n g) ≡ None → MayBecomeWider flags g (changed_by Add axis n g)
edit_wider Rows n g is none = rows_added_grid g (place_to_add g.rows n.at) n.count is (may_add g.rows g.columns n.count n.at none)
edit_wider Columns n g is none = columns_added_grid g (place_to_add g.columns n.at) n.count is (may_add g.columns g.rows n.count n.at none)

pub edit_fewer : {flags : SelectionFlags} (axis : LineAxis) (n : ListLines) (g : Grid) → IsGrid g → first_refusal (refusals_of Delete axis n g) ≡ None → MayBecome flags g (changed_by Delete axis n g)
edit_fewer Rows n g is none = rows_deleted_grid g n.count n.at is (may_delete g.rows n.count n.at none)
edit_fewer Columns n g is none = columns_deleted_grid g n.count n.at is (may_delete g.columns n.count n.at none)

pub edit_other : (change : LineChange) (axis : LineAxis) (n : ListLines) (g : Grid) → first_refusal (refusals_of change axis n g) ≡ None → changed_by change axis n g ≡ g → ⊥
edit_other Add Rows n g none = rows_added_other g (place_to_add g.rows n.at) n.count (may_add g.rows g.columns n.count n.at none)
edit_other Add Columns n g none = columns_added_other g (place_to_add g.columns n.at) n.count (may_add g.columns g.rows n.count n.at none)
edit_other Delete Rows n g none = rows_deleted_other g n.count n.at (may_delete g.rows n.count n.at none)
edit_other Delete Columns n g none = columns_deleted_other g n.count n.at (may_delete g.columns n.count n.at none)

-- ---- scrolled

line_scrolled : (a : Axis) (count : ℕ) (first lines : ℤ) → count ≤ 4096 → IsLine (scrolled_line a count first lines)
line_scrolled a count first lines few = record {
  least = scrolled_least a count first lines;
  most = let m = scrolled_most a count first lines in omega (arith, ints, clamps);
}

-- a list that was scrolled is settled, however far it was before
pub scroll_settles : (columns rows : ℤ) (x : KeptList) → IsSettledBut x → IsSettledList (with_scroll columns rows x)
scroll_settles columns rows x its = record {
  live = its.live;
  told = its.told;
  goes_by = its.goes_by;
  view = record {
    across = its.view.across;
    down = its.view.down;
    first = record {
      column = line_scrolled x.kept.view.across x.kept.cells.columns x.kept.view.first.column columns its.grid.columns_within;
      row = line_scrolled x.kept.view.down x.kept.cells.rows x.kept.view.first.row rows its.grid.rows_within;
    };
  };
  grid = its.grid;
  short = its.short;
  scrolled = record {
    across = scrolled_most x.kept.view.across x.kept.cells.columns x.kept.view.first.column columns;
    down = scrolled_most x.kept.view.down x.kept.cells.rows x.kept.view.first.row rows;
  };
  single = its.single;
}

-- ---- lists that are changed so

pub rows_more_settles : (n at : ℤ) (x : KeptList) → MayAdd x.kept.cells.rows x.kept.cells.columns n → IsSettledList x → IsSettledList (with_rows_more n at x)
rows_more_settles n at x may its =
    let place = place_to_add x.kept.cells.rows at in
    grid_stays (rows_added place (nat_abs n)) x its (rows_added_grid x.kept.cells place n its.grid may)

pub columns_more_settles : (n at : ℤ) (x : KeptList) → MayAdd x.kept.cells.columns x.kept.cells.rows n → IsSettledList x → IsSettledList (with_columns_more n at x)
columns_more_settles n at x may its =
    let place = place_to_add x.kept.cells.columns at in
    grid_stays (columns_added place (nat_abs n)) x its (columns_added_grid x.kept.cells place n its.grid may)

pub rows_fewer_settles : (n first : ℤ) (x : KeptList) → MayDelete x.kept.cells.rows n first → IsSettledList x → IsSettledList (with_rows_fewer n first x)
rows_fewer_settles n first x may its =
    let g = rows_deleted (nat_abs first) (count_to_delete x.kept.cells.rows n first) in
    scroll_settles (pos 0) (pos 0) (with_grid g x) (grid_settles g x its (rows_deleted_grid x.kept.cells n first its.grid may))

pub columns_fewer_settles : (n first : ℤ) (x : KeptList) → MayDelete x.kept.cells.columns n first → IsSettledList x → IsSettledList (with_columns_fewer n first x)
columns_fewer_settles n first x may its =
    let g = columns_deleted (nat_abs first) (count_to_delete x.kept.cells.columns n first) in
    scroll_settles (pos 0) (pos 0) (with_grid g x) (grid_settles g x its (columns_deleted_grid x.kept.cells n first its.grid may))
