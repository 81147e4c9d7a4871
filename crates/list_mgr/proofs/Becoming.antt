-- Cells that a list may have in place of others, with which it is settled still.
use Rattle.std.proofs.Common.{◌≡◌, ◌≤◌, ℕ, true, not, arith}
use Rattle.std.specs.Prelude.{◌≤ℤ◌, pos}
use Rattle.std.proofs.lemmas.Int.{clamps, ints}
use Rattle.def_iface.specs.declared.window_def.Stage.TheVariants.{Live}
use Rattle.def_iface.specs.ListMeaning.{ListGoesBy}
use Rattle.list_cells.specs.declared.click.SelectionFlags.{SelectionFlags}
use Rattle.list_cells.specs.Contents.{bytes_held}
use Rattle.list_cells.specs.Grids.{Grid, IsGrid}
use Rattle.list_view.specs.declared.axis.Axis.{Axis}
use Rattle.list_view.specs.Axes.{bound}
use Rattle.list_view.specs.Views.{IsView}
use Rattle.list_mgr.specs.ListDesks.{KeptList}
use Rattle.list_mgr.specs.ListSteps.{with_grid}
use Rattle.list_mgr.specs.WholeLists.{IsSettledList, cell_size, count_selected}

-- cells that a list with these flags may have: with lOnlyOne no two are selected where no two were
pub record MayBecome (flags : SelectionFlags) (old new : Grid) : Type 0 where
  pub grid : IsGrid new
  pub single : flags.only_one ≡ true → count_selected old ≤ 1 → count_selected new ≤ 1

-- and there are no fewer lines
pub record MayBecomeWider (flags : SelectionFlags) (old new : Grid) : Type 0 where
  pub cells : MayBecome flags old new
  pub columns : old.columns ≤ new.columns
  pub rows : old.rows ≤ new.rows

-- what holds of a settled list, however far its view is scrolled
pub record IsSettledBut (l : KeptList) : Type 0 where
  pub live : l.kept.definition.definition.stage ≡ Live
  pub told : l.kept.definition.definition.size ≡ cell_size l.kept.view
  pub goes_by : ListGoesBy (cell_size l.kept.view) (not l.kept.flags.no_nil_hilite) l.kept.definition.definition
  pub view : IsView l.kept.view
  pub grid : IsGrid l.kept.cells
  pub short : bytes_held l.kept.cells.contents ≤ 32000
  pub single : l.kept.flags.only_one ≡ true → count_selected l.kept.cells ≤ 1

pub settled_but : (x : KeptList) → IsSettledList x → IsSettledBut x
settled_but x its = record { live = its.live; told = its.told; goes_by = its.goes_by; view = its.view; grid = its.grid; short = its.short; single = its.single }

-- a list that was given other cells
pub grid_settles : (g : Grid → Grid) (x : KeptList) → IsSettledList x → MayBecome x.kept.flags x.kept.cells (g x.kept.cells) → IsSettledBut (with_grid g x)
grid_settles g x its may = record {
  live = its.live;
  told = its.told;
  goes_by = its.goes_by;
  view = its.view;
  grid = may.grid;
  short = may.grid.bytes_within;
  single = λ only. may.single only (its.single only);
}

-- more lines can be scrolled as far
bound_more : (a : Axis) (k n : ℕ) → k ≤ n → bound a k ≤ℤ bound a n
bound_more a k n le = omega (arith, ints, clamps, le)

pub bound_least : (a : Axis) (k : ℕ) → pos 0 ≤ℤ bound a k
bound_least a k = omega (arith, ints, clamps)

-- a list that was given other cells, and no fewer lines
pub grid_stays : (g : Grid → Grid) (x : KeptList) → IsSettledList x → MayBecomeWider x.kept.flags x.kept.cells (g x.kept.cells) → IsSettledList (with_grid g x)
grid_stays g x its may =
    let across = its.scrolled.across in
    let down = its.scrolled.down in
    let columns = bound_more x.kept.view.across x.kept.cells.columns (g x.kept.cells).columns may.columns in
    let rows = bound_more x.kept.view.down x.kept.cells.rows (g x.kept.cells).rows may.rows in
    record {
      live = its.live;
      told = its.told;
      goes_by = its.goes_by;
      view = its.view;
      grid = may.cells.grid;
      short = may.cells.grid.bytes_within;
      scrolled = record { across = omega (arith, ints, across, columns); down = omega (arith, ints, down, rows) };
      single = λ only. may.cells.single only (its.single only);
    }
