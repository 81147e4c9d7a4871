-- Where nothing refuses a call that gives a cell data, or adds or deletes rows or columns, the list stays settled; where none
-- refuses a new list, its window is there.
use Rattle.std.proofs.Common.{◌≡◌, Bool, false, not, ◌||◌, List, [], ◌∷◌, ◌++◌, None, Some, sym, ap, ◌∙◌}
use Rattle.std.specs.Prelude.{is_none, nat_le}
use Rattle.std.proofs.lemmas.Bool.{not-false}
use Rattle.tb_geom.specs.declared.refusal.Refusal.{Refusal}
use Rattle.tb_geom.specs.declared.refusal.Refusal.TheVariants.{NoDefinition, NoSuchCell, NoSuchList, NoSuchName, NoSuchWindow, OutOfRange, TooMany}
use Rattle.tb_geom.specs.Refusals.{first_refusal}
use Rattle.window_items.specs.Items as controls
use Rattle.list_cells.specs.Grids.{is_cell, with_bytes}
use Rattle.list_cells.specs.Runs.{new_refusals}
use Rattle.window_items.specs.Items.{count_of}
use Rattle.list_view.specs.Bars.{horizontal_bar, vertical_bar}
use Rattle.desk_call.specs.declared.list.ListCall.TheVariants.{AddColumns, AddRows, AddToCell, ClearCell, DeleteColumns, DeleteRows, New, SetCell}
use Rattle.desk_call.specs.declared.list.CellOf.{CellOf}
use Rattle.desk_call.specs.declared.list.CellText.{CellText}
use Rattle.desk_call.specs.declared.list.ListLines.{ListLines}
use Rattle.desk_call.specs.declared.list.ListOf.{ListOf}
use Rattle.desk_call.specs.declared.list.NewList.{NewList}
use Rattle.window_mgr.specs.Finding.{record_with}
use Rattle.window_mgr.specs.FullDesk.{FullDesk}
use Rattle.window_mgr.specs.Refused.{is_missing}
use Rattle.control_mgr.proofs.Steps.{none_hold}
use Rattle.list_mgr.specs.ListDesks.{KeptList, ListDesk, index_of, list_of}
use Rattle.list_mgr.specs.ListRefusals.{bars_wanted, have_room, horizontal_offer, is_sum_of_flags, judged_refusals, lacks_definition, lacks_kind, list_reasons, list_refusals, may_bar_be_in, may_view_be_in, most_lists, of_list, vertical_offer, view_of}
use Rattle.list_mgr.specs.ListSteps.{appended, with_columns_fewer, with_columns_more, with_grid, with_rows_fewer, with_rows_more}
use Rattle.list_mgr.proofs.Cells.{added_grid, cleared_grid, set_grid}
use Rattle.list_mgr.proofs.Becoming.{grid_stays}
use Rattle.list_mgr.proofs.LinesChanged.{columns_fewer_settles, columns_more_settles, may_add, may_delete, rows_fewer_settles, rows_more_settles}
use Rattle.list_mgr.proofs.ListsFollowed.{StaysSettled}

-- where nothing refuses a call about a list that is there, nothing that is told of the list does
pub reasons_of : (l : ListOf) (f : KeptList → List (Bool × Refusal)) (desk : FullDesk) (ls : List KeptList) (x : KeptList) → list_of l ls ≡ Some x → first_refusal (list_reasons l f desk ls) ≡ None → first_refusal (f x) ≡ None
reasons_of l f desk ls x named none =
    let window = none_hold (is_missing l.window desk.windows) NoSuchWindow ((is_none (index_of l ls), NoSuchList) ∷ of_list f (list_of l ls)) none in
    let list = none_hold (is_none (index_of l ls)) NoSuchList (of_list f (list_of l ls)) window.1 in
    ap (λ o. first_refusal (of_list f o)) (sym named) ∙ list.1

module _ (d : ListDesk) where
  -- other data
  pub set_settles : (t : CellText) → first_refusal (list_refusals (SetCell t) d.desk.windows.desk d.controls d.lists) ≡ None → StaysSettled t.cell.list (with_grid (λ g. with_bytes g t.cell.cell t.text)) d
  set_settles t none x named its =
      grid_stays (λ g. with_bytes g t.cell.cell t.text) x its (set_grid x.kept.cells t.cell.cell t.text its.grid (reasons_of t.cell.list _ d.desk.windows.desk d.lists.lists x named none))

  -- data behind what was there
  pub added_settles : (t : CellText) → first_refusal (list_refusals (AddToCell t) d.desk.windows.desk d.controls d.lists) ≡ None → StaysSettled t.cell.list (with_grid (appended t.cell.cell t.text)) d
  added_settles t none x named its =
      grid_stays (appended t.cell.cell t.text) x its (added_grid x.kept.cells t.cell.cell t.text its.grid (reasons_of t.cell.list _ d.desk.windows.desk d.lists.lists x named none))

  -- none
  pub cleared_settles : (c : CellOf) → first_refusal (list_refusals (ClearCell c) d.desk.windows.desk d.controls d.lists) ≡ None → StaysSettled c.list (with_grid (λ g. with_bytes g c.cell [])) d
  cleared_settles c none x named its =
      grid_stays (λ g. with_bytes g c.cell []) x its
      (cleared_grid x.kept.cells c.cell its.grid (not-false (is_cell x.kept.cells c.cell) (none_hold (not (is_cell x.kept.cells c.cell)) NoSuchCell [] (reasons_of c.list _ d.desk.windows.desk d.lists.lists x named none)).0))

  -- rows or columns more
  pub rows_added_settle : (n : ListLines) → first_refusal (list_refusals (AddRows n) d.desk.windows.desk d.controls d.lists) ≡ None → StaysSettled n.list (with_rows_more n.count n.at) d
  rows_added_settle n none x named its =
      rows_more_settles n.count n.at x (may_add x.kept.cells.rows x.kept.cells.columns n.count n.at (reasons_of n.list _ d.desk.windows.desk d.lists.lists x named none)) its

  pub columns_added_settle : (n : ListLines) → first_refusal (list_refusals (AddColumns n) d.desk.windows.desk d.controls d.lists) ≡ None → StaysSettled n.list (with_columns_more n.count n.at) d
  columns_added_settle n none x named its =
      columns_more_settles n.count n.at x (may_add x.kept.cells.columns x.kept.cells.rows n.count n.at (reasons_of n.list _ d.desk.windows.desk d.lists.lists x named none)) its

  -- or fewer
  pub rows_deleted_settle : (n : ListLines) → first_refusal (list_refusals (DeleteRows n) d.desk.windows.desk d.controls d.lists) ≡ None → StaysSettled n.list (with_rows_fewer n.count n.at) d
  rows_deleted_settle n none x named its =
      rows_fewer_settles n.count n.at x (may_delete x.kept.cells.rows n.count n.at (reasons_of n.list _ d.desk.windows.desk d.lists.lists x named none)) its

  pub columns_deleted_settle : (n : ListLines) → first_refusal (list_refusals (DeleteColumns n) d.desk.windows.desk d.controls d.lists) ≡ None → StaysSettled n.list (with_columns_fewer n.count n.at) d
  columns_deleted_settle n none x named its =
      columns_fewer_settles n.count n.at x (may_delete x.kept.cells.columns n.count n.at (reasons_of n.list _ d.desk.windows.desk d.lists.lists x named none)) its

  -- why a list may not be made, where the stocks have such kinds
  abbrev short : NewList → List (Bool × Refusal)
  short n = (lacks_definition n d.lists d.controls, NoDefinition) ∷ []

  abbrev all : NewList → List (Bool × Refusal)
  all n = judged_refusals n (vertical_offer n d.controls.stock) (horizontal_offer n d.controls.stock) d.desk.windows.desk d.controls.controls d.controls.next d.lists.lists d.lists.next ++ short n

  abbrev others : NewList → List (Bool × Refusal)
  others n =
      (not (may_view_be_in n (record_with n.window d.desk.windows.desk.windows)), OutOfRange)
      ∷ (not (may_bar_be_in n.vertical_bar (vertical_offer n d.controls.stock) (vertical_bar (view_of n)) (record_with n.window d.desk.windows.desk.windows)), OutOfRange)
      ∷ (not (may_bar_be_in n.horizontal_bar (horizontal_offer n d.controls.stock) (horizontal_bar (view_of n)) (record_with n.window d.desk.windows.desk.windows)), OutOfRange)
      ∷ (not (is_sum_of_flags n.flags), OutOfRange)
      ∷ ((new_refusals n.columns n.rows
      ++ (nat_le most_lists (count_of n.window d.lists.lists) || is_none d.lists.next, TooMany)
      ∷ (not (have_room (bars_wanted n) (controls.count_of n.window d.controls.controls) d.controls.next), TooMany) ∷ []) ++ short n)

  -- the window of a list that may be made is there
  pub new_there : (n : NewList) → first_refusal (list_refusals (New n) d.desk.windows.desk d.controls d.lists) ≡ None → is_missing n.window d.desk.windows.desk.windows ≡ false
  new_there n none = (none_hold (is_missing n.window d.desk.windows.desk.windows) NoSuchWindow (others n) (none_hold (lacks_kind n d.lists.stock d.controls.stock) NoSuchName (all n) none).1).0
