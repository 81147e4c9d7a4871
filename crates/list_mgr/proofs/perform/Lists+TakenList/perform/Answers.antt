use Rattle.desk_call.specs.declared.list.ListCall.TheVariants as asks
use Rattle.list_mgr.specs.ListSteps.{IsListStep}
use Rattle.list_mgr.specs.Within.{IsWhereRight}
use Rattle.list_mgr.proofs.Performed.{changed_leaves, changed_right, made_right, told_leaves}
use Rattle.list_mgr.proofs.perform.Lists+TakenList.perform.Goals as goal

pub returns-in-New : goal.returns-in-New
returns-in-New g c = rw c.in-New.is (made_right _ _ _ (IsListStep (asks.New c.in-New.new) c.make.result) _ _ _ _ c.args.windows.now c.make.new.windows c.args.controls.now c.make.new.controls c.args.self.now c.make.new.self c.make.ensures)

pub returns-in-Dispose : goal.returns-in-Dispose
returns-in-Dispose g c = rw c.in-Dispose.is (made_right _ _ _ (IsListStep (asks.Dispose c.in-Dispose.list) c.dispose.result) _ _ _ _ c.args.windows.now c.dispose.new.windows c.args.controls.now c.dispose.new.controls c.args.self.now c.dispose.new.self c.dispose.ensures)

pub returns-in-AddRows : goal.returns-in-AddRows
returns-in-AddRows g c = rw c.in-AddRows.is (rw c.add.ensures at c.change_lines.ensures _ _)

pub returns-in-AddColumns : goal.returns-in-AddColumns
returns-in-AddColumns g c = rw c.in-AddColumns.is (rw c.add-in-AddColumns.ensures at c.change_lines-in-AddColumns.ensures _ _)

pub returns-in-DeleteRows : goal.returns-in-DeleteRows
returns-in-DeleteRows g c = rw c.in-DeleteRows.is (rw c.delete.ensures at c.change_lines-in-DeleteRows.ensures _ _)

pub returns-in-DeleteColumns : goal.returns-in-DeleteColumns
returns-in-DeleteColumns g c = rw c.in-DeleteColumns.is (rw c.delete-in-DeleteColumns.ensures at c.change_lines-in-DeleteColumns.ensures _ _)

pub returns-in-Scroll : goal.returns-in-Scroll
returns-in-Scroll g c = rw c.in-Scroll.is (c.scroll.ensures _ _)

pub returns-in-SetCell : goal.returns-in-SetCell
returns-in-SetCell g c = rw c.in-SetCell.is (changed_leaves _ _ _ (IsWhereRight (IsListStep (asks.SetCell c.in-SetCell.set) c.set_cell.result)) _ _ c.args.windows.now c.set_cell.new.windows c.args.controls.now c.args.self.now c.set_cell.new.self c.set_cell.ensures)

pub returns-in-AddToCell : goal.returns-in-AddToCell
returns-in-AddToCell g c = rw c.in-AddToCell.is (changed_leaves _ _ _ (IsWhereRight (IsListStep (asks.AddToCell c.in-AddToCell.added) c.add_to_cell.result)) _ _ c.args.windows.now c.add_to_cell.new.windows c.args.controls.now c.args.self.now c.add_to_cell.new.self c.add_to_cell.ensures)

pub returns-in-ClearCell : goal.returns-in-ClearCell
returns-in-ClearCell g c = rw c.in-ClearCell.is (changed_leaves _ _ _ (IsWhereRight (IsListStep (asks.ClearCell c.in-ClearCell.cleared) c.clear_cell.result)) _ _ c.args.windows.now c.clear_cell.new.windows c.args.controls.now c.args.self.now c.clear_cell.new.self c.clear_cell.ensures)

pub returns-in-Select : goal.returns-in-Select
returns-in-Select g c = rw c.in-Select.is (changed_right _ _ _ (IsListStep (asks.Select c.in-Select.chosen) c.select.result) _ _ c.args.windows.now c.select.new.windows c.args.controls.now c.args.self.now c.select.new.self c.select.ensures)

pub returns-in-Click : goal.returns-in-Click
returns-in-Click g c = rw c.in-Click.is (changed_right _ _ _ (IsListStep (asks.Click c.in-Click.clicked) c.click.result) _ _ c.args.windows.now c.click.new.windows c.args.controls.now c.args.self.now c.click.new.self c.click.ensures)

pub returns-in-SetDrawing : goal.returns-in-SetDrawing
returns-in-SetDrawing g c = rw c.in-SetDrawing.is (changed_right _ _ _ (IsListStep (asks.SetDrawing c.in-SetDrawing.set) c.set_drawing.result) _ _ c.args.windows.now c.args.windows.now c.args.controls.now c.args.self.now c.set_drawing.new.self c.set_drawing.ensures)

pub returns-in-GetCell : goal.returns-in-GetCell
returns-in-GetCell g c = rw c.in-GetCell.is (told_leaves _ _ _ (IsListStep (asks.GetCell c.in-GetCell.asked) c.data.result) _ _ c.args.windows.now c.args.controls.now c.args.self.now c.data.ensures)

pub returns-in-IsSelected : goal.returns-in-IsSelected
returns-in-IsSelected g c = rw c.in-IsSelected.is (told_leaves _ _ _ (IsListStep (asks.IsSelected c.in-IsSelected.asked) c.is_selected.result) _ _ c.args.windows.now c.args.controls.now c.args.self.now c.is_selected.ensures)

pub returns-in-FirstSelected : goal.returns-in-FirstSelected
returns-in-FirstSelected g c = rw c.in-FirstSelected.is (told_leaves _ _ _ (IsListStep (asks.FirstSelected c.in-FirstSelected.asked) c.first_selected.result) _ _ c.args.windows.now c.args.controls.now c.args.self.now c.first_selected.ensures)

pub returns-in-NextCell : goal.returns-in-NextCell
returns-in-NextCell g c = rw c.in-NextCell.is (told_leaves _ _ _ (IsListStep (asks.NextCell c.in-NextCell.asked) c.next_cell.result) _ _ c.args.windows.now c.args.controls.now c.args.self.now c.next_cell.ensures)

pub returns-in-Search : goal.returns-in-Search
returns-in-Search g c = rw c.in-Search.is (told_leaves _ _ _ (IsListStep (asks.Search c.in-Search.asked) c.search.result) _ _ c.args.windows.now c.args.controls.now c.args.self.now c.search.ensures)
