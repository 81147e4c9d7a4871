-- A list with one field set.
use Rattle.std.specs.Prelude.{Bool}
use Rattle.list_cells.specs.Grids.{Grid}
use Rattle.list_view.specs.Views.{View}
use Rattle.window_items.specs.declared.item.Item.{Item}
use Rattle.window_items.specs.Items.{with_kept}
use Rattle.list_mgr.specs.declared.list_record.ListRecord.{ListRecord}

module _ {D : Type 0} where
  -- the list in another view
  abbrev pub with_view : View → Item (ListRecord D) → Item (ListRecord D)
  with_view view l = with_kept (λ k. record k { view = view }) l

  -- the list with other cells
  abbrev pub with_cells : Grid → Item (ListRecord D) → Item (ListRecord D)
  with_cells cells l = with_kept (λ k. record k { cells = cells }) l

  -- the list, drawn at each change or not
  abbrev pub with_drawing : Bool → Item (ListRecord D) → Item (ListRecord D)
  with_drawing drawing l = with_kept (λ k. record k { drawing = drawing }) l
