-- A list of which the definition is seen as something else.
use Rattle.std.specs.Prelude.{List}
use Rattle.window_items.specs.declared.item.Item.{Item}
use Rattle.window_items.specs.Seen as items
use Rattle.list_mgr.specs.declared.list_record.ListRecord.{ListRecord}

-- `meaning` says what a definition is seen as
module _ {B D : Type 0} (meaning : B → D) where
  -- what is kept of the list
  abbrev pub kept_seen : ListRecord B → ListRecord D
  kept_seen k = record {
    view = k.view;
    cells = k.cells;
    flags = k.flags;
    drawing = k.drawing;
    vertical = k.vertical;
    horizontal = k.horizontal;
    definition = meaning k.definition;
  }

  abbrev pub seen : Item (ListRecord B) → Item (ListRecord D)
  seen l = items.seen kept_seen l

  abbrev pub all_seen : List (Item (ListRecord B)) → List (Item (ListRecord D))
  all_seen ls = items.all_seen kept_seen ls
