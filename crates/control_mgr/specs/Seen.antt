-- A control of which the definition is seen as something else.
use Rattle.std.specs.Prelude.{List}
use Rattle.window_items.specs.declared.item.Item.{Item}
use Rattle.window_items.specs.Seen as items
use Rattle.control_mgr.specs.declared.control.Control.{Control}

-- `meaning` says what a definition is seen as
module _ {B D : Type 0} (meaning : B → D) where
  -- what is kept of the control
  abbrev pub kept_seen : Control B → Control D
  kept_seen k = record {
    place = k.place;
    size = k.size;
    shown = k.shown;
    values = k.values;
    highlight = k.highlight;
    title = k.title;
    definition = meaning k.definition;
  }

  abbrev pub seen : Item (Control B) → Item (Control D)
  seen c = items.seen kept_seen c

  abbrev pub all_seen : List (Item (Control B)) → List (Item (Control D))
  all_seen cs = items.all_seen kept_seen cs
