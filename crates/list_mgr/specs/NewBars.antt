-- The scroll bars of a new list, as the code makes them.
use Rattle.std.specs.Prelude.{◌≡◌, ℕ, true, [], nat_abs}
use Rattle.control_values.specs.Settings.{settled}
use Rattle.def_iface.specs.ControlMeaning.{is_control_size}
use Rattle.list_cells.specs.Grids.{Grid, empty_grid}
use Rattle.list_view.specs.Bars as bars
use Rattle.list_view.specs.Views.{View}
use Rattle.desk_call.specs.declared.control.NewControl.{NewControl}
use Rattle.desk_call.specs.declared.list.NewList.{NewList}
use Rattle.control_mgr.specs.declared.making.Ticket.{Ticket}
use Rattle.control_mgr.specs.ControlRefusals.{is_setting}
use Rattle.list_mgr.specs.declared.new_bars.Bar.{Bar}
use Rattle.list_mgr.specs.ListRefusals.{corner_of, scroll_kind, size_of, view_of}

-- the bars of a list with these cells in this view
abbrev pub vertical_in : View → Grid → Bar
vertical_in v g = record { rect = bars.vertical_bar v; values = bars.vertical_setting g.rows v }

abbrev pub horizontal_in : View → Grid → Bar
horizontal_in v g = record { rect = bars.horizontal_bar v; values = bars.horizontal_setting g.columns v }

-- those of a new list
abbrev pub vertical_of : NewList → Bar
vertical_of n = vertical_in (view_of n) (empty_grid (nat_abs n.columns) (nat_abs n.rows))

abbrev pub horizontal_of : NewList → Bar
horizontal_of n = horizontal_in (view_of n) (empty_grid (nat_abs n.columns) (nat_abs n.rows))

-- a bar as a control of a window that is to be made, and what that is given
abbrev pub bar_control : ℕ → Bar → NewControl
bar_control window b = record {
  window = window;
  kind = scroll_kind;
  place = corner_of b.rect;
  size = size_of b.rect;
  shown = true;
  minimum = b.values.minimum;
  maximum = b.values.maximum;
  value = b.values.value;
  title = [];
}

abbrev pub bar_ticket : (window serial layer : ℕ) → Bar → Ticket
bar_ticket window serial layer b = record { window = window; serial = serial; values = b.values; title = []; layer = layer }

-- a bar has a size and a setting that a control may have
pub record IsGoodBar (b : Bar) : Type 0 where
  pub sized : is_control_size (size_of b.rect) ≡ true
  pub setting : is_setting b.values.minimum b.values.maximum b.values.value ≡ true
  pub kept : b.values ≡ settled b.values.minimum b.values.maximum b.values.value
