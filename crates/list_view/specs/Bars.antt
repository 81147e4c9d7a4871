-- The scroll bars of a view, each 16 pixels across its length.
use Rattle.std.specs.Prelude.{ℕ, pos, ◌+ℤ◌}
use Rattle.tb_geom.specs.declared.rect.Rect.{Rect}
use Rattle.control_values.specs.Settings.{Setting, settled}
use Rattle.list_view.specs.Axes.{end_of, bound}
use Rattle.list_view.specs.Views.{View}

-- at the view's right side, as high as the view
abbrev pub vertical_bar : View → Rect
vertical_bar v = record { left = end_of v.across; top = v.down.start; right = end_of v.across +ℤ pos 16; bottom = end_of v.down }

-- below the view, as wide as the view
abbrev pub horizontal_bar : View → Rect
horizontal_bar v = record { left = v.across.start; top = end_of v.down; right = end_of v.across; bottom = end_of v.down +ℤ pos 16 }

-- how far the view of so many rows can be scrolled down, and how far it is
abbrev pub vertical_setting : ℕ → View → Setting
vertical_setting rows v = settled (pos 0) (bound v.down rows) v.first.row

-- how far the view of so many columns can be scrolled to the right, and how far it is
abbrev pub horizontal_setting : ℕ → View → Setting
horizontal_setting columns v = settled (pos 0) (bound v.across columns) v.first.column
