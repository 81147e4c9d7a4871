-- Where a menu lies that is pulled down, and how large it then is.
use Rattle.std.specs.Prelude.{ℤ, pos, ◌-ℤ◌, List, [], ◌∷◌}
use Rattle.std.specs.Int.{int_min, int_max}
use Rattle.tb_geom.specs.declared.point.Point.{Point}
use Rattle.menu_record.specs.declared.item.MenuItem.{MenuItem}
use Rattle.menu_record.specs.declared.menu.Menu.{Menu}
use Rattle.def_iface.specs.declared.size.Size.{Size}

-- the corner of a menu on a screen of this width, below the title whose box begins at this column: a menu that would pass
-- the right edge lies further left, and none lies before column 0
abbrev pub pulled_place : ℤ → ℤ → Size → Point
pulled_place width left size = record { h = int_max (pos 0) (int_min left (width -ℤ size.width)); v = pos 20 }

-- the size of a menu with these items, whose definition says this one: without an item it has none
abbrev pub size_with : List MenuItem → Size → Size
size_with [] size = record { width = pos 0; height = pos 0 }
size_with (item ∷ items) size = size

-- the size of the menu, where it is pulled down
abbrev pub shown_size : Menu → Size → Size
shown_size menu size = size_with menu.items size
