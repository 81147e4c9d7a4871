-- The standard definition of menus.
use Rattle.std.specs.Prelude.{None}
use Rattle.std.specs.Option.{unwrap_or}
use Rattle.def_iface.specs.declared.window_def.Stage.TheVariants.{Fresh}
use Rattle.tb_geom.specs.Rects.{rect_holds}
use Rattle.def_iface.specs.MenuMeaning.{MenuDefinition}
use Rattle.looks.specs.Damages.{joined}
use Rattle.std_mldef.specs.declared.std_menu.StdMenu.{StdMenu}
use Rattle.std_mldef.specs.Measures.{menu_size}
use Rattle.std_mldef.specs.Rows.{band, menu_bit, chosen}

-- of which item is highlighted it goes by what it is told last, and no more is drawn anew than the rows from the one to the other
abbrev pub std_menu_meaning : StdMenu → MenuDefinition
std_menu_meaning m = record {
  stage = m.stage;
  size = menu_size;
  choose = chosen;
  picture = λ n font menu. menu_bit font (unwrap_or n.highlighted m.highlighted) menu;
  damage = λ n. rect_holds (joined (band m.highlighted) (band (unwrap_or n.highlighted m.highlighted)));
}

abbrev pub fresh_menu : StdMenu
fresh_menu = record { stage = Fresh; highlighted = None }
