-- The standard definition of lists.
use Rattle.std.specs.Prelude.{pos, true}
use Rattle.std.specs.Option.{unwrap_or}
use Rattle.def_iface.specs.declared.window_def.Stage.TheVariants.{Fresh}
use Rattle.def_iface.specs.ListMeaning.{ListDefinition}
use Rattle.std_mldef.specs.declared.std_list.StdList.{StdList}
use Rattle.std_mldef.specs.Cells.{cell_picture, cell_highlight}

-- of the size of its cells, and whether empty ones are highlighted, it goes by what it is told last
abbrev pub std_list_meaning : StdList → ListDefinition
std_list_meaning l = record {
  stage = l.stage;
  size = l.size;
  picture = λ n font bytes. cell_picture (unwrap_or n.size l.size) font bytes;
  highlight = λ n font bytes. cell_highlight (unwrap_or n.size l.size) (unwrap_or n.nil_hilited l.nil_hilited) bytes;
}

abbrev pub fresh_list : StdList
fresh_list = record { stage = Fresh; size = record { width = pos 0; height = pos 0 }; nil_hilited = true }
