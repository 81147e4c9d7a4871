-- What shows of the selection of a record, and what another one inverts.
use Rattle.std.specs.Prelude.{not, ◌&&◌, if◌then◌else◌}
use Rattle.tb_geom.specs.Points.{PixelSet}
use Rattle.tb_geom.specs.Rects.{rect_holds}
use Rattle.text_record.specs.Texts.{Record}
use Rattle.text_paint.specs.declared.selected.Selection.{Selection}
use Rattle.text_paint.specs.Shown.{is_inverted}

-- what shows of a record's selection
abbrev pub selected_of : Record → Selection
selected_of r = record { start = r.start; end = r.end; active = r.active; caret = r.caret }

-- the record with another selection, shown so
abbrev pub reselected : Selection → Record → Record
reselected s r = record r { start = s.start; end = s.end; active = s.active; caret = s.caret }

-- whether a pixel shows otherwise where the selection was another: in the view, where one of both is inverted
abbrev pub is_toggled : Selection → Record → PixelSet
is_toggled s r p = rect_holds r.view p && (if is_inverted (reselected s r) p then not (is_inverted r p) else is_inverted r p)
