-- Whose a point is, as FindWindow answers it, and which window is the first visible ordinary one.
use Rattle.std.specs.Prelude.{ℕ, Bool, not, ◌&&◌, if◌then◌else◌, ◌==◌, List, [], ◌∷◌, Option, None, Some}
use Rattle.tb_geom.specs.declared.point.Point.{Point}
use Rattle.tb_geom.specs.Points.{minus}
use Rattle.def_iface.specs.WindowNews.{no_news}
use Rattle.def_iface.specs.declared.window_def.Hit.{Hit}
use Rattle.def_iface.specs.declared.window_def.Hit.TheVariants as hit
use Rattle.desk_layers.specs.Desk.{on_screen}
use Rattle.desk_layers.specs.Owner.{Owner, owner}
use Rattle.desk_layers.specs.Owner.Owner.{Desktop, Bar, Frame, Content}
use Rattle.desk_call.specs.declared.window.WindowPart.{WindowPart}
use Rattle.desk_call.specs.declared.window.WindowPart.TheVariants as part
use Rattle.desk_call.specs.declared.window.Found.{Found}
use Rattle.desk_call.specs.declared.window.WindowReply.{WindowReply}
use Rattle.desk_call.specs.declared.window.WindowReply.TheVariants as reply
use Rattle.vis_update.specs.Records.{WindowRecord}
use Rattle.window_mgr.specs.FullDesk.{FullDesk, layered_desk}

-- the part that FindWindow answers where a definition answers this hit
abbrev pub part_of_hit : Hit → WindowPart
part_of_hit hit.NoHit = part.InDesk
part_of_hit hit.InContent = part.InContent
part_of_hit hit.InDrag = part.InDrag
part_of_hit hit.InGrow = part.InGrow
part_of_hit hit.InGoAway = part.InGoAway
part_of_hit hit.InZoomIn = part.InZoomIn
part_of_hit hit.InZoomOut = part.InZoomOut

-- the record of the window of this serial
abbrev pub record_with : ℕ → List WindowRecord → Option WindowRecord
record_with s [] = None
record_with s (w ∷ ws) = if w.serial == s then Some w else record_with s ws

-- the part of the window that the point lies in, by its definition
abbrev pub window_part_at : Option WindowRecord → Point → WindowPart
window_part_at None p = part.InDesk
window_part_at (Some w) p = part_of_hit (w.definition.hit no_news (minus p w.place))

-- no window, and this part
abbrev pub found_none : WindowPart → Found
found_none which = record { part = which; window = None }

-- the window of this serial, and the part of it that the point lies in
abbrev pub found_window : ℕ → List WindowRecord → Point → Found
found_window s ws p = record { part = window_part_at (record_with s ws) p; window = Some s }

-- what is found where this is the owner of the point
abbrev pub found_by : List WindowRecord → Owner → Point → Found
found_by ws Desktop p = found_none part.InDesk
found_by ws Bar p = found_none part.InMenuBar
found_by ws (Frame s) p = found_window s ws p
found_by ws (Content s layer) p = found_window s ws p

-- what is found at a point: that of the topmost owner, and nothing off the screen
abbrev pub found_at : FullDesk → Point → Found
found_at desk p =
    if on_screen (layered_desk desk) p then found_by desk.windows (owner (layered_desk desk) p) p else found_none part.InDesk

-- the window is visible, and ordinary
abbrev pub is_leading : WindowRecord → Bool
is_leading w = w.shown && not w.floating

-- the first visible ordinary window
abbrev pub front_of : List WindowRecord → Option ℕ
front_of [] = None
front_of (w ∷ ws) = if is_leading w then Some w.serial else front_of ws

-- what is told of a window, if it is there
abbrev pub info_of : Option WindowRecord → WindowReply
info_of None = reply.Done
info_of (Some w) = reply.Info (record { place = w.place; size = w.size; shown = w.shown; highlighted = w.highlighted })
