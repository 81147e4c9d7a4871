-- The parts of the standard windows.
use Rattle.std.specs.Prelude.{List, [], ◌∷◌, pos, ◌-ℤ◌, if◌then◌else◌}
use Rattle.tb_geom.specs.declared.point.Point.{Point}
use Rattle.def_iface.specs.declared.size.Size.{Size}
use Rattle.def_iface.specs.declared.window_def.Hit.{Hit}
use Rattle.def_iface.specs.declared.window_def.Hit.TheVariants.{NoHit, InContent, InDrag, InGrow, InGoAway, InZoomIn, InZoomOut}
use Rattle.def_iface.specs.Sizes.{rect_of}
use Rattle.looks.specs.declared.spot.Spot.{Spot}
use Rattle.looks.specs.Spots.{first_part, spot}
use Rattle.looks.specs.Areas.{area_holds}
use Rattle.looks.specs.Marks.{box, neg}
use Rattle.std_wdef.specs.declared.kind.Variation.{Variation}
use Rattle.def_iface.specs.declared.keeping.Flags.{Flags}
use Rattle.std_wdef.specs.Kinds.{is_document, closes, zooms, grows}
use Rattle.std_wdef.specs.Looks.{size_box, title_bar}
use Rattle.std_wdef.specs.Areas.{content_of}

-- what the zoom box does
abbrev pub zoom_hit : Flags → Hit
zoom_hit f = if f.zoomed then InZoomIn else InZoomOut

-- the parts of the frame, the first of which counts
abbrev pub spots_of : Variation → Flags → Size → List (Spot Hit)
spots_of v f s =
    let bar = title_bar s in
    let w = s.width in
    spot (closes v f) bar (box (pos 8) (neg 16) (pos 19) (neg 5)) InGoAway
    ∷ spot (zooms v f) bar (box (w -ℤ pos 19) (neg 16) (w -ℤ pos 8) (neg 5)) (zoom_hit f)
    ∷ spot (grows v f) (rect_of s) (size_box s) InGrow
    ∷ []

-- the rest of the frame drags a document window
abbrev pub frame_hit : Variation → Hit
frame_hit v = if is_document v then InDrag else NoHit

abbrev pub std_hit : Variation → Flags → Size → Point → Hit
std_hit v f s p = if area_holds (content_of v s) p then InContent else first_part (spots_of v f s) (frame_hit v) p
