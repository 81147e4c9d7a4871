-- The parts of the standard controls.
use Rattle.std.specs.Prelude.{ℕ, if◌then◌else◌, List, [], ◌∷◌, Option, None, Some}
use Rattle.tb_geom.specs.declared.point.Point.{Point}
use Rattle.tb_geom.specs.Rects.{rect_holds}
use Rattle.control_values.specs.Settings.{Setting}
use Rattle.control_values.specs.declared.part.ControlPart.{ControlPart}
use Rattle.control_values.specs.declared.part.ControlPart.TheVariants.{UpButton, DownButton, PageUp, PageDown, Thumb}
use Rattle.def_iface.specs.declared.size.Size.{Size}
use Rattle.def_iface.specs.Sizes.{rect_of}
use Rattle.looks.specs.declared.spot.Spot.{Spot}
use Rattle.looks.specs.Spots.{first_part, spot}
use Rattle.std_cdef.specs.Axes.{first_box, last_box}
use Rattle.std_cdef.specs.Looks.{inset}
use Rattle.std_cdef.specs.Thumbs.{thumb, before_thumb, after_thumb, has_thumb}

-- a control that is one part, all of it
abbrev pub whole_hit : ControlPart → Size → Point → Option ControlPart
whole_hit part s p = if rect_holds (rect_of s) p then Some part else None

-- a control that is one part, all but a margin of so many pixels
abbrev pub inset_hit : ℕ → ControlPart → Size → Point → Option ControlPart
inset_hit margin part s p = if rect_holds (inset margin s) p then Some part else None

-- the parts of a scroll bar: it has none without a thumb
abbrev pub scroll_spots : Size → Setting → ℕ → List (Spot (Option ControlPart))
scroll_spots s v highlight =
    spot (has_thumb s v highlight) (rect_of s) (first_box s) (Some UpButton)
    ∷ spot (has_thumb s v highlight) (rect_of s) (last_box s) (Some DownButton)
    ∷ spot (has_thumb s v highlight) (rect_of s) (thumb s v) (Some Thumb)
    ∷ spot (has_thumb s v highlight) (rect_of s) (before_thumb s v) (Some PageUp)
    ∷ spot (has_thumb s v highlight) (rect_of s) (after_thumb s v) (Some PageDown)
    ∷ []

abbrev pub scroll_hit : Size → Setting → ℕ → Point → Option ControlPart
scroll_hit s v highlight p = first_part (scroll_spots s v highlight) None p
