-- Icons: controls whose title has the bytes of an image.
use Rattle.std.specs.Prelude.{ℕ, pos, nat_abs, Bool, true, not, ◌&&◌, if◌then◌else◌, List, Option, None}
use Rattle.std.specs.Int.{int_max}
use Rattle.std.specs.Ordering.{int_eq}
use Rattle.std.specs.Str.{bytes_eq}
use Rattle.tb_geom.specs.declared.point.Point.{Point}
use Rattle.tb_geom.specs.declared.rect.Rect.{Rect}
use Rattle.tb_geom.specs.Points.{PixelSet}
use Rattle.tb_geom.specs.Rects.{rect_holds}
use Rattle.bit_map.specs.Images.{Image, image_holds, image_bit}
use Rattle.control_values.specs.declared.part.ControlPart.{ControlPart}
use Rattle.def_iface.specs.declared.size.Size.{Size}
use Rattle.def_iface.specs.declared.control_keeping.KeptControl.{KeptControl}
use Rattle.def_iface.specs.ControlMeaning.{is_control_size}
use Rattle.looks.specs.Marks.{box}

-- the image of an icon: as many columns and rows as the control has, and the bytes of the title
abbrev pub icon_image : KeptControl → Image
icon_image k = record { width = nat_abs k.size.width; height = nat_abs k.size.height; rows = k.title }

-- black where the image is, and nowhere outside it; its highlighting, its setting and the font change nothing
unfoldable pub icon_bit : KeptControl → PixelSet
icon_bit k p = image_holds (icon_image k) p && image_bit (icon_image k) p

abbrev pub icon_seen : KeptControl → List ℕ → PixelSet
icon_seen k font = icon_bit k

-- no point of it is hit
abbrev pub icon_part : KeptControl → Point → Option ControlPart
icon_part k p = None

-- the same image in the same size
unfoldable pub is_same_icon : (old new : KeptControl) → Bool
is_same_icon old new = int_eq old.size.width new.size.width && (int_eq old.size.height new.size.height && bytes_eq old.title new.title)

-- the rectangle around two sizes
abbrev pub around_sizes : Size → Size → Rect
around_sizes a b = box (pos 0) (pos 0) (int_max a.width b.width) (int_max a.height b.height)

-- the pixels that its damage may have: once it has a size, those of the old and of the new one, and none where the image is the same
abbrev pub icon_damaged : (old new : KeptControl) → PixelSet
icon_damaged old new p =
    if is_control_size old.size then not (is_same_icon old new) && rect_holds (around_sizes old.size new.size) p else true
