-- The outline that is shown while a window is dragged or grown.
use Rattle.std.specs.Prelude.{◌≡◌, Bool, true, ◌&&◌, int_le, List, []}
use Rattle.tb_geom.specs.declared.rect.Rect.{Rect}
use Rattle.tb_geom.specs.Rects.{in_plane}
use Rattle.def_iface.specs.Lines.{AreApart}
use Rattle.def_iface.specs.Sizes.{is_size}
use Rattle.desk_call.specs.declared.activity.Activity.{Activity}
use Rattle.desk_call.specs.declared.activity.Activity.TheVariants.{Dragging, Growing}
use Rattle.desk_call.specs.declared.outline.SizeLimits.{SizeLimits}

-- both limits are sizes, and the least is in no part above the most
abbrev pub are_limits : SizeLimits → Bool
are_limits l = (is_size l.least && is_size l.most)
    && (int_le l.least.width l.most.width && int_le l.least.height l.most.height)

-- the lines of the outline that is shown, if one is
abbrev pub outline_of : Activity → List Rect
outline_of (Dragging d) = d.outline
outline_of (Growing g) = g.outline
outline_of _ = []

-- what is kept of an outline: the mouse button was pressed at a point of the plane, the limits of a size are limits, and
-- no two lines share a pixel
abbrev pub IsOutlineKept : Activity → Type 0
IsOutlineKept (Dragging d) = (in_plane d.from ≡ true) × AreApart d.outline
IsOutlineKept (Growing g) = (in_plane g.from ≡ true) × ((are_limits g.limits ≡ true) × AreApart g.outline)
IsOutlineKept _ = Unit {0}
