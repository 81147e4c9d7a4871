-- Where a control may lie, and which point lies in it.
use Rattle.std.specs.Prelude.{ℕ, pos, neg_ℤ, Bool, true, not, ◌&&◌, nat_eq, if◌then◌else◌, Option, None, Some, ◌+ℤ◌}
use Rattle.tb_geom.specs.declared.point.Point.{Point}
use Rattle.tb_geom.specs.declared.rect.Rect.{Rect}
use Rattle.tb_geom.specs.Points.{minus}
use Rattle.tb_geom.specs.Rects.{rect_holds, in_plane, is_in_range, moved_rect}
use Rattle.control_values.specs.declared.part.ControlPart.{ControlPart}
use Rattle.def_iface.specs.declared.size.Size.{Size}
use Rattle.def_iface.specs.Sizes.{rect_of}
use Rattle.def_iface.specs.ControlMeaning.{ControlDefinition, is_control_size}
use Rattle.def_iface.specs.ControlNews.{no_control_news}
use Rattle.vis_update.specs.Records.{WindowRecord}
use Rattle.control_mgr.specs.ControlDesks.{ControlRecord}

-- ---- where it may lie

-- the rectangle by which a control's place and size are judged: the box of its region, and without a definition that of its
-- size
abbrev pub judged_box : Option ControlDefinition → Size → Rect
judged_box None size = rect_of size
judged_box (Some d) size = d.bounds size

-- the box lies in the range of coordinates at this place, in the window's own and in those of the screen
abbrev pub lies_in_range : Rect → Point → Point → Bool
lies_in_range box place window = is_in_range (moved_rect box place.h place.v)
    && is_in_range (moved_rect (moved_rect box place.h place.v) window.h window.v)

-- a control may be there in a window that lies at this place: its place is a point and its size lies in the range of sizes,
-- and so does the rectangle that is judged in the range of coordinates, by itself and where it lies
abbrev pub may_be_placed : Option ControlDefinition → Point → Size → Point → Bool
may_be_placed d place size window = in_plane place
    && (is_control_size size && (is_in_range (judged_box d size) && lies_in_range (judged_box d size) place window))

-- so in this window, if it is there
abbrev pub may_be_in : Option ControlDefinition → Point → Size → Option WindowRecord → Bool
may_be_in d place size None = true
may_be_in d place size (Some w) = may_be_placed d place size w.place

-- so may this control, if it is there
abbrev pub may_go_to : Point → Option ControlRecord → Option WindowRecord → Bool
may_go_to place None w = true
may_go_to place (Some c) w = may_be_in (Some c.kept.definition.definition) place c.kept.size w

abbrev pub may_get_size : Size → Option ControlRecord → Option WindowRecord → Bool
may_get_size size None w = true
may_get_size size (Some c) w = may_be_in (Some c.kept.definition.definition) c.kept.place size w

-- ---- which point lies in it

-- the control is inactive
abbrev pub is_inactive : ControlRecord → Bool
is_inactive c = nat_eq c.kept.highlight 255

-- the rectangle of this size at 0 0, wider by so much on each side
abbrev pub widened : ℕ → Size → Rect
widened margin size = record {
  left = neg_ℤ (pos margin);
  top = neg_ℤ (pos margin);
  right = size.width +ℤ pos margin;
  bottom = size.height +ℤ pos margin;
}

-- the point of its window lies in the control's rectangle, widened by so much
abbrev pub is_within : ℕ → ControlRecord → Point → Bool
is_within margin c p = rect_holds (widened margin c.kept.size) (minus p c.kept.place)

-- the part of the control that the point of its window lies in, by its definition
abbrev pub part_under : ControlRecord → Point → Option ControlPart
part_under c p = c.kept.definition.definition.hit no_control_news (minus p c.kept.place)

-- the same for a control that can be used: it is shown, and the point lies in its rectangle; an inactive one has none
abbrev pub part_tested : ControlRecord → Point → Option ControlPart
part_tested c p = if (c.kept.shown && not (is_inactive c)) && is_within 0 c p then part_under c p else None
