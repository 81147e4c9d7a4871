-- Where a text record may stand in its window, by the numbers of a call.
use Rattle.std.specs.Prelude.{ℤ, pos, negsuc, nat_abs, ◌+ℤ◌, int_le, Bool, true, ◌&&◌, if◌then◌else◌, Option, None, Some}
use Rattle.std.specs.Ordering.{int_eq}
use Rattle.tb_geom.specs.declared.point.Point.{Point}
use Rattle.tb_geom.specs.declared.rect.Rect.{Rect}
use Rattle.tb_geom.specs.Rects.{is_in_range, moved_rect}
use Rattle.desk_call.specs.declared.text.TextPlace.{TextPlace}
use Rattle.text_record.specs.declared.placing.Justification.{Justification}
use Rattle.text_record.specs.declared.placing.Justification.TheVariants.{Left, Middle, Right}
use Rattle.text_record.specs.declared.placing.Placing.{Placing}
use Rattle.text_record.specs.Placings.{box_of, is_placing}
use Rattle.text_edits.specs.declared.selecting.ClickMode.{ClickMode}
use Rattle.text_edits.specs.declared.selecting.ClickMode.TheVariants.{Points, Extends, Words}
use Rattle.vis_update.specs.Records.{WindowRecord}

-- the view
abbrev pub view_of : TextPlace → Rect
view_of p = record { left = p.view.h; top = p.view.v; right = p.view.h +ℤ p.view_size.width; bottom = p.view.v +ℤ p.view_size.height }

-- destination and view
abbrev pub placing_of : TextPlace → Placing
placing_of p = record { left = p.left; top = p.top; width = nat_abs p.width; view = view_of p }

-- a record, framed or not, may stand so in some window: the numbers of its destination, the sides of its view and its box
-- lie in their ranges
abbrev pub may_stand : Bool → TextPlace → Bool
may_stand framed p = int_le (pos 0) p.width && is_placing framed (placing_of p)

-- and so in a window that lies at this place: its box lies in the range of coordinates on the screen too
abbrev pub may_stand_at : Bool → TextPlace → Point → Bool
may_stand_at framed p window = may_stand framed p && is_in_range (moved_rect (box_of framed (view_of p)) window.h window.v)

-- so in this window, if it is there
abbrev pub may_stand_in : Bool → TextPlace → Option WindowRecord → Bool
may_stand_in framed p None = true
may_stand_in framed p (Some w) = may_stand_at framed p w.place

-- where lines stand, by the number of a call
abbrev pub justification_of : ℤ → Option Justification
justification_of n =
    if int_eq n (pos 0) then Some Left else (if int_eq n (pos 1) then Some Middle else (if int_eq n (negsuc 0) then Some Right else None))

-- how a click selects, by the number of a call
abbrev pub click_mode : ℤ → Option ClickMode
click_mode n =
    if int_eq n (pos 0) then Some Points else (if int_eq n (pos 1) then Some Extends else (if int_eq n (pos 2) then Some Words else None))
