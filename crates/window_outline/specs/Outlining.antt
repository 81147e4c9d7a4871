-- The gray outline of a window that is dragged or grown: what a call about it answers, and what is open then.
use Rattle.std.specs.Prelude.{Bool, true, false, not, ◌&&◌, ℤ, pos, ◌+ℤ◌, if◌then◌else◌, List, map, replicate, Option, None, Some}
use Rattle.std.specs.Int.{int_min, int_max}
use Rattle.std.specs.Ordering.{int_eq}
use Rattle.tb_geom.specs.declared.point.Point.{Point}
use Rattle.tb_geom.specs.declared.rect.Rect.{Rect}
use Rattle.tb_geom.specs.Points.{PixelSet, plus, minus}
use Rattle.tb_geom.specs.Rects.{in_plane, is_empty_rect, empty_rect, moved_rect}
use Rattle.def_iface.specs.declared.size.Size.{Size}
use Rattle.desk_layers.specs.Desk.{on_screen, in_bar}
use Rattle.def_iface.specs.Lines.{frame_lines}
use Rattle.desk_call.specs.declared.activity.Activity.{Activity}
use Rattle.desk_call.specs.declared.activity.Activity.TheVariants.{Idle, Dragging, Growing}
use Rattle.desk_call.specs.declared.activity.DraggedWindow.{DraggedWindow}
use Rattle.desk_call.specs.declared.outline.OutlineCall.{OutlineCall}
use Rattle.desk_call.specs.declared.outline.OutlineCall.TheVariants.{Drag, StepDrag, EndDrag, Grow, StepGrow, EndGrow}
use Rattle.desk_call.specs.declared.outline.OutlineReply.{OutlineReply}
use Rattle.desk_call.specs.declared.outline.OutlineReply.TheVariants.{Shown, Sized}
use Rattle.desk_call.specs.declared.outline.SizeLimits.{SizeLimits}
use Rattle.desk_call.specs.declared.window.MoveWindow.{MoveWindow}
use Rattle.desk_call.specs.declared.window.WindowPart.{WindowPart}
use Rattle.desk_call.specs.declared.window.WindowPart.TheVariants.{InDrag, InGrow}
use Rattle.vis_update.specs.Records.{WindowRecord}
use Rattle.vis_update.specs.Touches.{is_this}
use Rattle.window_mgr.specs.Finding.{found_at, record_with}
use Rattle.window_mgr.specs.FullDesk.{FullDesk, layered_desk}

-- ---- where it may begin and be shown

-- the pixel lies in the gray region: on the screen, below the menu bar
abbrev pub in_gray : FullDesk → PixelSet
in_gray desk p = on_screen (layered_desk desk) p && not (in_bar (layered_desk desk) p)

abbrev pub is_drag : WindowPart → Bool
is_drag InDrag = true
is_drag _ = false

abbrev pub is_grow : WindowPart → Bool
is_grow InGrow = true
is_grow _ = false

-- FindWindow answers that part of the window where the mouse button was pressed, so that something begins
abbrev pub begins : OutlineCall → FullDesk → Bool
begins (Drag d) desk = let found = found_at desk d.point in is_drag found.part && is_this found.window d.window
begins (Grow g) desk = let found = found_at desk g.point in is_grow found.part && is_this found.window g.window
begins _ desk = false

-- ---- the lines

-- no line
abbrev pub no_lines : List Rect
no_lines = replicate 8 empty_rect

-- the lines of a window, where its own 0 0 lies here on the screen
abbrev pub moved_line : Point → Rect → Rect
moved_line place line = if is_empty_rect line then empty_rect else moved_rect line place.h place.v

abbrev pub moved_lines : Point → List Rect → List Rect
moved_lines place = map (moved_line place)

-- the mouse was pressed at one point and is at another: the outermost pixels of the box of the window's structure, moved by
-- that way, where the mouse is in the gray region
abbrev pub drag_lines : FullDesk → Option WindowRecord → Point → Point → List Rect
drag_lines desk None from at = no_lines
drag_lines desk (Some w) from at =
    if in_gray desk at then moved_lines (plus w.place (minus at from)) (frame_lines (w.definition.bounds w.size)) else no_lines

-- a number within its limits
abbrev pub clamped : ℤ → ℤ → ℤ → ℤ
clamped least most n = int_max least (int_min most n)

-- each part of a size and of the way, within its limits
abbrev pub grown : SizeLimits → Size → Point → Size
grown limits size way = record {
  width = clamped limits.least.width limits.most.width (size.width +ℤ way.h);
  height = clamped limits.least.height limits.most.height (size.height +ℤ way.v);
}

abbrev pub no_size : Size
no_size = record { width = pos 0; height = pos 0 }

-- the size that the window is grown to, if there is one
abbrev pub grown_size : SizeLimits → Option WindowRecord → Point → Point → Size
grown_size limits None from at = no_size
grown_size limits (Some w) from at = grown limits w.size (minus at from)

-- and the lines that its definition gives for that
abbrev pub grow_lines : SizeLimits → Option WindowRecord → Point → Point → List Rect
grow_lines limits None from at = no_lines
grow_lines limits (Some w) from at = moved_lines w.place (w.definition.grow_lines (grown limits w.size (minus at from)))

-- ---- calls

-- the lines that are shown after the call, if something is dragged or grown then
abbrev pub outline_after : OutlineCall → Activity → FullDesk → List Rect
outline_after (Drag d) activity desk =
    if begins (Drag d) desk then drag_lines desk (record_with d.window desk.windows) d.point d.point else no_lines
outline_after (StepDrag p) (Dragging d) desk = drag_lines desk (record_with d.window desk.windows) d.from p
outline_after (Grow g) activity desk =
    if begins (Grow g) desk then grow_lines g.limits (record_with g.window desk.windows) g.point g.point else no_lines
outline_after (StepGrow p) (Growing g) desk = grow_lines g.limits (record_with g.window desk.windows) g.from p
outline_after _ activity desk = no_lines

-- what is open after the call, where this was
abbrev pub open_after : OutlineCall → Activity → FullDesk → Activity
open_after (Drag d) activity desk =
    if begins (Drag d) desk
    then Dragging (record { window = d.window; from = d.point; outline = outline_after (Drag d) activity desk })
    else activity
open_after (StepDrag p) (Dragging d) desk = Dragging (record d { outline = outline_after (StepDrag p) (Dragging d) desk })
open_after (EndDrag p) activity desk = Idle
open_after (Grow g) activity desk =
    if begins (Grow g) desk
    then Growing (record { window = g.window; from = g.point; limits = g.limits; outline = outline_after (Grow g) activity desk })
    else activity
open_after (StepGrow p) (Growing g) desk = Growing (record g { outline = outline_after (StepGrow p) (Growing g) desk })
open_after (EndGrow p) activity desk = Idle
open_after _ activity desk = activity

abbrev pub same_size : Size → Size → Bool
same_size a b = int_eq a.width b.width && int_eq a.height b.height

-- a size, or 0 by 0 where it is the window's
abbrev pub other_size : Option WindowRecord → Size → Size
other_size None size = no_size
other_size (Some w) size = if same_size size w.size then no_size else size

-- what the call answers: of a begin, whether something begins; of a step and the end of a drag, whether the mouse is in the
-- gray region; of a step of growing the size, and of its end that size, if it is another
abbrev pub answer_to : OutlineCall → Activity → FullDesk → OutlineReply
answer_to (StepDrag p) activity desk = Shown (in_gray desk p)
answer_to (EndDrag p) activity desk = Shown (in_gray desk p)
answer_to (StepGrow p) (Growing g) desk = Sized (grown_size g.limits (record_with g.window desk.windows) g.from p)
answer_to (EndGrow p) (Growing g) desk =
    let w = record_with g.window desk.windows in Sized (other_size w (grown_size g.limits w g.from p))
answer_to call activity desk = Shown (begins call desk)

-- ---- the end of a drag

-- where a window lies, if there is one
abbrev pub place_of : Option WindowRecord → Point
place_of None = record { h = pos 0; v = pos 0 }
place_of (Some w) = w.place

-- the move that ends a drag here: by the way from where the mouse was pressed, and the window is selected
abbrev pub drop_of : DraggedWindow → Point → FullDesk → MoveWindow
drop_of d at desk = record { window = d.window; place = plus (place_of (record_with d.window desk.windows)) (minus at d.from); select = true }

-- the move by which the call ends a drag, where the mouse button was released in the gray region
abbrev pub let_go_of : OutlineCall → Activity → FullDesk → Option MoveWindow
let_go_of (EndDrag p) (Dragging d) desk = if in_plane p && in_gray desk p then Some (drop_of d p desk) else None
let_go_of call activity desk = None
