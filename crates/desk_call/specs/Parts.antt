-- The parts of the screen, as FindWindow answers them, and which of them zoom.
use Rattle.std.specs.Prelude.{ℕ, if◌then◌else◌, Option, None, Some, ℤ, pos}
use Rattle.std.specs.Ordering.{int_eq}
use Rattle.desk_call.specs.declared.window.WindowPart.{WindowPart}
use Rattle.desk_call.specs.declared.window.WindowPart.TheVariants as part
use Rattle.desk_call.specs.declared.window.Zoom.{Zoom}
use Rattle.desk_call.specs.declared.window.Zoom.TheVariants.{Out, In}

-- the codes of the parts
abbrev pub part_number : WindowPart → ℕ
part_number part.InDesk = 0
part_number part.InMenuBar = 1
part_number part.InContent = 3
part_number part.InDrag = 4
part_number part.InGrow = 5
part_number part.InGoAway = 6
part_number part.InZoomIn = 7
part_number part.InZoomOut = 8

-- which way a window is zoomed by the part of this code; no other zooms
abbrev pub zoom_of : ℤ → Option Zoom
zoom_of code =
    if int_eq code (pos (part_number part.InZoomOut)) then Some Out
    else (if int_eq code (pos (part_number part.InZoomIn)) then Some In else None)
