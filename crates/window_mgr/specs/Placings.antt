-- Where the calls that size and zoom put a window.
use Rattle.std.specs.Prelude.{ℕ, Option, None, Some, pos, ◌+ℤ◌, ◌-ℤ◌}
use Rattle.tb_geom.specs.declared.point.Point.{Point}
use Rattle.tb_geom.specs.Points.{minus}
use Rattle.def_iface.specs.declared.size.Size as sizes
use Rattle.desk_call.specs.declared.window.SizeWindow.{SizeWindow}
use Rattle.desk_call.specs.declared.window.Zoom.{Zoom}
use Rattle.desk_call.specs.declared.window.Zoom.TheVariants.{Out, In}
use Rattle.desk_call.specs.declared.window.ZoomWindow.{ZoomWindow}
use Rattle.desk_call.specs.Parts.{zoom_of}
use Rattle.window_list.specs.declared.window.Placement.{Placement}
use Rattle.window_list.specs.declared.window.UserState.{UserState}
use Rattle.vis_update.specs.Records.{WindowRecord}
use Rattle.window_mgr.specs.FullDesk.{FullDesk}

-- a window that is put elsewhere or gets another size: which one, how far its content moves, if it does, and how it lies then
pub record Placing : Type 0 where
  pub window : ℕ
  pub by : Option Point
  pub to : Placement

-- ---- sizing

-- the window has this size where it is, and is not zoomed
abbrev pub of_size : sizes.Size → WindowRecord → Placement
of_size size w = record { place = w.place; size = size; user_state = None }

-- the window of this record gets a size, if there is one
abbrev pub sized : SizeWindow → Option WindowRecord → Option Placing
sized z None = None
sized z (Some w) = Some (record { window = z.window; by = None; to = of_size z.size w })

-- ---- zooming

-- the place and the size of a window that is zoomed out: it leaves a column at each side of the screen, 19 rows below the
-- menu bar, and one at the bottom
abbrev pub standard_place : FullDesk → Point
standard_place desk = record { h = pos 1; v = desk.bar.rows +ℤ pos 19 }

abbrev pub standard_size : FullDesk → sizes.Size
standard_size desk = record { width = desk.width -ℤ pos 2; height = (desk.height -ℤ desk.bar.rows) -ℤ pos 20 }

-- zoomed out, the window keeps the place and the size that it had
abbrev pub zoomed_out : FullDesk → WindowRecord → Placement
zoomed_out desk w = record {
  place = standard_place desk;
  size = standard_size desk;
  user_state = Some (record { place = w.place; size = w.size });
}

-- zoomed in, it has them again
abbrev pub zoomed_in : UserState → Placement
zoomed_in kept = record { place = kept.place; size = kept.size; user_state = None }

-- how a window lies once it is zoomed so, where it has this user state, or None where it is zoomed so already
abbrev pub zoom_target : Zoom → Option UserState → FullDesk → WindowRecord → Option Placement
zoom_target Out None desk w = Some (zoomed_out desk w)
zoom_target Out (Some kept) desk w = None
zoom_target In None desk w = None
zoom_target In (Some kept) desk w = Some (zoomed_in kept)

-- the window of this serial and record goes there with its content, if it goes anywhere
abbrev pub gone : ℕ → WindowRecord → Option Placement → Option Placing
gone s w None = None
gone s w (Some to) = Some (record { window = s; by = Some (minus to.place w.place); to = to })

-- the window of this record is zoomed, if there is one and the part zooms
abbrev pub zoomed_by : Option Zoom → ℕ → Option WindowRecord → FullDesk → Option Placing
zoomed_by (Some zoom) s (Some w) desk = gone s w (zoom_target zoom w.user_state desk w)
zoomed_by (Some zoom) s None desk = None
zoomed_by None s o desk = None

abbrev pub zoomed : ZoomWindow → Option WindowRecord → FullDesk → Option Placing
zoomed z o desk = zoomed_by (zoom_of z.part) z.window o desk
