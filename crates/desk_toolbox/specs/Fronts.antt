-- What the screen shows, whose its pixels are, and what painting the desk from nothing gives, with the menu or the
-- outline in front.
use Rattle.std.specs.Prelude.{◌≡◌, ℕ, Bool, true, false, not, ◌&&◌, if◌then◌else◌, List, Option, None, Some}
use Rattle.std.specs.Option.{option_map_or}
use Rattle.tb_geom.specs.declared.point.Point.{Point}
use Rattle.tb_geom.specs.Points.{PixelSet, plus}
use Rattle.desk_layers.specs.Desk.{on_screen}
use Rattle.desk_layers.specs.Owner.{Owner, own_bit, owner}
use Rattle.desk_layers.specs.Scratch.{scratch}
use Rattle.desk_call.specs.declared.control.FoundControl.{FoundControl}
use Rattle.desk_call.specs.declared.control.PointInWindow.{PointInWindow}
use Rattle.desk_call.specs.declared.window.Found.{Found}
use Rattle.desk_call.specs.declared.window.WindowPart.TheVariants.{InDesk, InMenuBar}
use Rattle.desk_call.specs.Outlines.{outline_of}
use Rattle.overlay.specs.Overlays.{Pulled, pulled_bit, shown_bit}
use Rattle.overlay.specs.Outlines.{outline_holds, outlined}
use Rattle.vis_update.specs.Records.{WindowRecord}
use Rattle.window_mgr.specs.Finding.{found_none, record_with}
use Rattle.window_mgr.specs.Finding as windows
use Rattle.window_mgr.specs.FullDesk.{layered_desk}
use Rattle.control_mgr.specs.ControlDesks.{ControlRecord}
use Rattle.control_mgr.specs.ControlSteps.{control_found_by}
use Rattle.menu_mgr.specs.Pulling.{is_in, is_pulled_at, pulled_of}
use Rattle.desk_toolbox.specs.ToolboxStates.{ToolboxState}

-- the menu that is pulled down, if one is
abbrev pub pulled : ToolboxState → Option Pulled
pulled s = pulled_of s.desk.activity s.menus.menus

-- the outline in front of these pixels, if one is shown
abbrev pub with_outline : ToolboxState → PixelSet → PixelSet
with_outline s = outlined s.desk.windows.desk.bar.rows (outline_of s.desk.activity)

-- what the screen shows: the pulled menu where it lies, and else the base image, with the outline of a window that is dragged or
-- grown in front
abbrev pub screen_of : ToolboxState → PixelSet
screen_of s = with_outline s (shown_bit s.desk.windows.desk.font (pulled s) s.desk.windows.image)

-- the point is a pixel of the screen that the pulled menu has
abbrev pub is_on_menu : ToolboxState → Point → Bool
is_on_menu s p = is_pulled_at s.desk.windows.desk (pulled s) p

-- whose a pixel of the screen is: the pulled menu's, or the owner's of the base image
pub data ScreenOwner : Type 0 where
  PulledMenu : ScreenOwner
  Base : (owner : Owner) → ScreenOwner

abbrev pub screen_owner : ToolboxState → Point → ScreenOwner
screen_owner s p = if is_in (pulled s) p then PulledMenu else Base (owner (layered_desk s.desk.windows.desk) p)

-- the value that an owner gives a pixel
abbrev pub pulled_value : ToolboxState → Option Pulled → PixelSet
pulled_value s None p = false
pulled_value s (Some m) p = pulled_bit s.desk.windows.desk.font m p

abbrev pub screen_bit : ToolboxState → ScreenOwner → PixelSet
screen_bit s PulledMenu p = pulled_value s (pulled s) p
screen_bit s (Base o) p = own_bit (layered_desk s.desk.windows.desk) o p

-- the point is a pixel of the outline, if one is shown
abbrev pub is_on_outline : ToolboxState → Point → Bool
is_on_outline s = outline_holds s.desk.windows.desk.bar.rows (outline_of s.desk.activity)

-- painting the desk from nothing, back to front: the windows and the menu bar, and the pulled menu or the outline last
abbrev pub screen_scratch : ToolboxState → PixelSet
screen_scratch s = with_outline s (shown_bit s.desk.windows.desk.font (pulled s) (scratch (layered_desk s.desk.windows.desk)))

-- the screen shows that wherever nothing is to be redrawn, and where the pulled menu lies
abbrev pub IsScreenRight : ToolboxState → Type 0
IsScreenRight s = (p : Point) → on_screen (layered_desk s.desk.windows.desk) p ≡ true
    → (s.desk.windows.stale p && not (is_on_menu s p)) ≡ false → screen_of s p ≡ screen_scratch s p

-- the whole screen shows it
abbrev pub IsScreenAllRight : ToolboxState → Type 0
IsScreenAllRight s = (p : Point) → on_screen (layered_desk s.desk.windows.desk) p ≡ true → screen_of s p ≡ screen_scratch s p

-- what is found at a point of this window by the owner of the pixel there: the pulled menu is none of its controls
abbrev pub found_by_owner : ScreenOwner → ℕ → List ControlRecord → Point → Option FoundControl
found_by_owner PulledMenu s cs p = None
found_by_owner (Base o) s cs p = control_found_by s cs o p

-- so at a point of a window of the desk, where that is a pixel of the screen
abbrev pub found_on_screen : ToolboxState → PointInWindow → Option FoundControl
found_on_screen s asked = option_map_or
    (λ w. let p = plus w.place asked.point in if on_screen (layered_desk s.desk.windows.desk) p
    then found_by_owner (screen_owner s p) asked.window s.controls.controls asked.point else None)
    (record_with asked.window s.desk.windows.desk.windows) None

-- the window and the part of it that are found at a point by the owner of the pixel there: the pulled menu counts as the menu bar
abbrev pub window_by_owner : ScreenOwner → List WindowRecord → Point → Found
window_by_owner PulledMenu ws p = found_none InMenuBar
window_by_owner (Base o) ws p = windows.found_by ws o p

-- so at a pixel of the screen, and nothing off it
abbrev pub window_on_screen : ToolboxState → Point → Found
window_on_screen s p = if on_screen (layered_desk s.desk.windows.desk) p
    then window_by_owner (screen_owner s p) s.desk.windows.desk.windows p else found_none InDesk
