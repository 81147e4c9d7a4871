-- The headline: what holds of each state that a desk reaches.
use Rattle.std.specs.Prelude.{◌≡◌, ◌↔◌, ℕ, ℤ, true, false, List, All, Result, Ok}
use Rattle.tb_geom.specs.declared.point.Point.{Point}
use Rattle.tb_geom.specs.declared.refusal.Refusal.{Refusal}
use Rattle.tb_geom.specs.Rects.{in_plane}
use Rattle.def_iface.specs.WindowMeaning.{WindowGoesBy}
use Rattle.desk_layers.specs.Desk.{on_screen}
use Rattle.desk_layers.specs.Owner.{owner}
use Rattle.desk_layers.specs.Change.{Change, stale_by}
use Rattle.desk_call.specs.declared.call.Call.{Call}
use Rattle.desk_call.specs.declared.call.Call.TheVariants.{Control, Window}
use Rattle.desk_call.specs.declared.call.Reply.{Reply}
use Rattle.desk_call.specs.declared.call.Reply.TheVariants as reply
use Rattle.desk_call.specs.declared.control.ControlCall.TheVariants as controls
use Rattle.desk_call.specs.declared.control.ControlReply.TheVariants as control_reply
use Rattle.desk_call.specs.declared.control.PointInWindow.{PointInWindow}
use Rattle.desk_call.specs.declared.window.WindowCall.TheVariants.{Find}
use Rattle.desk_call.specs.declared.window.WindowReply.TheVariants as window_reply
use Rattle.window_mgr.specs.FullDesk.{FullState, layered_desk, layered_state}
use Rattle.window_mgr.specs.Refused.{is_missing}
use Rattle.window_mgr.specs.Telling.{update_of}
use Rattle.window_update.specs.Served.{AreAllServed}
use Rattle.desk_toolbox.specs.Fronts.{IsScreenAllRight, IsScreenRight, found_on_screen, window_on_screen}
use Rattle.desk_toolbox.specs.Reached.{AreContentsRight, news_by_record}
use Rattle.desk_toolbox.specs.Run.{IsRunOf, IsStep}
use Rattle.desk_toolbox.specs.ToolboxStates.{ToolboxState}
use Rattle.desk_laws.specs.Changes.{change_of_call}
use Rattle.desk_laws.specs.Regions.{IsInRegion}

-- a pixel of the screen is stale now just where the change makes it stale, or leaves it stale
abbrev pub AreStaleBy : Change → FullState → FullState → Type 0
AreStaleBy change before after = let desk = layered_desk after.desk in (p : Point) → on_screen desk p ≡ true
    → after.stale p ≡ stale_by change (layered_state before) (owner desk p) p

-- a call was a step that makes just those pixels stale, and just those no longer, that its change says
abbrev pub IsStaleStep : Call → Result Reply Refusal → ToolboxState → ToolboxState → Type 0
IsStaleStep call answer before after = IsStep call answer before after
    × AreStaleBy (change_of_call call answer before after) before.desk.windows after.desk.windows

-- no pixel of the screen is stale
abbrev pub IsNoneStale : FullState → Type 0
IsNoneStale s = (p : Point) → on_screen (layered_desk s.desk) p ≡ true → s.stale p ≡ false

-- the desk has a screen of these sides, so many rows of menu bar, and this font
pub record IsDeskOf (w h rows : ℤ) (bytes : List ℕ) (s : ToolboxState) : Type 0 where
  pub width : s.desk.windows.desk.width ≡ w
  pub height : s.desk.windows.desk.height ≡ h
  pub bar : s.desk.windows.desk.bar.rows ≡ rows
  pub font : s.desk.windows.desk.font ≡ bytes

-- the headline of a state that calls leave, which were answered so from a first state on
pub record IsHeadline (first : ToolboxState) (calls : List Call) (answers : List (Result Reply Refusal))
    (last : ToolboxState) : Type 0 where
  -- each pixel of the screen in no update region shows what painting the desk from nothing gives
  pub screen : IsScreenRight last
  -- once every update is served, every pixel does
  pub served : AreAllServed last.desk.windows → IsScreenAllRight last
  -- what is painted is the desk: the layers of each window are its controls, its lists and its text records, and show what
  -- these show, and each window is shown and hit by what its record says
  pub contents : AreContentsRight last
  pub records : All (λ w. WindowGoesBy (news_by_record w) w.definition) last.desk.windows.desk.windows
  -- the pixels of the update regions are the stale ones
  pub regions : (p : Point) → on_screen (layered_desk last.desk.windows.desk) p ≡ true
      → (last.desk.windows.stale p ≡ true) ↔ ((window : ℕ) × IsInRegion update_of window last.desk.windows p)
  -- at first none is, and each call makes just those stale, and just those no longer, that its change says
  pub none : IsNoneStale first.desk.windows
  pub exact : IsRunOf IsStaleStep first calls answers last
  -- a window and a part of it are found at a point by the topmost owner there
  pub window : (p : Point) (answer : Result Reply Refusal) (after : ToolboxState) → in_plane p ≡ true
      → IsStep (Window (Find p)) answer last after
      → answer ≡ Ok (reply.Window (window_reply.Found (window_on_screen last p)))
  -- so is a control of a window
  pub control : (asked : PointInWindow) (answer : Result Reply Refusal) (after : ToolboxState)
      → is_missing asked.window last.desk.windows.desk.windows ≡ false → in_plane asked.point ≡ true
      → IsStep (Control (controls.Find asked)) answer last after
      → answer ≡ Ok (reply.Control (control_reply.Found (found_on_screen last asked)))
