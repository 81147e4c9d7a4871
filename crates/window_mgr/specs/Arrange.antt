-- The order of windows, and which of them is active.
use Rattle.std.specs.Prelude.{ℕ, Bool, true, false, if◌then◌else◌, ◌==◌, ◌&&◌, not, List, [], ◌∷◌, map, Option, None, Some}
use Rattle.std.specs.Option.{is_some}
use Rattle.std.specs.Ordering.{int_eq}
use Rattle.tb_geom.specs.declared.point.Point.{Point}
use Rattle.tb_geom.specs.Points.{minus}
use Rattle.window_list.specs.declared.window.Placement.{Placement}
use Rattle.window_list.specs.Classes.{put_front, put_back}
use Rattle.vis_update.specs.Records.{WindowRecord, is_floating}
use Rattle.vis_update.specs.Touches.{is_this}
use Rattle.window_mgr.specs.declared.arrange.Activates.{Activates}
use Rattle.window_mgr.specs.declared.arrange.Activates.TheVariants.{Nothing, Itself, ItselfIfFront, FrontInItsPlace, NextInItsPlace}
use Rattle.window_mgr.specs.declared.arrange.Activation.{Activation}
use Rattle.window_mgr.specs.declared.arrange.Activation.TheVariants.{Stays, Becomes}
use Rattle.desk_call.specs.declared.window.MoveWindow.{MoveWindow}
use Rattle.desk_call.specs.declared.window.SendBehind.{SendBehind}
use Rattle.desk_call.specs.declared.window.ShowHide.{ShowHide}
use Rattle.def_iface.specs.WindowMeaning.{WindowDefinition}
use Rattle.window_mgr.specs.FullDesk.{FullDesk}
use Rattle.window_mgr.specs.Finding.{record_with, is_leading, front_of}
use Rattle.window_mgr.specs.Placings.{Placing}

-- ---- highlighting

-- the window gets or loses its highlighting if it is the one of this serial
abbrev pub with_highlighting : Bool → Option ℕ → WindowRecord → WindowRecord
with_highlighting on s w = if is_this s w.serial then record w { highlighted = on } else w

-- the windows after an activation, where this was the active one
abbrev pub activated : Activation → Option ℕ → List WindowRecord → List WindowRecord
activated Stays former ws = ws
activated (Becomes s) former ws = map (λ w. with_highlighting true s (with_highlighting false former w)) ws

-- the active window then
abbrev pub active_after : Activation → Option ℕ → Option ℕ
active_after Stays former = former
active_after (Becomes s) former = s

-- where that is so this window becomes active, or none is; else nothing changes
abbrev pub if_active : Bool → Option ℕ → Activation
if_active true s = Becomes s
if_active false s = Stays

-- the first visible ordinary window becomes active, if there is one and it is another than this
abbrev pub next_active : ℕ → Option ℕ → Activation
next_active s None = Stays
next_active s (Some front) = if_active (not (front == s)) (Some front)

-- what the activation of a call comes to, for the window that it is about, the one that was active, and the first visible
-- ordinary one after the call
abbrev pub activation_of : Activates → ℕ → Option ℕ → Option ℕ → Activation
activation_of Nothing s active front = Stays
activation_of Itself s active front = Becomes (Some s)
activation_of ItselfIfFront s active front = if_active (is_this front s) (Some s)
activation_of FrontInItsPlace s active front = if_active (is_this active s) front
activation_of NextInItsPlace s active front = if is_this active s then next_active s front else Stays

-- the desk with these windows, after an activation
abbrev pub desk_activated : List WindowRecord → Activation → FullDesk → FullDesk
desk_activated ws activation desk = record desk {
  windows = activated activation desk.active ws;
  active = active_after activation desk.active;
}

-- the desk with these windows, after a call about this one which activates so
abbrev pub desk_arranged : List WindowRecord → Activates → ℕ → FullDesk → FullDesk
desk_arranged ws activates s desk = desk_activated ws (activation_of activates s desk.active (front_of ws)) desk

-- ---- the order

-- the windows but the one of this serial
abbrev pub without : ℕ → List WindowRecord → List WindowRecord
without s [] = []
without s (w ∷ ws) = if w.serial == s then ws else w ∷ without s ws

-- the windows, and this one behind the one of that serial
abbrev pub put_next : ℕ → WindowRecord → List WindowRecord → List WindowRecord
put_next s w [] = w ∷ []
put_next s w (v ∷ vs) = if v.serial == s then v ∷ w ∷ vs else v ∷ put_next s w vs

-- the windows, and this one behind the one of that serial, or at the back of its class where there is none
abbrev pub put_behind : Option ℕ → WindowRecord → List WindowRecord → List WindowRecord
put_behind None w ws = put_back is_floating w ws
put_behind (Some s) w ws = put_next s w ws

abbrev pub in_front : Option WindowRecord → List WindowRecord → List WindowRecord
in_front None ws = ws
in_front (Some w) ws = put_front is_floating w ws

abbrev pub behind_this : Option ℕ → Option WindowRecord → List WindowRecord → List WindowRecord
behind_this s None ws = ws
behind_this s (Some w) ws = put_behind s w ws

-- the windows, the one of this serial at the front of its class
abbrev pub brought : ℕ → List WindowRecord → List WindowRecord
brought s ws = in_front (record_with s ws) (without s ws)

-- the windows, the one of this serial behind that one, or at the back of its class
abbrev pub sent : SendBehind → List WindowRecord → List WindowRecord
sent b ws = behind_this b.behind (record_with b.window ws) (without b.window ws)

-- the windows, the one of this serial changed
abbrev pub changed : ℕ → (WindowRecord → WindowRecord) → List WindowRecord → List WindowRecord
changed s f [] = []
changed s f (w ∷ ws) = if w.serial == s then f w ∷ ws else w ∷ changed s f ws

-- the window at this place, and not zoomed
abbrev pub at_place : Point → WindowRecord → WindowRecord
at_place place w = record w { place = place; user_state = None }

abbrev pub with_shown : Bool → WindowRecord → WindowRecord
with_shown shown w = record w { shown = shown }

-- the window, which lies so, and its definition, which was told its size and whether it is zoomed
abbrev pub with_placement : Placement → WindowDefinition → WindowRecord → WindowRecord
with_placement to d w = record w {
  place = to.place;
  size = to.size;
  user_state = to.user_state;
  heard = record w.heard { zoomed = is_some to.user_state };
  definition = d;
}

abbrev pub is_visible : Option WindowRecord → Bool
is_visible None = false
is_visible (Some w) = w.shown

-- it is there, visible and ordinary: one that may become active
abbrev pub may_lead : Option WindowRecord → Bool
may_lead None = false
may_lead (Some w) = is_leading w

-- two places are one
abbrev pub same_place : Point → Point → Bool
same_place a b = int_eq a.h b.h && int_eq a.v b.v

-- how far it is from one place to another, where that is another one
abbrev pub way_between : Point → Point → Option Point
way_between from to = if same_place from to then None else Some (minus to from)

-- how far it is to the place from that of the window, if there is one and it lies elsewhere
abbrev pub way_to : Point → Option WindowRecord → Option Point
way_to place None = None
way_to place (Some w) = way_between w.place place

-- ---- the calls

-- a visible window becomes active by this, and a hidden one changes nothing
abbrev pub if_visible : Option WindowRecord → Activates → Activates
if_visible w activates = if is_visible w then activates else Nothing

-- how a call arranges the windows: which one it is about, how far that one's content moves, if it does, their new order and
-- standing, and what becomes active
pub record Arrangement : Type 0 where
  pub window : ℕ
  pub by : Option Point
  pub windows : List WindowRecord
  pub activates : Activates

-- the window becomes active where it may
abbrev pub if_leading : Option WindowRecord → Activates
if_leading w = if may_lead w then Itself else Nothing

-- the window is brought to the front of its class, and becomes active if it is visible and ordinary
abbrev pub selected : ℕ → List WindowRecord → Arrangement
selected s ws = record { window = s; by = None; windows = brought s ws; activates = if_leading (record_with s ws) }

-- the window is brought to the front of its class, and no highlighting changes
abbrev pub brought_forward : ℕ → List WindowRecord → Arrangement
brought_forward s ws = record { window = s; by = None; windows = brought s ws; activates = Nothing }

-- the window goes behind another or to the back of its class; where it was active, the first visible ordinary window
-- becomes so, if that is another
abbrev pub sent_behind : SendBehind → List WindowRecord → Arrangement
sent_behind b ws = record { window = b.window; by = None; windows = sent b ws; activates = NextInItsPlace }

-- the window is moved, and selected where that is asked
abbrev pub moved : MoveWindow → List WindowRecord → Arrangement
moved m ws = let there = changed m.window (at_place m.place) ws in record {
  window = m.window;
  by = way_to m.place (record_with m.window ws);
  windows = if m.select then brought m.window there else there;
  activates = if m.select then if_leading (record_with m.window ws) else Nothing;
}

-- a hidden window becomes visible, and active where it is the first visible ordinary one then; a visible one stays
abbrev pub made_visible : ℕ → List WindowRecord → Arrangement
made_visible s ws = record {
  window = s;
  by = None;
  windows = changed s (with_shown true) ws;
  activates = if is_visible (record_with s ws) then Nothing else ItselfIfFront;
}

-- a visible window becomes hidden, and where it was active the first visible ordinary one becomes so, or none where there
-- is none; a hidden one stays
abbrev pub made_hidden : ℕ → List WindowRecord → Arrangement
made_hidden s ws = record {
  window = s;
  by = None;
  windows = changed s (with_shown false) ws;
  activates = if_visible (record_with s ws) FrontInItsPlace;
}

-- the window becomes visible or hidden, and no highlighting changes
abbrev pub made_so : ShowHide → List WindowRecord → Arrangement
made_so c ws = record { window = c.window; by = None; windows = changed c.window (with_shown c.shown) ws; activates = Nothing }

-- the window lies so, with its definition, which was told its size; no highlighting changes
abbrev pub placed : Placing → WindowDefinition → List WindowRecord → Arrangement
placed p d ws = record {
  window = p.window;
  by = p.by;
  windows = changed p.window (with_placement p.to d) ws;
  activates = Nothing;
}
