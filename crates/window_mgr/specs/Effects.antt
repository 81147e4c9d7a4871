-- What calls do: the kinds of effect, and which has which.
use Rattle.std.specs.Prelude.{◌≡◌, ℕ, Bool, true, false, not, ◌&&◌, ◌||◌, if◌then◌else◌, ◌==◌, List, [], ◌∷◌, ◌++◌, map, Option, None, Some, pos}
use Rattle.tb_geom.specs.declared.point.Point.{Point}
use Rattle.tb_geom.specs.Points.{PixelSet, plus, minus}
use Rattle.draw_port.specs.declared.shapes.Op.{Op}
use Rattle.draw_port.specs.Ops.{op_value}
use Rattle.lent_ops.specs.Asked.{asked_holds}
use Rattle.lent_ops.specs.OpRefs.{IsMeant}
use Rattle.std.specs.Option.{is_some}
use Rattle.def_iface.specs.WindowNews.{WindowNews, AllWindowNews, told_placed, new_window_news}
use Rattle.def_iface.specs.declared.size.Size as sizes
use Rattle.def_iface.specs.declared.window_def.Stage.TheVariants.{Live}
use Rattle.def_iface.specs.WindowMeaning.{WindowDefinition, WindowLoan, SameRegions, WindowHears, IsBegun}
use Rattle.def_iface.specs.WindowSlots.{IsTaken}
use Rattle.desk_layers.specs.Desk.{on_screen}
use Rattle.desk_layers.specs.declared.part.Part.TheVariants.{Picture}
use Rattle.desk_layers.specs.Owner.{same_owner}
use Rattle.desk_layers.specs.Owner.Owner.{Content}
use Rattle.desk_layers.specs.Change.{Change, no_change, IsChanged}
use Rattle.window_list.specs.Classes.{put_front}
use Rattle.window_list.specs.Lists.{serial_after}
use Rattle.vis_update.specs.Records.{WindowRecord, is_floating}
use Rattle.vis_update.specs.Touches.{moving}
use Rattle.vis_update.specs.Contents.{scroll_change}
use Rattle.desk_call.specs.declared.window.WindowCall.{WindowCall}
use Rattle.desk_call.specs.declared.window.WindowCall.TheVariants.{New, NewFloating, Dispose, Show, Hide, ShowHide, Select, BringToFront, SendBehind, Move, Size, Zoom, Draw, SetPicture, Scroll, Find, Front, Info, VisibleRegion, UpdateRegion, Region}
use Rattle.desk_call.specs.declared.window.Drawing.{Drawing}
use Rattle.desk_call.specs.declared.window.NewPicture.{NewPicture}
use Rattle.desk_call.specs.declared.window.NewWindow.{NewWindow}
use Rattle.desk_call.specs.declared.window.ScrollPicture.{ScrollPicture}
use Rattle.window_mgr.specs.declared.arrange.Activates.TheVariants.{FrontInItsPlace}
use Rattle.desk_call.specs.declared.window.WindowReply.{WindowReply}
use Rattle.desk_call.specs.declared.window.WindowReply.TheVariants as reply
use Rattle.window_mgr.specs.FullDesk.{FullDesk, FullState, layered_desk, layered_state}
use Rattle.window_mgr.specs.Finding.{record_with, found_at, front_of, info_of}
use Rattle.window_mgr.specs.Arrange.{Arrangement, with_highlighting, desk_arranged, without, selected, brought_forward, sent_behind, moved, made_visible, made_hidden, made_so, placed}
use Rattle.window_mgr.specs.Placings.{Placing, sized, zoomed}
use Rattle.window_mgr.specs.Closing.{IsShut, loan_of}
use Rattle.window_mgr.specs.Telling.{IsRegionTold, visible_of, update_of}

-- a new window is highlighted where it is visible, and one that floats always
abbrev pub begins_highlighted : Bool → NewWindow → Bool
begins_highlighted floating w = w.shown || floating

-- all that the definition of a new window is told
abbrev pub first_news : Bool → NewWindow → AllWindowNews
first_news floating w = new_window_news w.size w.title w.go_away (begins_highlighted floating w)

-- the record that a new window gets
abbrev pub new_record : Bool → NewWindow → ℕ → ℕ → WindowDefinition → WindowRecord
new_record floating w serial slot d = record {
  serial = serial;
  place = w.place;
  size = w.size;
  user_state = None;
  shown = w.shown;
  floating = floating;
  highlighted = begins_highlighted floating w;
  title = w.title;
  go_away = w.go_away;
  heard = record { highlighted = begins_highlighted floating w; zoomed = false; tracked = false };
  picture = [];
  origin = record { h = pos 0; v = pos 0 };
  layers = [];
  definition = d;
  slot = slot;
}

-- a new window is visible and ordinary
abbrev pub begins_active : Bool → NewWindow → Bool
begins_active floating w = w.shown && not floating

-- a new window at the front of its class: a visible ordinary one becomes active, in place of the window that was
abbrev pub desk_with_new : Bool → NewWindow → ℕ → ℕ → WindowDefinition → FullDesk → FullDesk
desk_with_new floating w serial slot d desk = record desk {
  windows = put_front is_floating (new_record floating w serial slot d)
      (if begins_active floating w then map (with_highlighting false desk.active) desk.windows else desk.windows);
  active = if begins_active floating w then Some serial else desk.active;
  next = serial_after serial;
}

-- a new window was made, of this serial, which floats or does not
pub record IsNewWindow (floating : Bool) (w : NewWindow) (serial : ℕ) (before after : FullState) : Type 0 where
  pub loan : WindowLoan
  pub begun : WindowDefinition
  pub serials : before.desk.next ≡ Some serial
  pub taken : IsTaken w.kind loan before.desk.stock after.desk.stock
  pub live : IsBegun (first_news floating w) loan.definition begun
  pub desk : after.desk ≡ record (desk_with_new floating w serial loan.slot begun before.desk) { stock = after.desk.stock }
  pub pixels : IsChanged no_change (layered_state before) (layered_state after)

-- the window has the operation too, if it is the one of this serial
abbrev pub with_drawn : ℕ → Op → WindowRecord → WindowRecord
with_drawn s op w = if w.serial == s then record w { picture = w.picture ++ op ∷ [] } else w

-- the change of a call that draws an operation, in this font, on every pixel that the picture of the window of this
-- serial owns
abbrev pub draw_change : List ℕ → ℕ → WindowRecord → Op → Change
draw_change font s w op = record no_change {
  drawn = λ o p value.
      if same_owner o (Content s Picture) then op_value font op (minus (minus p w.place) w.origin) value else value;
}

-- the operation was kept in the window's picture, and drawn
pub record IsDrawn (d : Drawing) (before after : FullState) : Type 0 where
  pub window : WindowRecord
  pub operation : Op
  pub found : record_with d.window before.desk.windows ≡ Some window
  pub meant : IsMeant d.operation operation
  pub desk : after.desk ≡ record before.desk { windows = map (with_drawn d.window operation) before.desk.windows }
  pub pixels : IsChanged (draw_change before.desk.font d.window window operation) (layered_state before) (layered_state after)

-- the window has the new picture, if it is the one that is to have it
abbrev pub with_new_picture : NewPicture → WindowRecord → WindowRecord
with_new_picture n w = if w.serial == n.window then record w { picture = n.picture; origin = n.origin } else w

-- the change of a call by which all that the picture of this window owns is to be redrawn
abbrev pub picture_change : ℕ → Change
picture_change s = record no_change { added = λ o p. same_owner o (Content s Picture) }

-- the window got another picture
pub record IsPictureSet (n : NewPicture) (before after : FullState) : Type 0 where
  pub desk : after.desk ≡ record before.desk { windows = map (with_new_picture n) before.desk.windows }
  pub pixels : IsChanged (picture_change n.window) (layered_state before) (layered_state after)

-- the window's picture lies elsewhere in it, if it is the one that was scrolled
abbrev pub with_scrolled : ScrollPicture → WindowRecord → WindowRecord
with_scrolled m w = if w.serial == m.window then record w { origin = plus w.origin m.by } else w

-- the window's picture was scrolled
pub record IsScrolled (m : ScrollPicture) (before after : FullState) : Type 0 where
  pub desk : after.desk ≡ record before.desk { windows = map (with_scrolled m) before.desk.windows }
  pub pixels : IsChanged (scroll_change m.window m.by) (layered_state before) (layered_state after)

-- nothing changed
pub record IsUnchanged (before after : FullState) : Type 0 where
  pub desk : after.desk ≡ before.desk
  pub stale : (p : Point) → on_screen (layered_desk before.desk) p ≡ true → after.stale p ≡ before.stale p
  pub image : (p : Point) → on_screen (layered_desk before.desk) p ≡ true → after.image p ≡ before.image p

-- the windows were arranged so
pub record IsArrangement (a : Arrangement) (before after : FullState) : Type 0 where
  pub desk : after.desk ≡ desk_arranged a.windows a.activates a.window before.desk
  pub pixels : IsChanged (moving a.window a.by) (layered_state before) (layered_state after)

-- what a live definition is once it was told this, and has this size
pub record IsToldSize (size : sizes.Size) (news : WindowNews → WindowNews) (old new : WindowDefinition) : Type 0 where
  pub live : new.stage ≡ Live
  pub told : new.size ≡ size
  pub regions : SameRegions old new
  pub heard : WindowHears news old new

-- the window lies so now, and its definition was told its size
pub record IsWindowPlaced (p : Placing) (before after : FullState) : Type 0 where
  pub window : WindowRecord
  pub definition : WindowDefinition
  pub found : record_with p.window before.desk.windows ≡ Some window
  pub told : IsToldSize p.to.size (told_placed p.to.size (is_some p.to.user_state)) window.definition definition
  pub arranged : IsArrangement (placed p definition before.desk.windows) before after

-- the window of this serial is there no more, and its definition went back Closed into its slot; where it was active, the
-- first visible ordinary window became so, or none
pub record IsWindowDisposed (s : ℕ) (before after : FullState) : Type 0 where
  pub window : WindowRecord
  pub found : record_with s before.desk.windows ≡ Some window
  pub shut : IsShut (loan_of window) before.desk.stock after.desk.stock
  pub desk : after.desk
      ≡ record (desk_arranged (without s before.desk.windows) FrontInItsPlace s before.desk) { stock = after.desk.stock }
  pub pixels : IsChanged no_change (layered_state before) (layered_state after)

-- the kinds of effect that a call can have
pub data Effect : Type 0 where
  Makes : (floating : Bool) → (window : NewWindow) → Effect
  Disposes : (window : ℕ) → Effect
  Draws : (drawing : Drawing) → Effect
  Pictures : (picture : NewPicture) → Effect
  Scrolls : (scroll : ScrollPicture) → Effect
  Arranges : (arrangement : Arrangement) → Effect
  Places : (placing : Placing) → Effect
  Tells : (answer : WindowReply) → Effect
  Describes : (region : FullState → PixelSet) → Effect

-- where a call puts no window elsewhere nothing changes
abbrev pub places : Option Placing → Effect
places None = Tells reply.Done
places (Some p) = Places p

-- the effect of a call that nothing refuses
abbrev pub effect_of : WindowCall → FullDesk → Effect
effect_of (New w) desk = Makes false w
effect_of (NewFloating w) desk = Makes true w
effect_of (Dispose s) desk = Disposes s
effect_of (Draw d) desk = Draws d
effect_of (SetPicture n) desk = Pictures n
effect_of (Scroll m) desk = Scrolls m
effect_of (Select s) desk = Arranges (selected s desk.windows)
effect_of (BringToFront s) desk = Arranges (brought_forward s desk.windows)
effect_of (SendBehind b) desk = Arranges (sent_behind b desk.windows)
effect_of (Move m) desk = Arranges (moved m desk.windows)
effect_of (Show s) desk = Arranges (made_visible s desk.windows)
effect_of (Hide s) desk = Arranges (made_hidden s desk.windows)
effect_of (ShowHide c) desk = Arranges (made_so c desk.windows)
effect_of (Size z) desk = places (sized z (record_with z.window desk.windows))
effect_of (Zoom z) desk = places (zoomed z (record_with z.window desk.windows) desk)
effect_of (Find p) desk = Tells (reply.Found (found_at desk p))
effect_of Front desk = Tells (reply.Front (front_of desk.windows))
effect_of (Info s) desk = Tells (info_of (record_with s desk.windows))
effect_of (VisibleRegion s) desk = Describes (visible_of s)
effect_of (UpdateRegion s) desk = Describes (update_of s)
effect_of (Region r) desk = Describes (λ state. asked_holds r)

-- what a call of such an effect answers and leaves: a call that tells something, or describes a region, changes nothing
abbrev pub IsEffect : Effect → WindowReply → FullState → FullState → Type 0
IsEffect (Makes floating w) answer before after =
    (serial : ℕ) × (answer ≡ reply.Made serial) × IsNewWindow floating w serial before after
IsEffect (Disposes s) answer before after = (answer ≡ reply.Done) × IsWindowDisposed s before after
IsEffect (Draws d) answer before after = (answer ≡ reply.Done) × IsDrawn d before after
IsEffect (Pictures n) answer before after = (answer ≡ reply.Done) × IsPictureSet n before after
IsEffect (Scrolls m) answer before after = (answer ≡ reply.Done) × IsScrolled m before after
IsEffect (Arranges a) answer before after = (answer ≡ reply.Done) × IsArrangement a before after
IsEffect (Places p) answer before after = (answer ≡ reply.Done) × IsWindowPlaced p before after
IsEffect (Tells r) answer before after = (answer ≡ r) × IsUnchanged before after
IsEffect (Describes region) answer before after = IsRegionTold (region before) answer × IsUnchanged before after
