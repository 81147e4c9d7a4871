-- What holds of each state that a Toolbox reaches.
use Rattle.std.specs.Prelude.{◌≡◌, ℕ, ◌+◌, ◌≤◌, pos, true, false, if◌then◌else◌, List, [], ◌∷◌, length, map, Option, None, Some, IfSome, All}
use Rattle.std.specs.Option.{is_some}
use Rattle.def_iface.specs.declared.window_def.Stage.TheVariants.{Live}
use Rattle.def_iface.specs.WindowMeaning.{WindowDefinition, WindowGoesBy}
use Rattle.def_iface.specs.WindowNews.{AllWindowNews}
use Rattle.def_iface.specs.MenuMeaning.{MenuGoesBy}
use Rattle.def_iface.specs.WindowSlots.{IsFull}
use Rattle.def_iface.specs.Stocks.{IsMenuFull, IsControlFull, IsListFull}
use Rattle.event_queue.specs.Events.{is_posted}
use Rattle.desk_call.specs.declared.activity.Activity.{Activity}
use Rattle.desk_call.specs.declared.activity.Activity.TheVariants.{Idle, Updating, Tracking, Pulling, TrackingControl, Dragging, Growing, Selecting}
use Rattle.vis_update.specs.Records.{WindowRecord, news_of}
use Rattle.window_mgr.specs.FullDesk.{FullDesk, IsRightState}
use Rattle.window_mgr.specs.Refused.{is_missing}
use Rattle.window_frame.specs.Followers.{AreInformed}
use Rattle.control_mgr.specs.ControlDesks.{ShowsControls}
use Rattle.control_mgr.specs.InUse.{AreStocked}
use Rattle.control_mgr.specs.WholeControls.{AreWholeControls, IsTrackable}
use Rattle.list_mgr.specs.GivenBars.{AreBarsGiven}
use Rattle.list_mgr.specs.WholeLists.{AreWholeLists}
use Rattle.text_record.specs.Texts.{Record}
use Rattle.text_mgr.specs.TextDesks.{TextsState}
use Rattle.text_mgr.specs.WholeTexts.{AreWholeTexts, IsSelectable}
use Rattle.menu_list.specs.Lists.{has_number, is_in_bar}
use Rattle.menu_mgr.specs.MenuDesks.{IsBarOf, MenuRecord, MenusState}
use Rattle.menu_mgr.specs.WholeMenus.{AreMenusStocked}
use Rattle.desk_toolbox.specs.Classes.{AreClassed, IsOrdinary}
use Rattle.desk_toolbox.specs.EventSteps.{first_events}
use Rattle.desk_toolbox.specs.ToolboxStates.{ToolboxState, with_controls}
use Rattle.desk_toolbox.specs.KnownLayers.{AreLayersKnown}

-- no window is meant, or one of these
abbrev pub IsThere : Option ℕ → List WindowRecord → Type 0
IsThere None windows = Unit {0}
IsThere (Some s) windows = is_missing s windows ≡ false

-- the window whose update is open, of which the go-away box or a control is tracked, that is dragged or grown, or in whose text
-- the mouse selects
abbrev pub open_window : Activity → Option ℕ
open_window Idle = None
open_window (Updating s) = Some s
open_window (Tracking s) = Some s
open_window (Pulling m) = None
open_window (TrackingControl k) = Some k.control.window
open_window (Dragging d) = Some d.window
open_window (Growing g) = Some g.window
open_window (Selecting k) = Some k.text.window

-- where the window's definition heard last that the go-away box is tracked, it is
abbrev pub IsTrackedIfHeard : Activity → WindowRecord → Type 0
IsTrackedIfHeard activity w = w.heard.tracked ≡ true → activity ≡ Tracking w.serial

-- the window's definition is live, was told the window's size, and goes by what the record says that it heard
pub record HasLiveDefinition (w : WindowRecord) : Type 0 where
  pub live : w.definition.stage ≡ Live
  pub told : w.definition.size ≡ w.size
  pub goes_by : WindowGoesBy (news_of w) w.definition

-- the empty slots of the stock are those of the windows' definitions, each of another, and the definitions in the other slots
-- are fresh or closed
abbrev pub AreWindowsStocked : FullDesk → Type 0
AreWindowsStocked desk = AreStocked (λ (d : WindowDefinition). d.stage) (map (λ w. w.slot) desk.windows) desk.stock

-- how many of the menus have this number
abbrev pub numbered : ℕ → List MenuRecord → ℕ
numbered id [] = 0
numbered id (l ∷ ls) = (if has_number (pos id) l then 1 else 0) + numbered id ls

-- no two menus have one number
abbrev pub AreMenusApart : List MenuRecord → Type 0
AreMenusApart menus = (id : ℕ) → numbered id menus ≤ 1

-- the item of a menu that is highlighted, if one is: of the pulled menu alone
abbrev pub highlighted_item : Activity → MenuRecord → Option ℕ
highlighted_item (Pulling m) l = if has_number (pos m.menu) l then m.item else None
highlighted_item _ l = None

-- a menu's definition goes by that
abbrev pub IsLit : Activity → MenuRecord → Type 0
IsLit activity l = MenuGoesBy (highlighted_item activity l) l.definition.definition

-- the menu that is pulled down is in the menu bar, and its title is the highlighted one
abbrev pub IsPulledThere : Activity → MenusState → Type 0
IsPulledThere (Pulling m) menus = (is_in_bar (pos m.menu) menus.menus ≡ true) × (menus.highlighted ≡ Some m.menu)
IsPulledThere _ menus = Unit {0}

-- no title is highlighted, or that of a menu in the menu bar
abbrev pub IsTitleInBar : MenusState → Type 0
IsTitleInBar menus = IfSome menus.highlighted (λ id. is_in_bar (pos id) menus.menus ≡ true)

-- the controls, the lists and the text records of a state are whole beside its windows, which show them, and have no other
-- layers
pub record AreContentsRight (s : ToolboxState) : Type 0 where
  pub controls : AreWholeControls s.desk.windows.desk.windows s.controls
  pub lists : AreWholeLists s.desk.windows.desk.windows s.lists
  pub texts : AreWholeTexts s.desk.windows.desk.windows s.texts
  pub known : AreLayersKnown s.desk.windows.desk.windows
  pub shown : ShowsControls (with_controls s)

-- no selection reaches past its text, and that has no more bytes than it may have
pub record IsHeld (r : Record) : Type 0 where
  pub order : r.start ≤ r.end
  pub within : r.end ≤ length r.text.bytes
  pub short : length r.text.bytes ≤ 32000

-- so of each text record, and the scrap has no more bytes than a text may have
pub record AreRecords (s : TextsState) : Type 0 where
  pub texts : All (λ t. IsHeld t.kept) s.texts
  pub scrap : length s.scrap ≤ 32000

-- a right state, in which the active window and the one last told active are ordinary windows of the desk, that of what is open
-- is one of its windows, and only events of kinds that are posted are queued. Windows that float stand in front of the others. Each window's definition is live and knows how the window stands, and none
-- heard last that a go-away box is tracked which is not. Its controls, lists and text records are whole, the control that is
-- tracked and the text record in which the mouse selects are there, and its windows show them. No selection reaches past its
-- text, and no text and no scrap is too long. The scroll bars of each list have serials that controls were given, and two bars of one list have
-- two. The menu bar has the titles of the menus that are inserted, no two menus have one number, and a highlighted title is in
-- the bar. The menu that is pulled down is there, and each menu's definition goes by which of its items is highlighted. The
-- stocks of windows and of menus have all definitions but those of the windows and menus that are there, as those of controls
-- and of lists have.
pub record IsConsistent (s : ToolboxState) : Type 0 where
  pub right : IsRightState s.desk.windows
  pub active : IsOrdinary s.desk.windows.desk.active s.desk.windows.desk.windows
  pub told : IsOrdinary s.events.told s.desk.windows.desk.windows
  pub classed : AreClassed s.desk.windows.desk.windows
  pub opened : IsThere (open_window s.desk.activity) s.desk.windows.desk.windows
  pub queued : All (λ e. is_posted e.what ≡ true) s.events.queue.events
  pub held : AreWindowsStocked s.desk.windows.desk
  pub live : All HasLiveDefinition s.desk.windows.desk.windows
  pub informed : AreInformed s.desk.windows.desk.windows
  pub tracked : All (IsTrackedIfHeard s.desk.activity) s.desk.windows.desk.windows
  pub contents : AreContentsRight s
  pub trackable : IsTrackable s.desk.activity s.controls.controls
  pub selectable : IsSelectable s.desk.activity s.texts.texts
  pub records : AreRecords s.texts
  pub bars : AreBarsGiven s.controls.next s.lists.lists
  pub bar : IsBarOf s.menus s.desk.windows.desk
  pub apart : AreMenusApart s.menus.menus
  pub pulled : IsPulledThere s.desk.activity s.menus
  pub lit : All (IsLit s.desk.activity) s.menus.menus
  pub title : IsTitleInBar s.menus
  pub stocked : AreMenusStocked s.menus.menus s.menus.stock

-- a right state of a desk that just began: it has no windows, no controls, no lists, no text records and no menus, the stocks of
-- all of them are full, nothing is in the scrap, and nothing is open, told or queued
pub record IsJustBegun (s : ToolboxState) : Type 0 where
  pub right : IsRightState s.desk.windows
  pub windows : s.desk.windows.desk.windows ≡ []
  pub stock : All IsFull s.desk.windows.desk.stock
  pub active : s.desk.windows.desk.active ≡ None
  pub next_window : s.desk.windows.desk.next ≡ Some 1
  pub idle : s.desk.activity ≡ Idle
  pub controls : s.controls.controls ≡ []
  pub next_control : s.controls.next ≡ Some 1
  pub held : All IsControlFull s.controls.stock
  pub lists : s.lists.lists ≡ []
  pub next_list : s.lists.next ≡ Some 1
  pub listed : All IsListFull s.lists.stock
  pub texts : s.texts.texts ≡ []
  pub next_text : s.texts.next ≡ Some 1
  pub scrap : s.texts.scrap ≡ []
  pub shown : ShowsControls (with_controls s)
  pub titles : s.desk.windows.desk.bar.titles ≡ []
  pub menus : s.menus.menus ≡ []
  pub kept : All IsMenuFull s.menus.stock
  pub highlighted : s.menus.highlighted ≡ None
  pub events : s.events ≡ first_events

-- all that there is to tell of a window, by how it stands, and by what its definition heard of its go-away box
abbrev pub news_by_record : WindowRecord → AllWindowNews
news_by_record w = record {
  size = w.size;
  title = w.title;
  highlighted = w.highlighted;
  closable = w.go_away;
  zoomed = is_some w.user_state;
  tracked = w.heard.tracked;
}
