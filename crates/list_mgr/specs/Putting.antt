-- A new list planned and put, as the code does it.
use Rattle.std.specs.Prelude.{◌≡◌, ◌+◌, ◌<◌, ◌≤◌, ℕ, true, false, if◌then◌else◌, not, All, List, [], length, nat_abs, None, Some, slice_index_or, vec_capacity}
use Rattle.std.specs.List.{insert}
use Rattle.tb_geom.specs.Pixels.{Pixels}
use Rattle.tb_geom.specs.Rects.{is_in_range, moved_rect}
use Rattle.desk_layers.specs.declared.part.Part.TheVariants as part
use Rattle.def_iface.specs.ControlMeaning.{ControlDefinition, ControlLoan}
use Rattle.desk_layers.specs.Desk.{same_part}
use Rattle.def_iface.specs.ListMeaning.{ListLoan}
use Rattle.def_iface.specs.WindowMeaning.{WindowLoan}
use Rattle.def_iface.specs.Slots.{IsTaken, TakenBox}
use Rattle.def_iface.specs.WindowSlots.{WindowSlot}
use Rattle.window_list.specs.declared.layer.Layer.{Layer}
use Rattle.window_list.specs.Holders.{ArePartsApart, PlacedLayers}
use Rattle.list_cells.specs.Clicks.{flags_number}
use Rattle.list_cells.specs.Grids.{IsGrid, empty_grid}
use Rattle.window_items.specs.Items.{count_of}
use Rattle.list_view.specs.Views.{IsView, view_rect}
use Rattle.desk_call.specs.declared.list.NewList.{NewList}
use Rattle.vis_update.specs.declared.area.Area.{Area}
use Rattle.window_list.specs.declared.window.Window.{Window}
use Rattle.window_mgr.specs.declared.manager.WindowManager.{WindowManager}
use Rattle.window_mgr.specs.DeskStates.{Opened}
use Rattle.window_mgr.specs.Edits.{IsWindowAt, StandsAt}
use Rattle.window_mgr.specs.Records.{desk_of}
use Rattle.window_mgr.specs.Relayered.{IsPlanOfLayers, MayHaveLayers}
use Rattle.window_mgr.specs.Whole.{IsWholeManager}
use Rattle.control_mgr.specs.declared.controls.Controls.{Controls}
use Rattle.control_mgr.specs.declared.making.Addition.{Addition}
use Rattle.control_mgr.specs.declared.making.Ticket.{Ticket}
use Rattle.control_mgr.specs.ControlDesks.{ControlSlot, ControlsState}
use Rattle.control_mgr.specs.Making.{IsAddition, IsGrown, IsReadyToAdd}
use Rattle.control_mgr.specs.Planned.{IsLaidSo}
use Rattle.control_mgr.specs.WholeControls.{AreWholeControls, controls_state}
use Rattle.list_mgr.specs.declared.judging.ListTicket.{ListTicket}
use Rattle.list_mgr.specs.declared.lists.Lists.{Lists}
use Rattle.list_mgr.specs.declared.planning.Laid.{Laid}
use Rattle.list_mgr.specs.declared.new_bars.Bar.{Bar}
use Rattle.list_mgr.specs.declared.planning.Planned.{Planned}
use Rattle.list_mgr.specs.declared.planning.PlannedWithBar.{PlannedWithBar}
use Rattle.list_mgr.specs.declared.planning.PlannedWithBars.{PlannedWithBars}
use Rattle.list_mgr.specs.ListDesks.{KeptList, ListDesk, ListSlot}
use Rattle.list_mgr.specs.ListRefusals.{most_lists, scroll_kind, view_of}
use Rattle.list_mgr.specs.ListSteps.{IsLayerOf}
use Rattle.list_mgr.specs.Making.{IsListTicket}
use Rattle.list_mgr.specs.NewBars.{bar_control, bar_ticket, horizontal_of, vertical_of}
use Rattle.list_mgr.specs.WholeLists.{AreWholeLists, list_desk, lists_state}
use Rattle.tb_geom.specs.Points.{PixelSet}
use Rattle.desk_layers.specs.declared.part.Part.{Part}

-- nothing but the room for lists is another, and there is no less of it
pub record AreRoomier {D : Type 0} (old new : Lists D) : Type 0 where
  pub lists : new.list.items.items ≡ old.list.items.items
  pub next : new.list.next ≡ old.list.next
  pub alloc : new.alloc ≡ old.alloc
  pub room : vec_capacity old.list.items ≤ vec_capacity new.list.items

-- the view and the cells of a new list are such
pub record IsGoodList (n : NewList) : Type 0 where
  pub view : IsView (view_of n)
  pub grid : IsGrid (empty_grid (nat_abs n.columns) (nat_abs n.rows))

-- ---- plans

-- a layer for the list of this ticket may be put behind these: they are apart, none is a list's of its serial, and the list may
-- lie where their window does
pub record MayLay (k : ListTicket) (ls : PlacedLayers) : Type 0 where
  pub apart : ArePartsApart ls.layers
  pub unused : All (λ l. same_part l.part (part.List k.serial) ≡ false) ls.layers
  pub fits : is_in_range (moved_rect (view_rect k.view) ls.place.h ls.place.v) ≡ true

-- `loan` says what a window's definition that was taken means
module _ {V : Type 0} {H : V → Type 0} (loan : TakenBox V H → WindowLoan) where
  -- these layers with that of the list of this ticket behind them, which the window in `u` may have, and what changes by them
  pub record IsPlanOfList (k : ListTicket) (ls : PlacedLayers) (u : WindowManager V H) (l : Laid) : Type 0 where
    pub layer : Layer
    pub part_is : layer.part ≡ part.List k.serial
    pub is : (x : KeptList) → x.serial ≡ k.serial → x.kept.view ≡ k.view → IsLayerOf x layer
    pub index : l.at ≡ length ls.layers
    pub layers : l.layers ≡ record ls { layers = insert ls.layers l.at layer }
    pub low : l.at < length l.layers.layers
    pub may : MayHaveLayers k.window u l.layers
    pub planned : IsPlanOfLayers loan k.window l.layers.layers (Some (part.List k.serial)) u l.relaying

-- what a new list is given that was judged: its window, which has room for it, and its serial, its flags and its view, which may
-- lie there
pub record IsPlace {V : Type 0} {H : V → Type 0} {D : Type 0} (n : NewList) (t : WindowManager V H) (m : Lists D) (k : ListTicket) : Type 0 where
  pub window : StandsAt t.windows.records.items n.window k.window
  pub serial : m.list.next ≡ Some k.serial
  pub flags : flags_number k.flags ≡ n.flags
  pub view : k.view ≡ view_of n
  pub good : IsGoodList n
  pub fits : (w : Window V H) → IsWindowAt t.windows.records.items k.window w → is_in_range (moved_rect (view_rect (view_of n)) w.place.h w.place.v) ≡ true
  pub few : count_of n.window m.list.items.items < most_lists

-- windows and lists among which the list of this ticket can be put as it was planned
pub record IsReadyToPut {V : Type 0} {H : V → Type 0} {D : Type 0} (loan : TakenBox V H → WindowLoan) (n : NewList) (k : ListTicket) (t : WindowManager V H) (m : Lists D) (p : Planned) : Type 0 where
  pub place : IsPlace n t m k
  pub cells : p.cells ≡ empty_grid (nat_abs n.columns) (nat_abs n.rows)
  pub layers : PlacedLayers
  pub lies : (w : Window V H) → IsWindowAt t.windows.records.items k.window w → w.layers ≡ layers
  pub planned : IsPlanOfList loan k layers t p.laid
  pub room : length m.list.items.items < vec_capacity m.list.items

-- ---- lists that are put

-- `list_loan` says it of a list's
module _ {X : Type 0} {L : X → Type 0} (list_loan : TakenBox X L → ListLoan) {V : Type 0} {H : V → Type 0} (loan : TakenBox V H → WindowLoan) where
  -- over any slots over which the windows are whole, and over these of the lists' stock, whatever the controls that are whole
  -- and what other layers show, all are whole afterwards, the controls as they were, and together they are such a step of the desk
  abbrev pub LeavesBeside : List ListSlot → List ListSlot → (ListDesk → ListDesk → Type 0)
      → WindowManager V H → Lists (TakenBox X L) → WindowManager V H → Lists (TakenBox X L) → Type 0
  LeavesBeside kept rest step t m u n = (others : List ℕ → Part → PixelSet) (o : Opened) (slots : List WindowSlot) (cs : ControlsState) → IsWholeManager loan t slots
      → AreWholeControls (desk_of loan t []).windows cs → AreWholeLists (desk_of loan t []).windows (lists_state list_loan m kept)
      → IsWholeManager loan u slots × AreWholeControls (desk_of loan u []).windows cs
      × AreWholeLists (desk_of loan u []).windows (lists_state list_loan n rest)
      × step (list_desk list_loan loan t others o slots cs m kept) (list_desk list_loan loan u others o slots cs n rest)

-- ---- scroll bars

module _ {V : Type 0} {H : V → Type 0} (loan : TakenBox V H → WindowLoan) {W : Type 0} {K : W → Type 0} (control_loan : TakenBox W K → ControlLoan) where
  -- a scroll bar's definition was taken out of a stock over which the controls are whole
  pub record IsBarTaken (d : ControlLoan) (t : WindowManager V H) (c : Controls (TakenBox W K)) : Type 0 where
    pub before : List ControlSlot
    pub left : List ControlSlot
    pub taken : IsTaken (λ (x : ControlDefinition). x.stage) scroll_kind d before left
    pub whole : AreWholeControls (desk_of loan t []).windows (controls_state control_loan c before)

  -- a scroll bar planned over these layers and this update region, and windows and controls to which it can be added
  pub record IsBarPlanned (window : ℕ) (b : Bar) (d : ControlDefinition) (k : Ticket) (ls : PlacedLayers) (update : Pixels) (t : WindowManager V H) (a : Addition) : Type 0 where
    pub grown : IsGrown (bar_control window b) d k ls a
    pub planned : (u : WindowManager V H) (c : Controls (TakenBox W K)) → IsReadyToAdd loan control_loan (bar_control window b) d k ls update t u c
        → IsAddition loan control_loan (bar_control window b) d u c a

  -- a list planned with the one scroll bar that is wanted
  pub record IsPlannedWithBar (n : NewList) (k : ListTicket) (d : ControlDefinition) (t : WindowManager V H) {D : Type 0} (c : Controls (TakenBox W K)) (m : Lists D) (p : PlannedWithBar) : Type 0 where
    pub serial : ℕ
    pub next : c.list.next ≡ Some serial
    pub bar : p.bar ≡ (if n.vertical_bar then vertical_of n else horizontal_of n)
    pub added : (w : Window V H) (a : Area) → IsWindowAt t.windows.records.items k.window w → a ≡ slice_index_or t.areas.items k.window a
        → IsBarPlanned n.window p.bar d (bar_ticket k.window serial k.controls p.bar) w.layers a.update t p.addition
    pub room : length c.list.items.items + 1 ≤ vec_capacity c.list.items
    pub cells : p.list.cells ≡ empty_grid (nat_abs n.columns) (nat_abs n.rows)
    pub laid : (u : WindowManager V H) → IsLaidSo loan k.window p.addition.layers p.addition.relaying.update t u → IsPlanOfList loan k p.addition.layers u p.list.laid
    pub list_room : length m.list.items.items < vec_capacity m.list.items

  -- a list of this ticket may be made with one scroll bar, whichever is wanted, with this definition
  pub record IsOneBarTicket {X : Type 0} {L : X → Type 0} (list_loan : TakenBox X L → ListLoan) (n : NewList) (d : ControlDefinition) (t : WindowManager V H) (c : Controls (TakenBox W K)) (m : Lists (TakenBox X L)) (k : ListTicket) : Type 0 where
    pub one : n.horizontal_bar ≡ not n.vertical_bar
    pub ticket : IsListTicket loan control_loan list_loan n (if n.vertical_bar then Some d else None) (if n.vertical_bar then None else Some d) t c m k

  -- ---- both bars

  -- two bars' definitions were taken out of a stock over which the controls are whole, one after the other
  pub record AreBarsTaken (d e : ControlLoan) (t : WindowManager V H) (c : Controls (TakenBox W K)) : Type 0 where
    pub before : List ControlSlot
    pub mid : List ControlSlot
    pub left : List ControlSlot
    pub vertical : IsTaken (λ (x : ControlDefinition). x.stage) scroll_kind d before mid
    pub horizontal : IsTaken (λ (x : ControlDefinition). x.stage) scroll_kind e mid left
    pub whole : AreWholeControls (desk_of loan t []).windows (controls_state control_loan c before)

  -- a list planned with both
  pub record IsPlannedWithBars (n : NewList) (k : ListTicket) (d e : ControlDefinition) (t : WindowManager V H) {D : Type 0} (c : Controls (TakenBox W K)) (m : Lists D) (p : PlannedWithBars) : Type 0 where
    pub serial : ℕ
    pub next : c.list.next ≡ Some serial
    pub first : p.first ≡ vertical_of n
    pub second : p.second ≡ horizontal_of n
    pub vertical : (w : Window V H) (a : Area) → IsWindowAt t.windows.records.items k.window w → a ≡ slice_index_or t.areas.items k.window a
        → IsBarPlanned n.window p.first d (bar_ticket k.window serial k.controls p.first) w.layers a.update t p.vertical
    pub horizontal : IsBarPlanned n.window p.second e (bar_ticket k.window (serial + 1) (k.controls + 1) p.second) p.vertical.layers p.vertical.relaying.update t p.horizontal
    pub room : length c.list.items.items + 2 ≤ vec_capacity c.list.items
    pub cells : p.list.cells ≡ empty_grid (nat_abs n.columns) (nat_abs n.rows)
    pub laid : (u : WindowManager V H) → IsLaidSo loan k.window p.horizontal.layers p.horizontal.relaying.update t u → IsPlanOfList loan k p.horizontal.layers u p.list.laid
    pub list_room : length m.list.items.items < vec_capacity m.list.items

  -- a list of this ticket may be made with both scroll bars, with these definitions
  pub record IsTwoBarTicket {X : Type 0} {L : X → Type 0} (list_loan : TakenBox X L → ListLoan) (n : NewList) (d e : ControlDefinition) (t : WindowManager V H) (c : Controls (TakenBox W K)) (m : Lists (TakenBox X L)) (k : ListTicket) : Type 0 where
    pub vertical_wanted : n.vertical_bar ≡ true
    pub horizontal_wanted : n.horizontal_bar ≡ true
    pub ticket : IsListTicket loan control_loan list_loan n (Some d) (Some e) t c m k
