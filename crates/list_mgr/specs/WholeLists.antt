-- What holds of the lists of a desk and of their stock between calls, and their state as plain data.
use Rattle.std.specs.Prelude.{◌≡◌, ◌≤◌, ◌≤ℤ◌, ℕ, true, false, not, List, [], length, map, All}
use Rattle.std.specs.List.{filter}
use Rattle.def_iface.specs.Slots.{TakenBox}
use Rattle.def_iface.specs.declared.size.Size.{Size}
use Rattle.def_iface.specs.declared.window_def.Stage.TheVariants.{Live}
use Rattle.def_iface.specs.ControlMeaning.{ControlLoan}
use Rattle.def_iface.specs.ListMeaning.{ListDefinition, ListGoesBy, ListLoan}
use Rattle.def_iface.specs.WindowMeaning.{WindowLoan}
use Rattle.def_iface.specs.WindowSlots.{WindowSlot}
use Rattle.list_cells.specs.Contents.{bytes_held}
use Rattle.list_cells.specs.Grids.{Grid, IsGrid}
use Rattle.window_items.specs.Items.{AreApart, are_before, count_of, items_of}
use Rattle.list_mgr.specs.Seen.{all_seen}
use Rattle.list_view.specs.Axes.{bound}
use Rattle.list_view.specs.Views.{IsView, View}
use Rattle.vis_update.specs.Records.{WindowRecord}
use Rattle.window_mgr.specs.declared.manager.WindowManager.{WindowManager}
use Rattle.window_mgr.specs.DeskStates.{Opened, desk_with}
use Rattle.window_mgr.specs.Records.{desk_of, state_of, state_showing}
use Rattle.window_mgr.specs.Refused.{is_missing}
use Rattle.window_mgr.specs.Whole.{IsWholeManager}
use Rattle.control_mgr.specs.declared.controls.Controls.{Controls}
use Rattle.control_mgr.specs.ControlDesks.{ControlSlot, ControlsState, controls_show}
use Rattle.control_mgr.specs.InUse.{AreStocked}
use Rattle.control_mgr.specs.WholeControls.{AreWholeControls, controls_state}
use Rattle.list_mgr.specs.declared.lists.Lists.{Lists}
use Rattle.list_mgr.specs.ListDesks.{KeptList, ListDesk, ListSlot, ListsState, lists_show}
use Rattle.list_mgr.specs.ListRefusals.{most_lists}
use Rattle.list_mgr.specs.ListSteps.{AreListLayers}
use Rattle.tb_geom.specs.Points.{PixelSet}
use Rattle.desk_layers.specs.declared.part.Part.{Part}

-- the size of the cells of a view
abbrev pub cell_size : View → Size
cell_size v = record { width = v.across.cell; height = v.down.cell }

-- the view of these cells is scrolled no further than it may be
pub record IsWithinBounds (g : Grid) (v : View) : Type 0 where
  pub across : v.first.column ≤ℤ bound v.across g.columns
  pub down : v.first.row ≤ℤ bound v.down g.rows

-- how many of the cells are selected
abbrev pub count_selected : Grid → ℕ
count_selected g = length (filter (λ c. c.selected) g.contents)

-- a list between calls: its definition is live, was told the size of its cells and whether an empty one is highlighted, and goes
-- by that; its view and its cells are such, and these hold no more bytes than may be; it is scrolled no further than it may be; and
-- with lOnlyOne no two of its cells are selected
pub record IsSettledList (l : KeptList) : Type 0 where
  pub live : l.kept.definition.definition.stage ≡ Live
  pub told : l.kept.definition.definition.size ≡ cell_size l.kept.view
  pub goes_by : ListGoesBy (cell_size l.kept.view) (not l.kept.flags.no_nil_hilite) l.kept.definition.definition
  pub view : IsView l.kept.view
  pub grid : IsGrid l.kept.cells
  pub short : bytes_held l.kept.cells.contents ≤ 32000
  pub scrolled : IsWithinBounds l.kept.cells l.kept.view
  pub single : l.kept.flags.only_one ≡ true → count_selected l.kept.cells ≤ 1

abbrev pub AreSettled : List KeptList → Type 0
AreSettled ls = All IsSettledList ls

-- each of another serial
abbrev pub AreListsApart : List KeptList → Type 0
AreListsApart ls = AreApart ls

abbrev pub AreLiveLists : List KeptList → Type 0
AreLiveLists ls = All (λ l. l.kept.definition.definition.stage ≡ Live) ls

-- the slots of the lists' definitions
abbrev pub slots_of : List KeptList → List ℕ
slots_of ls = map (λ l. l.kept.definition.slot) ls

-- the lists of these windows, between calls: settled, each of another serial that was given before, in a window that is there,
-- and no window has more than it may have; the layers of each window that are lists' are those of its own; and the empty slots
-- of the stock are those of their definitions
pub record AreWholeLists (windows : List WindowRecord) (s : ListsState) : Type 0 where
  pub settled : AreSettled s.lists
  pub apart : AreListsApart s.lists
  pub given : are_before s.next s.lists ≡ true
  pub somewhere : All (λ l. is_missing l.window windows ≡ false) s.lists
  pub few : (window : ℕ) → count_of window s.lists ≤ most_lists
  pub joined : All (λ w. AreListLayers (items_of w.serial s.lists) w.layers) windows
  pub stocked : AreStocked (λ (d : ListDefinition). d.stage) (slots_of s.lists) s.stock

-- `list_loan` says what a list's definition that was taken means
module _ {X : Type 0} {L : X → Type 0} (list_loan : TakenBox X L → ListLoan) where
  -- the lists as plain data
  abbrev pub records_of : Lists (TakenBox X L) → List KeptList
  records_of m = all_seen list_loan m.list.items.items

  abbrev pub lists_state : Lists (TakenBox X L) → List ListSlot → ListsState
  lists_state m slots = record { lists = records_of m; next = m.list.next; stock = slots }

  -- `loan` says it of a window's
  module _ {V : Type 0} {H : V → Type 0} (loan : TakenBox V H → WindowLoan) where
    -- the lists are whole beside these windows over some slots
    pub record AreBeside (t : WindowManager V H) (m : Lists (TakenBox X L)) : Type 0 where
      pub slots : List ListSlot
      pub whole : AreWholeLists (desk_of loan t []).windows (lists_state m slots)

    -- windows, controls and lists with what is open, as a desk where other layers show this
    abbrev pub list_desk : WindowManager V H → (List ℕ → Part → PixelSet) → Opened → List WindowSlot → ControlsState → Lists (TakenBox X L) → List ListSlot → ListDesk
    list_desk t others o slots cs m kept = record {
      desk = desk_with o (state_showing (controls_show (lists_show others (records_of m)) cs.controls) (state_of loan t slots));
      controls = cs;
      lists = lists_state m kept;
      others = others;
    }

    -- a call that asks something changes nothing: over any slots over which windows and lists are whole, and whatever the controls and
    -- other layers show, together they are such a step of the desk
    abbrev pub IsToldOver : (ListDesk → ListDesk → Type 0) → WindowManager V H → Lists (TakenBox X L) → Type 0
    IsToldOver step t m = (others : List ℕ → Part → PixelSet) (o : Opened) (slots : List WindowSlot) (cs : ControlsState) (kept : List ListSlot) → IsWholeManager loan t slots
        → AreWholeLists (desk_of loan t []).windows (lists_state m kept)
        → step (list_desk t others o slots cs m kept) (list_desk t others o slots cs m kept)

    -- a call that leaves the windows' records, controls and stocks: over any slots over which windows and lists are whole, and
    -- whatever the controls and other layers show, they are whole afterwards, and together they are such a step of the desk
    abbrev pub IsChangedOver : (ListDesk → ListDesk → Type 0) → WindowManager V H → Lists (TakenBox X L) → WindowManager V H → Lists (TakenBox X L) → Type 0
    IsChangedOver step t m u n = (others : List ℕ → Part → PixelSet) (o : Opened) (slots : List WindowSlot) (cs : ControlsState) (kept : List ListSlot) → IsWholeManager loan t slots
        → AreWholeLists (desk_of loan t []).windows (lists_state m kept)
        → IsWholeManager loan u slots × ((desk_of loan u []).windows ≡ (desk_of loan t []).windows)
        × AreWholeLists (desk_of loan u []).windows (lists_state n kept)
        × step (list_desk t others o slots cs m kept) (list_desk u others o slots cs n kept)

    -- `control_loan` says it of a control's
    module _ {W : Type 0} {K : W → Type 0} (control_loan : TakenBox W K → ControlLoan) where
      -- whatever other layers show, over any slots over which the windows are whole, and over these of the stocks of controls and of
      -- lists, all are whole afterwards, and together they are such a step of the desk
      abbrev pub LeavesOver : List ControlSlot → List ControlSlot → List ListSlot → List ListSlot → (ListDesk → ListDesk → Type 0)
          → WindowManager V H → Controls (TakenBox W K) → Lists (TakenBox X L)
          → WindowManager V H → Controls (TakenBox W K) → Lists (TakenBox X L) → Type 0
      LeavesOver held left kept rest step t c m u d n = (others : List ℕ → Part → PixelSet) (o : Opened) (slots : List WindowSlot) → IsWholeManager loan t slots
          → AreWholeControls (desk_of loan t []).windows (controls_state control_loan c held)
          → AreWholeLists (desk_of loan t []).windows (lists_state m kept)
          → IsWholeManager loan u slots
          × AreWholeControls (desk_of loan u []).windows (controls_state control_loan d left)
          × AreWholeLists (desk_of loan u []).windows (lists_state n rest)
          × step (list_desk t others o slots (controls_state control_loan c held) m kept) (list_desk u others o slots (controls_state control_loan d left) n rest)

      -- so over any slots of these stocks, which a call leaves alone
      abbrev pub LeavesLists : (ListDesk → ListDesk → Type 0)
          → WindowManager V H → Controls (TakenBox W K) → Lists (TakenBox X L)
          → WindowManager V H → Controls (TakenBox W K) → Lists (TakenBox X L) → Type 0
      LeavesLists step t c m u d n = (held : List ControlSlot) (kept : List ListSlot) → LeavesOver held held kept kept step t c m u d n
