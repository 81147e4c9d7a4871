-- One step of a call about lists: what it leaves, and what it answers.
use Rattle.std.specs.Prelude.{◌≡◌, ◌⊎◌, ℕ, ℤ, pos, nat_abs, Bool, true, false, not, List, [], ◌∷◌, ◌++◌, Option, None, Some, Result, Ok, is_none, slice_get}
use Rattle.std.specs.List.{AllZip, filter, remove}
use Rattle.std.specs.Option.{option_map_or}
use Rattle.tb_geom.specs.declared.point.Point.{Point}
use Rattle.tb_geom.specs.declared.refusal.Refusal.{Refusal}
use Rattle.tb_geom.specs.Pixels.{holds}
use Rattle.tb_geom.specs.Rects.{rect_holds}
use Rattle.tb_geom.specs.Refusals.{first_refusal}
use Rattle.control_values.specs.Settings.{Setting}
use Rattle.window_items.specs.Items.{items_of, edit_at, serial_after}
use Rattle.list_cells.specs.declared.cell.Cell.{Cell}
use Rattle.list_cells.specs.declared.click.SelectionFlags.{SelectionFlags}
use Rattle.list_cells.specs.Blocks.{clicked_cell}
use Rattle.list_cells.specs.Clicks.{flags_number, keys_of}
use Rattle.list_cells.specs.Grids.{Grid, columns_added, columns_deleted, content_of, empty_grid, first_from, next_cell, rows_added, rows_deleted, with_bytes}
use Rattle.list_cells.specs.Runs.{count_to_delete, place_to_add}
use Rattle.list_cells.specs.Selections.{chosen_cell}
use Rattle.std.specs.Str.{bytes_eq}
use Rattle.list_mgr.specs.Fields.{with_cells, with_drawing, with_view}
use Rattle.list_view.specs.Bars.{horizontal_bar, horizontal_setting, vertical_bar, vertical_setting}
use Rattle.list_view.specs.Views.{cell_at, scrolled, view_rect}
use Rattle.list_view.specs.Shown.{is_turned}
use Rattle.desk_layers.specs.declared.part.Part.{Part}
use Rattle.desk_layers.specs.declared.part.Part.TheVariants as part
use Rattle.def_iface.specs.ListMeaning.{IsListBegun, ListDefinition, ListLoan, SameListLook}
use Rattle.def_iface.specs.Closing as closing
use Rattle.def_iface.specs.Slots.{IsTaken}
use Rattle.desk_layers.specs.Change.{Change, IsChanged, no_change}
use Rattle.desk_layers.specs.Owner.{same_owner}
use Rattle.desk_layers.specs.Owner.Owner.{Content as ContentOf}
use Rattle.window_list.specs.declared.layer.Layer.{Layer}
use Rattle.window_list.specs.Holders.{layer_index}
use Rattle.desk_call.specs.declared.control.ControlCall.TheVariants as control_calls
use Rattle.desk_call.specs.declared.control.ControlOf.{ControlOf}
use Rattle.desk_call.specs.declared.control.ControlReply.TheVariants as control_reply
use Rattle.desk_call.specs.declared.control.NewControl.{NewControl}
use Rattle.desk_call.specs.declared.list.ListCall.{ListCall}
use Rattle.desk_call.specs.declared.list.ListCall.TheVariants.{New, Dispose, AddRows, AddColumns, DeleteRows, DeleteColumns, SetCell, AddToCell, ClearCell, GetCell, Select, IsSelected, FirstSelected, NextCell, Search, Click, Scroll, SetDrawing}
use Rattle.desk_call.specs.declared.list.ListClick.{ListClick}
use Rattle.desk_call.specs.declared.list.ListOf.{ListOf}
use Rattle.desk_call.specs.declared.list.ListReply.{ListReply}
use Rattle.desk_call.specs.declared.list.ListReply.TheVariants as reply
use Rattle.desk_call.specs.declared.list.NewList.{NewList}
use Rattle.desk_call.specs.declared.update.LayerKind.TheVariants.{Lists}
use Rattle.desk_call.specs.Steps.{IsStepOf}
use Rattle.vis_update.specs.Records.{WindowRecord}
use Rattle.window_paint.specs.Kinds.{is_of}
use Rattle.window_mgr.specs.DeskStates.{IsDeskUnchanged, SameActivity}
use Rattle.window_mgr.specs.Finding.{record_with}
use Rattle.window_mgr.specs.FullDesk.{FullState, layered_state}
use Rattle.window_mgr.specs.Relayered.{AreLayersSet, IsLayerRedrawn, IsLayerToggled}
use Rattle.control_mgr.specs.ControlDesks.{ShowsControls}
use Rattle.control_mgr.specs.ControlDesks as controls
use Rattle.control_mgr.specs.ControlSteps.{AreLayersOf, IsControlStep, IsSettingPut}
use Rattle.list_mgr.specs.ListDesks.{IsListDeskUnchanged, KeptList, ListDesk, ListSlot, index_of, list_of, with_controls}
use Rattle.list_mgr.specs.ListRefusals.{corner_of, list_refusals, may_list_grow, scroll_kind, size_of, view_of}

-- ---- lists as layers of their windows

-- the layer is this list's: it is shown, and has the pixels of the list's view
pub record IsLayerOf (l : KeptList) (k : Layer) : Type 0 where
  pub part : k.part ≡ part.List l.serial
  pub shown : k.shown ≡ true
  pub region : (p : Point) → holds k.region p ≡ rect_holds (view_rect l.kept.view) p
  pub bounds : k.bounds ≡ view_rect l.kept.view

-- the layers that are lists'
abbrev pub layers_of_lists : List Layer → List Layer
layers_of_lists ls = filter (λ l. is_of Lists l.part) ls

-- they are these lists', from front to back the oldest first
abbrev pub AreListLayers : List KeptList → List Layer → Type 0
AreListLayers ls layers = AllZip IsLayerOf ls (layers_of_lists layers)

-- the layers, and behind them this one
abbrev pub with_last : Layer → List Layer → List Layer
with_last l ls = ls ++ l ∷ []

-- the layers without that of this part
abbrev pub without_part : Part → List Layer → List Layer
without_part q ls = option_map_or (λ i. remove ls i) (layer_index q ls) ls

-- ---- what is common to several calls

-- nothing but windows and lists changed
pub record IsBesideLists (before after : ListDesk) : Type 0 where
  pub controls : after.controls ≡ before.controls
  pub others : after.others ≡ before.others
  pub activity : SameActivity before.desk after.desk

-- a list was changed so
pub record IsChangedTo (l : ListOf) (f : KeptList → KeptList) (before after : ListDesk) : Type 0 where
  pub at : ℕ
  pub found : index_of l before.lists.lists ≡ Some at
  pub lists : after.lists ≡ record before.lists { lists = edit_at f at before.lists.lists }
  pub beside : IsBesideLists before after

-- the window's layers became these, among them its controls and its lists, as they are now, and one of them was drawn afresh, if
-- one is named
pub record AreLaid (window : ℕ) (relaid : List Layer → List Layer) (afresh : Option Part) (before after : ListDesk) : Type 0 where
  pub layers : List Layer
  pub become : (w : WindowRecord) → record_with window before.desk.windows.desk.windows ≡ Some w → layers ≡ relaid w.layers
  pub controls : AreLayersOf (items_of window after.controls.controls) layers
  pub lists : AreListLayers (items_of window after.lists.lists) layers
  pub set : AreLayersSet window layers afresh before.desk.windows after.desk.windows
  pub shows : ShowsControls (with_controls after)

-- the list was changed so, and shown anew on its pixels that are not to be redrawn
pub record IsShown (l : ListOf) (f : KeptList → KeptList) (before after : ListDesk) : Type 0 where
  pub changed : IsChangedTo l f before after
  pub redrawn : IsLayerRedrawn l.window (part.List l.list) before.desk.windows after.desk.windows
  pub shows : ShowsControls (with_controls after)

-- the change of a call after which all that this part of a window owns is to be redrawn
abbrev pub marked_change : ℕ → Part → Change
marked_change s q = record no_change { added = λ o p. same_owner o (ContentOf s q) }

-- it is; nothing else of the desk changed but what layers show
pub record IsLayerMarked (s : ℕ) (q : Part) (before after : FullState) : Type 0 where
  pub desk : after.desk ≡ record before.desk { shows = after.desk.shows }
  pub pixels : IsChanged (marked_change s q) (layered_state before) (layered_state after)

-- the list was changed so, and all that it owns is to be redrawn
pub record IsListMarked (l : ListOf) (f : KeptList → KeptList) (before after : ListDesk) : Type 0 where
  pub changed : IsChangedTo l f before after
  pub marked : IsLayerMarked l.window (part.List l.list) before.desk.windows after.desk.windows
  pub shows : ShowsControls (with_controls after)

-- a change of a list whose drawing is off: where it changes nothing of the list, nothing changed, and else all that the list
-- owns is to be redrawn
abbrev pub IsUnseen : ListOf → (KeptList → KeptList) → KeptList → ListDesk → ListDesk → Type 0
IsUnseen l f x before after =
    ((f x ≡ x) × IsListDeskUnchanged before after) ⊎ ((f x ≡ x → ⊥) × IsListMarked l f before after)

-- the list x changed so, as its drawing is on or off
abbrev pub IsSeenOrNot : Bool → ListOf → (KeptList → KeptList) → KeptList → ListDesk → ListDesk → Type 0
IsSeenOrNot true l f x before after = IsShown l f before after
IsSeenOrNot false l f x before after = IsUnseen l f x before after

-- what holds of the list that is named, which is there
abbrev pub OfList : ListOf → ListDesk → (KeptList → Type 0) → Type 0
OfList l d P = (x : KeptList) × (list_of l d.lists.lists ≡ Some x) × P x

-- a list changed so
abbrev pub IsListChanged : ListOf → (KeptList → KeptList) → ListDesk → ListDesk → Type 0
IsListChanged l f before after = OfList l before (λ x. IsSeenOrNot x.kept.drawing l f x before after)

-- ---- selections

-- the cells of the list became these, which differ in selections alone, and what that highlights otherwise was inverted, also
-- where it is to be redrawn
pub record IsToggled (l : ListOf) (g : Grid → Grid) (x : KeptList) (before after : ListDesk) : Type 0 where
  pub changed : IsChangedTo l (λ y. with_cells (g y.kept.cells) y) before after
  pub toggled : (w : WindowRecord) → record_with l.window before.desk.windows.desk.windows ≡ Some w
      → IsLayerToggled l.window w.place (part.List l.list) (λ font. is_turned font x.kept.definition.definition x.kept.view x.kept.cells (g x.kept.cells))
      before.desk.windows after.desk.windows
  pub shows : ShowsControls (with_controls after)

-- the selection of the list x changed so, as its drawing is on or off
abbrev pub IsToggledOrNot : Bool → ListOf → (Grid → Grid) → KeptList → ListDesk → ListDesk → Type 0
IsToggledOrNot true l g x before after = IsToggled l g x before after
IsToggledOrNot false l g x before after = IsUnseen l (λ y. with_cells (g y.kept.cells) y) x before after

-- the selection of a list changed so, which may go by the list's flags
abbrev pub IsSelectionChanged : ListOf → (SelectionFlags → Grid → Grid) → ListDesk → ListDesk → Type 0
IsSelectionChanged l g before after = OfList l before (λ x. IsToggledOrNot x.kept.drawing l (g x.kept.flags) x before after)

-- ---- scroll bars

-- nothing but controls and what windows show changed
pub record SameLists (before after : ListDesk) : Type 0 where
  pub lists : after.lists ≡ before.lists
  pub others : after.others ≡ before.others

-- a scroll bar that a list was made with got this setting, where the window has it still
abbrev pub IsBarSet : ℕ → Option ℕ → Setting → ListDesk → ListDesk → Type 0
IsBarSet window None setting before after = IsListDeskUnchanged before after
IsBarSet window (Some n) setting before after =
    IsSettingPut (record { window = window; control = n }) setting (with_controls before) (with_controls after)
    × SameActivity before.desk after.desk × SameLists before after

-- the scroll bars of a list were set as its view is now, the vertical one first
abbrev pub AreBarsSet : ListOf → ListDesk → ListDesk → Type 0
AreBarsSet l before after = OfList l before (λ x. (mid : ListDesk)
    × IsBarSet l.window x.kept.vertical (vertical_setting x.kept.cells.rows x.kept.view) before mid
    × IsBarSet l.window x.kept.horizontal (horizontal_setting x.kept.cells.columns x.kept.view) mid after)

-- a list changed so, and its scroll bars were set
abbrev pub IsRelined : ListOf → (KeptList → KeptList) → ListDesk → ListDesk → Type 0
IsRelined l f before after = (mid : ListDesk) × IsListChanged l f before mid × AreBarsSet l mid after

-- ---- lists that are made and ended

-- the scroll bars of a new list, as controls that are to be made
abbrev pub vertical_bar_of : NewList → NewControl
vertical_bar_of n = let setting = vertical_setting (nat_abs n.rows) (view_of n) in record {
  window = n.window;
  kind = scroll_kind;
  place = corner_of (vertical_bar (view_of n));
  size = size_of (vertical_bar (view_of n));
  shown = true;
  minimum = setting.minimum;
  maximum = setting.maximum;
  value = setting.value;
  title = [];
}

abbrev pub horizontal_bar_of : NewList → NewControl
horizontal_bar_of n = let setting = horizontal_setting (nat_abs n.columns) (view_of n) in record {
  window = n.window;
  kind = scroll_kind;
  place = corner_of (horizontal_bar (view_of n));
  size = size_of (horizontal_bar (view_of n));
  shown = true;
  minimum = setting.minimum;
  maximum = setting.maximum;
  value = setting.value;
  title = [];
}

-- a scroll bar was made where one is wanted, as NewControl makes a control, and this is its serial
abbrev pub IsBarMade : Bool → NewControl → Option ℕ → ListDesk → ListDesk → Type 0
IsBarMade false n serial before after = (serial ≡ None) × IsListDeskUnchanged before after
IsBarMade true n serial before after =
    ((c : ℕ) × (serial ≡ Some c) × IsControlStep (control_calls.New n) (Ok (control_reply.Made c)) (with_controls before) (with_controls after))
    × SameLists before after

-- the record that a new list gets: its cells are empty and none is selected, and drawing is on
abbrev pub new_list : NewList → ℕ → SelectionFlags → Option ℕ → Option ℕ → ListLoan → KeptList
new_list n serial flags vertical horizontal loan = record {
  serial = serial;
  window = n.window;
  kept = record {
    view = view_of n;
    cells = empty_grid (nat_abs n.columns) (nat_abs n.rows);
    flags = flags;
    drawing = true;
    vertical = vertical;
    horizontal = horizontal;
    definition = loan;
  };
}

-- a list of this serial was put behind the others, with a definition that was taken out of the stock and begun, and drawn; its
-- layer lies behind all others of its window
pub record IsListPut (n : NewList) (serial : ℕ) (vertical horizontal : Option ℕ) (before after : ListDesk) : Type 0 where
  pub flags : SelectionFlags
  pub sum : flags_number flags ≡ n.flags
  pub loan : ListLoan
  pub begun : ListDefinition
  pub serials : before.lists.next ≡ Some serial
  pub taken : IsTaken (λ d. d.stage) n.kind loan before.lists.stock after.lists.stock
  pub live : IsListBegun n.cell_size (not flags.no_nil_hilite) loan.definition begun
  pub lists : after.lists.lists
      ≡ before.lists.lists ++ new_list n serial flags vertical horizontal (record { definition = begun; slot = loan.slot }) ∷ []
  pub next : after.lists.next ≡ serial_after serial
  pub layer : Layer
  pub its : IsLayerOf (new_list n serial flags vertical horizontal (record { definition = begun; slot = loan.slot })) layer
  pub laid : AreLaid n.window (with_last layer) (Some (part.List serial)) before after
  pub beside : IsBesideLists before after

-- its scroll bars are made first, the vertical one before the other
abbrev pub IsListMade : NewList → ℕ → ListDesk → ListDesk → Type 0
IsListMade n serial before after = (with_vertical with_both : ListDesk) × (vertical horizontal : Option ℕ)
    × IsBarMade n.vertical_bar (vertical_bar_of n) vertical before with_vertical
    × IsBarMade n.horizontal_bar (horizontal_bar_of n) horizontal with_vertical with_both
    × IsListPut n serial vertical horizontal with_both after

-- the definition was closed and put into its slot, which was empty, and every other slot is as it was
abbrev pub IsListShut : ListLoan → List ListSlot → List ListSlot → Type 0
IsListShut = closing.IsShut (λ (d : ListDefinition). d.stage) SameListLook

-- the list x is there no more, its definition went back Closed into its slot, and what it owned belongs to what lies under it
pub record IsListGone (l : ListOf) (x : KeptList) (before after : ListDesk) : Type 0 where
  pub at : ℕ
  pub found : index_of l before.lists.lists ≡ Some at
  pub there : slice_get before.lists.lists at ≡ Some x
  pub shut : IsListShut x.kept.definition before.lists.stock after.lists.stock
  pub lists : after.lists ≡ record before.lists { lists = remove before.lists.lists at; stock = after.lists.stock }
  pub laid : AreLaid l.window (without_part (part.List l.list)) None before after
  pub beside : IsBesideLists before after

-- a scroll bar was disposed of, as DisposeControl does it, where the window has it still
abbrev pub IsBarGoneIf : Bool → ControlOf → ListDesk → ListDesk → Type 0
IsBarGoneIf true c before after = IsListDeskUnchanged before after
IsBarGoneIf false c before after =
    IsControlStep (control_calls.Dispose c) (Ok control_reply.Done) (with_controls before) (with_controls after) × SameLists before after

abbrev pub IsBarGone : ℕ → Option ℕ → ListDesk → ListDesk → Type 0
IsBarGone window None before after = IsListDeskUnchanged before after
IsBarGone window (Some n) before after = let c : ControlOf = record { window = window; control = n } in
    IsBarGoneIf (is_none (controls.index_of c before.controls.controls)) c before after

-- a list is there no more, and then its scroll bars, the vertical one before the other
abbrev pub IsListDisposed : ListOf → ListDesk → ListDesk → Type 0
IsListDisposed l before after = (x : KeptList) × (without_list without_vertical : ListDesk)
    × IsListGone l x before without_list
    × IsBarGone l.window x.kept.vertical without_list without_vertical
    × IsBarGone l.window x.kept.horizontal without_vertical after

-- ---- what is asked

-- what is told of the list that is named, if it is there
abbrev pub told_of : ListOf → (KeptList → ListReply) → List KeptList → ListReply
told_of l f ls = option_map_or f (list_of l ls) reply.Done

-- the answer is these bytes
abbrev pub IsDataOf : List ℕ → ListReply → Type 0
IsDataOf bytes (reply.Data told) = told.items ≡ bytes
IsDataOf bytes _ = ⊥

-- what a call that tells something answers and leaves
abbrev pub Tells : ListReply → ListReply → ListDesk → ListDesk → Type 0
Tells told answer before after = (answer ≡ told) × IsListDeskUnchanged before after

-- ---- the step

-- the list with other cells, by a change of its cells
abbrev pub with_grid : (Grid → Grid) → KeptList → KeptList
with_grid g l = with_cells (g l.kept.cells) l

-- the list scrolled by so much, which brings it back where cells are gone
abbrev pub with_scroll : (columns rows : ℤ) → KeptList → KeptList
with_scroll columns rows l = with_view (scrolled l.kept.cells.columns l.kept.cells.rows columns rows l.kept.view) l

-- the list with rows or columns more or fewer
abbrev pub with_rows_more : ℤ → ℤ → KeptList → KeptList
with_rows_more n before l = with_grid (rows_added (place_to_add l.kept.cells.rows before) (nat_abs n)) l

abbrev pub with_columns_more : ℤ → ℤ → KeptList → KeptList
with_columns_more n before l = with_grid (columns_added (place_to_add l.kept.cells.columns before) (nat_abs n)) l

abbrev pub with_rows_fewer : ℤ → ℤ → KeptList → KeptList
with_rows_fewer n first l =
    with_scroll (pos 0) (pos 0) (with_grid (rows_deleted (nat_abs first) (count_to_delete l.kept.cells.rows n first)) l)

abbrev pub with_columns_fewer : ℤ → ℤ → KeptList → KeptList
with_columns_fewer n first l =
    with_scroll (pos 0) (pos 0) (with_grid (columns_deleted (nat_abs first) (count_to_delete l.kept.cells.columns n first)) l)

-- the list with bytes more in a cell
abbrev pub appended : Cell → List ℕ → Grid → Grid
appended c text g = with_bytes g c ((content_of g c).bytes ++ text)

-- the cell of the list that a click finds
abbrev pub clicked_at : ListClick → KeptList → Option Cell
clicked_at k l = cell_at l.kept.cells.columns l.kept.cells.rows l.kept.view k.point

-- a click on this cell, or on none
abbrev pub IsClickOn : ListClick → Option Cell → ListReply → ListDesk → ListDesk → Type 0
IsClickOn k None answer before after = Tells (reply.Clicked false) answer before after
IsClickOn k (Some c) answer before after = (answer ≡ reply.Clicked true)
    × IsSelectionChanged k.list (λ flags. clicked_cell flags (keys_of (nat_abs k.modifiers)) c) before after

-- what a call that nothing refuses answers and leaves
abbrev pub IsListEffect : ListCall → ListReply → ListDesk → ListDesk → Type 0
IsListEffect (New n) answer before after = (serial : ℕ) × (answer ≡ reply.Made serial) × IsListMade n serial before after
IsListEffect (Dispose l) answer before after = (answer ≡ reply.Done) × IsListDisposed l before after
IsListEffect (AddRows n) answer before after =
    (answer ≡ told_of n.list (λ l. reply.Added (place_to_add l.kept.cells.rows n.at)) before.lists.lists)
    × IsRelined n.list (with_rows_more n.count n.at) before after
IsListEffect (AddColumns n) answer before after =
    (answer ≡ told_of n.list (λ l. reply.Added (place_to_add l.kept.cells.columns n.at)) before.lists.lists)
    × IsRelined n.list (with_columns_more n.count n.at) before after
IsListEffect (DeleteRows n) answer before after = (answer ≡ reply.Done) × IsRelined n.list (with_rows_fewer n.count n.at) before after
IsListEffect (DeleteColumns n) answer before after = (answer ≡ reply.Done) × IsRelined n.list (with_columns_fewer n.count n.at) before after
IsListEffect (SetCell t) answer before after = (answer ≡ reply.Done)
    × IsListChanged t.cell.list (with_grid (λ g. with_bytes g t.cell.cell t.text)) before after
IsListEffect (AddToCell t) answer before after = (answer ≡ reply.Done)
    × IsListChanged t.cell.list (with_grid (appended t.cell.cell t.text)) before after
IsListEffect (ClearCell c) answer before after = (answer ≡ reply.Done)
    × IsListChanged c.list (with_grid (λ g. with_bytes g c.cell [])) before after
IsListEffect (GetCell c) answer before after =
    OfList c.list before (λ l. IsDataOf (content_of l.kept.cells c.cell).bytes answer) × IsListDeskUnchanged before after
IsListEffect (Select k) answer before after = (answer ≡ reply.Done)
    × IsSelectionChanged k.cell.list (λ flags. chosen_cell k.cell.cell k.selected flags.only_one) before after
IsListEffect (IsSelected c) answer before after =
    Tells (told_of c.list (λ l. reply.Selected (content_of l.kept.cells c.cell).selected) before.lists.lists) answer before after
IsListEffect (FirstSelected c) answer before after =
    Tells (told_of c.list (λ l. reply.Cell (first_from (λ x. x.selected) l.kept.cells c.cell)) before.lists.lists) answer before after
IsListEffect (NextCell n) answer before after =
    Tells (told_of n.cell.list (λ l. reply.Cell (next_cell l.kept.cells n.across n.down n.cell.cell)) before.lists.lists) answer before after
IsListEffect (Search t) answer before after =
    Tells (told_of t.cell.list (λ l. reply.Cell (first_from (λ x. bytes_eq x.bytes t.text) l.kept.cells t.cell.cell)) before.lists.lists) answer before after
IsListEffect (Click k) answer before after = OfList k.list before (λ l. IsClickOn k (clicked_at k l) answer before after)
IsListEffect (Scroll m) answer before after = (answer ≡ reply.Done) × IsRelined m.list (with_scroll m.columns m.rows) before after
IsListEffect (SetDrawing d) answer before after = (answer ≡ reply.Done) × IsChangedTo d.list (with_drawing d.drawing) before after
    × IsDeskUnchanged before.desk after.desk

-- one step of a call about lists
abbrev pub IsListStep : ListCall → Result ListReply Refusal → ListDesk → ListDesk → Type 0
IsListStep call result before after = IsStepOf
    (λ d why. first_refusal (list_refusals call d.desk.windows.desk d.controls d.lists) ≡ why) (may_list_grow call before.lists)
    (IsListEffect call) IsListDeskUnchanged result before after
