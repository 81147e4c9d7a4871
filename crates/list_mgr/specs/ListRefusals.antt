-- Why a call about lists refuses: the first refusal of the written order whose condition holds.
use Rattle.std.specs.Prelude.{ℕ, zero, suc, ◌+◌, ℤ, pos, ◌-ℤ◌, Bool, true, false, not, ◌&&◌, ◌||◌, nat_le, nat_lt, int_le, List, [], ◌∷◌, ◌++◌, length, Option, None, Some, is_none, if◌then◌else◌, slice_get, codes, option_to_list}
use Rattle.std.specs.List.{list_any}
use Rattle.std.specs.Option.{option_map_or}
use Rattle.std.specs.Ordering.{int_eq}
use Rattle.tb_geom.specs.declared.point.Point.{Point}
use Rattle.tb_geom.specs.declared.rect.Rect.{Rect}
use Rattle.tb_geom.specs.declared.refusal.Refusal.{Refusal}
use Rattle.tb_geom.specs.declared.refusal.Refusal.TheVariants.{NoDefinition, NoSuchCell, NoSuchList, NoSuchName, NoSuchWindow, OutOfRange, TooMany}
use Rattle.tb_geom.specs.Rects.{in_plane, is_in_range, moved_rect}
use Rattle.window_items.specs.Items as controls
use Rattle.list_cells.specs.declared.cell.Cell.{Cell}
use Rattle.list_cells.specs.declared.click.SelectionFlags.{SelectionFlags}
use Rattle.list_cells.specs.Clicks.{flags_number}
use Rattle.list_cells.specs.Grids.{content_of, data_refusals, is_cell, search_refusals}
use Rattle.list_cells.specs.Runs.{add_refusals, delete_refusals, new_refusals}
use Rattle.window_items.specs.Items.{count_of}
use Rattle.list_view.specs.declared.axis.Axis.{Axis}
use Rattle.list_view.specs.Axes.{is_axis}
use Rattle.list_view.specs.Bars.{horizontal_bar, vertical_bar}
use Rattle.list_view.specs.Views.{View, new_view, view_rect}
use Rattle.def_iface.specs.declared.size.Size.{Size}
use Rattle.def_iface.specs.ControlMeaning.{ControlDefinition}
use Rattle.def_iface.specs.ListMeaning.{ListDefinition}
use Rattle.def_iface.specs.Slots.{has_kind, offered, offers}
use Rattle.desk_call.specs.declared.list.ListCall.{ListCall}
use Rattle.desk_call.specs.declared.list.ListCall.TheVariants.{New, Dispose, AddRows, AddColumns, DeleteRows, DeleteColumns, SetCell, AddToCell, ClearCell, GetCell, Select, IsSelected, FirstSelected, NextCell, Search, Click, Scroll, SetDrawing}
use Rattle.desk_call.specs.declared.list.ListOf.{ListOf}
use Rattle.desk_call.specs.declared.list.NewList.{NewList}
use Rattle.vis_update.specs.Records.{WindowRecord}
use Rattle.window_mgr.specs.Finding.{record_with}
use Rattle.window_mgr.specs.FullDesk.{FullDesk}
use Rattle.window_mgr.specs.Refused.{is_missing}
use Rattle.control_mgr.specs.ControlDesks.{ControlRecord, ControlSlot, ControlsState}
use Rattle.control_mgr.specs.ControlRefusals.{most_controls}
use Rattle.control_mgr.specs.Judged.{may_be_in}
use Rattle.list_mgr.specs.ListDesks.{KeptList, ListSlot, ListsState, index_of, list_of}

-- as many lists as a window may have
abbrev pub most_lists : ℕ
most_lists = 8

-- the kind of controls that scroll bars are of
abbrev pub scroll_kind : List ℕ
scroll_kind = codes "scroll"

-- ---- what is missing

-- a list is named that its window has not, or whose window there is not
abbrev pub missing_refusals : ListOf → FullDesk → List KeptList → List (Bool × Refusal)
missing_refusals l desk ls = (is_missing l.window desk.windows, NoSuchWindow) ∷ (is_none (index_of l ls), NoSuchList) ∷ []

-- what else may be told of a list, where it is there
abbrev pub of_list : (KeptList → List (Bool × Refusal)) → Option KeptList → List (Bool × Refusal)
of_list f None = []
of_list f (Some l) = f l

-- for the list that is named, that it or its window is missing, and then this
abbrev pub list_reasons : ListOf → (KeptList → List (Bool × Refusal)) → FullDesk → List KeptList → List (Bool × Refusal)
list_reasons l f desk ls = missing_refusals l desk ls ++ of_list f (list_of l ls)

-- the list has no such cell
abbrev pub cell_refusals : Cell → KeptList → List (Bool × Refusal)
cell_refusals c l = (not (is_cell l.kept.cells c), NoSuchCell) ∷ []

-- ---- a new list

-- where its view is to lie across and down, and its view before it is scrolled
abbrev pub across_of : NewList → Axis
across_of n = record { start = n.place.h; length = n.size.width; cell = n.cell_size.width }

abbrev pub down_of : NewList → Axis
down_of n = record { start = n.place.v; length = n.size.height; cell = n.cell_size.height }

abbrev pub view_of : NewList → View
view_of n = new_view (across_of n) (down_of n)

-- the view and its cells have sizes in the range of sizes, and the view lies in the range of coordinates, in its window's own and,
-- where the window is there, in those of the screen
abbrev pub may_view_be_in : NewList → Option WindowRecord → Bool
may_view_be_in n w = (is_axis (across_of n) && is_axis (down_of n))
    && option_map_or (λ x. is_in_range (moved_rect (view_rect (view_of n)) x.place.h x.place.v)) w true

-- a rectangle's top left corner, and its size
abbrev pub corner_of : Rect → Point
corner_of r = record { h = r.left; v = r.top }

abbrev pub size_of : Rect → Size
size_of r = record { width = r.right -ℤ r.left; height = r.bottom -ℤ r.top }

-- a scroll bar that is wanted may lie here in its window, with a definition or without one
abbrev pub may_bar_be_in : Bool → Option ControlDefinition → Rect → Option WindowRecord → Bool
may_bar_be_in wanted d r w = not wanted || may_be_in d (corner_of r) (size_of r) w

-- a number is the sum of some flags
abbrev pub all_flags : List SelectionFlags
all_flags = some_flags true ++ some_flags false
  where
    with_last : Bool → Bool → Bool → List SelectionFlags
    with_last a b c = record { only_one = a; no_extend = b; use_sense = c; no_nil_hilite = true } ∷ record { only_one = a; no_extend = b; use_sense = c; no_nil_hilite = false } ∷ []

    some_flags : Bool → List SelectionFlags
    some_flags a = (with_last a true true ++ with_last a true false) ++ (with_last a false true ++ with_last a false false)

abbrev pub is_sum_of_flags : ℤ → Bool
is_sum_of_flags n = list_any (λ f. int_eq (flags_number f) n) all_flags

-- so many controls can be made of a window that has so many, one after the other: there may be more, and a serial is left for
-- each
abbrev pub have_room : ℕ → ℕ → Option ℕ → Bool
have_room zero count next = true
have_room (suc k) count None = false
have_room (suc k) count (Some n) = nat_lt count most_controls && have_room k (count + 1) (controls.serial_after n)

-- how many scroll bars are wanted
abbrev pub bars_wanted : NewList → ℕ
bars_wanted n = (if n.vertical_bar then 1 else 0) + (if n.horizontal_bar then 1 else 0)

-- the fresh definitions of scroll bars that the stock has, in the order in which it gives them out
abbrev pub fresh_bars : List ControlSlot → List ControlDefinition
fresh_bars [] = []
fresh_bars (s ∷ ss) = if offers (λ (d : ControlDefinition). d.stage) scroll_kind s then option_to_list s.held ++ fresh_bars ss else fresh_bars ss

-- those that the bars of a new list would have
abbrev pub vertical_offer : NewList → List ControlSlot → Option ControlDefinition
vertical_offer n slots = if n.vertical_bar then slice_get (fresh_bars slots) 0 else None

abbrev pub horizontal_offer : NewList → List ControlSlot → Option ControlDefinition
horizontal_offer n slots = if n.horizontal_bar then slice_get (fresh_bars slots) (if n.vertical_bar then 1 else 0) else None

-- the stock has no such kind of lists, or none of scroll bars though one is wanted, which is judged whatever is open
abbrev pub lacks_kind : NewList → List ListSlot → List ControlSlot → Bool
lacks_kind n slots bars = not (has_kind n.kind slots) || (nat_lt 0 (bars_wanted n) && not (has_kind scroll_kind bars))

abbrev pub list_form_refusals : ListCall → List ListSlot → List ControlSlot → List (Bool × Refusal)
list_form_refusals (New n) slots bars = (lacks_kind n slots bars, NoSuchName) ∷ []
list_form_refusals _ slots bars = []

-- why a list may not be made, whatever the stocks hold; its bars are judged with these definitions
abbrev pub judged_refusals : NewList → (vertical horizontal : Option ControlDefinition) → FullDesk → List ControlRecord → Option ℕ → List KeptList → Option ℕ
    → List (Bool × Refusal)
judged_refusals n vertical horizontal desk cs next_control ls next =
    (is_missing n.window desk.windows, NoSuchWindow)
    ∷ (not (may_view_be_in n (record_with n.window desk.windows)), OutOfRange)
    ∷ (not (may_bar_be_in n.vertical_bar vertical (vertical_bar (view_of n)) (record_with n.window desk.windows)), OutOfRange)
    ∷ (not (may_bar_be_in n.horizontal_bar horizontal (horizontal_bar (view_of n)) (record_with n.window desk.windows)), OutOfRange)
    ∷ (not (is_sum_of_flags n.flags), OutOfRange)
    ∷ (new_refusals n.columns n.rows
    ++ (nat_le most_lists (count_of n.window ls) || is_none next, TooMany)
    ∷ (not (have_room (bars_wanted n) (controls.count_of n.window cs) next_control), TooMany) ∷ [])

-- the stock has no definition left for the list, or for a bar that is wanted
abbrev pub lacks_definition : NewList → ListsState → ControlsState → Bool
lacks_definition n s controls =
    is_none (offered (λ (d : ListDefinition). d.stage) n.kind s.stock)
    || ((n.vertical_bar && is_none (vertical_offer n controls.stock)) || (n.horizontal_bar && is_none (horizontal_offer n controls.stock)))

abbrev pub new_list_refusals : NewList → FullDesk → ControlsState → ListsState → List (Bool × Refusal)
new_list_refusals n desk controls s =
    (lacks_kind n s.stock controls.stock, NoSuchName)
    ∷ (judged_refusals n (vertical_offer n controls.stock) (horizontal_offer n controls.stock) desk controls.controls controls.next s.lists s.next
    ++ (lacks_definition n s controls, NoDefinition) ∷ [])

-- ---- calls

-- a number is a word of 16 bits
abbrev pub is_word : ℤ → Bool
is_word n = int_le (pos 0) n && int_le n (pos 65535)

-- why the call may be refused
abbrev pub list_refusals : ListCall → FullDesk → ControlsState → ListsState → List (Bool × Refusal)
list_refusals (New n) desk controls s = new_list_refusals n desk controls s
list_refusals (Dispose l) desk controls s = missing_refusals l desk s.lists
list_refusals (AddRows n) desk controls s =
    list_reasons n.list (λ l. add_refusals l.kept.cells.rows l.kept.cells.columns n.count n.at) desk s.lists
list_refusals (AddColumns n) desk controls s =
    list_reasons n.list (λ l. add_refusals l.kept.cells.columns l.kept.cells.rows n.count n.at) desk s.lists
list_refusals (DeleteRows n) desk controls s = list_reasons n.list (λ l. delete_refusals l.kept.cells.rows n.count n.at) desk s.lists
list_refusals (DeleteColumns n) desk controls s = list_reasons n.list (λ l. delete_refusals l.kept.cells.columns n.count n.at) desk s.lists
list_refusals (SetCell t) desk controls s = list_reasons t.cell.list
    (λ l. data_refusals l.kept.cells t.cell.cell (length (content_of l.kept.cells t.cell.cell).bytes) (length t.text)) desk s.lists
list_refusals (AddToCell t) desk controls s = list_reasons t.cell.list (λ l. data_refusals l.kept.cells t.cell.cell 0 (length t.text)) desk s.lists
list_refusals (ClearCell c) desk controls s = list_reasons c.list (cell_refusals c.cell) desk s.lists
list_refusals (GetCell c) desk controls s = list_reasons c.list (cell_refusals c.cell) desk s.lists
list_refusals (Select k) desk controls s = list_reasons k.cell.list (cell_refusals k.cell.cell) desk s.lists
list_refusals (IsSelected c) desk controls s = list_reasons c.list (cell_refusals c.cell) desk s.lists
list_refusals (FirstSelected c) desk controls s = list_reasons c.list (cell_refusals c.cell) desk s.lists
list_refusals (NextCell n) desk controls s = list_reasons n.cell.list (cell_refusals n.cell.cell) desk s.lists
list_refusals (Search t) desk controls s = list_reasons t.cell.list (λ l. search_refusals l.kept.cells t.cell.cell (length t.text)) desk s.lists
list_refusals (Click k) desk controls s = missing_refusals k.list desk s.lists
    ++ (not (in_plane k.point), OutOfRange) ∷ (not (is_word k.modifiers), OutOfRange) ∷ []
list_refusals (Scroll m) desk controls s = missing_refusals m.list desk s.lists
list_refusals (SetDrawing d) desk controls s = missing_refusals d.list desk s.lists

-- the list is there, and its drawing is off
abbrev pub is_drawing_off : ListOf → ListsState → Bool
is_drawing_off l s = option_map_or (λ x. not x.kept.drawing) (list_of l s.lists) false

-- whether a call may ask for memory: what only draws or inverts does not, unless the list's drawing is off
abbrev pub may_list_grow : ListCall → ListsState → Bool
may_list_grow (New n) s = true
may_list_grow (Dispose l) s = true
may_list_grow (AddRows n) s = true
may_list_grow (AddColumns n) s = true
may_list_grow (DeleteRows n) s = is_drawing_off n.list s
may_list_grow (DeleteColumns n) s = is_drawing_off n.list s
may_list_grow (SetCell t) s = true
may_list_grow (AddToCell t) s = true
may_list_grow (ClearCell c) s = is_drawing_off c.list s
may_list_grow (GetCell c) s = true
may_list_grow (Select k) s = is_drawing_off k.cell.list s
may_list_grow (Click k) s = is_drawing_off k.list s
may_list_grow (Scroll m) s = is_drawing_off m.list s
may_list_grow _ s = false
