-- A new list: what is known of its view and its cells where nothing refuses it, and its record once its definition was begun.
use Rattle.std.proofs.Common.{◌≡◌, ◌<◌, ◌≤◌, ◌*◌, ℕ, ℤ, pos, Bool, true, false, not, ◌&&◌, cond, List, [], ◌∷◌, ◌++◌, length, Option, Some, None, replicate, refl, sym, ◌∙◌, arith}
use Rattle.std.specs.Prelude.{int_le, is_none, nat_abs, nat_le, ◌≤ℤ◌}
use Rattle.std.proofs.lemmas.Bool.{and_parts, not-false}
use Rattle.std.proofs.lemmas.Bool.Decides.{nat_tests}
use Rattle.std.proofs.lemmas.Int.{ints}
use Rattle.std.proofs.lemmas.List.{length-replicate}
use Rattle.tb_geom.specs.declared.refusal.Refusal.{Refusal}
use Rattle.tb_geom.specs.declared.refusal.Refusal.TheVariants.{NoDefinition, NoSuchName, NoSuchWindow, OutOfRange, TooMany}
use Rattle.tb_geom.specs.Rects.{is_coordinate, is_in_range, moved_rect}
use Rattle.tb_geom.specs.Refusals.{first_refusal}
use Rattle.def_iface.specs.ControlMeaning.{ControlDefinition}
use Rattle.def_iface.specs.ListMeaning.{IsListBegun, ListDefinition, told_all_of_list}
use Rattle.list_cells.specs.declared.click.SelectionFlags.{SelectionFlags}
use Rattle.list_cells.specs.Contents.{empty_content}
use Rattle.list_cells.specs.Grids.{IsGrid, empty_grid}
use Rattle.list_cells.specs.Runs.{is_side, new_refusals}
use Rattle.list_cells.proofs.ByteLemmas.{empty_held}
use Rattle.list_view.specs.declared.axis.Axis.{Axis}
use Rattle.list_view.specs.Axes.{IsAxis, end_of, is_axis}
use Rattle.list_view.specs.Axes as axes
use Rattle.list_view.specs.Bars.{horizontal_bar, vertical_bar}
use Rattle.list_view.specs.Views.{IsView, view_rect}
use Rattle.desk_call.specs.declared.list.ListCall.TheVariants.{New}
use Rattle.desk_call.specs.declared.list.NewList.{NewList}
use Rattle.vis_update.specs.Records.{WindowRecord}
use Rattle.window_mgr.specs.Finding.{record_with}
use Rattle.window_mgr.specs.FullDesk.{FullDesk}
use Rattle.window_mgr.specs.Refused.{is_missing}
use Rattle.window_items.specs.Items as controls
use Rattle.window_items.proofs.SerialLemmas.{or_parts}
use Rattle.control_mgr.specs.ControlDesks.{ControlRecord}
use Rattle.window_items.specs.Items.{count_of}
use Rattle.control_mgr.proofs.Steps.{none_hold}
use Rattle.list_mgr.specs.ListDesks.{KeptList, ListDesk}
use Rattle.list_mgr.specs.ListRefusals.{across_of, down_of, have_room, bars_wanted, horizontal_offer, is_sum_of_flags, judged_refusals, lacks_definition, lacks_kind, list_refusals, may_bar_be_in, may_view_be_in, most_lists, vertical_offer, view_of}
use Rattle.list_mgr.specs.ListSteps.{new_list}
use Rattle.list_mgr.specs.Making.{room_refusals}
use Rattle.list_mgr.specs.Putting.{IsGoodList}
use Rattle.list_mgr.specs.WholeLists.{IsSettledList}
use Rattle.list_mgr.proofs.Becoming.{bound_least}
use Rattle.list_mgr.proofs.ListsFollowed.{IsPutSettled}
use Rattle.list_mgr.proofs.ListsSettled.{new_there}
use Rattle.list_mgr.proofs.SelectedCells.{new_selected}

-- of two lists of reasons of which none holds, none of the first does, and none of the other
pub none_of_both : (xs ys : List (Bool × Refusal)) → first_refusal (xs ++ ys) ≡ None → (first_refusal xs ≡ None) × (first_refusal ys ≡ None)
none_of_both [] ys none = (refl, none)
none_of_both (x ∷ xs) ys none = by_test x.0 none (none_of_both xs ys)
  where
    by_test : (b : Bool) → cond b (Some x.1) (first_refusal (xs ++ ys)) ≡ None → (first_refusal (xs ++ ys) ≡ None → (first_refusal xs ≡ None) × (first_refusal ys ≡ None))
        → (cond b (Some x.1) (first_refusal xs) ≡ None) × (first_refusal ys ≡ None)
    by_test true none rest = absurd (cc)
    by_test false none rest = rest none

-- ---- the view

int_le_is : (a b : ℤ) → int_le a b ≡ true → a ≤ℤ b
int_le_is a b e = grind (arith, ints)

axis_is : (a : Axis) → is_axis a ≡ true → IsAxis a
axis_is a e =
    let length = and_parts (axes.is_side a.length) _ e in
    let cell = and_parts (axes.is_side a.cell) _ length.1 in
    let both = and_parts (is_coordinate a.start) (is_coordinate (end_of a)) cell.1 in
    let length_sides = and_parts (int_le (pos 1) a.length) (int_le a.length (pos 1024)) length.0 in
    let cell_sides = and_parts (int_le (pos 1) a.cell) (int_le a.cell (pos 1024)) cell.0 in
    record {
      some = int_le_is (pos 1) a.length length_sides.0;
      short = int_le_is a.length (pos 1024) length_sides.1;
      cell_some = int_le_is (pos 1) a.cell cell_sides.0;
      cell_short = int_le_is a.cell (pos 1024) cell_sides.1;
      start_in_range = int_le_is _ a.start (and_parts _ _ both.0).0;
      end_in_range = int_le_is (end_of a) _ (and_parts _ _ both.1).1;
    }

view_is : (n : NewList) (o : Option WindowRecord) → may_view_be_in n o ≡ true → IsView (view_of n)
view_is n o e =
    let both = and_parts (is_axis (across_of n) && is_axis (down_of n)) _ e in
    let sides = and_parts (is_axis (across_of n)) (is_axis (down_of n)) both.0 in
    record {
      across = axis_is (across_of n) sides.0;
      down = axis_is (down_of n) sides.1;
      first = record {
        column = record { least = omega (arith, ints); most = omega (arith, ints) };
        row = record { least = omega (arith, ints); most = omega (arith, ints) };
      };
    }

-- it lies in the range of coordinates where its window is
pub view_fits : (n : NewList) (w : WindowRecord) → may_view_be_in n (Some w) ≡ true → is_in_range (moved_rect (view_rect (view_of n)) w.place.h w.place.v) ≡ true
view_fits n w e = (and_parts (is_axis (across_of n) && is_axis (down_of n)) _ e).1

-- ---- the cells

few_lines : (n : ℤ) → is_side n ≡ true → nat_abs n ≤ 4096
few_lines n e = grind (arith, ints)

few_cells : (k : ℕ) → nat_le k 4096 ≡ true → k ≤ 4096
few_cells k e = grind (arith, nat_tests)

grid_is : (columns rows : ℤ) → first_refusal (new_refusals columns rows) ≡ None → IsGrid (empty_grid (nat_abs columns) (nat_abs rows))
unfolding new_refusals
grid_is columns rows none =
    let cells = nat_abs rows * nat_abs columns in
    let first = none_hold (not (is_side columns && is_side rows)) OutOfRange ((not (nat_le cells 4096), TooMany) ∷ []) none in
    let second = none_hold (not (nat_le cells 4096)) TooMany [] first.1 in
    let sides = and_parts (is_side columns) (is_side rows) (not-false (is_side columns && is_side rows) first.0) in
    let few = few_cells cells (not-false (nat_le cells 4096) second.0) in
    let many : length (replicate cells empty_content) ≡ cells = length-replicate cells empty_content in
    let held = empty_held cells in
    record {
      shape = many;
      columns_within = few_lines columns sides.0;
      rows_within = few_lines rows sides.1;
      cells_within = omega (arith, many, few);
      bytes_within = omega (arith, held);
    }

-- ---- the list

module _ (n : NewList) (vertical horizontal : Option ControlDefinition) (desk : FullDesk) (cs : List ControlRecord) (next_control : Option ℕ) (ls : List KeptList) (next : Option ℕ)
    (none : first_refusal (judged_refusals n vertical horizontal desk cs next_control ls next) ≡ None) where
  abbrev w : Option WindowRecord
  w = record_with n.window desk.windows

  abbrev behind_bars : List (Bool × Refusal)
  behind_bars = (not (is_sum_of_flags n.flags), OutOfRange) ∷ (new_refusals n.columns n.rows ++ room_refusals n (controls.count_of n.window cs) next_control ls next)

  abbrev vertical_lies : Bool
  vertical_lies = may_bar_be_in n.vertical_bar vertical (vertical_bar (view_of n)) w

  abbrev horizontal_lies : Bool
  horizontal_lies = may_bar_be_in n.horizontal_bar horizontal (horizontal_bar (view_of n)) w

  window_there : (is_missing n.window desk.windows ≡ false) × (first_refusal ((not (may_view_be_in n w), OutOfRange) ∷ (not vertical_lies, OutOfRange) ∷ (not horizontal_lies, OutOfRange) ∷ behind_bars) ≡ None)
  window_there = none_hold (is_missing n.window desk.windows) NoSuchWindow ((not (may_view_be_in n w), OutOfRange) ∷ (not vertical_lies, OutOfRange) ∷ (not horizontal_lies, OutOfRange) ∷ behind_bars) none

  view_lies : (not (may_view_be_in n w) ≡ false) × (first_refusal ((not vertical_lies, OutOfRange) ∷ (not horizontal_lies, OutOfRange) ∷ behind_bars) ≡ None)
  view_lies = none_hold (not (may_view_be_in n w)) OutOfRange ((not vertical_lies, OutOfRange) ∷ (not horizontal_lies, OutOfRange) ∷ behind_bars) window_there.1

  first_lies : (not vertical_lies ≡ false) × (first_refusal ((not horizontal_lies, OutOfRange) ∷ behind_bars) ≡ None)
  first_lies = none_hold (not vertical_lies) OutOfRange ((not horizontal_lies, OutOfRange) ∷ behind_bars) view_lies.1

  second_lies : (not horizontal_lies ≡ false) × (first_refusal behind_bars ≡ None)
  second_lies = none_hold (not horizontal_lies) OutOfRange behind_bars first_lies.1

  numbers : (first_refusal (new_refusals n.columns n.rows) ≡ None) × (first_refusal (room_refusals n (controls.count_of n.window cs) next_control ls next) ≡ None)
  numbers = none_of_both (new_refusals n.columns n.rows) (room_refusals n (controls.count_of n.window cs) next_control ls next)
      (none_hold (not (is_sum_of_flags n.flags)) OutOfRange (new_refusals n.columns n.rows ++ room_refusals n (controls.count_of n.window cs) next_control ls next) second_lies.1).1

  -- its view may lie so, and so may its bars
  pub view_may : may_view_be_in n w ≡ true
  view_may = not-false (may_view_be_in n w) view_lies.0

  pub vertical_may : vertical_lies ≡ true
  vertical_may = not-false vertical_lies first_lies.0

  pub horizontal_may : horizontal_lies ≡ true
  horizontal_may = not-false horizontal_lies second_lies.0

  -- its view and its cells are such
  pub good_of : IsGoodList n
  good_of = record { view = view_is n w view_may; grid = grid_is n.columns n.rows numbers.0 }

  -- there is room for it
  pub room_here : count_of n.window ls < most_lists
  room_here =
      let full = none_hold _ TooMany ((not (have_room (bars_wanted n) (controls.count_of n.window cs) next_control), TooMany) ∷ []) numbers.1 in
      fewer (count_of n.window ls) (or_parts (nat_le most_lists (count_of n.window ls)) (is_none next) full.0).0
    where
      fewer : (k : ℕ) → nat_le most_lists k ≡ false → k < most_lists
      fewer k e = grind (arith, nat_tests)

  -- and for its bars
  pub room_for : have_room (bars_wanted n) (controls.count_of n.window cs) next_control ≡ true
  room_for =
      let full = none_hold _ TooMany ((not (have_room (bars_wanted n) (controls.count_of n.window cs) next_control), TooMany) ∷ []) numbers.1 in
      not-false (have_room (bars_wanted n) (controls.count_of n.window cs) next_control)
      (none_hold (not (have_room (bars_wanted n) (controls.count_of n.window cs) next_control)) TooMany [] full.1).0

-- its record once its definition was begun
pub new_settled : (n : NewList) → IsGoodList n → (serial slot : ℕ) (flags : SelectionFlags) (vertical horizontal : Option ℕ) (old begun : ListDefinition) → IsListBegun n.cell_size (not flags.no_nil_hilite) old begun
    → IsSettledList (new_list n serial flags vertical horizontal (record { definition = begun; slot = slot }))
new_settled n good serial slot flags vertical horizontal old begun live = record {
  live = live.live;
  told = live.told;
  goes_by = record {
    picture = λ m font bytes p. live.heard.picture m font bytes p ∙ sym (live.heard.picture (told_all_of_list n.cell_size (not flags.no_nil_hilite) m) font bytes p);
    highlight = λ m font bytes p. live.heard.highlight m font bytes p ∙ sym (live.heard.highlight (told_all_of_list n.cell_size (not flags.no_nil_hilite) m) font bytes p);
  };
  view = good.view;
  grid = good.grid;
  short = good.grid.bytes_within;
  scrolled = record { across = bound_least (across_of n) (nat_abs n.columns); down = bound_least (down_of n) (nat_abs n.rows) };
  single = λ only. let none = new_selected (nat_abs n.columns) (nat_abs n.rows) in omega (arith, none);
}

-- a list that nothing refuses is settled once it is put
pub new_settles : (n : NewList) (d after : ListDesk) → first_refusal (list_refusals (New n) d.desk.windows.desk d.controls d.lists) ≡ None → IsPutSettled n d after
new_settles n d after none = record {
  there = new_there d n none;
  room = room_here n (vertical_offer n d.controls.stock) (horizontal_offer n d.controls.stock) d.desk.windows.desk d.controls.controls d.controls.next d.lists.lists d.lists.next judged;
  settled = λ serial vertical horizontal mid put. new_settled n good serial put.loan.slot put.flags vertical horizontal put.loan.definition put.begun put.live;
}
  where
    short : List (Bool × Refusal)
    short = (lacks_definition n d.lists d.controls, NoDefinition) ∷ []

    judged : first_refusal (judged_refusals n (vertical_offer n d.controls.stock) (horizontal_offer n d.controls.stock) d.desk.windows.desk d.controls.controls d.controls.next d.lists.lists d.lists.next) ≡ None
    judged =
        (none_of_both (judged_refusals n (vertical_offer n d.controls.stock) (horizontal_offer n d.controls.stock) d.desk.windows.desk d.controls.controls d.controls.next d.lists.lists d.lists.next) short
        (none_hold (lacks_kind n d.lists.stock d.controls.stock) NoSuchName
        (judged_refusals n (vertical_offer n d.controls.stock) (horizontal_offer n d.controls.stock) d.desk.windows.desk d.controls.controls d.controls.next d.lists.lists d.lists.next ++ short) none).1).0

    good : IsGoodList n
    good = good_of n (vertical_offer n d.controls.stock) (horizontal_offer n d.controls.stock) d.desk.windows.desk d.controls.controls d.controls.next d.lists.lists d.lists.next judged
