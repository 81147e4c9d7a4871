-- What holds of a desk with lists between calls holds after a call about lists that leaves its list settled.
use Rattle.std.proofs.Common.{◌≡◌, ◌<◌, ◌≤◌, ℕ, ℤ, true, false, [], Option, None, Some, refl, ap, subst}
use Rattle.std.specs.Prelude.{nat_abs}
use Rattle.list_cells.specs.declared.cell.Cell.{Cell}
use Rattle.list_cells.specs.declared.selecting.Selecting.{Selecting}
use Rattle.list_cells.specs.Blocks.{clicked_cell}
use Rattle.list_cells.specs.Clicks.{keys_of}
use Rattle.list_cells.specs.Grids.{Grid, with_bytes}
use Rattle.list_cells.specs.Selections.{IsSelecting, chosen_cell}
use Rattle.window_items.specs.Items.{count_of}
use Rattle.list_mgr.specs.Fields.{with_cells}
use Rattle.desk_call.specs.declared.list.ListCall.{ListCall}
use Rattle.desk_call.specs.declared.list.ListCall.TheVariants.{New, Dispose, AddRows, AddColumns, DeleteRows, DeleteColumns, SetCell, AddToCell, ClearCell, GetCell, Select, IsSelected, FirstSelected, NextCell, Search, Click, Scroll, SetDrawing}
use Rattle.desk_call.specs.declared.list.ListClick.{ListClick}
use Rattle.desk_call.specs.declared.list.ListOf.{ListOf}
use Rattle.desk_call.specs.declared.list.ListReply.{ListReply}
use Rattle.desk_call.specs.declared.list.NewList.{NewList}
use Rattle.window_mgr.specs.Refused.{is_missing}
use Rattle.list_mgr.specs.ListDesks.{KeptList, ListDesk, list_of}
use Rattle.list_mgr.specs.ListRefusals.{most_lists}
use Rattle.list_mgr.specs.ListSteps.{IsClickOn, IsListEffect, IsListPut, appended, clicked_at, new_list, with_columns_fewer, with_columns_more, with_grid, with_rows_fewer, with_rows_more, with_scroll}
use Rattle.list_mgr.specs.WholeLists.{IsSettledList, count_selected}
use Rattle.list_mgr.proofs.Becoming.{grid_stays}
use Rattle.list_mgr.proofs.Changed.{grid_keeps}
use Rattle.list_mgr.proofs.Edited.{Keeps}
use Rattle.list_mgr.proofs.ListsBars.{relined_keeps}
use Rattle.list_mgr.proofs.ListsKept.{IsRightLists, changed_keeps, toggled_or_not_keeps, unchanged_keeps}
use Rattle.list_mgr.proofs.ListsMade.{disposed_keeps, drawing_keeps, made_keeps}
use Rattle.list_mgr.proofs.Selected.{selecting_wider}
use Rattle.list_mgr.proofs.SelectedCells.{chosen_single, clicked_single}

-- ---- changes that keep a list's place

rows_more_keep : (n at : ℤ) → Keeps (with_rows_more n at)
rows_more_keep n at = record {
  serial = λ x. refl;
  window = λ x. refl;
  definition = λ x. refl;
  layer = λ x k its. record { part = its.part; shown = its.shown; region = its.region; bounds = its.bounds };
}

columns_more_keep : (n at : ℤ) → Keeps (with_columns_more n at)
columns_more_keep n at = record {
  serial = λ x. refl;
  window = λ x. refl;
  definition = λ x. refl;
  layer = λ x k its. record { part = its.part; shown = its.shown; region = its.region; bounds = its.bounds };
}

rows_fewer_keep : (n at : ℤ) → Keeps (with_rows_fewer n at)
rows_fewer_keep n at = record {
  serial = λ x. refl;
  window = λ x. refl;
  definition = λ x. refl;
  layer = λ x k its. record { part = its.part; shown = its.shown; region = its.region; bounds = its.bounds };
}

columns_fewer_keep : (n at : ℤ) → Keeps (with_columns_fewer n at)
columns_fewer_keep n at = record {
  serial = λ x. refl;
  window = λ x. refl;
  definition = λ x. refl;
  layer = λ x k its. record { part = its.part; shown = its.shown; region = its.region; bounds = its.bounds };
}

scroll_keep : (columns rows : ℤ) → Keeps (with_scroll columns rows)
scroll_keep columns rows = record {
  serial = λ x. refl;
  window = λ x. refl;
  definition = λ x. refl;
  layer = λ x k its. record { part = its.part; shown = its.shown; region = its.region; bounds = its.bounds };
}

-- ---- selections

-- with lOnlyOne no two cells are selected after the change where no two were before it
abbrev StaysSingle : (Grid → Grid) → KeptList → Type 0
StaysSingle g x = x.kept.flags.only_one ≡ true → count_selected x.kept.cells ≤ 1 → count_selected (g x.kept.cells) ≤ 1

-- a list whose cells differ in their selection alone is as good
settled_selected : (x : KeptList) (g : Grid → Grid) (s : Selecting) → IsSelecting x.kept.cells (g x.kept.cells) s → StaysSingle g x → IsSettledList x → IsSettledList (with_cells (g x.kept.cells) x)
settled_selected x g s h single its = grid_stays g x its (selecting_wider x.kept.flags x.kept.cells (g x.kept.cells) s h single its.grid)

-- ---- what is left to say of each call

-- the change leaves the list that is named settled
abbrev pub StaysSettled : ListOf → (KeptList → KeptList) → ListDesk → Type 0
StaysSettled l f d = (x : KeptList) → list_of l d.lists.lists ≡ Some x → IsSettledList x → IsSettledList (f x)

-- the change of cells of the list that is named changes their selection alone
abbrev pub SelectsAt : ListOf → (KeptList → Grid → Grid) → ListDesk → Type 0
SelectsAt l g d = (x : KeptList) → list_of l d.lists.lists ≡ Some x → (s : Selecting) × IsSelecting x.kept.cells (g x x.kept.cells) s

-- a list that is put is settled, and its window is there and has room for it
pub record IsPutSettled (n : NewList) (d after : ListDesk) : Type 0 where
  pub there : is_missing n.window d.desk.windows.desk.windows ≡ false
  pub room : count_of n.window d.lists.lists < most_lists
  pub settled : (serial : ℕ) (vertical horizontal : Option ℕ) (mid : ListDesk) (put : IsListPut n serial vertical horizontal mid after)
      → IsSettledList (new_list n serial put.flags vertical horizontal (record { definition = put.begun; slot = put.loan.slot }))

-- of each call
abbrev pub MaySettle : ListCall → ListDesk → ListDesk → Type 0
MaySettle (New n) d after = IsPutSettled n d after
MaySettle (AddRows n) d after = StaysSettled n.list (with_rows_more n.count n.at) d
MaySettle (AddColumns n) d after = StaysSettled n.list (with_columns_more n.count n.at) d
MaySettle (DeleteRows n) d after = StaysSettled n.list (with_rows_fewer n.count n.at) d
MaySettle (DeleteColumns n) d after = StaysSettled n.list (with_columns_fewer n.count n.at) d
MaySettle (SetCell t) d after = StaysSettled t.cell.list (with_grid (λ g. with_bytes g t.cell.cell t.text)) d
MaySettle (AddToCell t) d after = StaysSettled t.cell.list (with_grid (appended t.cell.cell t.text)) d
MaySettle (ClearCell c) d after = StaysSettled c.list (with_grid (λ g. with_bytes g c.cell [])) d
MaySettle (Select k) d after = SelectsAt k.cell.list (λ x. chosen_cell k.cell.cell k.selected x.kept.flags.only_one) d
MaySettle (Click k) d after = (c : Cell) (x : KeptList) → list_of k.list d.lists.lists ≡ Some x → clicked_at k x ≡ Some c → (s : Selecting) × IsSelecting x.kept.cells (clicked_cell x.kept.flags (keys_of (nat_abs k.modifiers)) c x.kept.cells) s
MaySettle (Scroll m) d after = StaysSettled m.list (with_scroll m.columns m.rows) d
MaySettle _ d after = Unit {0}

-- ---- each call

module _ (before after : ListDesk) (was : IsRightLists before) where
  one_named : (l : ListOf) (x y : KeptList) → list_of l before.lists.lists ≡ Some x → list_of l before.lists.lists ≡ Some y → x ≡ y
  one_named l x y e f = cc

  -- a change that selects leaves the list settled
  stays_selected : (l : ListOf) (g : Grid → Grid) (x : KeptList) → list_of l before.lists.lists ≡ Some x → (s : Selecting) → IsSelecting x.kept.cells (g x.kept.cells) s → StaysSingle g x
      → (y : KeptList) → list_of l before.lists.lists ≡ Some y → IsSettledList y → IsSettledList (with_cells (g y.kept.cells) y)
  stays_selected l g x named s selecting single y other =
      subst (λ (z : KeptList). IsSettledList z → IsSettledList (with_cells (g z.kept.cells) z)) (one_named l x y named other) (settled_selected x g s selecting single)

  clicked_keeps : (k : ListClick) (o : Option Cell) (answer : ListReply) → ((x : KeptList) → list_of k.list before.lists.lists ≡ Some x → clicked_at k x ≡ o) → MaySettle (Click k) before after → IsClickOn k o answer before after → IsRightLists after
  clicked_keeps k None answer found may done = unchanged_keeps before after was done.1
  clicked_keeps k (Some c) answer found may (is, (x, named, done)) =
      let selects = may c x named (found x named) in
      toggled_or_not_keeps before after was k.list (clicked_cell x.kept.flags (keys_of (nat_abs k.modifiers)) c) x named selects
      (stays_selected k.list (clicked_cell x.kept.flags (keys_of (nat_abs k.modifiers)) c) x named selects.0 selects.1 (λ only few. clicked_single x.kept.flags (keys_of (nat_abs k.modifiers)) c x.kept.cells only)) x.kept.drawing done

  -- what a call leaves keeps it, where it leaves its list settled
  pub effect_keeps : (call : ListCall) (answer : ListReply) → MaySettle call before after → IsListEffect call answer before after → IsRightLists after
  effect_keeps (New n) answer may (serial, is, made) = made_keeps n serial before after was may.there may.room (may.settled serial) made
  effect_keeps (Dispose l) answer may done = disposed_keeps l before after was done.1
  effect_keeps (AddRows n) answer may done = relined_keeps n.list (with_rows_more n.count n.at) (rows_more_keep n.count n.at) before after was may done.1
  effect_keeps (AddColumns n) answer may done = relined_keeps n.list (with_columns_more n.count n.at) (columns_more_keep n.count n.at) before after was may done.1
  effect_keeps (DeleteRows n) answer may done = relined_keeps n.list (with_rows_fewer n.count n.at) (rows_fewer_keep n.count n.at) before after was may done.1
  effect_keeps (DeleteColumns n) answer may done = relined_keeps n.list (with_columns_fewer n.count n.at) (columns_fewer_keep n.count n.at) before after was may done.1
  effect_keeps (SetCell t) answer may done = changed_keeps before after was t.cell.list (with_grid (λ g. with_bytes g t.cell.cell t.text)) (grid_keeps (λ g. with_bytes g t.cell.cell t.text)) may done.1
  effect_keeps (AddToCell t) answer may done = changed_keeps before after was t.cell.list (with_grid (appended t.cell.cell t.text)) (grid_keeps (appended t.cell.cell t.text)) may done.1
  effect_keeps (ClearCell c) answer may done = changed_keeps before after was c.list (with_grid (λ g. with_bytes g c.cell [])) (grid_keeps (λ g. with_bytes g c.cell [])) may done.1
  effect_keeps (GetCell c) answer may done = unchanged_keeps before after was done.1
  effect_keeps (Select k) answer may (is, (x, named, done)) =
      let selects = may x named in
      toggled_or_not_keeps before after was k.cell.list (chosen_cell k.cell.cell k.selected x.kept.flags.only_one) x named selects
      (stays_selected k.cell.list (chosen_cell k.cell.cell k.selected x.kept.flags.only_one) x named selects.0 selects.1 (chosen_single x.kept.flags.only_one x.kept.cells k.cell.cell k.selected)) x.kept.drawing done
  effect_keeps (IsSelected c) answer may done = unchanged_keeps before after was done.1
  effect_keeps (FirstSelected c) answer may done = unchanged_keeps before after was done.1
  effect_keeps (NextCell n) answer may done = unchanged_keeps before after was done.1
  effect_keeps (Search t) answer may done = unchanged_keeps before after was done.1
  effect_keeps (Click k) answer may (x, named, done) = clicked_keeps k (clicked_at k x) answer (λ y other. ap (clicked_at k) (one_named k.list y x other named)) may done
  effect_keeps (Scroll m) answer may done = relined_keeps m.list (with_scroll m.columns m.rows) (scroll_keep m.columns m.rows) before after was may done.1
  effect_keeps (SetDrawing d) answer may (is, changed, same) = drawing_keeps d.list d.drawing before after was changed same
