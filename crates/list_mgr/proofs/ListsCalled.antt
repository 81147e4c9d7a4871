-- What holds of a desk with lists between calls holds after any call about lists.
use Rattle.std.proofs.Common.{◌≡◌, not, [], None, Some, Result, Ok, Err}
use Rattle.std.proofs.lemmas.Bool.{not-false}
use Rattle.tb_geom.specs.declared.refusal.Refusal.{Refusal}
use Rattle.tb_geom.specs.declared.refusal.Refusal.TheVariants.{NoSuchCell}
use Rattle.tb_geom.specs.Refusals.{first_refusal}
use Rattle.list_cells.specs.Grids.{is_cell}
use Rattle.list_view.proofs.LawLemmas.{found_is_cell}
use Rattle.desk_call.specs.declared.list.ListCall.{ListCall}
use Rattle.desk_call.specs.declared.list.ListCall.TheVariants.{New, AddRows, AddColumns, DeleteRows, DeleteColumns, SetCell, AddToCell, ClearCell, Select, Click, Scroll}
use Rattle.desk_call.specs.declared.list.ListOf.{ListOf}
use Rattle.desk_call.specs.declared.list.ListReply.{ListReply}
use Rattle.control_mgr.proofs.Steps.{none_hold}
use Rattle.list_mgr.specs.ListDesks.{KeptList, ListDesk, list_of}
use Rattle.list_mgr.specs.ListRefusals.{list_refusals}
use Rattle.list_mgr.specs.ListSteps.{IsListStep}
use Rattle.list_mgr.specs.WholeLists.{IsSettledList}
use Rattle.list_mgr.proofs.Becoming.{settled_but}
use Rattle.list_mgr.proofs.Edited.{named_settled}
use Rattle.list_mgr.proofs.LinesChanged.{scroll_settles}
use Rattle.list_mgr.proofs.ListsFollowed.{MaySettle, effect_keeps}
use Rattle.list_mgr.proofs.ListsKept.{IsRightLists, unchanged_keeps}
use Rattle.list_mgr.proofs.ListsSelected.{choice_selects, click_selects}
use Rattle.list_mgr.proofs.ListsSettled.{added_settles, cleared_settles, columns_added_settle, columns_deleted_settle, reasons_of, rows_added_settle, rows_deleted_settle, set_settles}
use Rattle.list_mgr.proofs.NewLists.{new_settles}

module _ (before after : ListDesk) (was : IsRightLists before) where
  settled : (l : ListOf) (x : KeptList) → list_of l before.lists.lists ≡ Some x → IsSettledList x
  settled l x named = named_settled l before.lists.lists x was.lists.settled named

  -- a call that nothing refuses leaves its list settled
  settles : (call : ListCall) → first_refusal (list_refusals call before.desk.windows.desk before.controls before.lists) ≡ None → MaySettle call before after
  settles (New n) may = new_settles n before after may
  settles (AddRows n) may = rows_added_settle before n may
  settles (AddColumns n) may = columns_added_settle before n may
  settles (DeleteRows n) may = rows_deleted_settle before n may
  settles (DeleteColumns n) may = columns_deleted_settle before n may
  settles (SetCell t) may = set_settles before t may
  settles (AddToCell t) may = added_settles before t may
  settles (ClearCell c) may = cleared_settles before c may
  settles (Select k) may = λ x named.
      let reasons = reasons_of k.cell.list _ before.desk.windows.desk before.lists.lists x named may in
      let has = not-false (is_cell x.kept.cells k.cell.cell) (none_hold (not (is_cell x.kept.cells k.cell.cell)) NoSuchCell [] reasons).0 in
      choice_selects x.kept.cells k.cell.cell (settled k.cell.list x named).grid has k.selected x.kept.flags.only_one
  settles (Click k) may = λ c x named found.
      let its = settled k.list x named in
      click_selects x.kept.cells c its.grid (found_is_cell x.kept.view x.kept.cells c k.point its.view found) x.kept.flags _
  settles (Scroll m) may = λ x named its. scroll_settles m.columns m.rows x (settled_but x its)
  settles call may = tt

  -- a call about lists keeps it
  pub list_keeps : (call : ListCall) (result : Result ListReply Refusal) → IsListStep call result before after → IsRightLists after
  list_keeps call (Ok answer) step = effect_keeps before after was call answer (settles call step.0) step.1
  list_keeps call (Err e) step = unchanged_keeps before after was step.1
