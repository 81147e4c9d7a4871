-- What a list that was given more or fewer rows and columns, where it stands, shows elsewhere.
use Rattle.std.proofs.Common.{◌≡◌, pos, Bool, get_or, None, Some, ap, ◌∙◌, subst}
use Rattle.std.specs.Prelude.{IfSome, slice_get}
use Rattle.tb_geom.specs.declared.rect.Rect.{Rect}
use Rattle.tb_geom.specs.Refusals.{first_refusal}
use Rattle.def_iface.specs.Slots.{TakenBox}
use Rattle.def_iface.specs.ListMeaning.{ListLoan}
use Rattle.def_iface.specs.WindowMeaning.{WindowLoan}
use Rattle.list_cells.specs.Grids.{Grid}
use Rattle.window_items.specs.declared.item.Item.{Item}
use Rattle.list_mgr.specs.declared.list_record.ListRecord.{ListRecord}
use Rattle.list_mgr.specs.Seen.{seen}
use Rattle.desk_call.specs.declared.list.ListOf.{ListOf}
use Rattle.window_mgr.specs.declared.manager.WindowManager.{WindowManager}
use Rattle.control_mgr.proofs.Lays.{one_item}
use Rattle.list_mgr.specs.declared.line_edit.LineEdit.{LineEdit}
use Rattle.list_mgr.specs.declared.lists.Lists.{Lists}
use Rattle.list_mgr.specs.declared.spots.ListAt.{ListAt}
use Rattle.list_mgr.specs.Changing.{IsSameOrNot}
use Rattle.list_mgr.specs.LineEdits.{edit_refusals, edited, first_line, scrolled_after, with_edit}
use Rattle.list_mgr.specs.LinesFrom.{AreLinesFrom}
use Rattle.list_mgr.specs.ListDesks.{KeptList}
use Rattle.list_mgr.specs.ListSteps.{with_grid}
use Rattle.list_mgr.specs.Spots.{IsSpotOf}
use Rattle.list_mgr.specs.WholeLists.{IsSettledList, records_of}
use Rattle.list_mgr.specs.Within.{IsSameOutside}
use Rattle.list_mgr.proofs.Given as given
use Rattle.list_mgr.proofs.LinesFrom.{edit_outside}
use Rattle.list_mgr.proofs.Steps.{list_read}
use Rattle.window_items.proofs.EditLemmas.{there_edited}

module _ {V : Type 0} {H : V → Type 0} (loan : TakenBox V H → WindowLoan) {X : Type 0} {L : X → Type 0} (list_loan : TakenBox X L → ListLoan)
    (l : ListOf) (t : WindowManager V H) (m : Lists (TakenBox X L)) (s : ListAt) (is : IsSpotOf loan list_loan l t m s)
    (x : Item (ListRecord (TakenBox X L))) (read : x ≡ get_or m.list.items.items s.list x) where
  -- a list that was read twice has one view
  same_view : (w : Item (ListRecord (TakenBox X L))) → w ≡ get_or m.list.items.items s.list w → w.kept.view ≡ x.kept.view
  same_view w w_read = ap (λ (r : Item (ListRecord (TakenBox X L))). r.kept.view) (one_item m.list.items.items s.list w x is.low w_read read)

  -- the list that was given other cells stands where it stood
  there_then : (g : Grid → Grid) (cells : Grid) → cells ≡ g x.kept.cells → slice_get (records_of list_loan (given.with_cells_there loan list_loan l t m s is x read cells)) s.list ≡ Some (with_grid g (seen list_loan x))
  there_then g cells now =
      ap (λ ls. slice_get ls s.list) (given.edited loan list_loan l t m s is x read g cells now)
      ∙ there_edited (with_grid g) s.list (records_of list_loan m) (seen list_loan x) (list_read loan list_loan l t m s is x read)

  pub edit_shown : (e : LineEdit) (cells : Grid) → cells ≡ edited e x.kept.cells → first_refusal (edit_refusals e x.kept.cells) ≡ None
      → (w : Item (ListRecord (TakenBox X L))) → w ≡ get_or m.list.items.items s.list w → (within : Rect) (scrolled : Bool) → AreLinesFrom e.axis scrolled w.kept.view (pos (first_line e x.kept.cells)) within
      → IfSome (slice_get (records_of list_loan (given.with_cells_there loan list_loan l t m s is x read cells)) s.list) (λ z. IsSameOrNot scrolled (scrolled_after e.change z) z)
      → (y : KeptList) → slice_get (records_of list_loan m) s.list ≡ Some y → IsSettledList y → IsSameOutside within y (with_edit e y)
  edit_shown e cells now none w w_read within scrolled from agree =
      given.of_read loan list_loan l t m s is x read (λ y. IsSettledList y → IsSameOutside within y (with_edit e y))
      (λ settled. edit_outside e within (seen list_loan x) scrolled settled none
      (subst (λ v. AreLinesFrom e.axis scrolled v (pos (first_line e x.kept.cells)) within) (same_view w w_read) from)
      (subst (λ o. IfSome o (λ z. IsSameOrNot scrolled (scrolled_after e.change z) z)) (there_then (edited e) cells now) agree))
