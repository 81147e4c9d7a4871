-- What is asked about lists, and answered.
use Rattle.std.proofs.Common.{◌≡◌, true, length, get_or, Option, Some, None, Ok, sym, ap, ◌∙◌}
use Rattle.std.specs.Option.{option_map_or}
use Rattle.std.specs.Prelude.{slice_get}
use Rattle.std.specs.Str.{bytes_eq}
use Rattle.tb_geom.specs.Refusals.{first_refusal}
use Rattle.def_iface.specs.Slots.{TakenBox}
use Rattle.def_iface.specs.ListMeaning.{ListLoan}
use Rattle.def_iface.specs.WindowMeaning.{WindowLoan}
use Rattle.list_cells.specs.declared.cell.Cell.{Cell}
use Rattle.list_cells.specs.Grids.{content_of, first_from, is_cell, search_refusals}
use Rattle.window_items.specs.declared.item.Item.{Item}
use Rattle.list_mgr.specs.declared.list_record.ListRecord.{ListRecord}
use Rattle.list_mgr.specs.Seen.{seen}
use Rattle.desk_call.specs.declared.list.CellOf.{CellOf}
use Rattle.desk_call.specs.declared.list.CellText.{CellText}
use Rattle.desk_call.specs.declared.list.ListCall.TheVariants as asks
use Rattle.desk_call.specs.declared.list.ListOf.{ListOf}
use Rattle.desk_call.specs.declared.list.ListReply.{ListReply}
use Rattle.desk_call.specs.declared.list.ListReply.TheVariants as reply
use Rattle.window_mgr.specs.declared.manager.WindowManager.{WindowManager}
use Rattle.list_mgr.specs.declared.lists.Lists.{Lists}
use Rattle.list_mgr.specs.declared.spots.ListAt.{ListAt}
use Rattle.list_mgr.specs.ListDesks.{KeptList}
use Rattle.list_mgr.specs.ListSteps.{IsDataOf, IsListStep, told_of}
use Rattle.list_mgr.specs.Spots.{IsSpotOf}
use Rattle.list_mgr.specs.WholeLists.{IsToldOver, records_of}
use Rattle.list_mgr.proofs.Steps.{cell_there, its_reasons, list_named, list_read, told, unchanged}

module _ {V : Type 0} {H : V → Type 0} (loan : TakenBox V H → WindowLoan) {X : Type 0} {L : X → Type 0} (list_loan : TakenBox X L → ListLoan)
    (t : WindowManager V H) (m : Lists (TakenBox X L)) where
  -- what is told of the list that stands here
  told_is : (l : ListOf) (s : ListAt) (x : Item (ListRecord (TakenBox X L))) → IsSpotOf loan list_loan l t m s → x ≡ get_or m.list.items.items s.list x
      → (f : KeptList → ListReply) → told_of l f (records_of list_loan m) ≡ f (seen list_loan x)
  told_is l s x is read f =
      ap (λ o. option_map_or f o reply.Done) (list_named loan list_loan l t m s is (seen list_loan x) (list_read loan list_loan l t m s is x read))

  module _ (c : CellOf) (s : ListAt) (x : Item (ListRecord (TakenBox X L))) (is : IsSpotOf loan list_loan c.list t m s) (read : x ≡ get_or m.list.items.items s.list x) where
    abbrev its : KeptList
    its = seen list_loan x

    there : slice_get (records_of list_loan m) s.list ≡ Some its
    there = list_read loan list_loan c.list t m s is x read

    pub data_told : is_cell x.kept.cells c.cell ≡ true → (answer : ListReply) → IsDataOf (content_of x.kept.cells c.cell).bytes answer → IsToldOver list_loan loan (IsListStep (asks.GetCell c) (Ok answer)) t m
    data_told has answer are =
        told loan list_loan (asks.GetCell c) answer t m (λ others o slots cs kept. cell_there loan list_loan c.list t m s is c.cell its there has)
        (λ others o slots cs kept. ((its, list_named loan list_loan c.list t m s is its there, are), unchanged loan list_loan t others o slots cs m kept))

  module _ (c : CellText) (s : ListAt) (x : Item (ListRecord (TakenBox X L))) (is : IsSpotOf loan list_loan c.cell.list t m s) (read : x ≡ get_or m.list.items.items s.list x) where
    search_there : slice_get (records_of list_loan m) s.list ≡ Some (seen list_loan x)
    search_there = list_read loan list_loan c.cell.list t m s is x read

    pub search_told : first_refusal (search_refusals x.kept.cells c.cell.cell (length c.text)) ≡ None → (found : Option Cell) → found ≡ first_from (λ y. bytes_eq y.bytes c.text) x.kept.cells c.cell.cell
        → IsToldOver list_loan loan (IsListStep (asks.Search c) (Ok (reply.Cell found))) t m
    search_told free found same =
        told loan list_loan (asks.Search c) (reply.Cell found) t m
        (λ others o slots cs kept. its_reasons loan list_loan c.cell.list t m s is (λ l. search_refusals l.kept.cells c.cell.cell (length c.text)) (seen list_loan x) search_there ∙ free)
        (λ others o slots cs kept. (ap reply.Cell same ∙ sym (told_is c.cell.list s x is read (λ l. reply.Cell (first_from (λ y. bytes_eq y.bytes c.text) l.kept.cells c.cell.cell))), unchanged loan list_loan t others o slots cs m kept))
