-- Steps of calls about lists: refused ones, those that tell something, and what is known where nothing is missing.
use Rattle.std.proofs.Common.{◌≡◌, ℕ, ◌<◌, Bool, true, not, List, [], ◌∷◌, ◌++◌, get_or, Some, None, Ok, refl, sym, ap, ◌∙◌, subst}
use Rattle.std.specs.Prelude.{is_none, slice_get}
use Rattle.std.specs.Option.{option_and_then, option_map}
use Rattle.tb_geom.specs.declared.refusal.Refusal.{Refusal}
use Rattle.tb_geom.specs.declared.refusal.Refusal.TheVariants.{NoSuchCell, NoSuchList, NoSuchWindow}
use Rattle.tb_geom.specs.Refusals.{first_refusal}
use Rattle.def_iface.specs.Slots.{TakenBox}
use Rattle.def_iface.specs.ListMeaning.{ListLoan}
use Rattle.def_iface.specs.WindowMeaning.{WindowLoan}
use Rattle.def_iface.specs.WindowSlots.{WindowSlot}
use Rattle.list_cells.specs.declared.cell.Cell.{Cell}
use Rattle.list_cells.specs.Grids.{is_cell}
use Rattle.window_items.specs.declared.item.Item.{Item}
use Rattle.list_mgr.specs.declared.list_record.ListRecord.{ListRecord}
use Rattle.list_mgr.specs.Seen.{seen, kept_seen}
use Rattle.window_items.proofs.SeenLemmas.{length-seen, slice_get-seen}
use Rattle.desk_call.specs.declared.list.ListCall.{ListCall}
use Rattle.desk_call.specs.declared.list.ListOf.{ListOf}
use Rattle.desk_call.specs.declared.list.ListReply.{ListReply}
use Rattle.window_mgr.specs.declared.manager.WindowManager.{WindowManager}
use Rattle.window_mgr.specs.DeskStates.{Opened}
use Rattle.window_mgr.specs.Records.{desk_of}
use Rattle.control_mgr.specs.ControlDesks.{ControlsState}
use Rattle.control_mgr.proofs.Places.{IsThere, get_is, there_is}
use Rattle.control_mgr.proofs.Steps.{first_behind, first_fails, one_fails}
use Rattle.list_mgr.specs.declared.lists.Lists.{Lists}
use Rattle.list_mgr.specs.declared.spots.ListAt.{ListAt}
use Rattle.list_mgr.specs.ListDesks.{IsListDeskUnchanged, KeptList, ListSlot, index_of, list_of}
use Rattle.list_mgr.specs.ListRefusals.{cell_refusals, list_reasons, list_refusals, missing_refusals, of_list}
use Rattle.list_mgr.specs.ListSteps.{IsListEffect, IsListStep}
use Rattle.list_mgr.specs.Spots.{IsSpotOf}
use Rattle.list_mgr.specs.WholeLists.{IsToldOver, list_desk, lists_state, records_of}
use Rattle.tb_geom.specs.Points.{PixelSet}
use Rattle.desk_layers.specs.declared.part.Part.{Part}

module _ {V : Type 0} {H : V → Type 0} (loan : TakenBox V H → WindowLoan) {X : Type 0} {L : X → Type 0} (list_loan : TakenBox X L → ListLoan) where
  pub unchanged : (t : WindowManager V H) (others : List ℕ → Part → PixelSet) (o : Opened) (slots : List WindowSlot) (cs : ControlsState) (m : Lists (TakenBox X L)) (kept : List ListSlot)
      → IsListDeskUnchanged (list_desk list_loan loan t others o slots cs m kept) (list_desk list_loan loan t others o slots cs m kept)
  unchanged t others o slots cs m kept = record {
    desk = record { windows = record { desk = refl; stale = λ p on. refl; image = λ p on. refl }; activity = refl; begun = refl };
    controls = refl;
    lists = refl;
    others = refl;
  }

  -- why a call is refused, if it is, whatever is open and whatever stocks hold
  abbrev pub IsTold : ListCall → WindowManager V H → Lists (TakenBox X L) → (List (Bool × Refusal) → Type 0) → Type 0
  IsTold call t m P = (others : List ℕ → Part → PixelSet) (o : Opened) (slots : List WindowSlot) (cs : ControlsState) (kept : List ListSlot)
      → P (list_refusals call (list_desk list_loan loan t others o slots cs m kept).desk.windows.desk cs (lists_state list_loan m kept))

  -- a call that is answered
  pub told : (call : ListCall) (answer : ListReply) (t : WindowManager V H) (m : Lists (TakenBox X L)) → IsTold call t m (λ why. first_refusal why ≡ None)
      → ((others : List ℕ → Part → PixelSet) (o : Opened) (slots : List WindowSlot) (cs : ControlsState) (kept : List ListSlot)
      → IsListEffect call answer (list_desk list_loan loan t others o slots cs m kept) (list_desk list_loan loan t others o slots cs m kept))
      → IsToldOver list_loan loan (IsListStep call (Ok answer)) t m
  told call answer t m why effect others o slots cs kept whole lists = (why others o slots cs kept, effect others o slots cs kept)

  -- ---- a list that is there

  module _ (l : ListOf) (t : WindowManager V H) (m : Lists (TakenBox X L)) (s : ListAt) (is : IsSpotOf loan list_loan l t m s) where
    abbrev ls : List KeptList
    ls = records_of list_loan m

    pub list_there : IsThere ls s.list
    list_there = there_is ls s.list (subst (λ n. s.list < n) (sym (length-seen (kept_seen list_loan) m.list.items.items)) is.low)

    pub list_read : (x : Item (ListRecord (TakenBox X L))) → x ≡ get_or m.list.items.items s.list x → slice_get ls s.list ≡ Some (seen list_loan x)
    list_read x read = slice_get-seen (kept_seen list_loan) m.list.items.items s.list ∙ ap (option_map (seen list_loan)) (get_is m.list.items.items s.list x is.low read)

    pub list_named : (x : KeptList) → slice_get ls s.list ≡ Some x → list_of l ls ≡ Some x
    list_named x there = ap (option_and_then (slice_get ls)) is.list ∙ there

    pub nothing_missing : first_refusal (missing_refusals l (desk_of loan t []) ls) ≡ None
    nothing_missing =
        first_fails _ NoSuchWindow ((is_none (index_of l ls), NoSuchList) ∷ []) is.there ∙ one_fails (is_none (index_of l ls)) NoSuchList (ap is_none is.list)

    -- where nothing is missing the other reasons are looked at
    pub other_reasons : (ys : List (Bool × Refusal)) → first_refusal (missing_refusals l (desk_of loan t []) ls ++ ys) ≡ first_refusal ys
    other_reasons ys = first_behind (missing_refusals l (desk_of loan t []) ls) ys nothing_missing

    pub its_reasons : (f : KeptList → List (Bool × Refusal)) (x : KeptList) → slice_get ls s.list ≡ Some x → first_refusal (list_reasons l f (desk_of loan t []) ls) ≡ first_refusal (f x)
    its_reasons f x there = other_reasons (of_list f (list_of l ls)) ∙ ap (λ o. first_refusal (of_list f o)) (list_named x there)

    -- and it has the cell
    pub cell_there : (c : Cell) (x : KeptList) → slice_get ls s.list ≡ Some x → is_cell x.kept.cells c ≡ true
        → first_refusal (list_reasons l (cell_refusals c) (desk_of loan t []) ls) ≡ None
    cell_there c x there has = its_reasons (cell_refusals c) x there ∙ one_fails (not (is_cell x.kept.cells c)) NoSuchCell (ap not has)
