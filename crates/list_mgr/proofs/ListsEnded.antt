-- What is known of a list that was taken out of the lists where it stood.
use Rattle.std.proofs.Common.{◌≡◌, ℕ, true, List, Some, sym, ap, ◌∙◌, subst}
use Rattle.std.specs.Prelude.{slice_get}
use Rattle.std.specs.List.{remove}
use Rattle.std.specs.Option.{option_map}
use Rattle.window_items.specs.declared.item.Item.{Item}
use Rattle.window_items.proofs.EditLemmas.{All-there, All-remove}
use Rattle.window_items.proofs.SeenLemmas.{remove-seen, slice_get-seen}
use Rattle.def_iface.specs.declared.window_def.Stage.TheVariants.{Live}
use Rattle.def_iface.specs.ListMeaning.{ListLoan, SameListLook}
use Rattle.def_iface.specs.Slots.{is_left, TakenBox}
use Rattle.control_mgr.specs.InUse.{AreStocked}
use Rattle.control_mgr.proofs.Ended.{is_left_there}
use Rattle.list_mgr.specs.declared.list_record.ListRecord.{ListRecord}
use Rattle.list_mgr.specs.declared.lists.Lists.{Lists}
use Rattle.list_mgr.specs.ListClosing.{loan_of, stage_of}
use Rattle.list_mgr.specs.ListDesks.{ListSlot}
use Rattle.list_mgr.specs.Seen.{all_seen, seen, kept_seen}
use Rattle.list_mgr.specs.WholeLists.{AreSettled, IsSettledList, records_of, slots_of}

module _ {X : Type 0} {L : X → Type 0} (list_loan : TakenBox X L → ListLoan) (m : Lists (TakenBox X L)) (at : ℕ) where
  seen_at : (x : Item (ListRecord (TakenBox X L))) → slice_get m.list.items.items at ≡ Some x → slice_get (records_of list_loan m) at ≡ Some (seen list_loan x)
  seen_at x e = slice_get-seen (kept_seen list_loan) m.list.items.items at ∙ ap (option_map (seen list_loan)) e

  -- its definition is live, and its slot is empty
  pub ended_live : (x : Item (ListRecord (TakenBox X L))) → slice_get m.list.items.items at ≡ Some x → AreSettled (records_of list_loan m) → (list_loan x.kept.definition).definition.stage ≡ Live
  ended_live x e settled = (All-there IsSettledList at (records_of list_loan m) (seen list_loan x) (seen_at x e) settled).live

  pub ended_left : (x : Item (ListRecord (TakenBox X L))) (slots : List ListSlot) → slice_get m.list.items.items at ≡ Some x
      → AreStocked stage_of (slots_of (records_of list_loan m)) slots → is_left (list_loan x.kept.definition).slot slots ≡ true
  ended_left x slots e stocked = is_left_there loan_of stage_of SameListLook (records_of list_loan m) at (seen list_loan x) (seen_at x e) slots stocked

  -- and the others are settled
  pub settled_left : (xs : List (Item (ListRecord (TakenBox X L)))) → xs ≡ remove m.list.items.items at → AreSettled (records_of list_loan m) → AreSettled (all_seen list_loan xs)
  settled_left xs is settled = subst AreSettled (sym (ap (all_seen list_loan) is ∙ remove-seen (kept_seen list_loan) m.list.items.items at)) (All-remove IsSettledList at (records_of list_loan m) settled)
