-- What the end of a window or of a desk does to the stock of lists.
use Rattle.std.specs.Prelude.{ℕ, List}
use Rattle.def_iface.specs.declared.window_def.Stage.{Stage}
use Rattle.def_iface.specs.ListMeaning.{ListDefinition, ListLoan, SameListLook}
use Rattle.control_mgr.specs.ItemsClosing as closing
use Rattle.list_mgr.specs.declared.list_record.ListRecord.{ListRecord}
use Rattle.list_mgr.specs.ListDesks.{KeptList, ListSlot, ListsState}

-- where a list's definition stands in its life
abbrev pub stage_of : ListDefinition → Stage
stage_of d = d.stage

-- the definition that a list has out of its slot
abbrev pub loan_of : ListRecord ListLoan → ListLoan
loan_of l = l.definition

-- the desk's lists, which are these, were disposed of: every slot has a definition that no desk uses
abbrev pub AreAllListsClosed : List KeptList → List ListSlot → List ListSlot → Type 0
AreAllListsClosed = closing.AreAllClosed loan_of stage_of SameListLook

abbrev pub items_state : ListsState → closing.ItemsState ListDefinition (ListRecord ListLoan)
items_state s = record { items = s.lists; next = s.next; stock = s.stock }

-- the lists of a window were disposed of, and those of other windows stay
abbrev pub AreListsOfLeft : ℕ → ListsState → ListsState → Type 0
AreListsOfLeft window before after = closing.AreLeft loan_of stage_of SameListLook window (items_state before) (items_state after)
