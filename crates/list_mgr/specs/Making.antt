-- A new list judged, as the code does it.
use Rattle.std.specs.Prelude.{◌≡◌, ℕ, Bool, not, ◌||◌, nat_le, List, [], ◌∷◌, Option, None, Some, is_none}
use Rattle.tb_geom.specs.declared.refusal.Refusal.{Refusal}
use Rattle.tb_geom.specs.declared.refusal.Refusal.TheVariants.{OutOfRange, TooMany}
use Rattle.tb_geom.specs.Refusals.{first_refusal}
use Rattle.def_iface.specs.Slots.{TakenBox}
use Rattle.def_iface.specs.ControlMeaning.{ControlDefinition, ControlLoan}
use Rattle.def_iface.specs.ListMeaning.{ListLoan}
use Rattle.def_iface.specs.WindowMeaning.{WindowLoan}
use Rattle.window_items.specs.Items as controls
use Rattle.list_cells.specs.Clicks.{flags_number}
use Rattle.list_cells.specs.Runs.{new_refusals}
use Rattle.window_items.specs.Items.{count_of}
use Rattle.list_view.specs.Bars.{horizontal_bar, vertical_bar}
use Rattle.desk_call.specs.declared.list.NewList.{NewList}
use Rattle.vis_update.specs.Records.{WindowRecord}
use Rattle.window_mgr.specs.declared.manager.WindowManager.{WindowManager}
use Rattle.window_mgr.specs.Edits.{StandsAt}
use Rattle.window_mgr.specs.Records.{desk_of}
use Rattle.control_mgr.specs.declared.controls.Controls.{Controls}
use Rattle.control_mgr.specs.WholeControls as control_records
use Rattle.list_mgr.specs.declared.judging.ListTicket.{ListTicket}
use Rattle.list_mgr.specs.declared.lists.Lists.{Lists}
use Rattle.list_mgr.specs.ListDesks.{KeptList}
use Rattle.list_mgr.specs.ListRefusals.{bars_wanted, have_room, is_sum_of_flags, judged_refusals, may_bar_be_in, may_view_be_in, most_lists, view_of}
use Rattle.list_mgr.specs.WholeLists.{records_of}

-- why a list and its bars may not lie so in this window
abbrev pub lie_refusals : NewList → (vertical horizontal : Option ControlDefinition) → Option WindowRecord → List (Bool × Refusal)
lie_refusals n vertical horizontal w =
    (not (may_view_be_in n w), OutOfRange)
    ∷ (not (may_bar_be_in n.vertical_bar vertical (vertical_bar (view_of n)) w), OutOfRange)
    ∷ (not (may_bar_be_in n.horizontal_bar horizontal (horizontal_bar (view_of n)) w), OutOfRange) ∷ []

-- why it may not have such flags, or so many cells
abbrev pub number_refusals : NewList → List (Bool × Refusal)
number_refusals n = (not (is_sum_of_flags n.flags), OutOfRange) ∷ new_refusals n.columns n.rows

-- why a window that has so many controls may not have it too
abbrev pub room_refusals : NewList → (controls : ℕ) → (next_control : Option ℕ) → List KeptList → Option ℕ → List (Bool × Refusal)
room_refusals n controls next_control ls next =
    (nat_le most_lists (count_of n.window ls) || is_none next, TooMany)
    ∷ (not (have_room (bars_wanted n) controls next_control), TooMany) ∷ []

module _ {V : Type 0} {H : V → Type 0} (loan : TakenBox V H → WindowLoan) {W : Type 0} {K : W → Type 0} (control_loan : TakenBox W K → ControlLoan)
    {X : Type 0} {L : X → Type 0} (list_loan : TakenBox X L → ListLoan) where
  -- why a list whose bars would have these definitions, or none, may not be made
  abbrev pub judged_by : NewList → (vertical horizontal : Option ControlDefinition) → WindowManager V H → Controls (TakenBox W K) → Lists (TakenBox X L) → Option Refusal
  judged_by n vertical horizontal t c m =
      first_refusal (judged_refusals n vertical horizontal (desk_of loan t []) (control_records.records_of control_loan c) c.list.next (records_of list_loan m) m.list.next)

  -- what a new list is given, where nothing but its definitions and memory can refuse it
  pub record IsListTicket (n : NewList) (vertical horizontal : Option ControlDefinition) (t : WindowManager V H) (c : Controls (TakenBox W K)) (m : Lists (TakenBox X L)) (k : ListTicket) : Type 0 where
    pub window : StandsAt t.windows.records.items n.window k.window
    pub judged : judged_by n vertical horizontal t c m ≡ None
    pub serial : m.list.next ≡ Some k.serial
    pub flags : flags_number k.flags ≡ n.flags
    pub view : k.view ≡ view_of n
    pub controls : k.controls ≡ controls.count_of n.window (control_records.records_of control_loan c)
    pub bar : k.bar ≡ c.list.next
