-- Scroll bars that are set.
use Rattle.std.specs.Prelude.{get_or, slice_get}
use Rattle.std.specs.Option.{option_and_then}
use Rattle.std.proofs.Common.{◌≡◌, ℕ, false, [], Option, Some, None, refl, sym, ap, ◌∙◌, subst}
use Rattle.control_values.specs.Settings.{Setting}
use Rattle.def_iface.specs.Slots.{TakenBox}
use Rattle.def_iface.specs.ControlMeaning.{ControlLoan}
use Rattle.def_iface.specs.ListMeaning.{ListLoan}
use Rattle.def_iface.specs.WindowMeaning.{WindowLoan}
use Rattle.desk_call.specs.declared.activity.Activity.TheVariants.{Idle}
use Rattle.desk_call.specs.declared.list.ListOf.{ListOf}
use Rattle.window_items.specs.declared.item.Item.{Item}
use Rattle.list_mgr.specs.declared.list_record.ListRecord.{ListRecord}
use Rattle.list_mgr.specs.Seen.{seen}
use Rattle.list_view.specs.Bars.{horizontal_setting, vertical_setting}
use Rattle.window_mgr.specs.declared.manager.WindowManager.{WindowManager}
use Rattle.window_mgr.specs.DeskStates.{Opened}
use Rattle.window_mgr.specs.Kept.{IsKept}
use Rattle.window_mgr.specs.Records.{desk_of}
use Rattle.control_mgr.specs.declared.controls.Controls.{Controls}
use Rattle.control_mgr.specs.Damages.{IsSettingGiven}
use Rattle.control_mgr.specs.WholeControls.{AreBeside as AreControlsBeside, LeavesControls}
use Rattle.list_mgr.specs.declared.lists.Lists.{Lists}
use Rattle.list_mgr.specs.declared.spots.ListAt.{ListAt}
use Rattle.list_mgr.specs.Spots.{IsSpotOf}
use Rattle.list_mgr.proofs.Places.{found_names}
use Rattle.list_mgr.proofs.Steps.{list_read}
use Rattle.list_mgr.specs.ListDesks.{KeptList, ListDesk, list_of, lists_show}
use Rattle.list_mgr.specs.ListSteps.{AreBarsSet, IsBarSet}
use Rattle.list_mgr.specs.Lines.{IsBarSetOver, desk_beside}
use Rattle.list_mgr.specs.WholeLists.{AreWholeLists, LeavesLists, lists_state, records_of}
use Rattle.list_mgr.specs.Within.{IsBarGiven, IsWhereRight}
use Rattle.list_mgr.proofs.BarSettings.{bar_may}
use Rattle.list_mgr.proofs.Edited.{named_settled}
use Rattle.list_mgr.proofs.ListsBars.{bar_set_keeps}
use Rattle.list_mgr.proofs.ListsKept.{IsRightLists}

module _ {W : Type 0} {K : W → Type 0} (control_loan : TakenBox W K → ControlLoan) {V : Type 0} {H : V → Type 0} (loan : TakenBox V H → WindowLoan) where
  pub bar_set : (window : ℕ) (bar : Option ℕ) (n : ℕ) (setting : Setting) (t u : WindowManager V H) (c d : Controls (TakenBox W K)) → bar ≡ Some n
      → ((o r : Opened) → LeavesControls control_loan loan (IsSettingGiven (record { window = window; control = n }) setting) t o c u r d)
      → IsBarSetOver control_loan loan window bar setting t c u d
  bar_set window bar n setting t u c d is leaves others o slots held lists whole controls =
      let left = leaves o o held (lists_show others lists.lists) slots whole controls in (
        left.0,
        left.1,
        subst (λ b. IsBarGiven window b setting (desk_beside control_loan loan t others o slots c held lists) (desk_beside control_loan loan u others o slots d held lists)) (sym is)
            (record { windows = left.2.windows; set = λ right. (left.2.put right, record { activity = refl; begun = refl }, record { lists = refl; others = refl }) }),
      )

  -- both bars of a list
  module _ {X : Type 0} {L : X → Type 0} (list_loan : TakenBox X L → ListLoan) (l : ListOf) (m : Lists (TakenBox X L)) (x : KeptList) (there : list_of l (records_of list_loan m) ≡ Some x)
      (window : ℕ) (named : window ≡ l.window) (down across : Setting) (down_is : down ≡ vertical_setting x.kept.cells.rows x.kept.view) (across_is : across ≡ horizontal_setting x.kept.cells.columns x.kept.view) where
    pub bars_set : (t u v : WindowManager V H) (c d e : Controls (TakenBox W K)) → IsBarSetOver control_loan loan window x.kept.vertical down t c u d
        → IsBarSetOver control_loan loan window x.kept.horizontal across u d v e → LeavesLists list_loan loan control_loan (IsWhereRight (AreBarsSet l)) t c m v e m
    bars_set t u v c d e first second held kept others o slots whole controls lists =
        let once = first others o slots held (lists_state list_loan m kept) whole controls in
        let twice = second others o slots held (lists_state list_loan m kept) once.0 once.1 in
        let before : ListDesk = desk_beside control_loan loan t others o slots c held (lists_state list_loan m kept) in
        let mid : ListDesk = desk_beside control_loan loan u others o slots d held (lists_state list_loan m kept) in
        let after : ListDesk = desk_beside control_loan loan v others o slots e held (lists_state list_loan m kept) in
        let windows : (desk_of loan v []).windows ≡ (desk_of loan t []).windows = twice.2.windows ∙ once.2.windows in (
          twice.0,
          twice.1,
          subst (λ ws. AreWholeLists ws (lists_state list_loan m kept)) (sym windows) lists,
          λ right.
              let its = named_settled l (records_of list_loan m) x lists.settled there in
              let first : IsBarSet l.window x.kept.vertical (vertical_setting x.kept.cells.rows x.kept.view) before mid =
              subst (λ (k : ℕ × Setting). IsBarSet k.0 x.kept.vertical k.1 before mid) (λ i. (named i, down_is i)) (once.2.set right) in
              let then : IsRightLists mid = bar_set_keeps before mid (record { desk = record { right = right; shows = refl; whole = controls }; lists = lists })
              l.window x.kept.vertical (vertical_setting x.kept.cells.rows x.kept.view) (bar_may x.kept.view.down x.kept.cells.rows x.kept.view.first.row its.grid.rows_within) first in (
                x,
                there,
                (mid, first, subst (λ (k : ℕ × Setting). IsBarSet k.0 x.kept.horizontal k.1 mid after) (λ i. (named i, across_is i)) (twice.2.set then.desk.right)),
              ),
        )

  -- what holds of windows and controls once a bar was set
  pub kept_then : (window : ℕ) (bar : Option ℕ) (setting : Setting) (t u : WindowManager V H) (c d : Controls (TakenBox W K)) → IsBarSetOver control_loan loan window bar setting t c u d → IsKept loan t → AreControlsBeside control_loan loan t c
      → IsKept loan u × AreControlsBeside control_loan loan u d
  kept_then window bar setting t u c d set kept beside =
      let left = set (λ font q p. false) (record { activity = Idle; begun = λ p. false }) kept.slots beside.slots (record { lists = []; next = None; stock = [] }) kept.whole beside.whole in
      (record { slots = kept.slots; whole = left.0 }, record { slots = beside.slots; whole = left.1 })

  -- those of a list that stands here, as the code reads it
  module _ {X : Type 0} {L : X → Type 0} (list_loan : TakenBox X L → ListLoan) (l : ListOf) (t : WindowManager V H) (m : Lists (TakenBox X L)) (s : ListAt) (is : IsSpotOf loan list_loan l t m s)
      (x : Item (ListRecord (TakenBox X L))) (read : x ≡ get_or m.list.items.items s.list x) where
    there : slice_get (records_of list_loan m) s.list ≡ Some (seen list_loan x)
    there = list_read loan list_loan l t m s is x read

    pub bars_set_there : (rows columns : ℕ) (down across : Setting) → rows ≡ x.kept.cells.rows → columns ≡ x.kept.cells.columns → down ≡ vertical_setting rows x.kept.view → across ≡ horizontal_setting columns x.kept.view
        → (u v : WindowManager V H) (c d e : Controls (TakenBox W K)) → IsBarSetOver control_loan loan x.window x.kept.vertical down t c u d → IsBarSetOver control_loan loan x.window x.kept.horizontal across u d v e
        → LeavesLists list_loan loan control_loan (IsWhereRight (AreBarsSet l)) t c m v e m
    bars_set_there rows columns down across rows_are columns_are down_is across_is =
        bars_set list_loan l m (seen list_loan x) (ap (option_and_then (slice_get (records_of list_loan m))) is.list ∙ there)
        x.window (found_names l.window l.list s.list (records_of list_loan m) (seen list_loan x) is.list there).0 down across
        (down_is ∙ ap (λ n. vertical_setting n x.kept.view) rows_are) (across_is ∙ ap (λ n. horizontal_setting n x.kept.view) columns_are) t
