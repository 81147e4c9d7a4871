-- What calls answer that add, delete or scroll: refused, without memory, and answered.
use Rattle.std.proofs.Common.{◌≡◌, ℕ, ◌∙◌, ap, sym, refl, Bool, true, List, [], get_or, None, Some, Result, Ok, Err}
use Rattle.std.specs.Prelude.{unwrap_or}
use Rattle.std.specs.Option.{option_map_or}
use Rattle.tb_geom.specs.declared.refusal.Refusal.{Refusal}
use Rattle.tb_geom.specs.declared.refusal.Refusal.TheVariants.{NoMemory}
use Rattle.tb_geom.specs.Refusals.{first_refusal}
use Rattle.def_iface.specs.Slots.{TakenBox}
use Rattle.def_iface.specs.ControlMeaning.{ControlLoan}
use Rattle.def_iface.specs.ListMeaning.{ListLoan}
use Rattle.def_iface.specs.WindowMeaning.{WindowLoan}
use Rattle.list_cells.specs.Runs.{place_to_add}
use Rattle.desk_call.specs.declared.list.ListCall.{ListCall}
use Rattle.desk_call.specs.declared.list.ListLines.{ListLines}
use Rattle.desk_call.specs.declared.list.ListOf.{ListOf}
use Rattle.desk_call.specs.declared.list.ListReply.{ListReply}
use Rattle.desk_call.specs.declared.list.ListReply.TheVariants.{Added, Done}
use Rattle.window_items.specs.declared.item.Item.{Item}
use Rattle.list_mgr.specs.declared.list_record.ListRecord.{ListRecord}
use Rattle.list_mgr.specs.Seen.{seen}
use Rattle.window_mgr.specs.declared.manager.WindowManager.{WindowManager}
use Rattle.window_mgr.specs.FullDesk.{FullDesk}
use Rattle.window_mgr.specs.Records.{desk_of}
use Rattle.control_mgr.specs.declared.controls.Controls.{Controls}
use Rattle.control_mgr.specs.ControlDesks.{ControlsState}
use Rattle.control_mgr.specs.WholeControls.{controls_state}
use Rattle.control_mgr.proofs.Steps.{first_of}
use Rattle.list_mgr.specs.declared.line_edit.LineAxis.{LineAxis}
use Rattle.list_mgr.specs.declared.line_edit.LineAxis.TheVariants.{Columns, Rows}
use Rattle.list_mgr.specs.declared.line_edit.LineChange.{LineChange}
use Rattle.list_mgr.specs.declared.line_edit.LineChange.TheVariants.{Add, Delete}
use Rattle.list_mgr.specs.declared.lists.Lists.{Lists}
use Rattle.list_mgr.specs.declared.spots.ListAt.{ListAt}
use Rattle.list_mgr.specs.LineEdits.{IsEditError, called, changed_by, first_changed, refusals_of, reply_of, scrolled_after}
use Rattle.list_mgr.specs.ListDesks.{KeptList, ListDesk, ListSlot, ListsState, list_of}
use Rattle.list_mgr.specs.ListRefusals.{is_drawing_off, list_reasons, list_refusals, may_list_grow, missing_refusals, of_list}
use Rattle.list_mgr.specs.ListSteps.{IsListEffect, IsListStep, IsRelined, told_of, with_grid}
use Rattle.list_mgr.specs.Spots.{IsSpotOf}
use Rattle.list_mgr.specs.WholeLists.{LeavesLists, list_desk, lists_state, records_of}
use Rattle.list_mgr.specs.Within.{IsWhereRight}
use Rattle.list_mgr.proofs.Changed.{refused_over_right, short_over_right}
use Rattle.list_mgr.proofs.Relined.{leaves_as, leaves_controls}
use Rattle.list_mgr.proofs.Steps.{IsTold, its_reasons, list_named, list_read}

-- ---- the calls that make edits

pub edit_reasons : (change : LineChange) (axis : LineAxis) (n : ListLines) (desk : FullDesk) (cs : ControlsState) (state : ListsState)
    → list_refusals (called change axis n) desk cs state ≡ list_reasons n.list (λ y. refusals_of change axis n y.kept.cells) desk state.lists
edit_reasons Add Rows n desk cs state = refl
edit_reasons Add Columns n desk cs state = refl
edit_reasons Delete Rows n desk cs state = refl
edit_reasons Delete Columns n desk cs state = refl

-- what adds may take memory, and what deletes where the list's drawing is off
pub edit_grows : (change : LineChange) (axis : LineAxis) (n : ListLines) (state : ListsState) → is_drawing_off n.list state ≡ true → may_list_grow (called change axis n) state ≡ true
edit_grows Add Rows n state off = refl
edit_grows Add Columns n state off = refl
edit_grows Delete Rows n state off = off
edit_grows Delete Columns n state off = off

-- an edit that nothing refuses fails only for want of memory, and where it may take some
pub edit_short : (change : LineChange) (axis : LineAxis) (n : ListLines) (refusals : List (Bool × Refusal)) (e : Refusal) → first_refusal refusals ≡ None → IsEditError change refusals e
    → (e ≡ NoMemory) × ((state : ListsState) → may_list_grow (called change axis n) state ≡ true)
edit_short Add Rows n refusals e none why = (why ∙ ap (λ o. unwrap_or o NoMemory) none, λ state. refl)
edit_short Add Columns n refusals e none why = (why ∙ ap (λ o. unwrap_or o NoMemory) none, λ state. refl)
edit_short Delete axis n refusals e none why = let both : None ≡ Some e = sym none ∙ why in absurd (cc)

module _ {V : Type 0} {H : V → Type 0} (loan : TakenBox V H → WindowLoan) {X : Type 0} {L : X → Type 0} (list_loan : TakenBox X L → ListLoan) where
  -- ---- what is told of a list that is there

  module _ (l : ListOf) (t : WindowManager V H) (m : Lists (TakenBox X L)) (s : ListAt) (is : IsSpotOf loan list_loan l t m s) (x : Item (ListRecord (TakenBox X L))) (read : x ≡ get_or m.list.items.items s.list x) where
    -- why a call is refused that is judged by the list
    pub judged : (call : ListCall) (f : KeptList → List (Bool × Refusal)) → ((desk : FullDesk) (cs : ControlsState) (state : ListsState) → list_refusals call desk cs state ≡ list_reasons l f desk state.lists)
        → IsTold loan list_loan call t m (λ why. first_refusal why ≡ first_refusal (f (seen list_loan x)))
    judged call f same others o slots cs kept =
        ap first_refusal (same (list_desk list_loan loan t others o slots cs m kept).desk.windows.desk cs (lists_state list_loan m kept))
        ∙ its_reasons loan list_loan l t m s is f (seen list_loan x) (list_read loan list_loan l t m s is x read)

    -- an answer that is told of it
    pub answered : (f : KeptList → ListReply) (answer : ListReply) → answer ≡ f (seen list_loan x) → answer ≡ told_of l f (records_of list_loan m)
    answered f answer same = same ∙ ap (λ o. option_map_or f o Done) (sym (list_named loan list_loan l t m s is (seen list_loan x) (list_read loan list_loan l t m s is x read)))

  -- ---- edits

  module _ (change : LineChange) (axis : LineAxis) (n : ListLines) (t : WindowManager V H) (m : Lists (TakenBox X L)) where
    -- an edit of a list that is missing
    pub edit_missing : (e : Refusal) → first_refusal (missing_refusals n.list (desk_of loan t []) (records_of list_loan m)) ≡ Some e → IsTold loan list_loan (called change axis n) t m (λ why. first_refusal why ≡ Some e)
    edit_missing e h others o slots cs kept =
        ap first_refusal (edit_reasons change axis n (list_desk list_loan loan t others o slots cs m kept).desk.windows.desk cs (lists_state list_loan m kept))
        ∙ first_of (missing_refusals n.list (desk_of loan t []) (records_of list_loan m)) (of_list (λ y. refusals_of change axis n y.kept.cells) (list_of n.list (records_of list_loan m))) e h

    module _ (s : ListAt) (is : IsSpotOf loan list_loan n.list t m s) (x : Item (ListRecord (TakenBox X L))) (read : x ≡ get_or m.list.items.items s.list x) where
      pub edit_judged : IsTold loan list_loan (called change axis n) t m (λ why. first_refusal why ≡ first_refusal (refusals_of change axis n x.kept.cells))
      edit_judged = judged n.list t m s is x read (called change axis n) (λ y. refusals_of change axis n y.kept.cells) (edit_reasons change axis n)

  -- what is answered to an edit, and what it leaves, is what its call does
  pub edit_effect : (change : LineChange) (axis : LineAxis) (n : ListLines) (t : WindowManager V H) (m : Lists (TakenBox X L)) (s : ListAt) → IsSpotOf loan list_loan n.list t m s
      → (x : Item (ListRecord (TakenBox X L))) → x ≡ get_or m.list.items.items s.list x → (first : ℕ) → first ≡ first_changed change axis n x.kept.cells
      → (before after : ListDesk) → before.lists.lists ≡ records_of list_loan m → IsRelined n.list (λ y. scrolled_after change (with_grid (changed_by change axis n) y)) before after
      → IsListEffect (called change axis n) (reply_of change first) before after
  edit_effect Add Rows n t m s is x read first same before after lists done =
      let f : KeptList → ListReply = λ y. Added (place_to_add y.kept.cells.rows n.at) in
      (answered n.list t m s is x read f (Added first) (ap Added same) ∙ ap (told_of n.list f) (sym lists), done)
  edit_effect Add Columns n t m s is x read first same before after lists done =
      let f : KeptList → ListReply = λ y. Added (place_to_add y.kept.cells.columns n.at) in
      (answered n.list t m s is x read f (Added first) (ap Added same) ∙ ap (told_of n.list f) (sym lists), done)
  edit_effect Delete Rows n t m s is x read first same before after lists done = (refl, done)
  edit_effect Delete Columns n t m s is x read first same before after lists done = (refl, done)

  -- ---- answers

  module _ {W : Type 0} {K : W → Type 0} (control_loan : TakenBox W K → ControlLoan) (call : ListCall) (t : WindowManager V H) (m : Lists (TakenBox X L)) (c : Controls (TakenBox W K)) where
    pub refused_lines : (result : Result ListReply Refusal) (e : Refusal) → result ≡ Err e → IsTold loan list_loan call t m (λ why. first_refusal why ≡ Some e)
        → LeavesLists list_loan loan control_loan (IsWhereRight (IsListStep call result)) t c m t c m
    refused_lines result e is why = leaves_controls loan list_loan control_loan (IsWhereRight (IsListStep call result)) t t m m c (refused_over_right loan list_loan t m m refl refl call result e is why)

    pub short_lines : (n : Lists (TakenBox X L)) → records_of list_loan n ≡ records_of list_loan m → n.list.next ≡ m.list.next → (result : Result ListReply Refusal) (e : Refusal) → result ≡ Err e → e ≡ NoMemory
        → ((kept : List ListSlot) → may_list_grow call (lists_state list_loan m kept) ≡ true) → IsTold loan list_loan call t m (λ why. first_refusal why ≡ None)
        → LeavesLists list_loan loan control_loan (IsWhereRight (IsListStep call result)) t c m t c n
    short_lines n same next result e is memory grows why =
        leaves_controls loan list_loan control_loan (IsWhereRight (IsListStep call result)) t t m n c (short_over_right loan list_loan t m n same next call result e is memory grows why)

    pub relined_lines : (l : ListOf) (f : KeptList → KeptList) (answer : ListReply) (u : WindowManager V H) (d : Controls (TakenBox W K)) (n : Lists (TakenBox X L))
        → IsTold loan list_loan call t m (λ why. first_refusal why ≡ None)
        → ((before after : ListDesk) → before.lists.lists ≡ records_of list_loan m → IsRelined l f before after → IsListEffect call answer before after)
        → LeavesLists list_loan loan control_loan (IsWhereRight (IsRelined l f)) t c m u d n → LeavesLists list_loan loan control_loan (IsWhereRight (IsListStep call (Ok answer))) t c m u d n
    relined_lines l f answer u d n why effect =
        leaves_as loan list_loan control_loan (IsWhereRight (IsRelined l f)) (IsWhereRight (IsListStep call (Ok answer))) t u m n c d
        (λ others o slots held kept done right. (
          why others o slots (controls_state control_loan c held) kept,
          effect (list_desk list_loan loan t others o slots (controls_state control_loan c held) m kept) (list_desk list_loan loan u others o slots (controls_state control_loan d held) n kept) refl (done right),
        ))
