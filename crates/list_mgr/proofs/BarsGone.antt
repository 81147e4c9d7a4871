-- Scroll bars whose end was planned, and that are ended.
use Rattle.std.proofs.Common.{◌≡◌, ℕ, Bool, true, false, List, [], ◌∷◌, Option, Some, None, Result, Ok, refl, sym, ap, ◌∙◌, subst}
use Rattle.std.specs.Prelude.{IfOk, IfSome, is_none, slice_get}
use Rattle.std.specs.declared.alloc.AllocError.{AllocError}
use Rattle.tb_geom.specs.declared.refusal.Refusal.TheVariants.{NoSuchControl, NoSuchWindow}
use Rattle.tb_geom.specs.Pixels.{Pixels}
use Rattle.tb_geom.specs.Refusals.{first_refusal}
use Rattle.def_iface.specs.Slots.{TakenBox}
use Rattle.def_iface.specs.ControlMeaning.{ControlLoan}
use Rattle.desk_layers.specs.Desk.{IsDesk}
use Rattle.def_iface.specs.WindowMeaning.{WindowLoan}
use Rattle.window_list.specs.Holders.{PlacedLayers}
use Rattle.desk_call.specs.declared.activity.Activity.TheVariants.{Idle}
use Rattle.desk_call.specs.declared.control.ControlCall.TheVariants.{Dispose}
use Rattle.desk_call.specs.declared.control.ControlOf.{ControlOf}
use Rattle.desk_call.specs.declared.control.ControlReply.TheVariants.{Done}
use Rattle.window_mgr.specs.declared.manager.WindowManager.{WindowManager}
use Rattle.window_mgr.specs.DeskStates.{Opened}
use Rattle.window_mgr.specs.FullDesk.{FullDesk, layered_desk}
use Rattle.window_mgr.specs.Kept.{IsKept}
use Rattle.window_mgr.specs.Records.{desk_of}
use Rattle.window_mgr.specs.Refused.{is_missing}
use Rattle.control_mgr.specs.declared.controls.Controls.{Controls}
use Rattle.control_mgr.specs.declared.ending.Ending.{Ending}
use Rattle.control_mgr.specs.ControlDesks.{ControlDesk, ControlRecord, ControlSlot, index_of}
use Rattle.control_mgr.specs.ControlRefusals.{control_refusals}
use Rattle.control_mgr.specs.ControlSteps.{IsEndedAt, IsEndedIfThere}
use Rattle.control_mgr.specs.Ending.{IsPlannedEnd, IsPutIfPlanned, IsReadyToEnd, IsTakenOut}
use Rattle.control_mgr.specs.WholeControls.{AreWholeControls, LeavesOver, controls_state}
use Rattle.control_mgr.proofs.ControlFacts.{control_facts}
use Rattle.control_mgr.proofs.ControlsKept.{control_behind}
use Rattle.window_items.proofs.EditLemmas as edited
use Rattle.control_mgr.proofs.Places.{found_names}
use Rattle.control_mgr.proofs.Steps.{first_fails, one_fails}
use Rattle.list_mgr.specs.BarEnds.{IsBarGoneOver, IsBarPlanned, IsBarToEnd, bar_serial}
use Rattle.list_mgr.specs.Lines.{desk_beside}
use Rattle.list_mgr.specs.ListDesks.{ListDesk, lists_show, with_controls}
use Rattle.list_mgr.specs.ListSteps.{IsBarGone, IsBarGoneIf, SameLists}
use Rattle.list_mgr.specs.WholeLists.{AreWholeLists}
use Rattle.list_mgr.proofs.ListsWhole.{whole_behind}

-- ---- a control that was ended, if it was there

module _ (c : ControlOf) (before after : ListDesk) (whole : AreWholeControls before.desk.windows.desk.windows before.controls) (same : SameLists before after) where
  -- nothing refuses its end
  may_end : (at : ℕ) → index_of c before.controls.controls ≡ Some at → (x : ControlRecord) → slice_get before.controls.controls at ≡ Some x
      → first_refusal (control_refusals (Dispose c) before.desk.windows.desk before.controls) ≡ None
  may_end at found x there =
      let windows = before.desk.windows.desk.windows in
      let somewhere = edited.All-there (λ (y : ControlRecord). is_missing y.window windows ≡ false) at before.controls.controls x there whole.somewhere in
      first_fails (is_missing c.window windows) NoSuchWindow ((is_none (index_of c before.controls.controls), NoSuchControl) ∷ [])
      (ap (λ n. is_missing n windows) (sym (found_names c.window c.control at before.controls.controls x found there).0) ∙ somewhere)
      ∙ one_fails (is_none (index_of c before.controls.controls)) NoSuchControl (ap is_none found)

  gone_at : (o : Option ℕ) → index_of c before.controls.controls ≡ o → IsEndedAt o c (with_controls before) (with_controls after) → IsBarGoneIf (is_none o) c before after
  gone_at None found ended = record {
    desk = record {
      windows = record {
        desk = ap (λ (x : ControlDesk). x.desk.windows.desk) ended;
        stale = λ p on. ap (λ (x : ControlDesk). x.desk.windows.stale p) ended;
        image = λ p on. ap (λ (x : ControlDesk). x.desk.windows.image p) ended;
      };
      activity = ap (λ (x : ControlDesk). x.desk.activity) ended;
      begun = ap (λ (x : ControlDesk). x.desk.begun) ended;
    };
    controls = ap (λ (x : ControlDesk). x.controls) ended;
    lists = same.lists;
    others = same.others;
  }
  gone_at (Some at) found ended = ((may_end ended.at ended.found ended.control ended.there, (refl, ended)), same)

  pub gone_then : IsEndedIfThere c (with_controls before) (with_controls after) → IsBarGoneIf (is_none (index_of c before.controls.controls)) c before after
  gone_then ended = gone_at (index_of c before.controls.controls) refl ended

-- lists that were whole are so once a bar is there no more
pub bar_gone_lists : (window : ℕ) (bar : Option ℕ) (before after : ListDesk) → IsDesk (layered_desk before.desk.windows.desk) → AreWholeControls before.desk.windows.desk.windows before.controls
    → IsBarGone window bar before after → AreWholeLists before.desk.windows.desk.windows before.lists → AreWholeLists after.desk.windows.desk.windows before.lists
bar_gone_lists window None before after distinct controls same whole = subst (λ ws. AreWholeLists ws before.lists) (sym (ap (λ (d : FullDesk). d.windows) same.desk.windows.desk)) whole
bar_gone_lists window (Some n) before after distinct controls gone whole = by_test (is_none (index_of c before.controls.controls)) gone
  where
    c : ControlOf
    c = record { window = window; control = n }

    by_test : (b : Bool) → IsBarGoneIf b c before after → AreWholeLists after.desk.windows.desk.windows before.lists
    by_test true same = subst (λ ws. AreWholeLists ws before.lists) (sym (ap (λ (d : FullDesk). d.windows) same.desk.windows.desk)) whole
    by_test false done =
        whole_behind before.desk.windows.desk.windows after.desk.windows.desk.windows before.lists
        (control_facts (Dispose c) (Ok Done) (with_controls before) (with_controls after) done.0).0.windows
        (control_behind (Dispose c) (Ok Done) (with_controls before) (with_controls after) distinct controls.apart done.0) whole

-- ---- a bar whose end is planned

-- its layer, if it has one, was to be taken out
pub bar_out : (n : ℕ) (bar : Option ℕ) → bar ≡ Some n → (at : ℕ) (ls : PlacedLayers) (result : Result (Option Ending) AllocError) → IfOk result (λ planned. IfSome planned (IsTakenOut at n ls))
    → IfOk result (λ planned. IfSome planned (IsTakenOut at (bar_serial bar) ls))
bar_out n bar is at ls result out = subst (λ b. IfOk result (λ planned. IfSome planned (IsTakenOut at (bar_serial b) ls))) (sym is) out

module _ {W : Type 0} {K : W → Type 0} (control_loan : TakenBox W K → ControlLoan) {V : Type 0} {H : V → Type 0} (loan : TakenBox V H → WindowLoan) where
  module _ (window n : ℕ) (bar : Option ℕ) (is : bar ≡ Some n) where
    abbrev c : ControlOf
    c = record { window = window; control = n }

    pub bar_planned : (at : ℕ) (ls : PlacedLayers) (update : Pixels) (t : WindowManager V H) (result : Result (Option Ending) AllocError)
        → IfOk result (λ planned. (u : WindowManager V H) (m : Controls (TakenBox W K)) → IsReadyToEnd loan control_loan c at ls update t u m → IsPlannedEnd loan control_loan c u m planned)
        → IfOk result (IsBarPlanned control_loan loan window bar at ls update t)
    bar_planned at ls update t result planned = subst (λ b. IfOk result (IsBarPlanned control_loan loan window b at ls update t)) (sym is) planned

    -- ---- and is made

    pub to_end : (t : WindowManager V H) (m : Controls (TakenBox W K)) (planned : Option Ending) → IsBarToEnd control_loan loan window bar t m planned → IsPlannedEnd loan control_loan c t m planned
    to_end t m planned ends = subst (λ b. IsBarToEnd control_loan loan window b t m planned) is ends

    pub bar_gone : (t u : WindowManager V H) (m k : Controls (TakenBox W K)) (held left : List ControlSlot)
        → ((o : Opened) → LeavesOver control_loan loan held left (IsEndedIfThere c) t o m u o k) → IsBarGoneOver control_loan loan held left window bar t m u k
    bar_gone t u m k held left ended others o slots lists whole controls =
        let done = ended o (lists_show others lists.lists) slots whole controls in (
          done.0,
          done.1,
          subst (λ b. IsBarGone window b (desk_beside control_loan loan t others o slots m held lists) (desk_beside control_loan loan u others o slots k left lists)) (sym is)
              (gone_then c (desk_beside control_loan loan t others o slots m held lists) (desk_beside control_loan loan u others o slots k left lists) controls (record { lists = refl; others = refl }) done.2),
        )

  module _ (window : ℕ) (bar : Option ℕ) (none : bar ≡ None) where
    pub none_planned : (at : ℕ) (ls : PlacedLayers) (update : Pixels) (t : WindowManager V H) → IsBarPlanned control_loan loan window bar at ls update t None
    none_planned at ls update t = subst (λ b. IsBarPlanned control_loan loan window b at ls update t None) (sym none) (λ u m ready. refl)

    pub none_gone : (t : WindowManager V H) (m : Controls (TakenBox W K)) (held : List ControlSlot) → IsBarGoneOver control_loan loan held held window bar t m t m
    none_gone t m held others o slots lists whole controls = (
      whole,
      controls,
      subst (λ b. IsBarGone window b (desk_beside control_loan loan t others o slots m held lists) (desk_beside control_loan loan t others o slots m held lists)) (sym none) (record {
        desk = record { windows = record { desk = refl; stale = λ p on. refl; image = λ p on. refl }; activity = refl; begun = refl };
        controls = refl;
        lists = refl;
        others = refl;
      }),
    )

    pub none_put : (t : WindowManager V H) (m : Controls (TakenBox W K)) (planned : Option Ending) → IsBarToEnd control_loan loan window bar t m planned → IsPutIfPlanned planned t t
    none_put t m planned ends = subst (λ p. IsPutIfPlanned p t t) (sym (subst (λ b. IsBarToEnd control_loan loan window b t m planned) none ends)) refl

  -- ---- what holds of windows and controls once a bar is there no more

  module _ (held left : List ControlSlot) (window : ℕ) (bar : Option ℕ) (t u : WindowManager V H) (m k : Controls (TakenBox W K)) (gone : IsBarGoneOver control_loan loan held left window bar t m u k)
      (kept : IsKept loan t) (whole : AreWholeControls (desk_of loan t []).windows (controls_state control_loan m held)) where
    pub kept_gone : IsKept loan u
    kept_gone = record { slots = kept.slots; whole = (gone (λ font q p. false) (record { activity = Idle; begun = λ p. false }) kept.slots (record { lists = []; next = None; stock = [] }) kept.whole whole).0 }

    pub controls_gone : AreWholeControls (desk_of loan u []).windows (controls_state control_loan k left)
    controls_gone = (gone (λ font q p. false) (record { activity = Idle; begun = λ p. false }) kept.slots (record { lists = []; next = None; stock = [] }) kept.whole whole).1
