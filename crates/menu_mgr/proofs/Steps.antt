-- A call about menus as one step of the desk: refused, or with its effect.
use Rattle.std.proofs.Common.{◌≡◌, inl, inr, ℕ, zero, suc, ◌≤◌, true, List, [], ◌∷◌, length, Option, None, Some, Result, Ok, Err, refl, sym, ap, ◌∙◌, subst, arith}
use Rattle.std.specs.Prelude.{ℤ, is_none, slice_get}
use Rattle.std.specs.List.{remove}
use Rattle.tb_geom.specs.declared.refusal.Refusal.{Refusal}
use Rattle.tb_geom.specs.declared.refusal.Refusal.TheVariants.{NoSuchMenu}
use Rattle.tb_geom.specs.Points.{PixelSet}
use Rattle.tb_geom.specs.Refusals.{first_refusal}
use Rattle.def_iface.specs.Slots.{TakenBox}
use Rattle.def_iface.specs.WindowMeaning.{WindowLoan}
use Rattle.def_iface.specs.MenuMeaning.{MenuLoan}
use Rattle.def_iface.specs.WindowSlots.{WindowSlot}
use Rattle.menu_list.specs.declared.listed.Listed.{Listed}
use Rattle.menu_list.specs.Lists.{menu_index, titles_of}
use Rattle.menu_list.proofs.SeenLemmas.{length-seen, menu_index-seen}
use Rattle.desk_call.specs.declared.activity.Activity.{Activity}
use Rattle.desk_call.specs.declared.activity.Activity.TheVariants.{Idle, Updating, Tracking, Pulling, TrackingControl, Dragging, Growing, Selecting}
use Rattle.desk_call.specs.declared.activity.Standing.TheVariants.{Changes}
use Rattle.desk_call.specs.declared.menu.MenuCall.{MenuCall}
use Rattle.desk_call.specs.declared.menu.MenuCall.TheVariants.{New, Dispose, Down, Move, Up}
use Rattle.desk_call.specs.declared.menu.MenuReply.{MenuReply}
use Rattle.desk_call.specs.declared.menu.MenuReply.TheVariants.{Done}
use Rattle.desk_call.specs.declared.menu.NewMenu.{NewMenu}
use Rattle.desk_call.specs.Gates.{gate}
use Rattle.desk_call.specs.Steps.{IsRefusedFor}
use Rattle.menu_list.specs.EditRefusals.{edit_refusals, may_menu_grow}
use Rattle.menu_list.specs.EditSteps.{IsEdit}
use Rattle.menu_list.specs.MenuEdits.{menus_after}
use Rattle.menu_list.proofs.SeenEdits.{answer_to-seen, edit_refusals-seen, highlight_after-seen, menus_after-seen}
use Rattle.window_mgr.specs.declared.manager.WindowManager.{WindowManager}
use Rattle.window_mgr.specs.BarShown.{IsBarShown}
use Rattle.window_mgr.specs.DeskStates.{Opened}
use Rattle.window_mgr.specs.Records.{state_of}
use Rattle.window_mgr.specs.Whole.{IsWholeManager}
use Rattle.menu_mgr.specs.declared.menus.Menus.{Menus}
use Rattle.menu_mgr.specs.Leaving.{opened}
use Rattle.menu_mgr.specs.MakingSteps.{IsEnded, IsEndedIfThere, IsMadeOrRefused}
use Rattle.menu_mgr.specs.MenuDesks.{MenuDesk, MenuRecord, MenuSlot, IsMenuDeskUnchanged}
use Rattle.menu_mgr.specs.MenuRefusals.{menu_refusals}
use Rattle.menu_mgr.specs.MenuSteps.{AreEdited, IsDisposedAt, IsMenuStep, is_edit, new_record}
use Rattle.menu_mgr.specs.WholeMenus.{AreLive, AreMenusStocked, IsWholeMenus, menu_desk, menus_of, menus_state}
use Rattle.menu_mgr.proofs.Edited.{AreAlike, alike_after, still_stocked}
use Rattle.menu_mgr.proofs.Made.{one_more}
use Rattle.menu_mgr.proofs.Showing.{menus_shown, whole_again}
use Rattle.menu_mgr.proofs.Stocks.{live-append, live-remove, stocked_with, stocked_without, uses-remove}

-- a call that changes something may come where nothing is open
pub gate_idle : (activity : Activity) → gate activity Changes ≡ None → activity ≡ Idle
gate_idle Idle may = refl
gate_idle (Updating s) may = absurd (cc)
gate_idle (Tracking t) may = absurd (cc)
gate_idle (TrackingControl c) may = absurd (cc)
gate_idle (Dragging d) may = absurd (cc)
gate_idle (Growing g) may = absurd (cc)
gate_idle (Selecting k) may = absurd (cc)
gate_idle (Pulling m) may = absurd (cc)

fewer : (xs : List MenuRecord) (at : ℕ) (l : MenuRecord) → slice_get xs at ≡ Some l → length (remove xs at) ≤ length xs
fewer [] at l found = absurd (cc)
fewer (x ∷ xs) zero l found = omega arith
fewer (x ∷ xs) (suc at) l found = let few = fewer xs at l found in omega (arith, few)

-- a call that changes menus as data is refused as such a one
edits_refused : (call : MenuCall) (why : Option Refusal) (ls : List MenuRecord) (highlighted : Option ℕ) (slots : List MenuSlot) → is_edit call ≡ true
    → first_refusal (edit_refusals call ls) ≡ why → first_refusal (menu_refusals call (record { menus = ls; highlighted = highlighted; stock = slots })) ≡ why
edits_refused (New n) why ls highlighted slots is refused = absurd (cc)
edits_refused (Dispose id) why ls highlighted slots is refused = absurd (cc)
edits_refused (Down p) why ls highlighted slots is refused = absurd (cc)
edits_refused (Move p) why ls highlighted slots is refused = absurd (cc)
edits_refused (Up p) why ls highlighted slots is refused = absurd (cc)
edits_refused _ why ls highlighted slots is refused = refused

-- and has the effect of one
edit_step : (call : MenuCall) (answer : MenuReply) (before after : MenuDesk) → is_edit call ≡ true → first_refusal (menu_refusals call before.menus) ≡ None
    → AreEdited call answer before after → IsMenuStep call (Ok answer) before after
edit_step (New n) answer before after is none edited = absurd (cc)
edit_step (Dispose id) answer before after is none edited = absurd (cc)
edit_step (Down p) answer before after is none edited = absurd (cc)
edit_step (Move p) answer before after is none edited = absurd (cc)
edit_step (Up p) answer before after is none edited = absurd (cc)
edit_step _ answer before after is none edited = (none, edited)

-- ---- there are never more than 16 menus

module _ {W : Type 0} {K : W → Type 0} (menu_loan : TakenBox W K → MenuLoan) where
  -- as many of the menus that the code keeps as of those that are seen
  seen_few : (xs : List (Listed (TakenBox W K))) → length xs ≤ 16 → length (menus_of menu_loan xs) ≤ 16
  seen_few xs few = subst (λ k. k ≤ 16) (sym (length-seen menu_loan xs)) few

  kept_few : (xs : List (Listed (TakenBox W K))) → length (menus_of menu_loan xs) ≤ 16 → length xs ≤ 16
  kept_few xs few = subst (λ k. k ≤ 16) (length-seen menu_loan xs) few

  pub few_after : (call : MenuCall) (xs ys : List (Listed (TakenBox W K))) → ys ≡ menus_after call xs → length xs ≤ 16 → length ys ≤ 16
  few_after call xs ys is few = kept_few ys (subst (λ k. k ≤ 16)
      (sym (ap length (ap (menus_of menu_loan) is ∙ menus_after-seen menu_loan call xs) ∙ (alike_after call (menus_of menu_loan xs)).many)) (seen_few xs few))

  pub few_made : (new : NewMenu) (answer : MenuReply) (m n : Menus W K) (kept after : List MenuSlot)
      → IsMadeOrRefused menu_loan new (Ok answer) m n kept after → length n.list.menus.items ≤ 16
  few_made new answer m n kept after (done, none, made) =
      kept_few n.list.menus.items (subst (λ ls. length ls ≤ 16) (sym made.menus) (one_more menu_loan new m kept (new_record new made.loan.slot made.begun) none))

  few_left : (at : ℕ) (m n : Menus W K) (kept after : List MenuSlot) → length m.list.menus.items ≤ 16 → IsEnded menu_loan at m n kept after → length (menus_of menu_loan n.list.menus.items) ≤ 16
  few_left at m n kept after few ended =
      subst (λ ls. length ls ≤ 16) (sym ended.menus)
      (less (length ms) (length (remove ms at)) (seen_few m.list.menus.items few) (fewer ms at ended.listed ended.found))
    where
      ms : List MenuRecord
      ms = menus_of menu_loan m.list.menus.items

      less : (a b : ℕ) → a ≤ 16 → b ≤ a → b ≤ 16
      less a b h k = omega arith

  pub few_ended : (o : Option ℕ) (answer : MenuReply) (m n : Menus W K) (kept after : List MenuSlot) → length m.list.menus.items ≤ 16
      → IsEndedIfThere menu_loan o (Ok answer) m n kept after → length n.list.menus.items ≤ 16
  few_ended None answer m n kept after few (wrong, same, left) = absurd (cc)
  few_ended (Some at) answer m n kept after few (done, ended) = kept_few n.list.menus.items (few_left at m n kept after few ended)

-- ---- steps

module _ {V : Type 0} {H : V → Type 0} (loan : TakenBox V H → WindowLoan) {W : Type 0} {K : W → Type 0} (menu_loan : TakenBox W K → MenuLoan) where
  -- windows and menus are whole, and this step led to them
  abbrev Leaves : MenuCall → Result MenuReply Refusal → List WindowSlot → WindowManager V H → WindowManager V H → Opened → Opened → Menus W K → Menus W K → List MenuSlot → List MenuSlot → Type 0
  Leaves call result slots t u o r m n before after =
      IsWholeManager loan u slots × IsWholeMenus menu_loan r.activity n after
      × IsMenuStep call result (menu_desk menu_loan loan t o slots m before) (menu_desk menu_loan loan u r slots n after)

  unchanged : (t : WindowManager V H) (o : Opened) (slots : List WindowSlot) (m n : Menus W K) (before after : List MenuSlot)
      → menus_state menu_loan n after ≡ menus_state menu_loan m before
      → IsMenuDeskUnchanged (menu_desk menu_loan loan t o slots m before) (menu_desk menu_loan loan t o slots n after)
  unchanged t o slots m n before after same = record {
    desk = record { windows = record { desk = refl; stale = λ p on. refl; image = λ p on. refl }; activity = refl; begun = refl };
    menus = same;
  }

  -- a refused call changes nothing
  pub refused_step : (call : MenuCall) (e : Refusal) (slots : List WindowSlot) (t : WindowManager V H) (o : Opened) (m n : Menus W K) (before after : List MenuSlot)
      → IsWholeManager loan t slots → IsWholeMenus menu_loan o.activity m before
      → first_refusal (menu_refusals call (menus_state menu_loan m before)) ≡ Some e → n ≡ m → after ≡ before
      → Leaves call (Err e) slots t t o o m n before after
  refused_step call e slots t o m n before after windows menus refused same left = (
    windows,
    subst (λ k. IsWholeMenus menu_loan o.activity k after) (sym same) (subst (IsWholeMenus menu_loan o.activity m) (sym left) menus),
    (inl refused, unchanged t o slots m n before after (λ i. menus_state menu_loan (same i) (left i))),
  )

  -- ---- calls that change menus as data

  module _ (call : MenuCall) (is : is_edit call ≡ true) (slots : List WindowSlot) (t u : WindowManager V H) (begun : PixelSet) (m n : Menus W K) (kept : List MenuSlot)
      (menus : IsWholeMenus menu_loan Idle m kept) (alloc : n.alloc ≡ m.alloc) where
    pub edited_step : (answer : MenuReply) → IsEdit call (Ok answer) m.list n.list
        → IsWholeManager loan u slots × IsBarShown (titles_of n.list.highlighted n.list.menus.items) (state_of loan t slots) (state_of loan u slots)
        → Leaves call (Ok answer) slots t u (opened Idle begun) (opened Idle begun) m n kept kept
    edited_step answer (none, done) (windows, shown) = (
      windows,
      whole_again menu_loan m n kept kept menus (record { alloc = alloc; room = done.room })
          (subst (λ k. k ≤ 16) (sym many) (seen_few menu_loan m.list.menus.items menus.few)) (subst AreLive (sym now) (alike.live menus.live))
          (subst (λ ls. AreMenusStocked ls kept) (sym now) (still_stocked _ _ kept alike menus.stocked)),
      edit_step call answer _ _ is (edits_refused call None _ _ kept is (ap first_refusal (edit_refusals-seen menu_loan call m.list.menus.items) ∙ none))
          (record {
            answered = done.answered ∙ sym (answer_to-seen menu_loan call m.list.menus.items);
            activity = record { activity = refl; begun = refl };
            shown = menus_shown menu_loan loan _ _ t u (opened Idle begun) (opened Idle begun) slots m n kept kept now
                (done.highlighted ∙ sym (highlight_after-seen menu_loan call m.list.menus.items m.list.highlighted)) shown;
          }),
    )
      where
        alike : AreAlike (menus_of menu_loan m.list.menus.items) (menus_after call (menus_of menu_loan m.list.menus.items))
        alike = alike_after call (menus_of menu_loan m.list.menus.items)

        now : menus_of menu_loan n.list.menus.items ≡ menus_after call (menus_of menu_loan m.list.menus.items)
        now = ap (menus_of menu_loan) done.menus ∙ menus_after-seen menu_loan call m.list.menus.items

        many : length (menus_of menu_loan n.list.menus.items) ≡ length (menus_of menu_loan m.list.menus.items)
        many = ap length now ∙ alike.many

    pub refused_edit : (e : Refusal) → IsEdit call (Err e) m.list n.list → IsWholeManager loan t slots
        → Leaves call (Err e) slots t t (opened Idle begun) (opened Idle begun) m n kept kept
    refused_edit e (refused, same) windows = (
      windows,
      whole_again menu_loan m n kept kept menus (record { alloc = alloc; room = same.room })
          (subst (λ ls. length ls ≤ 16) (sym as_seen) (seen_few menu_loan m.list.menus.items menus.few))
          (subst AreLive (sym as_seen) menus.live) (subst (λ ls. AreMenusStocked ls kept) (sym as_seen) menus.stocked),
      (why refused, unchanged t (opened Idle begun) slots m n kept kept (λ i. record { menus = as_seen i; highlighted = same.highlighted i; stock = kept })),
    )
      where
        as_seen : menus_of menu_loan n.list.menus.items ≡ menus_of menu_loan m.list.menus.items
        as_seen = ap (menus_of menu_loan) same.menus

        raw : (o : Option Refusal) → first_refusal (edit_refusals call m.list.menus.items) ≡ o → first_refusal (menu_refusals call (menus_state menu_loan m kept)) ≡ o
        raw o refused = edits_refused call o _ _ kept is (ap first_refusal (edit_refusals-seen menu_loan call m.list.menus.items) ∙ refused)

        why : IsRefusedFor (λ o. first_refusal (edit_refusals call m.list.menus.items) ≡ o) (may_menu_grow call) e
            → IsRefusedFor (λ o. first_refusal (menu_refusals call (menus_state menu_loan m kept)) ≡ o) (may_menu_grow call) e
        why (inl refused) = inl (raw (Some e) refused)
        why (inr (none, grew)) = inr (raw None none, grew)

  -- ---- menus that are made and ended

  module _ (slots : List WindowSlot) (t u : WindowManager V H) (begun : PixelSet) (m n : Menus W K) (kept after : List MenuSlot)
      (menus : IsWholeMenus menu_loan Idle m kept)
      (windows : IsWholeManager loan u slots × IsBarShown (titles_of n.list.highlighted n.list.menus.items) (state_of loan t slots) (state_of loan u slots)) where
    pub made_step : (new : NewMenu) (answer : MenuReply) → IsMadeOrRefused menu_loan new (Ok answer) m n kept after
        → Leaves (New new) (Ok answer) slots t u (opened Idle begun) (opened Idle begun) m n kept after
    made_step new answer (done, none, made) = (
      windows.0,
      whole_again menu_loan m n kept after menus made.same
          (subst (λ ls. length ls ≤ 16) (sym made.menus) (one_more menu_loan new m kept one none))
          (subst AreLive (sym made.menus) (live-append _ one menus.live made.live.live))
          (subst (λ ls. AreMenusStocked ls after) (sym made.menus) (stocked_with _ one made.loan kept after refl made.taken menus.stocked)),
      (
        none,
        (
          done,
          record {
            loan = made.loan;
            begun = made.begun;
            taken = made.taken;
            live = made.live;
            activity = record { activity = refl; begun = refl };
            shown = menus_shown menu_loan loan _ _ t u (opened Idle begun) (opened Idle begun) slots m n kept after made.menus made.highlighted windows.1;
          },
        ),
      ),
    )
      where
        one : MenuRecord
        one = new_record new made.loan.slot made.begun

    -- the menu at an index is ended
    ended_at : (id : ℤ) (at : ℕ) (answer : MenuReply) → menu_index id m.list.menus.items ≡ Some at → answer ≡ Done → IsEnded menu_loan at m n kept after
        → Leaves (Dispose id) (Ok answer) slots t u (opened Idle begun) (opened Idle begun) m n kept after
    ended_at id at answer is done ended = (
      windows.0,
      whole_again menu_loan m n kept after menus ended.same
          (few_left menu_loan at m n kept after menus.few ended)
          (subst AreLive (sym ended.menus) (live-remove at ms menus.live))
          (subst (λ ls. AreMenusStocked ls after) (sym ended.menus)
          (stocked_without at ms (remove ms at) ended.listed kept after ended.found (λ k. uses-remove k at ms ended.listed ended.found) ended.shut menus.stocked)),
      (
        there,
        (
          done,
          subst (λ o. IsDisposedAt o (menu_desk menu_loan loan t (opened Idle begun) slots m kept) (menu_desk menu_loan loan u (opened Idle begun) slots n after)) (sym index) (record {
            listed = ended.listed;
            found = ended.found;
            shut = ended.shut;
            activity = record { activity = refl; begun = refl };
            shown = menus_shown menu_loan loan _ _ t u (opened Idle begun) (opened Idle begun) slots m n kept after ended.menus ended.highlighted windows.1;
          }),
        ),
      ),
    )
      where
        ms : List MenuRecord
        ms = menus_of menu_loan m.list.menus.items

        index : menu_index id ms ≡ Some at
        index = menu_index-seen menu_loan id m.list.menus.items ∙ is

        there : first_refusal (menu_refusals (Dispose id) (menus_state menu_loan m kept)) ≡ None
        there = ap (λ (o : Option ℕ). first_refusal ((is_none o, NoSuchMenu) ∷ [])) index

    pub ended_step : (id : ℤ) (o : Option ℕ) (answer : MenuReply) → menu_index id m.list.menus.items ≡ o → IsEndedIfThere menu_loan o (Ok answer) m n kept after
        → Leaves (Dispose id) (Ok answer) slots t u (opened Idle begun) (opened Idle begun) m n kept after
    ended_step id None answer is (wrong, same, left) = absurd (cc)
    ended_step id (Some at) answer is (done, ended) = ended_at id at answer is done ended

  -- there is no menu to be ended
  pub no_menu_step : (id : ℤ) (o : Option ℕ) (e : Refusal) (slots : List WindowSlot) (t : WindowManager V H) (begun : PixelSet) (m n : Menus W K) (kept after : List MenuSlot)
      → menu_index id m.list.menus.items ≡ o → IsWholeManager loan t slots → IsWholeMenus menu_loan Idle m kept → IsEndedIfThere menu_loan o (Err e) m n kept after
      → Leaves (Dispose id) (Err e) slots t t (opened Idle begun) (opened Idle begun) m n kept after
  no_menu_step id None e slots t begun m n kept after is windows menus (refused, same, left) =
      refused_step (Dispose id) e slots t (opened Idle begun) m n kept after windows menus none same left
    where
      none : first_refusal (menu_refusals (Dispose id) (menus_state menu_loan m kept)) ≡ Some e
      none = ap (λ (o : Option ℕ). first_refusal ((is_none o, NoSuchMenu) ∷ [])) (menu_index-seen menu_loan id m.list.menus.items ∙ is) ∙ ap Some (cc)
  no_menu_step id (Some at) e slots t begun m n kept after is windows menus wrong = absurd wrong
