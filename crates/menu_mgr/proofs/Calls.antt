-- What is proved of a call in its own function is so of the call that is performed.
use Rattle.std.proofs.Common.{◌≡◌, List, None, Result, nat_abs, refl, sym, true, false, subst, ap, ◌∙◌}
use Rattle.tb_geom.specs.declared.refusal.Refusal.{Refusal}
use Rattle.tb_geom.specs.Points.{PixelSet}
use Rattle.def_iface.specs.Slots.{TakenBox}
use Rattle.def_iface.specs.WindowMeaning.{WindowLoan}
use Rattle.def_iface.specs.MenuMeaning.{MenuLoan}
use Rattle.desk_call.specs.declared.activity.Activity.{Activity}
use Rattle.desk_call.specs.declared.activity.Activity.TheVariants.{Idle}
use Rattle.desk_call.specs.declared.activity.Standing.TheVariants.{Changes}
use Rattle.desk_call.specs.declared.menu.MenuCall.{MenuCall}
use Rattle.desk_call.specs.declared.menu.MenuCall.TheVariants.{New, Dispose, Down, Move, Up}
use Rattle.desk_call.specs.declared.menu.MenuReply.{MenuReply}
use Rattle.desk_call.specs.Gates.{gate, menu_standing}
use Rattle.overlay.specs.declared.overlay.Overlay.{Overlay}
use Rattle.window_mgr.specs.declared.manager.WindowManager.{WindowManager}
use Rattle.window_mgr.specs.DeskStates.{Opened}
use Rattle.window_mgr.specs.Kept.{IsKept}
use Rattle.menu_mgr.specs.declared.menus.Menus.{Menus}
use Rattle.menu_mgr.specs.Leaving.{LeavesDeskOver, LeavesMenus, opened}
use Rattle.menu_mgr.specs.MenuDesks.{MenuSlot}
use Rattle.menu_mgr.specs.MenuSteps.{IsMenuStep, is_edit}
use Rattle.menu_mgr.specs.WholeMenus.{IsMenuFront, IsPulledShown, IsWholeMenus, menu_desk}
use Rattle.menu_mgr.proofs.MenuKeeps.{menu_keeps}
use Rattle.menu_mgr.proofs.Steps.{gate_idle}

edits_change : (call : MenuCall) → is_edit call ≡ true → menu_standing call ≡ Changes
edits_change (New n) is = absurd (cc)
edits_change (Dispose id) is = absurd (cc)
edits_change (Down p) is = absurd (cc)
edits_change (Move p) is = absurd (cc)
edits_change (Up p) is = absurd (cc)
edits_change _ is = refl

module _ {V : Type 0} {H : V → Type 0} (loan : TakenBox V H → WindowLoan) {W : Type 0} {K : W → Type 0} (menu_loan : TakenBox W K → MenuLoan)
    (call : MenuCall) (activity : Activity) (may : gate activity (menu_standing call) ≡ None) (result : Result MenuReply Refusal)
    (t u : WindowManager V H) (m n : Menus W K) where
  is_idle : menu_standing call ≡ Changes → activity ≡ Idle
  is_idle changes = gate_idle activity (ap (gate activity) (sym changes) ∙ may)

  -- a call that may come while nothing is open
  pub of_idle : (kept after : List MenuSlot) (shape : MenuCall) → call ≡ shape → menu_standing shape ≡ Changes
      → ((begun : PixelSet) → LeavesDeskOver loan menu_loan kept after (IsMenuStep shape result) t (opened Idle begun) m u (opened Idle begun) n)
      → (begun : PixelSet) → LeavesDeskOver loan menu_loan kept after (IsMenuStep call result) t (opened activity begun) m u (opened activity begun) n
  of_idle kept after shape is changes leaves begun =
      subst (λ c. LeavesDeskOver loan menu_loan kept after (IsMenuStep c result) t (opened activity begun) m u (opened activity begun) n) (sym is)
      (subst (λ a. LeavesDeskOver loan menu_loan kept after (IsMenuStep shape result) t (opened a begun) m u (opened a begun) n)
      (sym (is_idle (ap menu_standing is ∙ changes))) (leaves begun))

  -- the map in front, where nothing lies, is as wide and high as the screen after it
  pub front_of_idle : (kept after : List MenuSlot) (shape : MenuCall) → call ≡ shape → menu_standing shape ≡ Changes → IsKept loan t
      → ((begun : PixelSet) → LeavesDeskOver loan menu_loan kept after (IsMenuStep shape result) t (opened Idle begun) m u (opened Idle begun) n)
      → (front : Overlay) → IsMenuFront menu_loan activity t m front → IsMenuFront menu_loan activity u n front
  front_of_idle kept after shape is changes windows leaves front was =
      let old = menu_desk menu_loan loan t (opened Idle (λ p. false)) windows.slots m kept in
      let new = menu_desk menu_loan loan u (opened Idle (λ p. false)) windows.slots n after in
      let step = (leaves (λ p. false) windows.slots windows.whole).2 in
      record {
        width = was.width ∙ sym (ap nat_abs (menu_keeps (λ d. d.width) (λ d titles. refl) shape result old new step));
        height = was.height ∙ sym (ap nat_abs (menu_keeps (λ d. d.height) (λ d titles. refl) shape result old new step));
        shown = subst (λ a. IsPulledShown menu_loan a u n front) (sym (is_idle (ap menu_standing is ∙ changes))) tt;
      }

  -- one that changes menus as data
  edit_leaves : (kept : List MenuSlot) → is_edit call ≡ true → IsWholeMenus menu_loan activity m kept
      → ((begun : PixelSet) (slots : List MenuSlot) → IsWholeMenus menu_loan Idle m slots
      → LeavesDeskOver loan menu_loan slots slots (IsMenuStep call result) t (opened Idle begun) m u (opened Idle begun) n)
      → (begun : PixelSet) → LeavesDeskOver loan menu_loan kept kept (IsMenuStep call result) t (opened Idle begun) m u (opened Idle begun) n
  edit_leaves kept is whole leaves begun = leaves begun kept (subst (λ a. IsWholeMenus menu_loan a m kept) (is_idle (edits_change call is)) whole)

  pub of_edit : (kept : List MenuSlot) → is_edit call ≡ true → IsWholeMenus menu_loan activity m kept
      → ((begun : PixelSet) (slots : List MenuSlot) → IsWholeMenus menu_loan Idle m slots
      → LeavesDeskOver loan menu_loan slots slots (IsMenuStep call result) t (opened Idle begun) m u (opened Idle begun) n)
      → (begun : PixelSet) → LeavesDeskOver loan menu_loan kept kept (IsMenuStep call result) t (opened activity begun) m u (opened activity begun) n
  of_edit kept is whole leaves = of_idle kept kept call refl (edits_change call is) (edit_leaves kept is whole leaves)

  pub front_of_edit : (kept : List MenuSlot) → is_edit call ≡ true → IsKept loan t → IsWholeMenus menu_loan activity m kept
      → ((begun : PixelSet) (slots : List MenuSlot) → IsWholeMenus menu_loan Idle m slots
      → LeavesDeskOver loan menu_loan slots slots (IsMenuStep call result) t (opened Idle begun) m u (opened Idle begun) n)
      → (front : Overlay) → IsMenuFront menu_loan activity t m front → IsMenuFront menu_loan activity u n front
  front_of_edit kept is windows whole leaves = front_of_idle kept kept call refl (edits_change call is) windows (edit_leaves kept is whole leaves)

  -- one about the menu that is pulled down
  pub of_pulled : (kept : List MenuSlot) (shape : MenuCall) (before after : Opened) → call ≡ shape → IsWholeMenus menu_loan before.activity m kept
      → LeavesMenus loan menu_loan (IsMenuStep shape result) t before m u after n
      → LeavesDeskOver loan menu_loan kept kept (IsMenuStep call result) t before m u after n
  of_pulled kept shape before after is whole leaves =
      subst (λ c. LeavesDeskOver loan menu_loan kept kept (IsMenuStep c result) t before m u after n) (sym is) (leaves kept whole)
