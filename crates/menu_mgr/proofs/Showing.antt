-- Menus that are whole with nothing open, and a menu bar that shows their titles anew as a step of the desk.
use Rattle.std.proofs.Common.{◌≡◌, ℕ, ◌≤◌, List, length, Option, sym, ◌∙◌, subst, arith}
use Rattle.std.specs.Prelude.{vec_capacity}
use Rattle.def_iface.specs.Slots.{TakenBox}
use Rattle.def_iface.specs.WindowMeaning.{WindowLoan}
use Rattle.def_iface.specs.MenuMeaning.{MenuLoan}
use Rattle.def_iface.specs.WindowSlots.{WindowSlot}
use Rattle.menu_list.specs.Lists.{titles_of}
use Rattle.menu_list.proofs.SeenLemmas.{length-seen, titles_of-seen}
use Rattle.desk_call.specs.declared.activity.Activity.TheVariants.{Idle}
use Rattle.window_mgr.specs.declared.manager.WindowManager.{WindowManager}
use Rattle.window_mgr.specs.BarShown.{IsBarShown}
use Rattle.window_mgr.specs.DeskStates.{Opened}
use Rattle.window_mgr.specs.Records.{state_of}
use Rattle.menu_mgr.specs.declared.menus.Menus.{Menus}
use Rattle.menu_mgr.specs.MakingSteps.{IsAsRoomy}
use Rattle.menu_mgr.specs.MenuDesks.{MenuRecord, MenuSlot}
use Rattle.menu_mgr.specs.MenuSteps.{AreMenusShown}
use Rattle.menu_mgr.specs.WholeMenus.{AreLive, AreMenusStocked, IsWholeMenus, menu_desk, menus_of}

module _ {W : Type 0} {K : W → Type 0} (menu_loan : TakenBox W K → MenuLoan) where
  -- with nothing open the menus are whole
  pub whole_again : (m n : Menus W K) (before after : List MenuSlot) → IsWholeMenus menu_loan Idle m before → IsAsRoomy m n
      → length (menus_of menu_loan n.list.menus.items) ≤ 16 → AreLive (menus_of menu_loan n.list.menus.items)
      → AreMenusStocked (menus_of menu_loan n.list.menus.items) after → IsWholeMenus menu_loan Idle n after
  whole_again m n before after whole same few live stocked = record {
    few = subst (λ k. k ≤ 16) (length-seen menu_loan n.list.menus.items) few;
    room = enough (vec_capacity m.list.menus) (vec_capacity n.list.menus) whole.room same.room;
    live = live;
    stocked = stocked;
    placed = tt;
  }
    where
      enough : (a b : ℕ) → 16 ≤ a → a ≤ b → 16 ≤ b
      enough a b h k = omega arith

  -- the menus that the code keeps are these as plain data, and the bar shows them
  pub menus_shown : {V : Type 0} {H : V → Type 0} (loan : TakenBox V H → WindowLoan) (ls : List MenuRecord) (highlighted : Option ℕ) (t u : WindowManager V H) (o r : Opened) (slots : List WindowSlot) (m n : Menus W K) (before after : List MenuSlot)
      → menus_of menu_loan n.list.menus.items ≡ ls → n.list.highlighted ≡ highlighted
      → IsBarShown (titles_of n.list.highlighted n.list.menus.items) (state_of loan t slots) (state_of loan u slots)
      → AreMenusShown ls highlighted after (menu_desk menu_loan loan t o slots m before) (menu_desk menu_loan loan u r slots n after)
  menus_shown loan ls highlighted t u o r slots m n before after menus lit shown = record {
    menus = λ i. record { menus = menus i; highlighted = lit i; stock = after };
    bar = subst (λ titles. IsBarShown titles (state_of loan t slots) (state_of loan u slots))
        (sym (titles_of-seen menu_loan n.list.highlighted n.list.menus.items) ∙ (λ i. titles_of (lit i) (menus i))) shown;
  }
