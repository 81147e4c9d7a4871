-- Menus that were changed as data, as the code keeps them.
use Rattle.std.specs.Prelude.{◌≡◌, ◌≤◌, Result, vec_capacity}
use Rattle.tb_geom.specs.declared.refusal.Refusal.{Refusal}
use Rattle.tb_geom.specs.Refusals.{first_refusal}
use Rattle.menu_list.specs.declared.list.MenuList.{MenuList}
use Rattle.desk_call.specs.declared.menu.MenuCall.{MenuCall}
use Rattle.desk_call.specs.declared.menu.MenuReply.{MenuReply}
use Rattle.desk_call.specs.Steps.{IsStepOf}
use Rattle.menu_list.specs.MenuEdits.{answer_to, highlight_after, menus_after}
use Rattle.menu_list.specs.EditRefusals.{edit_refusals, may_menu_grow}

module _ {D : Type 0} where
  -- this is what the call answers and leaves; there is as much room as before
  pub record IsEditDone (call : MenuCall) (answer : MenuReply) (old new : MenuList D) : Type 0 where
    pub answered : answer ≡ answer_to call old.menus.items
    pub menus : new.menus.items ≡ menus_after call old.menus.items
    pub highlighted : new.highlighted ≡ highlight_after call old.menus.items old.highlighted
    pub room : vec_capacity old.menus ≤ vec_capacity new.menus

  -- nothing changed
  pub record AreSameMenus (old new : MenuList D) : Type 0 where
    pub menus : new.menus.items ≡ old.menus.items
    pub highlighted : new.highlighted ≡ old.highlighted
    pub room : vec_capacity old.menus ≤ vec_capacity new.menus

  -- the call was done, or it was refused and nothing changed
  abbrev pub IsEdit : MenuCall → Result MenuReply Refusal → MenuList D → MenuList D → Type 0
  IsEdit call = IsStepOf (λ old why. first_refusal (edit_refusals call old.menus.items) ≡ why) (may_menu_grow call)
      (IsEditDone call) AreSameMenus
