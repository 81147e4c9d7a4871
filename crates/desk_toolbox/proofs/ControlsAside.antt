-- What is kept for updates, the menus and the lists stay whole beside calls about controls.
use Rattle.std.proofs.Common.{◌≡◌, ◌⊎◌, ⊎_elim, inl, inr, ℕ, List, None, Result, Ok, Err, sym, ap, subst}
use Rattle.tb_geom.specs.declared.refusal.Refusal.{Refusal}
use Rattle.tb_geom.specs.Points.{PixelSet}
use Rattle.desk_layers.specs.declared.part.Part.{Part}
use Rattle.desk_layers.specs.Desk.{IsDesk}
use Rattle.def_iface.specs.Slots.{TakenBox}
use Rattle.def_iface.specs.ControlMeaning.{ControlLoan}
use Rattle.def_iface.specs.WindowMeaning.{WindowLoan}
use Rattle.def_iface.specs.MenuMeaning.{MenuLoan}
use Rattle.def_iface.specs.WindowSlots.{WindowSlot}
use Rattle.desk_call.specs.declared.activity.Activity.{Activity}
use Rattle.desk_call.specs.declared.control.ControlCall.{ControlCall}
use Rattle.desk_call.specs.declared.control.ControlReply.{ControlReply}
use Rattle.desk_call.specs.Gates.{control_standing, gate}
use Rattle.overlay.specs.declared.overlay.Overlay.{Overlay}
use Rattle.window_mgr.specs.declared.manager.WindowManager.{WindowManager}
use Rattle.window_mgr.specs.DeskStates.{Opened}
use Rattle.window_mgr.specs.Effects.{IsUnchanged}
use Rattle.window_mgr.specs.FullDesk.{FullDesk, layered_desk}
use Rattle.window_mgr.specs.Records.{state_of}
use Rattle.window_mgr.proofs.ScreenSides.{SameSides}
use Rattle.window_paint.specs.White.{all_white}
use Rattle.window_update.specs.declared.updates.Updates.{Updates}
use Rattle.window_update.specs.WholeUpdates.{IsWholeUpdates}
use Rattle.control_mgr.specs.declared.controls.Controls.{Controls}
use Rattle.control_mgr.specs.ControlDesks.{ControlDesk, ControlSlot, IsControlDeskUnchanged}
use Rattle.control_mgr.specs.ControlSteps.{IsControlStep}
use Rattle.control_mgr.specs.WholeControls.{AreControlsApart, control_desk}
use Rattle.control_mgr.proofs.ControlFacts.{control_facts}
use Rattle.control_mgr.proofs.ControlsKept.{control_behind}
use Rattle.list_mgr.specs.ListDesks.{ListsState}
use Rattle.list_mgr.specs.WholeLists.{AreWholeLists}
use Rattle.list_mgr.proofs.ListsWhole.{whole_behind}
use Rattle.menu_mgr.specs.declared.menus.Menus.{Menus}
use Rattle.menu_mgr.specs.MenuDesks.{MenuSlot}
use Rattle.desk_toolbox.proofs.MenusBeside.{AreMenusInFront}
use Rattle.desk_toolbox.proofs.MenusBeside as menus
use Rattle.desk_toolbox.proofs.TrackedControls.{AtMostControl, comes_then, open_then, unpulled}
use Rattle.desk_toolbox.proofs.UpdatesBeside as updates
use Rattle.desk_toolbox.proofs.UpdatesBeside.{UpdatesNone}

-- lists that are whole are so after a call about controls
pub control_leaves_lists : (call : ControlCall) (answer : Result ControlReply Refusal) (before after : ControlDesk) (s : ListsState) → IsDesk (layered_desk before.desk.windows.desk) → AreControlsApart before.controls.controls
    → IsControlStep call answer before after → AreWholeLists before.desk.windows.desk.windows s → AreWholeLists after.desk.windows.desk.windows s
control_leaves_lists call answer before after s distinct apart step whole =
    whole_behind before.desk.windows.desk.windows after.desk.windows.desk.windows s (control_facts call answer before after step).0.windows (control_behind call answer before after distinct apart step) whole

not_updating : (a : Activity) → AtMostControl a → UpdatesNone a
not_updating a most = ⊎_elim (λ idle. subst UpdatesNone (sym idle) tt) (λ (k, is). subst UpdatesNone (sym is) tt) most

module _ {V : Type 0} {H : V → Type 0} (loan : TakenBox V H → WindowLoan) {W : Type 0} {K : W → Type 0} (menu_loan : TakenBox W K → MenuLoan) {U : Type 0} {J : U → Type 0} (control_loan : TakenBox U J → ControlLoan) (others : List ℕ → Part → PixelSet)
    (t new : WindowManager V H) (before after : List WindowSlot) (o n : Opened) (cs now : Controls (TakenBox U J)) (held left : List ControlSlot) where
  abbrev first : ControlDesk
  first = control_desk control_loan loan others t o before cs held

  abbrev last : ControlDesk
  last = control_desk control_loan loan others new n after now left

  -- the windows did not change, whatever they show of controls
  unchanged : IsControlDeskUnchanged first last → IsUnchanged (state_of loan t before) (state_of loan new after)
  unchanged same = record {
    desk = ap (λ (d : FullDesk). record d { shows = all_white }) same.desk.windows.desk;
    stale = same.desk.windows.stale;
    image = same.desk.windows.image;
  }

  module _ (call : ControlCall) (answer : Result ControlReply Refusal) (may : gate o.activity (control_standing call) ≡ None) (step : IsControlStep call answer first last) where
    sides : SameSides (state_of loan t before).desk (state_of loan new after).desk
    sides = let facts = (control_facts call answer first last step).0 in record { width = facts.width; height = facts.height }

    -- nothing changed, or no more than the tracking of a control was open, and is
    split : IsControlDeskUnchanged first last ⊎ AtMostControl n.activity
    split = by_answer answer step
      where
        by_answer : (r : Result ControlReply Refusal) → IsControlStep call r first last → IsControlDeskUnchanged first last ⊎ AtMostControl n.activity
        by_answer (Err e) done = inl done.1
        by_answer (Ok reply) done = ⊎_elim
            (λ same. inl same)
            (λ most. inr (open_then first.desk.windows.desk.windows o.activity n.activity most (control_facts call (Ok reply) first last done).0.activity))
            (comes_then call reply first last may done.1)

    pub updates_after_control : (u : Updates) → IsWholeUpdates loan o.activity t u → IsWholeUpdates loan n.activity new u
    updates_after_control u whole = ⊎_elim
        (λ same. subst (λ a. IsWholeUpdates loan a new u) (sym same.desk.activity) (updates.whole_unchanged loan t new u before after o.activity (unchanged same) whole))
        (λ most. updates.whole_unopened loan t new u before after o.activity n.activity sides (not_updating n.activity most) whole)
        split

    pub menus_after_control : (m : Menus W K) (front : Overlay) (kept : List MenuSlot) → AreMenusInFront menu_loan o.activity t m front kept → AreMenusInFront menu_loan n.activity new m front kept
    menus_after_control m front kept whole = ⊎_elim
        (λ same. subst (λ a. AreMenusInFront menu_loan a new m front kept) (sym same.desk.activity) (menus.whole_unchanged loan menu_loan t new m front kept before after (unchanged same) o.activity whole))
        (λ most. menus.whole_unpulled loan menu_loan t new m front kept before after o.activity n.activity sides (unpulled n.activity most) whole)
        split
