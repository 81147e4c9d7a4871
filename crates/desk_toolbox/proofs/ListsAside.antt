-- What is kept for updates, and the menus, stay whole beside calls about lists, and so does the control that is tracked.
use Rattle.std.proofs.Common.{◌≡◌, ◌⊎◌, ⊎_elim, inl, ℕ, List, None, Result, Ok, Err, sym, ap, subst}
use Rattle.tb_geom.specs.declared.refusal.Refusal.{Refusal}
use Rattle.tb_geom.specs.Points.{PixelSet}
use Rattle.desk_layers.specs.declared.part.Part.{Part}
use Rattle.def_iface.specs.Slots.{TakenBox}
use Rattle.def_iface.specs.ControlMeaning.{ControlLoan}
use Rattle.def_iface.specs.ListMeaning.{ListLoan}
use Rattle.def_iface.specs.WindowMeaning.{WindowLoan}
use Rattle.def_iface.specs.MenuMeaning.{MenuLoan}
use Rattle.def_iface.specs.WindowSlots.{WindowSlot}
use Rattle.desk_call.specs.declared.activity.Activity.TheVariants.{Idle}
use Rattle.desk_call.specs.declared.list.ListCall.{ListCall}
use Rattle.desk_call.specs.declared.list.ListReply.{ListReply}
use Rattle.desk_call.specs.Gates.{gate, list_standing}
use Rattle.overlay.specs.declared.overlay.Overlay.{Overlay}
use Rattle.window_mgr.specs.declared.manager.WindowManager.{WindowManager}
use Rattle.window_mgr.specs.DeskStates.{Opened}
use Rattle.window_mgr.specs.Effects.{IsUnchanged}
use Rattle.window_mgr.specs.FullDesk.{FullDesk}
use Rattle.window_mgr.specs.Records.{state_of}
use Rattle.window_mgr.proofs.ScreenSides.{SameSides}
use Rattle.window_paint.specs.White.{all_white}
use Rattle.window_update.specs.declared.updates.Updates.{Updates}
use Rattle.window_update.specs.WholeUpdates.{IsWholeUpdates}
use Rattle.control_mgr.specs.declared.controls.Controls.{Controls}
use Rattle.control_mgr.specs.ControlDesks.{ControlSlot, ControlsState}
use Rattle.control_mgr.specs.WholeControls.{IsTrackable, controls_state, records_of}
use Rattle.list_mgr.specs.declared.lists.Lists.{Lists}
use Rattle.list_mgr.specs.ListDesks.{IsListDeskUnchanged, ListDesk, ListSlot}
use Rattle.list_mgr.specs.ListSteps.{IsListStep}
use Rattle.list_mgr.specs.WholeLists.{list_desk}
use Rattle.list_mgr.proofs.ListFacts.{list_facts}
use Rattle.menu_mgr.specs.declared.menus.Menus.{Menus}
use Rattle.menu_mgr.specs.MenuDesks.{MenuSlot}
use Rattle.desk_toolbox.proofs.ListStands.{list_comes_then}
use Rattle.desk_toolbox.proofs.MenusBeside.{AreMenusInFront}
use Rattle.desk_toolbox.proofs.MenusBeside as menus
use Rattle.desk_toolbox.proofs.UpdatesBeside as updates

module _ {V : Type 0} {H : V → Type 0} (loan : TakenBox V H → WindowLoan) {W : Type 0} {K : W → Type 0} (menu_loan : TakenBox W K → MenuLoan) {U : Type 0} {J : U → Type 0} (control_loan : TakenBox U J → ControlLoan) {X : Type 0} {L : X → Type 0} (list_loan : TakenBox X L → ListLoan) (others : List ℕ → Part → PixelSet)
    (t new : WindowManager V H) (before after : List WindowSlot) (o : Opened) (cs now : Controls (TakenBox U J)) (held left : List ControlSlot) (ls rest : Lists (TakenBox X L)) (kept put : List ListSlot) where
  abbrev first : ListDesk
  first = list_desk list_loan loan t others o before (controls_state control_loan cs held) ls kept

  abbrev last : ListDesk
  last = list_desk list_loan loan new others o after (controls_state control_loan now left) rest put

  -- the windows did not change, whatever they show of controls and lists
  unchanged : IsListDeskUnchanged first last → IsUnchanged (state_of loan t before) (state_of loan new after)
  unchanged same = record {
    desk = ap (λ (d : FullDesk). record d { shows = all_white }) same.desk.windows.desk;
    stale = same.desk.windows.stale;
    image = same.desk.windows.image;
  }

  module _ (call : ListCall) (answer : Result ListReply Refusal) (may : gate o.activity (list_standing call) ≡ None) (step : IsListStep call answer first last) where
    sides : SameSides (state_of loan t before).desk (state_of loan new after).desk
    sides = let facts = (list_facts call answer first last step).0 in record { width = ap (λ (d : FullDesk). d.width) facts.rest; height = ap (λ (d : FullDesk). d.height) facts.rest }

    -- nothing changed, or nothing is open
    split : IsListDeskUnchanged first last ⊎ (o.activity ≡ Idle)
    split = by_answer answer step
      where
        by_answer : (r : Result ListReply Refusal) → IsListStep call r first last → IsListDeskUnchanged first last ⊎ (o.activity ≡ Idle)
        by_answer (Err e) done = inl done.1
        by_answer (Ok reply) done = list_comes_then call reply first last may done.1

    pub updates_after_list : (u : Updates) → IsWholeUpdates loan o.activity t u → IsWholeUpdates loan o.activity new u
    updates_after_list u whole = ⊎_elim
        (λ same. updates.whole_unchanged loan t new u before after o.activity (unchanged same) whole)
        (λ idle. updates.whole_unopened loan t new u before after o.activity o.activity sides (subst updates.UpdatesNone (sym idle) tt) whole)
        split

    pub menus_after_list : (m : Menus W K) (front : Overlay) (stored : List MenuSlot) → AreMenusInFront menu_loan o.activity t m front stored → AreMenusInFront menu_loan o.activity new m front stored
    menus_after_list m front stored whole = ⊎_elim
        (λ same. menus.whole_unchanged loan menu_loan t new m front stored before after (unchanged same) o.activity whole)
        (λ idle. menus.whole_unpulled loan menu_loan t new m front stored before after o.activity o.activity sides (subst menus.CoversNone (sym idle) tt) whole)
        split

    pub trackable_after_list : IsTrackable o.activity (records_of control_loan cs) → IsTrackable o.activity (records_of control_loan now)
    trackable_after_list was = ⊎_elim
        (λ same. subst (λ (s : ControlsState). IsTrackable o.activity s.controls) (sym same.controls) was)
        (λ idle. subst (λ a. IsTrackable a (records_of control_loan now)) (sym idle) tt)
        split
