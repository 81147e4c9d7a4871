-- The definitions that a new list and its scroll bars are offered, as the code takes them out of their stocks, and why a list that
-- is offered these is not made.
use Rattle.std.specs.Prelude.{◌≡◌, ◌⊎◌, ℕ, Bool, true, false, ◌&&◌, ◌||◌, List, [], ◌∷◌, ◌++◌, Option, None, Some, is_none}
use Rattle.std.specs.Option.{option_map}
use Rattle.tb_geom.specs.declared.refusal.Refusal.{Refusal}
use Rattle.tb_geom.specs.declared.refusal.Refusal.TheVariants.{NoDefinition, NoMemory}
use Rattle.tb_geom.specs.Refusals.{first_refusal}
use Rattle.def_iface.specs.declared.window_def.Stage.{Stage}
use Rattle.def_iface.specs.ControlMeaning.{ControlDefinition, ControlLoan}
use Rattle.def_iface.specs.ListMeaning.{ListDefinition, ListLoan}
use Rattle.def_iface.specs.WindowMeaning.{WindowLoan}
use Rattle.def_iface.specs.Slots.{IsIdle, IsPutBack, IsTaken, LoanOf, SlotOf, first_offer, is_left, TakenBox}
use Rattle.desk_call.specs.declared.list.NewList.{NewList}
use Rattle.window_mgr.specs.declared.manager.WindowManager.{WindowManager}
use Rattle.window_mgr.specs.Records.{desk_of}
use Rattle.control_mgr.specs.declared.controls.Controls.{Controls}
use Rattle.control_mgr.specs.ControlDesks.{ControlSlot}
use Rattle.control_mgr.specs.WholeControls as control_records
use Rattle.list_mgr.specs.declared.lists.Lists.{Lists}
use Rattle.list_mgr.specs.declared.making.Offers.{Offers}
use Rattle.list_mgr.specs.ListDesks.{ListSlot}
use Rattle.list_mgr.specs.ListRefusals.{judged_refusals, scroll_kind}
use Rattle.list_mgr.specs.WholeLists.{records_of}

-- ---- one definition

-- `stage` says where a definition stands in its life
module _ {D : Type 0} (stage : D → Stage) where
  -- a definition of the kind was taken, or none is left and the slots are as they were
  abbrev pub IsOffer : List ℕ → Option (LoanOf D) → List (SlotOf D) → List (SlotOf D) → Type 0
  IsOffer kind None old new = (first_offer stage kind old ≡ None) × (new ≡ old)
  IsOffer kind (Some loan) old new = IsTaken stage kind loan old new

  -- so where one is wanted; where none is, nothing was taken
  abbrev pub IsOfferIf : Bool → List ℕ → Option (LoanOf D) → List (SlotOf D) → List (SlotOf D) → Type 0
  IsOfferIf true kind loan old new = IsOffer kind loan old new
  IsOfferIf false kind loan old new = (loan ≡ None) × (new ≡ old)

  -- what was taken, if something was, can go back: it is idle, and its slot is empty
  abbrev pub MayGoBack : Option (LoanOf D) → List (SlotOf D) → Type 0
  MayGoBack None slots = Unit {0}
  MayGoBack (Some loan) slots = IsIdle stage loan.definition × (is_left loan.slot slots ≡ true)

-- what was taken, if something was, is in its slot, and every other slot is as it was
abbrev pub IsBack : {D : Type 0} → Option (LoanOf D) → List (SlotOf D) → List (SlotOf D) → Type 0
IsBack None old new = new ≡ old
IsBack (Some loan) old new = IsPutBack loan old new

-- ---- those of a new list

-- what a new list is offered, as plain data
pub record Offered : Type 0 where
  pub list : Option ListLoan
  pub vertical : Option ControlLoan
  pub horizontal : Option ControlLoan

-- the definition of the list and then those of the bars that are wanted were taken out of the stocks, as far as they were to be had
pub record AreOffered (n : NewList) (o : Offered) (kept rest : List ListSlot) (held left : List ControlSlot) : Type 0 where
  pub between : List ControlSlot
  pub list : IsOffer (λ (d : ListDefinition). d.stage) n.kind o.list kept rest
  pub vertical : IsOfferIf (λ (d : ControlDefinition). d.stage) n.vertical_bar scroll_kind o.vertical held between
  pub horizontal : IsOfferIf (λ (d : ControlDefinition). d.stage) n.horizontal_bar scroll_kind o.horizontal between left

-- they were taken out of some stocks, of which this is left
pub record AreOut (n : NewList) (o : Offered) (rest : List ListSlot) (left : List ControlSlot) : Type 0 where
  pub kept : List ListSlot
  pub held : List ControlSlot
  pub offered : AreOffered n o kept rest held left

-- one that is wanted was not to be had
abbrev pub lacks_any : NewList → Offered → Bool
lacks_any n o = is_none o.list || ((n.vertical_bar && is_none o.vertical) || (n.horizontal_bar && is_none o.horizontal))

-- the definition of a scroll bar that was taken
abbrev pub definition_of : Option ControlLoan → Option ControlDefinition
definition_of o = option_map (λ (l : ControlLoan). l.definition) o

module _ {W : Type 0} {K : W → Type 0} (control_loan : TakenBox W K → ControlLoan) {X : Type 0} {L : X → Type 0} (list_loan : TakenBox X L → ListLoan) where
  -- what these are
  abbrev pub seen_offers : Offers X W L K → Offered
  seen_offers o = record {
    list = option_map list_loan o.list;
    vertical = option_map control_loan o.vertical;
    horizontal = option_map control_loan o.horizontal;
  }

  module _ {V : Type 0} {H : V → Type 0} (loan : TakenBox V H → WindowLoan) where
    -- they were taken out of some stocks, over which the controls are whole
    pub record AreOutBeside (n : NewList) (o : Offered) (t : WindowManager V H) (c : Controls (TakenBox W K)) : Type 0 where
      pub rest : List ListSlot
      pub left : List ControlSlot
      pub out : AreOut n o rest left
      pub whole : control_records.AreWholeControls (desk_of loan t []).windows (control_records.controls_state control_loan c out.held)

    -- why a list that is offered these is not made, want of memory aside
    abbrev pub why_not : NewList → Offered → WindowManager V H → Controls (TakenBox W K) → Lists (TakenBox X L) → Option Refusal
    why_not n o t c m = first_refusal (judged_refusals n (definition_of o.vertical) (definition_of o.horizontal) (desk_of loan t [])
        (control_records.records_of control_loan c) c.list.next (records_of list_loan m) m.list.next ++ (lacks_any n o, NoDefinition) ∷ [])

    -- it is not made for this, or for want of memory where nothing else refuses it
    abbrev pub IsNotMade : NewList → Offered → WindowManager V H → Controls (TakenBox W K) → Lists (TakenBox X L) → Refusal → Type 0
    IsNotMade n o t c m e = (why_not n o t c m ≡ Some e) ⊎ ((why_not n o t c m ≡ None) × (e ≡ NoMemory))
