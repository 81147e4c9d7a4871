-- What the slots of a stock of window definitions hold.
use Rattle.std.specs.Prelude.{ℕ, Bool, List, Option}
use Rattle.tb_geom.specs.declared.refusal.Refusal.{Refusal}
use Rattle.def_iface.specs.WindowMeaning.{WindowDefinition, WindowLoan}
use Rattle.def_iface.specs.Slots.{SlotOf}
use Rattle.def_iface.specs.Slots as slots
pub use Rattle.def_iface.specs.Slots.{is_kind, has_kind, holding, is_left, IsPutBack}

-- a slot: the name of the kind that it is for, and the definition in it, if there is one
abbrev pub WindowSlot : Type 0
WindowSlot = SlotOf WindowDefinition

-- the slot is for the kind, and the definition in it is fresh
abbrev pub offers : List ℕ → WindowSlot → Bool
offers = slots.offers (λ d. d.stage)

-- the place of the first slot that offers the kind
abbrev pub first_offer : List ℕ → List WindowSlot → Option ℕ
first_offer = slots.first_offer (λ d. d.stage)

-- the definition that the stock would give for the kind: that of the first slot that offers it
abbrev pub offered : List ℕ → List WindowSlot → Option WindowDefinition
offered = slots.offered (λ d. d.stage)

-- the fresh definition of the first slot that offers the kind was taken, and its slot is empty
abbrev pub IsTaken : List ℕ → WindowLoan → List WindowSlot → List WindowSlot → Type 0
IsTaken = slots.IsTaken (λ d. d.stage)

-- why no definition of the kind is taken
abbrev pub IsNotTaken : List ℕ → List WindowSlot → Refusal → Type 0
IsNotTaken = slots.IsNotTaken (λ d. d.stage)

-- a definition that no desk uses: fresh or closed
abbrev pub IsIdle : WindowDefinition → Type 0
IsIdle = slots.IsIdle (λ d. d.stage)

-- a slot with a definition that no desk uses
abbrev pub IsFull : WindowSlot → Type 0
IsFull = slots.IsFull (λ d. d.stage)
