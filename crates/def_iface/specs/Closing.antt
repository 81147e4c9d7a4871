-- What the end of definitions does to a stock.
use Rattle.std.specs.Prelude.{◌≡◌, ℕ, true, List, map, Some, All, slice_get}
use Rattle.def_iface.specs.declared.window_def.Stage.{Stage}
use Rattle.def_iface.specs.declared.window_def.Stage.TheVariants.{Closed}
use Rattle.def_iface.specs.Slots.{SlotOf, LoanOf, IsFull, IsPutBack, is_left}

-- `stage` says where a definition stands in its life, `IsAlike` that one answers as another did
module _ {D : Type 0} (stage : D → Stage) (IsAlike : D → D → Type 0) where
  -- the definition was closed and put into its slot, which was empty, and every other slot is as it was
  pub record IsShut (loan : LoanOf D) (old new : List (SlotOf D)) : Type 0 where
    -- the definition, once it is closed
    pub definition : D
    pub closed : stage definition ≡ Closed
    pub look : IsAlike loan.definition definition
    pub left : is_left loan.slot old ≡ true
    pub back : IsPutBack (record { definition = definition; slot = loan.slot }) old new

  -- a slot with a definition that is closed, and answers as this one
  abbrev pub IsClosedSlot : D → SlotOf D → Type 0
  IsClosedSlot before s = (d : D) × (s.held ≡ Some d) × (stage d ≡ Closed) × IsAlike before d

  -- things are ended, each of which had a definition out of its slot
  module _ {X : Type 0} (loan : X → LoanOf D) where
    -- the thing's slot is there, with its definition, which is closed
    abbrev pub IsClosedAt : List (SlotOf D) → X → Type 0
    IsClosedAt slots x = (s : SlotOf D) × (slice_get slots (loan x).slot ≡ Some s) × IsClosedSlot (loan x).definition s

    -- the definitions of these were closed and put into their slots, and every other slot that had one is as it was
    pub record AreClosed (xs : List X) (old new : List (SlotOf D)) : Type 0 where
      -- the same slots, for the same kinds
      pub kinds : map (λ s. s.kind) new ≡ map (λ s. s.kind) old
      -- a slot that had a definition is as it was
      pub others : (k : ℕ) (s : SlotOf D) → slice_get old k ≡ Some s → IsFull stage s → slice_get new k ≡ Some s
      -- the slots of these have their definitions, which are closed
      pub closed : All (IsClosedAt new) xs

    -- all that had a definition out of its slot, which are these, were ended: every slot has a definition that no desk uses
    pub record AreAllClosed (xs : List X) (old new : List (SlotOf D)) : Type 0 where
      pub ended : AreClosed xs old new
      pub full : All (IsFull stage) new
