-- Which slots of a stock are in use, whatever stands in them.
use Rattle.std.specs.Prelude.{◌≡◌, ◌⊎◌, ℕ, ◌+◌, ◌==◌, if◌then◌else◌, List, [], ◌∷◌, Option, None, Some, slice_get}
use Rattle.def_iface.specs.declared.window_def.Stage.{Stage}
use Rattle.def_iface.specs.Slots.{SlotOf, IsFull}

-- how many of the numbers are this one
abbrev pub uses : ℕ → List ℕ → ℕ
uses k [] = 0
uses k (n ∷ ns) = (if n == k then 1 else 0) + uses k ns

-- `stage` says where a definition stands in its life
module _ {D : Type 0} (stage : D → Stage) where
  -- so many have their definition from a slot: none, where it has a definition that no desk uses or there is no such slot,
  -- and one, where it is empty
  abbrev pub IsUsedBy : ℕ → Option (SlotOf D) → Type 0
  IsUsedBy n None = n ≡ 0
  IsUsedBy n (Some s) = ((n ≡ 0) × IsFull stage s) ⊎ ((n ≡ 1) × (s.held ≡ None))

  -- the empty slots are those of these numbers, each another, and the definitions in the other slots are fresh or closed
  abbrev pub AreStocked : List ℕ → List (SlotOf D) → Type 0
  AreStocked used slots = (k : ℕ) → IsUsedBy (uses k used) (slice_get slots k)
