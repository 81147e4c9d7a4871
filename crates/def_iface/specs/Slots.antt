-- Slots as plain data, whatever stands in them: definitions, or boxes of definitions.
use Rattle.std.specs.Prelude.{◌≡◌, ◌⊎◌, ℕ, Bool, true, false, ◌&&◌, List, Option, Some, None, IfSome, map, position, slice_get, slice_set, is_none}
use Rattle.std.specs.Option.{option_and_then, option_map, option_map_or}
use Rattle.std.specs.List.{list_any}
use Rattle.std.specs.Str.{bytes_eq}
use Rattle.tb_geom.specs.declared.refusal.Refusal.{Refusal}
use Rattle.tb_geom.specs.declared.refusal.Refusal.TheVariants.{NoSuchName, NoDefinition}
use Rattle.def_iface.specs.declared.window_def.Stage.{Stage}
use Rattle.def_iface.specs.declared.window_def.Stage.TheVariants.{Fresh, Live, Closed}
use Rattle.std.specs.declared.alloc.Global.{Global}
use Rattle.std.specs.declared.dyn_box.DynBox.{DynBox}
use Rattle.def_iface.specs.declared.slots.Slot.{Slot}
use Rattle.def_iface.specs.declared.slots.Slots.{Slots}
use Rattle.def_iface.specs.declared.taken.Taken.{Taken}

-- a slot: the name of the kind that it is for, and the definition in it, if there is one
pub record SlotOf (D : Type 0) : Type 0 where
  pub kind : List ℕ
  pub held : Option D

-- a definition that is out of its slot, and the number of that slot
pub record LoanOf (D : Type 0) : Type 0 where
  pub definition : D
  pub slot : ℕ

abbrev pub is_fresh : Stage → Bool
is_fresh Fresh = true
is_fresh Live = false
is_fresh Closed = false

module _ {D : Type 0} where
  -- a slot, and several, as they lie in memory
  abbrev pub slot_view : Slot D → SlotOf D
  slot_view s = record { kind = s.kind.items; held = s.held }

  abbrev pub slot_views : List (Slot D) → List (SlotOf D)
  slot_views slots = map slot_view slots

  -- the slot is for the kind
  abbrev pub is_kind : List ℕ → SlotOf D → Bool
  is_kind kind s = bytes_eq s.kind kind

  -- some slot is for the kind
  abbrev pub has_kind : List ℕ → List (SlotOf D) → Bool
  has_kind kind slots = list_any (is_kind kind) slots

  -- the slot, holding this
  abbrev pub holding : Option D → SlotOf D → SlotOf D
  holding held s = record s { held = held }

  -- the slot is there, and empty
  abbrev pub is_left : ℕ → List (SlotOf D) → Bool
  is_left slot slots = option_map_or (λ s. is_none s.held) (slice_get slots slot) false

  -- the definition is in its slot, if that is there, and every other slot is as it was
  abbrev pub IsPutBack : LoanOf D → List (SlotOf D) → List (SlotOf D) → Type 0
  IsPutBack loan old new = IfSome (slice_get old loan.slot) (λ s. new ≡ slice_set old loan.slot (holding (Some loan.definition) s))

-- slots with boxes as slots with what the boxes mean
module _ {B D : Type 0} (meaning : B → D) where
  abbrev pub seen_slot : SlotOf B → SlotOf D
  seen_slot s = record { kind = s.kind; held = option_map meaning s.held }

  abbrev pub seen_slots : List (SlotOf B) → List (SlotOf D)
  seen_slots slots = map seen_slot slots

  abbrev pub seen_loan : LoanOf B → LoanOf D
  seen_loan loan = record { definition = meaning loan.definition; slot = loan.slot }

  -- what was taken, and a stock, as they lie in memory, by what is meant
  abbrev pub loan_by : Taken B → LoanOf D
  loan_by t = record { definition = meaning t.definition; slot = t.slot }

  abbrev pub slots_by : Slots B → List (SlotOf D)
  slots_by s = seen_slots (slot_views s.slots.items)

-- what was taken, where it is a definition in a box, whichever trait the box is of
abbrev pub TakenBox : (V : Type 0) → (V → Type 0) → Type 0
TakenBox V H = Taken (DynBox V Global H)

-- `stage` says where a definition stands in its life
module _ {D : Type 0} (stage : D → Stage) where
  abbrev pub holds_fresh : Option D → Bool
  holds_fresh None = false
  holds_fresh (Some d) = is_fresh (stage d)

  -- the slot is for the kind, and the definition in it is fresh
  abbrev pub offers : List ℕ → SlotOf D → Bool
  offers kind s = is_kind kind s && holds_fresh s.held

  -- the place of the first slot that offers the kind
  abbrev pub first_offer : List ℕ → List (SlotOf D) → Option ℕ
  first_offer kind slots = position (offers kind) slots

  -- the definition that the stock would give for the kind: that of the first slot that offers it
  abbrev pub offered : List ℕ → List (SlotOf D) → Option D
  offered kind slots = option_and_then (λ at. option_and_then (λ s. s.held) (slice_get slots at)) (first_offer kind slots)

  -- the fresh definition of the first slot that offers the kind was taken, and its slot is empty
  pub record IsTaken (kind : List ℕ) (loan : LoanOf D) (old new : List (SlotOf D)) : Type 0 where
    pub first : first_offer kind old ≡ Some loan.slot
    pub held : slice_get old loan.slot ≡ Some (record { kind = kind; held = Some loan.definition })
    pub fresh : stage loan.definition ≡ Fresh
    pub left : new ≡ slice_set old loan.slot (record { kind = kind; held = None })

  -- why no definition of the kind is taken
  abbrev pub IsNotTaken : List ℕ → List (SlotOf D) → Refusal → Type 0
  IsNotTaken kind slots NoSuchName = has_kind kind slots ≡ false
  IsNotTaken kind slots NoDefinition = (has_kind kind slots ≡ true) × (first_offer kind slots ≡ None)
  IsNotTaken kind slots _ = ⊥

  -- a definition that no desk uses: fresh or closed
  abbrev pub IsIdle : D → Type 0
  IsIdle d = (stage d ≡ Fresh) ⊎ (stage d ≡ Closed)

  -- a slot with a definition that no desk uses
  abbrev pub IsFull : SlotOf D → Type 0
  IsFull s = (d : D) × (s.held ≡ Some d) × IsIdle d
