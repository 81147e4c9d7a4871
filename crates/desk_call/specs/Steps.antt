-- The one form of a step, whichever manager makes it.
use Rattle.std.specs.Prelude.{◌≡◌, ◌⊎◌, Bool, true, Option, None, Some, Result, Ok, Err}
use Rattle.tb_geom.specs.declared.refusal.Refusal.{Refusal}
use Rattle.tb_geom.specs.declared.refusal.Refusal.TheVariants.{NoMemory}

-- a call is refused for this, where `refuses` says why it is refused, want of memory aside, and `grows` whether it may
-- ask for memory: the first refusal of the written order whose condition holds, or, where there is none and the call may
-- ask for memory, want of it
abbrev pub IsRefusedFor : (Option Refusal → Type 0) → Bool → Refusal → Type 0
IsRefusedFor refuses grows e = refuses (Some e) ⊎ (refuses None × ((grows ≡ true) × (e ≡ NoMemory)))

-- one step: a call that nothing refuses has its effect, which says what it answers and what it leaves, and a refused one
-- changes nothing
abbrev pub IsStepOf : {State Answer : Type 0} → (State → Option Refusal → Type 0) → Bool → (Answer → State → State → Type 0)
    → (State → State → Type 0) → Result Answer Refusal → State → State → Type 0
IsStepOf refuses grows effect unchanged (Ok answer) before after = refuses before None × effect answer before after
IsStepOf refuses grows effect unchanged (Err e) before after = IsRefusedFor (refuses before) grows e × unchanged before after
