-- What a call has written where it may stop in the middle.
use Rattle.std.specs.Prelude.{◌≡◌, ℕ, List, ◌++◌, Bool, true, Option, Result, Ok, Err}
use Rattle.std.specs.Io.KnownBytes.{Appends}
use Rattle.tb_geom.specs.declared.refusal.Refusal.{Refusal}
use Rattle.tb_geom.specs.declared.refusal.Refusal.TheVariants.{WriteFault}

-- a writer's side of a run: the bytes that it was given, where they are known, and whether one of its writes failed
pub record Output : Type 0 where
  pub contents : Option (List ℕ)
  pub has_failed : Bool

-- the whole text was written, and no write failed
pub record Sent (old new : Output) (text : List ℕ) : Type 0 where
  pub bytes : Appends old.contents new.contents text
  pub quiet : new.has_failed ≡ old.has_failed

-- a write failed when a front of the text was written
pub record BrokeOff (old new : Output) (text : List ℕ) : Type 0 where
  pub front : List ℕ
  pub back : List ℕ
  pub split : text ≡ front ++ back
  pub bytes : Appends old.contents new.contents front
  pub failed : new.has_failed ≡ true

-- a call that writes the text: at Ok all of it was written, and Err, which is WriteFault, comes only of a write that failed
abbrev pub Sends : {X : Type 0} → Output → Output → Result X Refusal → List ℕ → Type 0
Sends old new (Ok x) text = Sent old new text
Sends old new (Err e) text = (e ≡ WriteFault) × BrokeOff old new text
