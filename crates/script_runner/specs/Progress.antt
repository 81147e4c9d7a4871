-- A run in its middle.
use Rattle.std.specs.Prelude.{◌≡◌, ℕ, Bool, List, [], ◌++◌, Option, Result, Ok, Err}
use Rattle.std.specs.Io.KnownBytes.{Consumes}
use Rattle.tb_geom.specs.declared.refusal.Refusal.{Refusal}
use Rattle.script_text.specs.Held.{held_of}
use Rattle.script_text.specs.Lines.{whole_lines, last_part}
use Rattle.watched_io.specs.Reads.{Input, IsOpen}
use Rattle.script_runner.specs.Runs.{Stops}
use Rattle.script_runner.specs.Script.{ScriptState, Written}
use Rattle.watched_io.specs.Writes.{Output, Sent}

-- `raw` says whether the run is raw; `first` is the script at the start, `input` and `old` the reader and the writer there
module _ (raw : Bool) (first : ScriptState) (input : Input) (old : Output) where
  -- what was read, answered and written so far, where some bytes that were read are still ahead, and what is held of the
  -- next line
  pub record SoFar (rest : Input) (new : Output) (state : ScriptState) (part : Option (List ℕ)) (ahead : List ℕ) : Type 0 where
    pub seen : List ℕ
    pub text : List ℕ
    pub going : IsOpen rest
    pub read : Consumes input.remaining rest.remaining (seen ++ ahead)
    pub sent : Sent old new text
    pub answered : Written raw first (whole_lines seen) text state
    pub held : part ≡ held_of (last_part seen)

  -- the bytes that were ahead are taken, or one of them stopped the run
  abbrev pub GoesOn : {X : Type 0} → Input → Output → ScriptState → Option (List ℕ) → Result X Refusal → Type 0
  GoesOn rest new state part (Ok x) = SoFar rest new state part []
  GoesOn rest new state part (Err e) = Stops raw first input rest old new state e
