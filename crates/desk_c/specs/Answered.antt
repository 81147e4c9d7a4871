-- What is answered to a program in C, and the status that tells it how that ended.
use Rattle.std.specs.Prelude.{◌≡◌, ◌⊎◌, ⊤, ℕ, ℤ, pos, negsuc, Bool, false, List, [], ◌∷◌, ◌++◌, Option, None, Some, Result, Ok, Err, codes, if◌then◌else◌}
use Rattle.tb_geom.specs.declared.refusal.Refusal.{Refusal}
use Rattle.tb_geom.specs.declared.refusal.Refusal.TheVariants.{NoMemory, ReadFault}
use Rattle.tb_geom.specs.Refusals.{number_of}
use Rattle.watched_io.specs.Reads.{Input}
use Rattle.watched_io.specs.Writes.{Output}
use Rattle.script_runner.specs.declared.command_line.OptionsError.TheVariants.{Memory}
use Rattle.standard_run.specs.declared.program.Stopped.{Stopped}
use Rattle.standard_run.specs.declared.program.Stopped.TheVariants.{Words, Run}
use Rattle.standard_run.specs.Program.{ProgramEnds}
use Rattle.desk_c.specs.declared.ends.NoFile.{NoFile}

-- the words of a command line with these flags
abbrev pub words_of : Bool → Bool → List (List ℕ)
words_of raw check = codes "desk" ∷ (if raw then codes "--raw" ∷ [] else []) ++ (if check then codes "--check" ∷ [] else [])

-- 0 where the run ended well, the number of what stopped it, and -1 where the flags exclude each other
abbrev pub status_of : {X : Type 0} → Result X Stopped → ℤ
status_of (Ok x) = pos 0
status_of (Err (Run e)) = pos (number_of e)
status_of (Err (Words (Memory e))) = pos (number_of NoMemory)
status_of (Err (Words e)) = negsuc 0

-- what tells that nothing was run: -1, or that there was no memory
abbrev pub IsRefusal : ℤ → Type 0
IsRefusal status = (status ≡ negsuc 0) ⊎ (status ≡ pos (number_of NoMemory))

-- no file is there to be opened
abbrev pub opens_none : List ℕ → Result NoFile Refusal → Type 0
opens_none path r = r ≡ Err ReadFault

-- what would be seen of one
abbrev pub file_input : NoFile → Input
file_input file = record { remaining = None; has_failed = file.has_failed; has_ended = false; reads = file.reads }

-- an input with these bytes, where they are known, of which nothing was read yet
abbrev pub unread : Option (List ℕ) → Input
unread bytes = record { remaining = bytes; has_failed = false; has_ended = false; reads = 0 }

-- the program ran with the words of these flags and without files, and ended with that status: from one state of its input
-- and of its output to another
pub record HasRun (raw check : Bool) (standard : Input) (old new : Output) (status : ℤ) : Type 0 where
  pub rest : Input
  pub outcome : Result ⊤ Stopped
  pub ends : ProgramEnds opens_none file_input standard rest old new (words_of raw check) outcome
  pub tells : status ≡ status_of outcome

-- so it ran over this script, and wrote these answers and nothing else
pub record HasAnswered (raw check : Bool) (script answers : List ℕ) (status : ℤ) : Type 0 where
  pub has_failed : Bool
  pub ran : HasRun raw check (unread (Some script)) (record { contents = Some []; has_failed = false }) (record { contents = Some answers; has_failed = has_failed }) status

-- or there was no memory to hold answers, and nothing was written
abbrev pub AreAnswers : Bool → Bool → List ℕ → List ℕ → ℤ → Type 0
AreAnswers raw check script answers status = HasAnswered raw check script answers status ⊎ ((answers ≡ []) × (status ≡ pos (number_of NoMemory)))

-- so it ran over what nothing is known of
pub record HasServed (raw check : Bool) (status : ℤ) : Type 0 where
  pub has_failed : Bool
  pub ran : HasRun raw check (unread None) (record { contents = None; has_failed = false }) (record { contents = None; has_failed = has_failed }) status
