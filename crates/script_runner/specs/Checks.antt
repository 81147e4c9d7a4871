-- The line that ends a checked run.
use Rattle.std.specs.Prelude.{◌≡◌, ◌⊎◌, ℕ, Bool, true, false, List, ◌++◌, Option, None, Some, Result, Ok, Err, codes, decimal}
use Rattle.tb_geom.specs.declared.refusal.Refusal.{Refusal}
use Rattle.scratch_paint.specs.Differences.{difference_count}
use Rattle.watched_io.specs.Writes.{Output}
use Rattle.script_runner.specs.Session.{SessionState, unmade, made}
use Rattle.script_runner.specs.Writers.{SendsSome}

-- how many pixels differ, or that there was no memory to tell
abbrev pub check_text : Option ℕ → List ℕ
check_text (Some n) = codes "check " ++ (decimal n ++ codes "\n")
check_text None = codes "check NoMemory\n"

-- the line on a session: how many pixels of its screen in no update set differ from the desk painted from nothing, or
-- that there was no memory for painting; without a desk there is none that differs
abbrev pub IsCheckLine : SessionState → List ℕ → Type 0
IsCheckLine (unmade font stocks) text = text ≡ check_text (Some 0)
IsCheckLine (made s) text = (text ≡ check_text (Some (difference_count s))) ⊎ (text ≡ check_text None)

-- a script ended with `script` and left this session, with the writer at `between`: where a check is asked for and each
-- line was answered, its line is written, and nothing else
abbrev pub IsFollowed : {X : Type 0} → Bool → Result X Refusal → SessionState → Output → Output → Result X Refusal → Type 0
IsFollowed false script session between new r = (new ≡ between) × (r ≡ script)
IsFollowed true (Err e) session between new r = (new ≡ between) × (r ≡ Err e)
IsFollowed true (Ok x) session between new r = SendsSome (IsCheckLine session) between new r
