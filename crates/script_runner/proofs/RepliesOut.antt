-- Each reply goes out before the next read.
use Rattle.std.proofs.Common.{◌≡◌, Bool, true, false, Result, Ok, Err, sym, ◌∙◌, subst}
use Rattle.tb_geom.specs.declared.refusal.Refusal.{Refusal}
use Rattle.tb_geom.specs.declared.refusal.Refusal.TheVariants.{NoMemory, ReadFault, WriteFault}
use Rattle.watched_io.specs.Reads.{Input}
use Rattle.watched_io.specs.Writes.{Output}
use Rattle.script_runner.specs.Checks.{IsFollowed}
use Rattle.script_runner.specs.Runs.{CheckedEnds, IsStoppedByRead, ScriptEnds}
use Rattle.script_runner.specs.Script.{ScriptState}

quiet_and_failed : (rest : Input) → rest.has_failed ≡ false → rest.has_failed ≡ true → ⊥
quiet_and_failed rest quiet failed = let both : false ≡ true = sym quiet ∙ failed in absurd (cc)

module _ (raw : Bool) (first : ScriptState) (input rest : Input) (old new : Output) (state : ScriptState) {X : Type 0} where
  by_script : (check : Bool) (script r : Result X Refusal) (between : Output) → rest.has_failed ≡ true
      → ScriptEnds raw first input rest old between state script → IsFollowed check script state.session between new r
      → IsStoppedByRead raw first input rest old new state
  by_script check (Ok x) r between failed done followed = absurd (quiet_and_failed rest done.quiet failed)
  by_script false (Err ReadFault) r between failed stopped followed = subst (λ (o : Output). IsStoppedByRead raw first input rest old o state) (sym followed.0) stopped
  by_script true (Err ReadFault) r between failed stopped followed = subst (λ (o : Output). IsStoppedByRead raw first input rest old o state) (sym followed.0) stopped
  by_script check (Err WriteFault) r between failed stopped followed = absurd (quiet_and_failed rest stopped.quiet failed)
  by_script check (Err NoMemory) r between failed stopped followed = absurd (quiet_and_failed rest stopped.quiet failed)
  by_script check (Err _) r between failed stopped followed = absurd stopped

  -- a run one of whose reads failed had answered each line that a newline had ended by then, and all of the answers had gone out
  pub replies_are_out : (check : Bool) (r : Result X Refusal) → CheckedEnds raw check first input rest old new state r → rest.has_failed ≡ true
      → IsStoppedByRead raw first input rest old new state
  replies_are_out check r ends failed = by_script check ends.script r ends.between failed ends.ends ends.followed
