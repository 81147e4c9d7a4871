-- Whatever a script's lines do, its desk stays right.
use Rattle.std.proofs.Common.{◌≡◌, ◌⊎◌, inl, inr, ℕ, Bool, List, None, Some, Result, ap, ◌∙◌}
use Rattle.tb_geom.specs.declared.refusal.Refusal.{Refusal}
use Rattle.def_iface.specs.Stocks.{AllSlots}
use Rattle.desk_call.specs.declared.call.Call.{Call as Asked}
use Rattle.desk_call.specs.declared.call.Reply.{Reply}
use Rattle.desk_toolbox.specs.Run.{IsStep}
use Rattle.desk_toolbox.specs.ToolboxStates.{ToolboxState}
use Rattle.desk_toolbox.proofs.ContentsBeside.{IsRightToolbox}
use Rattle.desk_toolbox.proofs.Runs.{step_stays_right}
use Rattle.scratch_paint.proofs.DifferenceLemmas.{none_differs}
use Rattle.script_text.specs.declared.command.DeskSize.{DeskSize}
use Rattle.script_runner.specs.Checks.{IsCheckLine, check_text}
use Rattle.script_runner.specs.Script.{ScriptState, first_state, Written}
use Rattle.script_runner.specs.Session.{SessionState, unmade, made, IsNewDesk}
use Rattle.script_runner.proofs.KeptSessions.{written_keeps}

-- the session's desk, if it has one, is right
abbrev IsRightSession : SessionState → Type 0
IsRightSession (unmade font stocks) = Unit {0}
IsRightSession (made s) = IsRightToolbox s

step_right : (call : Asked) (answer : Result Reply Refusal) (before after : ToolboxState) → IsStep call answer before after → IsRightToolbox before → IsRightToolbox after
step_right call answer before after step right = step_stays_right call answer before after right step

fresh_right : (size : DeskSize) (font : List ℕ) (stocks : AllSlots) (s : ToolboxState) → IsNewDesk size font stocks s → Unit {0} → IsRightToolbox s
fresh_right size font stocks s fresh none = record { right = fresh.right; contents = fresh.contents }

found : (session : SessionState) (line : List ℕ) → IsRightSession session → IsCheckLine session line → (line ≡ check_text (Some 0)) ⊎ (line ≡ check_text None)
found (unmade font stocks) line right is = inl is
found (made s) line right (inl counted) = inl (counted ∙ ap (λ n. check_text (Some n)) (none_differs s right.right))
found (made s) line right (inr none) = inr none

pub no_pixel_found : (raw : Bool) (font : List ℕ) (stocks : AllSlots) (lines : List (List ℕ)) (text line : List ℕ) (state : ScriptState) → Written raw (first_state font stocks) lines text state
    → IsCheckLine state.session line → (line ≡ check_text (Some 0)) ⊎ (line ≡ check_text None)
no_pixel_found raw font stocks lines text line state written is = found state.session line (written_keeps IsRightSession step_right fresh_right raw (first_state font stocks) lines text state written tt) is
