-- What every call leaves as it is, a whole script leaves so: the stocks have the same slots, for the same kinds, whatever its
-- lines do.
use Rattle.std.proofs.Common.{◌≡◌, ℕ, Bool, List, Result, Ok, Err, ap, ◌∙◌}
use Rattle.tb_geom.specs.declared.refusal.Refusal.{Refusal}
use Rattle.tb_geom.specs.declared.refusal.Refusal.TheVariants.{NoMemory, ReadFault, WriteFault}
use Rattle.def_iface.specs.Stocks.{AllSlots}
use Rattle.desk_call.specs.declared.call.Call.{Call as Asked}
use Rattle.desk_call.specs.declared.call.Reply.{Reply}
use Rattle.desk_toolbox.specs.Run.{IsStep}
use Rattle.desk_toolbox.specs.ToolboxStates.{ToolboxState}
use Rattle.desk_toolbox.proofs.Runs.{step_keeps_kinds}
use Rattle.script_text.specs.declared.command.DeskSize.{DeskSize}
use Rattle.watched_io.specs.Reads.{Input}
use Rattle.script_runner.specs.Kinds.{AllKinds, kinds_of}
use Rattle.script_runner.specs.Runs.{CheckedEnds, ScriptEnds}
use Rattle.script_runner.specs.Script.{ScriptState, first_state, Written}
use Rattle.script_runner.specs.Session.{SessionState, unmade, made, IsNewDesk, LeavesStock}
use Rattle.watched_io.specs.Writes.{Output}
use Rattle.desk_toolbox.proofs.MenuKinds.{step_keeps_menu_kinds}
use Rattle.desk_toolbox.proofs.ControlKinds.{step_keeps_control_kinds}
use Rattle.desk_toolbox.proofs.ListKinds.{step_keeps_list_kinds}
use Rattle.script_runner.proofs.KeptSessions.{written_keeps}

-- the kinds that the slots of a desk's stocks are for
abbrev desk_kinds : ToolboxState → AllKinds
desk_kinds s = kinds_of (record { windows = s.desk.windows.desk.stock; menus = s.menus.stock; controls = s.controls.stock; lists = s.lists.stock })

-- and of a session's
abbrev session_kinds : SessionState → AllKinds
session_kinds (unmade font stocks) = kinds_of stocks
session_kinds (made s) = desk_kinds s

-- the slots of a session are for these kinds
abbrev HasKinds : AllKinds → SessionState → Type 0
HasKinds kinds s = session_kinds s ≡ kinds

module _ (kinds : AllKinds) where
  step_keeps : (call : Asked) (answer : Result Reply Refusal) (before after : ToolboxState) → IsStep call answer before after → desk_kinds before ≡ kinds → desk_kinds after ≡ kinds
  step_keeps call answer before after step has = (λ i. record {
    windows = step_keeps_kinds call answer before after step i;
    menus = step_keeps_menu_kinds call answer before after step i;
    controls = step_keeps_control_kinds call answer before after step i;
    lists = step_keeps_list_kinds call answer before after step i;
  }) ∙ has

  fresh_keeps : (size : DeskSize) (font : List ℕ) (stocks : AllSlots) (s : ToolboxState) → IsNewDesk size font stocks s → kinds_of stocks ≡ kinds → desk_kinds s ≡ kinds
  fresh_keeps size font stocks s fresh has =
      (λ i. kinds_of (record { windows = (fresh.desk i).stock; menus = (fresh.menus i).stock; controls = (fresh.controls i).stock; lists = (fresh.lists i).stock })) ∙ has

  lines_keep : (raw : Bool) (old : ScriptState) (lines : List (List ℕ)) (text : List ℕ) (new : ScriptState) → Written raw old lines text new
      → session_kinds old.session ≡ kinds → session_kinds new.session ≡ kinds
  lines_keep raw old lines text new written has = written_keeps (HasKinds kinds) step_keeps fresh_keeps raw old lines text new written has

  -- a script, however it ended
  ends_keeping : {X : Type 0} (raw : Bool) (first : ScriptState) (input rest : Input) (old new : Output) (state : ScriptState) (r : Result X Refusal)
      → ScriptEnds raw first input rest old new state r → session_kinds first.session ≡ kinds → session_kinds state.session ≡ kinds
  ends_keeping raw first input rest old new state (Ok x) done has = lines_keep raw first _ _ state done.answered has
  ends_keeping raw first input rest old new state (Err ReadFault) stopped has = lines_keep raw first _ _ state stopped.answered has
  ends_keeping raw first input rest old new state (Err WriteFault) stopped has = lines_keep raw first _ _ state stopped.answered has
  ends_keeping raw first input rest old new state (Err NoMemory) stopped has =
      ap (λ s. session_kinds s.session) stopped.same ∙ lines_keep raw first _ _ stopped.middle stopped.answered has
  ends_keeping raw first input rest old new state (Err _) stopped has = absurd stopped

-- at the end
left_kinds : (s : SessionState) (left : AllSlots) → LeavesStock s left → kinds_of left ≡ session_kinds s
left_kinds (unmade font stocks) left same = ap kinds_of same
left_kinds (made s) left (windows, (menus, (controls, lists))) = λ i. record { windows = windows.ended.kinds i; menus = menus.ended.kinds i; controls = controls.ended.kinds i; lists = lists.ended.kinds i }

-- at the end of a script, whether a check follows or not
pub kinds_stay : {X : Type 0} (raw check : Bool) (first : ScriptState) (input rest : Input) (old new : Output) (state : ScriptState) (font : List ℕ) (stocks left : AllSlots) (r : Result X Refusal)
    → first ≡ first_state font stocks → CheckedEnds raw check first input rest old new state r → LeavesStock state.session left → kinds_of left ≡ kinds_of stocks
kinds_stay raw check first input rest old new state font stocks left r is checked closed =
    left_kinds state.session left closed ∙ ends_keeping (kinds_of stocks) raw first input rest old checked.between state checked.script checked.ends (ap (λ s. session_kinds s.session) is)
