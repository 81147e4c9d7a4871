-- How the calls end that answer a line. `raw` says whether the run is raw.
use Rattle.std.specs.Prelude.{◌≡◌, ◌⊎◌, Bool, true, Option, Some, Result, Ok, Err}
use Rattle.tb_geom.specs.declared.refusal.Refusal.{Refusal}
use Rattle.tb_geom.specs.declared.refusal.Refusal.TheVariants.{NoMemory}
use Rattle.desk_toolbox.specs.ToolboxStates.{ToolboxState}
use Rattle.script_text.specs.declared.command.Command.{Command}
use Rattle.script_runner.specs.Script.{ScriptState, Takes, SaidAnswers, begun, makes_desk_of, why_unread}
use Rattle.script_runner.specs.Session.{SessionState, Answers, FirstAnswers, Obeys, makes_desk}
use Rattle.script_runner.specs.Writers.{SendsSome}
use Rattle.watched_io.specs.Writes.{Output}

-- a command was answered on a desk, as far as writing went
abbrev pub IsAnswered : {X : Type 0} → Bool → ToolboxState → Command → ToolboxState → Output → Output → Result X Refusal → Type 0
IsAnswered raw s command after old new r = SendsSome (λ text. Answers raw s command text after) old new r

-- the command that made the desk was answered, as far as writing went
abbrev pub IsFirstAnswered : {X : Type 0} → Bool → ToolboxState → Command → ToolboxState → Output → Output → Result X Refusal → Type 0
IsFirstAnswered raw s command after old new r = SendsSome (λ text. FirstAnswers raw s command text after) old new r

-- there was no memory for the desk that the command was to make: nothing was done or written
pub record IsUnmade (session : SessionState) (command : Command) (after : SessionState) (old new : Output) (e : Refusal) : Type 0 where
  pub makes : makes_desk session command ≡ true
  pub same : after ≡ session
  pub silent : new ≡ old
  pub memory : e ≡ NoMemory

abbrev pub IsUnmadeAt : {X : Type 0} → SessionState → Command → SessionState → Output → Output → Result X Refusal → Type 0
IsUnmadeAt session command after old new (Ok x) = ⊥
IsUnmadeAt session command after old new (Err e) = IsUnmade session command after old new e

-- a command was answered, as far as writing went, or the desk could not be made for want of memory
abbrev pub CommandEnds : {X : Type 0} → Bool → SessionState → Command → SessionState → Output → Output → Result X Refusal → Type 0
CommandEnds raw session command after old new r =
    SendsSome (λ text. Obeys raw session command text after) old new r ⊎ IsUnmadeAt session command after old new r

-- a command of a script was answered, as far as writing went
abbrev pub IsTaken : {X : Type 0} → Bool → ScriptState → Command → ScriptState → Output → Output → Result X Refusal → Type 0
IsTaken raw old command new before after r =
    SendsSome (λ text. Takes raw (why_unread old.is_begun old.version command) old command text new) before after r

-- there was no memory for the desk that a command of a script was to make: it is taken, and nothing was done or written
pub record IsDenied (old : ScriptState) (command : Command) (new : ScriptState) (before after : Output) (e : Refusal) : Type 0 where
  pub makes : makes_desk_of old command ≡ true
  pub same : new ≡ begun old
  pub silent : after ≡ before
  pub memory : e ≡ NoMemory

abbrev pub IsDeniedAt : {X : Type 0} → ScriptState → Command → ScriptState → Output → Output → Result X Refusal → Type 0
IsDeniedAt old command new before after (Ok x) = ⊥
IsDeniedAt old command new before after (Err e) = IsDenied old command new before after e

-- a command of a script was answered, or the desk could not be made for want of memory
abbrev pub TakeEnds : {X : Type 0} → Bool → ScriptState → Command → ScriptState → Output → Output → Result X Refusal → Type 0
TakeEnds raw old command new before after r = IsTaken raw old command new before after r ⊎ IsDeniedAt old command new before after r

-- what a line says was answered so, or the desk that it asks for could not be made
abbrev pub LineEnds : {X : Type 0} → Bool → ScriptState → Option (Result Command Refusal) → ScriptState → Output → Output → Result X Refusal → Type 0
LineEnds raw old said new before after r =
    SendsSome (λ text. SaidAnswers raw old said text new) before after r
    ⊎ ((command : Command) × (said ≡ Some (Ok command)) × IsDeniedAt old command new before after r)
