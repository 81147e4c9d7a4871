-- What a run of a script has read and written when it ends, and what it leaves of the stock.
use Rattle.std.specs.Prelude.{◌≡◌, ◌⊎◌, ℕ, Bool, true, false, List, [], ◌∷◌, ◌++◌, Option, Some, Result, Ok, Err}
use Rattle.std.specs.Io.KnownBytes.{Consumes}
use Rattle.tb_geom.specs.declared.refusal.Refusal.{Refusal}
use Rattle.tb_geom.specs.declared.refusal.Refusal.TheVariants.{NoMemory, ReadFault, WriteFault}
use Rattle.def_iface.specs.Stocks.{AllSlots}
use Rattle.script_text.specs.declared.command.Command.{Command}
use Rattle.script_text.specs.Lines.{said, whole_lines, lines_of}
use Rattle.watched_io.specs.Reads.{Input, IsEntire, IsCutOff}
use Rattle.script_runner.specs.Checks.{IsFollowed}
use Rattle.script_runner.specs.Fonts.{IsFontOf, why_fontless}
use Rattle.script_runner.specs.Script.{ScriptState, first_state, begun, makes_desk_of, Written}
use Rattle.script_runner.specs.Session.{LeavesStock}
use Rattle.watched_io.specs.Writes.{Output, Sent, BrokeOff}

-- the lines that a run came to in what it read, of which it took `seen` and no byte of `ahead`: those that a newline had
-- ended, or, at the end of the input, all lines of it
abbrev pub AreTaken : Input → Input → List ℕ → List ℕ → List (List ℕ) → Type 0
AreTaken input rest seen ahead lines = (lines ≡ whole_lines seen) ⊎ (IsEntire input rest seen × (ahead ≡ []) × (lines ≡ lines_of seen))

-- how a script ends that begins in the first state, and leaves the other: from one state of reader and writer to another.
-- `raw` says whether the run is raw
module _ (raw : Bool) (first : ScriptState) (input rest : Input) (old new : Output) (state : ScriptState) where
  -- the whole script was read, and each of its lines answered; no read and no write failed
  pub record IsDone : Type 0 where
    pub script : List ℕ
    pub text : List ℕ
    pub entire : IsEntire input rest script
    pub quiet : rest.has_failed ≡ false
    pub answered : Written raw first (lines_of script) text state
    pub sent : Sent old new text

  -- a read failed, or there were as many as there may be and none came to the end; each line that was ended before is
  -- answered
  pub record IsStoppedByRead : Type 0 where
    pub seen : List ℕ
    pub text : List ℕ
    pub read : Consumes input.remaining rest.remaining seen
    pub answered : Written raw first (whole_lines seen) text state
    pub sent : Sent old new text
    pub why : IsCutOff rest

  -- a write failed: a front of the answers to the lines so far went out
  pub record IsStoppedByWrite : Type 0 where
    pub seen : List ℕ
    pub ahead : List ℕ
    pub lines : List (List ℕ)
    pub text : List ℕ
    pub read : Consumes input.remaining rest.remaining (seen ++ ahead)
    pub quiet : rest.has_failed ≡ false
    pub taken : AreTaken input rest seen ahead lines
    pub answered : Written raw first lines text state
    pub broken : BrokeOff old new text

  -- there was no memory for the desk that a line was to make; the lines before it are answered, and left the middle state
  pub record IsDeskless : Type 0 where
    pub seen : List ℕ
    pub ahead : List ℕ
    pub before : List (List ℕ)
    pub line : List ℕ
    pub command : Command
    pub text : List ℕ
    pub middle : ScriptState
    pub read : Consumes input.remaining rest.remaining (seen ++ ahead)
    pub quiet : rest.has_failed ≡ false
    pub taken : AreTaken input rest seen ahead (before ++ line ∷ [])
    pub says : said middle.version line ≡ Some (Ok command)
    pub makes : makes_desk_of middle command ≡ true
    pub same : state ≡ begun middle
    pub answered : Written raw first before text middle
    pub sent : Sent old new text

  -- what stopped the script
  abbrev pub Stops : Refusal → Type 0
  Stops ReadFault = IsStoppedByRead
  Stops WriteFault = IsStoppedByWrite
  Stops NoMemory = IsDeskless
  Stops _ = ⊥

  abbrev pub ScriptEnds : {X : Type 0} → Result X Refusal → Type 0
  ScriptEnds (Ok x) = IsDone
  ScriptEnds (Err e) = Stops e

-- a script ends so, and then comes the line of its check, where one is asked for
pub record CheckedEnds (raw check : Bool) (first : ScriptState) (input rest : Input) (old new : Output) (state : ScriptState) {X : Type 0} (r : Result X Refusal) : Type 0 where
  pub between : Output
  pub script : Result X Refusal
  pub ends : ScriptEnds raw first input rest old between state script
  pub followed : IsFollowed check script state.session between new r

-- `asked` are the bytes of the font that a run is asked to draw texts in, if it is; `raw` says whether it is raw, and `check`
-- whether it is to be checked at its end. It is a run from a stock with these slots, and leaves those
module _ (asked : Option (List ℕ)) (raw check : Bool) (stocks left : AllSlots) (input rest : Input) (old new : Output) where
  -- with that font the script ran, from no desk to its end, and was checked
  pub record HasRun {X : Type 0} (r : Result X Refusal) : Type 0 where
    pub font : List ℕ
    pub is_font : IsFontOf asked font
    pub state : ScriptState
    pub ends : CheckedEnds raw check (first_state font stocks) input rest old new state r
    pub closed : LeavesStock state.session left

  -- there was no font: nothing was read, written or taken out of the stock
  pub record IsFontless (e : Refusal) : Type 0 where
    pub why : e ≡ why_fontless asked
    pub unread : rest ≡ input
    pub silent : new ≡ old
    pub same : left ≡ stocks

  abbrev pub RunEnds : {X : Type 0} → Result X Refusal → Type 0
  RunEnds {X} (Ok x) = HasRun {X = X} (Ok x)
  RunEnds {X} (Err e) = HasRun {X = X} (Err e) ⊎ IsFontless e
