-- What the lines of a script do, and what they answer: some are about the script itself, and the others about its desk.
use Rattle.std.specs.Prelude.{◌≡◌, ℕ, ℤ, pos, int_le, int_lt, codes, is_none, Bool, true, false, ◌&&◌, List, [], ◌∷◌, ◌++◌, Option, None, Some, Result, Ok, Err, if◌then◌else◌}
use Rattle.tb_geom.specs.declared.refusal.Refusal.{Refusal}
use Rattle.tb_geom.specs.declared.refusal.Refusal.TheVariants.{BadSyntax, OutOfRange, NoSuchName}
use Rattle.std.specs.Str.{bytes_eq}
use Rattle.def_iface.specs.Stocks.{AllSlots}
use Rattle.desk_call.specs.declared.call.Call.{Call as Asked}
use Rattle.desk_call.specs.declared.call.Call.TheVariants.{Window, Control}
use Rattle.desk_call.specs.declared.control.ControlCall.TheVariants as controls
use Rattle.desk_call.specs.declared.window.WindowCall.TheVariants.{New, NewFloating}
use Rattle.script_text.specs.declared.command.Command.{Command}
use Rattle.script_text.specs.declared.command.Command.TheVariants.{Version, Call}
use Rattle.script_text.specs.Lines.{said}
use Rattle.script_text.specs.Replies.{refused_text}
use Rattle.line_words.specs.Replies.{done_text}
use Rattle.script_runner.specs.Session.{SessionState, unmade, Obeys, makes_desk, reply_shown}

-- a script at work: its desk, the version of its commands, and whether a line was answered
pub record ScriptState : Type 0 where
  pub session : SessionState
  pub version : ℤ
  pub is_begun : Bool

-- before its first line: without a desk, and of version 1
abbrev pub first_state : List ℕ → AllSlots → ScriptState
first_state font stocks = record { session = unmade font stocks; version = pos 1; is_begun = false }

-- once a line was answered
abbrev pub begun : ScriptState → ScriptState
begun s = record s { is_begun = true }

-- whether the commands have a version of this number
abbrev pub is_version : ℤ → Bool
is_version number = int_le (pos 1) number && int_le number (pos 3)

-- whether a call names a kind that version 3 brought: windows and buttons with rounded corners
abbrev pub names_later_kind : Asked → Bool
names_later_kind (Window (New w)) = bytes_eq w.kind (codes "round")
names_later_kind (Window (NewFloating w)) = bytes_eq w.kind (codes "round")
names_later_kind (Control (controls.New n)) = bytes_eq n.kind (codes "rbutton")
names_later_kind _ = false

-- why such a call is refused: an older version has not the kind
abbrev pub why_unnamed : ℤ → Option Refusal
why_unnamed version = if int_lt version (pos 3) then Some NoSuchName else None

-- why a command is refused whatever desk there is, in a script of this version in which a line was answered or not: a version
-- stands first, and there is one of its number; a kind is one that the version has
abbrev pub why_unread : Bool → ℤ → Command → Option Refusal
why_unread is_begun version (Version number) = if is_begun then Some BadSyntax else (if is_version number then None else Some OutOfRange)
why_unread is_begun version (Call call) = if names_later_kind call then why_unnamed version else None
why_unread is_begun version _ = None

-- whether the command is the one that makes the script's desk
abbrev pub makes_desk_of : ScriptState → Command → Bool
makes_desk_of s (Version number) = false
makes_desk_of s command = is_none (why_unread s.is_begun s.version command) && makes_desk s.session command

-- `raw` says whether a run is raw: whether it shows images alone
module _ (raw : Bool) where
  -- a command may be answered so, and leave this: refused whatever desk there is, or read
  abbrev pub Takes : Option Refusal → ScriptState → Command → List ℕ → ScriptState → Type 0
  Takes (Some e) old command text new = (text ≡ reply_shown raw (refused_text e)) × (new ≡ begun old)
  Takes None old (Version number) text new = (text ≡ reply_shown raw done_text) × (new ≡ record old { version = number; is_begun = true })
  Takes None old command text new = (after : SessionState) × Obeys raw old.session command text after
      × (new ≡ record old { session = after; is_begun = true })

  -- what a line says may be answered so, and leave this: a line that says nothing is not answered
  abbrev pub SaidAnswers : ScriptState → Option (Result Command Refusal) → List ℕ → ScriptState → Type 0
  SaidAnswers old None text new = (text ≡ []) × (new ≡ old)
  SaidAnswers old (Some (Err e)) text new = (text ≡ reply_shown raw (refused_text e)) × (new ≡ begun old)
  SaidAnswers old (Some (Ok command)) text new = Takes (why_unread old.is_begun old.version command) old command text new

  -- the lines, one after another, may be answered by this text, and leave this: each is read in the version that the script
  -- has by then
  abbrev pub Written : ScriptState → List (List ℕ) → List ℕ → ScriptState → Type 0
  Written old [] text new = (text ≡ []) × (new ≡ old)
  Written old (line ∷ lines) text new = (middle : ScriptState) × (first : List ℕ) × (others : List ℕ)
      × SaidAnswers old (said old.version line) first middle × Written middle lines others new × (text ≡ first ++ others)
