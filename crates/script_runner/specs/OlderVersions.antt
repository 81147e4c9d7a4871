-- What scripts of version 1 wrote before there were versions, and those of version 2 before there was version 3.
use Rattle.std.specs.Prelude.{◌≡◌, ◌⊎◌, ℕ, ℤ, pos, Bool, true, false, if◌then◌else◌, List, [], ◌∷◌, ◌++◌, Option, None, Some, Result, Ok, Err}
use Rattle.tb_geom.specs.declared.refusal.Refusal.{Refusal}
use Rattle.tb_geom.specs.declared.refusal.Refusal.TheVariants.{BadSyntax, NoSuchName}
use Rattle.desk_call.specs.declared.call.Call.{Call as Asked}
use Rattle.desk_call.specs.declared.call.Call.TheVariants.{Window}
use Rattle.desk_call.specs.declared.window.WindowCall.TheVariants.{NewFloating}
use Rattle.script_text.specs.declared.command.Command.{Command}
use Rattle.script_text.specs.declared.command.Command.TheVariants.{Version, Call}
use Rattle.script_text.specs.Lines.{said}
use Rattle.script_text.specs.Replies.{refused_text}
use Rattle.line_words.specs.Replies.{done_text}
use Rattle.script_runner.specs.Script.{names_later_kind}
use Rattle.script_runner.specs.Session.{SessionState, Obeys, reply_shown}

-- what a call said before there was version 3: then there were no windows and buttons with rounded corners
abbrev pub called_before : Asked → Option (Result Command Refusal)
called_before call = if names_later_kind call then Some (Err NoSuchName) else Some (Ok (Call call))

-- what a line said before there were versions, by what it says in version 2: then there was no `version` and no `float` either
abbrev pub said_before : Option (Result Command Refusal) → Option (Result Command Refusal)
said_before (Some (Ok (Version number))) = Some (Err BadSyntax)
said_before (Some (Ok (Call (Window (NewFloating w))))) = Some (Err BadSyntax)
said_before (Some (Ok (Call call))) = called_before call
said_before says = says

-- what a line of version 2 said before there was version 3, behind the first that is answered, where a version stands too late
abbrev pub said_behind : Option (Result Command Refusal) → Option (Result Command Refusal)
said_behind (Some (Ok (Version number))) = Some (Err BadSyntax)
said_behind (Some (Ok (Call call))) = called_before call
said_behind says = says

-- whether a version is said, or else by what follows, where nothing is said
abbrev pub says_version : Option (Result Command Refusal) → Bool → Bool
says_version None follows = follows
says_version (Some (Ok (Version number))) follows = true
says_version (Some _) follows = false

-- whether the first line that says something says a version
abbrev pub begins_with_version : List (List ℕ) → Bool
begins_with_version [] = false
begins_with_version (line ∷ lines) = says_version (said (pos 1) line) (begins_with_version lines)

-- the first line that says something says this version, and those are the lines behind it
abbrev pub BeginsWith : ℤ → List (List ℕ) → List (List ℕ) → Type 0
BeginsWith version [] behind = ⊥
BeginsWith version (line ∷ lines) behind =
    ((said (pos 1) line ≡ Some (Ok (Version version))) × (behind ≡ lines)) ⊎ ((said (pos 1) line ≡ None) × BeginsWith version lines behind)

-- `raw` says whether a run is raw
module _ (raw : Bool) where
  -- what a line says may be answered so, and leave this desk
  abbrev pub AnswersAs : SessionState → Option (Result Command Refusal) → List ℕ → SessionState → Type 0
  AnswersAs old None text new = (text ≡ []) × (new ≡ old)
  AnswersAs old (Some (Err e)) text new = (text ≡ reply_shown raw (refused_text e)) × (new ≡ old)
  AnswersAs old (Some (Ok command)) text new = Obeys raw old command text new

  -- the lines, one after another, may be answered by this text, and leave this desk, where `says` is what each says
  abbrev pub WrittenAs : (List ℕ → Option (Result Command Refusal)) → SessionState → List (List ℕ) → List ℕ → SessionState → Type 0
  WrittenAs says old [] text new = (text ≡ []) × (new ≡ old)
  WrittenAs says old (line ∷ lines) text new = (middle : SessionState) × (first : List ℕ) × (others : List ℕ)
      × AnswersAs old (says line) first middle × WrittenAs says middle lines others new × (text ≡ first ++ others)

  -- likewise before there were versions
  abbrev pub WrittenBefore : SessionState → List (List ℕ) → List ℕ → SessionState → Type 0
  WrittenBefore old lines text new = WrittenAs (λ line. said_before (said (pos 2) line)) old lines text new

  -- and behind a line that says version 2 and is answered by `ok`, before there was version 3
  abbrev pub WrittenInVersion2 : SessionState → List (List ℕ) → List ℕ → SessionState → Type 0
  WrittenInVersion2 old lines text new =
      (others : List ℕ) × WrittenAs (λ line. said_behind (said (pos 2) line)) old lines others new × (text ≡ reply_shown raw done_text ++ others)
