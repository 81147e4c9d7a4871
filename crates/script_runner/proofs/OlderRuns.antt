-- In version 1 a script's lines do what they did before there were versions, and in version 2 what they did before version 3.
use Rattle.std.proofs.Common.{◌≡◌, inl, inr, ℕ, ℤ, pos, Bool, true, false, if◌then◌else◌, List, [], ◌∷◌, ◌++◌, Option, None, Some, Result, Ok, Err, refl, sym, ap, ◌∙◌, subst}
use Rattle.std.proofs.lemmas.Bool.{false≢true}
use Rattle.tb_geom.specs.declared.refusal.Refusal.{Refusal}
use Rattle.tb_geom.specs.declared.refusal.Refusal.TheVariants.{BadSyntax, NoSuchName}
use Rattle.def_iface.specs.Stocks.{AllSlots}
use Rattle.desk_call.specs.declared.call.Call.{Call as Asked}
use Rattle.desk_call.specs.declared.call.Call.TheVariants.{Window}
use Rattle.desk_call.specs.declared.window.NewWindow.{NewWindow}
use Rattle.desk_call.specs.declared.window.WindowCall.TheVariants.{NewFloating}
use Rattle.script_text.specs.declared.command.Command.{Command}
use Rattle.script_text.specs.declared.command.Command.TheVariants.{Version, Call}
use Rattle.script_text.specs.Lines.{said}
use Rattle.script_text.proofs.FirstVersion.{said_without_floating}
use Rattle.script_text.proofs.Versions.{line_had}
use Rattle.script_runner.specs.OlderVersions.{AnswersAs, WrittenAs, WrittenBefore, WrittenInVersion2, said_before, said_behind, says_version, begins_with_version, BeginsWith}
use Rattle.script_runner.specs.Script.{ScriptState, first_state, Takes, SaidAnswers, Written, names_later_kind, why_unread}
use Rattle.script_runner.specs.Session.{unmade, Obeys}

-- what a line says in version 1 is no floating window
no_floating : (line : List ℕ) (w : NewWindow) → said (pos 1) line ≡ Some (Ok (Call (Window (NewFloating w)))) → ⊥
no_floating line w h = false≢true (line_had (pos 1) line (Call (Window (NewFloating w))) h)

module _ (raw : Bool) where
  abbrev before : List ℕ → Option (Result Command Refusal)
  before line = said_before (said (pos 2) line)

  -- a line was answered as before, and leaves a script of version 1; `follows` says whether a version is said first in what
  -- follows
  record IsAsBefore (old : ScriptState) (before_said : Option (Result Command Refusal)) (follows : Bool) (text : List ℕ) (new : ScriptState) : Type 0 where
    answered : AnswersAs raw old.session before_said text new.session
    version : new.version ≡ pos 1
    first : new.is_begun ≡ false → follows ≡ false

  -- once a line was answered, no version is the first
  later : (new : ScriptState) (follows : Bool) → new.is_begun ≡ true → new.is_begun ≡ false → follows ≡ false
  later new follows begins not = absurd (false≢true (sym not ∙ begins))

  -- a version that is not the first is refused
  version_before : (old : ScriptState) (number : ℤ) (begins follows : Bool) (text : List ℕ) (new : ScriptState) → old.version ≡ pos 1
      → (begins ≡ false → true ≡ false) → Takes raw (why_unread begins old.version (Version number)) old (Version number) text new
      → IsAsBefore old (Some (Err BadSyntax)) follows text new
  version_before old number true follows text new one first taken = record {
    answered = (taken.0, ap (λ s. s.session) taken.1);
    version = ap (λ s. s.version) taken.1 ∙ one;
    first = later new follows (ap (λ s. s.is_begun) taken.1);
  }
  version_before old number false follows text new one first taken = absurd (false≢true (sym (first refl)))

  -- a call that names a kind of version 3 is refused, and another is asked of the desk
  call_before : (old : ScriptState) (call : Asked) (follows : Bool) (text : List ℕ) (new : ScriptState) (later : Bool) → old.version ≡ pos 1
      → Takes raw (if later then Some NoSuchName else None) old (Call call) text new
      → IsAsBefore old (if later then Some (Err NoSuchName) else Some (Ok (Call call))) follows text new
  call_before old call follows text new true one taken = record {
    answered = (taken.0, ap (λ s. s.session) taken.1);
    version = ap (λ s. s.version) taken.1 ∙ one;
    first = later new follows (ap (λ s. s.is_begun) taken.1);
  }
  call_before old call follows text new false one (after, obeyed, is) = record {
    answered = subst (λ s. Obeys raw old.session (Call call) text s) (sym (ap (λ s. s.session) is)) obeyed;
    version = ap (λ s. s.version) is ∙ one;
    first = later new follows (ap (λ s. s.is_begun) is);
  }

  said_as_before : (old : ScriptState) (says : Option (Result Command Refusal)) (follows : Bool) (text : List ℕ) (new : ScriptState) → old.version ≡ pos 1
      → ((w : NewWindow) → says ≡ Some (Ok (Call (Window (NewFloating w)))) → ⊥)
      → (old.is_begun ≡ false → says_version says follows ≡ false) → SaidAnswers raw old says text new → IsAsBefore old (said_before says) follows text new
  said_as_before old None follows text new one no_float first answered = record {
    answered = (answered.0, ap (λ s. s.session) answered.1);
    version = ap (λ s. s.version) answered.1 ∙ one;
    first = λ not. first (sym (ap (λ s. s.is_begun) answered.1) ∙ not);
  }
  said_as_before old (Some (Err e)) follows text new one no_float first answered = record {
    answered = (answered.0, ap (λ s. s.session) answered.1);
    version = ap (λ s. s.version) answered.1 ∙ one;
    first = later new follows (ap (λ s. s.is_begun) answered.1);
  }
  said_as_before old (Some (Ok (Version number))) follows text new one no_float first taken = version_before old number old.is_begun follows text new one first taken
  said_as_before old (Some (Ok (Call (Window (NewFloating w))))) follows text new one no_float first taken = absurd (no_float w refl)
  said_as_before old (Some (Ok (Call call))) follows text new one no_float first taken =
      call_before old call follows text new (names_later_kind call) one (subst (λ v. Takes raw (why_unread old.is_begun v (Call call)) old (Call call) text new) one taken)
  said_as_before old (Some (Ok command)) follows text new one no_float first (after, obeyed, is) = record {
    answered = subst (λ s. Obeys raw old.session command text s) (sym (ap (λ s. s.session) is)) obeyed;
    version = ap (λ s. s.version) is ∙ one;
    first = later new follows (ap (λ s. s.is_begun) is);
  }

  all_as_before : (old : ScriptState) (lines : List (List ℕ)) (text : List ℕ) (new : ScriptState) → old.version ≡ pos 1
      → (old.is_begun ≡ false → begins_with_version lines ≡ false) → Written raw old lines text new → WrittenAs raw before old.session lines text new.session
  all_as_before old [] text new one first written = (written.0, ap (λ s. s.session) written.1)
  all_as_before old (line ∷ lines) text new one first (middle, front, others, answered, rest, whole) =
      let read = subst (λ v. SaidAnswers raw old (said v line) front middle) one answered in
      let step = said_as_before old (said (pos 1) line) (begins_with_version lines) front middle one (no_floating line) first read in
      let same = said_without_floating said_before (λ w. refl) line in (
        middle.session,
        front,
        others,
        subst (λ s. AnswersAs raw old.session s front middle.session) same step.answered,
        all_as_before middle lines others new step.version step.first rest,
        whole,
      )

  -- ---- behind a line that says a version

  abbrev said_in_2 : List ℕ → Option (Result Command Refusal)
  said_in_2 line = said_behind (said (pos 2) line)

  -- a line was answered as one that says no version, and leaves the version of the script
  record IsBehind (old : ScriptState) (behind_said : Option (Result Command Refusal)) (text : List ℕ) (new : ScriptState) : Type 0 where
    answered : AnswersAs raw old.session behind_said text new.session
    same : new.version ≡ pos 2
    begins : new.is_begun ≡ true

  version_behind : (old : ScriptState) (number : ℤ) (begins : Bool) (text : List ℕ) (new : ScriptState) → old.version ≡ pos 2 → begins ≡ true
      → Takes raw (why_unread begins old.version (Version number)) old (Version number) text new → IsBehind old (Some (Err BadSyntax)) text new
  version_behind old number true text new is begun taken = record {
    answered = (taken.0, ap (λ s. s.session) taken.1);
    same = ap (λ s. s.version) taken.1 ∙ is;
    begins = ap (λ s. s.is_begun) taken.1;
  }
  version_behind old number false text new is begun taken = absurd (false≢true begun)

  call_behind : (old : ScriptState) (call : Asked) (text : List ℕ) (new : ScriptState) (later : Bool) → old.version ≡ pos 2
      → Takes raw (if later then Some NoSuchName else None) old (Call call) text new → IsBehind old (if later then Some (Err NoSuchName) else Some (Ok (Call call))) text new
  call_behind old call text new true is taken = record {
    answered = (taken.0, ap (λ s. s.session) taken.1);
    same = ap (λ s. s.version) taken.1 ∙ is;
    begins = ap (λ s. s.is_begun) taken.1;
  }
  call_behind old call text new false is (after, obeyed, leaves) = record {
    answered = subst (λ s. Obeys raw old.session (Call call) text s) (sym (ap (λ s. s.session) leaves)) obeyed;
    same = ap (λ s. s.version) leaves ∙ is;
    begins = ap (λ s. s.is_begun) leaves;
  }

  said_as_behind : (old : ScriptState) (says : Option (Result Command Refusal)) (text : List ℕ) (new : ScriptState) → old.version ≡ pos 2 → old.is_begun ≡ true
      → SaidAnswers raw old says text new → IsBehind old (said_behind says) text new
  said_as_behind old None text new is begun answered = record {
    answered = (answered.0, ap (λ s. s.session) answered.1);
    same = ap (λ s. s.version) answered.1 ∙ is;
    begins = ap (λ s. s.is_begun) answered.1 ∙ begun;
  }
  said_as_behind old (Some (Err e)) text new is begun answered = record {
    answered = (answered.0, ap (λ s. s.session) answered.1);
    same = ap (λ s. s.version) answered.1 ∙ is;
    begins = ap (λ s. s.is_begun) answered.1;
  }
  said_as_behind old (Some (Ok (Version number))) text new is begun taken = version_behind old number old.is_begun text new is begun taken
  said_as_behind old (Some (Ok (Call call))) text new is begun taken =
      call_behind old call text new (names_later_kind call) is (subst (λ v. Takes raw (why_unread old.is_begun v (Call call)) old (Call call) text new) is taken)
  said_as_behind old (Some (Ok command)) text new is begun (after, obeyed, leaves) = record {
    answered = subst (λ s. Obeys raw old.session command text s) (sym (ap (λ s. s.session) leaves)) obeyed;
    same = ap (λ s. s.version) leaves ∙ is;
    begins = ap (λ s. s.is_begun) leaves;
  }

  all_behind : (old : ScriptState) (lines : List (List ℕ)) (text : List ℕ) (new : ScriptState) → old.version ≡ pos 2 → old.is_begun ≡ true
      → Written raw old lines text new → WrittenAs raw said_in_2 old.session lines text new.session
  all_behind old [] text new is begun written = (written.0, ap (λ s. s.session) written.1)
  all_behind old (line ∷ lines) text new is begun (middle, front, others, answered, rest, whole) =
      let read = subst (λ v. SaidAnswers raw old (said v line) front middle) is answered in
      let step = said_as_behind old (said (pos 2) line) front middle is begun read in
      (middle.session, front, others, step.answered, all_behind middle lines others new step.same step.begins rest, whole)

  -- nothing was answered yet, and the first line that is says version 2
  since_version_2 : (old : ScriptState) (lines behind_it : List (List ℕ)) (text : List ℕ) (new : ScriptState) → old.version ≡ pos 1 → old.is_begun ≡ false
      → BeginsWith (pos 2) lines behind_it → Written raw old lines text new → WrittenInVersion2 raw old.session behind_it text new.session
  since_version_2 old [] behind_it text new one not begins written = absurd begins
  since_version_2 old (line ∷ lines) behind_it text new one not (inl says) (middle, front, others, answered, rest, whole) =
      let read = subst (λ s. SaidAnswers raw old s front middle) says.0 (subst (λ v. SaidAnswers raw old (said v line) front middle) one answered) in
      let taken = subst (λ b. Takes raw (why_unread b old.version (Version (pos 2))) old (Version (pos 2)) front middle) not read in
      let written = all_behind middle lines others new (ap (λ s. s.version) taken.1) (ap (λ s. s.is_begun) taken.1) rest in
      let from_old = subst (λ s. WrittenAs raw said_in_2 s lines others new.session) (ap (λ s. s.session) taken.1) written in
      (others, subst (λ ls. WrittenAs raw said_in_2 old.session ls others new.session) (sym says.1) from_old, whole ∙ ap (λ t. t ++ others) taken.0)
  since_version_2 old (line ∷ lines) behind_it text new one not (inr none) (middle, front, others, answered, rest, whole) =
      let read = subst (λ s. SaidAnswers raw old s front middle) none.0 (subst (λ v. SaidAnswers raw old (said v line) front middle) one answered) in
      let written = since_version_2 old lines behind_it others new one not none.1 (subst (λ s. Written raw s lines others new) read.1 rest) in
      (written.0, written.1, whole ∙ ap (λ t. t ++ others) read.0 ∙ written.2)

pub written_as_before : (raw : Bool) (font : List ℕ) (stocks : AllSlots) (lines : List (List ℕ)) (text : List ℕ) (state : ScriptState) → begins_with_version lines ≡ false
    → Written raw (first_state font stocks) lines text state → WrittenBefore raw (unmade font stocks) lines text state.session
written_as_before raw font stocks lines text state first written = all_as_before raw (first_state font stocks) lines text state refl (λ not. first) written

pub written_in_version_2 : (raw : Bool) (font : List ℕ) (stocks : AllSlots) (lines behind : List (List ℕ)) (text : List ℕ) (state : ScriptState) → BeginsWith (pos 2) lines behind
    → Written raw (first_state font stocks) lines text state → WrittenInVersion2 raw (unmade font stocks) behind text state.session
written_in_version_2 raw font stocks lines behind text state begins written = since_version_2 raw (first_state font stocks) lines behind text state refl refl begins written
