-- What each step of a desk keeps, and a new desk has of its stocks, a whole script keeps.
use Rattle.std.proofs.Common.{Bool, ℕ, List, [], ◌∷◌, Option, None, Some, Result, Ok, Err, sym, subst}
use Rattle.tb_geom.specs.declared.refusal.Refusal.{Refusal}
use Rattle.def_iface.specs.Stocks.{AllSlots}
use Rattle.desk_call.specs.declared.call.Call.{Call as Asked}
use Rattle.desk_call.specs.declared.call.Reply.{Reply}
use Rattle.desk_toolbox.specs.Run.{IsStep}
use Rattle.desk_toolbox.specs.ToolboxStates.{ToolboxState}
use Rattle.script_text.specs.declared.command.Command.{Command}
use Rattle.script_text.specs.declared.command.Command.TheVariants.{Version, Desk, Image, Call}
use Rattle.script_text.specs.declared.command.DeskSize.{DeskSize}
use Rattle.script_text.specs.Lines.{said}
use Rattle.script_runner.specs.Script.{ScriptState, Takes, SaidAnswers, Written, why_unread}
use Rattle.script_runner.specs.Session.{SessionState, unmade, made, IsNewDesk, Answers, FirstAnswers, Opens, Obeys, first_size, why_unmade}

module _ (Holds : SessionState → Type 0)
    (step : (call : Asked) (answer : Result Reply Refusal) (before after : ToolboxState) → IsStep call answer before after → Holds (made before) → Holds (made after))
    (fresh : (size : DeskSize) (font : List ℕ) (stocks : AllSlots) (s : ToolboxState) → IsNewDesk size font stocks s → Holds (unmade font stocks) → Holds (made s))
    (raw : Bool) where
  answers_keep : (s : ToolboxState) (command : Command) (text : List ℕ) (after : ToolboxState) → Answers raw s command text after → Holds (made s) → Holds (made after)
  answers_keep s (Version number) text after answered holds = subst (λ t. Holds (made t)) (sym answered.1) holds
  answers_keep s (Desk size) text after answered holds = subst (λ t. Holds (made t)) (sym answered.1) holds
  answers_keep s Image text after answered holds = subst (λ t. Holds (made t)) (sym answered.1) holds
  answers_keep s (Call asked) text after answered holds = step asked answered.0 s after answered.1 holds

  first_keeps : (s : ToolboxState) (command : Command) (text : List ℕ) (after : ToolboxState) → FirstAnswers raw s command text after → Holds (made s) → Holds (made after)
  first_keeps s (Desk size) text after answered holds = subst (λ t. Holds (made t)) (sym answered.1) holds
  first_keeps s command text after answered holds = answers_keep s command text after answered holds

  opens_keeping : (why : Option Refusal) (font : List ℕ) (stocks : AllSlots) (command : Command) (text : List ℕ) (new : SessionState) → Opens raw why font stocks command text new
      → Holds (unmade font stocks) → Holds new
  opens_keeping (Some e) font stocks command text new opened holds = subst Holds (sym opened.1) holds
  opens_keeping None font stocks command text new (first, after, begun, answered, is) holds =
      subst Holds (sym is) (first_keeps first command text after answered (fresh (first_size command) font stocks first begun holds))

  obeys_keeping : (old : SessionState) (command : Command) (text : List ℕ) (new : SessionState) → Obeys raw old command text new → Holds old → Holds new
  obeys_keeping (unmade font stocks) command text new obeyed holds = opens_keeping (why_unmade command stocks) font stocks command text new obeyed holds
  obeys_keeping (made s) command text new (after, answered, is) holds = subst Holds (sym is) (answers_keep s command text after answered holds)

  -- likewise of a script's session
  abbrev pub HoldsOf : ScriptState → Type 0
  HoldsOf s = Holds s.session

  takes_keeping : (why : Option Refusal) (old : ScriptState) (command : Command) (text : List ℕ) (new : ScriptState) → Takes raw why old command text new → HoldsOf old → HoldsOf new
  takes_keeping (Some e) old command text new taken holds = subst HoldsOf (sym taken.1) holds
  takes_keeping None old (Version number) text new taken holds = subst HoldsOf (sym taken.1) holds
  takes_keeping None old command text new (after, obeyed, is) holds = subst HoldsOf (sym is) (obeys_keeping old.session command text after obeyed holds)

  said_keeps : (old : ScriptState) (line : Option (Result Command Refusal)) (text : List ℕ) (new : ScriptState) → SaidAnswers raw old line text new → HoldsOf old → HoldsOf new
  said_keeps old None text new answered holds = subst HoldsOf (sym answered.1) holds
  said_keeps old (Some (Err e)) text new answered holds = subst HoldsOf (sym answered.1) holds
  said_keeps old (Some (Ok command)) text new answered holds = takes_keeping (why_unread old.is_begun old.version command) old command text new answered holds

  pub written_keeps : (old : ScriptState) (lines : List (List ℕ)) (text : List ℕ) (new : ScriptState) → Written raw old lines text new → HoldsOf old → HoldsOf new
  written_keeps old [] text new written holds = subst HoldsOf (sym written.1) holds
  written_keeps old (line ∷ lines) text new (middle, first, others, one, rest, whole) holds =
      written_keeps middle lines others new rest (said_keeps old (said old.version line) first middle one holds)
