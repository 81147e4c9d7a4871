-- The command line: what its words choose, and when they are refused.
use Rattle.std.specs.Prelude.{◌≡◌, ⊤, Bool, true, false, List, [], Option, None, Some, codes, option_map}
use Rattle.clap.specs.Words.{App, Rule, Text, Kinds, IsAmong, new_app, new_rule, with_rule, first_of, one_of, matches_of, fault_of, kind_of}
use Rattle.clap.specs.declared.builder.action.ArgAction.TheVariants.{Set, SetTrue}
use Rattle.script_runner.specs.declared.command_line.Choices.{Choices}
use Rattle.script_runner.specs.declared.command_line.OptionsError.{OptionsError}
use Rattle.script_runner.specs.declared.command_line.OptionsError.TheVariants.{Words, Excluded, Memory}

-- a word that stands by itself
abbrev pub word_rule : Text → Rule
word_rule name = record (new_rule name) { action = Some Set }

-- an option of this long word, which takes no value
abbrev pub flag_rule : Text → Rule
flag_rule word = record (new_rule word) { long = Some word; action = Some SetTrue }

-- an option of this long word, which takes a value
abbrev pub option_rule : Text → Text → Rule
option_rule word value = record (new_rule value) { long = Some word; action = Some Set }

-- desk [--raw] [--check] [--font FILE] [SCRIPT]
abbrev pub desk_app : App
desk_app =
    with_rule (with_rule (with_rule (with_rule (new_app (codes "desk")) (word_rule (codes "SCRIPT"))) (flag_rule (codes "raw"))) (flag_rule (codes "check")))
    (option_rule (codes "font") (codes "FILE"))

-- the file that the words name by this word of the command line; the first of the words is the program's name
abbrev pub named_in : Text → List Text → Option Text
named_in value words = first_of value (matches_of desk_app words)

-- what the words say of the flag of this word, as clap writes it: `true`, `false`, or nothing
abbrev pub flag_in : Text → List Text → Option Text
flag_in word words = one_of word (matches_of desk_app words)

-- whether a flag is there, by that
abbrev pub IsFlagText : Option Text → Bool → Type 0
IsFlagText text flag = (text ≡ Some (codes "true") → flag ≡ true) × (text ≡ Some (codes "false") → flag ≡ false) × (text ≡ None → flag ≡ false)

-- what is wrong with the words; nothing where the program takes them
abbrev pub faults_in : List Text → Kinds
faults_in words = fault_of desk_app words

-- these choices are what the words say
pub record IsChosen (words : List Text) (choices : Choices) : Type 0 where
  pub script : option_map (λ s. s.now) choices.script ≡ named_in (codes "SCRIPT") words
  pub font : option_map (λ s. s.now) choices.font ≡ named_in (codes "FILE") words
  pub raw : IsFlagText (flag_in (codes "raw") words) choices.raw
  pub check : IsFlagText (flag_in (codes "check") words) choices.check

-- both flags are there, which exclude each other
pub record AreBothThere (words : List Text) : Type 0 where
  pub taken : faults_in words ≡ []
  pub raw : IsFlagText (flag_in (codes "raw") words) true
  pub check : IsFlagText (flag_in (codes "check") words) true

-- something is wrong with the words, and it is among what the error says; or nothing is but that two flags exclude each other; or
-- there was no memory
abbrev pub AreWordsRefused : List Text → OptionsError → Type 0
AreWordsRefused words (Words e) = IsAmong (kind_of e) (faults_in words)
AreWordsRefused words Excluded = AreBothThere words
AreWordsRefused words (Memory e) = ⊤
