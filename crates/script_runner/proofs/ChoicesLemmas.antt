-- From clap's matches to what the words choose.
use Rattle.std.proofs.Common.{◌≡◌, true, List, [], codes, option_map, refl, sym, ap, subst, ◌∙◌}
use Rattle.clap.specs.Words.{App, Text, HasMatchesOf, first_of, first_value, one_of, one_text, found_of, is_simple, is_simple_and_free, fault_of}
use Rattle.clap.specs.declared.parser.matches.ArgMatches.{ArgMatches}
use Rattle.clap.proofs.WalkLemmas.{first_value-rows, one_text-rows}
use Rattle.script_runner.specs.declared.command_line.Choices.{Choices}
use Rattle.script_runner.specs.Choices.{desk_app, faults_in, flag_in, IsChosen, IsFlagText, AreBothThere}

-- the program's command line is one of which clap gives the matches exactly
desk_is_simple : is_simple desk_app ≡ true
desk_is_simple = refl

-- no argument of it has a rule on another
desk_is_free : is_simple_and_free desk_app ≡ true
desk_is_free = refl

-- nothing is wrong with words that clap takes
pub taken_by_words : (app : App) (words : List Text) → app ≡ desk_app → (is_simple_and_free app ≡ true → fault_of app words ≡ []) → faults_in words ≡ []
taken_by_words app words is taken =
    let free : is_simple_and_free app ≡ true = subst (λ (a : App). is_simple_and_free a ≡ true) (sym is) desk_is_free in
    subst (λ (a : App). fault_of a words ≡ []) is (taken free)

-- what was read from the matches that the words have is what the words say
pub chosen_by_words : (app : App) (words : List Text) (m : ArgMatches) (choices : Choices) → app ≡ desk_app → HasMatchesOf app words m
    → option_map (λ s. s.now) choices.script ≡ first_value (found_of m) (codes "SCRIPT")
    → option_map (λ s. s.now) choices.font ≡ first_value (found_of m) (codes "FILE")
    → IsFlagText (one_text (found_of m) (codes "raw")) choices.raw
    → IsFlagText (one_text (found_of m) (codes "check")) choices.check → IsChosen words choices
chosen_by_words app words m choices is matches script font raw check =
    let exact : HasMatchesOf desk_app words m = subst (λ (a : App). HasMatchesOf a words m) is matches in
    record {
      script = script ∙ first_value-rows (found_of m) (codes "SCRIPT") ∙ ap (first_of (codes "SCRIPT")) (exact desk_is_simple).0;
      font = font ∙ first_value-rows (found_of m) (codes "FILE") ∙ ap (first_of (codes "FILE")) (exact desk_is_simple).0;
      raw = subst (λ t. IsFlagText t choices.raw) (one_text-rows (found_of m) (codes "raw") ∙ ap (one_of (codes "raw")) (exact desk_is_simple).0) raw;
      check = subst (λ t. IsFlagText t choices.check) (one_text-rows (found_of m) (codes "check") ∙ ap (one_of (codes "check")) (exact desk_is_simple).0) check;
    }

-- where both flags were chosen, both are there
pub both_there : (words : List Text) (choices : Choices) → IsChosen words choices → faults_in words ≡ [] → choices.raw ≡ true → choices.check ≡ true → AreBothThere words
both_there words choices chosen taken raw check = record {
  taken = taken;
  raw = subst (IsFlagText (flag_in (codes "raw") words)) raw chosen.raw;
  check = subst (IsFlagText (flag_in (codes "check") words)) check chosen.check;
}
