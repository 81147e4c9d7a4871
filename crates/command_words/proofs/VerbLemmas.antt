-- What a first word stands for.
use Rattle.std.proofs.Common.{◌≡◌, ℕ, ℤ, pos, ◌↔◌, Bool, true, false, List, [], ◌∷◌, ◌++◌, Some, Contains, if◌then◌else◌, refl}
use Rattle.std.specs.Prelude.{int_le, codes}
use Rattle.line_words.specs.Tables.{named}
use Rattle.line_words.proofs.TableLemmas.{found_is_in, in_is_found, are_distinct}
use Rattle.command_words.specs.declared.verb.Verb.{Verb}
use Rattle.command_words.specs.declared.verb.Verb.TheVariants as words
use Rattle.command_words.specs.declared.windows.WindowVerb.TheVariants as windows
use Rattle.text_words.specs.TextVerbs.{text_verbs}
use Rattle.command_words.specs.Verbs.{verbs, verbs_of, verbs_of_3}

-- no word stands twice in the table, whichever of the later verbs are in it
verbs_are_distinct : (second third : Bool) → are_distinct (verbs ++ ((if second then (codes "float", words.Window windows.Float) ∷ [] else [])
    ++ (if third then verbs_of_3 else []))) ≡ true
unfolding verbs text_verbs
verbs_are_distinct true true = refl
verbs_are_distinct true false = refl
verbs_are_distinct false true = refl
verbs_are_distinct false false = refl

pub verb_is_of_the_table : (version : ℤ) (word : List ℕ) (verb : Verb) → named word (verbs_of version) ≡ Some verb ↔ Contains (verbs_of version) (word, verb)
unfolding verbs_of
verb_is_of_the_table version word verb =
    (found_is_in word verb (verbs_of version), in_is_found word verb (verbs_of version) (verbs_are_distinct (int_le (pos 2) version) (int_le (pos 3) version)))
