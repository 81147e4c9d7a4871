use Rattle.command_words.proofs.VerbLemmas.{verb_is_of_the_table}
use Rattle.command_words.proofs.laws.a_verb_is_one_of_the_table.Goals as goal

pub returns : goal.returns
returns c = verb_is_of_the_table
