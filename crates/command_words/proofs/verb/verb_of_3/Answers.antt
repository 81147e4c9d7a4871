use Rattle.std.proofs.Common.{◌∙◌}
use Rattle.command_words.specs.Verbs.{own_verbs_of_3, verbs_for_texts}
use Rattle.command_words.proofs.NamedLemmas.{named-behind, named-in_front}
use Rattle.command_words.proofs.verb.verb_of_3.Goals as goal

pub returns-in-Some : goal.returns-in-Some
returns-in-Some c = named-in_front c.args.word.now own_verbs_of_3 verbs_for_texts c.in-Some.verb c.in-Some.ensures

pub returns-in-None : goal.returns-in-None
returns-in-None c = c.text_word_of.ensures ∙ named-behind c.args.word.now own_verbs_of_3 verbs_for_texts c.in-None.ensures
