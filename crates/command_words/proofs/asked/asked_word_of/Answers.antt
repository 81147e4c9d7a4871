use Rattle.std.proofs.Common.{◌∙◌}
use Rattle.command_words.specs.Asked.{asked_words, form_words, own_words}
use Rattle.command_words.proofs.NamedLemmas.{named-behind, named-in_front}
use Rattle.command_words.proofs.asked.asked_word_of.Goals as goal

pub returns-in-Some : goal.returns-in-Some
unfolding asked_words
returns-in-Some c = named-in_front c.args.word.now own_words form_words c.in-Some.asked c.in-Some.ensures

pub returns-in-None : goal.returns-in-None
unfolding asked_words
returns-in-None c = c.form_word_of.ensures ∙ named-behind c.args.word.now own_words form_words c.in-None.ensures
