use Rattle.std.proofs.Common.{ap, sym, ◌∙◌}
use Rattle.std.specs.Prelude.{option_map}
use Rattle.text_words.specs.TextVerbs.{text_verbs}
use Rattle.command_words.specs.declared.verb.Verb.TheVariants.{Text}
use Rattle.command_words.proofs.NamedLemmas.{named-map}
use Rattle.command_words.proofs.verb.text_word_of.Goals as goal

pub returns-in_err-verb : goal.returns-in_err-verb
returns-in_err-verb c = c.from_residual.ensures ∙ ap (option_map Text) c.in_err-verb.ensures ∙ sym (named-map Text c.args.word.now text_verbs)

pub returns : goal.returns
returns c = ap (option_map Text) c.in_ok-verb.ensures ∙ sym (named-map Text c.args.word.now text_verbs)
