use Rattle.std.proofs.Common.{ap, sym, ◌∙◌}
use Rattle.std.specs.Prelude.{option_map}
use Rattle.command_words.specs.declared.operation.Operation.TheVariants.{Form}
use Rattle.form_words.specs.Forms.{drawn_forms}
use Rattle.command_words.proofs.NamedLemmas.{named-map}
use Rattle.command_words.proofs.operation.form_operation_of.Goals as goal

pub returns-in_err-form : goal.returns-in_err-form
returns-in_err-form c = c.from_residual.ensures ∙ ap (option_map Form) c.in_err-form.ensures ∙ sym (named-map Form c.args.word.now drawn_forms)

pub returns : goal.returns
returns c = ap (option_map Form) c.in_ok-form.ensures ∙ sym (named-map Form c.args.word.now drawn_forms)
