use Rattle.std.proofs.Common.{◌∙◌}
use Rattle.command_words.specs.Drawings.{form_operations, frame_operations}
use Rattle.command_words.proofs.NamedLemmas.{named-behind, named-in_front}
use Rattle.command_words.proofs.operation.shape_operation_of.Goals as goal

pub returns-in-Some : goal.returns-in-Some
returns-in-Some c = named-in_front c.args.word.now frame_operations form_operations c.in-Some.operation c.in-Some.ensures

pub returns-in-None : goal.returns-in-None
returns-in-None c = c.form_operation_of.ensures ∙ named-behind c.args.word.now frame_operations form_operations c.in-None.ensures
