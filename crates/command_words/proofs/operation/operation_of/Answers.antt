use Rattle.std.proofs.Common.{SFits, w32, rules, ◌∙◌}
use Rattle.std.proofs.lemmas.Int.{to_z-of_z}
use Rattle.command_words.specs.Drawings.{operations, later_operations, operations_of}
use Rattle.command_words.proofs.NamedLemmas.{named-behind, named-in_front}
use Rattle.command_words.proofs.operation.operation_of.Goals as goal

pub returns-in-Some : goal.returns-in-Some
unfolding operations_of
returns-in-Some c = named-in_front c.args.word.now operations (later_operations c.args.version) c.in-Some.operation c.in-Some.ensures

pub returns-in-None : goal.returns-in-None
unfolding operations_of
returns-in-None c =
    let fits : SFits w32 c.args.version = search rules in
    let later = simp to_z-of_z at c.later_operation_of.ensures in
    later ∙ named-behind c.args.word.now operations (later_operations c.args.version) c.in-None.ensures
