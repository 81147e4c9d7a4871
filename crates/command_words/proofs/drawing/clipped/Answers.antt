use Rattle.std.proofs.Common.{SFits, w32, sym, ◌∙◌, rules}
use Rattle.std.proofs.lemmas.Int.{to_z-of_z}
use Rattle.line_words.specs.Tables.{named}
use Rattle.line_words.proofs.Mapped.{mapped_ok, mapped_err}
use Rattle.command_words.specs.Drawings.{operation_shape, operations_of, clipped_shape}
use Rattle.command_words.proofs.drawing.clipped.Goals as goal

pub returns-in_err-shape : goal.returns-in_err-shape
unfolding clipped_shape
returns-in_err-shape c =
    let fits : SFits w32 c.args.version = search rules in
    let said = simp to_z-of_z at c.operation.ensures in
    let shape = operation_shape (named c.args.name.now (operations_of c.args.version)) in
    let read = sym said ∙ c.in_err-shape.was in
    search rules ∙ sym (mapped_err _ shape c.args.words _ read)

pub returns : goal.returns
unfolding clipped_shape
returns c =
    let fits : SFits w32 c.args.version = search rules in
    let said = simp to_z-of_z at c.operation.ensures in
    let shape = operation_shape (named c.args.name.now (operations_of c.args.version)) in
    let read = sym said ∙ c.in_ok-shape.was in
    search rules ∙ sym (mapped_ok _ shape c.args.words _ read)
