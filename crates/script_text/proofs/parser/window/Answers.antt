use Rattle.std.proofs.Common.{SFits, w32, sym, ◌∙◌, rules}
use Rattle.std.proofs.lemmas.Int.{to_z-of_z}
use Rattle.desk_call.specs.declared.call.Call.TheVariants.{Window}
use Rattle.line_words.proofs.Mapped.{mapped_err}
use Rattle.command_words.specs.WindowWords.{window_shape}
use Rattle.script_text.specs.declared.command.Command.TheVariants.{Call}
use Rattle.script_text.proofs.parser.window.Goals as goal

pub returns-in_err-call : goal.returns-in_err-call
returns-in_err-call c =
    let fits : SFits w32 c.args.version = search rules in
    let said = simp to_z-of_z at c.call.ensures in
    let read = sym said ∙ c.in_err-call.was in
    search rules ∙ sym (mapped_err (λ call. Call (Window call)) (window_shape c.args.version c.args.verb) c.args.words _ read)
