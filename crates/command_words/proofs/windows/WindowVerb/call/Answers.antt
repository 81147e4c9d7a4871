use Rattle.std.proofs.Common.{SFits, w32, sym, ap, ◌∙◌, rules}
use Rattle.std.proofs.lemmas.Int.{to_z-of_z}
use Rattle.desk_call.specs.declared.window.WindowCall.TheVariants as calls
use Rattle.line_words.specs.Shapes.{reading}
use Rattle.line_words.proofs.Mapped.{mapped_err}
use Rattle.command_words.specs.Drawings.{drawing_shape}
use Rattle.command_words.specs.WindowWords.{window_shape}
use Rattle.command_words.proofs.windows.WindowVerb.call.Goals as goal

pub returns-in_err-drawing-in-Draw : goal.returns-in_err-drawing-in-Draw
unfolding window_shape
returns-in_err-drawing-in-Draw c =
    let fits : SFits w32 c.args.version = search rules in
    let said = simp to_z-of_z at c.drawing.ensures in
    let read = sym said ∙ c.in_err-drawing-in-Draw.was in
    search rules ∙ sym (mapped_err calls.Draw (drawing_shape c.args.version) c.args.words _ read)
    ∙ ap (λ verb. reading (window_shape c.args.version verb) c.args.words) (sym c.in-Draw.is)
