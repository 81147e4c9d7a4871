use Rattle.std.proofs.Common.{sym, ap, ◌∙◌}
use Rattle.line_words.specs.Shapes.{reading}
use Rattle.script_text.specs.Commands.{shape_of}
use Rattle.script_text.proofs.parser.command.Goals as goal

pub returns-in-Update : goal.returns-in-Update
returns-in-Update c = c.update.ensures c.args.version ∙ ap (λ verb. reading (shape_of c.args.version verb) c.args.words) (sym c.in-Update.is)

pub returns-in-Frame : goal.returns-in-Frame
returns-in-Frame c = c.frame.ensures c.args.version ∙ ap (λ verb. reading (shape_of c.args.version verb) c.args.words) (sym c.in-Frame.is)

pub returns-in-Outline : goal.returns-in-Outline
returns-in-Outline c = c.outline.ensures c.args.version ∙ ap (λ verb. reading (shape_of c.args.version verb) c.args.words) (sym c.in-Outline.is)

pub returns-in-Control : goal.returns-in-Control
returns-in-Control c = c.control.ensures c.args.version ∙ ap (λ verb. reading (shape_of c.args.version verb) c.args.words) (sym c.in-Control.is)

pub returns-in-List : goal.returns-in-List
returns-in-List c = c.list.ensures c.args.version ∙ ap (λ verb. reading (shape_of c.args.version verb) c.args.words) (sym c.in-List.is)

pub returns-in-Text : goal.returns-in-Text
returns-in-Text c = c.text.ensures c.args.version ∙ ap (λ verb. reading (shape_of c.args.version verb) c.args.words) (sym c.in-Text.is)

pub returns-in-Menu : goal.returns-in-Menu
returns-in-Menu c = c.menu.ensures c.args.version ∙ ap (λ verb. reading (shape_of c.args.version verb) c.args.words) (sym c.in-Menu.is)

pub returns-in-Event : goal.returns-in-Event
returns-in-Event c = c.event.ensures c.args.version ∙ ap (λ verb. reading (shape_of c.args.version verb) c.args.words) (sym c.in-Event.is)
