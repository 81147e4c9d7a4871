use Rattle.std.proofs.Common.{◌∙◌}
use Rattle.draw_port.proofs.texts.around.Goals as goal

pub returns-else-difference-le512 : goal.returns-else-difference-le512
returns-else-difference-le512 c = λ p near held. c.placed.ensures p near ∙ c.text_rect.ensures c.args.pen p held
