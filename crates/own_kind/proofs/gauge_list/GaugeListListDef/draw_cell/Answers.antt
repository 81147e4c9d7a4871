use Rattle.std.proofs.Common.{subst, List, []}
use Rattle.bit_blit.specs.Draws.{Draws}
use Rattle.draw_port.specs.Canvases.{canvas_holds, canvas_point}
use Rattle.looks.specs.declared.step.Step.{Step}
use Rattle.looks.specs.Letters.{lettering}
use Rattle.looks.specs.Marks.{look_bit}
use Rattle.own_kind.proofs.GaugeLemmas.{gauge_drawn}
use Rattle.own_kind.proofs.gauge_list.GaugeListListDef.draw_cell.Goals as goal

pub returns-clause-drawn : goal.returns-clause-drawn
returns-clause-drawn c =
    gauge_drawn c.args.self.now c.args.canvas.now c.args.selected c.args.bytes.now c.args.canvas.now.map.now c.draw_look.new.canvas.map.now
    (subst (λ (steps : List Step). Draws (canvas_holds c.args.canvas.now) (λ p x. look_bit (lettering c.args.canvas.now.font.now []) steps (canvas_point c.args.canvas.now p)) c.args.canvas.now.map.now c.draw_look.new.canvas.map.now)
    c.gauge_look.ensures c.draw_look.ensures.drawn)
