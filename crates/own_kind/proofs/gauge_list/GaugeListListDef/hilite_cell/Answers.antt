use Rattle.std.proofs.Common.{subst, []}
use Rattle.bit_blit.specs.Draws.{Draws}
use Rattle.draw_port.specs.Canvases.{canvas_holds, canvas_point}
use Rattle.looks.specs.declared.step.Step.{Step}
use Rattle.looks.specs.Letters.{lettering}
use Rattle.looks.specs.Marks.{step_value}
use Rattle.own_kind.proofs.GaugeLemmas.{gauge_turned}
use Rattle.own_kind.proofs.gauge_list.GaugeListListDef.hilite_cell.Goals as goal

pub returns-clause-drawn : goal.returns-clause-drawn
returns-clause-drawn c =
    gauge_turned c.args.self.now c.args.canvas.now c.args.bytes.now c.args.canvas.now.map.now c.draw_step.new.canvas.map.now
    (subst (λ (step : Step). Draws (canvas_holds c.args.canvas.now) (λ p x. step_value (lettering c.args.canvas.now.font.now []) (canvas_point c.args.canvas.now p) x step) c.args.canvas.now.map.now c.draw_step.new.canvas.map.now)
    c.frame_step.ensures c.draw_step.ensures.drawn)
