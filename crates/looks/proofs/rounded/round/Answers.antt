use Rattle.std.proofs.Common.{◌&&◌, ◌∙◌, ap, sym}
use Rattle.bit_blit.proofs.DrawsLemmas.{Draws-none, Draws-where}
use Rattle.draw_port.specs.Canvases.{canvas_holds, canvas_point}
use Rattle.looks.proofs.CrossLemmas.{held_none}
use Rattle.looks.proofs.RoundedLemmas.{rounded_none, rounded_inside_is, rounded_whole_is}
use Rattle.looks.proofs.rounded.round.Goals as goal

pub returns-then-not-is_in_range-clause-drawn : goal.returns-then-not-is_in_range-clause-drawn
returns-then-not-is_in_range-clause-drawn c =
    let canvas = c.args.canvas.now in
    Draws-none _ _ _ (λ p on. ap (λ t. canvas_holds canvas p && t) (rounded_none c.args.rounded (canvas_point canvas p) (sym c.is_in_range.ensures ∙ c.if-not-is_in_range.true)) ∙ held_none (canvas_holds canvas p))

pub returns-then-rounded-clause-drawn : goal.returns-then-rounded-clause-drawn
returns-then-rounded-clause-drawn c =
    let canvas = c.args.canvas.now in
    Draws-where _ _ _ _ _ (λ p on. ap (λ t. canvas_holds canvas p && t) (rounded_inside_is c.args.rounded (canvas_point canvas p) (sym c.is_in_range.ensures ∙ c.if-not-is_in_range.false) c.if-rounded.true)) c.strip.ensures.drawn

pub returns-else-rounded-clause-drawn : goal.returns-else-rounded-clause-drawn
returns-else-rounded-clause-drawn c =
    let canvas = c.args.canvas.now in
    Draws-where _ _ _ _ _ (λ p on. ap (λ t. canvas_holds canvas p && t) (rounded_whole_is c.args.rounded (canvas_point canvas p) (sym c.is_in_range.ensures ∙ c.if-not-is_in_range.false) c.if-rounded.false)) c.round.ensures.drawn
