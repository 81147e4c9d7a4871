use Rattle.std.proofs.Common.{◌&&◌, ◌∙◌, ap}
use Rattle.tb_geom.specs.Points.{minus}
use Rattle.tb_geom.specs.Rects.{rect_holds}
use Rattle.overlay.proofs.ShownLemmas.{redrawn_shows, redrawn_written}
use Rattle.overlay.proofs.overlay.Overlay.redraw.Goals as goal

pub returns-clause-shown : goal.returns-clause-shown
returns-clause-shown g c base old = redrawn_shows c.args.font.now _ old c.args.damage c.placed_within-within.result base c.args.self.now.front c.draw_menu.new.map c.requires.screen c.requires.place
    (λ p. c.placed_within-within.ensures p ∙ ap (λ r. rect_holds r p && rect_holds c.args.damage (minus p c.args.place)) c.pulled_rect.ensures)
    c.draw_menu.ensures.drawn

pub returns-clause-within : goal.returns-clause-within
returns-clause-within g c = redrawn_written c.args.place c.args.size c.args.damage c.placed_within-within.result c.args.self.now.front c.draw_menu.new.map
    (λ p. c.placed_within-within.ensures p ∙ ap (λ r. rect_holds r p && rect_holds c.args.damage (minus p c.args.place)) c.pulled_rect.ensures)
    c.draw_menu.ensures.written
