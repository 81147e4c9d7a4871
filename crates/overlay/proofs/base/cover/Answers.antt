use Rattle.bit_blit.proofs.DrawsLemmas.{Draws-once}
use Rattle.overlay.proofs.ShownLemmas.{covered}
use Rattle.overlay.proofs.base.cover.Goals as goal

pub returns : goal.returns
returns c = covered c.args.map.now c.args.base.now c.args.rect _ c.requires.width c.requires.height (Draws-once _ _ _ _ c.draw_rect.ensures)
