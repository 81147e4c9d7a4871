use Rattle.bit_blit.proofs.DrawsLemmas.{Draws-where}
use Rattle.bit_blit.proofs.WalkLemmas.{shared-on_map, shared-where}
use Rattle.overlay.proofs.LineLemmas.{gray_inverted}
use Rattle.overlay.proofs.lines.draw_line.Goals as goal

pub returns-then-saturating_sub-ne1 : goal.returns-then-saturating_sub-ne1
returns-then-saturating_sub-ne1 c = gray_inverted c.args.line c.args.map.now c.draw_rect.new.map c.draw_rect.ensures

pub draw_column-requires-clause-within : goal.draw_column-requires-clause-within
draw_column-requires-clause-within c = shared-on_map c.args.map.now c.bounds.result c.args.line c.sect-shared.result c.sect-shared.ensures.pixels c.bounds.ensures.pixels

pub returns : goal.returns
returns c =
    Draws-where _ _ _ c.args.map.now c.draw_column.new.map
    (shared-where c.args.map.now c.bounds.result c.args.line c.sect-shared.result c.sect-shared.ensures.pixels c.bounds.ensures.pixels) c.draw_column.ensures
