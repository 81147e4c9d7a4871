use Rattle.tb_geom.specs.Rects.{rect_holds}
use Rattle.window_update.proofs.Sides.{buffer_whole}
use Rattle.window_update.proofs.MarkLemmas.{not_missing}
use Rattle.window_update.proofs.StepLemmas.{judged_there}
use Rattle.window_update.proofs.updates.Updates.pixels_right.Goals as goal

pub returns-in-Some-clause-right : goal.returns-in-Some-clause-right
returns-in-Some-clause-right g c =
    let stands = c.in-Some.ensures in
    (not_missing _ c.args.windows.now c.requires.kept c.in-Some.at stands.0 c.args.window stands, judged_there _ (g.S.Showing.shows c.args.layers.now) c.args.windows.now c.in-Some.at c.args.window stands (rect_holds c.args.rect) c.is_right.result c.is_right.ensures.right)

pub returns-in-Some-clause-whole : goal.returns-in-Some-clause-whole
returns-in-Some-clause-whole g c = λ activity. buffer_whole _ activity c.args.windows.now c.args.self.now c.is_right.new.self c.is_right.ensures.same c.is_right.ensures.width c.is_right.ensures.height
