use Rattle.std.proofs.lemmas.Bool.{and_right}
use Rattle.tb_geom.specs.Rects.{rect_holds}
use Rattle.std_wdef.proofs.cut_inside.CutInsideStrip.bounds.Goals as goal

pub returns-clause-around : goal.returns-clause-around
returns-clause-around c = λ p out. and_right (rect_holds c.args.self.now.cut p) _ (c.bounds.ensures.around p out)
