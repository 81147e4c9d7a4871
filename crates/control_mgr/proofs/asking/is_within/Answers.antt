use Rattle.std.proofs.Common.{◌∙◌}
use Rattle.std.proofs.Math.Path.{ap₂}
use Rattle.std.proofs.lemmas.Bool.{and_parts}
use Rattle.tb_geom.specs.Rects.{rect_holds}
use Rattle.control_mgr.proofs.Widths.{widened_is}
use Rattle.control_mgr.proofs.asking.is_within.Goals as goal

pub returns : goal.returns
returns g c =
    c.contains.ensures
    ∙ ap₂ rect_holds (widened_is c.args.margin c.from-margin.result c.args.control.now.kept.size c.ranges.margin.fits (and_parts _ _ c.requires.settled.fits).0 c.from-margin.ensures) c.local.ensures
