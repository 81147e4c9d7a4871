use Rattle.std.proofs.Common.{rules}
use Rattle.window_list.proofs.Gains.{shape_set}
use Rattle.window_list.proofs.layers.rewritten.Goals as goal

pub returns : goal.returns
returns c =
    let written = shape_set c.args.layers.now c.args.at c.index-layers-at.result c.args.shape (search rules) in
    search rules
