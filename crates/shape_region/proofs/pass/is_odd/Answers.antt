use Rattle.shape_region.proofs.CrossLemmas.{odd_rest}
use Rattle.shape_region.proofs.pass.is_odd.Goals as goal

pub returns : goal.returns
returns c = odd_rest c.args.count
