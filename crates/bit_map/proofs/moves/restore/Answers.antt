use Rattle.bit_map.proofs.WideLemmas.{restored}
use Rattle.bit_map.proofs.moves.restore.Goals as goal

pub returns : goal.returns
returns c = restored c.args.words.now c.args.at c.args.old c.args.mask c.blended.result c.requires c.blended.ensures
