use Rattle.striped_layers.proofs.Changed.{taken_out}
use Rattle.striped_layers.proofs.relaying.without.Goals as goal

pub returns : goal.returns
returns c = taken_out c.args.layers.now c.in-Some.at c.in_ok-relaid.relaid c.in-Some.ensures.within c.requires.apart c.in_ok-relaid.ensures.layers c.in_ok-relaid.ensures.gained
