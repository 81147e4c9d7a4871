use Rattle.striped_layers.proofs.Changed.{put_anew}
use Rattle.striped_layers.proofs.relaying.with_shape.Goals as goal

pub returns : goal.returns
returns c = put_anew c.args.layers.now c.args.at _ c.args.layer c.in_ok-relaid.relaid c.requires.at c.requires.apart c.in_ok-relaid.ensures.layers c.in_ok-relaid.ensures.gained
