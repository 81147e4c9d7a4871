use Rattle.std.proofs.Common.{false}
use Rattle.window_mgr.proofs.Contents.{layers_apart}
use Rattle.striped_layers.proofs.Changed.{read_there}
use Rattle.striped_layers.proofs.relaying.take_out.Goals as goal

pub without-requires : goal.without-requires
without-requires g c = record {
  apart = layers_apart _ c.args.windows.now c.requires.slots c.requires.whole c.in-Some.at c.in-Some.ensures.0 c.at.result.now
      (read_there c.list.result.now c.args.windows.now.windows c.in-Some.at c.at.result.now c.list.ensures c.at.ensures) (λ _ _ _. false);
}
