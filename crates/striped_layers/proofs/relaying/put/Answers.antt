use Rattle.std.proofs.Common.{false}
use Rattle.window_mgr.proofs.Contents.{layers_apart}
use Rattle.striped_layers.proofs.Changed.{read_there}
use Rattle.striped_layers.proofs.relaying.put.Goals as goal

pub with_layer-requires-clause-apart : goal.with_layer-requires-clause-apart
with_layer-requires-clause-apart g c =
    layers_apart _ c.args.windows.now c.requires.slots c.requires.whole c.in-Some.at c.in-Some.ensures.0 c.at-found.result.now
    (read_there c.list.result.now c.args.windows.now.windows c.in-Some.at c.at-found.result.now c.list.ensures c.at-found.ensures) (λ _ _ _. false)
