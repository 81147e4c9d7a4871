use Rattle.list_mgr.proofs.ListLayers as layers
use Rattle.list_mgr.proofs.planning.lay.Goals as goal

pub plan_layers-requires-clause-apart : goal.plan_layers-requires-clause-apart
plan_layers-requires-clause-apart g c =
    layers.own_apart c.args.ticket.now c.args.layers.now c.requires.may c.in_ok-region.region c.rect-rect.result c.rect-rect.ensures.sides c.in_ok-region.ensures
    c.len-at.result c.len-at.ensures c.in_ok-relaid.relaid c.in_ok-relaid.ensures.layers

pub returns : goal.returns
returns g c u laid =
    layers.planned c.args.ticket.now c.args.layers.now c.requires.may c.in_ok-region.region c.rect-rect.result c.rect-rect.ensures.sides c.in_ok-region.ensures
    c.len-at.result c.len-at.ensures c.in_ok-relaid.relaid c.in_ok-relaid.ensures.layers _ c.args.update.now c.args.windows.now u laid c.in_ok-relaid.ensures.gained c.in_ok-relaying.relaying c.in_ok-relaying.ensures
