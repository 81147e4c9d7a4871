use Rattle.std.proofs.Common.{not, ◌&&◌, ap, ◌∙◌}
use Rattle.tb_geom.specs.Pixels.{holds}
use Rattle.vis_update.specs.Relayings.{region_has}
use Rattle.vis_update.proofs.Relayed.{relaid}
use Rattle.vis_update.proofs.relaying.relaying_of.Goals as goal

pub returns : goal.returns
returns c n place afresh old new before after area gained drawn relayered =
    relaid n place afresh old new before after c.args.visible.now c.args.update.now c.args.gained.now (region_has c.args.drawn) _ area gained drawn relayered c.in_ok-erase.ensures c.in_ok-draw.ensures (λ p. c.in_ok-update.ensures p ∙ ap (λ b. b && not (holds c.in_ok-draw.draw p)) (c.in_ok-stale.ensures p))
