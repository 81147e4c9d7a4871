use Rattle.std.proofs.Common.{sym, ap, ◌∙◌}
use Rattle.tb_geom.specs.Points.{plus}
use Rattle.tb_geom.specs.Pixels.{holds}
use Rattle.window_mgr.proofs.TellLemmas as telling
use Rattle.window_update.proofs.serving.seen_from.Goals as goal

pub move_by-requires : goal.move_by-requires
move_by-requires c = telling.stays_there c.in_ok-seen.seen c.args.place c.local.result c.local.ensures (λ p e. c.requires.there p (ap (λ r. holds r (plus p c.args.place)) (sym c.in_ok-seen.ensures) ∙ e))

pub returns : goal.returns
returns c = λ p. telling.there c.in_ok-seen.seen c.args.place c.local.result c.local.ensures _ c.move_by.ensures p ∙ ap (λ r. holds r (plus p c.args.place)) c.in_ok-seen.ensures
