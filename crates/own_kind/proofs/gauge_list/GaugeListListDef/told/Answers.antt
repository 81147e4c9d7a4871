use Rattle.own_kind.proofs.GaugeLemmas.{gauge_resized}
use Rattle.own_kind.proofs.gauge_list.GaugeListListDef.told.Goals as goal

pub returns-in-Resized-clause-damage : goal.returns-in-Resized-clause-damage
returns-in-Resized-clause-damage c =
    gauge_resized c.args.self.now c.in-Resized.size c.union-damage.result (rw (c.rect.ensures, c.rect-in-Resized.ensures) at c.union-damage.ensures.exact)
