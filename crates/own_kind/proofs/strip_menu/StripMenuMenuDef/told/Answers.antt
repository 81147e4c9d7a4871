use Rattle.own_kind.proofs.StripLemmas.{strips_alike}
use Rattle.own_kind.proofs.strip_menu.StripMenuMenuDef.told.Goals as goal

pub returns-clause-damage : goal.returns-clause-damage
returns-clause-damage c font menu p inside outside =
    let out = c.cells_damage-damage.ensures.alike p inside outside in
    strips_alike font menu _ c.args.self.now.highlighted p out.1 out.0
