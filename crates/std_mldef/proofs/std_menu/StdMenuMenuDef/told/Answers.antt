use Rattle.std_mldef.proofs.BandLemmas.{menus_alike}
use Rattle.std_mldef.proofs.std_menu.StdMenuMenuDef.told.Goals as goal

pub returns-clause-damage : goal.returns-clause-damage
returns-clause-damage c font menu p inside outside =
    let out = c.rows_damage-damage.ensures.alike p inside outside in
    menus_alike font menu _ c.args.self.now.highlighted p out.1 out.0
