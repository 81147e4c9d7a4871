use Rattle.std.proofs.Common.{rules, SFits, w32, refl}
use Rattle.std.proofs.lemmas.Int.{to_z-of_z}
use Rattle.menu_mgr.proofs.Made.{ended, is_left_at, is_live}
use Rattle.menu_mgr.proofs.menus.Menus.end.Goals as goal

pub put_away-requires-clause-live : goal.put_away-requires-clause-live
put_away-requires-clause-live g c = is_live _ _ _ _ c.remove-definition.ensures.value c.requires.live

pub put_away-requires-clause-left : goal.put_away-requires-clause-left
put_away-requires-clause-left g c = is_left_at _ _ _ _ c.remove-definition.ensures.value _ c.requires.stocked

pub returns : goal.returns
returns g c =
    let fits : SFits w32 c.args.menu = search rules in
    let found = simp to_z-of_z at c.in_ok-at.ensures in
    ended _ c.args.menu c.in_ok-at.at c.remove-definition.result c.args.self.now _ _ _ found.0 c.remove-definition.ensures.value c.put_away.ensures
    c.remove-definition.ensures.menus c.remove-definition.ensures.highlighted (record { alloc = refl; room = c.remove-definition.ensures.room })
