use Rattle.std.proofs.Common.{rules, SFits, w32, ap, ◌∙◌}
use Rattle.std.proofs.lemmas.Int.{to_z-of_z}
use Rattle.menu_list.specs.Lists.{menu_index}
use Rattle.menu_mgr.proofs.menus.Menus.index_of.Goals as goal

pub returns-clause-first : goal.returns-clause-first
returns-clause-first g c =
    let fits : SFits w32 c.from.result = search rules in
    simp to_z-of_z at c.find.ensures.first ∙ ap (λ id. menu_index id c.args.self.now.list.menus.items) c.from.ensures
