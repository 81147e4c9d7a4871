use Rattle.std.proofs.Common.{None, pos, sym, ◌∙◌}
use Rattle.def_iface.specs.contracts.taken_menu.TakenMenuDefined.TheImpl as definition
use Rattle.menu_list.proofs.SeenLemmas.{menu_index-seen}
use Rattle.menu_mgr.proofs.SeenMenus.{live_there, told_here}
use Rattle.menu_mgr.proofs.ToldMenus.{told_at_index, told_nowhere}
use Rattle.menu_mgr.proofs.menus.Menus.dim_pulled.Goals as goal

pub told-requires : goal.told-requires
told-requires g c =
    live_there (definition.loan-value g.dyn-1).it c.args.self.now.list.menus.items c.in-Some.at c.index_mut-listed.result.now c.in-Some.ensures.within c.index_mut-listed.ensures.value c.requires.live

pub returns-in-Some-clause-told : goal.returns-in-Some-clause-told
returns-in-Some-clause-told g c =
    let seen = menu_index-seen (definition.loan-value g.dyn-1).it (pos c.args.pulled.menu) c.args.self.now.list.menus.items in
    told_at_index c.args.pulled None c.in-Some.at _ _ (seen ∙ sym c.in-Some.ensures.first)
    (told_here (definition.loan-value g.dyn-1).it c.args.self.now.list.menus.items c.in-Some.at c.index_mut-listed.result.now c.told.new.self c.in-Some.ensures.within c.index_mut-listed.ensures.value c.told.ensures.slot
    None (record { live = c.told.ensures.stays; measures = c.told.ensures.measures; heard = c.told.ensures.heard }))

pub returns-in_default-clause-told : goal.returns-in_default-clause-told
returns-in_default-clause-told g c =
    let seen = menu_index-seen (definition.loan-value g.dyn-1).it (pos c.args.pulled.menu) c.args.self.now.list.menus.items in
    told_nowhere c.args.pulled None _ (seen ∙ sym c.in_default.ensures.first)
