use Rattle.def_iface.specs.contracts.taken_menu.TakenMenuDefined.TheImpl as definition
use Rattle.menu_mgr.proofs.SeenMenus.{live_there, told_here, front_here, written_here}
use Rattle.menu_mgr.proofs.menus.Menus.tell_at.Goals as goal

pub told-damage-requires : goal.told-damage-requires
told-damage-requires g c =
    live_there (definition.loan-value g.dyn-1).it c.args.self.now.list.menus.items c.args.at c.index_mut-listed.result.now c.requires.at c.index_mut-listed.ensures.value c.requires.live

pub returns-clause-told : goal.returns-clause-told
returns-clause-told g c =
    told_here (definition.loan-value g.dyn-1).it c.args.self.now.list.menus.items c.args.at c.index_mut-listed.result.now c.told-damage.new.self c.requires.at c.index_mut-listed.ensures.value c.told-damage.ensures.slot
    c.args.item (record { live = c.told-damage.ensures.stays; measures = c.told-damage.ensures.measures; heard = c.told-damage.ensures.heard })

pub returns-clause-front : goal.returns-clause-front
returns-clause-front g c base shown =
    front_here (definition.loan-value g.dyn-1).it c.args.self.now.list.menus.items c.args.at c.index_mut-listed.result.now c.told-damage.new.self c.requires.at c.index_mut-listed.ensures.value c.told-damage.ensures.slot
    c.args.font.now c.args.pulled base c.args.front.now.front c.redraw.new.self.front (λ s. c.redraw.ensures.shown base _ c.told-damage.ensures.damage s) shown

pub returns-clause-within : goal.returns-clause-within
returns-clause-within g c =
    written_here (definition.loan-value g.dyn-1).it c.args.self.now.list.menus.items c.args.at c.index_mut-listed.result.now c.told-damage.new.self c.requires.at c.index_mut-listed.ensures.value c.told-damage.ensures.slot
    c.args.pulled c.args.item c.told-damage.result c.args.front.now.front c.redraw.new.self.front c.told-damage.ensures.answered c.redraw.ensures.within
