use Rattle.std.proofs.Common.{sym, ◌∙◌, pos, subst}
use Rattle.def_iface.specs.contracts.taken_menu.TakenMenuDefined.TheImpl as definition
use Rattle.bit_blit.specs.Draws.{IsWritten}
use Rattle.bit_blit.proofs.WrittenLemmas.{written_none}
use Rattle.menu_list.proofs.Indices.{with_found}
use Rattle.menu_list.proofs.SeenLemmas.{menu_index-seen}
use Rattle.menu_mgr.specs.Pulling.{item_damage}
use Rattle.menu_mgr.proofs.ToldMenus.{told_at_index, told_nowhere, front_at_index}
use Rattle.menu_mgr.proofs.menus.Menus.tell.Goals as goal

pub returns-in-Some-clause-told : goal.returns-in-Some-clause-told
returns-in-Some-clause-told g c =
    let seen = menu_index-seen (definition.loan-value g.dyn-1).it (pos c.args.pulled.menu) c.args.self.now.list.menus.items in
    told_at_index c.args.pulled c.args.item c.in-Some.at _ _ (seen ∙ sym c.in-Some.ensures.first) c.tell_at.ensures.told

pub returns-in-Some-clause-front : goal.returns-in-Some-clause-front
returns-in-Some-clause-front g c base shown =
    let seen = menu_index-seen (definition.loan-value g.dyn-1).it (pos c.args.pulled.menu) c.args.self.now.list.menus.items in
    front_at_index c.args.pulled c.args.item c.args.font.now c.in-Some.at _ _ base _ _ (seen ∙ sym c.in-Some.ensures.first) c.tell_at.ensures.told (c.tell_at.ensures.front base) shown

pub returns-in-Some-clause-within : goal.returns-in-Some-clause-within
returns-in-Some-clause-within g c =
    let seen = menu_index-seen (definition.loan-value g.dyn-1).it (pos c.args.pulled.menu) c.args.self.now.list.menus.items in
    subst (λ o. IsWritten (item_damage c.args.pulled c.args.item o) c.args.front.now.front c.tell_at.new.front.front)
    (sym (with_found (pos c.args.pulled.menu) _ c.in-Some.at (seen ∙ sym c.in-Some.ensures.first))) c.tell_at.ensures.within

pub returns-in_default-clause-within : goal.returns-in_default-clause-within
returns-in_default-clause-within g c = written_none _ c.args.front.now.front

pub returns-in_default-clause-told : goal.returns-in_default-clause-told
returns-in_default-clause-told g c =
    let seen = menu_index-seen (definition.loan-value g.dyn-1).it (pos c.args.pulled.menu) c.args.self.now.list.menus.items in
    told_nowhere c.args.pulled c.args.item _ (seen ∙ sym c.in_default.ensures.first)
