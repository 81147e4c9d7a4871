use Rattle.std.proofs.Common.{false, ap, sym, ◌∙◌}
use Rattle.std.specs.Option.{option_map_or}
use Rattle.menu_list.specs.Lists.{with_inserted, without_highlight}
use Rattle.menu_list.proofs.ListLemmas.{read_there, set_is_edit}
use Rattle.menu_list.proofs.list.MenuList.take_out.Goals as goal

pub returns-clause-menus : goal.returns-clause-menus
returns-clause-menus g c =
    ap (λ v. v.items) c.dim.ensures.menus
    ∙ set_is_edit (with_inserted false) c.args.self.now.menus.items c.args.at c.index_mut-listed.result.now c.index_mut-listed.ensures.value

pub returns-clause-highlighted : goal.returns-clause-highlighted
returns-clause-highlighted g c =
    c.dim.ensures.highlighted
    ∙ ap (λ o. option_map_or (λ l. without_highlight l.menu.id c.args.self.now.highlighted) o c.args.self.now.highlighted)
    (sym (read_there c.args.self.now.menus.items c.args.at c.index_mut-listed.result.now c.requires c.index_mut-listed.ensures.value))
