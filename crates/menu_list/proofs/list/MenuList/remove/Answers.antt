use Rattle.menu_list.proofs.ListLemmas.{read_there}
use Rattle.menu_list.proofs.list.MenuList.remove.Goals as goal

pub returns-clause-value : goal.returns-clause-value
returns-clause-value g c = read_there c.args.self.now.menus.items c.args.at c.remove-listed.result c.requires c.remove-listed.ensures.value
