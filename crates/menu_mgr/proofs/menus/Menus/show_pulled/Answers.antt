use Rattle.std.proofs.Common.{sym, subst, Some, None}
use Rattle.std.specs.Prelude.{IfSome}
use Rattle.def_iface.specs.contracts.taken_menu.TakenMenuDefined.TheImpl as definition
use Rattle.menu_list.specs.Seen.{seen}
use Rattle.menu_list.proofs.ListLemmas.{read_there}
use Rattle.overlay.specs.Overlays.{IsShown}
use Rattle.menu_mgr.specs.Pulling.{as_pulled}
use Rattle.menu_mgr.proofs.SeenMenus.{live_there}
use Rattle.menu_mgr.proofs.menus.Menus.show_pulled.Goals as goal

pub pull-requires-clause-live : goal.pull-requires-clause-live
pull-requires-clause-live g c =
    live_there (definition.loan-value g.dyn-1).it c.args.self.now.list.menus.items c.args.at c.index-listed.result.now c.requires.at c.index-listed.ensures c.requires.live

pub returns : goal.returns
returns g c =
    let loan = (definition.loan-value g.dyn-1).it in
    let x = c.index-listed.result.now in
    let base = c.args.windows.now.screen in
    let none = subst (λ b. IsShown c.parts.result.font.now None b c.show.new.self.front) c.screen.ensures (c.show.ensures c.parts.result.font.now) in
    let shown = subst (λ f. IsShown f (Some (as_pulled c.args.pulled (seen loan x))) base c.pull.new.self.front) c.parts.ensures.font (c.pull.ensures base none) in
    subst (λ o. IfSome o (λ l. IsShown c.args.windows.now.font (Some (as_pulled c.args.pulled (seen loan l))) base c.pull.new.self.front))
    (sym (read_there c.args.self.now.list.menus.items c.args.at x c.requires.at c.index-listed.ensures)) shown
