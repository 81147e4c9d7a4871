use Rattle.std.proofs.Common.{SFits, w32, rules, sym, ◌∙◌}
use Rattle.std.proofs.lemmas.Int.{to_z-of_z}
use Rattle.def_iface.specs.contracts.taken_menu.TakenMenuDefined.TheImpl as taken_menu
use Rattle.menu_mgr.proofs.Painted.{base_shows, found_live, none_pulled, pulled_painted}
use Rattle.menu_mgr.proofs.menus.Menus.paint_pulled.Goals as goal

pub draw_pulled-requires-clause-live : goal.draw_pulled-requires-clause-live
draw_pulled-requires-clause-live g c =
    let fits : SFits w32 c.from.result = search rules in
    found_live (taken_menu.loan-value g.dyn-1).it c.args.pulled c.args.self.now.list.menus.items c.from.result c.from.ensures
    c.in-Some.at c.index-listed.result.now (sym (simp to_z-of_z at c.find.ensures.first) ∙ c.in-Some.is) (search rules) c.index-listed.ensures c.requires.live

pub returns-in-Some : goal.returns-in-Some
returns-in-Some g c =
    let fits : SFits w32 c.from.result = search rules in
    pulled_painted (taken_menu.loan-value g.dyn-1).it c.args.pulled c.args.self.now.list.menus.items c.from.result c.from.ensures
    c.in-Some.at c.index-listed.result.now (sym (simp to_z-of_z at c.find.ensures.first) ∙ c.in-Some.is) (search rules) c.index-listed.ensures
    c.args.font.now c.args.map.now c.draw_pulled.new.map c.draw_pulled.ensures

pub returns-in_default : goal.returns-in_default
returns-in_default g c =
    let fits : SFits w32 c.from.result = search rules in
    base_shows c.args.font.now _ c.args.map.now
    (none_pulled (taken_menu.loan-value g.dyn-1).it c.args.pulled c.args.self.now.list.menus.items c.from.result c.from.ensures
    (sym (simp to_z-of_z at c.find.ensures.first) ∙ c.in_default.is))
