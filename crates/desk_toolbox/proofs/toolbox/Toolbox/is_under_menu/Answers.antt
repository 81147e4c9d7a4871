use Rattle.std.proofs.Common.{◌≡◌, sym, ◌∙◌, subst}
use Rattle.std.specs.Prelude.{slice_index_or}
use Rattle.def_iface.specs.contracts.taken_window.TakenWindowDefined.TheImpl as taken
use Rattle.def_iface.specs.contracts.taken_control.TakenControlDefined.TheImpl as taken_control
use Rattle.def_iface.specs.contracts.taken_list.TakenListDefined.TheImpl as taken_list
use Rattle.def_iface.specs.contracts.taken_menu.TakenMenuDefined.TheImpl as taken_menu
use Rattle.window_mgr.specs.Edits.{IsWindowAt}
use Rattle.window_mgr.proofs.FindLemmas.{settled_at}
use Rattle.desk_toolbox.proofs.UnderMenus.{found_under}
use Rattle.desk_toolbox.proofs.toolbox.Toolbox.is_under_menu.Goals as goal

pub picture_place-pixel-requires-clause-placed : goal.picture_place-pixel-requires-clause-placed
picture_place-pixel-requires-clause-placed g c =
    let x = c.at.result.now in
    let x_is : IsWindowAt c.args.self.now.windows.windows.records.items c.in-Some.at x = subst (λ l. x ≡ slice_index_or l.records.items c.in-Some.at x) c.list.ensures c.at.ensures in
    (settled_at (taken.loan-value g.dyn-1).it c.args.self.now.windows (record { slots = c.requires.stocks.windows; whole = c.requires.whole.managers.windows }) c.args.asked.point c.in-Some.at x c.in-Some.ensures.0 x_is).placed

pub returns-in-Some : goal.returns-in-Some
returns-in-Some g c stocks =
    let self = c.args.self.now in
    let x = c.at.result.now in
    let x_is : IsWindowAt self.windows.windows.records.items c.in-Some.at x = subst (λ l. x ≡ slice_index_or l.records.items c.in-Some.at x) c.list.ensures c.at.ensures in
    found_under (taken.loan-value g.dyn-1).it (taken_menu.loan-value g.dyn-3).it (taken_control.loan-value g.dyn-2).it (taken_list.loan-value g.dyn-4).it self c.requires.stocks.windows c.requires.whole.managers.windows c.args.asked c.in-Some.at c.in-Some.ensures x x_is
    c.has_point.result c.picture_place-pixel.result (sym c.is_in_range.ensures ∙ c.if-not-is_in_range.false) c.picture_place-pixel.ensures c.has_point.ensures stocks
