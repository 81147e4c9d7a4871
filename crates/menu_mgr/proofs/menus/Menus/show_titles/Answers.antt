use Rattle.std.proofs.Common.{sym, ◌∙◌}
use Rattle.def_iface.specs.contracts.taken_window.TakenWindowDefined.TheImpl as window
use Rattle.menu_mgr.proofs.ShownBars.{same_titles, still_shown}
use Rattle.menu_mgr.proofs.menus.Menus.show_titles.Goals as goal

pub returns-then-not-are_shown-clause-shown : goal.returns-then-not-are_shown-clause-shown
returns-then-not-are_shown-clause-shown g c = same_titles (window.loan-value g.dyn-2).it c.args.windows.now c.set_titles.new.self c.titles.result _ c.titles.ensures c.set_titles.ensures

pub returns-else-not-are_shown-clause-shown : goal.returns-else-not-are_shown-clause-shown
returns-else-not-are_shown-clause-shown g c =
    still_shown (window.loan-value g.dyn-2).it c.args.windows.now _ (sym c.parts.ensures.titles ∙ sym c.as_slice.ensures.same ∙ c.are_shown.ensures.shown c.if-not-are_shown.false)
