use Rattle.std.proofs.Common.{sym, ◌∙◌}
use Rattle.def_iface.specs.contracts.taken_window.TakenWindowDefined.TheImpl as window
use Rattle.menu_list.specs.Lists.{titles_of}
use Rattle.menu_mgr.proofs.ShownBars.{as_large, same_titles}
use Rattle.menu_mgr.proofs.menus.Menus.pull.Goals as goal

pub show_pulled-requires-clause-width : goal.show_pulled-requires-clause-width
show_pulled-requires-clause-width g c =
    let kept = c.requires.kept in
    c.requires.width ∙ sym (as_large (window.loan-value g.dyn-2).it c.args.windows.now c.show_titles.new.windows kept.slots _ (c.show_titles.ensures.shown kept.slots kept.whole).1).width

pub show_pulled-requires-clause-height : goal.show_pulled-requires-clause-height
show_pulled-requires-clause-height g c =
    let kept = c.requires.kept in
    c.requires.height ∙ sym (as_large (window.loan-value g.dyn-2).it c.args.windows.now c.show_titles.new.windows kept.slots _ (c.show_titles.ensures.shown kept.slots kept.whole).1).height

pub returns-clause-bar : goal.returns-clause-bar
returns-clause-bar g c =
    same_titles (window.loan-value g.dyn-2).it c.args.windows.now c.show_titles.new.windows _ _
    (λ i. titles_of (c.highlight.ensures.highlighted i) (c.highlight.ensures.menus i).items) c.show_titles.ensures.shown
