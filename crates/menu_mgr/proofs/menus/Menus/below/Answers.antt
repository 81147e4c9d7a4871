use Rattle.std.proofs.Common.{SFits, w32, rules, sym, subst, [], None, ◌≡◌}
use Rattle.std.specs.Prelude.{IfSome}
use Rattle.std.proofs.lemmas.Int.{to_z-of_z}
use Rattle.def_iface.specs.contracts.taken_window.TakenWindowDefined.TheImpl as window
use Rattle.def_iface.specs.contracts.taken_menu.TakenMenuDefined.TheImpl as definition
use Rattle.menu_list.specs.Seen.{seen}
use Rattle.menu_list.proofs.ListLemmas.{read_there}
use Rattle.window_mgr.specs.Records.{desk_of}
use Rattle.menu_mgr.specs.Pulling.{pulled_below}
use Rattle.menu_mgr.proofs.BelowTitles.{narrow, side_in_range, below_is}
use Rattle.menu_mgr.proofs.menus.Menus.below.Goals as goal

pub pulled_place-requires-clause-screen : goal.pulled_place-requires-clause-screen
pulled_place-requires-clause-screen g c =
    let few = narrow (window.loan-value g.dyn-2).it c.args.windows.now c.requires.kept in
    side_in_range c.parts-width.result.width c.args.windows.now.screen.width (search rules) c.parts-width.ensures.width few.0

pub returns-clause-pulled : goal.returns-clause-pulled
returns-clause-pulled g c =
    let wide : SFits w32 c.parts-width.result.width = search rules in
    let left : SFits w32 c.args.title.hit.left = search rules in
    let x = c.index-listed.result.now in
    let desk = desk_of (window.loan-value g.dyn-2).it c.args.windows.now [] in
    let is = below_is desk c.args.title.hit (seen (definition.loan-value g.dyn-1).it x) c.parts-width.result.font.now c.parts-width.result.width c.size.result c.shown_size-size.result c.pulled_place.result
    c.parts-width.ensures.font c.parts-width.ensures.width c.size.ensures.value c.shown_size-size.ensures.value (simp to_z-of_z at c.pulled_place.ensures.value) in
    subst (λ o. IfSome o (λ l. record { menu = c.args.title.hit.menu; place = c.pulled_place.result; size = c.shown_size-size.result; item = None }
    ≡ pulled_below desk (record { hit = c.args.title.hit; record_of = seen (definition.loan-value g.dyn-1).it l })))
    (sym (read_there c.args.self.now.list.menus.items c.args.title.at x c.requires.at c.index-listed.ensures)) is
