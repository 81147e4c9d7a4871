use Rattle.std.proofs.Common.{◌≡◌, length, sym, ap, ◌∙◌, arith}
use Rattle.def_iface.specs.contracts.taken_window.TakenWindowDefined.TheImpl as window
use Rattle.def_iface.specs.contracts.taken_menu.TakenMenuDefined.TheImpl as definition
use Rattle.menu_mgr.specs.MenuSteps.{choice_of}
use Rattle.menu_mgr.proofs.MovedSteps.{released, released_front, still_hold}
use Rattle.menu_mgr.proofs.menus.Menus.release_at.Goals as goal

pub show_titles-requires-clause-few : goal.show_titles-requires-clause-few
show_titles-requires-clause-few g c =
    let told = c.dim_pulled.ensures in
    let few = (still_hold (window.loan-value g.dyn-2).it (definition.loan-value g.dyn-1).it c.args.activity.now c.args.pulled c.args.self.now c.dim_pulled.new.self
    c.requires.menus c.requires.pulling (record { told = told.told; highlighted = told.highlighted; room = told.room })).few in
    let same : length c.dim_unless.new.self.list.menus.items ≡ length c.dim_pulled.new.self.list.menus.items = λ i. length (c.dim_unless.ensures.menus i).items in
    omega (arith, few, same)

pub returns-clause-step : goal.returns-clause-step
returns-clause-step g c begun =
    let told = c.dim_pulled.ensures in
    released (window.loan-value g.dyn-2).it (definition.loan-value g.dyn-1).it c.args.windows.now c.show_titles.new.windows c.args.activity.now begun c.args.self.now c.dim_pulled.new.self c.dim_unless.new.self c.args.point c.args.pulled c.chosen-choice.result
    (sym c.is_in_range.ensures ∙ c.if-not-is_in_range.false) c.requires.pulling (c.chosen-choice.ensures ∙ ap (choice_of c.args.pulled) c.item_under.ensures)
    (record { told = told.told; highlighted = told.highlighted; room = told.room })
    c.dim_unless.ensures.menus c.dim_unless.ensures.highlighted c.show_titles.ensures.shown

pub returns-clause-front : goal.returns-clause-front
returns-clause-front g c =
    released_front (window.loan-value g.dyn-2).it (definition.loan-value g.dyn-1).it c.args.windows.now c.show_titles.new.windows c.args.activity.now c.args.self.now c.dim_unless.new.self _
    c.requires.kept c.show_titles.ensures.shown
