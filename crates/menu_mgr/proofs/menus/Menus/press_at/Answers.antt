use Rattle.std.proofs.Common.{sym, ◌∙◌}
use Rattle.def_iface.specs.contracts.taken_window.TakenWindowDefined.TheImpl as window
use Rattle.def_iface.specs.contracts.taken_menu.TakenMenuDefined.TheImpl as definition
use Rattle.menu_mgr.specs.Leaving.{opened}
use Rattle.menu_mgr.proofs.PulledSteps.{press_on_none, pressed, pressed_front}
use Rattle.menu_mgr.proofs.menus.Menus.press_at.Goals as goal

pub returns-in-Some-clause-step : goal.returns-in-Some-clause-step
returns-in-Some-clause-step g c begun =
    let pull = c.pull.ensures in
    pressed (window.loan-value g.dyn-2).it (definition.loan-value g.dyn-1).it c.args.windows.now c.pull.new.windows c.args.activity.now begun c.args.self.now c.pull.new.self c.pull.new.front
    c.args.point c.in-Some.title c.pull.result (sym c.is_in_range.ensures ∙ c.if-not-is_in_range.false) (sym c.in-Some.ensures.value) c.in-Some.ensures.within
    (record { menus = pull.menus; highlighted = pull.highlighted; bar = pull.bar; lies = pull.pulled; placed = pull.placed })

pub returns-in-Some-clause-front : goal.returns-in-Some-clause-front
returns-in-Some-clause-front g c =
    let pull = c.pull.ensures in
    pressed_front (window.loan-value g.dyn-2).it (definition.loan-value g.dyn-1).it c.args.windows.now c.pull.new.windows c.args.self.now c.pull.new.self c.pull.new.front
    c.args.point c.in-Some.title c.pull.result (sym c.in-Some.ensures.value) c.in-Some.ensures.within
    (record { menus = pull.menus; highlighted = pull.highlighted; bar = pull.bar; lies = pull.pulled; placed = pull.placed })

pub returns-in-None-clause-step : goal.returns-in-None-clause-step
returns-in-None-clause-step g c begun =
    press_on_none (window.loan-value g.dyn-2).it (definition.loan-value g.dyn-1).it c.args.windows.now (opened c.args.activity.now begun) c.args.self.now
    c.args.point (sym c.is_in_range.ensures ∙ c.if-not-is_in_range.false) (sym c.in-None.ensures.value)
