use Rattle.std.proofs.Common.{None, sym, ◌∙◌, subst, arith}
use Rattle.def_iface.specs.contracts.taken_window.TakenWindowDefined.TheImpl as window
use Rattle.def_iface.specs.contracts.taken_menu.TakenMenuDefined.TheImpl as definition
use Rattle.bit_map.specs.Bits.{Bits}
use Rattle.desk_call.specs.declared.activity.Activity.TheVariants.{Pulling}
use Rattle.overlay.specs.Overlays.{IsShown}
use Rattle.menu_mgr.specs.Pulling.{pulled_of}
use Rattle.menu_mgr.specs.WholeMenus.{menus_of}
use Rattle.menu_mgr.proofs.MovedSteps.{IsToldSo, moved_front, moved_on, stayed_front, stayed_on, still_hold}
use Rattle.menu_mgr.proofs.menus.Menus.move_to.Goals as goal

pub pull-requires-clause-few : goal.pull-requires-clause-few
pull-requires-clause-few g c =
    let told = c.dim_pulled.ensures in
    (still_hold (window.loan-value g.dyn-2).it (definition.loan-value g.dyn-1).it c.args.activity.now c.args.pulled c.args.self.now c.dim_pulled.new.self
    c.requires.menus c.requires.pulling (record { told = told.told; highlighted = told.highlighted; room = told.room })).few

pub pull-requires-clause-at : goal.pull-requires-clause-at
pull-requires-clause-at g c =
    let told = c.dim_pulled.ensures in
    let many = (still_hold (window.loan-value g.dyn-2).it (definition.loan-value g.dyn-1).it c.args.activity.now c.args.pulled c.args.self.now c.dim_pulled.new.self
    c.requires.menus c.requires.pulling (record { told = told.told; highlighted = told.highlighted; room = told.room })).many in
    omega (arith, many, c.in-Some.ensures.within)

pub pull-requires-clause-live : goal.pull-requires-clause-live
pull-requires-clause-live g c =
    let told = c.dim_pulled.ensures in
    (still_hold (window.loan-value g.dyn-2).it (definition.loan-value g.dyn-1).it c.args.activity.now c.args.pulled c.args.self.now c.dim_pulled.new.self
    c.requires.menus c.requires.pulling (record { told = told.told; highlighted = told.highlighted; room = told.room })).live

pub returns-in-Some-clause-step : goal.returns-in-Some-clause-step
returns-in-Some-clause-step g c begun =
    let windows = (window.loan-value g.dyn-2).it in
    let menus = (definition.loan-value g.dyn-1).it in
    let told = c.dim_pulled.ensures in
    let pull = c.pull.ensures in
    let so : IsToldSo windows menus c.args.pulled None c.args.self.now c.dim_pulled.new.self =
    record { told = told.told; highlighted = told.highlighted; room = told.room } in
    let many = (still_hold windows menus c.args.activity.now c.args.pulled c.args.self.now c.dim_pulled.new.self c.requires.menus c.requires.pulling so).many in
    moved_on windows menus c.args.windows.now c.pull.new.windows c.args.activity.now begun c.args.self.now c.dim_pulled.new.self c.pull.new.self c.pull.new.front c.args.point c.args.pulled c.pull.result c.in-Some.title
    (sym c.is_in_range.ensures ∙ c.if-not-is_in_range.false) c.requires.pulling (sym c.in-Some.ensures.value) c.in-Some.ensures.within (omega (arith, many, c.in-Some.ensures.within))
    so
    (record { menus = pull.menus; highlighted = pull.highlighted; bar = pull.bar; lies = pull.pulled; placed = pull.placed })

pub returns-in-Some-clause-front : goal.returns-in-Some-clause-front
returns-in-Some-clause-front g c =
    let windows = (window.loan-value g.dyn-2).it in
    let menus = (definition.loan-value g.dyn-1).it in
    let told = c.dim_pulled.ensures in
    let pull = c.pull.ensures in
    let so : IsToldSo windows menus c.args.pulled None c.args.self.now c.dim_pulled.new.self =
    record { told = told.told; highlighted = told.highlighted; room = told.room } in
    let many = (still_hold windows menus c.args.activity.now c.args.pulled c.args.self.now c.dim_pulled.new.self c.requires.menus c.requires.pulling so).many in
    moved_front windows menus c.args.windows.now c.pull.new.windows c.args.self.now c.dim_pulled.new.self c.pull.new.self c.pull.new.front c.args.point c.args.pulled c.pull.result c.in-Some.title
    (sym c.in-Some.ensures.value) (omega (arith, many, c.in-Some.ensures.within)) so
    (record { menus = pull.menus; highlighted = pull.highlighted; bar = pull.bar; lies = pull.pulled; placed = pull.placed })

pub returns-in-None-clause-step : goal.returns-in-None-clause-step
returns-in-None-clause-step g c begun =
    let windows = (window.loan-value g.dyn-2).it in
    let menus = (definition.loan-value g.dyn-1).it in
    let told = c.tell.ensures in
    let m = c.args.self.now in
    let k = c.tell.new.self in
    let so : IsToldSo windows menus c.args.pulled c.item_under-item.result m k =
    record { told = told.told; highlighted = told.highlighted; room = told.room } in
    stayed_on windows menus c.args.windows.now c.args.activity.now begun m k c.args.point c.args.pulled c.item_under-item.result
    (sym c.is_in_range.ensures ∙ c.if-not-is_in_range.false) c.requires.pulling (sym c.in-None.ensures.value) c.item_under-item.ensures so

pub returns-in-None-clause-front : goal.returns-in-None-clause-front
returns-in-None-clause-front g c =
    let windows = (window.loan-value g.dyn-2).it in
    let menus = (definition.loan-value g.dyn-1).it in
    let m = c.args.self.now in
    let k = c.tell.new.self in
    stayed_front windows menus c.args.windows.now c.args.activity.now m k c.args.front.now c.tell.new.front c.args.pulled c.item_under-item.result c.requires.pulling
    (subst (λ f. (base : Bits) → IsShown f (pulled_of (Pulling c.args.pulled) (menus_of menus m.list.menus.items)) base c.args.front.now.front
    → IsShown f (pulled_of (Pulling c.args.pulled) (menus_of menus k.list.menus.items)) base c.tell.new.front.front) c.parts.ensures.font c.tell.ensures.front)
    c.requires.front
