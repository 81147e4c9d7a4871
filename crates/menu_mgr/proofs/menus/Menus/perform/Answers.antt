use Rattle.std.proofs.Common.{rules, SFits, w32, refl}
use Rattle.std.proofs.lemmas.Int.{to_z-of_z}
use Rattle.desk_call.specs.declared.menu.MenuCall.TheVariants.{New, Dispose, Down, Move, Up}
use Rattle.menu_mgr.specs.Leaving.{opened}
use Rattle.menu_mgr.proofs.Calls.{front_of_edit, front_of_idle, of_edit, of_idle, of_pulled}
use Rattle.menu_mgr.proofs.menus.Menus.perform.Goals as goal

pub returns-in-New-clause-step : goal.returns-in-New-clause-step
returns-in-New-clause-step g c = of_idle _ _ c.args.call.now c.args.activity.now c.requires.admitted c.make_and_show.result c.args.windows.now c.make_and_show.new.windows c.args.self.now c.make_and_show.new.self _ _ (New c.in-New.new) c.in-New.is refl c.make_and_show.ensures.step

pub returns-in-New-clause-front : goal.returns-in-New-clause-front
returns-in-New-clause-front g c = front_of_idle _ _ c.args.call.now c.args.activity.now c.requires.admitted c.make_and_show.result c.args.windows.now c.make_and_show.new.windows c.args.self.now c.make_and_show.new.self _ _ (New c.in-New.new) c.in-New.is refl
    c.requires.kept c.make_and_show.ensures.step c.args.front.now c.requires.front

pub returns-in-Dispose-clause-step : goal.returns-in-Dispose-clause-step
returns-in-Dispose-clause-step g c =
    let fits : SFits w32 c.in-Dispose.menu = search rules in
    let ended = simp to_z-of_z at c.end_and_show.ensures.step in
    of_idle _ _ c.args.call.now c.args.activity.now c.requires.admitted c.end_and_show.result c.args.windows.now c.end_and_show.new.windows c.args.self.now c.end_and_show.new.self _ _ (Dispose c.in-Dispose.menu) c.in-Dispose.is refl ended

pub returns-in-Dispose-clause-front : goal.returns-in-Dispose-clause-front
returns-in-Dispose-clause-front g c =
    let fits : SFits w32 c.in-Dispose.menu = search rules in
    let ended = simp to_z-of_z at c.end_and_show.ensures.step in
    front_of_idle _ _ c.args.call.now c.args.activity.now c.requires.admitted c.end_and_show.result c.args.windows.now c.end_and_show.new.windows c.args.self.now c.end_and_show.new.self _ _ (Dispose c.in-Dispose.menu) c.in-Dispose.is refl
    c.requires.kept ended c.args.front.now c.requires.front

pub returns-in-Down-clause-step : goal.returns-in-Down-clause-step
returns-in-Down-clause-step g c begun = of_pulled _ _ c.args.call.now c.args.activity.now c.requires.admitted c.press_at.result _ _ _ _ _ (Down c.in-Down.point)
    (opened c.args.activity.now begun) (opened c.press_at.new.activity begun) c.in-Down.is c.requires.menus (c.press_at.ensures.step begun)

pub returns-in-Pulling-clause-step : goal.returns-in-Pulling-clause-step
returns-in-Pulling-clause-step g c begun = of_pulled _ _ c.args.call.now c.args.activity.now c.requires.admitted c.move_to.result _ _ _ _ _ (Move c.in-Move.point)
    (opened c.args.activity.now begun) (opened c.move_to.new.activity begun) c.in-Move.is c.requires.menus (c.move_to.ensures.step begun)

pub returns-in-Pulling-activity-clause-step : goal.returns-in-Pulling-activity-clause-step
returns-in-Pulling-activity-clause-step g c begun = of_pulled _ _ c.args.call.now c.args.activity.now c.requires.admitted c.release_at.result _ _ _ _ _ (Up c.in-Up.point)
    (opened c.args.activity.now begun) (opened c.release_at.new.activity begun) c.in-Up.is c.requires.menus (c.release_at.ensures.step begun)

pub returns-in-Pulling-activity-clause-front : goal.returns-in-Pulling-activity-clause-front
returns-in-Pulling-activity-clause-front g c = c.release_at.ensures.front c.args.front.now c.requires.front

pub returns-in_default-clause-step : goal.returns-in_default-clause-step
returns-in_default-clause-step g c = of_edit _ _ c.args.call.now c.args.activity.now c.requires.admitted c.edit_and_show.result _ _ _ _ _ (search rules) c.requires.menus c.edit_and_show.ensures.step

pub returns-in_default-clause-front : goal.returns-in_default-clause-front
returns-in_default-clause-front g c = front_of_edit _ _ c.args.call.now c.args.activity.now c.requires.admitted c.edit_and_show.result _ _ _ _ _ (search rules) c.requires.kept c.requires.menus c.edit_and_show.ensures.step
    c.args.front.now c.requires.front
