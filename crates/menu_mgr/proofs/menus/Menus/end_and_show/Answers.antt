use Rattle.std.proofs.Common.{rules, SFits, w32, refl}
use Rattle.std.proofs.lemmas.Int.{to_z-of_z}
use Rattle.menu_list.specs.Lists.{menu_index}
use Rattle.menu_mgr.proofs.Steps.{ended_step, few_ended, no_menu_step}
use Rattle.menu_mgr.proofs.menus.Menus.end_and_show.Goals as goal

pub show_titles-requires-clause-few : goal.show_titles-requires-clause-few
show_titles-requires-clause-few g c =
    let fits : SFits w32 c.args.menu = search rules in
    let ended = simp to_z-of_z at c.in-Ok.ensures in
    few_ended _ (menu_index c.args.menu c.args.self.now.list.menus.items) c.in-Ok.reply _ _ _ _ c.requires.menus.few ended

pub returns-in-Ok-clause-step : goal.returns-in-Ok-clause-step
returns-in-Ok-clause-step g c begun slots whole =
    let fits : SFits w32 c.args.menu = search rules in
    let ended = simp to_z-of_z at c.in-Ok.ensures in
    ended_step _ _ slots c.args.windows.now c.show_titles.new.windows begun _ _ _ _ c.requires.menus (c.show_titles.ensures.shown slots whole) c.args.menu (menu_index c.args.menu c.args.self.now.list.menus.items) c.in-Ok.reply refl ended

pub returns-in-Err-clause-step : goal.returns-in-Err-clause-step
returns-in-Err-clause-step g c begun slots whole =
    let fits : SFits w32 c.args.menu = search rules in
    let ended = simp to_z-of_z at c.in-Err.ensures in
    no_menu_step _ _ c.args.menu (menu_index c.args.menu c.args.self.now.list.menus.items) c.in-Err.refusal slots _ begun _ _ _ _ refl whole c.requires.menus ended
