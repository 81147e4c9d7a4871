use Rattle.desk_call.specs.declared.activity.Activity.TheVariants.{Idle}
use Rattle.desk_call.specs.declared.menu.MenuCall.TheVariants.{New}
use Rattle.menu_mgr.specs.Leaving.{opened}
use Rattle.menu_mgr.proofs.Steps.{few_made, made_step, refused_step}
use Rattle.menu_mgr.proofs.menus.Menus.make_and_show.Goals as goal

pub show_titles-requires-clause-few : goal.show_titles-requires-clause-few
show_titles-requires-clause-few g c = few_made _ c.args.new.now c.in-Ok.reply _ _ _ _ c.in-Ok.ensures

pub returns-in-Ok-clause-step : goal.returns-in-Ok-clause-step
returns-in-Ok-clause-step g c begun slots whole = made_step _ _ slots c.args.windows.now c.show_titles.new.windows begun _ _ _ _ c.requires.menus (c.show_titles.ensures.shown slots whole) c.args.new.now c.in-Ok.reply c.in-Ok.ensures

pub returns-in-Err-clause-step : goal.returns-in-Err-clause-step
returns-in-Err-clause-step g c begun slots whole = refused_step _ _ (New c.args.new.now) c.in-Err.refusal slots _ (opened Idle begun) _ _ _ _ whole c.requires.menus c.in-Err.ensures.0 c.in-Err.ensures.1 c.in-Err.ensures.2
