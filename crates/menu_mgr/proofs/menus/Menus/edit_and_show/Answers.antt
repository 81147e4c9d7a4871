use Rattle.std.proofs.Common.{refl}
use Rattle.def_iface.specs.contracts.taken_menu.TakenMenuDefined.TheImpl as taken
use Rattle.menu_mgr.proofs.Steps.{edited_step, few_after, refused_edit}
use Rattle.menu_mgr.proofs.menus.Menus.edit_and_show.Goals as goal

pub show_titles-requires-clause-few : goal.show_titles-requires-clause-few
show_titles-requires-clause-few g c = few_after (taken.loan-value g.dyn-1).it c.args.call.now _ _ c.in-Ok.ensures.1.menus c.requires.few

pub returns-in-Ok-clause-step : goal.returns-in-Ok-clause-step
returns-in-Ok-clause-step g c begun kept menus slots whole = edited_step _ _ c.args.call.now c.requires.edits slots c.args.windows.now c.show_titles.new.windows begun _ _ kept menus refl c.in-Ok.reply c.in-Ok.ensures (c.show_titles.ensures.shown slots whole)

pub returns-in-Err-clause-step : goal.returns-in-Err-clause-step
returns-in-Err-clause-step g c begun kept menus slots whole = refused_edit _ _ c.args.call.now c.requires.edits slots c.args.windows.now c.args.windows.now begun _ _ kept menus refl c.in-Err.refusal c.in-Err.ensures whole
