use Rattle.list_mgr.proofs.BarsSet.{bar_set}
use Rattle.list_mgr.proofs.bars.set_bar.Goals as goal

pub returns-in-Some : goal.returns-in-Some
returns-in-Some g c = bar_set _ _ c.args.window c.args.bar c.in-Some.control c.args.values c.args.windows.now c.set_setting.new.windows c.args.controls.now c.set_setting.new.self c.in-Some.is c.set_setting.ensures
