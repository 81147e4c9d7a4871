use Rattle.std.proofs.Common.{refl}
use Rattle.control_mgr.proofs.SettingsPut.{none_there, setting_missed, setting_put}
use Rattle.control_mgr.proofs.setting.Controls+TakenControl.set_setting.Goals as goal

pub returns-in-Ok : goal.returns-in-Ok
returns-in-Ok g c o r =
    setting_put _ _ c.args.control c.args.windows.now c.args.self.now c.args.values c.in-Ok.spot c.in-Ok.ensures c.state-state.result _ c.state-state.ensures refl c.put.new.windows c.put.new.self o r
    (c.put.ensures.put c.args.control c.in-Ok.ensures o r)

pub returns-in_default : goal.returns-in_default
returns-in_default g c o r =
    setting_missed _ _ c.args.control c.args.windows.now c.args.self.now c.args.values o r
    (none_there _ _ c.args.control c.args.windows.now c.args.self.now c.in_default.field-0 c.requires.beside c.in_default.ensures)
