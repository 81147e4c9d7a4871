use Rattle.std.proofs.Common.{refl}
use Rattle.control_mgr.proofs.Presses.{highlighted}
use Rattle.control_mgr.proofs.tracking.Controls+TakenControl.highlight.Goals as goal

pub returns : goal.returns
returns g c named is o r =
    highlighted _ _ named c.args.windows.now c.args.self.now c.args.spot is c.args.highlight c.state-state.result _ c.put.new.windows c.put.new.self o r c.state-state.ensures refl (c.put.ensures.put named is o r)
