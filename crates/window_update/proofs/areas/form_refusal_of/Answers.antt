use Rattle.std.proofs.Common.{None, refl}
use Rattle.window_update.proofs.areas.form_refusal_of.Goals as goal

pub returns-in_default-2 : goal.returns-in_default-2
returns-in_default-2 c = let h = rw c.in_default.is at c.judge.ensures in (None, h.0, refl)
