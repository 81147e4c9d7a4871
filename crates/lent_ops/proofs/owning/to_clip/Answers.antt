use Rattle.std.proofs.Common.{refl}
use Rattle.lent_ops.proofs.owning.to_clip.Goals as goal

pub returns-in_ok-to_region-in-Some : goal.returns-in_ok-to_region-in-Some
returns-in_ok-to_region-in-Some c = rw c.in-Some.is (c.in_ok-to_region-in-Some.field-0, c.in_ok-to_region-in-Some.ensures, refl)
