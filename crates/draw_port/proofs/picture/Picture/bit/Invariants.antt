use Rattle.std.proofs.Common.{◌≡◌, take}
use Rattle.draw_port.specs.Ops.{picture_bit}
use Rattle.draw_port.proofs.picture.Picture.bit.Given as goal

abbrev pub invariant-loop-op : goal.invariant-loop-op
invariant-loop-op l = l.bit ≡ picture_bit l.font (take l.op-index l.self) l.point
