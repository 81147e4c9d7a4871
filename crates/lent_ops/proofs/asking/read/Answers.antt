use Rattle.region_bytes.proofs.Decoded.{not_bad}
use Rattle.lent_ops.proofs.SaidPixels.{region_is}
use Rattle.lent_ops.proofs.asking.read.Goals as goal

pub unreachable-requires : goal.unreachable-requires
unreachable-requires c = not_bad c.args.bytes.now c.requires.0 c.in-Err.field-0 c.requires.1 (rw c.as_slice.ensures at c.in-Err.ensures)

pub returns : goal.returns
returns c = region_is c.args.bytes.now c.in-Ok.region (rw c.as_slice.ensures at c.in-Ok.ensures)
