use Rattle.std.proofs.Common.{rules}
use Rattle.window_paint.proofs.frames.moved.Goals as goal

pub returns : goal.returns
returns c =
    let sides = rw c.unwrap.ensures at c.offset.ensures.sides in
    search rules
