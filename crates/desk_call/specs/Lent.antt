-- A picture that is lent.
use Rattle.std.specs.Prelude.{List, [], Option, None, Some}
use Rattle.std.specs.Borrow.{Bor}
use Rattle.draw_port.specs.declared.shapes.Op.{Op}

-- the operations of the picture, if there is one
abbrev pub operations_lent : Option (Bor (List Op)) → List Op
operations_lent None = []
operations_lent (Some p) = p.now
