use Rattle.std.proofs.Common.{◌≡◌, take, min}
use Rattle.list_cells.specs.Contents.{bytes_held}
use Rattle.list_cells.proofs.content.bytes_held.Given as goal

abbrev pub invariant-loop-content : goal.invariant-loop-content
invariant-loop-content l = l.held ≡ min (bytes_held (take l.content-index l.contents)) 18446744073709551615
