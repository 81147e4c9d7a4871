use Rattle.std.proofs.Common.{◌≡◌, ◌+◌, ◌*◌, ◌++◌, drop, vec_len}
use Rattle.list_cells.specs.Contents.{closed, in_rows}
use Rattle.list_cells.proofs.content.close_rows.Given as goal

abbrev pub invariant-loop : goal.invariant-loop
invariant-loop l = record {
  items : l.contents.items ≡ drop (l.counter * l.width) l.fn.contents.items ++ in_rows l.width (closed l.at l.count) l.counter l.fn.contents.items;
  len : vec_len l.contents + l.counter * l.count ≡ vec_len l.fn.contents;
}
