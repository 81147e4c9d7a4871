use Rattle.std.proofs.Common.{◌≡◌, ◌≤◌, ◌+◌, ◌*◌, ◌++◌, drop, vec_len, vec_capacity}
use Rattle.list_cells.specs.Contents.{opened, in_rows}
use Rattle.list_cells.proofs.content.open_rows.Given as goal

abbrev pub invariant-loop : goal.invariant-loop
invariant-loop l = record {
  items : l.contents.items ≡ drop (l.counter * l.width) l.fn.contents.items ++ in_rows l.width (opened l.at l.count) l.counter l.fn.contents.items;
  len : vec_len l.contents ≡ vec_len l.fn.contents + l.counter * l.count;
  capacity : vec_capacity l.fn.contents ≤ vec_capacity l.contents;
}
