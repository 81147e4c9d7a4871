use Rattle.std.proofs.Common.{◌≡◌, ◌≤◌, ◌+◌, ◌++◌, replicate, vec_len, vec_capacity}
use Rattle.list_cells.specs.Contents.{empty_content}
use Rattle.list_cells.proofs.content.append_empty.Given as goal

abbrev pub invariant-loop : goal.invariant-loop
invariant-loop l = record {
  items : l.contents.items ≡ l.fn.contents.items ++ replicate l.counter empty_content;
  len : vec_len l.contents ≡ vec_len l.fn.contents + l.counter;
  capacity : vec_capacity l.fn.contents ≤ vec_capacity l.contents;
}
