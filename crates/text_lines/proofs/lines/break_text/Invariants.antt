use Rattle.std.proofs.Common.{◌≡◌, ◌≤◌, ◌-◌, ◌++◌, length, drop, vec_len, vec_capacity}
use Rattle.text_lines.specs.Lines.{text_lines}
use Rattle.text_lines.proofs.LineLemmas.{rest_lines}
use Rattle.text_lines.proofs.lines.break_text.Given as goal

abbrev pub invariant-loop-room : goal.invariant-loop-room
invariant-loop-room l = record {
  lines : l.lines.items ++ rest_lines l.widths l.room l.start (drop l.start l.text) ≡ text_lines l.widths l.room l.text;
  within : l.start ≤ length l.text;
  few : vec_len l.lines ≤ l.start;
  capacity : vec_capacity l.fn.lines ≤ vec_capacity l.lines;
}

abbrev pub decreases-loop-room : goal.decreases-loop-room
decreases-loop-room l = length l.text - l.start
