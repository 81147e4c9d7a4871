use Rattle.std.proofs.Common.{◌≡◌, ◌≤◌, ◌*◌, drop}
use Rattle.text_lines.specs.Ends.{line_walk}
use Rattle.text_lines.proofs.ends.line_length.Given as goal

abbrev pub invariant-loop-character : goal.invariant-loop-character
invariant-loop-character l = record {
  value : line_walk l.widths l.room l.wide l.done l.last (drop l.character-index l.text) ≡ line_walk l.widths l.room 0 0 0 l.text;
  count : l.done ≡ l.character-index;
  last : l.last ≤ l.done;
  small : l.wide ≤ 255 * l.character-index;
}
