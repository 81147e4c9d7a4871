use Rattle.std.proofs.Common.{◌≡◌, ◌+◌, drop}
use Rattle.text_lines.specs.Ends.{hang_length}
use Rattle.text_lines.proofs.ends.hang.Given as goal

abbrev pub invariant-loop-character : goal.invariant-loop-character
invariant-loop-character l = record {
  value : l.done + hang_length (drop l.character-index l.text) ≡ hang_length l.text;
  count : l.done ≡ l.character-index;
}
