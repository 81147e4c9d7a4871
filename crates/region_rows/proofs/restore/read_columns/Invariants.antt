use Rattle.std.proofs.Common.{◌≡◌, ◌≢◌, ◌≤◌, ◌++◌, All, length, pos}
use Rattle.region_bytes.specs.Words.{words_in}
use Rattle.region_rows.proofs.restore.read_columns.Given as goal

abbrev pub invariant-loop-word : goal.invariant-loop-word
invariant-loop-word l = record {
  told : All (λ x. x ≢ pos 32767) l.columns.items;
  so_far : words_in l.bytes ≡ l.columns.items ++ words_in l.rest;
  short : length l.rest ≤ length l.bytes;
}

abbrev pub decreases-loop-word : goal.decreases-loop-word
decreases-loop-word l = length l.rest
