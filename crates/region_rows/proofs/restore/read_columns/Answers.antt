use Rattle.std.proofs.Common.{sym, ◌∙◌, ap, ◌++◌}
use Rattle.std.proofs.lemmas.List.{append-nil}
use Rattle.region_bytes.proofs.Flags.{no_words_left}
use Rattle.region_rows.proofs.Restored.{no_end}
use Rattle.region_rows.proofs.restore.read_columns.Goals as goal

pub returns-clause-columns : goal.returns-clause-columns
returns-clause-columns c =
    λ columns after e.
    let s = c.loop-word.invariant in
    absurd (no_end c.loop-word.columns.items columns after s.told (sym (s.so_far ∙ ap (λ l. c.loop-word.columns.items ++ l) (no_words_left _ c.in_default.ensures) ∙ append-nil _) ∙ e))
