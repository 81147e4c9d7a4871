use Rattle.std.proofs.Common.{◌≡◌, map, drop}
use Rattle.line_words.specs.Tables.{named}
use Rattle.line_words.proofs.table.named.Given as goal

-- the entries that are left give what all give
abbrev pub invariant-loop-name : goal.invariant-loop-name
invariant-loop-name g l = named l.word (map (λ v. (v.0.now, v.1)) (drop l.name-index l.table)) ≡ named l.word (map (λ v. (v.0.now, v.1)) l.table)
