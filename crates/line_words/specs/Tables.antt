-- Tables of words.
use Rattle.std.specs.Prelude.{ℕ, List, [], ◌∷◌, Option, Some, None, if◌then◌else◌}
use Rattle.std.specs.Str.{bytes_eq}

-- what the first entry with a word stands for
abbrev pub named : {A : Type 0} → List ℕ → List (List ℕ × A) → Option A
named word [] = None
named word (entry ∷ entries) = if bytes_eq entry.0 word then Some entry.1 else named word entries
