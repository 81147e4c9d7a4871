-- The end of the input is the end of a line.
use Rattle.std.proofs.Common.{◌≡◌, ℕ, ℤ, List, [], ◌∷◌, Some, refl}
use Rattle.script_text.specs.Lines.{said}
use Rattle.script_text.specs.Held.{said_last}

-- the last line says what it would say before a newline; where it is empty there is none, and an empty line is skipped
pub said_at_end : (version : ℤ) (part : List ℕ) → said version part ≡ said_last version (Some part)
unfolding said
said_at_end version [] = refl
said_at_end version (b ∷ bs) = refl
