-- What is held of a line while its bytes come, and what is said of it in the end.
use Rattle.std.specs.Prelude.{ℕ, ℤ, List, [], ◌∷◌, ◌++◌, length, Option, Some, None, Result, Err, nat_lt, nat_le, if◌then◌else◌}
use Rattle.std.specs.Str.Lines.{strip_carriage_return}
use Rattle.tb_geom.specs.declared.refusal.Refusal.{Refusal}
use Rattle.tb_geom.specs.declared.refusal.Refusal.TheVariants.{TooLong}
use Rattle.script_text.specs.declared.command.Command.{Command}
use Rattle.script_text.specs.Lines.{said}

-- a part of a line as it is held: at most 1025 bytes
unfoldable pub held_of : List ℕ → Option (List ℕ)
held_of part = if nat_le (length part) 1025 then Some part else None

-- what is held once one more byte has come
abbrev pub pushed : Option (List ℕ) → ℕ → Option (List ℕ)
pushed None b = None
pushed (Some xs) b = if nat_lt (length xs) 1025 then Some (xs ++ b ∷ []) else None

-- what a line says that a newline ends in a script of this version, from what is held of it
abbrev pub said_held : ℤ → Option (List ℕ) → Option (Result Command Refusal)
said_held version None = Some (Err TooLong)
said_held version (Some part) = said version (strip_carriage_return part)

-- what the last line says, which no newline ends, from what is held of it
abbrev pub said_last : ℤ → Option (List ℕ) → Option (Result Command Refusal)
said_last version None = Some (Err TooLong)
said_last version (Some []) = None
said_last version (Some (b ∷ bs)) = said version (b ∷ bs)
