-- The lines of a script, and what each says.
use Rattle.std.specs.Prelude.{ℕ, ℤ, Bool, true, List, [], ◌∷◌, ◌++◌, length, map, Option, Some, None, Result, Err, nat_lt, ◌==◌, if◌then◌else◌}
use Rattle.std.specs.List.{list_all}
use Rattle.std.specs.Str.Lines.{strip_carriage_return}
use Rattle.tb_geom.specs.declared.refusal.Refusal.{Refusal}
use Rattle.tb_geom.specs.declared.refusal.Refusal.TheVariants.{BadSyntax, TooLong}
use Rattle.script_text.specs.declared.command.Command.{Command}
use Rattle.script_text.specs.Commands.{command_of}
use Rattle.line_words.specs.Words.{is_plain}

-- one byte more at the front of the first part, or, where no newline comes, of what is left
abbrev pub add_front : ℕ → List (List ℕ) × List ℕ → List (List ℕ) × List ℕ
add_front b p = elim p.0 [ [] ↦ ([], b ∷ p.1) | ◌∷◌ line lines ↦ ((b ∷ line) ∷ lines, p.1) ]

-- the parts that newlines end, and what is left after them
abbrev pub cut : List ℕ → List (List ℕ) × List ℕ
cut [] = ([], [])
cut (b ∷ bs) = if b == 10 then ([] ∷ (cut bs).0, (cut bs).1) else add_front b (cut bs)

-- the lines that a newline ends; a return before it belongs to the ending
unfoldable pub whole_lines : List ℕ → List (List ℕ)
whole_lines script = map strip_carriage_return (cut script).0

-- what has come of the next line
unfoldable pub last_part : List ℕ → List ℕ
last_part script = (cut script).1

abbrev pub if_any : List ℕ → List (List ℕ)
if_any [] = []
if_any (b ∷ bs) = (b ∷ bs) ∷ []

-- all lines of a script: the last may lack its newline
abbrev pub lines_of : List ℕ → List (List ℕ)
lines_of script = whole_lines script ++ if_any (last_part script)

-- whether a line is empty or a comment, which begins with `#`
abbrev pub is_skipped : List ℕ → Bool
is_skipped [] = true
is_skipped (b ∷ bs) = b == 35

-- what a line says in a script of this version, nothing where it is skipped: the first that applies of too long, skipped, other bytes than plain ones,
-- and what its words say
unfoldable pub said : ℤ → List ℕ → Option (Result Command Refusal)
said version line =
    if nat_lt 1024 (length line) then Some (Err TooLong)
    else (if is_skipped line then None
    else (if list_all is_plain line then Some (command_of version line) else Some (Err BadSyntax)))
