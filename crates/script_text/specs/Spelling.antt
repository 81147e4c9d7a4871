-- Which line says which command, apart from how it is read.
use Rattle.std.specs.Prelude.{◌≡◌, ℕ, ℤ, List, ◌++◌, Option, Some, Result}
use Rattle.tb_geom.specs.declared.refusal.Refusal.{Refusal}
use Rattle.line_words.specs.Forms.{follows, HasNo}
use Rattle.line_words.specs.Spelling.{IsSpelled}
use Rattle.line_words.specs.Tables.{named}
use Rattle.script_text.specs.declared.command.Command.{Command}
use Rattle.command_words.specs.declared.verb.Verb.{Verb}
use Rattle.command_words.specs.Verbs.{verbs_of}
use Rattle.script_text.specs.Commands.{shape_of}

-- In a script of this version the line is a verb and the words that follow it, and says this.
abbrev pub IsLine : ℤ → List ℕ → Result Command Refusal → Type 0
IsLine version line r = (word : List ℕ) × (more : Option (List ℕ)) × (verb : Verb)
    × (line ≡ word ++ follows more) × HasNo 32 word × (named word (verbs_of version) ≡ Some verb) × IsSpelled (shape_of version verb) more r
