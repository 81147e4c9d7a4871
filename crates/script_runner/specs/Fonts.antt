-- The font of a script's texts.
use Rattle.std.specs.Prelude.{◌≡◌, ℕ, true, List, Option, None, Some, if◌then◌else◌}
use Rattle.tb_geom.specs.declared.refusal.Refusal.{Refusal}
use Rattle.tb_geom.specs.declared.refusal.Refusal.TheVariants.{NoMemory, BadFont}
use Rattle.strike_font.specs.BuiltIn.{IsBuiltIn}
use Rattle.strike_font.specs.Record.{is_font}

-- the font where these bytes are given, which are a font's, or where none are: the built-in one
abbrev pub IsFontOf : Option (List ℕ) → List ℕ → Type 0
IsFontOf None font = IsBuiltIn font
IsFontOf (Some bytes) font = (is_font bytes ≡ true) × (font ≡ bytes)

-- why there is no font
abbrev pub why_fontless : Option (List ℕ) → Refusal
why_fontless None = NoMemory
why_fontless (Some bytes) = if is_font bytes then NoMemory else BadFont
