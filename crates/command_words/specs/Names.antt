-- What the words of drawing stand for that are names.
use Rattle.std.specs.Prelude.{ℕ, List, [], ◌∷◌, map, Option, option_map, codes}
use Rattle.std.specs.Option.{option_and_then}
use Rattle.bit_map.specs.declared.mode.Mode.{Mode}
use Rattle.bit_map.specs.declared.mode.Mode.TheVariants.{Copy, Or, Xor, Bic, NotCopy, NotOr, NotXor, NotBic}
use Rattle.bit_map.specs.declared.pattern.Pattern.{Pattern}
use Rattle.bit_map.specs.Modes.{source_name, pattern_name}
use Rattle.draw_port.specs.declared.shapes.Shade.{Shade}
use Rattle.draw_port.specs.declared.shapes.TextMode.{TextMode}
use Rattle.draw_port.specs.declared.shapes.TextMode.TheVariants as texts
use Rattle.line_words.specs.Tables.{named}

abbrev pub modes : List Mode
modes = Copy ∷ Or ∷ Xor ∷ Bic ∷ NotCopy ∷ NotOr ∷ NotXor ∷ NotBic ∷ []

-- the modes of patterns
abbrev pub pattern_modes : List (List ℕ × Mode)
pattern_modes = map (λ mode. (pattern_name mode, mode)) modes

-- the modes of images
abbrev pub source_modes : List (List ℕ × Mode)
source_modes = map (λ mode. (source_name mode, mode)) modes

-- the modes of texts
abbrev pub text_modes : List (List ℕ × TextMode)
text_modes = (codes "srcOr", texts.Or) ∷ (codes "srcXor", texts.Xor) ∷ (codes "srcBic", texts.Bic) ∷ []

-- the pattern whose rows are these two in turn
abbrev pub pattern_of : ℕ → ℕ → Pattern
pattern_of even odd = record { rows = even ∷ odd ∷ even ∷ odd ∷ even ∷ odd ∷ even ∷ odd ∷ [] }

abbrev pub patterns : List (List ℕ × Pattern)
patterns =
    (codes "black", pattern_of 0xFF 0xFF)
    ∷ (codes "dkGray", pattern_of 0x77 0xDD)
    ∷ (codes "gray", pattern_of 0xAA 0x55)
    ∷ (codes "ltGray", pattern_of 0x88 0x22)
    ∷ (codes "white", pattern_of 0 0)
    ∷ []

-- a pattern put down by a mode, from the names of both
unfoldable pub shade_of : List ℕ → List ℕ → Option Shade
shade_of mode pattern = option_and_then (λ m. option_map (λ p. record { pattern = p; mode = m }) (named pattern patterns)) (named mode pattern_modes)

-- the mode of an image, from its name
unfoldable pub source_mode_of : List ℕ → Option Mode
source_mode_of mode = named mode source_modes

-- the mode of a text, from its name
unfoldable pub text_mode_of : List ℕ → Option TextMode
text_mode_of mode = named mode text_modes
