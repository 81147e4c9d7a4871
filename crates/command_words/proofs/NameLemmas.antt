-- What a mode's name stands for.
use Rattle.std.proofs.Common.{◌≡◌, ℕ, List, [], ◌∷◌, map, Option, Some, None, IfSome, IfNone, inl, inr, refl, sym, ap, ◌∙◌, bytes_eq}
use Rattle.std.proofs.lemmas.Slice.Eq.{bytes_eq-Decides}
use Rattle.std.proofs.lemmas.Bool.{cases_Bool}
use Rattle.bit_map.specs.declared.mode.Mode.{Mode}
use Rattle.bit_map.specs.declared.mode.Mode.TheVariants.{Copy, Or, Xor, Bic, NotCopy, NotOr, NotXor, NotBic}
use Rattle.bit_map.specs.Modes.{source_name, pattern_name}
use Rattle.line_words.specs.Tables.{named}
use Rattle.command_words.specs.Names.{modes, pattern_modes, source_modes}

-- a word that names no mode is in no table of their names
no_mode : (name_of : Mode → List ℕ) (word : List ℕ) → ((mode : Mode) → name_of mode ≡ word → ⊥) → (ms : List Mode) → named word (map (λ mode. (name_of mode, mode)) ms) ≡ None
no_mode name_of word none [] = refl
no_mode name_of word none (m ∷ ms) =
    elim (cases_Bool (bytes_eq (name_of m) word)) [
      | inl same ↦ absurd (none m ((bytes_eq-Decides (name_of m) word).0 same))
      | inr other ↦ rw other (no_mode name_of word none ms)
    ]

pub pattern_mode-named : (mode : Mode) → named (pattern_name mode) pattern_modes ≡ Some mode
pattern_mode-named Copy = refl
pattern_mode-named Or = refl
pattern_mode-named Xor = refl
pattern_mode-named Bic = refl
pattern_mode-named NotCopy = refl
pattern_mode-named NotOr = refl
pattern_mode-named NotXor = refl
pattern_mode-named NotBic = refl

pub source_mode-named : (mode : Mode) → named (source_name mode) source_modes ≡ Some mode
source_mode-named Copy = refl
source_mode-named Or = refl
source_mode-named Xor = refl
source_mode-named Bic = refl
source_mode-named NotCopy = refl
source_mode-named NotOr = refl
source_mode-named NotXor = refl
source_mode-named NotBic = refl

pub source_name-apart : (mode : Mode) → named (source_name mode) pattern_modes ≡ None
source_name-apart Copy = refl
source_name-apart Or = refl
source_name-apart Xor = refl
source_name-apart Bic = refl
source_name-apart NotCopy = refl
source_name-apart NotOr = refl
source_name-apart NotXor = refl
source_name-apart NotBic = refl

pub pattern_name-apart : (mode : Mode) → named (pattern_name mode) source_modes ≡ None
pattern_name-apart Copy = refl
pattern_name-apart Or = refl
pattern_name-apart Xor = refl
pattern_name-apart Bic = refl
pattern_name-apart NotCopy = refl
pattern_name-apart NotOr = refl
pattern_name-apart NotXor = refl
pattern_name-apart NotBic = refl

pub found_pattern_mode : (word : List ℕ) (found : Option Mode) → IfSome found (λ mode. pattern_name mode ≡ word) → IfNone found ((mode : Mode) → pattern_name mode ≡ word → ⊥) → named word pattern_modes ≡ found
found_pattern_mode word None s n = no_mode pattern_name word n modes
found_pattern_mode word (Some mode) s n = sym (ap (λ w. named w pattern_modes) s) ∙ pattern_mode-named mode

pub found_source_mode : (word : List ℕ) (found : Option Mode) → IfSome found (λ mode. source_name mode ≡ word) → IfNone found ((mode : Mode) → source_name mode ≡ word → ⊥) → named word source_modes ≡ found
found_source_mode word None s n = no_mode source_name word n modes
found_source_mode word (Some mode) s n = sym (ap (λ w. named w source_modes) s) ∙ source_mode-named mode
