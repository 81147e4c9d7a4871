-- In version 1 a line says what it says in version 2, but that there is no floating window.
use Rattle.std.proofs.Common.{◌≡◌, ◌⊎◌, inl, inr, ℕ, ℤ, pos, Bool, true, false, if◌then◌else◌, List, length, Option, Some, None, Result, Ok, Err, bytes_eq, refl, sym, ap, ◌∙◌}
use Rattle.std.specs.Prelude.{nat_lt, codes}
use Rattle.std.specs.List.{list_all}
use Rattle.tb_geom.specs.declared.refusal.Refusal.{Refusal}
use Rattle.tb_geom.specs.declared.refusal.Refusal.TheVariants.{BadSyntax, TooLong}
use Rattle.desk_call.specs.declared.call.Call.TheVariants.{Window}
use Rattle.desk_call.specs.declared.window.NewWindow.{NewWindow}
use Rattle.desk_call.specs.declared.window.WindowCall.TheVariants.{NewFloating}
use Rattle.line_words.specs.Words.{◌>>=◌, Field, word_at, is_plain}
use Rattle.line_words.specs.Shapes.{Shape, ends, never, number, flag, name, text, hex, bytes, mapped, reading}
use Rattle.line_words.specs.Spelling.{IsSpelled}
use Rattle.line_words.specs.Tables.{named}
use Rattle.line_words.proofs.Mapped.{mapped_ok, mapped_err}
use Rattle.line_words.proofs.Spelled.{reads}
use Rattle.command_words.specs.declared.verb.Verb.{Verb}
use Rattle.command_words.specs.declared.verb.Verb.TheVariants as words
use Rattle.command_words.specs.declared.windows.WindowVerb.TheVariants as windows
use Rattle.command_words.specs.Drawings.{operations_of, clipped_shape, clip_shape, drawing_shape}
use Rattle.command_words.specs.Verbs.{verbs, later_verbs, verbs_of}
use Rattle.command_words.specs.WindowWords.{new_shape, window_shape}
use Rattle.command_words.proofs.NamedLemmas.{first_found, named-append}
use Rattle.script_text.specs.declared.command.Command.{Command}
use Rattle.script_text.specs.declared.command.Command.TheVariants.{Call}
use Rattle.script_text.specs.Commands.{shape_of, read_with, command_of}
use Rattle.script_text.specs.Lines.{is_skipped, said}

-- no line of the shape names what there may not be
abbrev AreKnown : {A : Type 0} → Shape A → Type 0
AreKnown (ends None) = ⊥
AreKnown (ends (Some x)) = Unit {0}
AreKnown never = Unit {0}
AreKnown (number next) = (n : ℤ) → AreKnown (next n)
AreKnown (flag next) = (b : Bool) → AreKnown (next b)
AreKnown (name next) = (word : List ℕ) → AreKnown (next word)
AreKnown (text next) = (t : List ℕ) → AreKnown (next t)
AreKnown (hex next) = (said : List ℕ) → AreKnown (next said)
AreKnown (bytes next) = (said : List ℕ) → AreKnown (next said)

-- so a line of the shape says something
known-spelled : {A : Type 0} (s : Shape A) → AreKnown s → (rest : Option (List ℕ)) (r : Result A Refusal) → IsSpelled s rest r → (x : A) × (Ok x ≡ r)
known-spelled (ends None) known rest r h = absurd known
known-spelled (ends (Some x)) known rest r (e, h) = (x, h)
known-spelled never known rest r h = absurd h
known-spelled (number next) known rest r (word, more, z, e, n, h) = known-spelled (next z) (known z) more r h
known-spelled (flag next) known rest r (word, more, b, e, n, h) = known-spelled (next b) (known b) more r h
known-spelled (name next) known rest r (word, more, e, n, h) = known-spelled (next word) (known word) more r h
known-spelled (text next) known rest r (t, more, e, n, h) = known-spelled (next t) (known t) more r h
known-spelled (hex next) known rest r (word, more, said, e, n, h) = known-spelled (next said) (known said) more r h
known-spelled (bytes next) known rest r (word, more, said, e, n, h) = known-spelled (next said) (known said) more r h

-- the words of a new window are a window, or bad syntax
new_read : (rest : Option (List ℕ)) → ((w : NewWindow) × (reading new_shape rest ≡ Ok w)) ⊎ (reading new_shape rest ≡ Err BadSyntax)
new_read rest =
    elim (reads new_shape rest) [
      | inl spelled ↦
          let said = known-spelled new_shape (λ kind h v width height shown go_away title. tt) rest (reading new_shape rest) spelled in
          inl (said.0, sym said.1)
      | inr bad ↦ inr bad
    ]

-- `f` makes the same of a floating window and of bad syntax
module _ {B : Type 0} (f : Option (Result Command Refusal) → B) (of_floating : (w : NewWindow) → f (Some (Ok (Call (Window (NewFloating w))))) ≡ f (Some (Err BadSyntax))) where
  float_read : (rest : Option (List ℕ)) → f (Some (reading (shape_of (pos 2) (words.Window windows.Float)) rest)) ≡ f (Some (Err BadSyntax))
  unfolding window_shape
  float_read rest =
      elim (new_read rest) [
        | inl good ↦
            let said = mapped_ok (λ call. Call (Window call)) (mapped NewFloating new_shape) rest (NewFloating good.0) (mapped_ok NewFloating new_shape rest good.0 good.1) in
            ap (λ r. f (Some r)) said ∙ of_floating good.0
        | inr bad ↦
            let said = mapped_err (λ call. Call (Window call)) (mapped NewFloating new_shape) rest BadSyntax (mapped_err NewFloating new_shape rest BadSyntax bad) in
            ap (λ r. f (Some r)) said
      ]

  -- the verbs of all versions are read alike in both
  verb_same : (verb : Verb) (rest : Option (List ℕ)) → reading (shape_of (pos 1) verb) rest ≡ reading (shape_of (pos 2) verb) rest
  unfolding window_shape drawing_shape clip_shape clipped_shape operations_of
  verb_same (words.Window windows.Draw) rest = refl
  verb_same verb rest = refl

  later_same : (rest : Option (List ℕ)) (floats : Bool) → f (Some (Err BadSyntax)) ≡ f (Some (read_with (pos 2) (if floats then Some (words.Window windows.Float) else None) rest))
  later_same rest true = sym (float_read rest)
  later_same rest false = refl

  word_same : (first : Option Verb) (word : List ℕ) (rest : Option (List ℕ))
      → f (Some (read_with (pos 1) (first_found first (named word (later_verbs (pos 1)))) rest)) ≡ f (Some (read_with (pos 2) (first_found first (named word (later_verbs (pos 2)))) rest))
  word_same (Some verb) word rest = ap (λ r. f (Some r)) (verb_same verb rest)
  word_same None word rest = later_same rest (bytes_eq (codes "float") word)

  table_same : (word : List ℕ) (rest : Option (List ℕ)) → f (Some (read_with (pos 1) (named word (verbs_of (pos 1))) rest)) ≡ f (Some (read_with (pos 2) (named word (verbs_of (pos 2))) rest))
  unfolding verbs_of
  table_same word rest =
      ap (λ o. f (Some (read_with (pos 1) o rest))) (named-append word verbs (later_verbs (pos 1)))
      ∙ word_same (named word verbs) word rest
      ∙ sym (ap (λ o. f (Some (read_with (pos 2) o rest))) (named-append word verbs (later_verbs (pos 2))))

  command_same : (line : List ℕ) → f (Some (command_of (pos 1) line)) ≡ f (Some (command_of (pos 2) line))
  unfolding command_of
  command_same line = by_word (word_at (Some line))
    where
      by_word : (word : Field (List ℕ)) → f (Some (word >>= λ x. read_with (pos 1) (named x.0 (verbs_of (pos 1))) x.1)) ≡ f (Some (word >>= λ x. read_with (pos 2) (named x.0 (verbs_of (pos 2))) x.1))
      by_word (Ok x) = table_same x.0 x.1
      by_word (Err e) = refl

  pub said_without_floating : (line : List ℕ) → f (said (pos 1) line) ≡ f (said (pos 2) line)
  unfolding said
  said_without_floating line = by_tests (nat_lt 1024 (length line)) (is_skipped line) (list_all is_plain line)
    where
      by_tests : (long skipped plain : Bool) → f (if long then Some (Err TooLong) else (if skipped then None else (if plain then Some (command_of (pos 1) line) else Some (Err BadSyntax))))
          ≡ f (if long then Some (Err TooLong) else (if skipped then None else (if plain then Some (command_of (pos 2) line) else Some (Err BadSyntax))))
      by_tests true skipped plain = refl
      by_tests false true plain = refl
      by_tests false false true = command_same line
      by_tests false false false = refl
