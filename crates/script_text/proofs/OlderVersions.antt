-- An older version says of a line what a newer one says, or BadSyntax.
use Rattle.std.proofs.Common.{◌≡◌, ◌⊎◌, inl, inr, ℕ, ℤ, pos, Bool, true, false, if◌then◌else◌, List, [], ◌∷◌, ◌++◌, length, Option, Some, None, Result, Ok, Err, bytes_eq, refl, sym, ap, ◌∙◌, subst, arith}
use Rattle.std.specs.Prelude.{int_le, nat_lt, codes, ◌≤ℤ◌}
use Rattle.std.specs.List.{list_all}
use Rattle.std.proofs.lemmas.Int.{ints}
use Rattle.tb_geom.specs.declared.refusal.Refusal.{Refusal}
use Rattle.tb_geom.specs.declared.refusal.Refusal.TheVariants.{BadSyntax, TooLong}
use Rattle.desk_call.specs.declared.call.Call.TheVariants as calls
use Rattle.desk_call.specs.declared.window.WindowCall.TheVariants as window_calls
use Rattle.line_words.specs.Words.{◌>>=◌, Field, number_at, name_at, hex_at, word_at, is_plain, serial_of}
use Rattle.line_words.specs.Shapes.{Shape, name, mapped, reading}
use Rattle.line_words.specs.Tables.{named}
use Rattle.line_words.proofs.Mapped.{reading_mapped, mapped_err}
use Rattle.command_words.specs.declared.operation.Operation.{Operation}
use Rattle.command_words.specs.declared.verb.Verb.{Verb}
use Rattle.command_words.specs.declared.verb.Verb.TheVariants as words
use Rattle.command_words.specs.declared.windows.WindowVerb.TheVariants as windows
use Rattle.command_words.specs.Drawings.{operations, form_operations, frame_operations, later_operations, operations_of, operation_shape, clipped_shape, clip_shape, drawing_shape}
use Rattle.command_words.specs.Verbs.{verbs, verbs_of_3, later_verbs, verbs_of}
use Rattle.command_words.specs.WindowWords.{window_shape}
use Rattle.command_words.proofs.NamedLemmas.{first_found, named-append}
use Rattle.script_text.specs.declared.command.Command.{Command}
use Rattle.script_text.specs.declared.command.Command.TheVariants.{Call}
use Rattle.script_text.specs.Commands.{shape_of, read_with, command_of}
use Rattle.script_text.specs.Lines.{is_skipped, said}

-- the same, or BadSyntax
abbrev OrBad : {A : Type 0} → Result A Refusal → Result A Refusal → Type 0
OrBad x y = (x ≡ y) ⊎ (x ≡ Err BadSyntax)

-- so of whatever is left of a line
abbrev IsOlder : {A : Type 0} → Shape A → Shape A → Type 0
IsOlder s t = (rest : Option (List ℕ)) → OrBad (reading s rest) (reading t rest)

-- so of a word and of what follows it, if it is so after every word
word_older : {A C : Type 0} (s t : C → Shape A) → ((x : C) → IsOlder (s x) (t x)) → (w : Field C) → OrBad (w >>= λ x. reading (s x.0) x.1) (w >>= λ x. reading (t x.0) x.1)
word_older s t older (Ok x) = older x.0 x.1
word_older s t older (Err e) = inl refl

mapped_older : {A B : Type 0} (f : A → B) (s t : Shape A) → IsOlder s t → IsOlder (mapped f s) (mapped f t)
mapped_older f s t older = λ rest.
    elim (older rest) [
      | inl same ↦ inl (reading_mapped f s rest ∙ ap (λ r. r >>= λ x. Ok (f x)) same ∙ sym (reading_mapped f t rest))
      | inr bad ↦ inr (mapped_err f s rest BadSyntax bad)
    ]

le_is : (a b : ℤ) → int_le a b ≡ true → a ≤ℤ b
le_is a b e = grind (arith, ints)

le_so : (a b : ℤ) → a ≤ℤ b → int_le a b ≡ true
le_so a b le = grind (arith, ints)

-- the same value, or none
abbrev OrNone : {A : Type 0} → Option A → Option A → Type 0
OrNone x y = (x ≡ y) ⊎ (x ≡ None)

-- what a word stands for, behind a table in which it may be
module _ (word : List ℕ) where
  abbrev forms_where : Bool → Option Operation
  forms_where third = named word (if third then frame_operations ++ form_operations else [])

  operation_or_none : (older newer : Bool) → (older ≡ true → newer ≡ true) → (first : Option Operation) → OrNone (first_found first (forms_where older)) (first_found first (forms_where newer))
  operation_or_none true true than first = inl refl
  operation_or_none true false than first = let bad : false ≡ true = than refl in absurd (cc)
  operation_or_none false newer than (Some x) = inl refl
  operation_or_none false newer than None = inr refl

  abbrev later_where : Bool → Bool → Option Verb
  later_where second third = named word ((if second then (codes "float", words.Window windows.Float) ∷ [] else [])
      ++ (if third then verbs_of_3 else []))

  float_or_none : (floats : Bool) → OrNone {A = Verb} (if floats then Some (words.Window windows.Float) else None)
      (if floats then Some (words.Window windows.Float) else named word verbs_of_3)
  float_or_none true = inl refl
  float_or_none false = inr refl

  later_or_none : (second third : Bool) (second' third' : Bool) → (second ≡ true → second' ≡ true) → (third ≡ true → third' ≡ true) → (third ≡ true → second ≡ true)
      → OrNone (later_where second third) (later_where second' third')
  later_or_none false false second' third' two three both = inr refl
  later_or_none false true second' third' two three both = let bad : false ≡ true = both refl in absurd (cc)
  later_or_none true third false third' two three both = let bad : false ≡ true = two refl in absurd (cc)
  later_or_none true true true false two three both = let bad : false ≡ true = three refl in absurd (cc)
  later_or_none true true true true two three both = inl refl
  later_or_none true false true true two three both = float_or_none (bytes_eq (codes "float") word)
  later_or_none true false true false two three both = inl refl

  verb_or_none : (first later later' : Option Verb) → OrNone later later' → OrNone (first_found first later) (first_found first later')
  verb_or_none (Some x) later later' either = inl refl
  verb_or_none None later later' either = either

module _ (older newer : ℤ) (than : older ≤ℤ newer) where
  later_has : (n : ℤ) → int_le n older ≡ true → int_le n newer ≡ true
  later_has n in_older = let low : n ≤ℤ older = le_is n older in_older in le_so n newer (omega (arith, ints))

  second_too : int_le (pos 3) older ≡ true → int_le (pos 2) older ≡ true
  second_too third = let low : pos 3 ≤ℤ older = le_is (pos 3) older third in le_so (pos 2) older (omega (arith, ints))

  operation_older : (word : List ℕ) → OrNone (named word (operations_of older)) (named word (operations_of newer))
  unfolding operations_of
  operation_older word =
      subst (λ x. OrNone x (named word (operations_of newer))) (sym (named-append word operations (later_operations older)))
      (subst (λ y. OrNone (first_found (named word operations) (named word (later_operations older))) y) (sym (named-append word operations (later_operations newer)))
      (operation_or_none word (int_le (pos 3) older) (int_le (pos 3) newer) (later_has (pos 3)) (named word operations)))

  verb_older : (word : List ℕ) → OrNone (named word (verbs_of older)) (named word (verbs_of newer))
  unfolding verbs_of
  verb_older word =
      subst (λ x. OrNone x (named word (verbs_of newer))) (sym (named-append word verbs (later_verbs older)))
      (subst (λ y. OrNone (first_found (named word verbs) (named word (later_verbs older))) y) (sym (named-append word verbs (later_verbs newer)))
      (verb_or_none word (named word verbs) (named word (later_verbs older)) (named word (later_verbs newer))
      (later_or_none word (int_le (pos 2) older) (int_le (pos 3) older) (int_le (pos 2) newer) (int_le (pos 3) newer) (later_has (pos 2)) (later_has (pos 3)) second_too)))

  name_older : (word : List ℕ) → OrNone (named word (operations_of older)) (named word (operations_of newer))
      → IsOlder (operation_shape (named word (operations_of older))) (operation_shape (named word (operations_of newer)))
  name_older word (inl same) = λ rest. inl (ap (λ o. reading (operation_shape o) rest) same)
  name_older word (inr none) = λ rest. inr (ap (λ o. reading (operation_shape o) rest) none)

  clipped_older : (window : ℕ) (clip : Option (List ℕ)) (word : List ℕ) → IsOlder (clipped_shape older window clip word) (clipped_shape newer window clip word)
  unfolding clipped_shape
  clipped_older window clip word =
      mapped_older _ (operation_shape (named word (operations_of older))) (operation_shape (named word (operations_of newer))) (name_older word (operation_older word))

  clip_older : (window : ℕ) → IsOlder (clip_shape older window) (clip_shape newer window)
  unfolding clip_shape
  clip_older window = λ rest.
      word_older (λ clip. name (λ word. clipped_shape older window (Some clip) word)) (λ clip. name (λ word. clipped_shape newer window (Some clip) word))
      (λ clip more. word_older (λ word. clipped_shape older window (Some clip) word) (λ word. clipped_shape newer window (Some clip) word)
      (λ word. clipped_older window (Some clip) word) (name_at more)) (hex_at rest)

  word_drawn_older : (window : ℕ) (word : List ℕ) (clips : Bool) → IsOlder (if clips then clip_shape older window else clipped_shape older window None word)
      (if clips then clip_shape newer window else clipped_shape newer window None word)
  word_drawn_older window word true = clip_older window
  word_drawn_older window word false = clipped_older window None word

  drawing_older : IsOlder (drawing_shape older) (drawing_shape newer)
  unfolding drawing_shape
  drawing_older = λ rest.
      word_older (λ n. name (λ word. if bytes_eq word (codes "clip") then clip_shape older (serial_of n) else clipped_shape older (serial_of n) None word))
      (λ n. name (λ word. if bytes_eq word (codes "clip") then clip_shape newer (serial_of n) else clipped_shape newer (serial_of n) None word))
      (λ n more. word_older (λ word. if bytes_eq word (codes "clip") then clip_shape older (serial_of n) else clipped_shape older (serial_of n) None word)
      (λ word. if bytes_eq word (codes "clip") then clip_shape newer (serial_of n) else clipped_shape newer (serial_of n) None word)
      (λ word. word_drawn_older (serial_of n) word (bytes_eq word (codes "clip"))) (name_at more)) (number_at rest)

  shape_older : (verb : Verb) → IsOlder (shape_of older verb) (shape_of newer verb)
  unfolding window_shape
  shape_older (words.Window windows.Draw) =
      mapped_older (λ call. Call (calls.Window call)) (mapped window_calls.Draw (drawing_shape older)) (mapped window_calls.Draw (drawing_shape newer))
      (mapped_older window_calls.Draw (drawing_shape older) (drawing_shape newer) drawing_older)
  shape_older verb = λ rest. inl refl

  read_older : (verb : Option Verb) (rest : Option (List ℕ)) → OrBad (read_with older verb rest) (read_with newer verb rest)
  read_older None rest = inl refl
  read_older (Some verb) rest = shape_older verb rest

  found_older : (x : List ℕ × Option (List ℕ)) → OrNone (named x.0 (verbs_of older)) (named x.0 (verbs_of newer))
      → OrBad (read_with older (named x.0 (verbs_of older)) x.1) (read_with newer (named x.0 (verbs_of newer)) x.1)
  found_older x (inl same) =
      subst (λ o. OrBad (read_with older (named x.0 (verbs_of older)) x.1) (read_with newer o x.1)) same (read_older (named x.0 (verbs_of older)) x.1)
  found_older x (inr none) = inr (ap (λ o. read_with older o x.1) none)

  words_older : (word : Field (List ℕ)) → OrBad (word >>= λ x. read_with older (named x.0 (verbs_of older)) x.1) (word >>= λ x. read_with newer (named x.0 (verbs_of newer)) x.1)
  words_older (Ok x) = found_older x (verb_older x.0)
  words_older (Err e) = inl refl

  command_older : (line : List ℕ) → OrBad (command_of older line) (command_of newer line)
  unfolding command_of
  command_older line = words_older (word_at (Some line))

abbrev said_by : Bool → Bool → Bool → Result Command Refusal → Option (Result Command Refusal)
said_by long skipped plain command = if long then Some (Err TooLong) else (if skipped then None else (if plain then Some command else Some (Err BadSyntax)))

tests_older : (long skipped plain : Bool) (command command' : Result Command Refusal) → OrBad command command'
    → (said_by long skipped plain command ≡ said_by long skipped plain command') ⊎ (said_by long skipped plain command ≡ Some (Err BadSyntax))
tests_older true skipped plain command command' either = inl refl
tests_older false true plain command command' either = inl refl
tests_older false false false command command' either = inl refl
tests_older false false true command command' (inl same) = inl (ap (λ c. Some c) same)
tests_older false false true command command' (inr bad) = inr (ap (λ c. Some c) bad)

-- a newer version adds lines, and changes none that was good
pub said_older : (older newer : ℤ) (line : List ℕ) → older ≤ℤ newer → (said older line ≡ said newer line) ⊎ (said older line ≡ Some (Err BadSyntax))
unfolding said
said_older older newer line than =
    tests_older (nat_lt 1024 (length line)) (is_skipped line) (list_all is_plain line) (command_of older line) (command_of newer line) (command_older older newer than line)
