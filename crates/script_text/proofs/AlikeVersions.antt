-- What is not a call is said alike in every version.
use Rattle.std.proofs.Common.{◌≡◌, ℕ, ℤ, pos, Bool, true, false, if◌then◌else◌, List, [], ◌∷◌, ◌++◌, length, Option, Some, None, Result, Ok, Err, bytes_eq, refl, sym, ap, ◌∙◌}
use Rattle.std.specs.Prelude.{int_le, nat_lt, codes}
use Rattle.std.specs.List.{list_all}
use Rattle.std.proofs.lemmas.Bool.{and_parts}
use Rattle.tb_geom.specs.declared.refusal.Refusal.{Refusal}
use Rattle.tb_geom.specs.declared.refusal.Refusal.TheVariants.{BadSyntax, TooLong}
use Rattle.desk_call.specs.declared.call.Call.{Call as Asked}
use Rattle.desk_call.specs.declared.call.Call.TheVariants as calls
use Rattle.line_words.specs.Words.{◌>>=◌, Field, word_at, is_plain}
use Rattle.line_words.specs.Shapes.{Shape, mapped, reading}
use Rattle.line_words.specs.Tables.{named}
use Rattle.line_words.proofs.Mapped.{reading_mapped}
use Rattle.command_words.specs.declared.verb.Verb.{Verb}
use Rattle.command_words.specs.declared.verb.Verb.TheVariants as words
use Rattle.command_words.specs.declared.windows.WindowVerb.TheVariants as windows
use Rattle.command_words.specs.ControlWords.{control_shape}
use Rattle.command_words.specs.EventWords.{event_shape}
use Rattle.command_words.specs.FrameWords.{frame_shape}
use Rattle.command_words.specs.ListWords.{list_shape}
use Rattle.command_words.specs.MenuWords.{menu_shape}
use Rattle.command_words.specs.OutlineWords.{outline_shape}
use Rattle.command_words.specs.UpdateWords.{update_shape}
use Rattle.command_words.specs.Verbs.{verbs, verbs_of_3, later_verbs, verbs_of}
use Rattle.text_words.specs.TextVerbs.{text_verbs}
use Rattle.text_words.specs.TextWords.{text_shape}
use Rattle.command_words.specs.WindowWords.{window_shape}
use Rattle.command_words.proofs.NamedLemmas.{first_found, named-append}
use Rattle.script_text.specs.declared.command.Command.{Command}
use Rattle.script_text.specs.declared.command.Command.TheVariants.{Call}
use Rattle.script_text.specs.Commands.{shape_of, read_with, command_of}
use Rattle.script_text.specs.Lines.{is_skipped, said}

-- the verb says a call: it is about neither the whole desk nor the whole script
abbrev says_call : Verb → Bool
says_call words.Desk = false
says_call words.Image = false
says_call words.Version = false
says_call _ = true

-- each word that only a later version has does
say_calls : (second third : Bool) → list_all (λ entry. says_call entry.1) ((if second then (codes "float", words.Window windows.Float) ∷ [] else []) ++ (if third then verbs_of_3 else [])) ≡ true
unfolding text_verbs
say_calls true true = refl
say_calls true false = refl
say_calls false true = refl
say_calls false false = refl

-- `f` makes the same of every call and of every refusal
module _ {B : Type 0} (f : Option (Result Command Refusal) → B) (other : B) (of_call : (call : Asked) → f (Some (Ok (Call call))) ≡ other) (of_refusal : (e : Refusal) → f (Some (Err e)) ≡ other) where
  call_read : {X : Type 0} (call : X → Asked) (said : Result X Refusal) → f (Some (said >>= λ x. Ok (Call (call x)))) ≡ other
  call_read call (Ok x) = of_call (call x)
  call_read call (Err e) = of_refusal e

  call_said : {X : Type 0} (call : X → Asked) (s : Shape X) (rest : Option (List ℕ)) → f (Some (reading (mapped (λ x. Call (call x)) s) rest)) ≡ other
  call_said call s rest = ap (λ r. f (Some r)) (reading_mapped (λ x. Call (call x)) s rest) ∙ call_read call (reading s rest)

  -- so does each verb but those of the whole desk and the whole script
  verb_said : (version : ℤ) (verb : Verb) (rest : Option (List ℕ)) → says_call verb ≡ true → f (Some (read_with version (Some verb) rest)) ≡ other
  verb_said version words.Desk rest is = absurd (cc)
  verb_said version words.Image rest is = absurd (cc)
  verb_said version words.Version rest is = absurd (cc)
  verb_said version (words.Window verb) rest is = call_said calls.Window (window_shape version verb) rest
  verb_said version (words.Update verb) rest is = call_said calls.Update (update_shape verb) rest
  verb_said version (words.Frame verb) rest is = call_said calls.Frame (frame_shape verb) rest
  verb_said version (words.Outline verb) rest is = call_said calls.Outline (outline_shape verb) rest
  verb_said version (words.Control verb) rest is = call_said calls.Control (control_shape verb) rest
  verb_said version (words.List verb) rest is = call_said calls.List (list_shape verb) rest
  verb_said version (words.Text verb) rest is = call_said calls.Text (text_shape verb) rest
  verb_said version (words.Menu verb) rest is = call_said calls.Menu (menu_shape verb) rest
  verb_said version (words.Event verb) rest is = call_said calls.Event (event_shape verb) rest

  -- and each word of a table of such verbs
  table_said : (version : ℤ) (word : List ℕ) (rest : Option (List ℕ)) (entries : List (List ℕ × Verb)) → list_all (λ entry. says_call entry.1) entries ≡ true
      → f (Some (read_with version (named word entries) rest)) ≡ other
  table_said version word rest [] all = of_refusal BadSyntax
  table_said version word rest (entry ∷ entries) all =
      let both = and_parts (says_call entry.1) (list_all (λ e. says_call e.1) entries) all in
      by_test (bytes_eq entry.0 word) (verb_said version entry.1 rest both.0) (table_said version word rest entries both.1)
    where
      by_test : (b : Bool) → f (Some (read_with version (Some entry.1) rest)) ≡ other → f (Some (read_with version (named word entries) rest)) ≡ other
          → f (Some (read_with version (if b then Some entry.1 else named word entries) rest)) ≡ other
      by_test true here later = here
      by_test false here later = later

  -- a word that only a later version has says a call
  later_said : (version : ℤ) (word : List ℕ) (rest : Option (List ℕ)) (second third : Bool)
      → f (Some (read_with version (named word ((if second then (codes "float", words.Window windows.Float) ∷ [] else []) ++ (if third then verbs_of_3 else []))) rest)) ≡ other
  later_said version word rest second third =
      table_said version word rest ((if second then (codes "float", words.Window windows.Float) ∷ [] else []) ++ (if third then verbs_of_3 else [])) (say_calls second third)

  module _ (one another : ℤ) where
    verb_alike : (verb : Verb) (rest : Option (List ℕ)) → f (Some (reading (shape_of one verb) rest)) ≡ f (Some (reading (shape_of another verb) rest))
    verb_alike words.Desk rest = refl
    verb_alike words.Image rest = refl
    verb_alike words.Version rest = refl
    verb_alike (words.Window verb) rest = call_said calls.Window (window_shape one verb) rest ∙ sym (call_said calls.Window (window_shape another verb) rest)
    verb_alike (words.Update verb) rest = refl
    verb_alike (words.Frame verb) rest = refl
    verb_alike (words.Outline verb) rest = refl
    verb_alike (words.Control verb) rest = refl
    verb_alike (words.List verb) rest = refl
    verb_alike (words.Text verb) rest = refl
    verb_alike (words.Menu verb) rest = refl
    verb_alike (words.Event verb) rest = refl

    -- a word of the table of all versions, or one of later versions, or none
    word_alike : (first : Option Verb) (word : List ℕ) (rest : Option (List ℕ))
        → f (Some (read_with one (first_found first (named word (later_verbs one))) rest)) ≡ f (Some (read_with another (first_found first (named word (later_verbs another))) rest))
    word_alike (Some verb) word rest = verb_alike verb rest
    word_alike None word rest =
        later_said one word rest (int_le (pos 2) one) (int_le (pos 3) one) ∙ sym (later_said another word rest (int_le (pos 2) another) (int_le (pos 3) another))

    table_alike : (word : List ℕ) (rest : Option (List ℕ)) → f (Some (read_with one (named word (verbs_of one)) rest)) ≡ f (Some (read_with another (named word (verbs_of another)) rest))
    unfolding verbs_of
    table_alike word rest =
        ap (λ o. f (Some (read_with one o rest))) (named-append word verbs (later_verbs one))
        ∙ word_alike (named word verbs) word rest
        ∙ sym (ap (λ o. f (Some (read_with another o rest))) (named-append word verbs (later_verbs another)))

    command_alike : (line : List ℕ) → f (Some (command_of one line)) ≡ f (Some (command_of another line))
    unfolding command_of
    command_alike line = by_word (word_at (Some line))
      where
        by_word : (word : Field (List ℕ)) → f (Some (word >>= λ x. read_with one (named x.0 (verbs_of one)) x.1)) ≡ f (Some (word >>= λ x. read_with another (named x.0 (verbs_of another)) x.1))
        by_word (Ok x) = table_alike x.0 x.1
        by_word (Err e) = refl

    pub said_alike : (line : List ℕ) → f (said one line) ≡ f (said another line)
    unfolding said
    said_alike line = by_tests (nat_lt 1024 (length line)) (is_skipped line) (list_all is_plain line)
      where
        by_tests : (long skipped plain : Bool) → f (if long then Some (Err TooLong) else (if skipped then None else (if plain then Some (command_of one line) else Some (Err BadSyntax))))
            ≡ f (if long then Some (Err TooLong) else (if skipped then None else (if plain then Some (command_of another line) else Some (Err BadSyntax))))
        by_tests true skipped plain = refl
        by_tests false true plain = refl
        by_tests false false true = command_alike line
        by_tests false false false = refl
