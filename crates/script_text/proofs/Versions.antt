-- What a line says is of the version of its script.
use Rattle.std.proofs.Common.{◌≡◌, ℕ, ℤ, pos, Bool, true, false, if◌then◌else◌, List, [], ◌∷◌, ◌++◌, length, Option, Some, None, Ok, Err, bytes_eq, refl, subst}
use Rattle.std.specs.Prelude.{int_le, nat_lt, codes}
use Rattle.std.specs.List.{list_all}
use Rattle.std.proofs.lemmas.Bool.{and_parts}
use Rattle.tb_geom.specs.declared.refusal.Refusal.TheVariants.{BadSyntax, TooLong}
use Rattle.desk_call.specs.declared.call.Call.TheVariants as calls
use Rattle.lent_ops.specs.declared.form_ref.FormRef.TheVariants.{FramePolygon, Polygon}
use Rattle.lent_ops.specs.declared.op_ref.ShapeRef.{ShapeRef}
use Rattle.lent_ops.specs.declared.op_ref.ShapeRef.TheVariants as shapes
use Rattle.lent_ops.specs.Points.{are_points}
use Rattle.line_words.specs.Words.{◌>>=◌, Field, word_at, is_plain, serial_of}
use Rattle.line_words.specs.Shapes.{Shape, mapped, never}
use Rattle.line_words.specs.Tables.{named}
use Rattle.form_words.specs.declared.forms.FormWord.{FormWord}
use Rattle.form_words.specs.declared.forms.FormWord.TheVariants as forms
use Rattle.command_words.specs.declared.operation.Operation.{Operation}
use Rattle.command_words.specs.declared.operation.Operation.TheVariants as operation_words
use Rattle.command_words.specs.declared.updates.UpdateVerb.{UpdateVerb}
use Rattle.command_words.specs.declared.updates.UpdateVerb.TheVariants as updates
use Rattle.command_words.specs.declared.verb.Verb.{Verb}
use Rattle.command_words.specs.declared.verb.Verb.TheVariants as words
use Rattle.command_words.specs.declared.windows.WindowVerb.{WindowVerb}
use Rattle.command_words.specs.declared.windows.WindowVerb.TheVariants as windows
use Rattle.command_words.specs.ControlWords.{control_shape}
use Rattle.command_words.specs.Drawings.{form_operations, frame_operations, shade_shape, shaded_rect_shape, line_shape, run_shape, bits_shape, region_shape, operations, operations_of, operation_shape, clipped_shape, clip_shape, drawing_shape}
use Rattle.command_words.specs.EventWords.{event_shape}
use Rattle.command_words.specs.Asked.{asked_shape}
use Rattle.form_words.specs.Forms.{form_shape, pen}
use Rattle.command_words.specs.FrameWords.{frame_shape}
use Rattle.command_words.specs.ListWords.{list_shape}
use Rattle.command_words.specs.MenuWords.{menu_shape}
use Rattle.command_words.specs.OutlineWords.{outline_shape}
use Rattle.command_words.specs.UpdateWords.{update_shape}
use Rattle.command_words.specs.Verbs.{verbs, verbs_of, verbs_of_3}
use Rattle.text_words.specs.TextVerbs.{text_verbs}
use Rattle.text_words.specs.TextWords.{text_shape}
use Rattle.command_words.specs.WindowWords.{window_shape}
use Rattle.script_text.specs.declared.command.Command.{Command}
use Rattle.script_text.specs.declared.command.Command.TheVariants.{Call}
use Rattle.script_text.specs.Commands.{shape_of, read_with, command_of}
use Rattle.script_text.specs.Lines.{is_skipped, said}
use Rattle.script_text.specs.Versions.{has_operation, has_command}
use Rattle.script_text.proofs.AllSaid.{AllSaid, all_said-any, all_said-mapped, all_said-read}

-- what holds of each value of a table holds of the one that a word stands for
named_all : {A : Type 0} (p : A → Bool) (word : List ℕ) (entries : List (List ℕ × A)) → list_all (λ entry. p entry.1) entries ≡ true
    → (x : A) → named word entries ≡ Some x → p x ≡ true
named_all {A} p word [] all x h = let bad : ◌≡◌ {A = Option A} None (Some x) = h in absurd (cc)
named_all {A} p word (entry ∷ entries) all x h =
    let both = and_parts (p entry.1) (list_all (λ e. p e.1) entries) all in
    by_test (bytes_eq entry.0 word) both.0 (named_all p word entries both.1 x) h
  where
    by_test : (b : Bool) → p entry.1 ≡ true → (named word entries ≡ Some x → p x ≡ true) → (if b then Some entry.1 else named word entries) ≡ Some x → p x ≡ true
    by_test true here later e = let same : entry.1 ≡ x = cc in subst (λ y. p y ≡ true) same here
    by_test false here later e = later e

-- whether the word is one that every version has, or there are forms
abbrev has_word : Bool → Operation → Bool
has_word third (operation_words.Form word) = third
has_word third operation_words.FrameRgn = third
has_word third _ = true

words_had : (third : Bool) → list_all (λ entry. has_word third entry.1) (operations ++ (if third then frame_operations ++ form_operations else [])) ≡ true
words_had true = refl
words_had false = refl

-- likewise of a first word
abbrev has_verb : Bool → Bool → Verb → Bool
has_verb second third (words.Window windows.Float) = second
has_verb second third (words.Window windows.Region) = third
has_verb second third (words.Update updates.DrawTexts) = third
has_verb second third (words.Text verb) = third
has_verb second third _ = true

verbs_had : (second third : Bool) → list_all (λ entry. has_verb second third entry.1) (verbs ++ ((if second then (codes "float", words.Window windows.Float) ∷ [] else [])
    ++ (if third then verbs_of_3 else []))) ≡ true
unfolding verbs text_verbs
verbs_had true true = refl
verbs_had true false = refl
verbs_had false true = refl
verbs_had false false = refl

module _ (version : ℤ) where
  abbrev IsHad : Command → Type 0
  IsHad command = has_command version command ≡ true

  -- what a shape says is said of points, if the bytes are that
  points_say : (shape : Shape ShapeRef) (formed : Bool) → AllSaid (λ s. has_operation version s ≡ true) shape
      → AllSaid (λ s. has_operation version s ≡ true) (if formed then shape else never)
  points_say shape true says = says
  points_say shape false says = tt

  shaded_says : (had : int_le (pos 3) version ≡ true) (word : FormWord) → AllSaid (λ s. has_operation version s ≡ true) (form_shape word (λ form. mapped (λ shade. shapes.Form form shade) shade_shape))
  shaded_says had forms.Rect = λ l t r b. all_said-mapped _ _ shade_shape (all_said-any _ (λ s. had) shade_shape)
  shaded_says had forms.Round = λ l t r b w h. all_said-mapped _ _ shade_shape (all_said-any _ (λ s. had) shade_shape)
  shaded_says had forms.Oval = λ l t r b. all_said-mapped _ _ shade_shape (all_said-any _ (λ s. had) shade_shape)
  shaded_says had forms.FrameRect = λ l t r b w h. all_said-mapped _ _ shade_shape (all_said-any _ (λ s. had) shade_shape)
  shaded_says had forms.FrameRound = λ l t r b w h pw ph. all_said-mapped _ _ shade_shape (all_said-any _ (λ s. had) shade_shape)
  shaded_says had forms.FrameOval = λ l t r b w h. all_said-mapped _ _ shade_shape (all_said-any _ (λ s. had) shade_shape)
  shaded_says had forms.Arc = λ l t r b start angle. all_said-mapped _ _ shade_shape (all_said-any _ (λ s. had) shade_shape)
  shaded_says had forms.FrameArc = λ l t r b start angle w h. all_said-mapped _ _ shade_shape (all_said-any _ (λ s. had) shade_shape)
  shaded_says had forms.Line = λ fh fv th tv w h. all_said-mapped _ _ shade_shape (all_said-any _ (λ s. had) shade_shape)
  shaded_says had forms.Polygon = λ bytes. points_say (mapped (λ shade. shapes.Form (Polygon bytes) shade) shade_shape) (are_points bytes)
      (all_said-mapped _ _ shade_shape (all_said-any _ (λ s. had) shade_shape))
  shaded_says had forms.FramePolygon = λ bytes. points_say (pen (λ p. mapped (λ shade. shapes.Form (FramePolygon bytes p) shade) shade_shape)) (are_points bytes)
      (λ w h. all_said-mapped _ _ shade_shape (all_said-any _ (λ s. had) shade_shape))

  operation_says : (operation : Option Operation) → ((x : Operation) → operation ≡ Some x → has_word (int_le (pos 3) version) x ≡ true)
      → AllSaid (λ s. has_operation version s ≡ true) (operation_shape operation)
  operation_says None had = tt
  operation_says (Some operation_words.Erase) had = λ l t r b. refl
  operation_says (Some operation_words.Invert) had = λ l t r b. refl
  operation_says (Some operation_words.Fill) had = all_said-mapped _ _ shaded_rect_shape (all_said-any _ (λ p. refl) shaded_rect_shape)
  operation_says (Some operation_words.Frame) had = all_said-mapped _ _ shaded_rect_shape (all_said-any _ (λ p. refl) shaded_rect_shape)
  operation_says (Some operation_words.HLine) had = all_said-mapped _ _ line_shape (all_said-any _ (λ p. refl) line_shape)
  operation_says (Some operation_words.VLine) had = all_said-mapped _ _ line_shape (all_said-any _ (λ p. refl) line_shape)
  operation_says (Some operation_words.Text) had = all_said-mapped _ _ run_shape (all_said-any _ (λ p. refl) run_shape)
  operation_says (Some operation_words.Bits) had = all_said-mapped _ _ bits_shape (all_said-any _ (λ p. refl) bits_shape)
  operation_says (Some operation_words.Rgn) had = all_said-mapped _ _ region_shape (all_said-any _ (λ p. refl) region_shape)
  operation_says (Some operation_words.FrameRgn) had = λ bytes w h. all_said-mapped _ _ shade_shape (all_said-any _ (λ s. had operation_words.FrameRgn refl) shade_shape)
  operation_says (Some (operation_words.Form word)) had = shaded_says (had (operation_words.Form word) refl) word

  clipped_says : (window : ℕ) (clip : Option (List ℕ)) (word : List ℕ) → AllSaid (λ d. has_operation version d.operation.shape ≡ true) (clipped_shape version window clip word)
  unfolding clipped_shape operations_of
  clipped_says window clip word =
      all_said-mapped _ _ (operation_shape (named word (operations_of version)))
      (operation_says (named word (operations_of version)) (named_all (has_word (int_le (pos 3) version)) word (operations_of version) (words_had (int_le (pos 3) version))))

  clip_says : (window : ℕ) (word : List ℕ) (clips : Bool) → AllSaid (λ d. has_operation version d.operation.shape ≡ true) (if clips then clip_shape version window else clipped_shape version window None word)
  unfolding clip_shape
  clip_says window word true = λ clip word. clipped_says window (Some clip) word
  clip_says window word false = clipped_says window None word

  drawing_says : AllSaid (λ d. has_operation version d.operation.shape ≡ true) (drawing_shape version)
  unfolding drawing_shape
  drawing_says = λ number word. clip_says (serial_of number) word (bytes_eq word (codes "clip"))

  window_says : (verb : WindowVerb) → has_verb (int_le (pos 2) version) (int_le (pos 3) version) (words.Window verb) ≡ true
      → AllSaid (λ call. has_command version (Call (calls.Window call)) ≡ true) (window_shape version verb)
  unfolding window_shape
  window_says windows.New had = λ kind h v width height shown go_away title. refl
  window_says windows.Float had = λ kind h v width height shown go_away title. had
  window_says windows.Close had = λ window. refl
  window_says windows.Show had = λ window. refl
  window_says windows.Hide had = λ window. refl
  window_says windows.ShowHide had = λ window shown. refl
  window_says windows.Select had = λ window. refl
  window_says windows.BringToFront had = λ window. refl
  window_says windows.SendBehind had = λ window other. refl
  window_says windows.Move had = λ window h v select. refl
  window_says windows.Size had = λ window width height. refl
  window_says windows.Zoom had = λ window part. refl
  window_says windows.Clear had = λ window. refl
  window_says windows.Draw had = all_said-mapped _ _ (drawing_shape version) drawing_says
  window_says windows.Scroll had = λ window h v. refl
  window_says windows.Find had = λ h v. refl
  window_says windows.Front had = refl
  window_says windows.Info had = λ window. refl
  window_says windows.UpdateRegion had = λ window. refl
  window_says windows.VisibleRegion had = λ window. refl
  window_says windows.Region had = all_said-mapped _ _ asked_shape (all_said-any _ (λ form. had) asked_shape)

  update_says : (verb : UpdateVerb) → has_verb (int_le (pos 2) version) (int_le (pos 3) version) (words.Update verb) ≡ true
      → AllSaid (λ call. has_command version (Call (calls.Update call)) ≡ true) (update_shape verb)
  unfolding update_shape
  update_says updates.InvalidateRect had = λ window left top right bottom. refl
  update_says updates.InvalidateRegion had = λ window bytes. refl
  update_says updates.ValidateRect had = λ window left top right bottom. refl
  update_says updates.ValidateRegion had = λ window bytes. refl
  update_says updates.Begin had = λ window. refl
  update_says updates.DrawPicture had = λ window. refl
  update_says updates.DrawTexts had = λ window. had
  update_says updates.DrawLists had = λ window. refl
  update_says updates.DrawControls had = λ window. refl
  update_says updates.End had = λ window. refl
  update_says updates.Serve had = λ window. refl

  verb_says : (verb : Verb) → has_verb (int_le (pos 2) version) (int_le (pos 3) version) verb ≡ true → AllSaid IsHad (shape_of version verb)
  verb_says words.Desk had = λ width height bar. refl
  verb_says words.Image had = refl
  verb_says words.Version had = λ number. refl
  verb_says (words.Window verb) had = all_said-mapped _ _ (window_shape version verb) (window_says verb had)
  verb_says (words.Update verb) had = all_said-mapped _ _ (update_shape verb) (update_says verb had)
  verb_says (words.Frame verb) had = all_said-mapped _ _ (frame_shape verb) (all_said-any _ (λ call. refl) (frame_shape verb))
  verb_says (words.Outline verb) had = all_said-mapped _ _ (outline_shape verb) (all_said-any _ (λ call. refl) (outline_shape verb))
  verb_says (words.Control verb) had = all_said-mapped _ _ (control_shape verb) (all_said-any _ (λ call. refl) (control_shape verb))
  verb_says (words.List verb) had = all_said-mapped _ _ (list_shape verb) (all_said-any _ (λ call. refl) (list_shape verb))
  verb_says (words.Text verb) had = all_said-mapped _ _ (text_shape verb) (all_said-any _ (λ call. had) (text_shape verb))
  verb_says (words.Menu verb) had = all_said-mapped _ _ (menu_shape verb) (all_said-any _ (λ call. refl) (menu_shape verb))
  verb_says (words.Event verb) had = all_said-mapped _ _ (event_shape verb) (all_said-any _ (λ call. refl) (event_shape verb))

  read_says : (command : Command) (word : List ℕ) (rest : Option (List ℕ)) (verb : Option Verb) → named word (verbs_of version) ≡ verb → read_with version verb rest ≡ Ok command → IsHad command
  unfolding verbs_of
  read_says command word rest None found says = absurd (cc)
  read_says command word rest (Some verb) found says =
      let had = named_all (has_verb (int_le (pos 2) version) (int_le (pos 3) version)) word (verbs_of version) (verbs_had (int_le (pos 2) version) (int_le (pos 3) version)) verb found in
      all_said-read IsHad (shape_of version verb) (verb_says verb had) rest command says

  word_says : (command : Command) (word : Field (List ℕ)) → (word >>= λ x. read_with version (named x.0 (verbs_of version)) x.1) ≡ Ok command → IsHad command
  word_says command (Ok x) says = read_says command x.0 x.1 (named x.0 (verbs_of version)) refl says
  word_says command (Err e) says = absurd (cc)

  command_says : (line : List ℕ) (command : Command) → command_of version line ≡ Ok command → IsHad command
  unfolding command_of
  command_says line command h = word_says command (word_at (Some line)) h

-- what a line says that is neither too long, nor skipped, nor of other bytes, its words say
pub said_by_words : (version : ℤ) (line : List ℕ) (command : Command) → said version line ≡ Some (Ok command) → command_of version line ≡ Ok command
unfolding said
said_by_words version line command h = by_tests (nat_lt 1024 (length line)) (is_skipped line) (list_all is_plain line) h
  where
    by_tests : (long skipped plain : Bool) → (if long then Some (Err TooLong) else (if skipped then None else (if plain then Some (command_of version line) else Some (Err BadSyntax)))) ≡ Some (Ok command)
        → command_of version line ≡ Ok command
    by_tests true skipped plain e = absurd (cc)
    by_tests false true plain e = absurd (cc)
    by_tests false false true e = cc
    by_tests false false false e = absurd (cc)

-- a line says what its version has
pub line_had : (version : ℤ) (line : List ℕ) (command : Command) → said version line ≡ Some (Ok command) → has_command version command ≡ true
line_had version line command h = command_says version line command (said_by_words version line command h)
