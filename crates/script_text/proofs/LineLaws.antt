-- Reading a line gives what it says, and nothing else.
use Rattle.std.proofs.Common.{◌≡◌, ℕ, ℤ, ◌⊎◌, inl, inr, List, ◌++◌, Option, Some, None, Result, Ok, Err, IfErr, refl, ap, ◌∙◌}
use Rattle.tb_geom.specs.declared.refusal.Refusal.{Refusal}
use Rattle.tb_geom.specs.declared.refusal.Refusal.TheVariants.{BadSyntax, NoSuchName}
use Rattle.line_words.specs.Forms.{follows}
use Rattle.line_words.specs.Tables.{named}
use Rattle.line_words.specs.Words.{◌>>=◌, Field, word_at}
use Rattle.line_words.proofs.Spelled.{reads, spelled, says-or-unknown}
use Rattle.line_words.proofs.WordLemmas.{HasWord, WordCases, word_at-follows, word-cases}
use Rattle.script_text.specs.declared.command.Command.{Command}
use Rattle.command_words.specs.declared.verb.Verb.{Verb}
use Rattle.command_words.specs.Verbs.{verbs_of}
use Rattle.script_text.specs.Commands.{shape_of, command_of, read_with}
use Rattle.script_text.specs.Spelling.{IsLine}

-- equal values that are there
Some-injective : {A : Type 0} (x y : A) → Some x ≡ Some y → x ≡ y
Some-injective x y e = cc

module _ (version : ℤ) where
  -- likewise for the words after a verb
  line-shape : (line : List ℕ) (p : List ℕ × Option (List ℕ)) → HasWord (Some line) p → (o : Option Verb) → named p.0 (verbs_of version) ≡ o
      → IsLine version line (read_with version o p.1) ⊎ (read_with version o p.1 ≡ Err BadSyntax)
  line-shape line p w None e = inr refl
  line-shape line p w (Some s) e =
      elim (reads (shape_of version s) p.1) [ inl h ↦ inl (p.0, p.1, s, Some-injective line (p.0 ++ follows p.1) w.is, w.spaceless, e, h) | inr bad ↦ inr bad ]

  -- likewise for the first word
  line-word : (line : List ℕ) (w : Field (List ℕ)) → WordCases (Some line) w
      → IsLine version line (w >>= λ x. read_with version (named x.0 (verbs_of version)) x.1) ⊎ ((w >>= λ x. read_with version (named x.0 (verbs_of version)) x.1) ≡ Err BadSyntax)
  line-word line (Ok p) h = line-shape line p h (named p.0 (verbs_of version)) refl
  line-word line (Err e) h = inr (ap (λ x. Err x) h)

  -- what is read of a line is in the grammar
  pub line-reads : (line : List ℕ) → IsLine version line (command_of version line) ⊎ (command_of version line ≡ Err BadSyntax)
  unfolding command_of
  line-reads line = line-word line (word_at (Some line)) (word-cases (Some line))

  -- a line of the grammar is read so
  pub line-spelled : (line : List ℕ) (r : Result Command Refusal) → IsLine version line r → command_of version line ≡ r
  unfolding command_of
  line-spelled line r (word, more, s, e, spaceless, found, h) =
      ap (λ l. word_at (Some l) >>= λ x. read_with version (named x.0 (verbs_of version)) x.1) e
      ∙ ap (λ w. w >>= λ x. read_with version (named x.0 (verbs_of version)) x.1) (word_at-follows word more spaceless)
      ∙ ap (λ o. read_with version o more) found ∙ spelled (shape_of version s) more r h

  -- what a line says is a command, or that it names what there is not
  pub line-so : (line : List ℕ) (r : Result Command Refusal) → IsLine version line r → IfErr r (λ e. e ≡ NoSuchName)
  line-so line r (word, more, verb, e, spaceless, found, h) = says-or-unknown (shape_of version verb) more r h
