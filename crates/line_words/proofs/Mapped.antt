-- What is read of a shape that is mapped.
use Rattle.std.proofs.Common.{◌≡◌, ℕ, List, Option, Some, None, Ok, Err, refl, ap, ◌∙◌}
use Rattle.tb_geom.specs.declared.refusal.Refusal.{Refusal}
use Rattle.line_words.specs.Words.{◌>>=◌, Field, number_at, flag_at, name_at, text_at, hex_at, bytes_at}
use Rattle.line_words.specs.Shapes.{Shape, ends, never, number, flag, name, text, hex, bytes, mapped, reading}

-- so of what is left after a word, if it is so after every word
word_mapped : {A B C : Type 0} (f : A → B) (next : C → Shape A) → ((x : C) (more : Option (List ℕ)) → reading (mapped f (next x)) more ≡ reading (next x) more >>= λ y. Ok (f y))
    → (w : Field C) → (w >>= λ x. reading (mapped f (next x.0)) x.1) ≡ ((w >>= λ x. reading (next x.0) x.1) >>= λ y. Ok (f y))
word_mapped f next ih (Ok x) = ih x.0 x.1
word_mapped f next ih (Err e) = refl

pub reading_mapped : {A B : Type 0} (f : A → B) (s : Shape A) (rest : Option (List ℕ)) → reading (mapped f s) rest ≡ reading s rest >>= λ x. Ok (f x)
reading_mapped f (ends None) None = refl
reading_mapped f (ends (Some x)) None = refl
reading_mapped f (ends said) (Some more) = refl
reading_mapped f never rest = refl
reading_mapped f (number next) rest = word_mapped f next (λ x more. reading_mapped f (next x) more) (number_at rest)
reading_mapped f (flag next) rest = word_mapped f next (λ x more. reading_mapped f (next x) more) (flag_at rest)
reading_mapped f (name next) rest = word_mapped f next (λ x more. reading_mapped f (next x) more) (name_at rest)
reading_mapped f (text next) rest = word_mapped f next (λ x more. reading_mapped f (next x) more) (text_at rest)
reading_mapped f (hex next) rest = word_mapped f next (λ x more. reading_mapped f (next x) more) (hex_at rest)
reading_mapped f (bytes next) rest = word_mapped f next (λ x more. reading_mapped f (next x) more) (bytes_at rest)

-- what is read, or the refusal
pub mapped_ok : {A B : Type 0} (f : A → B) (s : Shape A) (rest : Option (List ℕ)) (x : A) → reading s rest ≡ Ok x → reading (mapped f s) rest ≡ Ok (f x)
mapped_ok f s rest x h = reading_mapped f s rest ∙ ap (λ r. r >>= λ y. Ok (f y)) h

pub mapped_err : {A B : Type 0} (f : A → B) (s : Shape A) (rest : Option (List ℕ)) (e : Refusal) → reading s rest ≡ Err e → reading (mapped f s) rest ≡ Err e
mapped_err f s rest e h = reading_mapped f s rest ∙ ap (λ r. r >>= λ y. Ok (f y)) h
