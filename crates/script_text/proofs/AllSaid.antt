-- What holds of all that lines of a shape can say.
use Rattle.std.proofs.Common.{◌≡◌, ℕ, ℤ, Bool, List, Option, Some, None, Result, Ok, Err, subst}
use Rattle.tb_geom.specs.declared.refusal.Refusal.{Refusal}
use Rattle.line_words.specs.Words.{◌>>=◌, Field, number_at, flag_at, name_at, text_at, hex_at, bytes_at}
use Rattle.line_words.specs.Shapes.{Shape, ends, never, number, flag, name, text, hex, bytes, mapped, reading}

-- it holds whatever the words are
abbrev pub AllSaid : {A : Type 0} → (A → Type 0) → Shape A → Type 0
AllSaid P (ends None) = Unit {0}
AllSaid P (ends (Some x)) = P x
AllSaid P never = Unit {0}
AllSaid P (number next) = (n : ℤ) → AllSaid P (next n)
AllSaid P (flag next) = (b : Bool) → AllSaid P (next b)
AllSaid P (name next) = (word : List ℕ) → AllSaid P (next word)
AllSaid P (text next) = (t : List ℕ) → AllSaid P (next t)
AllSaid P (hex next) = (said : List ℕ) → AllSaid P (next said)
AllSaid P (bytes next) = (said : List ℕ) → AllSaid P (next said)

pub all_said-any : {A : Type 0} (P : A → Type 0) → ((x : A) → P x) → (s : Shape A) → AllSaid P s
all_said-any P every (ends None) = tt
all_said-any P every (ends (Some x)) = every x
all_said-any P every never = tt
all_said-any P every (number next) = λ n. all_said-any P every (next n)
all_said-any P every (flag next) = λ b. all_said-any P every (next b)
all_said-any P every (name next) = λ word. all_said-any P every (next word)
all_said-any P every (text next) = λ t. all_said-any P every (next t)
all_said-any P every (hex next) = λ said. all_said-any P every (next said)
all_said-any P every (bytes next) = λ said. all_said-any P every (next said)

pub all_said-mapped : {A B : Type 0} (f : A → B) (P : B → Type 0) (s : Shape A) → AllSaid (λ x. P (f x)) s → AllSaid P (mapped f s)
all_said-mapped f P (ends None) all = tt
all_said-mapped f P (ends (Some x)) all = all
all_said-mapped f P never all = tt
all_said-mapped f P (number next) all = λ n. all_said-mapped f P (next n) (all n)
all_said-mapped f P (flag next) all = λ b. all_said-mapped f P (next b) (all b)
all_said-mapped f P (name next) all = λ word. all_said-mapped f P (next word) (all word)
all_said-mapped f P (text next) all = λ t. all_said-mapped f P (next t) (all t)
all_said-mapped f P (hex next) all = λ said. all_said-mapped f P (next said) (all said)
all_said-mapped f P (bytes next) all = λ said. all_said-mapped f P (next said) (all said)

-- so of what follows a word, if it is so after every word
word_said : {A C : Type 0} (P : A → Type 0) (next : C → Shape A) → ((y : C) (more : Option (List ℕ)) (x : A) → reading (next y) more ≡ Ok x → P x)
    → (w : Field C) (x : A) → (w >>= λ y. reading (next y.0) y.1) ≡ Ok x → P x
word_said P next ih (Ok y) x h = ih y.0 y.1 x h
word_said {A} P next ih (Err e) x h = let bad : ◌≡◌ {A = Result A Refusal} (Err e) (Ok x) = h in absurd (cc)

-- and so of what is read
pub all_said-read : {A : Type 0} (P : A → Type 0) (s : Shape A) → AllSaid P s → (rest : Option (List ℕ)) (x : A) → reading s rest ≡ Ok x → P x
all_said-read {A} P (ends None) all None x h = absurd (cc)
all_said-read {A} P (ends (Some y)) all None x h = let same : y ≡ x = cc in subst P same all
all_said-read {A} P (ends said) all (Some more) x h = absurd (cc)
all_said-read {A} P never all rest x h = absurd (cc)
all_said-read P (number next) all rest x h = word_said P next (λ n more. all_said-read P (next n) (all n) more) (number_at rest) x h
all_said-read P (flag next) all rest x h = word_said P next (λ b more. all_said-read P (next b) (all b) more) (flag_at rest) x h
all_said-read P (name next) all rest x h = word_said P next (λ word more. all_said-read P (next word) (all word) more) (name_at rest) x h
all_said-read P (text next) all rest x h = word_said P next (λ t more. all_said-read P (next t) (all t) more) (text_at rest) x h
all_said-read P (hex next) all rest x h = word_said P next (λ said more. all_said-read P (next said) (all said) more) (hex_at rest) x h
all_said-read P (bytes next) all rest x h = word_said P next (λ said more. all_said-read P (next said) (all said) more) (bytes_at rest) x h
