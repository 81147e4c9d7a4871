-- Reading a line of a shape gives what it says, and nothing else.
use Rattle.std.proofs.Common.{◌≡◌, ℕ, ℤ, ◌⊎◌, inl, inr, Bool, List, Option, Some, None, Result, Ok, Err, IfErr, refl, subst, ap}
use Rattle.std.specs.Option.{ok_or}
use Rattle.tb_geom.specs.declared.refusal.Refusal.{Refusal}
use Rattle.tb_geom.specs.declared.refusal.Refusal.TheVariants.{BadSyntax, NoSuchName}
use Rattle.line_words.specs.Hex.{hex_of}
use Rattle.line_words.specs.Words.{◌>>=◌, Field, word_at, number_said, number_at, flag_of, flag_at, with_rest, name_at, hex_at, text_at, bytes_at}
use Rattle.line_words.specs.Shapes.{Shape, ends, never, number, flag, text, name, hex, bytes, reading}
use Rattle.line_words.specs.Spelling.{IsSpelled}
use Rattle.line_words.proofs.WordLemmas.{HasWord, WordCases, NumberCases, FlagCases, NameCases, HexCases, TextCases, BytesCases, word-cases, number-cases, number_at-at, flag-cases, flag_at-at, name-cases, name_at-at, hex-cases, hex_at-at, text-cases, text_at-at, bytes-cases, bytes_at-at}

-- what is read of this shape is in the grammar, or it is bad syntax
abbrev pub Reads : {A : Type 0} → Shape A → Option (List ℕ) → Result A Refusal → Type 0
Reads s rest r = IsSpelled s rest r ⊎ (r ≡ Err BadSyntax)

-- so whatever the word before
abbrev ReadsOn : {A B : Type 0} → (B → Shape A) → Type 0
ReadsOn {B = B} next = (x : B) (more : Option (List ℕ)) → Reads (next x) more (reading (next x) more)

-- For each kind of word: what is read of it and of what follows is in the grammar, if that holds of what follows.
number-reads : {A : Type 0} (next : ℤ → Shape A) (ih : ReadsOn next) (rest : Option (List ℕ)) (p : List ℕ × Option (List ℕ)) → HasWord rest p
    → (o : Option ℤ) → NumberCases p.0 o → Reads (number next) rest (with_rest o p.1 >>= λ x. reading (next x.0) x.1)
number-reads next ih rest p w None h = inr refl
number-reads next ih rest p w (Some z) h = elim (ih z p.1) [ inl s ↦ inl (p.0, p.1, z, w.is, h, s) | inr e ↦ inr e ]

number-word : {A : Type 0} (next : ℤ → Shape A) (ih : ReadsOn next) (rest : Option (List ℕ)) (w : Field (List ℕ)) → WordCases rest w
    → Reads (number next) rest ((w >>= λ p. with_rest (number_said p.0) p.1) >>= λ x. reading (next x.0) x.1)
number-word next ih rest (Ok p) h = number-reads next ih rest p h (number_said p.0) (number-cases p.0)
number-word next ih rest (Err e) h = inr (ap (λ x. Err x) h)

flag-reads : {A : Type 0} (next : Bool → Shape A) (ih : ReadsOn next) (rest : Option (List ℕ)) (p : List ℕ × Option (List ℕ)) → HasWord rest p
    → (o : Option Bool) → FlagCases p.0 o → Reads (flag next) rest (with_rest o p.1 >>= λ x. reading (next x.0) x.1)
flag-reads next ih rest p w None h = inr refl
flag-reads next ih rest p w (Some z) h = elim (ih z p.1) [ inl s ↦ inl (p.0, p.1, z, w.is, h, s) | inr e ↦ inr e ]

flag-word : {A : Type 0} (next : Bool → Shape A) (ih : ReadsOn next) (rest : Option (List ℕ)) (w : Field (List ℕ)) → WordCases rest w
    → Reads (flag next) rest ((w >>= λ p. with_rest (flag_of p.0) p.1) >>= λ x. reading (next x.0) x.1)
flag-word next ih rest (Ok p) h = flag-reads next ih rest p h (flag_of p.0) (flag-cases p.0)
flag-word next ih rest (Err e) h = inr (ap (λ x. Err x) h)

hex-reads : {A : Type 0} (next : List ℕ → Shape A) (ih : ReadsOn next) (rest : Option (List ℕ)) (p : List ℕ × Option (List ℕ)) → HasWord rest p
    → (o : Option (List ℕ)) → HexCases p.0 o → Reads (hex next) rest (with_rest o p.1 >>= λ x. reading (next x.0) x.1)
hex-reads next ih rest p w None h = inr refl
hex-reads next ih rest p w (Some z) h = elim (ih z p.1) [ inl s ↦ inl (p.0, p.1, z, w.is, h, s) | inr e ↦ inr e ]

hex-word : {A : Type 0} (next : List ℕ → Shape A) (ih : ReadsOn next) (rest : Option (List ℕ)) (w : Field (List ℕ)) → WordCases rest w
    → Reads (hex next) rest ((w >>= λ p. with_rest (hex_of p.0) p.1) >>= λ x. reading (next x.0) x.1)
hex-word next ih rest (Ok p) h = hex-reads next ih rest p h (hex_of p.0) (hex-cases p.0)
hex-word next ih rest (Err e) h = inr (ap (λ x. Err x) h)

name-reads : {A : Type 0} (next : List ℕ → Shape A) (ih : ReadsOn next) (rest : Option (List ℕ)) (w : Field (List ℕ)) → NameCases rest w
    → Reads (name next) rest (w >>= λ x. reading (next x.0) x.1)
name-reads next ih rest (Ok p) h = elim (ih p.0 p.1) [ inl s ↦ inl (p.0, p.1, h.is, h.named, s) | inr e ↦ inr e ]
name-reads next ih rest (Err e) h = inr (ap (λ x. Err x) h)

text-reads : {A : Type 0} (next : List ℕ → Shape A) (ih : ReadsOn next) (rest : Option (List ℕ)) (w : Field (List ℕ)) → TextCases rest w
    → Reads (text next) rest (w >>= λ x. reading (next x.0) x.1)
text-reads next ih rest (Ok p) h = elim (ih p.0 p.1) [ inl s ↦ inl (p.0, p.1, h.is, h.plain, s) | inr e ↦ inr e ]
text-reads next ih rest (Err e) h = inr (ap (λ x. Err x) h)

bytes-reads : {A : Type 0} (next : List ℕ → Shape A) (ih : ReadsOn next) (rest : Option (List ℕ)) (w : Field (List ℕ)) → BytesCases rest w
    → Reads (bytes next) rest (w >>= λ x. reading (next x.0) x.1)
bytes-reads next ih rest (Ok p) h = elim (ih p.0 p.1) [ inl s ↦ inl (h.word, p.1, p.0, h.is, h.bytes, s) | inr e ↦ inr e ]
bytes-reads next ih rest (Err e) h = inr (ap (λ x. Err x) h)

-- what is read is in the grammar
pub reads : {A : Type 0} (s : Shape A) (rest : Option (List ℕ)) → Reads s rest (reading s rest)
unfolding number_at flag_at hex_at
reads (ends said) None = inl (refl, refl)
reads (ends said) (Some rest) = inr refl
reads never rest = inr refl
reads (number next) rest = number-word next (λ z more. reads (next z) more) rest (word_at rest) (word-cases rest)
reads (flag next) rest = flag-word next (λ b more. reads (next b) more) rest (word_at rest) (word-cases rest)
reads (hex next) rest = hex-word next (λ said more. reads (next said) more) rest (word_at rest) (word-cases rest)
reads (text next) rest = text-reads next (λ t more. reads (next t) more) rest (text_at rest) (text-cases rest)
reads (bytes next) rest = bytes-reads next (λ said more. reads (next said) more) rest (bytes_at rest) (bytes-cases rest)
reads (name next) rest = name-reads next (λ t more. reads (next t) more) rest (name_at rest) (name-cases rest)

-- what is in the grammar is read
pub spelled : {A : Type 0} (s : Shape A) (rest : Option (List ℕ)) (r : Result A Refusal) → IsSpelled s rest r → reading s rest ≡ r
spelled (ends said) rest r (e, h) = rw e h
spelled never rest r h = absurd h
spelled (number next) rest r (word, more, z, e, n, h) = rw (e, number_at-at word more z n) (spelled (next z) more r h)
spelled (flag next) rest r (word, more, b, e, n, h) = rw (e, flag_at-at word more b n) (spelled (next b) more r h)
spelled (text next) rest r (t, more, e, n, h) = rw (e, text_at-at t more n) (spelled (next t) more r h)
spelled (hex next) rest r (word, more, said, e, n, h) = rw (e, hex_at-at word more said n) (spelled (next said) more r h)
spelled (bytes next) rest r (word, more, said, e, n, h) = rw (e, bytes_at-at word more said n) (spelled (next said) more r h)
spelled (name next) rest r (word, more, e, n, h) = rw (e, name_at-at word more n) (spelled (next word) more r h)

-- a name is known or not
known-or-not : {A : Type 0} (said : Option A) → IfErr (ok_or said NoSuchName) (λ e. e ≡ NoSuchName)
known-or-not None = refl
known-or-not (Some x) = tt

-- a line of the grammar says something, or that something has not the name that it names
pub says-or-unknown : {A : Type 0} (s : Shape A) (rest : Option (List ℕ)) (r : Result A Refusal) → IsSpelled s rest r → IfErr r (λ e. e ≡ NoSuchName)
says-or-unknown (ends said) rest r (e, h) = subst (λ x. IfErr x (λ e. e ≡ NoSuchName)) h (known-or-not said)
says-or-unknown never rest r h = absurd h
says-or-unknown (number next) rest r (word, more, z, e, n, h) = says-or-unknown (next z) more r h
says-or-unknown (flag next) rest r (word, more, b, e, n, h) = says-or-unknown (next b) more r h
says-or-unknown (name next) rest r (word, more, e, n, h) = says-or-unknown (next word) more r h
says-or-unknown (text next) rest r (t, more, e, n, h) = says-or-unknown (next t) more r h
says-or-unknown (hex next) rest r (word, more, said, e, n, h) = says-or-unknown (next said) more r h
says-or-unknown (bytes next) rest r (word, more, said, e, n, h) = says-or-unknown (next said) more r h
