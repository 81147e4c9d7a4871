-- The shapes of script lines, and how a line of a shape is read.
use Rattle.std.specs.Prelude.{ℕ, ℤ, Bool, List, Option, Some, option_map, Result, Err}
use Rattle.std.specs.Option.{ok_or}
use Rattle.tb_geom.specs.declared.point.Point.{Point}
use Rattle.tb_geom.specs.declared.rect.Rect.{Rect}
use Rattle.tb_geom.specs.declared.refusal.Refusal.{Refusal}
use Rattle.tb_geom.specs.declared.refusal.Refusal.TheVariants.{BadSyntax, NoSuchName}
use Rattle.line_words.specs.Words.{◌>>=◌, number_at, flag_at, name_at, text_at, hex_at, bytes_at, end_at, serial_of}

-- what has to come next in a line, and how the line goes on after it, up to its end. There `ends` has what all of it says,
-- or None, where a name in it is not known; `never` is the shape of no line
pub data Shape (A : Type 0) : Type 0 where
  ends : Option A → Shape A
  never : Shape A
  number : (ℤ → Shape A) → Shape A
  flag : (Bool → Shape A) → Shape A
  name : (List ℕ → Shape A) → Shape A
  text : (List ℕ → Shape A) → Shape A
  hex : (List ℕ → Shape A) → Shape A
  bytes : (List ℕ → Shape A) → Shape A

-- nothing more: the line says this
abbrev pub says : {A : Type 0} → A → Shape A
says x = ends (Some x)

-- the number of something
abbrev pub serial : {A : Type 0} → (ℕ → Shape A) → Shape A
serial next = number (λ n. next (serial_of n))

-- h v
abbrev pub point : {A : Type 0} → (Point → Shape A) → Shape A
point next = number (λ h. number (λ v. next (record { h = h; v = v })))

-- l t r b
abbrev pub rect : {A : Type 0} → (Rect → Shape A) → Shape A
rect next = number (λ left. number (λ top. number (λ right. number (λ bottom. next (record { left = left; top = top; right = right; bottom = bottom })))))

-- the same words, where f is made of what they say
abbrev pub mapped : {A B : Type 0} → (A → B) → Shape A → Shape B
mapped f (ends said) = ends (option_map f said)
mapped f never = never
mapped f (number next) = number (λ x. mapped f (next x))
mapped f (flag next) = flag (λ x. mapped f (next x))
mapped f (name next) = name (λ x. mapped f (next x))
mapped f (text next) = text (λ x. mapped f (next x))
mapped f (hex next) = hex (λ x. mapped f (next x))
mapped f (bytes next) = bytes (λ x. mapped f (next x))

-- what is read of a line, word by word
abbrev pub reading : {A : Type 0} → Shape A → Option (List ℕ) → Result A Refusal
reading (ends said) rest = end_at rest >>= λ _. ok_or said NoSuchName
reading never rest = Err BadSyntax
reading (number next) rest = number_at rest >>= λ x. reading (next x.0) x.1
reading (flag next) rest = flag_at rest >>= λ x. reading (next x.0) x.1
reading (name next) rest = name_at rest >>= λ x. reading (next x.0) x.1
reading (text next) rest = text_at rest >>= λ x. reading (next x.0) x.1
reading (hex next) rest = hex_at rest >>= λ x. reading (next x.0) x.1
reading (bytes next) rest = bytes_at rest >>= λ x. reading (next x.0) x.1
