-- Which line has which shape, and what it says, apart from how it is read.
use Rattle.std.specs.Prelude.{◌≡◌, ℕ, ℤ, Bool, List, ◌∷◌, ◌++◌, Option, Some, None, Result}
use Rattle.std.specs.Option.{ok_or}
use Rattle.tb_geom.specs.declared.refusal.Refusal.{Refusal}
use Rattle.tb_geom.specs.declared.refusal.Refusal.TheVariants.{NoSuchName}
use Rattle.line_words.specs.Forms.{follows, IsNumber, IsFlag, IsName, IsPlainText, IsHex, IsBytes}
use Rattle.line_words.specs.Shapes.{Shape, ends, never, number, flag, name, text, hex, bytes}

-- What is left of a line has this shape, and says this.
abbrev pub IsSpelled : {A : Type 0} → Shape A → Option (List ℕ) → Result A Refusal → Type 0
IsSpelled (ends said) rest r = (rest ≡ None) × (ok_or said NoSuchName ≡ r)
IsSpelled never rest r = ⊥
IsSpelled (number next) rest r = (word : List ℕ) × (more : Option (List ℕ)) × (z : ℤ) × (rest ≡ Some (word ++ follows more)) × IsNumber word z × IsSpelled (next z) more r
IsSpelled (flag next) rest r = (word : List ℕ) × (more : Option (List ℕ)) × (b : Bool) × (rest ≡ Some (word ++ follows more)) × IsFlag word b × IsSpelled (next b) more r
IsSpelled (name next) rest r = (word : List ℕ) × (more : Option (List ℕ)) × (rest ≡ Some (word ++ follows more)) × IsName word × IsSpelled (next word) more r
IsSpelled (text next) rest r = (t : List ℕ) × (more : Option (List ℕ)) × (rest ≡ Some (34 ∷ (t ++ 34 ∷ follows more))) × IsPlainText t × IsSpelled (next t) more r
IsSpelled (hex next) rest r = (word : List ℕ) × (more : Option (List ℕ)) × (said : List ℕ) × (rest ≡ Some (word ++ follows more)) × IsHex word said × IsSpelled (next said) more r
IsSpelled (bytes next) rest r = (word : List ℕ) × (more : Option (List ℕ)) × (said : List ℕ) × (rest ≡ Some (word ++ follows more)) × IsBytes word said × IsSpelled (next said) more r
