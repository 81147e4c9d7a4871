-- Tests of two numbers and of two truths.
use Rattle.std.proofs.Common.{◌≡◌, Bool, true, false, not, ℤ, refl}
use mathlib.Core.Bool.{beq}
use Rattle.std.specs.Ordering.{int_eq}
use Rattle.std.proofs.lemmas.Bool.{false_from_ne_true}
use Rattle.std.proofs.lemmas.Bool.Decides.{Decides-int_eq}
use Rattle.region_bytes.specs.Edges.{differ}

pub int_eq-same : (x : ℤ) → int_eq x x ≡ true
int_eq-same x = (Decides-int_eq x x).1 refl

pub int_eq-apart : (x y : ℤ) → (x ≡ y → ⊥) → int_eq x y ≡ false
int_eq-apart x y n = false_from_ne_true _ (λ e. n ((Decides-int_eq x y).0 e))

pub not-beq : (a b : Bool) → not (beq a b) ≡ differ a b
not-beq true true = refl
not-beq true false = refl
not-beq false true = refl
not-beq false false = refl
