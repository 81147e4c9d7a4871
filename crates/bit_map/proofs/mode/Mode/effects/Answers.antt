use Rattle.std.proofs.Common.{Bool, true, false, not, ◌&&◌, ◌||◌, ◌≡◌, ◌∙◌, refl, sym, ap, rules}
use Rattle.bit_map.specs.Modes.{xor_bit, mode_bit}
use Rattle.bit_map.specs.Words.{bit_in}
use Rattle.bit_map.proofs.WordLemmas.{bit_in-none, bit_in-full, bit_in-not}
use Rattle.bit_map.proofs.mode.Mode.effects.Goals as goal

copy_is : (s d : Bool) → xor_bit (s) (d && (false)) ≡ (s)
copy_is true true = refl
copy_is true false = refl
copy_is false true = refl
copy_is false false = refl

pub returns-in-Copy : goal.returns-in-Copy
returns-in-Copy c = λ k old low. (λ i. xor_bit (bit_in c.args.source k) (old && ((bit_in-none k) i))) ∙ copy_is (bit_in c.args.source k) old ∙ sym (ap (λ m. mode_bit m (bit_in c.args.source k) old) c.in-Copy.is)

or_is : (s d : Bool) → xor_bit (s) (d && (not s)) ≡ (s || d)
or_is true true = refl
or_is true false = refl
or_is false true = refl
or_is false false = refl

pub returns-in-Or : goal.returns-in-Or
returns-in-Or c = λ k old low. (λ i. xor_bit (bit_in c.args.source k) (old && ((bit_in-not c.args.source k (search rules)) i))) ∙ or_is (bit_in c.args.source k) old ∙ sym (ap (λ m. mode_bit m (bit_in c.args.source k) old) c.in-Or.is)

xor_is : (s d : Bool) → xor_bit (s) (d && (true)) ≡ (xor_bit s d)
xor_is true true = refl
xor_is true false = refl
xor_is false true = refl
xor_is false false = refl

pub returns-in-Xor : goal.returns-in-Xor
returns-in-Xor c = λ k old low. (λ i. xor_bit (bit_in c.args.source k) (old && ((bit_in-full k) i))) ∙ xor_is (bit_in c.args.source k) old ∙ sym (ap (λ m. mode_bit m (bit_in c.args.source k) old) c.in-Xor.is)

bic_is : (s d : Bool) → xor_bit (false) (d && (not s)) ≡ (d && not s)
bic_is true true = refl
bic_is true false = refl
bic_is false true = refl
bic_is false false = refl

pub returns-in-Bic : goal.returns-in-Bic
returns-in-Bic c = λ k old low. (λ i. xor_bit ((bit_in-none k) i) (old && ((bit_in-not c.args.source k (search rules)) i))) ∙ bic_is (bit_in c.args.source k) old ∙ sym (ap (λ m. mode_bit m (bit_in c.args.source k) old) c.in-Bic.is)

notcopy_is : (s d : Bool) → xor_bit (not s) (d && (false)) ≡ (not s)
notcopy_is true true = refl
notcopy_is true false = refl
notcopy_is false true = refl
notcopy_is false false = refl

pub returns-in-NotCopy : goal.returns-in-NotCopy
returns-in-NotCopy c = λ k old low. (λ i. xor_bit ((bit_in-not c.args.source k (search rules)) i) (old && ((bit_in-none k) i))) ∙ notcopy_is (bit_in c.args.source k) old ∙ sym (ap (λ m. mode_bit m (bit_in c.args.source k) old) c.in-NotCopy.is)

notor_is : (s d : Bool) → xor_bit (not s) (d && (s)) ≡ (not s || d)
notor_is true true = refl
notor_is true false = refl
notor_is false true = refl
notor_is false false = refl

pub returns-in-NotOr : goal.returns-in-NotOr
returns-in-NotOr c = λ k old low. (λ i. xor_bit ((bit_in-not c.args.source k (search rules)) i) (old && (bit_in c.args.source k))) ∙ notor_is (bit_in c.args.source k) old ∙ sym (ap (λ m. mode_bit m (bit_in c.args.source k) old) c.in-NotOr.is)

notxor_is : (s d : Bool) → xor_bit (not s) (d && (true)) ≡ (xor_bit (not s) d)
notxor_is true true = refl
notxor_is true false = refl
notxor_is false true = refl
notxor_is false false = refl

pub returns-in-NotXor : goal.returns-in-NotXor
returns-in-NotXor c = λ k old low. (λ i. xor_bit ((bit_in-not c.args.source k (search rules)) i) (old && ((bit_in-full k) i))) ∙ notxor_is (bit_in c.args.source k) old ∙ sym (ap (λ m. mode_bit m (bit_in c.args.source k) old) c.in-NotXor.is)

notbic_is : (s d : Bool) → xor_bit (false) (d && (s)) ≡ (d && not (not s))
notbic_is true true = refl
notbic_is true false = refl
notbic_is false true = refl
notbic_is false false = refl

pub returns-in-NotBic : goal.returns-in-NotBic
returns-in-NotBic c = λ k old low. (λ i. xor_bit ((bit_in-none k) i) (old && (bit_in c.args.source k))) ∙ notbic_is (bit_in c.args.source k) old ∙ sym (ap (λ m. mode_bit m (bit_in c.args.source k) old) c.in-NotBic.is)
