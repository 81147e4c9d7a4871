-- The first bytes of a text, and what stands for them once it is filled.
use Rattle.std.proofs.Common.{◌≡◌, ℕ, ◌+◌, ◌-◌, ◌<◌, true, false, List, [], ◌∷◌, ◌++◌, length, drop, take, get_or, Some, None, nat_lt, ◌≤◌, refl, sym, ap, ◌∙◌, arith, rules}
use Rattle.std.proofs.lemmas.Bool.{cond-true, cond-false}
use Rattle.std.proofs.lemmas.List.{append-nil, drop_all, drop-drop, get_or-drop, length-drop}
use Rattle.dialog_items.specs.Filling.{Params, filled, is_mark, is_param, param_text, text_length}

long : (bytes : List ℕ) → is_param bytes ≡ true → 1 < length bytes
long [] e = absurd (cc)
long (c ∷ []) e = absurd (cc)
long (c ∷ d ∷ more) e = omega arith

-- after ^ and a digit there are two bytes
pub long-from : (bytes : List ℕ) (at : ℕ) → is_param (drop at bytes) ≡ true → at + 1 < length bytes
long-from bytes at e = omega (arith, long (drop at bytes) e, length-drop at bytes)

param-first : (p : Params) (bytes : List ℕ) (other : ℕ) → is_param bytes ≡ true → filled p bytes ≡ param_text p (get_or bytes 1 other) ++ filled p (drop 2 bytes)
unfolding filled
param-first p [] other e = absurd (cc)
param-first p (c ∷ []) other e = absurd (cc)
param-first p (c ∷ d ∷ more) other e = cond-true (is_mark c d) (param_text p d ++ filled p more) (c ∷ filled p (d ∷ more)) e

plain-first : (p : Params) (bytes : List ℕ) → 0 < length bytes → is_param bytes ≡ false → filled p bytes ≡ take 1 bytes ++ filled p (drop 1 bytes)
unfolding filled
plain-first p [] some e = absurd (omega arith)
plain-first p (c ∷ []) some e = refl
plain-first p (c ∷ d ∷ more) some e = cond-false (is_mark c d) (param_text p d ++ filled p more) (c ∷ filled p (d ∷ more)) e

-- ^ and a digit become a text
pub param-piece : (p : Params) (bytes : List ℕ) (at : ℕ) → is_param (drop at bytes) ≡ true
    → filled p (drop at bytes) ≡ param_text p (get_or bytes (at + 1) 0) ++ filled p (drop (at + 2) bytes)
param-piece p bytes at e =
    param-first p (drop at bytes) 0 e
    ∙ ap (λ d. param_text p d ++ filled p (drop 2 (drop at bytes))) (get_or-drop at bytes 1 0)
    ∙ ap (λ rest. param_text p (get_or bytes (at + 1) 0) ++ filled p rest) (drop-drop 2 at bytes)

-- another byte stays
pub plain-piece : (p : Params) (bytes : List ℕ) (at : ℕ) → at < length bytes → is_param (drop at bytes) ≡ false
    → filled p (drop at bytes) ≡ take (at + 1 - at) (drop at bytes) ++ filled p (drop (at + 1) bytes)
plain-piece p bytes at within e =
    let one : 1 ≡ at + 1 - at = omega arith in
    plain-first p (drop at bytes) (omega (arith, within, length-drop at bytes)) e
    ∙ ap (λ n. take n (drop at bytes) ++ filled p (drop 1 (drop at bytes))) one
    ∙ ap (λ rest. take (at + 1 - at) (drop at bytes) ++ filled p rest) (drop-drop 1 at bytes)

-- behind the last byte nothing is left
pub none-left : (p : Params) (bytes : List ℕ) (at : ℕ) → length bytes ≤ at → filled p (drop at bytes) ≡ []
unfolding filled
none-left p bytes at end = ap (filled p) (drop_all at bytes end)

-- so what was filled is all
pub rest-none : (p : Params) (bytes : List ℕ) (at : ℕ) (text all : List ℕ) → length bytes ≤ at → text ++ filled p (drop at bytes) ≡ all → text ≡ all
rest-none p bytes at text all end e = sym (append-nil text) ∙ sym (ap (λ rest. text ++ rest) (none-left p bytes at end)) ∙ e

-- a text of so many bytes
pub text-short : (n : ℕ) → n ≤ 32000 → Some n ≡ text_length n
text-short n h = sym (cond-false (nat_lt 32000 n) None (Some n) (search rules))

-- and as long as all
pub rest-length : (p : Params) (bytes : List ℕ) (at len all : ℕ) → length bytes ≤ at → len + length (filled p (drop at bytes)) ≡ all → len ≡ all
rest-length p bytes at len all end e = omega (arith, ap length (none-left p bytes at end), e)
