-- The texts of ParamText in a text.
use Rattle.std.specs.Prelude.{ℕ, Bool, false, ◌&&◌, ◌==◌, nat_le, nat_lt, if◌then◌else◌, List, [], ◌∷◌, ◌++◌, Option, None, Some}
use Rattle.dialog_items.specs.declared.filling.ParamTexts.{ParamTexts}

-- the four texts of ParamText
pub record Params : Type 0 where
  pub first : List ℕ
  pub second : List ℕ
  pub third : List ℕ
  pub fourth : List ℕ

-- those that are lent
abbrev pub lent_params : ParamTexts → Params
lent_params p = record { first = p.first.now; second = p.second.now; third = p.third.now; fourth = p.fourth.now }

-- the text of a digit, 0 to 3
abbrev pub param_text : Params → ℕ → List ℕ
param_text p digit =
    if digit == 48 then p.first else (if digit == 49 then p.second else (if digit == 50 then p.third else p.fourth))

-- the bytes are ^ and a digit from 0 to 3
abbrev pub is_mark : ℕ → ℕ → Bool
is_mark caret digit = caret == 94 && (nat_le 48 digit && nat_le digit 51)

-- they begin with these two
abbrev pub is_param : List ℕ → Bool
is_param (caret ∷ digit ∷ more) = is_mark caret digit
is_param _ = false

-- a number of bytes that a text may have
abbrev pub text_length : ℕ → Option ℕ
text_length n = if nat_lt 32000 n then None else Some n

-- each ^ that is followed by a digit from 0 to 3 becomes the text of that number, once, from left to right
unfoldable pub filled : Params → List ℕ → List ℕ
filled p [] = []
filled p (c ∷ []) = c ∷ []
filled p (c ∷ d ∷ more) = if is_mark c d then param_text p d ++ filled p more else c ∷ filled p (d ∷ more)
