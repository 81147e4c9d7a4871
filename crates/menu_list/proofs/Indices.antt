-- The menu of a number, and its index.
use Rattle.std.proofs.Common.{◌≡◌, ℕ, ◌≤◌, Bool, true, false, ltb, cond, List, [], ◌∷◌, length, zero, suc, Some, None, refl, ap, ◌∙◌, arith}
use Rattle.std.specs.Prelude.{ℤ, slice_get}
use Rattle.std.specs.List.{position_or_len}
use Rattle.std.specs.Option.{option_and_then}
use Rattle.std.proofs.lemmas.Bool.Decides.{nat_tests}
use Rattle.std.proofs.lemmas.List.Folds.{find_at}
use Rattle.menu_list.specs.declared.listed.Listed.{Listed}
use Rattle.menu_list.specs.Lists.{has_number, menu_index, menu_with}

module _ {D : Type 0} where
  past_end : (xs : List (Listed D)) (n : ℕ) → length xs ≤ n → slice_get xs n ≡ None
  past_end [] n e = refl
  past_end (x ∷ xs) zero e = absurd (omega arith)
  past_end (x ∷ xs) (suc n) e = past_end xs n (omega arith)

  -- the menu of a number is the one at its index
  pub with_is : (id : ℤ) (xs : List (Listed D)) → menu_with id xs ≡ option_and_then (slice_get xs) (menu_index id xs)
  with_is id xs = find_at (has_number id) xs ∙ by_test (position_or_len (has_number id) xs) (ltb (position_or_len (has_number id) xs) (length xs)) refl
    where
      by_test : (n : ℕ) (b : Bool) → ltb n (length xs) ≡ b → slice_get xs n ≡ option_and_then (slice_get xs) (cond b (Some n) None)
      by_test n true e = refl
      by_test n false e = past_end xs n (grind (arith, nat_tests))

  pub with_found : (id : ℤ) (xs : List (Listed D)) (at : ℕ) → menu_index id xs ≡ Some at → menu_with id xs ≡ slice_get xs at
  with_found id xs at e = with_is id xs ∙ ap (option_and_then (slice_get xs)) e

  pub with_none : (id : ℤ) (xs : List (Listed D)) → menu_index id xs ≡ None → menu_with id xs ≡ None
  with_none id xs e = with_is id xs ∙ ap (option_and_then (slice_get xs)) e
