-- Titles and keys, one menu after another.
use Rattle.std.proofs.Common.{◌≡◌, ℕ, ◌≤◌, ◌<◌, ◌+◌, Bool, true, false, cond, List, [], ◌∷◌, ◌++◌, length, map, get_or, take, Option, Some, None, refl, sym, ap, ◌∙◌, arith}
use Rattle.std.proofs.lemmas.List.{take_more}
use Rattle.std.specs.Option.{option_or}
use Rattle.menu_list.specs.declared.listed.Listed.{Listed}
use Rattle.menu_list.specs.Lists.{in_bar, title_of, titles_of, key_in, key_choice}

none_last : {X : Type 0} (o : Option X) → option_or None o ≡ option_or o None
none_last None = refl
none_last (Some c) = refl

in_turn : {X : Type 0} (a b c : Option X) → option_or (option_or a b) c ≡ option_or a (option_or b c)
in_turn None b c = refl
in_turn (Some d) b c = refl

module _ {D : Type 0} where
  -- the menus up to the next one
  pub take_next : (xs : List (Listed D)) (i : ℕ) (x : Listed D) → i < length xs → x ≡ get_or xs i x → take (i + 1) xs ≡ take i xs ++ x ∷ []
  take_next xs i x within read = take_more xs i x within ∙ ap (λ y. take i xs ++ y ∷ []) (sym read)

  titled : (h : Option ℕ) (y : Listed D) (ys more : List (Listed D)) (b : Bool) → map (title_of h) more ≡ map (title_of h) ys
      → map (title_of h) (cond b (y ∷ more) more) ≡ map (title_of h) (cond b (y ∷ ys) ys)
  titled h y ys more true e = ap (λ ts. title_of h y ∷ ts) e
  titled h y ys more false e = e

  titled_with : (h : Option ℕ) (x y : Listed D) (ys more : List (Listed D)) (b : Bool) → map (title_of h) more ≡ map (title_of h) ys ++ title_of h x ∷ []
      → map (title_of h) (cond b (y ∷ more) more) ≡ map (title_of h) (cond b (y ∷ ys) ys) ++ title_of h x ∷ []
  titled_with h x y ys more true e = ap (λ ts. title_of h y ∷ ts) e
  titled_with h x y ys more false e = e

  -- one menu more to the right that is in the menu bar has a title, and one that is not has none
  pub one_title : (h : Option ℕ) (xs : List (Listed D)) (x : Listed D) → x.inserted ≡ true → titles_of h (xs ++ x ∷ []) ≡ titles_of h xs ++ title_of h x ∷ []
  one_title h [] x is = ap (λ b. map (title_of h) (cond b (x ∷ []) [])) is
  one_title h (y ∷ ys) x is = titled_with h x y (in_bar ys) (in_bar (ys ++ x ∷ [])) y.inserted (one_title h ys x is)

  pub no_title : (h : Option ℕ) (xs : List (Listed D)) (x : Listed D) → x.inserted ≡ false → titles_of h (xs ++ x ∷ []) ≡ titles_of h xs
  no_title h [] x is = ap (λ b. map (title_of h) (cond b (x ∷ []) [])) is
  no_title h (y ∷ ys) x is = titled h y (in_bar ys) (in_bar (ys ++ x ∷ [])) y.inserted (no_title h ys x is)

  few_more : (h : Option ℕ) (x : Listed D) (xs : List (Listed D)) (n : ℕ) (b : Bool) → length (map (title_of h) xs) ≤ n → length (map (title_of h) (cond b (x ∷ xs) xs)) ≤ n + 1
  few_more h x xs n true few = omega arith
  few_more h x xs n false few = omega arith

  -- there are no more titles than menus
  pub few_titles : (h : Option ℕ) (xs : List (Listed D)) → length (titles_of h xs) ≤ length xs
  few_titles h [] = omega arith
  few_titles h (x ∷ xs) = let few = few_more h x (in_bar xs) (length xs) x.inserted (few_titles h xs) in omega (arith, few)

  -- of one menu more to the right the key chooses first
  pub one_key : (key : ℕ) (xs : List (Listed D)) (x : Listed D) → key_choice key (xs ++ x ∷ []) ≡ option_or (key_in key x) (key_choice key xs)
  one_key key [] x = none_last (key_in key x)
  one_key key (y ∷ ys) x = ap (λ o. option_or o (key_in key y)) (one_key key ys x) ∙ in_turn (key_in key x) (key_choice key ys) (key_in key y)
