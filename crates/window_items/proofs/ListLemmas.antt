-- An item that is read or changed in its list, how many a window has, and where its youngest one stands.
use Rattle.std.proofs.Common.{◌≡◌, ℕ, zero, suc, ◌+◌, ◌<◌, Bool, true, false, cond, List, [], ◌∷◌, ◌++◌, length, get_or, set, take, Option, Some, None, refl, sym, ap, ◌∙◌, arith}
use Rattle.std.specs.Prelude.{slice_get, IfSome}
use Rattle.std.specs.List.{count_by}
use Rattle.std.specs.Option.{option_map, option_or}
use Rattle.std.proofs.lemmas.List.{take_more}
use Rattle.std.proofs.lemmas.List.Recursion.{is_count_by}
use Rattle.std.proofs.lemmas.Option.{slice_get-get_or}
use Rattle.window_items.specs.declared.item.Item.{Item}
use Rattle.window_items.specs.Items.{is_in, count_of, last_index_of, edit_at}

one_more : (b : Bool) (n : ℕ) → cond b (suc n) n ≡ cond b (1 + n) n
one_more true n = omega arith
one_more false n = refl

-- one number more behind what may be a number already
or_last : (b : Bool) (n : ℕ) (o r : Option ℕ) → option_or (option_map (λ at. suc at) (cond b (Some n) o)) r ≡ cond b (Some (suc n)) (option_or (option_map (λ at. suc at) o) r)
or_last true n o r = refl
or_last false n o r = refl

within_more : (b : Bool) (n : ℕ) (o : Option ℕ) → IfSome o (λ at. at < n) → IfSome (option_or (option_map (λ at. suc at) o) (cond b (Some 0) None)) (λ at. at < suc n)
within_more true n None h = omega arith
within_more false n None h = tt
within_more b n (Some at) h = omega arith

module _ {T : Type 0} where
  -- an item that was read is there
  pub read_there : (xs : List (Item T)) (i : ℕ) (x : Item T) → i < length xs → x ≡ get_or xs i x → slice_get xs i ≡ Some x
  read_there xs i x within read = slice_get-get_or xs i x within ∙ ap Some (sym read)

  -- a changed item is written over what it was
  pub set_is_edit : (f : Item T → Item T) (xs : List (Item T)) (i : ℕ) (x : Item T) → x ≡ get_or xs i x → set xs i (f x) ≡ edit_at f i xs
  set_is_edit f [] i x e = refl
  set_is_edit f (y ∷ ys) zero x e = ap (λ z. f z ∷ ys) e
  set_is_edit f (y ∷ ys) (suc i) x e = ap (λ zs. y ∷ zs) (set_is_edit f ys i x e)

  -- and there are as many as before
  pub length-edit_at : (f : Item T → Item T) (i : ℕ) (xs : List (Item T)) → length (edit_at f i xs) ≡ length xs
  length-edit_at f i [] = refl
  length-edit_at f zero (y ∷ ys) = refl
  length-edit_at f (suc i) (y ∷ ys) = ap (λ n. suc n) (length-edit_at f i ys)

  -- the items up to the next one
  pub take_next : (xs : List (Item T)) (i : ℕ) (x : Item T) → i < length xs → x ≡ get_or xs i x → take (i + 1) xs ≡ take i xs ++ x ∷ []
  take_next xs i x within read = take_more xs i x within ∙ ap (λ y. take i xs ++ y ∷ []) (sym read)

  -- a count by the test is the number of the window's items
  pub counted : (window : ℕ) (xs : List (Item T)) → count_by (is_in window) xs ≡ count_of window xs
  counted window xs = sym (is_count_by (count_of window) (is_in window) refl (λ x ys. one_more (is_in window x) (count_of window ys)) xs)

  -- of one item more the window's youngest is that one, if it is in the window
  pub last_push : (window : ℕ) (xs : List (Item T)) (x : Item T) → last_index_of window (xs ++ x ∷ []) ≡ cond (is_in window x) (Some (length xs)) (last_index_of window xs)
  last_push window [] x = refl
  last_push window (y ∷ ys) x =
      ap (λ o. option_or (option_map (λ at. suc at) o) (cond (is_in window y) (Some 0) None)) (last_push window ys x)
      ∙ or_last (is_in window x) (length ys) (last_index_of window ys) (cond (is_in window y) (Some 0) None)

  -- it stands in the list
  pub last_within : (window : ℕ) (xs : List (Item T)) → IfSome (last_index_of window xs) (λ at. at < length xs)
  last_within window [] = tt
  last_within window (x ∷ xs) = within_more (is_in window x) (length xs) (last_index_of window xs) (last_within window xs)
