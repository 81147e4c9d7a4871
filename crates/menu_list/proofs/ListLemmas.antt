-- A menu that is changed in its list, and one that is put before another.
use Rattle.std.proofs.Common.{◌≡◌, ℕ, zero, suc, ◌+◌, ◌<◌, ◌≤◌, Bool, true, false, not, cond, ltb, List, [], ◌∷◌, length, get_or, set, Option, Some, None, refl, sym, ap, ◌∙◌, arith}
use Rattle.std.specs.Prelude.{ℤ, slice_get}
use Rattle.std.specs.List.{position_or_len, insert, remove}
use Rattle.std.specs.Option.{unwrap_or, option_map_or}
use Rattle.std.specs.Prelude.{Result, OnOk, OnErr}
use Rattle.std.specs.Result.{result_err}
use Rattle.std.proofs.lemmas.Result.{on_ok_weaker, on_err_weaker}
use Rattle.std.proofs.lemmas.Bool.{ltb-false}
use Rattle.std.proofs.lemmas.Option.{slice_get-get_or}
use Rattle.tb_geom.specs.declared.refusal.Refusal.{Refusal}
use Rattle.menu_record.specs.declared.item.MenuItem.{MenuItem}
use Rattle.menu_record.specs.declared.menu.Menu.{Menu}
use Rattle.menu_list.specs.declared.listed.Listed.{Listed}
use Rattle.menu_list.specs.Lists.{has_number, place_before, edit_at, with_menu, why_at, put_before, moved_before, with_inserted}

one_step : (n m : ℕ) (b : Bool) → n ≤ m → cond (not b) (1 + n) 0 ≤ m + 1
one_step n m true few = omega arith
one_step n m false few = omega arith

at_or_end : (n m : ℕ) → n ≤ m → (b : Bool) → ltb n m ≡ b → unwrap_or (cond b (Some n) None) m ≡ n
at_or_end n m most true e = refl
at_or_end n m most false e = let h = ltb-false n m e in omega arith

module _ {D : Type 0} where
  -- a menu that was read is there
  pub read_there : (xs : List (Listed D)) (i : ℕ) (x : Listed D) → i < length xs → x ≡ get_or xs i x → slice_get xs i ≡ Some x
  read_there xs i x within read = slice_get-get_or xs i x within ∙ ap Some (sym read)

  -- a changed menu is written over what it was
  pub set_is_edit : (f : Listed D → Listed D) (xs : List (Listed D)) (i : ℕ) (x : Listed D) → x ≡ get_or xs i x → set xs i (f x) ≡ edit_at f i xs
  set_is_edit f [] i x e = refl
  set_is_edit f (y ∷ ys) zero x e = ap (λ z. f z ∷ ys) e
  set_is_edit f (y ∷ ys) (suc i) x e = ap (λ zs. y ∷ zs) (set_is_edit f ys i x e)

  -- and one that is as it was leaves the list
  pub set_same : (xs : List (Listed D)) (i : ℕ) (x : Listed D) → x ≡ get_or xs i x → set xs i x ≡ xs
  set_same [] i x e = refl
  set_same (y ∷ ys) zero x e = ap (λ z. z ∷ ys) e
  set_same (y ∷ ys) (suc i) x e = ap (λ zs. y ∷ zs) (set_same ys i x e)

  -- the same, where a new record was written into the menu
  pub set_menu : (f : Menu → Menu) (xs : List (Listed D)) (i : ℕ) (x : Listed D) (new : Menu) → x ≡ get_or xs i x → new ≡ f x.menu
      → set xs i (record x { menu = new }) ≡ edit_at (with_menu f) i xs
  set_menu f xs i x new read is = ap (λ m. set xs i (record x { menu = m })) is ∙ set_is_edit (with_menu f) xs i x read

  pub set_same_menu : (xs : List (Listed D)) (i : ℕ) (x : Listed D) (new : Menu) → x ≡ get_or xs i x → new ≡ x.menu → set xs i (record x { menu = new }) ≡ xs
  set_same_menu xs i x new read is = ap (λ m. set xs i (record x { menu = m })) is ∙ set_same xs i x read

  -- why its record is not changed
  pub why_there : (why : Menu → Option Refusal) (xs : List (Listed D)) (i : ℕ) (x : Listed D) → i < length xs → x ≡ get_or xs i x → why x.menu ≡ why_at why i xs
  why_there why xs i x within read = sym (rw (read_there xs i x within read) refl)

  -- what a call on the menu's record says of it, said of the list
  module _ (xs : List (Listed D)) (i : ℕ) (x : Listed D) (within : i < length xs) (read : x ≡ get_or xs i x) (r : Result (Unit {0}) Refusal) where
    pub done : (f : Menu → Menu) (new : Menu) → OnOk r (new ≡ f x.menu) → OnOk r (set xs i (record x { menu = new }) ≡ edit_at (with_menu f) i xs)
    done f new e = on_ok_weaker r (set_menu f xs i x new read) e

    pub done_items : (change : List MenuItem → List MenuItem) (new : List MenuItem) → OnOk r (new ≡ change x.menu.items)
        → OnOk r (set xs i (record x { menu = record x.menu { items = new } }) ≡ edit_at (with_menu (λ m. record m { items = change m.items })) i xs)
    done_items change new e =
        on_ok_weaker r (λ (is : new ≡ change x.menu.items). set_menu (λ m. record m { items = change m.items }) xs i x (record x.menu { items = new }) read (ap (λ items. record x.menu { items = items }) is)) e

    pub kept : (new : Menu) → OnErr r (new ≡ x.menu) → OnErr r (set xs i (record x { menu = new }) ≡ xs)
    kept new e = on_err_weaker r (set_same_menu xs i x new read) e

    pub kept_items : (new : List MenuItem) → OnErr r (new ≡ x.menu.items) → OnErr r (set xs i (record x { menu = record x.menu { items = new } }) ≡ xs)
    kept_items new e = on_err_weaker r (λ (is : new ≡ x.menu.items). set_same_menu xs i x (record x.menu { items = new }) read (ap (λ items. record x.menu { items = items }) is)) e

    pub answered : (why : Menu → Option Refusal) → result_err r ≡ why x.menu → result_err r ≡ why_at why i xs
    answered why e = e ∙ why_there why xs i x within read

  -- ---- put before another

  put_first : (l x : Listed D) (xs put : List (Listed D)) (n : ℕ) (b : Bool) → insert xs n l ≡ put → insert (x ∷ xs) (cond (not b) (1 + n) 0) l ≡ cond b (l ∷ x ∷ xs) (x ∷ put)
  put_first l x xs put n true e = refl
  put_first l x xs put n false e = let one : 1 + n ≡ suc n = omega arith in rw one (ap (λ zs. x ∷ zs) e)

  before_len : (before : ℤ) (l : Listed D) (xs : List (Listed D)) → insert xs (position_or_len (has_number before) xs) l ≡ put_before before l xs
  before_len before l [] = refl
  before_len before l (x ∷ xs) = put_first l x xs (put_before before l xs) (position_or_len (has_number before) xs) (has_number before x) (before_len before l xs)

  len_at_most : (p : Listed D → Bool) (xs : List (Listed D)) → position_or_len p xs ≤ length xs
  len_at_most p [] = omega arith
  len_at_most p (x ∷ xs) = let few = one_step (position_or_len p xs) (length xs) (p x) (len_at_most p xs) in omega (arith, few)

  pub place_is : (before : ℤ) (xs : List (Listed D)) → place_before before xs ≡ position_or_len (has_number before) xs
  place_is before xs =
      at_or_end (position_or_len (has_number before) xs) (length xs) (len_at_most (has_number before) xs)
      (ltb (position_or_len (has_number before) xs) (length xs)) refl

  pub put_at_place : (before : ℤ) (l : Listed D) (xs : List (Listed D)) → insert xs (place_before before xs) l ≡ put_before before l xs
  put_at_place before l xs = ap (λ n. insert xs n l) (place_is before xs) ∙ before_len before l xs

  -- a menu that was taken out, and put into the menu bar before another
  pub moved_is : (before : ℤ) (at : ℕ) (xs left new : List (Listed D)) (x : Listed D) (n : ℕ)
      → at < length xs → x ≡ get_or xs at x → left ≡ remove xs at → n ≡ place_before before left → new ≡ insert left n (with_inserted true x)
      → new ≡ moved_before before at xs
  moved_is before at xs left new x n within read taken place put =
      let l = with_inserted true x in
      put
      ∙ ap (λ k. insert left k l) place
      ∙ put_at_place before l left
      ∙ ap (put_before before l) taken
      ∙ ap (λ o. option_map_or (λ y. put_before before (with_inserted true y) (remove xs at)) o xs) (sym (read_there xs at x within read))
