-- What the definitions of a desk's menus imply.
use Rattle.std.proofs.Common.{◌≡◌, ℕ, zero, suc, ◌==◌, Bool, true, false, cond, ◌&&◌, ◌||◌, List, [], ◌∷◌, ◌++◌, length, map, Option, Some, None, refl, sym, ap, ◌∙◌, arith, eqb-true}
use Rattle.std.specs.Prelude.{All, ℤ, slice_get}
use Rattle.std.specs.List.{list_any, remove, insert}
use Rattle.std.specs.Option.{option_map, option_map_or, option_or, unwrap_or}
use Rattle.std.proofs.lemmas.Bool.{false≢true}
use Rattle.std.proofs.lemmas.List.Elements.{All-nil, All-cons, filter-append}
use Rattle.desk_call.specs.declared.menu.Choice.{Choice}
use Rattle.menu_record.specs.declared.item.MenuItem.{MenuItem}
use Rattle.menu_record.specs.declared.menu.Menu.{Menu}
use Rattle.menu_record.specs.Menus.{can_choose, has_key, item_at, item_with_key}
use Rattle.menu_record.proofs.LawLemmas.{found_item}
use Rattle.desk_ground.specs.declared.titles.BarTitle.{BarTitle}
use Rattle.menu_list.specs.declared.listed.Listed.{Listed}
use Rattle.menu_list.specs.Lists.{has_number, menu_index, put_before, moved_before, with_inserted, in_bar, is_highlighted, title_of, titles_of, key_in, key_choice}
use Rattle.menu_list.proofs.ListLemmas.{put_at_place}

turned : (a b c : Bool) → (a || (b || c)) ≡ (b || (a || c))
turned true true c = refl
turned true false c = refl
turned false b c = refl

abbrev Lit : Option ℕ → BarTitle → Type 0
Lit highlighted title = title.highlighted ≡ true → highlighted ≡ Some title.menu

one_number : (highlighted : Option ℕ) (id : ℕ) → is_highlighted id highlighted ≡ true → highlighted ≡ Some id
one_number None id e = absurd (false≢true e)
one_number (Some h) id e = ap Some (eqb-true h id e)

same_id : (n : ℕ) → (n == n) ≡ true
same_id n = grind arith

of_the_found : (menu : Menu) (key : ℕ) (o : Option MenuItem) → option_map_or (λ item. can_choose menu item && has_key key item) o false ≡ true → option_map_or (can_choose menu) o false ≡ true
of_the_found menu key None e = e
of_the_found menu key (Some item) e = first (can_choose menu item) (has_key key item) e
  where
    first : (a b : Bool) → (a && b) ≡ true → a ≡ true
    first true b e = refl
    first false b e = e

key_found : (key : ℕ) (menu : Menu) (c : Choice) (o : Option ℕ) → item_with_key key menu ≡ o → option_map (λ item. record { menu = menu.id; item = item }) o ≡ Some c
    → ((menu.id == c.menu) && option_map_or (can_choose menu) (item_at c.item menu.items) false) ≡ true
key_found key menu c None found e = absurd (cc)
key_found key menu c (Some n) found e =
    let same : record { menu = menu.id; item = n } ≡ c = cc in
    ap (λ (d : Choice). (menu.id == d.menu) && option_map_or (can_choose menu) (item_at d.item menu.items) false) (sym same)
    ∙ ap (λ b. b && option_map_or (can_choose menu) (item_at n menu.items) false) (same_id menu.id)
    ∙ of_the_found menu key (item_at n menu.items) (found_item key menu n found)

if_inserted : (key : ℕ) (menu : Menu) (c : Choice) (b : Bool) → cond b (option_map (λ item. record { menu = menu.id; item = item }) (item_with_key key menu)) None ≡ Some c
    → (b && ((menu.id == c.menu) && option_map_or (can_choose menu) (item_at c.item menu.items) false)) ≡ true
if_inserted key menu c true e = key_found key menu c (item_with_key key menu) refl e
if_inserted key menu c false e = absurd (cc)

or_right : (a b : Bool) → b ≡ true → (a || b) ≡ true
or_right true b e = refl
or_right false b e = e

module _ {D : Type 0} where
  -- ---- an insertion

  one_longer : (l x : Listed D) (xs put : List (Listed D)) (b : Bool) → length put ≡ suc (length xs) → length (cond b (l ∷ x ∷ xs) (x ∷ put)) ≡ suc (suc (length xs))
  one_longer l x xs put true e = refl
  one_longer l x xs put false e = ap suc e

  one_more : (before : ℤ) (l : Listed D) (xs : List (Listed D)) → length (put_before before l xs) ≡ suc (length xs)
  one_more before l [] = refl
  one_more before l (x ∷ xs) = one_longer l x xs (put_before before l xs) (has_number before x) (one_more before l xs)

  one_less : (xs : List (Listed D)) (i : ℕ) (l : Listed D) → slice_get xs i ≡ Some l → suc (length (remove xs i)) ≡ length xs
  one_less [] i l at = absurd (cc)
  one_less (x ∷ xs) zero l at = refl
  one_less (x ∷ xs) (suc i) l at = ap suc (one_less xs i l at)

  pub as_many : (before : ℤ) (at : ℕ) (menus : List (Listed D)) → length (moved_before before at menus) ≡ length menus
  as_many before at menus = by_get (slice_get menus at) refl
    where
      by_get : (o : Option (Listed D)) → slice_get menus at ≡ o → length (option_map_or (λ l. put_before before (with_inserted true l) (remove menus at)) o menus) ≡ length menus
      by_get None e = refl
      by_get (Some l) e = one_more before (with_inserted true l) (remove menus at) ∙ one_less menus at l e

  any_first : (p : Listed D → Bool) (l x : Listed D) (xs put : List (Listed D)) (b : Bool) → list_any p put ≡ (p l || list_any p xs)
      → list_any p (cond b (l ∷ x ∷ xs) (x ∷ put)) ≡ (p l || (p x || list_any p xs))
  any_first p l x xs put true e = refl
  any_first p l x xs put false e = ap (λ b. p x || b) e ∙ turned (p x) (p l) (list_any p xs)

  any_put : (p : Listed D → Bool) (before : ℤ) (l : Listed D) (xs : List (Listed D)) → list_any p (put_before before l xs) ≡ (p l || list_any p xs)
  any_put p before l [] = refl
  any_put p before l (x ∷ xs) = any_first p l x xs (put_before before l xs) (has_number before x) (any_put p before l xs)

  any_less : (p : Listed D → Bool) (xs : List (Listed D)) (i : ℕ) (l : Listed D) → slice_get xs i ≡ Some l → (p l || list_any p (remove xs i)) ≡ list_any p xs
  any_less p [] i l at = absurd (cc)
  any_less p (x ∷ xs) zero l at = let same : x ≡ l = cc in ap (λ y. p y || list_any p xs) (sym same)
  any_less p (x ∷ xs) (suc i) l at = turned (p l) (p x) (list_any p (remove xs i)) ∙ ap (λ b. p x || b) (any_less p xs i l at)

  pub same_numbers : (before : ℤ) (at : ℕ) (menus : List (Listed D)) (id : ℤ) → list_any (has_number id) (moved_before before at menus) ≡ list_any (has_number id) menus
  same_numbers before at menus id = by_get (slice_get menus at) refl
    where
      by_get : (o : Option (Listed D)) → slice_get menus at ≡ o
          → list_any (has_number id) (option_map_or (λ l. put_before before (with_inserted true l) (remove menus at)) o menus) ≡ list_any (has_number id) menus
      by_get None e = refl
      by_get (Some l) e = any_put (has_number id) before (with_inserted true l) (remove menus at) ∙ any_less (has_number id) menus at l e

  at_length : (xs : List (Listed D)) (l : Listed D) → insert xs (length xs) l ≡ xs ++ l ∷ []
  at_length [] l = refl
  at_length (x ∷ xs) l = ap (λ ys. x ∷ ys) (at_length xs l)

  pub at_the_end : (before : ℤ) (listed : Listed D) (menus : List (Listed D)) → menu_index before menus ≡ None
      → in_bar (put_before before (with_inserted true listed) menus) ≡ in_bar menus ++ with_inserted true listed ∷ []
  at_the_end before listed menus none =
      let l = with_inserted true listed in
      ap in_bar (sym (put_at_place before l menus) ∙ ap (λ o. insert menus (unwrap_or o (length menus)) l) none ∙ at_length menus l)
      ∙ filter-append (λ x. x.inserted) menus (l ∷ [])

  -- ---- what is highlighted

  lit_first : (highlighted : Option ℕ) (x : Listed D) (xs : List (Listed D)) (b : Bool) → All (Lit highlighted) (map (title_of highlighted) xs)
      → All (Lit highlighted) (map (title_of highlighted) (cond b (x ∷ xs) xs))
  lit_first highlighted x xs true all = All-cons (Lit highlighted) (title_of highlighted x) (map (title_of highlighted) xs) (one_number highlighted x.menu.id) all
  lit_first highlighted x xs false all = all

  pub one_number_highlighted : (highlighted : Option ℕ) (menus : List (Listed D))
      → All (λ title. title.highlighted ≡ true → highlighted ≡ Some title.menu) (titles_of highlighted menus)
  one_number_highlighted highlighted [] = All-nil (Lit highlighted)
  one_number_highlighted highlighted (x ∷ xs) = lit_first highlighted x (in_bar xs) x.inserted (one_number_highlighted highlighted xs)

  -- ---- what a key chooses

  abbrev is_chosen : Choice → Listed D → Bool
  is_chosen c l = l.inserted && ((l.menu.id == c.menu) && option_map_or (can_choose l.menu) (item_at c.item l.menu.items) false)

  by_rest : (key : ℕ) (x : Listed D) (c : Choice) (rest : Bool) (o : Option Choice) → (o ≡ Some c → rest ≡ true) → option_or o (key_in key x) ≡ Some c → (is_chosen c x || rest) ≡ true
  by_rest key x c rest None further e = ap (λ b. b || rest) (if_inserted key x.menu c x.inserted e)
  by_rest key x c rest (Some d) further e = or_right (is_chosen c x) rest (further e)

  pub chosen_can_be : (key : ℕ) (menus : List (Listed D)) (choice : Choice) → key_choice key menus ≡ Some choice
      → list_any (λ l. l.inserted && ((l.menu.id == choice.menu) && option_map_or (can_choose l.menu) (item_at choice.item l.menu.items) false)) menus ≡ true
  chosen_can_be key [] choice e = absurd (cc)
  chosen_can_be key (x ∷ xs) choice e = by_rest key x choice (list_any (is_chosen choice) xs) (key_choice key xs) (chosen_can_be key xs choice) e
