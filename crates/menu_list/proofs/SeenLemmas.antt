-- A list of menus in which each definition is seen as something else: what is done to the list is done to what is seen.
use Rattle.std.proofs.Common.{◌≡◌, ℕ, zero, suc, ◌+◌, Bool, true, false, not, cond, ◌&&◌, ◌||◌, List, [], ◌∷◌, ◌++◌, length, map, Option, Some, None, take, drop, refl, sym, ap, ◌∙◌}
use Rattle.std.proofs.Math.Path.{ap₂}
use Rattle.std.specs.Prelude.{ℤ, slice_get}
use Rattle.std.specs.List.{position_or_len, remove}
use Rattle.std.specs.Option.{option_map, option_map_or, option_and_then, option_or}
use Rattle.std.proofs.lemmas.List.{length-map, map-append, take-map, drop-map}
use Rattle.std.proofs.lemmas.Option.{slice_get-map}
use Rattle.tb_geom.specs.declared.refusal.Refusal.{Refusal}
use Rattle.menu_record.specs.declared.menu.Menu.{Menu}
use Rattle.menu_list.specs.declared.listed.Listed.{Listed}
use Rattle.menu_list.specs.Lists.{has_number, menu_index, menu_with, edit_at, with_menu, with_inserted, why_at, put_before, moved_before, without_highlight, without_highlight_at, in_bar, is_in_bar, title_of, titles_of, key_in, key_choice}
use Rattle.menu_list.specs.Seen.{seen, all_seen}

module _ {B D : Type 0} (g : B → D) where
  pub length-seen : (xs : List (Listed B)) → length (all_seen g xs) ≡ length xs
  length-seen xs = length-map xs (seen g)

  pub append-seen : (xs ys : List (Listed B)) → all_seen g (xs ++ ys) ≡ all_seen g xs ++ all_seen g ys
  append-seen xs ys = map-append (seen g) xs ys

  pub remove-seen : (xs : List (Listed B)) (i : ℕ) → all_seen g (remove xs i) ≡ remove (all_seen g xs) i
  remove-seen xs i =
      map-append (seen g) (take i xs) (drop (suc i) xs)
      ∙ ap₂ (λ a b. a ++ b) (sym (take-map (seen g) i xs)) (sym (drop-map (seen g) (suc i) xs))

  pub slice_get-seen : (xs : List (Listed B)) (i : ℕ) → slice_get (all_seen g xs) i ≡ option_map (seen g) (slice_get xs i)
  slice_get-seen xs i = slice_get-map (seen g) xs i

  -- what changes a menu, whatever its definition
  pub edit_at-seen : (f : Listed B → Listed B) (h : Listed D → Listed D) → ((l : Listed B) → seen g (f l) ≡ h (seen g l))
      → (i : ℕ) (xs : List (Listed B)) → all_seen g (edit_at f i xs) ≡ edit_at h i (all_seen g xs)
  edit_at-seen f h same i [] = refl
  edit_at-seen f h same zero (x ∷ xs) = ap (λ y. y ∷ all_seen g xs) (same x)
  edit_at-seen f h same (suc i) (x ∷ xs) = ap (λ ys. seen g x ∷ ys) (edit_at-seen f h same i xs)

  pub with_menu-seen : (f : Menu → Menu) (i : ℕ) (xs : List (Listed B)) → all_seen g (edit_at (with_menu f) i xs) ≡ edit_at (with_menu f) i (all_seen g xs)
  with_menu-seen f i xs = edit_at-seen (with_menu f) (with_menu f) (λ l. refl) i xs

  pub with_inserted-seen : (inserted : Bool) (i : ℕ) (xs : List (Listed B)) → all_seen g (edit_at (with_inserted inserted) i xs) ≡ edit_at (with_inserted inserted) i (all_seen g xs)
  with_inserted-seen inserted i xs = edit_at-seen (with_inserted inserted) (with_inserted inserted) (λ l. refl) i xs

  why_seen : (why : Menu → Option Refusal) (o : Option (Listed B)) → option_and_then (λ (l : Listed D). why l.menu) (option_map (seen g) o) ≡ option_and_then (λ (l : Listed B). why l.menu) o
  why_seen why None = refl
  why_seen why (Some l) = refl

  pub why_at-seen : (why : Menu → Option Refusal) (i : ℕ) (xs : List (Listed B)) → why_at why i (all_seen g xs) ≡ why_at why i xs
  why_at-seen why i xs = ap (option_and_then (λ l. why l.menu)) (slice_get-seen xs i) ∙ why_seen why (slice_get xs i)

  put_seen : (l x : Listed B) (xs put : List (Listed B)) (b : Bool) (seen_put : List (Listed D)) → all_seen g put ≡ seen_put
      → all_seen g (cond b (l ∷ x ∷ xs) (x ∷ put)) ≡ cond b (seen g l ∷ seen g x ∷ all_seen g xs) (seen g x ∷ seen_put)
  put_seen l x xs put true seen_put e = refl
  put_seen l x xs put false seen_put e = ap (λ ys. seen g x ∷ ys) e

  pub put_before-seen : (before : ℤ) (l : Listed B) (xs : List (Listed B)) → all_seen g (put_before before l xs) ≡ put_before before (seen g l) (all_seen g xs)
  put_before-seen before l [] = refl
  put_before-seen before l (x ∷ xs) = put_seen l x xs (put_before before l xs) (has_number before x) (put_before before (seen g l) (all_seen g xs)) (put_before-seen before l xs)

  moved_seen : (before : ℤ) (xs ys : List (Listed B)) (o : Option (Listed B)) → all_seen g (option_map_or (λ l. put_before before (with_inserted true l) ys) o xs)
      ≡ option_map_or (λ l. put_before before (with_inserted true l) (all_seen g ys)) (option_map (seen g) o) (all_seen g xs)
  moved_seen before xs ys None = refl
  moved_seen before xs ys (Some l) = put_before-seen before (with_inserted true l) ys

  pub moved_before-seen : (before : ℤ) (i : ℕ) (xs : List (Listed B)) → all_seen g (moved_before before i xs) ≡ moved_before before i (all_seen g xs)
  moved_before-seen before i xs =
      moved_seen before xs (remove xs i) (slice_get xs i)
      ∙ ap₂ (λ o ys. option_map_or (λ l. put_before before (with_inserted true l) ys) o (all_seen g xs)) (sym (slice_get-seen xs i)) (remove-seen xs i)

  lit_seen : (highlighted : Option ℕ) (o : Option (Listed B)) → option_map_or (λ (l : Listed D). without_highlight l.menu.id highlighted) (option_map (seen g) o) highlighted
      ≡ option_map_or (λ (l : Listed B). without_highlight l.menu.id highlighted) o highlighted
  lit_seen highlighted None = refl
  lit_seen highlighted (Some l) = refl

  pub without_highlight_at-seen : (i : ℕ) (xs : List (Listed B)) (highlighted : Option ℕ)
      → without_highlight_at i (all_seen g xs) highlighted ≡ without_highlight_at i xs highlighted
  without_highlight_at-seen i xs highlighted =
      ap (λ o. option_map_or (λ l. without_highlight l.menu.id highlighted) o highlighted) (slice_get-seen xs i) ∙ lit_seen highlighted (slice_get xs i)

  len-seen : (id : ℤ) (xs : List (Listed B)) → position_or_len (has_number id) (all_seen g xs) ≡ position_or_len (has_number id) xs
  len-seen id [] = refl
  len-seen id (x ∷ xs) = ap (λ n. cond (not (has_number id x)) (1 + n) 0) (len-seen id xs)

  pub menu_index-seen : (id : ℤ) (xs : List (Listed B)) → menu_index id (all_seen g xs) ≡ menu_index id xs
  menu_index-seen id xs = rw (len-seen id xs, length-seen xs) refl

  found_seen : (x : Listed B) (found : Option (Listed B)) (b : Bool) (seen_found : Option (Listed D)) → seen_found ≡ option_map (seen g) found
      → cond b (Some (seen g x)) seen_found ≡ option_map (seen g) (cond b (Some x) found)
  found_seen x found true seen_found e = refl
  found_seen x found false seen_found e = e

  pub menu_with-seen : (id : ℤ) (xs : List (Listed B)) → menu_with id (all_seen g xs) ≡ option_map (seen g) (menu_with id xs)
  menu_with-seen id [] = refl
  menu_with-seen id (x ∷ xs) = found_seen x (menu_with id xs) (has_number id x) (menu_with id (all_seen g xs)) (menu_with-seen id xs)

  pub is_in_bar-seen : (id : ℤ) (xs : List (Listed B)) → is_in_bar id (all_seen g xs) ≡ is_in_bar id xs
  is_in_bar-seen id [] = refl
  is_in_bar-seen id (x ∷ xs) = ap (λ b. (x.inserted && has_number id x) || b) (is_in_bar-seen id xs)

  titled_seen : (highlighted : Option ℕ) (x : Listed B) (xs : List (Listed B)) (ys : List (Listed D)) (b : Bool)
      → map (title_of highlighted) ys ≡ map (title_of highlighted) xs
      → map (title_of highlighted) (cond b (seen g x ∷ ys) ys) ≡ map (title_of highlighted) (cond b (x ∷ xs) xs)
  titled_seen highlighted x xs ys true e = ap (λ ts. title_of highlighted x ∷ ts) e
  titled_seen highlighted x xs ys false e = e

  pub titles_of-seen : (highlighted : Option ℕ) (xs : List (Listed B)) → titles_of highlighted (all_seen g xs) ≡ titles_of highlighted xs
  titles_of-seen highlighted [] = refl
  titles_of-seen highlighted (x ∷ xs) = titled_seen highlighted x (in_bar xs) (in_bar (all_seen g xs)) x.inserted (titles_of-seen highlighted xs)

  pub key_choice-seen : (key : ℕ) (xs : List (Listed B)) → key_choice key (all_seen g xs) ≡ key_choice key xs
  key_choice-seen key [] = refl
  key_choice-seen key (x ∷ xs) = ap (λ o. option_or o (key_in key x)) (key_choice-seen key xs)
