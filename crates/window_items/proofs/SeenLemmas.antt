-- A list of items in which what is kept is seen as something else: what is done to the list is done to what is seen.
use Rattle.std.proofs.Common.{◌≡◌, ℕ, zero, suc, ◌+◌, Bool, true, false, not, cond, ◌&&◌, List, [], ◌∷◌, ◌++◌, length, Option, Some, None, take, drop, refl, sym, ap, ◌∙◌}
use Rattle.std.proofs.Math.Path.{ap₂}
use Rattle.std.specs.Prelude.{slice_get}
use Rattle.std.specs.List.{position_or_len, remove}
use Rattle.std.specs.Option.{option_map, option_map_or, option_and_then, option_or}
use Rattle.std.proofs.lemmas.List.{length-map, map-append, take-map, drop-map}
use Rattle.std.proofs.lemmas.Option.{slice_get-map}
use Rattle.window_items.specs.declared.item.Item.{Item}
use Rattle.window_items.specs.Items.{is_in, is_before, is_item, item_index, is_in_at, items_of, count_of, place_among, last_index_of, youngest_of, without_youngest, are_before, edit_at}
use Rattle.window_items.specs.Seen.{seen, all_seen}

module _ {S T : Type 0} (g : S → T) where
  pub length-seen : (xs : List (Item S)) → length (all_seen g xs) ≡ length xs
  length-seen xs = length-map xs (seen g)

  pub append-seen : (xs ys : List (Item S)) → all_seen g (xs ++ ys) ≡ all_seen g xs ++ all_seen g ys
  append-seen xs ys = map-append (seen g) xs ys

  pub remove-seen : (xs : List (Item S)) (i : ℕ) → all_seen g (remove xs i) ≡ remove (all_seen g xs) i
  remove-seen xs i =
      map-append (seen g) (take i xs) (drop (suc i) xs)
      ∙ ap₂ (λ a b. a ++ b) (sym (take-map (seen g) i xs)) (sym (drop-map (seen g) (suc i) xs))

  pub slice_get-seen : (xs : List (Item S)) (i : ℕ) → slice_get (all_seen g xs) i ≡ option_map (seen g) (slice_get xs i)
  slice_get-seen xs i = slice_get-map (seen g) xs i

  -- what changes an item, whatever is kept of it
  pub edit_at-seen : (f : Item S → Item S) (h : Item T → Item T) → ((c : Item S) → seen g (f c) ≡ h (seen g c))
      → (i : ℕ) (xs : List (Item S)) → all_seen g (edit_at f i xs) ≡ edit_at h i (all_seen g xs)
  edit_at-seen f h same i [] = refl
  edit_at-seen f h same zero (x ∷ xs) = ap (λ y. y ∷ all_seen g xs) (same x)
  edit_at-seen f h same (suc i) (x ∷ xs) = ap (λ ys. seen g x ∷ ys) (edit_at-seen f h same i xs)

  -- which items are a window's, how many, and where one of them stands
  len_seen : (window serial : ℕ) (xs : List (Item S)) → position_or_len (is_item window serial) (all_seen g xs) ≡ position_or_len (is_item window serial) xs
  len_seen window serial [] = refl
  len_seen window serial (x ∷ xs) = ap (λ n. cond (not (is_item window serial x)) (1 + n) 0) (len_seen window serial xs)

  pub item_index-seen : (window serial : ℕ) (xs : List (Item S)) → item_index window serial (all_seen g xs) ≡ item_index window serial xs
  item_index-seen window serial xs = rw (len_seen window serial xs, length-seen xs) refl

  in_seen : (window : ℕ) (o : Option (Item S)) → option_map_or (λ (c : Item T). is_in window c) (option_map (seen g) o) false ≡ option_map_or (λ (c : Item S). is_in window c) o false
  in_seen window None = refl
  in_seen window (Some c) = refl

  pub is_in_at-seen : (window i : ℕ) (xs : List (Item S)) → is_in_at window i (all_seen g xs) ≡ is_in_at window i xs
  is_in_at-seen window i xs = ap (λ o. option_map_or (is_in window) o false) (slice_get-seen xs i) ∙ in_seen window (slice_get xs i)

  kept_seen : (b : Bool) (x : Item S) (xs : List (Item S)) (ys : List (Item T)) → ys ≡ all_seen g xs → cond b (seen g x ∷ ys) ys ≡ all_seen g (cond b (x ∷ xs) xs)
  kept_seen true x xs ys e = ap (λ zs. seen g x ∷ zs) e
  kept_seen false x xs ys e = e

  pub items_of-seen : (window : ℕ) (xs : List (Item S)) → items_of window (all_seen g xs) ≡ all_seen g (items_of window xs)
  items_of-seen window [] = refl
  items_of-seen window (x ∷ xs) = kept_seen (is_in window x) x (items_of window xs) (items_of window (all_seen g xs)) (items_of-seen window xs)

  pub count_of-seen : (window : ℕ) (xs : List (Item S)) → count_of window (all_seen g xs) ≡ count_of window xs
  count_of-seen window [] = refl
  count_of-seen window (x ∷ xs) = ap (λ n. cond (is_in window x) (suc n) n) (count_of-seen window xs)

  front_seen : (i : ℕ) (xs : List (Item S)) (o : Option (Item S)) → option_map_or (λ (c : Item T). count_of c.window (take i (all_seen g xs))) (option_map (seen g) o) 0
      ≡ option_map_or (λ (c : Item S). count_of c.window (take i xs)) o 0
  front_seen i xs None = refl
  front_seen i xs (Some c) = ap (count_of c.window) (take-map (seen g) i xs) ∙ count_of-seen c.window (take i xs)

  pub place_among-seen : (i : ℕ) (xs : List (Item S)) → place_among i (all_seen g xs) ≡ place_among i xs
  place_among-seen i xs = ap (λ o. option_map_or (λ (c : Item T). count_of c.window (take i (all_seen g xs))) o 0) (slice_get-seen xs i) ∙ front_seen i xs (slice_get xs i)

  -- the youngest item of a window
  pub last_index_of-seen : (window : ℕ) (xs : List (Item S)) → last_index_of window (all_seen g xs) ≡ last_index_of window xs
  last_index_of-seen window [] = refl
  last_index_of-seen window (x ∷ xs) = ap (λ o. option_or (option_map (λ at. suc at) o) (cond (is_in window x) (Some 0) None)) (last_index_of-seen window xs)

  read_seen : (xs : List (Item S)) (o : Option ℕ) → option_and_then (λ at. slice_get (all_seen g xs) at) o ≡ option_map (seen g) (option_and_then (λ at. slice_get xs at) o)
  read_seen xs None = refl
  read_seen xs (Some i) = slice_get-seen xs i

  pub youngest_of-seen : (window : ℕ) (xs : List (Item S)) → youngest_of window (all_seen g xs) ≡ option_map (seen g) (youngest_of window xs)
  youngest_of-seen window xs = ap (option_and_then (λ at. slice_get (all_seen g xs) at)) (last_index_of-seen window xs) ∙ read_seen xs (last_index_of window xs)

  without_seen : (xs : List (Item S)) (o : Option ℕ) → option_map_or (λ at. remove (all_seen g xs) at) o (all_seen g xs) ≡ all_seen g (option_map_or (λ at. remove xs at) o xs)
  without_seen xs None = refl
  without_seen xs (Some i) = sym (remove-seen xs i)

  pub without_youngest-seen : (window : ℕ) (xs : List (Item S)) → without_youngest window (all_seen g xs) ≡ all_seen g (without_youngest window xs)
  without_youngest-seen window xs =
      ap (λ o. option_map_or (λ at. remove (all_seen g xs) at) o (all_seen g xs)) (last_index_of-seen window xs) ∙ without_seen xs (last_index_of window xs)

  pub are_before-seen : (next : Option ℕ) (xs : List (Item S)) → are_before next (all_seen g xs) ≡ are_before next xs
  are_before-seen next [] = refl
  are_before-seen next (x ∷ xs) = ap (λ b. is_before next x.serial && b) (are_before-seen next xs)
