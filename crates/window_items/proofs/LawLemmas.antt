-- What the definitions of a desk's items imply.
use Rattle.std.proofs.Common.{◌≡◌, ℕ, suc, ◌+◌, ◌^◌, ◌<◌, ◌==◌, Bool, true, false, cond, List, [], ◌∷◌, ◌++◌, length, Some, None, refl, ap, ◌∙◌, arith}
use Rattle.std.specs.Prelude.{nat_lt, option_to_list}
use Rattle.std.specs.List.{list_any, position, remove}
use Rattle.std.specs.Option.{option_map}
use Rattle.std.proofs.lemmas.Bool.{and_from, and_parts, and_right, cond-true, cond-false, eq-eqb, lt-ltb, ltb-true, ne_eqb, or_from}
use Rattle.window_items.specs.declared.item.Item.{Item}
use Rattle.window_items.specs.Items.{has_serial, is_before, is_item, is_in, is_in_at, item_index, items_of, count_of, place_among, youngest_of, without_youngest, are_before, serial_after, edit_at}
use Rattle.window_items.proofs.WindowLemmas.{position-cons, count_of-length, position-items_of, items_of-edit_at_other, items_of-remove_other, items_of-without_youngest}

not_same : (n s : ℕ) → nat_lt n s ≡ true → (n == s) ≡ false
not_same n s e = let less = ltb-true n s e in ne_eqb n s (λ same. omega (arith, less, same))

-- a number up to this one comes before the one after it, if there is one
up_to : (n s : ℕ) (b : Bool) → n < s + 1 → is_before (cond b (Some (s + 1)) None) n ≡ true
up_to n s true less = lt-ltb n (s + 1) less
up_to n s false less = refl

module _ {T : Type 0} where
  pub kept_by_change : (f : Item T → Item T) → ((c : Item T) → (f c).window ≡ c.window)
      → (window at : ℕ) (items : List (Item T)) → is_in_at window at items ≡ false → items_of window (edit_at f at items) ≡ items_of window items
  kept_by_change f keeps window at items e = items_of-edit_at_other f keeps window at items e

  pub kept_by_removal : (window at : ℕ) (items : List (Item T)) → is_in_at window at items ≡ false → items_of window (remove items at) ≡ items_of window items
  kept_by_removal window at items e = items_of-remove_other window at items e

  pub as_many : (window : ℕ) (items : List (Item T)) → count_of window items ≡ length (items_of window items)
  as_many window items = count_of-length window items

  pub found_among : (window serial : ℕ) (items : List (Item T))
      → option_map (λ at. place_among at items) (item_index window serial items) ≡ position (has_serial serial) (items_of window items)
  found_among window serial items = position-items_of window serial items

  none_before : (s : ℕ) (items : List (Item T)) → are_before (Some s) items ≡ true → list_any (has_serial s) items ≡ false
  none_before s [] e = refl
  none_before s (x ∷ xs) e =
      let parts = and_parts (nat_lt x.serial s) (are_before (Some s) xs) e in
      or_from (x.serial == s) (list_any (has_serial s) xs) (not_same x.serial s parts.0) (none_before s xs parts.1)

  pub no_others : (item : Item T) (items : List (Item T)) → are_before (Some item.serial) items ≡ true → list_any (has_serial item.serial) items ≡ false
  no_others item items e = none_before item.serial items e

  all_before : (c : Item T) (items : List (Item T)) → are_before (Some c.serial) items ≡ true → are_before (serial_after c.serial) (items ++ c ∷ []) ≡ true
  all_before c [] e = and_from (is_before (serial_after c.serial) c.serial) true (up_to c.serial c.serial (nat_lt (c.serial + 1) (2 ^ 64)) (omega arith)) refl
  all_before c (x ∷ xs) e =
      let parts = and_parts (nat_lt x.serial c.serial) (are_before (Some c.serial) xs) e in
      let less = ltb-true x.serial c.serial parts.0 in
      and_from (is_before (serial_after c.serial) x.serial) (are_before (serial_after c.serial) (xs ++ c ∷ []))
      (up_to x.serial c.serial (nat_lt (c.serial + 1) (2 ^ 64)) (omega (arith, less)))
      (all_before c xs parts.1)

  pub still_before : (item : Item T) (items : List (Item T)) → are_before (Some item.serial) items ≡ true
      → are_before (serial_after item.serial) (items ++ item ∷ []) ≡ true
  still_before item items e = all_before item items e

  -- an item of the next serial is found behind the others
  pub found_last : (window : ℕ) (item : Item T) (items : List (Item T)) → are_before (Some item.serial) items ≡ true → is_in window item ≡ true
      → item_index window item.serial (items ++ item ∷ []) ≡ Some (length items)
  found_last window c [] e here =
      position-cons (is_item window c.serial) c []
      ∙ cond-true (is_item window c.serial c) (Some 0) None (and_from (is_in window c) (c.serial == c.serial) here (eq-eqb c.serial c.serial refl))
  found_last window c (x ∷ xs) e here =
      let parts = and_parts (nat_lt x.serial c.serial) (are_before (Some c.serial) xs) e in
      position-cons (is_item window c.serial) x (xs ++ c ∷ [])
      ∙ cond-false (is_item window c.serial x) (Some 0) (option_map (λ at. suc at) (item_index window c.serial (xs ++ c ∷ [])))
      (and_right (is_in window x) (x.serial == c.serial) (not_same x.serial c.serial parts.0))
      ∙ ap (option_map (λ at. suc at)) (found_last window c xs parts.1 here)

  pub emptied : (window : ℕ) (items : List (Item T))
      → items_of window items ≡ items_of window (without_youngest window items) ++ option_to_list (youngest_of window items)
  emptied window items = items_of-without_youngest window items
