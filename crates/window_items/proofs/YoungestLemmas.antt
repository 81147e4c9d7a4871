-- The youngest item of a window: where it stands, and what is seen of it.
use Rattle.std.proofs.Common.{◌≡◌, ℕ, ◌<◌, true, false, List, [], length, Option, Some, None, refl, sym, ap, ◌∙◌, arith}
use Rattle.std.specs.Prelude.{IfSome, option_to_list, slice_get}
use Rattle.std.specs.List.{remove}
use Rattle.std.specs.Option.{option_and_then, option_map, option_map_or}
use Rattle.std.proofs.lemmas.Bool.{false≢true}
use Rattle.window_items.specs.declared.item.Item.{Item}
use Rattle.window_items.specs.Items.{count_of, is_in, is_in_at, items_of, last_index_of, without_youngest, youngest_of}
use Rattle.window_items.specs.Seen.{all_seen, seen}
use Rattle.window_items.proofs.SeenLemmas.{without_youngest-seen, youngest_of-seen}
use Rattle.window_items.proofs.WindowLemmas.{count_of-without_youngest, last_in, none_left}

module _ {T : Type 0} where
  -- it stands here
  pub youngest_at : (window : ℕ) (cs : List (Item T)) (c : Item T) → youngest_of window cs ≡ Some c → (i : ℕ) × (slice_get cs i ≡ Some c) × (without_youngest window cs ≡ remove cs i)
  youngest_at window cs c e = by_last (last_index_of window cs) e
    where
      by_last : (o : Option ℕ) → option_and_then (λ at. slice_get cs at) o ≡ Some c → (i : ℕ) × (slice_get cs i ≡ Some c) × (option_map_or (λ at. remove cs at) o cs ≡ remove cs i)
      by_last None e = absurd (cc)
      by_last (Some i) e = (i, e, refl)

  -- where there is none, no item is the window's
  pub no_youngest : (window : ℕ) (cs : List (Item T)) → youngest_of window cs ≡ None → (items_of window cs ≡ []) × (without_youngest window cs ≡ cs)
  no_youngest window cs e = by_last (last_index_of window cs) refl (last_in window cs) e
    where
      by_last : (o : Option ℕ) → last_index_of window cs ≡ o → IfSome o (λ at. is_in_at window at cs ≡ true) → option_and_then (λ at. slice_get cs at) o ≡ None
          → (items_of window cs ≡ []) × (option_map_or (λ at. remove cs at) o cs ≡ cs)
      by_last None last there e = (none_left window cs last, refl)
      by_last (Some i) last there e = absurd (false≢true (sym (ap (λ x. option_map_or (is_in window) x false) e) ∙ there))

  -- without it one less is left of the window's
  pub fewer : (window : ℕ) (xs : List (Item T)) (x : Item T) (ys : List (Item T)) → Some x ≡ youngest_of window xs → ys ≡ without_youngest window xs → count_of window ys < count_of window xs
  fewer window xs x ys is rest =
      let many = count_of-without_youngest window xs in
      let one : length (option_to_list (youngest_of window xs)) ≡ 1 = ap (λ o. length (option_to_list o)) (sym is) in
      let left : count_of window ys ≡ count_of window (without_youngest window xs) = ap (count_of window) rest in
      omega arith

-- what is seen of it, where what is kept is seen as something else
module _ {S T : Type 0} (meaning : S → T) (window : ℕ) (xs : List (Item S)) where
  pub youngest_seen : (x : Item S) → Some x ≡ youngest_of window xs → youngest_of window (all_seen meaning xs) ≡ Some (seen meaning x)
  youngest_seen x is = youngest_of-seen meaning window xs ∙ ap (option_map (seen meaning)) (sym is)

  pub none_seen : None ≡ youngest_of window xs → youngest_of window (all_seen meaning xs) ≡ None
  none_seen is = youngest_of-seen meaning window xs ∙ ap (option_map (seen meaning)) (sym is)

  pub rest_seen : (ys : List (Item S)) → ys ≡ without_youngest window xs → all_seen meaning ys ≡ without_youngest window (all_seen meaning xs)
  rest_seen ys is = ap (all_seen meaning) is ∙ sym (without_youngest-seen meaning window xs)
