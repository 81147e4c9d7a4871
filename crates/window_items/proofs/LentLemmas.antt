-- What is kept of an item, lent and written.
use Rattle.std.proofs.Common.{◌≡◌, ℕ, zero, suc, List, [], ◌∷◌, set, Option, Some, None, refl, sym, ap, ◌∙◌}
use Rattle.std.specs.Prelude.{slice_get, IfSome}
use Rattle.std.specs.Option.{option_map_or}
use Rattle.std.specs.Vec.{with_item}
use Rattle.window_items.specs.declared.item.Item.{Item}
use Rattle.window_items.specs.declared.items.Items.{Items}
use Rattle.window_items.specs.Items.{edit_at, with_kept}
use Rattle.window_items.specs.Lends.{with_value}

module _ {T : Type 0} where
  set_there : (f : Item T → Item T) (xs : List (Item T)) (i : ℕ) (x : Item T) → slice_get xs i ≡ Some x → set xs i (f x) ≡ edit_at f i xs
  set_there f [] i x e = absurd (cc)
  set_there f (y ∷ ys) zero x e = let same : y ≡ x = cc in ap (λ z. f z ∷ ys) (sym same)
  set_there f (y ∷ ys) (suc i) x e = ap (λ zs. y ∷ zs) (set_there f ys i x e)

  none_there : (f : Item T → Item T) (xs : List (Item T)) (i : ℕ) → slice_get xs i ≡ None → xs ≡ edit_at f i xs
  none_there f [] i e = refl
  none_there f (y ∷ ys) zero e = absurd (cc)
  none_there f (y ∷ ys) (suc i) e = ap (λ zs. y ∷ zs) (none_there f ys i e)

  -- where f of what was kept of an item is written in its place
  pub lent_and_written : (f : T → T) (s : Items T) (at : ℕ) (v : T) → IfSome (slice_get s.items.items at) (λ x. v ≡ x.kept)
      → (with_value s at (f v)).items.items ≡ edit_at (with_kept f) at s.items.items
  lent_and_written f s at v = by_case (slice_get s.items.items at) refl
    where
      by_case : (o : Option (Item T)) → slice_get s.items.items at ≡ o → IfSome o (λ x. v ≡ x.kept)
          → (with_value s at (f v)).items.items ≡ edit_at (with_kept f) at s.items.items
      by_case None e is = ap (λ o. (option_map_or (λ i. with_item s.items at (with_kept (λ _. f v) i)) o s.items).items) e ∙ none_there (with_kept f) s.items.items at e
      by_case (Some x) e is =
          ap (λ o. (option_map_or (λ i. with_item s.items at (with_kept (λ _. f v) i)) o s.items).items) e
          ∙ ap (λ k. set s.items.items at (with_kept (λ _. f k) x)) is
          ∙ set_there (with_kept f) s.items.items at x e
