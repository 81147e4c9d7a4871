-- What holds of each item, where one of them is changed or taken out.
use Rattle.std.proofs.Common.{◌≡◌, ℕ, zero, suc, ◌==◌, ◌&&◌, ◌||◌, cond, List, [], ◌∷◌, Option, Some, refl, ap, subst}
use Rattle.std.specs.Prelude.{All, map, slice_get}
use Rattle.std.specs.List.{list_any, remove}
use Rattle.std.proofs.lemmas.List.Elements.{All-cons, All-head, All-nil, All-tail}
use Rattle.window_items.specs.declared.item.Item.{Item}
use Rattle.window_items.specs.Items.{are_before, count_of, edit_at, has_serial, is_before}

module _ {T : Type 0} (P : Item T → Type 0) where
  pub All-edit : (g : Item T → Item T) (i : ℕ) (xs : List (Item T)) → All P xs → ((x : Item T) → slice_get xs i ≡ Some x → P (g x)) → All P (edit_at g i xs)
  All-edit g i [] h new = h
  All-edit g zero (x ∷ xs) h new = All-cons P (g x) xs (new x refl) (All-tail P x xs h)
  All-edit g (suc i) (x ∷ xs) h new = All-cons P x (edit_at g i xs) (All-head P x xs h) (All-edit g i xs (All-tail P x xs h) new)

  pub All-remove : (i : ℕ) (xs : List (Item T)) → All P xs → All P (remove xs i)
  All-remove i [] h = nothing i
    where
      nothing : (i : ℕ) → All P (remove [] i)
      nothing zero = All-nil P
      nothing (suc i) = All-nil P
  All-remove zero (x ∷ xs) h = All-tail P x xs h
  All-remove (suc i) (x ∷ xs) h = All-cons P x (remove xs i) (All-head P x xs h) (All-remove i xs (All-tail P x xs h))

  pub All-there : (i : ℕ) (xs : List (Item T)) (x : Item T) → slice_get xs i ≡ Some x → All P xs → P x
  All-there i [] x e h = absurd (cc)
  All-there zero (y ∷ ys) x e h = let same : y ≡ x = cc in subst P same (All-head P y ys h)
  All-there (suc i) (y ∷ ys) x e h = All-there i ys x e (All-tail P y ys h)

module _ {T : Type 0} where
  -- two changes that make the same of the item at a place
  pub edit_alike : (f g : Item T → Item T) (i : ℕ) (xs : List (Item T)) → ((x : Item T) → slice_get xs i ≡ Some x → f x ≡ g x) → edit_at f i xs ≡ edit_at g i xs
  edit_alike f g i [] same = refl
  edit_alike f g zero (x ∷ xs) same = ap (λ y. y ∷ xs) (same x refl)
  edit_alike f g (suc i) (x ∷ xs) same = ap (λ ys. x ∷ ys) (edit_alike f g i xs same)

  -- one change after another
  pub edit_twice : (f g : Item T → Item T) (i : ℕ) (xs : List (Item T)) → edit_at g i (edit_at f i xs) ≡ edit_at (λ x. g (f x)) i xs
  edit_twice f g i [] = refl
  edit_twice f g zero (x ∷ xs) = refl
  edit_twice f g (suc i) (x ∷ xs) = ap (λ ys. x ∷ ys) (edit_twice f g i xs)

  -- a change that changes nothing of the item at a place changes none
  pub edit_nothing : (f : Item T → Item T) (i : ℕ) (xs : List (Item T)) → ((x : Item T) → slice_get xs i ≡ Some x → f x ≡ x) → edit_at f i xs ≡ xs
  edit_nothing f i [] same = refl
  edit_nothing f zero (x ∷ xs) same = ap (λ y. y ∷ xs) (same x refl)
  edit_nothing f (suc i) (x ∷ xs) same = ap (λ ys. x ∷ ys) (edit_nothing f i xs same)

  pub there_edited : (f : Item T → Item T) (i : ℕ) (xs : List (Item T)) (x : Item T) → slice_get xs i ≡ Some x → slice_get (edit_at f i xs) i ≡ Some (f x)
  there_edited f i [] x e = absurd (cc)
  there_edited f zero (y ∷ ys) x e = let same : y ≡ x = cc in ap (λ z. Some (f z)) same
  there_edited f (suc i) (y ∷ ys) x e = there_edited f i ys x e

  -- what a change leaves of each item
  pub map-edit : {Y : Type 0} (h : Item T → Y) (f : Item T → Item T) → ((x : Item T) → h (f x) ≡ h x) → (i : ℕ) (xs : List (Item T)) → map h (edit_at f i xs) ≡ map h xs
  map-edit h f same i [] = refl
  map-edit h f same zero (x ∷ xs) = ap (λ y. y ∷ map h xs) (same x)
  map-edit h f same (suc i) (x ∷ xs) = ap (λ ys. h x ∷ ys) (map-edit h f same i xs)

  pub map-remove : {Y : Type 0} (h : Item T → Y) (i : ℕ) (xs : List (Item T)) → map h (remove xs i) ≡ remove (map h xs) i
  map-remove h zero [] = refl
  map-remove h (suc i) [] = refl
  map-remove h zero (x ∷ xs) = refl
  map-remove h (suc i) (x ∷ xs) = ap (λ ys. h x ∷ ys) (map-remove h i xs)

  -- some item has this serial
  pub any-edit : (n : ℕ) (f : Item T → Item T) → ((x : Item T) → (f x).serial ≡ x.serial) → (i : ℕ) (xs : List (Item T)) → list_any (has_serial n) (edit_at f i xs) ≡ list_any (has_serial n) xs
  any-edit n f same i [] = refl
  any-edit n f same zero (x ∷ xs) = ap (λ s. (s == n) || list_any (has_serial n) xs) (same x)
  any-edit n f same (suc i) (x ∷ xs) = ap (λ b. has_serial n x || b) (any-edit n f same i xs)

  -- each serial comes before the next one
  pub before-edit : (next : Option ℕ) (f : Item T → Item T) → ((x : Item T) → (f x).serial ≡ x.serial) → (i : ℕ) (xs : List (Item T)) → are_before next (edit_at f i xs) ≡ are_before next xs
  before-edit next f same i [] = refl
  before-edit next f same zero (x ∷ xs) = ap (λ s. is_before next s && are_before next xs) (same x)
  before-edit next f same (suc i) (x ∷ xs) = ap (λ b. is_before next x.serial && b) (before-edit next f same i xs)

  -- and each window has as many
  pub count-edit : (f : Item T → Item T) → ((x : Item T) → (f x).window ≡ x.window) → (t i : ℕ) (xs : List (Item T)) → count_of t (edit_at f i xs) ≡ count_of t xs
  count-edit f same t i [] = refl
  count-edit f same t zero (x ∷ xs) = ap (λ w. cond (w == t) (suc (count_of t xs)) (count_of t xs)) (same x)
  count-edit f same t (suc i) (x ∷ xs) = ap (λ n. cond (x.window == t) (suc n) n) (count-edit f same t i xs)
