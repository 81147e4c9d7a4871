-- Which item a serial names: the first one that has it, which is the one that stands somewhere. It names the same item where one
-- of the items is changed, put in or taken out, and among those of a window.
use Rattle.std.proofs.Common.{◌≡◌, ℕ, zero, suc, Bool, true, false, ◌||◌, ◌==◌, cond, List, [], ◌∷◌, ◌++◌, Option, Some, None, refl, sym, ap, ◌∙◌, subst, arith, eqb-true}
use Rattle.std.specs.Prelude.{slice_get}
use Rattle.std.specs.List.{list_any, position, remove}
use Rattle.std.specs.Option.{option_and_then, option_map}
use Rattle.std.proofs.lemmas.Bool.{false≢true}
use Rattle.std.proofs.lemmas.Bool.Decides.{nat_tests}
use Rattle.std.proofs.lemmas.List.Folds.{list_any-append}
use Rattle.window_items.specs.declared.item.Item.{Item}
use Rattle.window_items.specs.Items.{AreApart, edit_at, has_serial, is_in, items_of, with_serial}
use Rattle.window_items.proofs.WindowLemmas.{position-cons}

pub or_parts : (a b : Bool) → (a || b) ≡ false → (a ≡ false) × (b ≡ false)
or_parts true b e = absurd (cc)
or_parts false b e = (refl, e)

or_true : (a b : Bool) → b ≡ true → (a || b) ≡ true
or_true true b e = refl
or_true false b e = e

other_way : (a b : ℕ) → (a == b) ≡ false → (b == a) ≡ false
other_way a b e = grind (arith, nat_tests)

module _ {T : Type 0} where
  -- ---- the first item, or one behind it

  behind_first : (c : Item T) (cs : List (Item T)) (b : Bool) (o : Option ℕ)
      → option_and_then (slice_get (c ∷ cs)) (cond b (Some 0) (option_map (λ at. suc at) o)) ≡ cond b (Some c) (option_and_then (slice_get cs) o)
  behind_first c cs true o = refl
  behind_first c cs false None = refl
  behind_first c cs false (Some at) = refl

  pub with_first : (n : ℕ) (c : Item T) (cs : List (Item T)) → with_serial n (c ∷ cs) ≡ cond (has_serial n c) (Some c) (with_serial n cs)
  with_first n c cs = ap (option_and_then (slice_get (c ∷ cs))) (position-cons (has_serial n) c cs) ∙ behind_first c cs (has_serial n c) (position (has_serial n) cs)

  -- the first one is another
  with_behind : (n : ℕ) (c : Item T) (cs : List (Item T)) → has_serial n c ≡ false → with_serial n (c ∷ cs) ≡ with_serial n cs
  with_behind n c cs other = with_first n c cs ∙ ap (λ b. cond b (Some c) (with_serial n cs)) other

  -- lists with the same first item, behind which a serial names the same, if it does not name that one
  with_alike : (n : ℕ) (c : Item T) (cs ds : List (Item T)) → (has_serial n c ≡ false → with_serial n ds ≡ with_serial n cs) → with_serial n (c ∷ ds) ≡ with_serial n (c ∷ cs)
  with_alike n c cs ds same = with_first n c ds ∙ by_test (has_serial n c) same ∙ sym (with_first n c cs)
    where
      by_test : (b : Bool) → (b ≡ false → with_serial n ds ≡ with_serial n cs) → cond b (Some c) (with_serial n ds) ≡ cond b (Some c) (with_serial n cs)
      by_test true same = refl
      by_test false same = same refl

  -- where some item has the serial, and the first one has not, one behind it has
  any_behind : (n : ℕ) (c : Item T) (cs : List (Item T)) → list_any (has_serial n) (c ∷ cs) ≡ true → has_serial n c ≡ false → list_any (has_serial n) cs ≡ true
  any_behind n c cs h other = sym (ap (λ b. b || list_any (has_serial n) cs) other) ∙ h

  -- ---- one item of each serial

  -- a serial that no item has, no item of a window has
  pub none_in_window : (n window : ℕ) (cs : List (Item T)) → list_any (has_serial n) cs ≡ false → list_any (has_serial n) (items_of window cs) ≡ false
  none_in_window n window [] e = refl
  none_in_window n window (c ∷ cs) e =
      let both = or_parts (has_serial n c) (list_any (has_serial n) cs) e in
      by_test (is_in window c) both.0 (none_in_window n window cs both.1)
    where
      by_test : (b : Bool) → has_serial n c ≡ false → list_any (has_serial n) (items_of window cs) ≡ false
          → list_any (has_serial n) (cond b (c ∷ items_of window cs) (items_of window cs)) ≡ false
      by_test true f rest = λ i. f i || rest i
      by_test false f rest = rest

  -- an item of a window is one of all
  pub any_of : (n window : ℕ) (cs : List (Item T)) → list_any (has_serial n) (items_of window cs) ≡ true → list_any (has_serial n) cs ≡ true
  any_of n window cs h = by_test (list_any (has_serial n) cs) refl
    where
      by_test : (b : Bool) → list_any (has_serial n) cs ≡ b → b ≡ true
      by_test true e = refl
      by_test false e = absurd (false≢true (sym (none_in_window n window cs e) ∙ h))

  -- where one behind it has the serial, the first one has not
  only_one : (n : ℕ) (c : Item T) (cs : List (Item T)) → AreApart (c ∷ cs) → list_any (has_serial n) cs ≡ true → has_serial n c ≡ false
  only_one n c cs apart h = by_test (has_serial n c) refl
    where
      by_test : (b : Bool) → has_serial n c ≡ b → b ≡ false
      by_test true e = absurd (false≢true (sym apart.0 ∙ ap (λ k. list_any (has_serial k) cs) (eqb-true c.serial n e) ∙ h))
      by_test false e = refl

  any_there : (n i : ℕ) (cs : List (Item T)) (c : Item T) → slice_get cs i ≡ Some c → has_serial n c ≡ true → list_any (has_serial n) cs ≡ true
  any_there n i [] c there named = absurd (cc)
  any_there n zero (x ∷ xs) c there named =
      let same : x ≡ c = cc in
      ap (λ b. b || list_any (has_serial n) xs) (ap (has_serial n) same ∙ named)
  any_there n (suc i) (x ∷ xs) c there named = or_true (has_serial n x) (list_any (has_serial n) xs) (any_there n i xs c there named)

  -- the serial of an item that stands somewhere names it
  pub with_there : (n i : ℕ) (cs : List (Item T)) (c : Item T) → AreApart cs → slice_get cs i ≡ Some c → has_serial n c ≡ true → with_serial n cs ≡ Some c
  with_there n i [] c apart there named = absurd (cc)
  with_there n zero (x ∷ xs) c apart there named =
      let same : x ≡ c = cc in
      with_first n x xs ∙ ap (λ b. cond b (Some x) (with_serial n xs)) (ap (has_serial n) same ∙ named) ∙ ap Some same
  with_there n (suc i) (x ∷ xs) c apart there named =
      with_behind n x xs (only_one n x xs apart (any_there n i xs c there named)) ∙ with_there n i xs c apart.1 there named

  -- an item of a serial that one of a window has is in that window
  pub one_window : (n window i : ℕ) (cs : List (Item T)) (c : Item T) → AreApart cs → slice_get cs i ≡ Some c → has_serial n c ≡ true
      → list_any (has_serial n) (items_of window cs) ≡ true → is_in window c ≡ true
  one_window n window i [] c apart there named h = absurd (cc)
  one_window n window zero (x ∷ xs) c apart there named h =
      let same : x ≡ c = cc in
      subst (λ y. is_in window y ≡ true) same (by_test (is_in window x) refl (ap (has_serial n) same ∙ named) h)
    where
      by_test : (b : Bool) → is_in window x ≡ b → has_serial n x ≡ true → list_any (has_serial n) (cond b (x ∷ items_of window xs) (items_of window xs)) ≡ true → is_in window x ≡ true
      by_test true e its h = e
      by_test false e its h = absurd (false≢true (sym (only_one n x xs apart (any_of n window xs h)) ∙ its))
  one_window n window (suc i) (x ∷ xs) c apart there named h = one_window n window i xs c apart.1 there named (by_test (is_in window x) h)
    where
      by_test : (b : Bool) → list_any (has_serial n) (cond b (x ∷ items_of window xs) (items_of window xs)) ≡ true → list_any (has_serial n) (items_of window xs) ≡ true
      by_test true h = any_behind n x (items_of window xs) h (only_one n x xs apart (any_there n i xs c there named))
      by_test false h = h

  -- it names the same item among those of its window
  pub with_among : (n window : ℕ) (cs : List (Item T)) → AreApart cs → list_any (has_serial n) (items_of window cs) ≡ true → with_serial n (items_of window cs) ≡ with_serial n cs
  with_among n window [] apart h = refl
  with_among n window (x ∷ xs) apart h = by_test (with_among n window xs apart.1) (is_in window x) h
    where
      by_test : (list_any (has_serial n) (items_of window xs) ≡ true → with_serial n (items_of window xs) ≡ with_serial n xs) → (b : Bool)
          → list_any (has_serial n) (cond b (x ∷ items_of window xs) (items_of window xs)) ≡ true
          → with_serial n (cond b (x ∷ items_of window xs) (items_of window xs)) ≡ with_serial n (x ∷ xs)
      by_test rest true h = with_alike n x xs (items_of window xs) (λ other. rest (any_behind n x (items_of window xs) h other))
      by_test rest false h = rest h ∙ sym (with_behind n x xs (only_one n x xs apart (any_of n window xs h)))

  -- ---- lists that are changed

  pub with_edited : (n : ℕ) (g : Item T → Item T) → ((c : Item T) → (g c).serial ≡ c.serial) → (at : ℕ) (cs : List (Item T)) (c : Item T)
      → slice_get cs at ≡ Some c → has_serial n c ≡ false → with_serial n (edit_at g at cs) ≡ with_serial n cs
  with_edited n g same at [] c there other = absurd (cc)
  with_edited n g same zero (x ∷ xs) c there other =
      let is : x ≡ c = cc in
      let its : has_serial n x ≡ false = ap (has_serial n) is ∙ other in
      with_behind n (g x) xs (ap (λ s. s == n) (same x) ∙ its) ∙ sym (with_behind n x xs its)
  with_edited n g same (suc i) (x ∷ xs) c there other = with_alike n x xs (edit_at g i xs) (λ away. with_edited n g same i xs c there other)

  pub with_pushed : (n : ℕ) (cs : List (Item T)) (c : Item T) → list_any (has_serial n) cs ≡ true → with_serial n (cs ++ c ∷ []) ≡ with_serial n cs
  with_pushed n [] c h = absurd (false≢true h)
  with_pushed n (x ∷ xs) c h = with_alike n x xs (xs ++ c ∷ []) (λ other. with_pushed n xs c (any_behind n x xs h other))

  pub with_removed : (n at : ℕ) (cs : List (Item T)) → AreApart cs → list_any (has_serial n) (remove cs at) ≡ true → with_serial n (remove cs at) ≡ with_serial n cs
  with_removed n zero [] apart h = refl
  with_removed n (suc at) [] apart h = refl
  with_removed n zero (x ∷ xs) apart h = sym (with_behind n x xs (only_one n x xs apart h))
  with_removed n (suc at) (x ∷ xs) apart h = with_alike n x xs (remove xs at) (λ other. with_removed n at xs apart.1 (any_behind n x (remove xs at) h other))

  -- ---- each is of another serial still

  none-remove : (n i : ℕ) (cs : List (Item T)) → list_any (has_serial n) cs ≡ false → list_any (has_serial n) (remove cs i) ≡ false
  none-remove n zero [] e = refl
  none-remove n (suc i) [] e = refl
  none-remove n zero (c ∷ cs) e = (or_parts (has_serial n c) (list_any (has_serial n) cs) e).1
  none-remove n (suc i) (c ∷ cs) e =
      let both = or_parts (has_serial n c) (list_any (has_serial n) cs) e in
      ap (λ b. b || list_any (has_serial n) (remove cs i)) both.0 ∙ none-remove n i cs both.1

  pub apart-remove : (i : ℕ) (cs : List (Item T)) → AreApart cs → AreApart (remove cs i)
  apart-remove zero [] h = tt
  apart-remove (suc i) [] h = tt
  apart-remove zero (c ∷ cs) h = h.1
  apart-remove (suc i) (c ∷ cs) h = (none-remove c.serial i cs h.0, apart-remove i cs h.1)

  pub apart_more : (c : Item T) (cs : List (Item T)) → list_any (has_serial c.serial) cs ≡ false → AreApart cs → AreApart (cs ++ c ∷ [])
  apart_more c [] e h = (refl, tt)
  apart_more c (x ∷ xs) e h =
      let both = or_parts (x.serial == c.serial) (list_any (has_serial c.serial) xs) e in
      (list_any-append (has_serial x.serial) xs (c ∷ []) ∙ (λ i. h.0 i || (other_way x.serial c.serial both.0 i || false)), apart_more c xs both.1 h.1)

  pub apart_among : (window : ℕ) (cs : List (Item T)) → AreApart cs → AreApart (items_of window cs)
  apart_among window [] apart = tt
  apart_among window (c ∷ cs) apart = by_test (is_in window c) (apart_among window cs apart.1)
    where
      by_test : (b : Bool) → AreApart (items_of window cs) → AreApart (cond b (c ∷ items_of window cs) (items_of window cs))
      by_test true rest = (none_in_window c.serial window cs apart.0, rest)
      by_test false rest = rest
