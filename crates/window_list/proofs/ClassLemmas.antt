-- How many elements float in front, counted by a walk over the list that passes one of them over.
use Rattle.std.proofs.Common.{◌≡◌, ℕ, zero, suc, ◌+◌, ◌<◌, ◌≤◌, ◌==◌, Bool, true, false, if◌then◌else◌, List, [], ◌∷◌, length, drop, get_or, map, Option, None, Some, refl, sym, ap, ◌∙◌, arith}
use Rattle.std.specs.List.{insert, remove, prefix_len}
use Rattle.std.proofs.lemmas.Bool.Decides.{nat_tests}
use Rattle.std.proofs.lemmas.List.{drop_all, drop_more}
use Rattle.window_list.specs.Ranks.{Ranked}
use Rattle.window_list.specs.Classes.{front_place}
use Rattle.window_list.specs.Lists.{floats, leads, dimmed, with_new, serial_after}
use Rattle.window_list.specs.declared.list.WindowList.{WindowList}
use Rattle.window_list.specs.declared.window.Window.{Window}

-- an element at a place that the list has
some_at : {T : Type 0} (xs : List T) (i : ℕ) → i < length xs → (x : T) × (x ≡ get_or xs i x)
some_at [] i low = absurd (omega arith)
some_at (y ∷ ys) zero low = (y, refl)
some_at (y ∷ ys) (suc i) low = some_at ys i (omega arith)

-- nothing is taken out past the end
pub remove_none : {T : Type 0} (xs : List T) (n : ℕ) → n ≡ length xs → remove xs n ≡ xs
remove_none [] zero e = refl
remove_none [] (suc n) e = refl
remove_none (x ∷ xs) zero e = absurd (omega arith)
remove_none (x ∷ xs) (suc n) e = ap (λ zs. x ∷ zs) (remove_none xs n (omega arith))

-- as many float in front where each element was changed to one that floats as it does
pub prefix_map : {X Y : Type 0} (f : X → Y) (was : X → Bool) (is : Y → Bool) → ((x : X) → is (f x) ≡ was x) → (xs : List X) → prefix_len is (map f xs) ≡ prefix_len was xs
prefix_map f was is same [] = refl
prefix_map f was is same (x ∷ xs) = λ k. if same x k then 1 + prefix_map f was is same xs k else 0

-- so the front of a class is where it was
pub front_map : {X Y : Type 0} (f : X → Y) (was : X → Bool) (is : Y → Bool) → ((x : X) → is (f x) ≡ was x) → (b : Bool) (xs : List X) → front_place is b (map f xs) ≡ front_place was b xs
front_map f was is same true xs = refl
front_map f was is same false xs = prefix_map f was is same xs

module _ {T : Type 0} (floating : T → Bool) where
  -- how many float in front of the elements from the i-th on, where the w-th is passed over
  abbrev pub leading_from : ℕ → ℕ → List T → ℕ
  leading_from i w [] = 0
  leading_from i w (x ∷ xs) =
      if i == w then leading_from (i + 1) w xs else (if floating x then 1 + leading_from (i + 1) w xs else 0)

  -- the walk is past it
  all_after : (i w : ℕ) (xs : List T) → w < i → leading_from i w xs ≡ prefix_len floating xs
  all_after i w [] past = refl
  all_after i w (x ∷ xs) past =
      let away : (i == w) ≡ false = grind (arith, nat_tests) in
      (λ k. if away k then leading_from (i + 1) w xs else (if floating x then 1 + leading_from (i + 1) w xs else 0))
      ∙ ap (λ n. if floating x then 1 + n else 0) (all_after (i + 1) w xs (omega arith))

  all_but : (i w j : ℕ) (xs : List T) → w ≡ i + j → leading_from i w xs ≡ prefix_len floating (remove xs j)
  all_but i w zero [] at = refl
  all_but i w (suc j) [] at = refl
  all_but i w zero (x ∷ xs) at =
      let here : (i == w) ≡ true = grind (arith, nat_tests) in
      (λ k. if here k then leading_from (i + 1) w xs else (if floating x then 1 + leading_from (i + 1) w xs else 0))
      ∙ all_after (i + 1) w xs (omega arith)
  all_but i w (suc j) (x ∷ xs) at =
      let away : (i == w) ≡ false = grind (arith, nat_tests) in
      (λ k. if away k then leading_from (i + 1) w xs else (if floating x then 1 + leading_from (i + 1) w xs else 0))
      ∙ ap (λ n. if floating x then 1 + n else 0) (all_but (i + 1) w j xs (omega arith))

  -- the whole walk counts those of the list without the element
  pub walked : (w : ℕ) (xs : List T) → leading_from 0 w xs ≡ prefix_len floating (remove xs w)
  walked w xs = all_but 0 w w xs (omega arith)

  -- it is at the end
  pub walk_ended : (i w : ℕ) (xs : List T) → length xs ≤ i → leading_from i w (drop i xs) ≡ 0
  walk_ended i w xs end = ap (leading_from i w) (drop_all i xs end)

  -- it comes to the element that it passes over
  pub passed : (i w : ℕ) (xs : List T) → i < length xs → i ≡ w → leading_from i w (drop i xs) ≡ leading_from (i + 1) w (drop (i + 1) xs)
  passed i w xs low at =
      let here : (i == w) ≡ true = grind (arith, nat_tests) in
      let x = some_at xs i low in
      ap (leading_from i w) (drop_more xs i x.0 low)
      ∙ (λ k. if here k then leading_from (i + 1) w (drop (i + 1) xs) else (if floating (get_or xs i x.0) then 1 + leading_from (i + 1) w (drop (i + 1) xs) else 0))

  -- it comes to another
  at_another : (i w : ℕ) (xs : List T) (x : T) (b : Bool) → i < length xs → x ≡ get_or xs i x → (i ≡ w → ⊥) → floating x ≡ b
      → leading_from i w (drop i xs) ≡ (if b then 1 + leading_from (i + 1) w (drop (i + 1) xs) else 0)
  at_another i w xs x b low read away its =
      ap (leading_from i w) (drop_more xs i x low)
      ∙ (λ k. if apart k then leading_from (i + 1) w (drop (i + 1) xs) else (if (ap floating (sym read) ∙ its) k then 1 + leading_from (i + 1) w (drop (i + 1) xs) else 0))
    where
      by_number : (c : Bool) → (i == w) ≡ c → c ≡ false
      by_number true e = absurd (away (grind (arith, nat_tests)))
      by_number false e = refl

      apart : (i == w) ≡ false
      apart = by_number (i == w) refl

  -- to one that floats
  pub counted : (i w : ℕ) (xs : List T) (x : T) → i < length xs → x ≡ get_or xs i x → (i ≡ w → ⊥) → floating x ≡ true → leading_from i w (drop i xs) ≡ 1 + leading_from (i + 1) w (drop (i + 1) xs)
  counted i w xs x low read away its = at_another i w xs x true low read away its

  -- to one that does not
  pub met : (i w : ℕ) (xs : List T) (x : T) → i < length xs → x ≡ get_or xs i x → (i ≡ w → ⊥) → floating x ≡ false → leading_from i w (drop i xs) ≡ 0
  met i w xs x low read away its = at_another i w xs x false low read away its

-- ---- a new window

module _ {V : Type 0} {H : V → Type 0} where
  -- without its highlighting a window floats as it did
  pub dimmed_floats : (active : Option ℕ) (w : Window V H) → floats (dimmed active w) ≡ floats w
  dimmed_floats None w = refl
  dimmed_floats (Some s) w = by_test (w.serial == s)
    where
      by_test : (b : Bool) → floats (if b then record w { highlighted = false } else w) ≡ floats w
      by_test true = refl
      by_test false = refl

  -- the windows before a new one is put in: where it becomes active, the one that was loses its highlighting
  abbrev pub made_way : Bool → Option ℕ → List (Window V H) → List (Window V H)
  made_way b active ws = if b then map (dimmed active) ws else ws

  pub way_length : (b : Bool) (active : Option ℕ) (ws : List (Window V H)) → length (made_way b active ws) ≡ length ws
  way_length true active [] = refl
  way_length true active (w ∷ ws) = ap (λ n. suc n) (way_length true active ws)
  way_length false active ws = refl

  pub way_front : (b floating : Bool) (active : Option ℕ) (ws : List (Window V H)) → front_place floats floating (made_way b active ws) ≡ front_place floats floating ws
  way_front true floating active ws = front_map (dimmed active) floats floats (dimmed_floats active) floating ws
  way_front false floating active ws = refl

  -- it was put in there
  pub added : (w : Window V H) (active : Option ℕ) (ws mid new : List (Window V H)) (at : ℕ) → mid ≡ made_way (leads w) active ws → at ≡ front_place floats w.floating ws → new ≡ insert mid at w → new ≡ with_new active w ws
  added w active ws mid new at mid_is at_is put =
      put ∙ (λ k. insert (mid_is k) ((at_is ∙ sym (way_front (leads w) w.floating active ws)) k) w)

  -- and so the list has it, where all else is as it is to be
  pub added_to : (w : Window V H) (old mid : WindowList V H) (new : Ranked (Window V H)) (at : ℕ)
      → mid.records.items ≡ made_way (leads w) old.active old.records.items → mid.records.capacity ≡ old.records.capacity
      → mid.active ≡ (if leads w then Some w.serial else old.active) → mid.next ≡ serial_after w.serial
      → at ≡ front_place floats w.floating old.records.items → new.items ≡ insert mid.records.items at w → new.capacity ≡ mid.records.capacity
      → ◌≡◌ {A = WindowList V H} (record { records = new; active = mid.active; next = mid.next }) (record {
        records = record { items = with_new old.active w old.records.items; capacity = old.records.capacity };
        active = if leads w then Some w.serial else old.active;
        next = serial_after w.serial;
      })
  added_to w old mid new at items capacity active next at_is put room = λ k. record {
    records = record { items = added w old.active old.records.items mid.records.items new.items at items at_is put k; capacity = (room ∙ capacity) k };
    active = active k;
    next = next k;
  }
