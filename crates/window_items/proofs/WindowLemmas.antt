-- The items of one window: where an item stands among them, and what a change of the list makes of them.
use Rattle.std.proofs.Common.{◌≡◌, ℕ, zero, suc, ◌+◌, ◌<◌, ◌==◌, Bool, true, false, cond, ◌&&◌, List, [], ◌∷◌, ◌++◌, length, take, Option, Some, None, refl, sym, ap, subst, ◌∙◌, arith, eqb-true}
use Rattle.std.specs.Prelude.{nat_lt, slice_get, IfSome, option_to_list}
use Rattle.std.specs.List.{position, position_or_len, remove}
use Rattle.std.specs.Option.{option_map, option_map_or, option_and_then, option_or}
use Rattle.std.proofs.lemmas.Bool.{false≢true, cond-true, cond-false, lt-ltb, le-ltb, ltb-true, ltb-false, ne_eqb}
use Rattle.std.proofs.lemmas.List.{append-nil, length-append, length_push}
use Rattle.std.proofs.lemmas.List.Edits.{length-remove}
use Rattle.std.proofs.lemmas.List.Elements.{filter-append}
use Rattle.window_items.specs.declared.item.Item.{Item}
use Rattle.window_items.specs.Items.{is_in, has_serial, is_item, item_index, is_in_at, items_of, count_of, place_among, last_index_of, youngest_of, without_youngest, edit_at}

first_place : (t : Bool) (n m : ℕ) → nat_lt n m ≡ t → cond (nat_lt (1 + n) (suc m)) (Some (1 + n)) None ≡ option_map (λ at. suc at) (cond t (Some n) None)
first_place true n m e =
    let one : 1 + n ≡ suc n = omega arith in
    let less = ltb-true n m e in
    cond-true (nat_lt (1 + n) (suc m)) (Some (1 + n)) None (lt-ltb (1 + n) (suc m) (omega arith)) ∙ ap Some one
first_place false n m e =
    let more = ltb-false n m e in
    cond-false (nat_lt (1 + n) (suc m)) (Some (1 + n)) None (le-ltb (1 + n) (suc m) (omega arith))

less_further : (b : Bool) (n m : ℕ) → n < m → cond b (suc n) n < cond b (suc m) m
less_further true n m h = omega arith
less_further false n m h = h

less_first : (b : Bool) (m : ℕ) → b ≡ true → 0 < cond b (suc m) m
less_first true m e = omega arith
less_first false m e = absurd (false≢true e)

found_further : (p h : Bool) (places : ℕ → ℕ) (more : ℕ → ℕ) (o : Option ℕ) → more 0 ≡ 0 → ((i : ℕ) → more (suc i) ≡ cond p (suc (places i)) (places i))
    → option_map more (cond (p && h) (Some 0) (option_map (λ at. suc at) o))
    ≡ cond p (cond h (Some 0) (option_map (λ at. suc at) (option_map places o))) (option_map places o)
found_further true true places more o none step = ap Some none
found_further true false places more None none step = refl
found_further true false places more (Some i) none step = ap Some (step i)
found_further false h places more None none step = refl
found_further false h places more (Some i) none step = ap Some (step i)

module _ {T : Type 0} where
  -- the first place of a list where a test holds, from its first element on
  position_step : (p : Item T → Bool) (x : Item T) (xs : List (Item T)) (b : Bool) → p x ≡ b
      → position p (x ∷ xs) ≡ cond b (Some 0) (option_map (λ at. suc at) (position p xs))
  position_step p x xs true e = rw e (cond-true (nat_lt 0 (suc (length xs))) (Some 0) None (lt-ltb 0 (suc (length xs)) (omega arith)))
  position_step p x xs false e = rw e (first_place (nat_lt (position_or_len p xs) (length xs)) (position_or_len p xs) (length xs) refl)

  pub position-cons : (p : Item T → Bool) (x : Item T) (xs : List (Item T)) → position p (x ∷ xs) ≡ cond (p x) (Some 0) (option_map (λ at. suc at) (position p xs))
  position-cons p x xs = position_step p x xs (p x) refl

  -- ---- where an item stands among its window's

  -- how many of the window's items stand before this place
  abbrev pub count_before : ℕ → ℕ → List (Item T) → ℕ
  count_before window at items = count_of window (take at items)

  of_its_window : (window : ℕ) (o : Option (Item T)) (front : List (Item T)) → option_map_or (is_in window) o false ≡ true
      → option_map_or (λ c. count_of c.window front) o 0 ≡ count_of window front
  of_its_window window None front e = absurd (false≢true e)
  of_its_window window (Some c) front e = ap (λ w. count_of w front) (eqb-true c.window window e)

  pub place_among-is : (window at : ℕ) (items : List (Item T)) → is_in_at window at items ≡ true → place_among at items ≡ count_before window at items
  place_among-is window at items e = of_its_window window (slice_get items at) (take at items) e

  -- as many as there are
  counted_of : (b : Bool) (x : Item T) (xs : List (Item T)) (n : ℕ) → n ≡ length xs → cond b (suc n) n ≡ length (cond b (x ∷ xs) xs)
  counted_of true x xs n e = ap (λ k. suc k) e
  counted_of false x xs n e = e

  pub count_of-length : (window : ℕ) (items : List (Item T)) → count_of window items ≡ length (items_of window items)
  count_of-length window [] = refl
  count_of-length window (x ∷ xs) = counted_of (is_in window x) x (items_of window xs) (count_of window xs) (count_of-length window xs)

  read_further : (b : Bool) (x : Item T) (xs : List (Item T)) (n : ℕ) → slice_get (cond b (x ∷ xs) xs) (cond b (suc n) n) ≡ slice_get xs n
  read_further true x xs n = refl
  read_further false x xs n = refl

  read_before : (window at : ℕ) (items : List (Item T)) → is_in_at window at items ≡ true
      → slice_get (items_of window items) (count_before window at items) ≡ slice_get items at
  read_before window at [] e = absurd (false≢true e)
  read_before window zero (x ∷ xs) e = ap (λ ys. slice_get ys 0) (cond-true (is_in window x) (x ∷ items_of window xs) (items_of window xs) e)
  read_before window (suc i) (x ∷ xs) e = read_further (is_in window x) x (items_of window xs) (count_before window i xs) ∙ read_before window i xs e

  -- an item of the window stands among the window's at its place
  pub slice_get-items_of : (window at : ℕ) (items : List (Item T)) → is_in_at window at items ≡ true
      → slice_get (items_of window items) (place_among at items) ≡ slice_get items at
  slice_get-items_of window at items e = ap (λ n. slice_get (items_of window items) n) (place_among-is window at items e) ∙ read_before window at items e

  before_within : (window at : ℕ) (items : List (Item T)) → is_in_at window at items ≡ true → count_before window at items < count_of window items
  before_within window at [] e = absurd (false≢true e)
  before_within window zero (x ∷ xs) e = less_first (is_in window x) (count_of window xs) e
  before_within window (suc i) (x ∷ xs) e = less_further (is_in window x) (count_before window i xs) (count_of window xs) (before_within window i xs e)

  pub place_among-within : (window at : ℕ) (items : List (Item T)) → is_in_at window at items ≡ true → place_among at items < count_of window items
  place_among-within window at items e = let is = place_among-is window at items e in let less = before_within window at items e in omega (arith, is, less)

  -- ---- found

  -- where a test holds first, it holds
  there_more : (p : Item T → Bool) (x : Item T) (xs : List (Item T)) (b : Bool) (o : Option ℕ) → p x ≡ b
      → IfSome o (λ at. option_map_or p (slice_get xs at) false ≡ true)
      → IfSome (cond b (Some 0) (option_map (λ at. suc at) o)) (λ at. option_map_or p (slice_get (x ∷ xs) at) false ≡ true)
  there_more p x xs true o e h = e
  there_more p x xs false None e h = tt
  there_more p x xs false (Some n) e h = h

  pub position_there : (p : Item T → Bool) (items : List (Item T)) → IfSome (position p items) (λ at. option_map_or p (slice_get items at) false ≡ true)
  position_there p [] = tt
  position_there p (x ∷ xs) = rw (position-cons p x xs) (there_more p x xs (p x) (position p xs) refl (position_there p xs))

  both_in : (window serial : ℕ) (o : Option (Item T)) → option_map_or (is_item window serial) o false ≡ true → option_map_or (is_in window) o false ≡ true
  both_in window serial None e = e
  both_in window serial (Some c) e = first (is_in window c) (has_serial serial c) e
    where
      first : (a b : Bool) → (a && b) ≡ true → a ≡ true
      first true b e = refl
      first false b e = e

  -- an item that was found is in the window
  pub found_in : (window serial at : ℕ) (items : List (Item T)) → item_index window serial items ≡ Some at → is_in_at window at items ≡ true
  found_in window serial at items e =
      both_in window serial (slice_get items at)
      (subst (λ o. IfSome o (λ i. option_map_or (is_item window serial) (slice_get items i) false ≡ true)) e (position_there (is_item window serial) items))

  among : (b : Bool) (h : Item T → Bool) (x : Item T) (xs : List (Item T)) → position h (cond b (x ∷ xs) xs) ≡ cond b (cond (h x) (Some 0) (option_map (λ at. suc at) (position h xs))) (position h xs)
  among true h x xs = position-cons h x xs
  among false h x xs = refl

  found_before : (window serial : ℕ) (items : List (Item T))
      → option_map (λ at. count_before window at items) (item_index window serial items) ≡ position (has_serial serial) (items_of window items)
  found_before window serial [] = refl
  found_before window serial (x ∷ xs) =
      ap (option_map (λ at. count_before window at (x ∷ xs))) (position-cons (is_item window serial) x xs)
      ∙ found_further (is_in window x) (has_serial serial x) (λ at. count_before window at xs) (λ at. count_before window at (x ∷ xs)) (item_index window serial xs) refl (λ i. refl)
      ∙ ap (λ o. cond (is_in window x) (cond (has_serial serial x) (Some 0) (option_map (λ at. suc at) o)) o) (found_before window serial xs)
      ∙ sym (among (is_in window x) (has_serial serial) x (items_of window xs))

  same_places : (window : ℕ) (items : List (Item T)) (o : Option ℕ) → IfSome o (λ at. is_in_at window at items ≡ true)
      → option_map (λ at. place_among at items) o ≡ option_map (λ at. count_before window at items) o
  same_places window items None h = refl
  same_places window items (Some at) h = ap Some (place_among-is window at items h)

  in_if_found : (window serial : ℕ) (items : List (Item T)) (o : Option ℕ) → item_index window serial items ≡ o → IfSome o (λ at. is_in_at window at items ≡ true)
  in_if_found window serial items None e = tt
  in_if_found window serial items (Some at) e = found_in window serial at items e

  -- an item that is found in the list is found at its place among its window's
  pub position-items_of : (window serial : ℕ) (items : List (Item T))
      → option_map (λ at. place_among at items) (item_index window serial items) ≡ position (has_serial serial) (items_of window items)
  position-items_of window serial items =
      same_places window items (item_index window serial items) (in_if_found window serial items (item_index window serial items) refl)
      ∙ found_before window serial items

  -- ---- one item more

  pub items_of-push : (window : ℕ) (items : List (Item T)) (c : Item T) → is_in window c ≡ true → items_of window (items ++ c ∷ []) ≡ items_of window items ++ c ∷ []
  items_of-push window items c e = filter-append (is_in window) items (c ∷ []) ∙ ap (λ ys. items_of window items ++ ys) (cond-true (is_in window c) (c ∷ []) [] e)

  pub items_of-push_other : (window : ℕ) (items : List (Item T)) (c : Item T) → is_in window c ≡ false → items_of window (items ++ c ∷ []) ≡ items_of window items
  items_of-push_other window items c e =
      filter-append (is_in window) items (c ∷ [])
      ∙ ap (λ ys. items_of window items ++ ys) (cond-false (is_in window c) (c ∷ []) [] e)
      ∙ append-nil (items_of window items)

  -- one more, then, is counted of its window, and of no other
  pub count_of-push : (window : ℕ) (items : List (Item T)) (c : Item T) → is_in window c ≡ true → count_of window (items ++ c ∷ []) ≡ count_of window items + 1
  count_of-push window items c e =
      count_of-length window (items ++ c ∷ [])
      ∙ ap length (items_of-push window items c e)
      ∙ length_push (items_of window items) c
      ∙ ap (λ n. n + 1) (sym (count_of-length window items))

  pub count_of-push_other : (window : ℕ) (items : List (Item T)) (c : Item T) → is_in window c ≡ false → count_of window (items ++ c ∷ []) ≡ count_of window items
  count_of-push_other window items c e =
      count_of-length window (items ++ c ∷ [])
      ∙ ap length (items_of-push_other window items c e)
      ∙ sym (count_of-length window items)

  -- ---- one item changed, in its window

  edit_further : (f : Item T → Item T) (b : Bool) (x : Item T) (xs new : List (Item T)) (n : ℕ) → new ≡ edit_at f n xs
      → cond b (x ∷ new) new ≡ edit_at f (cond b (suc n) n) (cond b (x ∷ xs) xs)
  edit_further f true x xs new n e = ap (λ ys. x ∷ ys) e
  edit_further f false x xs new n e = e

  edit_before : (f : Item T → Item T) → ((c : Item T) → (f c).window ≡ c.window) → (window at : ℕ) (items : List (Item T)) → is_in_at window at items ≡ true
      → items_of window (edit_at f at items) ≡ edit_at f (count_before window at items) (items_of window items)
  edit_before f keeps window at [] e = absurd (false≢true e)
  edit_before f keeps window zero (x ∷ xs) e =
      cond-true (is_in window (f x)) (f x ∷ items_of window xs) (items_of window xs) (ap (λ w. w == window) (keeps x) ∙ e)
      ∙ sym (ap (edit_at f 0) (cond-true (is_in window x) (x ∷ items_of window xs) (items_of window xs) e))
  edit_before f keeps window (suc i) (x ∷ xs) e =
      edit_further f (is_in window x) x (items_of window xs) (items_of window (edit_at f i xs)) (count_before window i xs) (edit_before f keeps window i xs e)

  pub items_of-edit_at : (f : Item T → Item T) → ((c : Item T) → (f c).window ≡ c.window) → (window at : ℕ) (items : List (Item T)) → is_in_at window at items ≡ true
      → items_of window (edit_at f at items) ≡ edit_at f (place_among at items) (items_of window items)
  items_of-edit_at f keeps window at items e =
      edit_before f keeps window at items e
      ∙ ap (λ n. edit_at f n (items_of window items)) (sym (place_among-is window at items e))

  -- in another window
  pub items_of-edit_at_other : (f : Item T → Item T) → ((c : Item T) → (f c).window ≡ c.window) → (window at : ℕ) (items : List (Item T)) → is_in_at window at items ≡ false
      → items_of window (edit_at f at items) ≡ items_of window items
  items_of-edit_at_other f keeps window at [] e = refl
  items_of-edit_at_other f keeps window zero (x ∷ xs) e =
      cond-false (is_in window (f x)) (f x ∷ items_of window xs) (items_of window xs) (ap (λ w. w == window) (keeps x) ∙ e)
      ∙ sym (cond-false (is_in window x) (x ∷ items_of window xs) (items_of window xs) e)
  items_of-edit_at_other f keeps window (suc i) (x ∷ xs) e = ap (λ ys. cond (is_in window x) (x ∷ ys) ys) (items_of-edit_at_other f keeps window i xs e)

  edit_first : (f : Item T → Item T) → ((c : Item T) → (f c).window ≡ c.window) → ((c : Item T) → (f c).serial ≡ c.serial) → (window serial : ℕ) (x : Item T)
      → is_item window serial (f x) ≡ is_item window serial x
  edit_first f keeps names window serial x = ap (λ w. (w == window) && ((f x).serial == serial)) (keeps x) ∙ ap (λ n. is_in window x && (n == serial)) (names x)

  -- and found where it was
  pub item_index-edit_at : (f : Item T → Item T) → ((c : Item T) → (f c).window ≡ c.window) → ((c : Item T) → (f c).serial ≡ c.serial)
      → (window serial at : ℕ) (items : List (Item T)) → item_index window serial (edit_at f at items) ≡ item_index window serial items
  item_index-edit_at f keeps names window serial at [] = refl
  item_index-edit_at f keeps names window serial zero (x ∷ xs) =
      position-cons (is_item window serial) (f x) xs
      ∙ ap (λ b. cond b (Some 0) (option_map (λ at. suc at) (item_index window serial xs))) (edit_first f keeps names window serial x)
      ∙ sym (position-cons (is_item window serial) x xs)
  item_index-edit_at f keeps names window serial (suc i) (x ∷ xs) =
      position-cons (is_item window serial) x (edit_at f i xs)
      ∙ ap (λ o. cond (is_item window serial x) (Some 0) (option_map (λ at. suc at) o)) (item_index-edit_at f keeps names window serial i xs)
      ∙ sym (position-cons (is_item window serial) x xs)

  -- ---- one item taken out, of its window

  remove_further : (b : Bool) (x : Item T) (xs new : List (Item T)) (n : ℕ) → new ≡ remove xs n
      → cond b (x ∷ new) new ≡ remove (cond b (x ∷ xs) xs) (cond b (suc n) n)
  remove_further true x xs new n e = ap (λ ys. x ∷ ys) e
  remove_further false x xs new n e = e

  remove_before : (window at : ℕ) (items : List (Item T)) → is_in_at window at items ≡ true
      → items_of window (remove items at) ≡ remove (items_of window items) (count_before window at items)
  remove_before window at [] e = absurd (false≢true e)
  remove_before window zero (x ∷ xs) e = sym (ap (λ ys. remove ys 0) (cond-true (is_in window x) (x ∷ items_of window xs) (items_of window xs) e))
  remove_before window (suc i) (x ∷ xs) e =
      remove_further (is_in window x) x (items_of window xs) (items_of window (remove xs i)) (count_before window i xs) (remove_before window i xs e)

  pub items_of-remove : (window at : ℕ) (items : List (Item T)) → is_in_at window at items ≡ true
      → items_of window (remove items at) ≡ remove (items_of window items) (place_among at items)
  items_of-remove window at items e =
      remove_before window at items e
      ∙ ap (λ n. remove (items_of window items) n) (sym (place_among-is window at items e))

  -- of another window
  pub items_of-remove_other : (window at : ℕ) (items : List (Item T)) → is_in_at window at items ≡ false → items_of window (remove items at) ≡ items_of window items
  items_of-remove_other window zero [] e = refl
  items_of-remove_other window (suc i) [] e = refl
  items_of-remove_other window zero (x ∷ xs) e = sym (cond-false (is_in window x) (x ∷ items_of window xs) (items_of window xs) e)
  items_of-remove_other window (suc i) (x ∷ xs) e = ap (λ ys. cond (is_in window x) (x ∷ ys) ys) (items_of-remove_other window i xs e)

  -- one less, then, is counted of its window, and of no other
  pub count_of-remove : (window at : ℕ) (items : List (Item T)) → is_in_at window at items ≡ true → count_of window (remove items at) + 1 ≡ count_of window items
  count_of-remove window at items e =
      let there = place_among-within window at items e in
      let many = count_of-length window items in
      ap (λ n. n + 1) (count_of-length window (remove items at) ∙ ap length (items_of-remove window at items e))
      ∙ length-remove (items_of window items) (place_among at items) (omega (arith, there, many))
      ∙ sym many

  pub count_of-remove_other : (window at : ℕ) (items : List (Item T)) → is_in_at window at items ≡ false → count_of window (remove items at) ≡ count_of window items
  count_of-remove_other window at items e =
      count_of-length window (remove items at)
      ∙ ap length (items_of-remove_other window at items e)
      ∙ sym (count_of-length window items)

  -- ---- the youngest item of a window taken out

  last_more : (window : ℕ) (x : Item T) (xs : List (Item T)) (b : Bool) (o : Option ℕ) → is_in window x ≡ b → IfSome o (λ at. is_in_at window at xs ≡ true)
      → IfSome (option_or (option_map (λ at. suc at) o) (cond b (Some 0) None)) (λ at. is_in_at window at (x ∷ xs) ≡ true)
  last_more window x xs true None e h = e
  last_more window x xs false None e h = tt
  last_more window x xs b (Some at) e h = h

  -- it is in the window
  pub last_in : (window : ℕ) (items : List (Item T)) → IfSome (last_index_of window items) (λ at. is_in_at window at items ≡ true)
  last_in window [] = tt
  last_in window (x ∷ xs) = last_more window x xs (is_in window x) (last_index_of window xs) refl (last_in window xs)

  no_more : (b : Bool) (o : Option ℕ) (x : Item T) (xs : List (Item T)) → (o ≡ None → xs ≡ []) → option_or (option_map (λ at. suc at) o) (cond b (Some 0) None) ≡ None → cond b (x ∷ xs) xs ≡ []
  no_more true None x xs h e = absurd (cc)
  no_more false None x xs h e = h refl
  no_more b (Some at) x xs h e = absurd (cc)

  -- a window with no youngest item has none
  pub none_left : (window : ℕ) (items : List (Item T)) → last_index_of window items ≡ None → items_of window items ≡ []
  none_left window [] e = refl
  none_left window (x ∷ xs) e = no_more (is_in window x) (last_index_of window xs) x (items_of window xs) (none_left window xs) e

  abbrev Splits : ℕ → List (Item T) → Option ℕ → Type 0
  Splits window xs o = items_of window xs ≡ items_of window (option_map_or (λ at. remove xs at) o xs) ++ option_to_list (option_and_then (λ at. slice_get xs at) o)

  split_further : (b : Bool) (x : Item T) (xs new last : List (Item T)) → xs ≡ new ++ last → cond b (x ∷ xs) xs ≡ cond b (x ∷ new) new ++ last
  split_further true x xs new last e = ap (λ ys. x ∷ ys) e
  split_further false x xs new last e = e

  split_first : (window : ℕ) (x : Item T) (xs : List (Item T)) (b : Bool) → is_in window x ≡ b → items_of window xs ≡ [] → Splits window (x ∷ xs) (cond b (Some 0) None)
  split_first window x xs true e none =
      cond-true (is_in window x) (x ∷ items_of window xs) (items_of window xs) e
      ∙ ap (λ ys. x ∷ ys) none
      ∙ ap (λ ys. ys ++ x ∷ []) (sym none)
  split_first window x xs false e none = sym (append-nil (items_of window (x ∷ xs)))

  split_more : (window : ℕ) (x : Item T) (xs : List (Item T)) (o : Option ℕ) → (o ≡ None → items_of window xs ≡ []) → Splits window xs o
      → Splits window (x ∷ xs) (option_or (option_map (λ at. suc at) o) (cond (is_in window x) (Some 0) None))
  split_more window x xs None none h = split_first window x xs (is_in window x) refl (none refl)
  split_more window x xs (Some at) none h = split_further (is_in window x) x (items_of window xs) (items_of window (remove xs at)) (option_to_list (slice_get xs at)) h

  -- it stood behind the others of the window
  pub items_of-without_youngest : (window : ℕ) (items : List (Item T))
      → items_of window items ≡ items_of window (without_youngest window items) ++ option_to_list (youngest_of window items)
  items_of-without_youngest window [] = refl
  items_of-without_youngest window (x ∷ xs) = split_more window x xs (last_index_of window xs) (none_left window xs) (items_of-without_youngest window xs)

  pub count_of-without_youngest : (window : ℕ) (items : List (Item T))
      → count_of window items ≡ count_of window (without_youngest window items) + length (option_to_list (youngest_of window items))
  count_of-without_youngest window items =
      count_of-length window items
      ∙ ap length (items_of-without_youngest window items)
      ∙ length-append (items_of window (without_youngest window items)) (option_to_list (youngest_of window items))
      ∙ ap (λ n. n + length (option_to_list (youngest_of window items))) (sym (count_of-length window (without_youngest window items)))

  not_in_both : (window other : ℕ) (o : Option (Item T)) → (window ≡ other → ⊥) → option_map_or (is_in window) o false ≡ true → option_map_or (is_in other) o false ≡ false
  not_in_both window other None apart e = refl
  not_in_both window other (Some c) apart e = let is = eqb-true c.window window e in ne_eqb c.window other (λ same. apart (sym is ∙ same))

  -- an item of one window is in no other
  pub is_in_at-other : (window other at : ℕ) (items : List (Item T)) → (window ≡ other → ⊥) → is_in_at window at items ≡ true → is_in_at other at items ≡ false
  is_in_at-other window other at items apart e = not_in_both window other (slice_get items at) apart e

  left_alone : (window other : ℕ) (items : List (Item T)) (o : Option ℕ) → (window ≡ other → ⊥) → IfSome o (λ at. is_in_at window at items ≡ true)
      → items_of other (option_map_or (λ at. remove items at) o items) ≡ items_of other items
  left_alone window other items None apart h = refl
  left_alone window other items (Some at) apart h = items_of-remove_other other at items (is_in_at-other window other at items apart h)

  -- other windows keep theirs
  pub items_of-without_youngest_other : (window other : ℕ) (items : List (Item T)) → (window ≡ other → ⊥)
      → items_of other (without_youngest window items) ≡ items_of other items
  items_of-without_youngest_other window other items apart = left_alone window other items (last_index_of window items) apart (last_in window items)
