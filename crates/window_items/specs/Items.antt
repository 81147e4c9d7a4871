-- The items of a desk as a list: those of one window, where one of them stands, and one of them changed.
use Rattle.std.specs.Prelude.{◌≡◌, ℕ, zero, suc, ◌+◌, ◌^◌, nat_lt, Bool, true, false, ◌&&◌, ◌==◌, if◌then◌else◌, List, [], ◌∷◌, Option, None, Some, take, slice_get}
use Rattle.std.specs.Option.{option_map, option_map_or, option_and_then, option_or}
use Rattle.std.specs.List.{filter, list_all, list_any, position, remove}
use Rattle.window_items.specs.declared.item.Item.{Item}

-- the serial after this one, of 64 bits
abbrev pub serial_after : ℕ → Option ℕ
serial_after n = if nat_lt (n + 1) (2 ^ 64) then Some (n + 1) else None

-- the serial comes before the next one; where none is left to give, each does
abbrev pub is_before : Option ℕ → ℕ → Bool
is_before None n = true
is_before (Some next) n = nat_lt n next

module _ {T : Type 0} where
  -- the item is in this window
  abbrev pub is_in : ℕ → Item T → Bool
  is_in window c = c.window == window

  -- the item has this serial
  abbrev pub has_serial : ℕ → Item T → Bool
  has_serial serial c = c.serial == serial

  -- the item of this serial, in whichever window it is
  abbrev pub with_serial : ℕ → List (Item T) → Option (Item T)
  with_serial serial items = option_and_then (slice_get items) (position (has_serial serial) items)

  -- each of another serial
  abbrev pub AreApart : List (Item T) → Type 0
  AreApart [] = Unit {0}
  AreApart (c ∷ cs) = (list_any (has_serial c.serial) cs ≡ false) × AreApart cs

  -- the item is this window's, of this serial
  abbrev pub is_item : ℕ → ℕ → Item T → Bool
  is_item window serial c = is_in window c && has_serial serial c

  -- where the window's item of this serial stands
  abbrev pub item_index : ℕ → ℕ → List (Item T) → Option ℕ
  item_index window serial items = position (is_item window serial) items

  -- the item at this place, from 0, is in this window
  abbrev pub is_in_at : ℕ → ℕ → List (Item T) → Bool
  is_in_at window at items = option_map_or (is_in window) (slice_get items at) false

  -- the items of the window, the oldest first
  abbrev pub items_of : ℕ → List (Item T) → List (Item T)
  items_of window items = filter (is_in window) items

  -- how many they are
  abbrev pub count_of : ℕ → List (Item T) → ℕ
  count_of window [] = 0
  count_of window (c ∷ cs) = if is_in window c then suc (count_of window cs) else count_of window cs

  -- how many items before the one at this place are in its window: its place among those of its window
  abbrev pub place_among : ℕ → List (Item T) → ℕ
  place_among at items = option_map_or (λ c. count_of c.window (take at items)) (slice_get items at) 0

  -- where the youngest item of the window stands
  abbrev pub last_index_of : ℕ → List (Item T) → Option ℕ
  last_index_of window [] = None
  last_index_of window (c ∷ cs) = option_or (option_map (λ at. suc at) (last_index_of window cs)) (if is_in window c then Some 0 else None)

  -- the youngest item of the window
  abbrev pub youngest_of : ℕ → List (Item T) → Option (Item T)
  youngest_of window items = option_and_then (λ at. slice_get items at) (last_index_of window items)

  -- the items without it
  abbrev pub without_youngest : ℕ → List (Item T) → List (Item T)
  without_youngest window items = option_map_or (λ at. remove items at) (last_index_of window items) items

  -- each serial comes before the next one
  abbrev pub are_before : Option ℕ → List (Item T) → Bool
  are_before next items = list_all (λ c. is_before next c.serial) items

  -- the list with f of the item at this place, from 0, in the place of that
  abbrev pub edit_at : (Item T → Item T) → ℕ → List (Item T) → List (Item T)
  edit_at f i [] = []
  edit_at f zero (c ∷ cs) = f c ∷ cs
  edit_at f (suc i) (c ∷ cs) = c ∷ edit_at f i cs

  -- the item with f of what is kept in the place of that
  abbrev pub with_kept : (T → T) → Item T → Item T
  with_kept f c = record c { kept = f c.kept }
