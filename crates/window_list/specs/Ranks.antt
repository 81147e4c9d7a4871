-- Values in an order of their own.
use Rattle.std.specs.Prelude.{◌≡◌, ◌≢◌, ℕ, List, [], ◌∷◌, length, filter_map, IsSome, Option, None, Some, slice_get}
use Rattle.std.specs.List.{insert, remove}
use Rattle.slab.specs.Slab.{Slab, get, slab_len}

-- the values in their order, and how many of them fit with no more memory
pub record Ranked (T : Type 0) : Type 0 where
  pub items : List T
  pub capacity : ℕ

-- no key of the list is this one
abbrev pub Misses : ℕ → List ℕ → Type 0
Misses k [] = Unit {0}
Misses k (j ∷ js) = (j ≢ k) × Misses k js

module _ {T : Type 0} where
  -- the list with this in it at the place, if there is one
  abbrev pub insert_option : List T → ℕ → Option T → List T
  insert_option xs j None = xs
  insert_option xs j (Some x) = insert xs j x

  -- the list whose i-th element was taken out and put in at the place j
  abbrev pub moved_item : List T → ℕ → ℕ → List T
  moved_item xs i j = insert_option (remove xs i) j (slice_get xs i)

  -- the values under these keys
  abbrev pub items_of : Slab T → List ℕ → List T
  items_of s keys = filter_map (get s) keys

  -- each key has a value, and stands in the list once
  abbrev pub AreKeys : Slab T → List ℕ → Type 0
  AreKeys s [] = Unit {0}
  AreKeys s (k ∷ ks) = IsSome (get s k) × Misses k ks × AreKeys s ks

  -- these are the keys of all values, each once
  pub record IsRanked (s : Slab T) (keys : List ℕ) : Type 0 where
    pub keys_are : AreKeys s keys
    pub counted : slab_len s ≡ length keys
