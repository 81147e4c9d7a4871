-- Keys in an order, and the values under them.
use Rattle.std.proofs.Common.{◌≡◌, ◌≢◌, inl, inr, ℕ, zero, suc, ◌+◌, ◌<◌, List, [], ◌∷◌, length, get_or, set, cond, Option, None, Some, refl, sym, ap, ◌∙◌, subst, arith}
use Rattle.std.specs.Prelude.{IsSome, is_some, slice_get, min, vec_len, vec_capacity}
use Rattle.std.specs.List.{insert, remove, cons_option}
use Rattle.std.proofs.lemmas.Bool.{false≢true, cases_eq}
use Rattle.std.proofs.lemmas.Option.{get_or_from_slice_get}
use Rattle.std.proofs.lemmas.List.Sums.{sum_by-set}
use Rattle.slab.specs.Slab.{Slab, get, slab_len, with_value}
use Rattle.slab.proofs.SlabLemmas.{ContainsKey-within, Updates-with_value}
use Rattle.window_list.specs.Ranks.{Ranked, Misses, insert_option, moved_item, items_of, AreKeys, IsRanked}
use Rattle.window_list.specs.declared.ranks.Ranks.TheInside.{Inside}

-- what holds of each value holds of one that is there
by_some : {T : Type 0} (P : Option T → Type 0) (o : Option T) → IsSome o → ((x : T) → P (Some x)) → P o
by_some P None h f = absurd (false≢true h)
by_some P (Some x) h f = f x

-- ---- keys that are not in a list

Misses-remove : (k : ℕ) (ks : List ℕ) (i : ℕ) → Misses k ks → Misses k (remove ks i)
Misses-remove k [] zero h = tt
Misses-remove k [] (suc i) h = tt
Misses-remove k (j ∷ js) zero h = h.1
Misses-remove k (j ∷ js) (suc i) h = (h.0, Misses-remove k js i h.1)

Misses-insert : (k : ℕ) (ks : List ℕ) (i j : ℕ) → j ≢ k → Misses k ks → Misses k (insert ks i j)
Misses-insert k ks zero j apart h = (apart, h)
Misses-insert k [] (suc i) j apart h = (apart, tt)
Misses-insert k (l ∷ ls) (suc i) j apart h = (h.0, Misses-insert k ls i j apart h.1)

Misses-at : (k : ℕ) (ks : List ℕ) (i d : ℕ) → i < length ks → Misses k ks → get_or ks i d ≢ k
Misses-at k [] i d within h = absurd (omega arith)
Misses-at k (j ∷ js) zero d within h = h.0
Misses-at k (j ∷ js) (suc i) d within h = Misses-at k js i d (omega arith) h.1

module _ {T : Type 0} where
  -- the other slab has the same values under all other keys
  abbrev pub SameButAt : ℕ → Slab T → Slab T → Type 0
  SameButAt k s t = (other : ℕ) → other ≢ k → get t other ≡ get s other

  items-other : (s t : Slab T) (k : ℕ) (ks : List ℕ) → SameButAt k s t → Misses k ks → items_of t ks ≡ items_of s ks
  items-other s t k [] same h = refl
  items-other s t k (j ∷ js) same h = λ i. cons_option (same j h.0 i) (items-other s t k js same h.1 i)

  AreKeys-other : (s t : Slab T) (k : ℕ) (ks : List ℕ) → SameButAt k s t → Misses k ks → AreKeys s ks → AreKeys t ks
  AreKeys-other s t k [] same h its = tt
  AreKeys-other s t k (j ∷ js) same h its = (ap is_some (same j h.0) ∙ its.0, its.1, AreKeys-other s t k js same h.1 its.2)

  -- a vacant key is none of them
  vacant_misses : (s : Slab T) (k : ℕ) (ks : List ℕ) → get s k ≡ None → AreKeys s ks → Misses k ks
  vacant_misses s k [] e its = tt
  vacant_misses s k (j ∷ js) e its = (λ same. false≢true (sym (ap (λ n. is_some (get s n)) same ∙ ap is_some e) ∙ its.0), vacant_misses s k js e its.2)

  -- the key at a place has the value at that place
  pub value_at : (s : Slab T) (ks : List ℕ) (i d : ℕ) → i < length ks → AreKeys s ks → IsSome (get s (get_or ks i d))
  value_at s [] i d within its = absurd (omega arith)
  value_at s (k ∷ ks) zero d within its = its.0
  value_at s (k ∷ ks) (suc i) d within its = value_at s ks i d (omega arith) its.2

  pub item_at : (s : Slab T) (ks : List ℕ) (i d : ℕ) → i < length ks → AreKeys s ks → slice_get (items_of s ks) i ≡ get s (get_or ks i d)
  item_at s [] i d within its = absurd (omega arith)
  item_at s (k ∷ ks) zero d within its = by_some (λ o. slice_get (cons_option o (items_of s ks)) zero ≡ o) (get s k) its.0 (λ x. refl)
  item_at s (k ∷ ks) (suc i) d within its = by_some (λ o. slice_get (cons_option o (items_of s ks)) (suc i) ≡ get s (get_or ks i d)) (get s k) its.0 (λ x. item_at s ks i d (omega arith) its.2)

  -- the same, as an index gives it
  pub item_is : (s : Slab T) (ks : List ℕ) (i k : ℕ) (x : T) → k ≡ get_or ks i k → i < length ks → get s k ≡ Some x → AreKeys s ks → x ≡ get_or (items_of s ks) i x
  item_is s ks i k x e within found its = sym (get_or_from_slice_get (items_of s ks) i x x (item_at s ks i k within its ∙ ap (get s) (sym e) ∙ found))

  pub length-items : (s : Slab T) (ks : List ℕ) → AreKeys s ks → length (items_of s ks) ≡ length ks
  length-items s [] its = refl
  length-items s (k ∷ ks) its = by_some (λ o. length (cons_option o (items_of s ks)) ≡ suc (length ks)) (get s k) its.0 (λ x. ap suc (length-items s ks its.2))

  -- as many keys as values are seen
  pub as_many : (r : Inside T) (seen : Ranked T) → record { items = items_of r.records r.order.items; capacity = min r.records.capacity (vec_capacity r.order) } ≡ seen → IsRanked r.records r.order.items → (vec_len r.order ≡ length seen.items) × (length r.order.items ≡ length seen.items)
  as_many r seen e its =
      let many = sym (length-items r.records r.order.items its.keys_are) ∙ ap (λ (x : Ranked T). length x.items) e in (r.order.ok.0 ∙ many, many)

  -- ---- a key less

  AreKeys-remove : (s : Slab T) (ks : List ℕ) (i : ℕ) → AreKeys s ks → AreKeys s (remove ks i)
  AreKeys-remove s [] zero its = tt
  AreKeys-remove s [] (suc i) its = tt
  AreKeys-remove s (k ∷ ks) zero its = its.2
  AreKeys-remove s (k ∷ ks) (suc i) its = (its.0, Misses-remove k ks i its.1, AreKeys-remove s ks i its.2)

  items-remove : (s : Slab T) (ks : List ℕ) (i : ℕ) → AreKeys s ks → items_of s (remove ks i) ≡ remove (items_of s ks) i
  items-remove s [] zero its = refl
  items-remove s [] (suc i) its = refl
  items-remove s (k ∷ ks) zero its = by_some (λ o. items_of s ks ≡ remove (cons_option o (items_of s ks)) zero) (get s k) its.0 (λ x. refl)
  items-remove s (k ∷ ks) (suc i) its = by_some (λ o. cons_option o (items_of s (remove ks i)) ≡ remove (cons_option o (items_of s ks)) (suc i)) (get s k) its.0 (λ x. ap (λ xs. x ∷ xs) (items-remove s ks i its.2))

  -- a key that was taken out is none of those that are left
  removed_misses : (s : Slab T) (ks : List ℕ) (i d : ℕ) → i < length ks → AreKeys s ks → Misses (get_or ks i d) (remove ks i)
  removed_misses s [] i d within its = absurd (omega arith)
  removed_misses s (k ∷ ks) zero d within its = its.1
  removed_misses s (k ∷ ks) (suc i) d within its = (λ e. Misses-at k ks i d (omega arith) its.1 (sym e), removed_misses s ks i d (omega arith) its.2)

  -- the values that are left where one is taken out of the slab too
  pub keys_left : (s t : Slab T) (ks : List ℕ) (i k : ℕ) → k ≡ get_or ks i k → i < length ks → SameButAt k s t → AreKeys s ks → AreKeys t (remove ks i)
  keys_left s t ks i k e within same its =
      AreKeys-other s t k (remove ks i) same (subst (λ j. Misses j (remove ks i)) (sym e) (removed_misses s ks i k within its)) (AreKeys-remove s ks i its)

  pub items_left : (s t : Slab T) (ks : List ℕ) (i k : ℕ) → k ≡ get_or ks i k → i < length ks → SameButAt k s t → AreKeys s ks → items_of t (remove ks i) ≡ remove (items_of s ks) i
  items_left s t ks i k e within same its =
      items-other s t k (remove ks i) same (subst (λ j. Misses j (remove ks i)) (sym e) (removed_misses s ks i k within its))
      ∙ items-remove s ks i its

  -- ---- a key more

  AreKeys-insert : (s : Slab T) (ks : List ℕ) (i k : ℕ) → IsSome (get s k) → Misses k ks → AreKeys s ks → AreKeys s (insert ks i k)
  AreKeys-insert s ks zero k one h its = (one, h, its)
  AreKeys-insert s [] (suc i) k one h its = (one, tt, tt)
  AreKeys-insert s (j ∷ js) (suc i) k one h its = (its.0, Misses-insert j js i k (λ e. h.0 (sym e)) its.1, AreKeys-insert s js i k one h.1 its.2)

  items-insert : (s : Slab T) (ks : List ℕ) (i k : ℕ) (x : T) → get s k ≡ Some x → AreKeys s ks → items_of s (insert ks i k) ≡ insert (items_of s ks) i x
  items-insert s ks zero k x e its = ap (λ o. cons_option o (items_of s ks)) e
  items-insert s [] (suc i) k x e its = ap (λ o. cons_option o []) e
  items-insert s (j ∷ js) (suc i) k x e its = by_some (λ o. cons_option o (items_of s (insert js i k)) ≡ insert (cons_option o (items_of s js)) (suc i) x) (get s j) its.0 (λ y. ap (λ ys. y ∷ ys) (items-insert s js i k x e its.2))

  -- a new value under a key that was vacant
  pub keys_more : (s t : Slab T) (ks : List ℕ) (i k : ℕ) (x : T) → get s k ≡ None → get t k ≡ Some x → SameButAt k s t → AreKeys s ks → AreKeys t (insert ks i k)
  keys_more s t ks i k x e one same its = let h = vacant_misses s k ks e its in AreKeys-insert t ks i k (ap is_some one) h (AreKeys-other s t k ks same h its)

  pub items_more : (s t : Slab T) (ks : List ℕ) (i k : ℕ) (x : T) → get s k ≡ None → get t k ≡ Some x → SameButAt k s t → AreKeys s ks → items_of t (insert ks i k) ≡ insert (items_of s ks) i x
  items_more s t ks i k x e one same its =
      let h = vacant_misses s k ks e its in
      items-insert t ks i k x one (AreKeys-other s t k ks same h its) ∙ ap (λ xs. insert xs i x) (items-other s t k ks same h)

  -- ---- a key at another place

  pub keys_moved : (s : Slab T) (ks : List ℕ) (i j k : ℕ) → k ≡ get_or ks i k → i < length ks → AreKeys s ks → AreKeys s (insert (remove ks i) j k)
  keys_moved s ks i j k e within its =
      AreKeys-insert s (remove ks i) j k (ap (λ n. is_some (get s n)) e ∙ value_at s ks i k within its) (subst (λ n. Misses n (remove ks i)) (sym e) (removed_misses s ks i k within its)) (AreKeys-remove s ks i its)

  pub items_moved : (s : Slab T) (ks : List ℕ) (i j k : ℕ) → k ≡ get_or ks i k → i < length ks → AreKeys s ks → items_of s (insert (remove ks i) j k) ≡ moved_item (items_of s ks) i j
  items_moved s ks i j k e within its = by_value (get s k) refl (ap (λ n. is_some (get s n)) e ∙ value_at s ks i k within its)
    where
      by_value : (o : Option T) → get s k ≡ o → IsSome o → items_of s (insert (remove ks i) j k) ≡ moved_item (items_of s ks) i j
      by_value None f h = absurd (false≢true h)
      by_value (Some x) f h =
          items-insert s (remove ks i) j k x f (AreKeys-remove s ks i its)
          ∙ ap (λ xs. insert xs j x) (items-remove s ks i its)
          ∙ ap (insert_option (remove (items_of s ks) i) j) (sym (item_at s ks i k within its ∙ ap (get s) (sym e) ∙ f))

  -- ---- another value under a key

  pub items_set : (s t : Slab T) (ks : List ℕ) (i d k : ℕ) (x : T) → k ≡ get_or ks i d → i < length ks → get t k ≡ Some x → SameButAt k s t → AreKeys s ks → items_of t ks ≡ set (items_of s ks) i x
  items_set s t [] i d k x e within one same its = absurd (omega arith)
  items_set s t (j ∷ js) zero d k x e within one same its =
      let rest = items-other s t k js same (subst (λ n. Misses n js) (sym e) its.1) in
      by_some (λ o. items_of t (j ∷ js) ≡ set (cons_option o (items_of s js)) zero x) (get s j) its.0
      (λ y. (λ l. cons_option ((ap (get t) (sym e) ∙ one) l) (rest l)))
  items_set s t (j ∷ js) (suc i) d k x e within one same its =
      let apart : j ≢ k = λ f. Misses-at j js i d (omega arith) its.1 (sym e ∙ sym f) in
      let rest = items_set s t js i d k x e (omega arith) one same its.2 in
      ap (λ o. cons_option o (items_of t js)) (same j apart)
      ∙ by_some (λ o. cons_option o (items_of t js) ≡ set (cons_option o (items_of s js)) (suc i) x) (get s j) its.0 (λ y. ap (λ ys. y ∷ ys) rest)

  pub keys_set : (s t : Slab T) (ks : List ℕ) (k : ℕ) (x : T) → get t k ≡ Some x → SameButAt k s t → AreKeys s ks → AreKeys t ks
  keys_set s t [] k x one same its = tt
  keys_set s t (j ∷ js) k x one same its = (is_there, its.1, keys_set s t js k x one same its.2)
    where
      is_there : IsSome (get t j)
      is_there = elim (cases_eq j k) [
        | inl e ↦ ap (λ n. is_some (get t n)) e ∙ ap is_some one
        | inr differs ↦ ap is_some (same j differs) ∙ its.0
      ]

  abbrev weight : Option T → ℕ
  weight o = cond (is_some o) 1 0

  -- a write under a key that has a value
  pub ranked_set : (s : Slab T) (ks : List ℕ) (k : ℕ) (x y : T) → get s k ≡ Some y → IsRanked s ks → IsRanked (with_value s k x) ks
  ranked_set s ks k x y found its =
      let present = ap is_some found in
      let updates = Updates-with_value s k x present in
      let sums : slab_len (with_value s k x) + weight (get s k) ≡ slab_len s + 1 = sum_by-set weight s.slots k (Some x) None (ContainsKey-within s k present) in
      let one : weight (get s k) ≡ 1 = ap weight found in
      record {
        keys_are = keys_set s (with_value s k x) ks k x updates.changed updates.others its.keys_are;
        counted = omega (arith, its.counted);
      }
