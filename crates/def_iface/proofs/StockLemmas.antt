-- The first slot that passes a test, and what it holds.
use Rattle.std.proofs.Common.{◌≡◌, ℕ, ◌+◌, ◌<◌, Bool, true, false, not, ltb, cond, List, [], ◌∷◌, ◌++◌, length, get_or, map, set, Option, Some, None, refl, sym, ap, ◌∙◌, subst, arith, inl, inr, position}
use Rattle.std.specs.Option.{option_map, option_map_or, is_none, IfSome, IsSomeAnd}
use Rattle.std.specs.List.{position_or_len, slice_get}
use Rattle.std.specs.Prelude.{All}
use Rattle.std.proofs.lemmas.List.Elements.{All-push}
use Rattle.std.proofs.lemmas.Bool.{lt-ltb, and_parts, false≢true}
use Rattle.std.proofs.lemmas.Bool.Decides.{Decides-eqb}
use Rattle.std.proofs.lemmas.Option.{get_or_from_slice_get, slice_get-get_or, slice_get_within, slice_get-map, slice_get_cases}
use Rattle.std.proofs.lemmas.Slice.Eq.{slice_eq-Decides}
use Rattle.def_iface.specs.declared.window_def.Stage.{Stage}
use Rattle.def_iface.specs.declared.window_def.Stage.TheVariants.{Fresh, Live, Closed}
use Rattle.def_iface.specs.Slots.{SlotOf, LoanOf, IsFull, IsTaken, is_kind, is_fresh, holds_fresh, offers, is_left}
use Rattle.std.proofs.lemmas.List.{length-map, length-set, get_or-set_same, map-set}
use Rattle.std.proofs.lemmas.List.Sums.{position_or_len_is}

ltb-self : (n : ℕ) → ltb n n ≡ false
ltb-self n = grind arith

module _ {X : Type 0} (p : X → Bool) where
  pub position-first : (xs : List X) (i : ℕ) (d : X) → i < length xs → ((k : ℕ) (e : X) → k < i → p (get_or xs k e) ≡ false) → p (get_or xs i d) ≡ true → position p xs ≡ Some i
  position-first xs i d within before here =
      let e : position_or_len p xs ≡ i = position_or_len_is p xs i d (omega arith) (λ k h. before k d h) (λ _. here) in
      rw (e, lt-ltb _ _ within) refl

  pub position-nowhere : (xs : List X) → ((k : ℕ) (e : X) → k < length xs → p (get_or xs k e) ≡ false) → position p xs ≡ None
  position-nowhere [] none = refl
  position-nowhere (x ∷ xs) none =
      let e : position_or_len p (x ∷ xs) ≡ length (x ∷ xs) = position_or_len_is p (x ∷ xs) (length (x ∷ xs)) x (omega arith) (λ k h. none k x h) (λ h. absurd (omega arith)) in
      rw (e, ltb-self (length (x ∷ xs))) refl

position_or_len-map : {X Y : Type 0} (p : Y → Bool) (f : X → Y) (xs : List X) → position_or_len p (map f xs) ≡ position_or_len (λ x. p (f x)) xs
position_or_len-map p f [] = refl
position_or_len-map p f (x ∷ xs) = ap (λ n. cond (not (p (f x))) (1 + n) 0) (position_or_len-map p f xs)

pub position-map : {X Y : Type 0} (p : Y → Bool) (f : X → Y) (xs : List X) → position p (map f xs) ≡ position (λ x. p (f x)) xs
position-map p f xs =
    let e = position_or_len-map p f xs in
    let l : length (map f xs) ≡ length xs = length-map xs f in
    rw (e, l) refl

-- ---- slots and what they hold

is_kind-true : {D : Type 0} (kind : List ℕ) (s : SlotOf D) → is_kind kind s ≡ true → s.kind ≡ kind
is_kind-true kind s e = (slice_eq-Decides Decides-eqb s.kind kind _ refl).0 e

fresh-true : (s : Stage) → is_fresh s ≡ true → s ≡ Fresh
fresh-true Fresh e = refl
fresh-true Live e = absurd (cc)
fresh-true Closed e = absurd (cc)

holds_fresh-true : {D : Type 0} (stage : D → Stage) (held : Option D) → holds_fresh stage held ≡ true → (d : D) × (held ≡ Some d) × (stage d ≡ Fresh)
holds_fresh-true stage None e = absurd (cc)
holds_fresh-true stage (Some d) e = (d, refl, fresh-true (stage d) e)

-- a slot that offers the kind holds a fresh definition of it
pub offers-true : {D : Type 0} (stage : D → Stage) (kind : List ℕ) (s : SlotOf D) → offers stage kind s ≡ true → (d : D) × (s ≡ record { kind = kind; held = Some d }) × (stage d ≡ Fresh)
offers-true stage kind s e =
    let parts = and_parts (is_kind kind s) (holds_fresh stage s.held) e in
    let d = holds_fresh-true stage s.held parts.1 in
    let named = is_kind-true kind s parts.0 in
    (d.0, λ i. record { kind = named i; held = d.1 i }, d.2)

-- a slot that was read is there among the slots as they are seen
pub slice_get-read : {X Y : Type 0} (view : X → Y) (xs : List X) (i : ℕ) (x : X) (P : X → Type 0) → x ≡ get_or xs i x → IsSomeAnd (slice_get xs i) P → (slice_get (map view xs) i ≡ Some (view x)) × P x
slice_get-read view xs i x P read found = by_get (slice_get xs i) refl found
  where
    by_get : (o : Option _) → slice_get xs i ≡ o → IsSomeAnd o P → (slice_get (map view xs) i ≡ Some (view x)) × P x
    by_get None e p = absurd p
    by_get (Some y) e p =
        let same : y ≡ x = sym (get_or_from_slice_get xs i y x e) ∙ sym read in
        (slice_get-map view xs i ∙ ap (option_map view) e ∙ ap (λ z. Some (view z)) same, subst P same p)

-- what is put into a slot is seen there
pub put-seen : {X Y : Type 0} (view : X → Y) (xs : List X) (i : ℕ) (x : X) (put : Y → Y) (new : X) → x ≡ get_or xs i x → view new ≡ put (view x) → IfSome (slice_get (map view xs) i) (λ y. map view (set xs i new) ≡ set (map view xs) i (put y))
put-seen view xs i x put new read seen = by_get (slice_get xs i) refl
  where
    by_get : (o : Option _) → slice_get xs i ≡ o → IfSome (slice_get (map view xs) i) (λ y. map view (set xs i new) ≡ set (map view xs) i (put y))
    by_get None e = rw (slice_get-map view xs i, e) tt
    by_get (Some y) e =
        let same : y ≡ x = sym (get_or_from_slice_get xs i y x e) ∙ sym read in
        rw (slice_get-map view xs i, e) (map-set view xs i new ∙ ap (λ z. set (map view xs) i z) (seen ∙ ap (λ z. put (view z)) (sym same)))

-- a slot is its kind and what it holds
pub same_slot : {D : Type 0} (s : SlotOf D) (kind : List ℕ) (held : Option D) → s.kind ≡ kind → s.held ≡ held → s ≡ record { kind = kind; held = held }
same_slot s kind held k h = λ i. record { kind = k i; held = h i }

-- what a slot holds is one definition
pub held_same : {D : Type 0} (stage : D → Stage) (s : SlotOf D) (kind : List ℕ) (d e : D) → s ≡ record { kind = kind; held = Some d } → s.held ≡ Some e → stage d ≡ Fresh → stage e ≡ Fresh
held_same {D} stage s kind d e is held fresh =
    let same : Some d ≡ Some e = sym (ap (λ (t : SlotOf D). t.held) is) ∙ held in
    let same_d : d ≡ e = cc in
    sym (ap stage same_d) ∙ fresh

-- an empty slot is one of the slots
pub left_is_there : {X D : Type 0} (view : X → SlotOf D) (xs : List X) (i : ℕ) → is_left i (map view xs) ≡ true → i < length xs
left_is_there view xs i e =
    let all : length (map view xs) ≡ length xs = length-map xs view in
    elim (slice_get_cases (map view xs) i).1 [
      | inl w ↦ let within = w.1 in omega arith
      | inr w ↦ absurd (false≢true (sym (ap (λ o. option_map_or (λ s. is_none s.held) o false) w.1) ∙ e))
    ]

-- the slot of a definition that was taken is empty
pub taken_is_left : {D : Type 0} (stage : D → Stage) (kind : List ℕ) (loan : LoanOf D) (old new : List (SlotOf D)) → IsTaken stage kind loan old new → is_left loan.slot new ≡ true
taken_is_left {D} stage kind loan old new taken =
    let emptied : SlotOf D = record { kind = kind; held = None } in
    let within : loan.slot < length old = slice_get_within old loan.slot _ taken.held in
    let long : length (set old loan.slot emptied) ≡ length old = length-set old loan.slot emptied in
    let there : slice_get (set old loan.slot emptied) loan.slot ≡ Some emptied =
    slice_get-get_or (set old loan.slot emptied) loan.slot emptied (omega arith) ∙ ap Some (get_or-set_same old loan.slot emptied emptied within) in
    rw (taken.left, there) refl

-- a slot was added with a fresh definition in it
pub full_added : {D : Type 0} (stage : D → Stage) (old new : List (SlotOf D)) (kind : List ℕ) (d : D) → stage d ≡ Fresh → new ≡ old ++ record { kind = kind; held = Some d } ∷ [] → All (IsFull stage) old → All (IsFull stage) new
full_added stage old new kind d fresh added all = subst (All (IsFull stage)) (sym added) (All-push (IsFull stage) old (record { kind = kind; held = Some d }) all (d, refl, inl fresh))
