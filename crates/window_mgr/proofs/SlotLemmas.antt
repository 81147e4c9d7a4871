-- A slot that is emptied and filled again.
use Rattle.std.proofs.Common.{◌≡◌, ⊎_elim, inl, inr, ℕ, zero, suc, true, false, List, [], ◌∷◌, map, Some, None, refl, sym, ap, ◌∙◌, subst, arith}
use Rattle.std.specs.Prelude.{slice_get, slice_set, is_none, IfSome}
use Rattle.std.specs.Option.{option_map_or}
use Rattle.std.proofs.lemmas.Bool.{cases_eq, false≢true}
use Rattle.std.proofs.lemmas.List.Elements.{All-cons, All-weaker, Contains-append_right}
use Rattle.std.proofs.lemmas.List.Kept.{AllPairs-cons}
use Rattle.def_iface.specs.WindowMeaning.{WindowLoan}
use Rattle.def_iface.specs.WindowSlots.{WindowSlot, IsTaken, IsPutBack, is_left, holding}
use Rattle.vis_update.specs.Records.{WindowRecord}
use Rattle.window_mgr.specs.Whole.{IsStocked, IsSlot}

module _ {X : Type 0} where
  -- what was set at a place stands there
  pub get-set_same : (xs : List X) (i : ℕ) (x y : X) → slice_get xs i ≡ Some x → slice_get (slice_set xs i y) i ≡ Some y
  get-set_same [] i x y e = absurd (cc)
  get-set_same (z ∷ xs) zero x y e = refl
  get-set_same (z ∷ xs) (suc i) x y e = get-set_same xs i x y e

  -- another place holds what it held
  pub get-set_other : (xs : List X) (i k : ℕ) (y : X) → (k ≡ i → ⊥) → slice_get (slice_set xs i y) k ≡ slice_get xs k
  get-set_other [] i k y n = refl
  get-set_other (z ∷ xs) zero zero y n = absurd (n refl)
  get-set_other (z ∷ xs) zero (suc k) y n = refl
  get-set_other (z ∷ xs) (suc i) zero y n = refl
  get-set_other (z ∷ xs) (suc i) (suc k) y n = get-set_other xs i k y (λ e. n (ap suc e))

  -- what is set back is as it was
  set-set_back : (xs : List X) (i : ℕ) (x y : X) → slice_get xs i ≡ Some x → slice_set (slice_set xs i y) i x ≡ xs
  set-set_back [] i x y e = refl
  set-set_back (z ∷ xs) zero x y e = let same : z ≡ x = cc in ap (λ w. w ∷ xs) (sym same)
  set-set_back (z ∷ xs) (suc i) x y e = ap (λ ws. z ∷ ws) (set-set_back xs i x y e)

  -- what is set and what it takes the place of are alike by f, and so are the lists
  pub map-set : {Y : Type 0} (f : X → Y) (xs : List X) (i : ℕ) (x y : X) → slice_get xs i ≡ Some x → f y ≡ f x → map f (slice_set xs i y) ≡ map f xs
  map-set f [] i x y e same = refl
  map-set f (z ∷ xs) zero x y e same = let here : z ≡ x = cc in ap (λ w. w ∷ map f xs) (same ∙ ap f (sym here))
  map-set f (z ∷ xs) (suc i) x y e same = ap (λ ws. f z ∷ ws) (map-set f xs i x y e same)

module _ (kind : List ℕ) (loan : WindowLoan) (old left : List WindowSlot) (took : IsTaken kind loan old left) where
  abbrev emptied : WindowSlot
  emptied = record { kind = kind; held = None }

  abbrev filled : WindowSlot
  filled = record { kind = kind; held = Some loan.definition }

  found : slice_get left loan.slot ≡ Some emptied
  found = ap (λ ss. slice_get ss loan.slot) took.left ∙ get-set_same old loan.slot filled emptied took.held

  -- its slot is there, and empty
  pub taken_is_left : is_left loan.slot left ≡ true
  taken_is_left = ap (λ o. option_map_or (λ (s : WindowSlot). is_none s.held) o false) found

  -- the slots are for the same kinds
  pub kinds_when_taken : map (λ s. s.kind) left ≡ map (λ s. s.kind) old
  kinds_when_taken = ap (map (λ s. s.kind)) took.left ∙ map-set (λ (s : WindowSlot). s.kind) old loan.slot filled emptied took.held refl

  -- a definition that was taken and put back leaves the stock as it was
  pub put_back_is_old : (new : List WindowSlot) → IsPutBack loan left new → new ≡ old
  put_back_is_old new back =
      let set_is : new ≡ slice_set left loan.slot filled = subst (λ o. IfSome o (λ s. new ≡ slice_set left loan.slot (holding (Some loan.definition) s))) found back in
      set_is ∙ ap (λ ss. slice_set ss loan.slot filled) took.left ∙ set-set_back old loan.slot filled emptied took.held

  -- another window's slot, which was empty before, is still
  still_left : (k : ℕ) → is_left k old ≡ true → (k ≡ loan.slot → ⊥) × (is_left k left ≡ true)
  still_left k e =
      let away : k ≡ loan.slot → ⊥ = λ same. false≢true (sym (ap (λ o. option_map_or (λ (s : WindowSlot). is_none s.held) o false) (ap (slice_get old) same ∙ took.held)) ∙ e) in
      (away, ap (λ o. option_map_or (λ (s : WindowSlot). is_none s.held) o false) (ap (λ ss. slice_get ss k) took.left ∙ get-set_other old loan.slot k emptied away) ∙ e)

  -- the slot that is empty now is the new window's
  pub stocked_with : (w : WindowRecord) (ws : List WindowRecord) → w.slot ≡ loan.slot → IsStocked ws old → IsStocked (w ∷ ws) left
  stocked_with w ws slot_is stocked = record {
    left = All-cons (λ v. is_left v.slot left ≡ true) w ws (ap (λ k. is_left k left) slot_is ∙ taken_is_left) (All-weaker (λ v. is_left v.slot old ≡ true) (λ v. is_left v.slot left ≡ true) (λ v e. (still_left v.slot e).1) ws stocked.left);
    apart = AllPairs-cons (λ v u. v.slot ≡ u.slot → ⊥) w ws (All-weaker (λ v. is_left v.slot old ≡ true) (λ v. w.slot ≡ v.slot → ⊥) (λ v e same. (still_left v.slot e).0 (sym same ∙ slot_is)) ws stocked.left) stocked.apart;
    others = others;
  }
    where
      others : (k : ℕ) → IsSlot (w ∷ ws) left k
      others k s e = ⊎_elim
          (λ here. inr (
            (let got : Some emptied ≡ Some s = sym found ∙ ap (slice_get left) (sym here) ∙ e in
                let same : emptied ≡ s = cc in
                ap (λ (t : WindowSlot). t.held) (sym same)),
            (0, omega arith, slot_is ∙ sym here),
          ))
          (λ away. ⊎_elim
          (λ full. inl full)
          (λ none. inr (none.0, Contains-append_right (w.slot ∷ []) (map (λ (v : WindowRecord). v.slot) ws) k none.1))
          (stocked.others k s (sym (get-set_other old loan.slot k emptied away) ∙ ap (λ ss. slice_get ss k) (sym took.left) ∙ e)))
          (cases_eq k loan.slot)

-- the kind goes by the bytes of this text
pub taken_named : (bytes kind : List ℕ) (loan : WindowLoan) (old new : List WindowSlot) → bytes ≡ kind → IsTaken bytes loan old new → IsTaken kind loan old new
taken_named bytes kind loan old new same taken = subst (λ k. IsTaken k loan old new) same taken
