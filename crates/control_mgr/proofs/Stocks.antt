-- Which slots of a stock are in use, where definitions are taken and come back.
use Rattle.std.proofs.Common.{◌≡◌, ⊎_elim, inl, inr, ℕ, zero, suc, ◌+◌, ◌≤◌, Bool, true, false, ◌==◌, if◌then◌else◌, List, [], ◌∷◌, ◌++◌, Option, Some, None, refl, sym, ap, ◌∙◌, subst, arith}
use Rattle.std.specs.Prelude.{All, slice_get, slice_set, is_none, IfSome}
use Rattle.std.specs.List.{remove}
use Rattle.std.specs.Option.{option_map_or}
use Rattle.std.proofs.lemmas.Bool.{cases_eq}
use Rattle.std.proofs.lemmas.Bool.Decides.{nat_tests}
use Rattle.std.proofs.lemmas.List.Elements.{All-cons, All-nil}
use Rattle.def_iface.specs.declared.window_def.Stage.{Stage}
use Rattle.def_iface.specs.declared.window_def.Stage.TheVariants.{Closed}
use Rattle.def_iface.specs.Slots.{SlotOf, LoanOf, IsFull, IsPutBack, IsTaken, holding, is_left}
use Rattle.window_mgr.proofs.SlotLemmas.{get-set_same, get-set_other}
use Rattle.control_mgr.specs.InUse.{uses, IsUsedBy, AreStocked}

-- how many times a number is this one
abbrev pub use_of : ℕ → ℕ → ℕ
use_of k n = if n == k then 1 else 0

pub uses-append : (k : ℕ) (ns : List ℕ) (n : ℕ) → uses k (ns ++ n ∷ []) ≡ uses k ns + use_of k n
uses-append k [] n = omega arith
uses-append k (m ∷ ms) n = let h = uses-append k ms n in omega arith

pub uses-remove : (k i : ℕ) (ns : List ℕ) (n : ℕ) → slice_get ns i ≡ Some n → uses k ns ≡ use_of k n + uses k (remove ns i)
uses-remove k i [] n e = absurd (cc)
uses-remove k zero (m ∷ ms) n e = let same : m ≡ n = cc in ap (λ y. use_of k y + uses k ms) same
uses-remove k (suc i) (m ∷ ms) n e = let h = uses-remove k i ms n e in omega arith

one_use : (k n : ℕ) → n ≡ k → use_of k n ≡ 1
one_use k n e = ap (λ (b : Bool). if b then 1 else 0) (same n k e)
  where
    same : (m n : ℕ) → m ≡ n → (m == n) ≡ true
    same m n e = grind (arith, nat_tests)

no_use : (k n : ℕ) → (n ≡ k → ⊥) → use_of k n ≡ 0
no_use k n e = ap (λ (b : Bool). if b then 1 else 0) (other n k e)
  where
    other : (m n : ℕ) → (m ≡ n → ⊥) → (m == n) ≡ false
    other m n e = grind (arith, nat_tests)

module _ {D : Type 0} (stage : D → Stage) where
  -- a slot that is used is there, and empty
  pub record IsEmptyFor (k : ℕ) (slots : List (SlotOf D)) : Type 0 where
    pub slot : SlotOf D
    pub found : slice_get slots k ≡ Some slot
    pub empty : slot.held ≡ None

  -- a slot with a definition in it is used by none
  none_uses_full : (n : ℕ) (s : SlotOf D) (d : D) → s.held ≡ Some d → IsUsedBy stage n (Some s) → n ≡ 0
  none_uses_full n s d held (inl (none, full)) = none
  none_uses_full n s d held (inr (one, empty)) = absurd (cc)

  used_is_empty : (k n : ℕ) (slots : List (SlotOf D)) (o : Option (SlotOf D)) → slice_get slots k ≡ o → IsUsedBy stage n o → 1 ≤ n → IsEmptyFor k slots × (n ≡ 1)
  used_is_empty k n slots None at used some = absurd (omega arith)
  used_is_empty k n slots (Some s) at (inl (none, full)) some = absurd (omega arith)
  used_is_empty k n slots (Some s) at (inr (one, empty)) some = (record { slot = s; found = at; empty = empty }, one)

  -- what is in use has its slot there, empty, and no other has that
  pub slot_of : (i : ℕ) (ns : List ℕ) (n : ℕ) (slots : List (SlotOf D)) → slice_get ns i ≡ Some n → AreStocked stage ns slots → IsEmptyFor n slots × (uses n ns ≡ 1)
  slot_of i ns n slots at stocked =
      let a = uses-remove n i ns n at in
      let b = one_use n n refl in
      let some : 1 ≤ uses n ns = omega arith in
      used_is_empty n (uses n ns) slots (slice_get slots n) refl (stocked n) some

  pub slot_is_left : (k : ℕ) (slots : List (SlotOf D)) → IsEmptyFor k slots → is_left k slots ≡ true
  slot_is_left k slots e = ap (λ o. option_map_or (λ (s : SlotOf D). is_none s.held) o false) e.found ∙ ap is_none e.empty

  -- where none is in use, every slot has a definition that no desk uses
  pub full_where_unused : (slots : List (SlotOf D)) → AreStocked stage [] slots → All (IsFull stage) slots
  full_where_unused [] stocked = All-nil (IsFull stage)
  full_where_unused (s ∷ ss) stocked = All-cons (IsFull stage) s ss (full (stocked zero)) (full_where_unused ss (λ k. stocked (suc k)))
    where
      full : IsUsedBy stage 0 (Some s) → IsFull stage s
      full (inl (none, h)) = h
      full (inr (one, empty)) = absurd (omega arith)

  -- a definition was taken out of its slot
  pub stocked_with : (ns : List ℕ) (kind : List ℕ) (loan : LoanOf D) (old left : List (SlotOf D)) → IsTaken stage kind loan old left → AreStocked stage ns old → AreStocked stage (ns ++ loan.slot ∷ []) left
  stocked_with ns kind loan old left took stocked k = ⊎_elim here away (cases_eq k loan.slot)
    where
      full : SlotOf D
      full = record { kind = kind; held = Some loan.definition }

      empty : SlotOf D
      empty = record { kind = kind; held = None }

      here : k ≡ loan.slot → IsUsedBy stage (uses k (ns ++ loan.slot ∷ [])) (slice_get left k)
      here e =
          let was : slice_get old k ≡ Some full = ap (slice_get old) e ∙ took.held in
          let none : uses k ns ≡ 0 = none_uses_full (uses k ns) full loan.definition refl (subst (IsUsedBy stage (uses k ns)) was (stocked k)) in
          let a = uses-append k ns loan.slot in
          let b = one_use k loan.slot (sym e) in
          let one : uses k (ns ++ loan.slot ∷ []) ≡ 1 = omega arith in
          let now : slice_get left k ≡ Some empty =
          ap (λ ss. slice_get ss k) took.left ∙ ap (slice_get (slice_set old loan.slot empty)) e ∙ get-set_same old loan.slot full empty took.held in
          subst (IsUsedBy stage (uses k (ns ++ loan.slot ∷ []))) (sym now) (inr (one, refl))

      away : (k ≡ loan.slot → ⊥) → IsUsedBy stage (uses k (ns ++ loan.slot ∷ [])) (slice_get left k)
      away ne =
          let a = uses-append k ns loan.slot in
          let b = no_use k loan.slot (λ e. ne (sym e)) in
          let same : uses k (ns ++ loan.slot ∷ []) ≡ uses k ns = omega arith in
          let now : slice_get left k ≡ slice_get old k = ap (λ ss. slice_get ss k) took.left ∙ get-set_other old loan.slot k _ ne in
          subst (IsUsedBy stage (uses k (ns ++ loan.slot ∷ []))) (sym now) (subst (λ n. IsUsedBy stage n (slice_get old k)) (sym same) (stocked k))

  -- what is known where an empty slot got a closed definition
  pub record Shut (loan : LoanOf D) (old new : List (SlotOf D)) : Type 0 where
    pub slot : SlotOf D
    pub found : slice_get old loan.slot ≡ Some slot
    pub empty : slot.held ≡ None
    pub back : new ≡ slice_set old loan.slot (holding (Some loan.definition) slot)
    pub here : slice_get new loan.slot ≡ Some (holding (Some loan.definition) slot)

  pub shut_facts : (loan : LoanOf D) (old new : List (SlotOf D)) → IsEmptyFor loan.slot old → IsPutBack loan old new → Shut loan old new
  shut_facts loan old new e put =
      let back : new ≡ slice_set old loan.slot (holding (Some loan.definition) e.slot) =
      subst (λ o. IfSome o (λ (s : SlotOf D). new ≡ slice_set old loan.slot (holding (Some loan.definition) s))) e.found put in
      record {
        slot = e.slot;
        found = e.found;
        empty = e.empty;
        back = back;
        here = ap (λ ss. slice_get ss loan.slot) back ∙ get-set_same old loan.slot e.slot _ e.found;
      }

  -- a closed definition of one that is no more went back into its slot
  pub stocked_without : (i : ℕ) (ns : List ℕ) (loan : LoanOf D) (old new : List (SlotOf D)) → slice_get ns i ≡ Some loan.slot
      → stage loan.definition ≡ Closed → IsPutBack loan old new → AreStocked stage ns old → AreStocked stage (remove ns i) new
  stocked_without i ns loan old new at closed put stocked k = ⊎_elim here away (cases_eq k loan.slot)
    where
      slot : IsEmptyFor loan.slot old × (uses loan.slot ns ≡ 1)
      slot = slot_of i ns loan.slot old at stocked

      shut : Shut loan old new
      shut = shut_facts loan old new slot.0 put

      here : k ≡ loan.slot → IsUsedBy stage (uses k (remove ns i)) (slice_get new k)
      here e =
          let one : uses k ns ≡ 1 = ap (λ n. uses n ns) e ∙ slot.1 in
          let a = uses-remove k i ns loan.slot at in
          let b = one_use k loan.slot (sym e) in
          let none : uses k (remove ns i) ≡ 0 = omega arith in
          subst (IsUsedBy stage (uses k (remove ns i))) (sym (ap (slice_get new) e ∙ shut.here)) (inl (none, (loan.definition, refl, inr closed)))

      away : (k ≡ loan.slot → ⊥) → IsUsedBy stage (uses k (remove ns i)) (slice_get new k)
      away ne =
          let a = uses-remove k i ns loan.slot at in
          let b = no_use k loan.slot (λ e. ne (sym e)) in
          let same : uses k (remove ns i) ≡ uses k ns = omega arith in
          subst (IsUsedBy stage (uses k (remove ns i))) (sym (ap (λ ss. slice_get ss k) shut.back ∙ get-set_other old loan.slot k _ ne))
          (subst (λ n. IsUsedBy stage n (slice_get old k)) (sym same) (stocked k))
