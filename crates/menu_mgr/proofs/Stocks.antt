-- Which menus have their definitions from which slots, and that these are live, where menus are put, moved and taken out.
use Rattle.std.proofs.Common.{◌≡◌, ⊎_elim, inl, inr, ℕ, zero, suc, ◌+◌, ◌≤◌, Bool, true, false, cond, ◌==◌, if◌then◌else◌, List, [], ◌∷◌, ◌++◌, Option, Some, None, refl, sym, ap, ◌∙◌, subst, arith}
use Rattle.std.specs.Prelude.{All, ℤ, slice_get, slice_set, is_none, IfSome}
use Rattle.std.specs.List.{remove}
use Rattle.std.specs.Option.{option_map_or}
use Rattle.std.proofs.lemmas.Bool.{cases_eq}
use Rattle.std.proofs.lemmas.Bool.Decides.{nat_tests}
use Rattle.std.proofs.lemmas.List.Elements.{All-head, All-tail}
use Rattle.def_iface.specs.declared.window_def.Stage.TheVariants.{Live, Closed}
use Rattle.def_iface.specs.MenuMeaning.{MenuDefinition, MenuLoan}
use Rattle.def_iface.specs.Slots.{IsFull, IsTaken, holding, is_left}
use Rattle.def_iface.specs.Stocks.{IsMenuFull}
use Rattle.menu_list.specs.Lists.{edit_at, has_number, moved_before, put_before, with_inserted}
use Rattle.window_mgr.proofs.SlotLemmas.{get-set_same, get-set_other}
use Rattle.menu_mgr.specs.MenuDesks.{MenuRecord, MenuSlot}
use Rattle.menu_mgr.specs.MenuRefusals.{menu_kind}
use Rattle.menu_mgr.specs.MenuSteps.{IsMenuShut}
use Rattle.menu_mgr.specs.WholeMenus.{uses, IsUsedBy, AreMenusStocked, AreLive}

-- how many times a menu uses a slot
abbrev pub use_of : ℕ → MenuRecord → ℕ
use_of k l = if l.definition.slot == k then 1 else 0

pub uses-append : (k : ℕ) (xs : List MenuRecord) (l : MenuRecord) → uses k (xs ++ l ∷ []) ≡ uses k xs + use_of k l
uses-append k [] l = omega arith
uses-append k (x ∷ xs) l = let h = uses-append k xs l in omega arith

pub uses-remove : (k i : ℕ) (xs : List MenuRecord) (l : MenuRecord) → slice_get xs i ≡ Some l → uses k xs ≡ use_of k l + uses k (remove xs i)
uses-remove k i [] l e = absurd (cc)
uses-remove k zero (x ∷ xs) l e = let same : x ≡ l = cc in ap (λ y. use_of k y + uses k xs) same
uses-remove k (suc i) (x ∷ xs) l e = let h = uses-remove k i xs l e in omega arith

uses-put : (k : ℕ) (before : ℤ) (l : MenuRecord) (xs : List MenuRecord) → uses k (put_before before l xs) ≡ use_of k l + uses k xs
uses-put k before l [] = refl
uses-put k before l (x ∷ xs) = by_test (has_number before x) (uses-put k before l xs)
  where
    by_test : (b : Bool) → uses k (put_before before l xs) ≡ use_of k l + uses k xs → uses k (cond b (l ∷ x ∷ xs) (x ∷ put_before before l xs)) ≡ use_of k l + uses k (x ∷ xs)
    by_test true h = refl
    by_test false h = omega arith

pub uses-moved : (k : ℕ) (before : ℤ) (i : ℕ) (xs : List MenuRecord) → uses k (moved_before before i xs) ≡ uses k xs
uses-moved k before i xs = by_get (slice_get xs i) refl
  where
    by_get : (o : Option MenuRecord) → slice_get xs i ≡ o → uses k (option_map_or (λ l. put_before before (with_inserted true l) (remove xs i)) o xs) ≡ uses k xs
    by_get None e = refl
    by_get (Some l) e = uses-put k before (with_inserted true l) (remove xs i) ∙ sym (uses-remove k i xs l e)

pub uses-edit : (k : ℕ) (f : MenuRecord → MenuRecord) → ((l : MenuRecord) → (f l).definition.slot ≡ l.definition.slot) → (i : ℕ) (xs : List MenuRecord) → uses k (edit_at f i xs) ≡ uses k xs
uses-edit k f same i [] = refl
uses-edit k f same zero (x ∷ xs) = ap (λ s. (if s == k then 1 else 0) + uses k xs) (same x)
uses-edit k f same (suc i) (x ∷ xs) = ap (λ n. use_of k x + n) (uses-edit k f same i xs)

-- menus that use the same slots are stocked as well
pub stocked_alike : (xs ys : List MenuRecord) (slots : List MenuSlot) → ((k : ℕ) → uses k ys ≡ uses k xs) → AreMenusStocked xs slots → AreMenusStocked ys slots
stocked_alike xs ys slots same stocked k = subst (λ n. IsUsedBy n (slice_get slots k)) (sym (same k)) (stocked k)

-- ---- live

pub live-append : (xs : List MenuRecord) (l : MenuRecord) → AreLive xs → l.definition.definition.stage ≡ Live → AreLive (xs ++ l ∷ [])
live-append [] l h e = (e, tt)
live-append (x ∷ xs) l h e = (h.0, live-append xs l h.1 e)

pub live-front : (xs : List MenuRecord) (l : MenuRecord) → AreLive (xs ++ l ∷ []) → AreLive xs × (l.definition.definition.stage ≡ Live)
live-front [] l h = (tt, h.0)
live-front (x ∷ xs) l h = let rest = live-front xs l h.1 in ((h.0, rest.0), rest.1)

pub live-at : (i : ℕ) (xs : List MenuRecord) (l : MenuRecord) → slice_get xs i ≡ Some l → AreLive xs → l.definition.definition.stage ≡ Live
live-at i [] l e h = absurd (cc)
live-at zero (x ∷ xs) l e h = let same : x ≡ l = cc in subst (λ (y : MenuRecord). y.definition.definition.stage ≡ Live) same h.0
live-at (suc i) (x ∷ xs) l e h = live-at i xs l e h.1

pub live-remove : (i : ℕ) (xs : List MenuRecord) → AreLive xs → AreLive (remove xs i)
live-remove i [] h = none i
  where
    none : (i : ℕ) → AreLive (remove [] i)
    none zero = tt
    none (suc i) = tt
live-remove zero (x ∷ xs) h = h.1
live-remove (suc i) (x ∷ xs) h = (h.0, live-remove i xs h.1)

live-put : (before : ℤ) (l : MenuRecord) (xs : List MenuRecord) → l.definition.definition.stage ≡ Live → AreLive xs → AreLive (put_before before l xs)
live-put before l [] e h = (e, tt)
live-put before l (x ∷ xs) e h = by_test (has_number before x) (live-put before l xs e h.1)
  where
    by_test : (b : Bool) → AreLive (put_before before l xs) → AreLive (cond b (l ∷ x ∷ xs) (x ∷ put_before before l xs))
    by_test true rest = (e, h)
    by_test false rest = (h.0, rest)

pub live-moved : (before : ℤ) (i : ℕ) (xs : List MenuRecord) → AreLive xs → AreLive (moved_before before i xs)
live-moved before i xs h = by_get (slice_get xs i) refl
  where
    by_get : (o : Option MenuRecord) → slice_get xs i ≡ o → AreLive (option_map_or (λ l. put_before before (with_inserted true l) (remove xs i)) o xs)
    by_get None e = h
    by_get (Some l) e = live-put before (with_inserted true l) (remove xs i) (live-at i xs l e h) (live-remove i xs h)

pub live-edit : (f : MenuRecord → MenuRecord) → ((l : MenuRecord) → l.definition.definition.stage ≡ Live → (f l).definition.definition.stage ≡ Live) → (i : ℕ) (xs : List MenuRecord) → AreLive xs → AreLive (edit_at f i xs)
live-edit f keeps i [] h = tt
live-edit f keeps zero (x ∷ xs) h = (keeps x h.0, h.1)
live-edit f keeps (suc i) (x ∷ xs) h = (h.0, live-edit f keeps i xs h.1)

-- ---- slots

-- no menu uses a slot of a stock whose slots are full
pub stocked_by_full : (kept : List MenuSlot) → All IsMenuFull kept → AreMenusStocked [] kept
stocked_by_full [] full k = refl
stocked_by_full (s ∷ ss) full zero = inl (refl, All-head IsMenuFull s ss full)
stocked_by_full (s ∷ ss) full (suc k) = stocked_by_full ss (All-tail IsMenuFull s ss full) k

-- a slot with a definition in it is used by no menu
none_uses_full : (n : ℕ) (s : MenuSlot) (d : MenuDefinition) → s.held ≡ Some d → IsUsedBy n (Some s) → n ≡ 0
none_uses_full n s d held (inl (none, full)) = none
none_uses_full n s d held (inr (one, empty)) = absurd (cc)

-- a slot that is used is there, and empty
pub record IsEmptyFor (k : ℕ) (slots : List MenuSlot) : Type 0 where
  pub slot : MenuSlot
  pub found : slice_get slots k ≡ Some slot
  pub empty : slot.held ≡ None

used_is_empty : (k n : ℕ) (slots : List MenuSlot) (o : Option MenuSlot) → slice_get slots k ≡ o → IsUsedBy n o → 1 ≤ n → IsEmptyFor k slots × (n ≡ 1)
used_is_empty k n slots None at used some = absurd (omega arith)
used_is_empty k n slots (Some s) at (inl (none, full)) some = absurd (omega arith)
used_is_empty k n slots (Some s) at (inr (one, empty)) some = (record { slot = s; found = at; empty = empty }, one)

one_use : (k : ℕ) (l : MenuRecord) → l.definition.slot ≡ k → use_of k l ≡ 1
one_use k l e = ap (λ (b : Bool). if b then 1 else 0) (same l.definition.slot k e)
  where
    same : (m n : ℕ) → m ≡ n → (m == n) ≡ true
    same m n e = grind (arith, nat_tests)

no_use : (k : ℕ) (l : MenuRecord) → (l.definition.slot ≡ k → ⊥) → use_of k l ≡ 0
no_use k l e = ap (λ (b : Bool). if b then 1 else 0) (other l.definition.slot k e)
  where
    other : (m n : ℕ) → (m ≡ n → ⊥) → (m == n) ≡ false
    other m n e = grind (arith, nat_tests)

-- a menu's slot is there, and empty, and no other menu's
pub slot_of : (i : ℕ) (xs : List MenuRecord) (l : MenuRecord) (slots : List MenuSlot) → slice_get xs i ≡ Some l → AreMenusStocked xs slots → IsEmptyFor l.definition.slot slots × (uses l.definition.slot xs ≡ 1)
slot_of i xs l slots at stocked =
    let k = l.definition.slot in
    let a = uses-remove k i xs l at in
    let b = one_use k l refl in
    let some : 1 ≤ uses k xs = omega arith in
    used_is_empty k (uses k xs) slots (slice_get slots k) refl (stocked k) some

pub slot_is_left : (k : ℕ) (slots : List MenuSlot) → IsEmptyFor k slots → is_left k slots ≡ true
slot_is_left k slots e =
    ap (λ o. option_map_or (λ (s : MenuSlot). is_none s.held) o false) e.found ∙ ap is_none e.empty

empty_where_left : (k : ℕ) (slots : List MenuSlot) → is_left k slots ≡ true → IsEmptyFor k slots
empty_where_left k slots left = by_slot (slice_get slots k) refl left
  where
    held_none : (o : Option MenuDefinition) → is_none o ≡ true → o ≡ None
    held_none None e = refl
    held_none (Some d) e = absurd (cc)

    by_slot : (o : Option MenuSlot) → slice_get slots k ≡ o → option_map_or (λ (s : MenuSlot). is_none s.held) o false ≡ true → IsEmptyFor k slots
    by_slot None at e = absurd (cc)
    by_slot (Some s) at e = record { slot = s; found = at; empty = held_none s.held e }

-- the definition of a new menu was taken out of its slot
pub stocked_with : (xs : List MenuRecord) (l : MenuRecord) (loan : MenuLoan) (old left : List MenuSlot) → l.definition.slot ≡ loan.slot
    → IsTaken (λ (d : MenuDefinition). d.stage) menu_kind loan old left → AreMenusStocked xs old → AreMenusStocked (xs ++ l ∷ []) left
stocked_with xs l loan old left slot took stocked k = ⊎_elim here away (cases_eq k loan.slot)
  where
    here : k ≡ loan.slot → IsUsedBy (uses k (xs ++ l ∷ [])) (slice_get left k)
    here e =
        let was : slice_get old k ≡ Some (record { kind = menu_kind; held = Some loan.definition }) = ap (slice_get old) e ∙ took.held in
        let none : uses k xs ≡ 0 = none_uses_full (uses k xs) (record { kind = menu_kind; held = Some loan.definition }) loan.definition refl (subst (IsUsedBy (uses k xs)) was (stocked k)) in
        let a = uses-append k xs l in
        let b = one_use k l (slot ∙ sym e) in
        let one : uses k (xs ++ l ∷ []) ≡ 1 = omega arith in
        let now : slice_get left k ≡ Some (record { kind = menu_kind; held = None }) =
        ap (λ ss. slice_get ss k) took.left ∙ ap (slice_get (slice_set old loan.slot (record { kind = menu_kind; held = None }))) e
        ∙ get-set_same old loan.slot (record { kind = menu_kind; held = Some loan.definition }) (record { kind = menu_kind; held = None }) took.held in
        subst (IsUsedBy (uses k (xs ++ l ∷ []))) (sym now) (inr (one, refl))

    away : (k ≡ loan.slot → ⊥) → IsUsedBy (uses k (xs ++ l ∷ [])) (slice_get left k)
    away ne =
        let a = uses-append k xs l in
        let b = no_use k l (λ e. ne (sym e ∙ slot)) in
        let same : uses k (xs ++ l ∷ []) ≡ uses k xs = omega arith in
        let now : slice_get left k ≡ slice_get old k = ap (λ ss. slice_get ss k) took.left ∙ get-set_other old loan.slot k _ ne in
        subst (IsUsedBy (uses k (xs ++ l ∷ []))) (sym now) (subst (λ n. IsUsedBy n (slice_get old k)) (sym same) (stocked k))

-- what is known where an empty slot got a closed definition
pub record Shut (loan : MenuLoan) (old new : List MenuSlot) (definition : MenuDefinition) : Type 0 where
  pub slot : MenuSlot
  pub found : slice_get old loan.slot ≡ Some slot
  pub empty : slot.held ≡ None
  pub closed : definition.stage ≡ Closed
  pub back : new ≡ slice_set old loan.slot (holding (Some definition) slot)
  pub here : slice_get new loan.slot ≡ Some (holding (Some definition) slot)

pub shut_facts : (loan : MenuLoan) (old new : List MenuSlot) → (shut : IsMenuShut loan old new) → Shut loan old new shut.definition
shut_facts loan old new shut =
    let e : IsEmptyFor loan.slot old = empty_where_left loan.slot old shut.left in
    let back : new ≡ slice_set old loan.slot (holding (Some shut.definition) e.slot) =
    subst (λ o. IfSome o (λ (s : MenuSlot). new ≡ slice_set old loan.slot (holding (Some shut.definition) s))) e.found shut.back in
    record {
      slot = e.slot;
      found = e.found;
      empty = e.empty;
      closed = shut.closed;
      back = back;
      here = ap (λ ss. slice_get ss loan.slot) back ∙ get-set_same old loan.slot e.slot _ e.found;
    }

pub shut_is_full : (d : MenuDefinition) (s : MenuSlot) → d.stage ≡ Closed → IsFull (λ (x : MenuDefinition). x.stage) (holding (Some d) s)
shut_is_full d s closed = (d, refl, inr closed)

-- the definition of a menu that is no more went back into its slot
pub stocked_without : (i : ℕ) (xs rest : List MenuRecord) (l : MenuRecord) (old new : List MenuSlot) → slice_get xs i ≡ Some l
    → ((k : ℕ) → uses k xs ≡ use_of k l + uses k rest) → IsMenuShut l.definition old new → AreMenusStocked xs old → AreMenusStocked rest new
stocked_without i xs rest l old new at parts is_shut stocked k = ⊎_elim here away (cases_eq k l.definition.slot)
  where
    slot : IsEmptyFor l.definition.slot old × (uses l.definition.slot xs ≡ 1)
    slot = slot_of i xs l old at stocked

    shut : Shut l.definition old new is_shut.definition
    shut = shut_facts l.definition old new is_shut

    here : k ≡ l.definition.slot → IsUsedBy (uses k rest) (slice_get new k)
    here e =
        let one : uses k xs ≡ 1 = ap (λ n. uses n xs) e ∙ slot.1 in
        let a = parts k in
        let b = one_use k l (sym e) in
        let none : uses k rest ≡ 0 = omega arith in
        subst (IsUsedBy (uses k rest)) (sym (ap (slice_get new) e ∙ shut.here)) (inl (none, shut_is_full is_shut.definition shut.slot shut.closed))

    away : (k ≡ l.definition.slot → ⊥) → IsUsedBy (uses k rest) (slice_get new k)
    away ne =
        let a = parts k in
        let b = no_use k l (λ e. ne (sym e)) in
        let same : uses k rest ≡ uses k xs = omega arith in
        subst (IsUsedBy (uses k rest)) (sym (ap (λ ss. slice_get ss k) shut.back ∙ get-set_other old l.definition.slot k _ ne))
        (subst (λ n. IsUsedBy n (slice_get old k)) (sym same) (stocked k))
