-- Menus that are made and ended: what the code does to its list, said of the menus as plain data.
use Rattle.std.proofs.Common.{◌≡◌, ℕ, ◌+◌, ◌≤◌, Bool, true, false, not, ◌||◌, List, [], ◌∷◌, ◌++◌, length, Option, None, Some, Result, Ok, Err, refl, sym, ap, ◌∙◌, subst, arith}
use Rattle.std.specs.Prelude.{ℤ, slice_get, nat_le, is_none, is_some}
use Rattle.std.specs.List.{remove}
use Rattle.std.specs.Option.{option_map}
use Rattle.std.proofs.lemmas.Bool.Decides.{nat_tests}
use Rattle.std.proofs.lemmas.List.{length-append}
use Rattle.tb_geom.specs.declared.refusal.Refusal.{Refusal}
use Rattle.tb_geom.specs.declared.refusal.Refusal.TheVariants.{NoDefinition, NoSuchMenu, NoSuchName, OutOfRange, TooLong, TooMany}
use Rattle.tb_geom.specs.Refusals.{first_refusal}
use Rattle.def_iface.specs.declared.window_def.Stage.TheVariants.{Live}
use Rattle.def_iface.specs.MenuMeaning.{MenuDefinition, MenuLoan}
use Rattle.def_iface.specs.Slots.{IsNotTaken, IsTaken, first_offer, has_kind, is_left, TakenBox}
use Rattle.menu_record.specs.declared.menu.Menu.{Menu}
use Rattle.menu_record.specs.Edits.{is_menu_id, new_menu}
use Rattle.menu_list.specs.declared.listed.Listed.{Listed}
use Rattle.menu_list.specs.Lists.{menu_index, without_highlight}
use Rattle.menu_list.specs.Seen.{seen}
use Rattle.menu_list.proofs.SeenLemmas.{length-seen, remove-seen, slice_get-seen}
use Rattle.desk_call.specs.declared.menu.NewMenu.{NewMenu}
use Rattle.desk_call.specs.declared.menu.MenuReply.{MenuReply}
use Rattle.desk_call.specs.declared.menu.MenuReply.TheVariants.{Done}
use Rattle.menu_list.specs.EditRefusals.{is_long_text, judged_refusals}
use Rattle.menu_list.proofs.SeenEdits.{is_no_menu-seen}
use Rattle.menu_mgr.specs.declared.menus.Menus.{Menus}
use Rattle.menu_mgr.specs.MakingSteps.{IsAsRoomy, IsEndedIfThere, IsListed, IsMade, IsMadeOrRefused}
use Rattle.menu_mgr.specs.MenuDesks.{MenuRecord, MenuSlot}
use Rattle.menu_mgr.specs.MenuRefusals.{menu_kind, new_refusals, none_is_left}
use Rattle.menu_mgr.specs.MenuSteps.{IsMenuShut}
use Rattle.menu_mgr.specs.WholeMenus.{AreLive, AreMenusStocked, menus_of, menus_state}
use Rattle.menu_mgr.proofs.Stocks.{live-at, slot_is_left, slot_of}

-- ---- why a menu is not made

-- its number is not one, or some menu has it
pub number_taken : (valid : Bool) (at : Option ℕ) (rest : List (Bool × Refusal)) → is_some at ≡ true
    → first_refusal ((not valid || not (is_none at), OutOfRange) ∷ rest) ≡ Some OutOfRange
number_taken valid None rest e = absurd (cc)
number_taken true (Some at) rest e = refl
number_taken false (Some at) rest e = refl

module _ (kind left a b c : Bool) where
  -- what is judged first is what refuses
  judged_first : (e : Refusal) → kind ≡ true → first_refusal ((a, OutOfRange) ∷ (b, TooLong) ∷ (c, TooMany) ∷ []) ≡ Some e
      → first_refusal ((not kind, NoSuchName) ∷ (a, OutOfRange) ∷ (b, TooLong) ∷ (c, TooMany) ∷ (left, NoDefinition) ∷ []) ≡ Some e
  judged_first e has judged = by_tests kind a b c has judged
    where
      by_tests : (kind a b c : Bool) → kind ≡ true → first_refusal ((a, OutOfRange) ∷ (b, TooLong) ∷ (c, TooMany) ∷ []) ≡ Some e
          → first_refusal ((not kind, NoSuchName) ∷ (a, OutOfRange) ∷ (b, TooLong) ∷ (c, TooMany) ∷ (left, NoDefinition) ∷ []) ≡ Some e
      by_tests false a b c has judged = absurd (cc)
      by_tests true true b c has judged = judged
      by_tests true false true c has judged = judged
      by_tests true false false true has judged = judged
      by_tests true false false false has judged = absurd (cc)

  -- and where that does not, what is left in the stock says it
  judged_last : (o : Option Refusal) → kind ≡ true → first_refusal ((a, OutOfRange) ∷ (b, TooLong) ∷ (c, TooMany) ∷ []) ≡ None → first_refusal ((left, NoDefinition) ∷ []) ≡ o
      → first_refusal ((not kind, NoSuchName) ∷ (a, OutOfRange) ∷ (b, TooLong) ∷ (c, TooMany) ∷ (left, NoDefinition) ∷ []) ≡ o
  judged_last o has judged last = by_tests kind a b c has judged ∙ last
    where
      by_tests : (kind a b c : Bool) → kind ≡ true → first_refusal ((a, OutOfRange) ∷ (b, TooLong) ∷ (c, TooMany) ∷ []) ≡ None
          → first_refusal ((not kind, NoSuchName) ∷ (a, OutOfRange) ∷ (b, TooLong) ∷ (c, TooMany) ∷ (left, NoDefinition) ∷ []) ≡ first_refusal ((left, NoDefinition) ∷ [])
      by_tests false a b c has judged = absurd (cc)
      by_tests true true b c has judged = absurd (cc)
      by_tests true false true c has judged = absurd (cc)
      by_tests true false false true has judged = absurd (cc)
      by_tests true false false false has judged = refl

few_of : (many : Bool) (kind a b left : Bool) → first_refusal ((not kind, NoSuchName) ∷ (a, OutOfRange) ∷ (b, TooLong) ∷ (many, TooMany) ∷ (left, NoDefinition) ∷ []) ≡ None → many ≡ false
few_of false kind a b left e = refl
few_of true kind a b left e = absurd (by_tests kind a b e)
  where
    by_tests : (kind a b : Bool) → first_refusal ((not kind, NoSuchName) ∷ (a, OutOfRange) ∷ (b, TooLong) ∷ (true, TooMany) ∷ (left, NoDefinition) ∷ []) ≡ None → ⊥
    by_tests false a b e = cc
    by_tests true true b e = cc
    by_tests true false true e = cc
    by_tests true false false e = cc

module _ {W : Type 0} {K : W → Type 0} (menu_loan : TakenBox W K → MenuLoan) where
  judged_seen : (n : NewMenu) (xs : List (Listed (TakenBox W K))) → judged_refusals n (menus_of menu_loan xs) ≡ judged_refusals n xs
  judged_seen n xs = λ i.
      (not (is_menu_id n.menu) || not (is_no_menu-seen menu_loan n.menu xs i), OutOfRange)
      ∷ (is_long_text n.title, TooLong)
      ∷ (nat_le 16 (length-seen menu_loan xs i), TooMany) ∷ []

  module _ (n : NewMenu) (m : Menus W K) (slots : List MenuSlot) (has : has_kind menu_kind slots ≡ true) where
    -- a menu is refused that may not be made
    pub refused_as_judged : (e : Refusal) → first_refusal (judged_refusals n m.list.menus.items) ≡ Some e → first_refusal (new_refusals n (menus_state menu_loan m slots)) ≡ Some e
    refused_as_judged e judged = judged_first (has_kind menu_kind slots) (none_is_left slots) _ _ _ e has (ap first_refusal (judged_seen n m.list.menus.items) ∙ judged)

    -- so is one for which the stock has nothing left
    pub refused_as_taken : (e : Refusal) → first_refusal (judged_refusals n m.list.menus.items) ≡ None → IsNotTaken (λ (d : MenuDefinition). d.stage) menu_kind slots e
        → first_refusal (new_refusals n (menus_state menu_loan m slots)) ≡ Some e
    refused_as_taken NoSuchName judged none = absurd (cc)
    refused_as_taken NoDefinition judged none = judged_last (has_kind menu_kind slots) (none_is_left slots) _ _ _ (Some NoDefinition) has
        (ap first_refusal (judged_seen n m.list.menus.items) ∙ judged) (ap (λ (o : Option ℕ). first_refusal ((is_none o, NoDefinition) ∷ [])) none.1)
    refused_as_taken _ judged none = absurd none

    -- else it is made
    pub made_where_left : (slot : ℕ) → first_refusal (judged_refusals n m.list.menus.items) ≡ None → first_offer (λ (d : MenuDefinition). d.stage) menu_kind slots ≡ Some slot
        → first_refusal (new_refusals n (menus_state menu_loan m slots)) ≡ None
    made_where_left slot judged first = judged_last (has_kind menu_kind slots) (none_is_left slots) _ _ _ None has
        (ap first_refusal (judged_seen n m.list.menus.items) ∙ judged) (ap (λ (o : Option ℕ). first_refusal ((is_none o, NoDefinition) ∷ [])) first)

  -- a refused call leaves menus and stock
  pub refused_made : (n : NewMenu) (m : Menus W K) (slots left : List MenuSlot) (r : Result MenuReply Refusal) (e : Refusal) → r ≡ Err e → left ≡ slots
      → first_refusal (new_refusals n (menus_state menu_loan m slots)) ≡ Some e → IsMadeOrRefused menu_loan n r m m slots left
  refused_made n m slots left r e is same why = subst (λ r. IsMadeOrRefused menu_loan n r m m slots left) (sym is) (why, refl, same)

  -- a menu was made
  pub as_made : (n : NewMenu) (m made : Menus W K) (slots left : List MenuSlot) (menu : Menu) (loan : MenuLoan) → menu ≡ new_menu n.menu n.title
      → IsTaken (λ (d : MenuDefinition). d.stage) menu_kind loan slots left → IsListed menu_loan menu loan m made → IsMade menu_loan n m made slots left
  as_made n m made slots left menu loan is taken listed = record {
    loan = loan;
    begun = listed.begun;
    taken = taken;
    live = listed.live;
    menus = listed.menus ∙ ap (λ menu. menus_of menu_loan m.list.menus.items ++ record { menu = menu; inserted = false; definition = record { definition = listed.begun; slot = loan.slot } } ∷ []) is;
    highlighted = listed.highlighted;
    same = listed.same;
  }

  -- there was room for one more
  pub one_more : (n : NewMenu) (m : Menus W K) (slots : List MenuSlot) (l : MenuRecord) → first_refusal (new_refusals n (menus_state menu_loan m slots)) ≡ None
      → length (menus_of menu_loan m.list.menus.items ++ l ∷ []) ≤ 16
  one_more n m slots l none =
      let few = few_of (nat_le 16 (length (menus_of menu_loan m.list.menus.items))) _ _ _ _ none in
      let more = length-append (menus_of menu_loan m.list.menus.items) (l ∷ []) in
      small (length (menus_of menu_loan m.list.menus.items)) (length (menus_of menu_loan m.list.menus.items ++ l ∷ [])) few more
    where
      small : (a b : ℕ) → nat_le 16 a ≡ false → b ≡ a + 1 → b ≤ 16
      small a b few more = grind (arith, nat_tests)

  -- ---- a menu that is ended

  module _ (xs : List (Listed (TakenBox W K))) (at : ℕ) (l : Listed (TakenBox W K)) (found : slice_get xs at ≡ Some l) where
    seen_at : slice_get (menus_of menu_loan xs) at ≡ Some (seen menu_loan l)
    seen_at = slice_get-seen menu_loan xs at ∙ ap (option_map (seen menu_loan)) found

    pub is_live : AreLive (menus_of menu_loan xs) → (menu_loan l.definition).definition.stage ≡ Live
    is_live live = live-at at (menus_of menu_loan xs) (seen menu_loan l) seen_at live

    pub is_left_at : (slots : List MenuSlot) → AreMenusStocked (menus_of menu_loan xs) slots → is_left (menu_loan l.definition).slot slots ≡ true
    is_left_at slots stocked = slot_is_left (menu_loan l.definition).slot slots (slot_of at (menus_of menu_loan xs) (seen menu_loan l) slots seen_at stocked).0

  pub ended : (id : ℤ) (at : ℕ) (l : Listed (TakenBox W K)) (old new : Menus W K) (slots after : List MenuSlot)
      → menu_index id old.list.menus.items ≡ Some at → slice_get old.list.menus.items at ≡ Some l → IsMenuShut (menu_loan l.definition) slots after
      → new.list.menus.items ≡ remove old.list.menus.items at → new.list.highlighted ≡ without_highlight l.menu.id old.list.highlighted → IsAsRoomy old new
      → IsEndedIfThere menu_loan (menu_index id old.list.menus.items) (Ok Done) old new slots after
  ended id at l old new slots after is found shut menus lit same =
      subst (λ o. IsEndedIfThere menu_loan o (Ok Done) old new slots after) (sym is) (
        refl,
        record {
          listed = seen menu_loan l;
          found = seen_at old.list.menus.items at l found;
          shut = shut;
          menus = ap (menus_of menu_loan) menus ∙ remove-seen menu_loan old.list.menus.items at;
          highlighted = lit;
          same = same;
        },
      )

  pub not_there : (id : ℤ) (old new : Menus W K) (slots after : List MenuSlot) → menu_index id old.list.menus.items ≡ None → new ≡ old → after ≡ slots
      → IsEndedIfThere menu_loan (menu_index id old.list.menus.items) (Err NoSuchMenu) old new slots after
  not_there id old new slots after is same left = subst (λ o. IsEndedIfThere menu_loan o (Err NoSuchMenu) old new slots after) (sym is) (refl, same, left)
