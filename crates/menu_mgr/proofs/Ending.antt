-- The menus of a desk are put away, from the last to the first.
use Rattle.std.proofs.Common.{◌≡◌, ⊎_elim, inl, inr, ℕ, ◌+◌, true, get_or, List, [], ◌∷◌, ◌++◌, length, map, Some, None, refl, sym, ap, ◌∙◌, subst, arith}
use Rattle.std.specs.Prelude.{slice_get}
use Rattle.std.proofs.lemmas.Bool.{cases_eq}
use Rattle.std.proofs.lemmas.List.Elements.{All-nil, All-push}
use Rattle.std.proofs.lemmas.Option.{slice_get-get_or}
use Rattle.def_iface.specs.declared.window_def.Stage.TheVariants.{Live}
use Rattle.def_iface.specs.MenuMeaning.{MenuLoan}
use Rattle.def_iface.specs.Slots.{is_left, TakenBox}
use Rattle.def_iface.specs.Stocks.{IsMenuFull}
use Rattle.menu_list.specs.declared.listed.Listed.{Listed}
use Rattle.menu_list.specs.Seen.{seen}
use Rattle.menu_list.proofs.SeenLemmas.{append-seen}
use Rattle.window_mgr.proofs.SlotLemmas.{get-set_other, map-set}
use Rattle.menu_mgr.specs.MenuClosing.{IsMenuClosedAt, AreMenusClosed}
use Rattle.menu_mgr.specs.MenuDesks.{MenuRecord, MenuSlot}
use Rattle.menu_mgr.specs.MenuSteps.{IsMenuShut}
use Rattle.menu_mgr.specs.WholeMenus.{uses, IsUsedBy, AreMenusStocked, AreLive, menus_of}
use Rattle.menu_mgr.proofs.Stocks.{use_of, uses-append, live-front, IsEmptyFor, slot_of, slot_is_left, Shut, shut_facts, shut_is_full, stocked_without}

last_get : (xs : List MenuRecord) (l : MenuRecord) → slice_get (xs ++ l ∷ []) (length xs) ≡ Some l
last_get [] l = refl
last_get (x ∷ xs) l = last_get xs l

last_first : (xs : List MenuRecord) (l : MenuRecord) (k : ℕ) → uses k (xs ++ l ∷ []) ≡ use_of k l + uses k xs
last_first xs l k = let a = uses-append k xs l in omega arith

-- of all menus these are left to put away
pub record IsUnderWay (all left : List MenuRecord) (old now : List MenuSlot) : Type 0 where
  pub live : AreLive left
  pub stocked : AreMenusStocked left now
  pub rest : (final : List MenuSlot) → AreMenusClosed left now final → AreMenusClosed all old final

pub begins : (all : List MenuRecord) (old : List MenuSlot) → AreLive all → AreMenusStocked all old → IsUnderWay all all old old
begins all old live stocked = record { live = live; stocked = stocked; rest = λ final c. c }

closed_none : (slots : List MenuSlot) → AreMenusStocked [] slots → AreMenusClosed [] slots slots
closed_none slots stocked = record {
  ended = record {
    kinds = refl;
    others = λ k s e h. e;
    closed = All-nil (IsMenuClosedAt slots);
  };
  full = λ k d low. full (get_or slots k d) (subst (IsUsedBy 0) (slice_get-get_or slots k d low) (stocked k));
}
  where
    full : (s : MenuSlot) → IsUsedBy 0 (Some s) → IsMenuFull s
    full s (inl (none, h)) = h
    full s (inr (one, empty)) = absurd (omega arith)

pub ends : (all : List MenuRecord) (old now : List MenuSlot) → IsUnderWay all [] old now → AreMenusClosed all old now
ends all old now under = under.rest now (closed_none now under.stocked)

module _ (all xs : List MenuRecord) (l : MenuRecord) (old now : List MenuSlot) (under : IsUnderWay all (xs ++ l ∷ []) old now) where
  slot : IsEmptyFor l.definition.slot now × (uses l.definition.slot (xs ++ l ∷ []) ≡ 1)
  slot = slot_of (length xs) (xs ++ l ∷ []) l now (last_get xs l) under.stocked

  pub last_is_live : l.definition.definition.stage ≡ Live
  last_is_live = (live-front xs l under.live).1

  pub last_is_left : is_left l.definition.slot now ≡ true
  last_is_left = slot_is_left l.definition.slot now slot.0

  pub goes_on : (new : List MenuSlot) → IsMenuShut l.definition now new → IsUnderWay all xs old new
  goes_on new is_shut = record {
    live = (live-front xs l under.live).0;
    stocked = stocked_without (length xs) (xs ++ l ∷ []) xs l now new (last_get xs l) (last_first xs l) is_shut under.stocked;
    rest = λ final c. under.rest final (record {
      full = c.full;
      ended = record {
        kinds = c.ended.kinds ∙ ap (map (λ (s : MenuSlot). s.kind)) shut.back ∙ map-set (λ (s : MenuSlot). s.kind) now l.definition.slot shut.slot _ shut.found refl;
        others = others final c;
        closed = All-push (IsMenuClosedAt final) xs l c.ended.closed (_, c.ended.others l.definition.slot _ shut.here (shut_is_full is_shut.definition shut.slot shut.closed), (is_shut.definition, refl, is_shut.closed, is_shut.look));
      };
    });
  }
    where
      shut : Shut l.definition now new is_shut.definition
      shut = shut_facts l.definition now new is_shut

      others : (final : List MenuSlot) → AreMenusClosed xs new final → (k : ℕ) (s : MenuSlot) → slice_get now k ≡ Some s → IsMenuFull s → slice_get final k ≡ Some s
      others final c k s e full = ⊎_elim
          (λ at. absurd (
          let same : Some shut.slot ≡ Some s = sym shut.found ∙ ap (slice_get now) (sym at) ∙ e in
          let is : shut.slot ≡ s = cc in
          let none : None ≡ Some full.0 = sym shut.empty ∙ ap (λ (t : MenuSlot). t.held) is ∙ full.1 in
          cc))
          (λ away. c.ended.others k s (ap (λ ss. slice_get ss k) shut.back ∙ get-set_other now l.definition.slot k _ away ∙ e) full)
          (cases_eq k l.definition.slot)

-- the last of the menus that the code keeps is the last of those that are seen
pub popped : {W : Type 0} {K : W → Type 0} (menu_loan : TakenBox W K → MenuLoan) (all : List MenuRecord) (xs rest : List (Listed (TakenBox W K))) (l : Listed (TakenBox W K)) (old now : List MenuSlot)
    → IsUnderWay all (menus_of menu_loan xs) old now → xs ≡ rest ++ l ∷ [] → IsUnderWay all (menus_of menu_loan rest ++ seen menu_loan l ∷ []) old now
popped menu_loan all xs rest l old now under parts =
    subst (λ ys. IsUnderWay all ys old now) (ap (menus_of menu_loan) parts ∙ append-seen menu_loan rest (l ∷ [])) under

-- none of them is left
pub ended_all : {W : Type 0} {K : W → Type 0} (menu_loan : TakenBox W K → MenuLoan) (all : List MenuRecord) (xs : List (Listed (TakenBox W K))) (old now : List MenuSlot)
    → length xs ≡ 0 → IsUnderWay all (menus_of menu_loan xs) old now → AreMenusClosed all old now
ended_all menu_loan all [] old now none under = ends all old now under
ended_all menu_loan all (x ∷ xs) old now none under = absurd (omega arith)
