-- Items that are put away one after another, as controls or lists: those of a window, the youngest first, and all of a desk, from the
-- last to the first.
use Rattle.std.proofs.Common.{◌≡◌, ⊎_elim, inr, ℕ, true, List, [], ◌∷◌, ◌++◌, length, map, Some, None, refl, sym, ap, ◌∙◌, subst, arith}
use Rattle.std.specs.Prelude.{All, Contains, option_to_list, slice_get}
use Rattle.std.specs.List.{remove}
use Rattle.std.specs.Option.{option_map}
use Rattle.std.proofs.lemmas.Bool.{cases_eq}
use Rattle.std.proofs.lemmas.List.Elements.{All-contains_itself, All-nil, All-push}
use Rattle.std.proofs.lemmas.Option.{slice_get-map}
use Rattle.window_items.specs.declared.item.Item.{Item}
use Rattle.window_items.specs.Items.{AreApart, items_of, without_youngest, youngest_of}
use Rattle.window_items.specs.Seen.{all_seen, seen}
use Rattle.window_items.proofs.EditLemmas.{All-remove, All-there, map-remove}
use Rattle.window_items.proofs.SeenLemmas.{append-seen}
use Rattle.window_items.proofs.SerialLemmas.{apart-remove}
use Rattle.window_items.proofs.WindowLemmas.{items_of-without_youngest, items_of-without_youngest_other}
use Rattle.window_items.proofs.YoungestLemmas.{no_youngest, youngest_at}
use Rattle.def_iface.specs.declared.window_def.Stage.{Stage}
use Rattle.def_iface.specs.declared.window_def.Stage.TheVariants.{Live}
use Rattle.def_iface.specs.Closing.{IsShut}
use Rattle.def_iface.specs.Slots.{IsFull, LoanOf, SlotOf, is_left}
use Rattle.window_mgr.proofs.SlotLemmas.{get-set_other, map-set}
use Rattle.control_mgr.specs.InUse.{AreStocked}
use Rattle.control_mgr.specs.ItemsClosing.{AreAllClosed, AreClosed, AreLeft, AreLive, IsClosedAt, ItemsState, slots_of}
use Rattle.control_mgr.proofs.Stocks.{IsEmptyFor, Shut, full_where_unused, shut_facts, slot_is_left, slot_of, stocked_without}

module _ {D K : Type 0} (loan : K → LoanOf D) (stage : D → Stage) (IsAlike : D → D → Type 0) where
  -- ---- one item is put away

  -- the item at a place, of those whose slots are empty
  module _ (xs : List (Item K)) (i : ℕ) (x : Item K) (there : slice_get xs i ≡ Some x) (now : List (SlotOf D)) (stocked : AreStocked stage (slots_of loan xs) now) where
    its_number : slice_get (slots_of loan xs) i ≡ Some (loan x.kept).slot
    its_number = slice_get-map (λ (y : Item K). (loan y.kept).slot) xs i ∙ ap (option_map (λ (y : Item K). (loan y.kept).slot)) there

    its_slot : IsEmptyFor stage (loan x.kept).slot now
    its_slot = (slot_of stage i (slots_of loan xs) (loan x.kept).slot now its_number stocked).0

    pub is_left_there : is_left (loan x.kept).slot now ≡ true
    is_left_there = slot_is_left stage (loan x.kept).slot now its_slot

    stocked_then : (new : List (SlotOf D)) → IsShut stage IsAlike (loan x.kept) now new → AreStocked stage (slots_of loan (remove xs i)) new
    stocked_then new is_shut =
        subst (λ ns. AreStocked stage ns new) (sym (map-remove (λ (y : Item K). (loan y.kept).slot) i xs))
        (stocked_without stage i (slots_of loan xs) (record { definition = is_shut.definition; slot = (loan x.kept).slot }) now new its_number is_shut.closed is_shut.back stocked)

  -- it is closed with those that are put away afterwards
  closed_more : (xs : List (Item K)) (x : Item K) (now new final : List (SlotOf D)) → IsEmptyFor stage (loan x.kept).slot now → IsShut stage IsAlike (loan x.kept) now new
      → AreClosed loan stage IsAlike xs new final → AreClosed loan stage IsAlike (xs ++ x ∷ []) now final
  closed_more xs x now new final slot is_shut closed = record {
    kinds = closed.kinds ∙ ap (map (λ (s : SlotOf D). s.kind)) shut.back ∙ map-set (λ (s : SlotOf D). s.kind) now (loan x.kept).slot shut.slot _ shut.found refl;
    others = others;
    closed = All-push (IsClosedAt loan stage IsAlike final) xs x closed.closed
        (_, closed.others (loan x.kept).slot _ shut.here (is_shut.definition, refl, inr is_shut.closed), (is_shut.definition, refl, is_shut.closed, is_shut.look));
  }
    where
      shut : Shut stage (record { definition = is_shut.definition; slot = (loan x.kept).slot }) now new
      shut = shut_facts stage (record { definition = is_shut.definition; slot = (loan x.kept).slot }) now new slot is_shut.back

      others : (k : ℕ) (s : SlotOf D) → slice_get now k ≡ Some s → IsFull stage s → slice_get final k ≡ Some s
      others k s e full = ⊎_elim
          (λ at. absurd (
          let same : Some shut.slot ≡ Some s = sym shut.found ∙ ap (slice_get now) (sym at) ∙ e in
          let is : shut.slot ≡ s = cc in
          let none : None ≡ Some full.0 = sym shut.empty ∙ ap (λ (t : SlotOf D). t.held) is ∙ full.1 in
          cc))
          (λ away. closed.others k s (ap (λ ss. slice_get ss k) shut.back ∙ get-set_other now (loan x.kept).slot k _ away ∙ e) full)
          (cases_eq k (loan x.kept).slot)

  closed_none : (slots : List (SlotOf D)) → AreClosed loan stage IsAlike [] slots slots
  closed_none slots = record { kinds = refl; others = λ k s e full. e; closed = All-nil (IsClosedAt loan stage IsAlike slots) }

  -- ---- all of them

  last_there : (xs : List (Item K)) (x : Item K) → slice_get (xs ++ x ∷ []) (length xs) ≡ Some x
  last_there [] x = refl
  last_there (y ∷ ys) x = last_there ys x

  without_last : (xs : List (Item K)) (x : Item K) → remove (xs ++ x ∷ []) (length xs) ≡ xs
  without_last [] x = refl
  without_last (y ∷ ys) x = ap (λ zs. y ∷ zs) (without_last ys x)

  -- of all items these are left to put away
  pub record AreBeingEnded (all left : List (Item K)) (old now : List (SlotOf D)) : Type 0 where
    pub live : AreLive loan stage left
    pub stocked : AreStocked stage (slots_of loan left) now
    pub rest : (final : List (SlotOf D)) → AreClosed loan stage IsAlike left now final → AreClosed loan stage IsAlike all old final

  pub end_begins : (all : List (Item K)) (old : List (SlotOf D)) → AreLive loan stage all → AreStocked stage (slots_of loan all) old → AreBeingEnded all all old old
  end_begins all old live stocked = record { live = live; stocked = stocked; rest = λ final c. c }

  module _ (all xs : List (Item K)) (x : Item K) (old now : List (SlotOf D)) (under : AreBeingEnded all (xs ++ x ∷ []) old now) where
    pub last_is_live : stage (loan x.kept).definition ≡ Live
    last_is_live = All-there (λ (y : Item K). stage (loan y.kept).definition ≡ Live) (length xs) (xs ++ x ∷ []) x (last_there xs x) under.live

    pub last_is_left : is_left (loan x.kept).slot now ≡ true
    last_is_left = is_left_there (xs ++ x ∷ []) (length xs) x (last_there xs x) now under.stocked

    pub end_goes_on : (new : List (SlotOf D)) → IsShut stage IsAlike (loan x.kept) now new → AreBeingEnded all xs old new
    end_goes_on new is_shut = record {
      live = subst (AreLive loan stage) (without_last xs x) (All-remove (λ (y : Item K). stage (loan y.kept).definition ≡ Live) (length xs) (xs ++ x ∷ []) under.live);
      stocked = subst (λ ys. AreStocked stage (slots_of loan ys) new) (without_last xs x) (stocked_then (xs ++ x ∷ []) (length xs) x (last_there xs x) now under.stocked new is_shut);
      rest = λ final closed. under.rest final (closed_more xs x now new final (its_slot (xs ++ x ∷ []) (length xs) x (last_there xs x) now under.stocked) is_shut closed);
    }

  -- the last of the items that the code keeps is the last of those that are seen
  pub popped : {S : Type 0} (meaning : S → K) (all : List (Item K)) (xs rest : List (Item S)) (x : Item S) (old now : List (SlotOf D))
      → AreBeingEnded all (all_seen meaning xs) old now → xs ≡ rest ++ x ∷ [] → AreBeingEnded all (all_seen meaning rest ++ seen meaning x ∷ []) old now
  popped meaning all xs rest x old now under parts =
      subst (λ ys. AreBeingEnded all ys old now) (ap (all_seen meaning) parts ∙ append-seen meaning rest (x ∷ [])) under

  -- none of them is left
  pub all_ended : {S : Type 0} (meaning : S → K) (all : List (Item K)) (xs : List (Item S)) (old now : List (SlotOf D))
      → length xs ≡ 0 → AreBeingEnded all (all_seen meaning xs) old now → AreAllClosed loan stage IsAlike all old now
  all_ended meaning all [] old now none under = record { ended = under.rest now (closed_none now); full = full_where_unused stage now under.stocked }
  all_ended meaning all (x ∷ xs) old now none under = absurd (omega arith)

  -- ---- those of one window

  -- some of the window's items were put away so far
  pub record IsBeingLeft (window : ℕ) (before now : ItemsState D K) : Type 0 where
    pub live : AreLive loan stage now.items
    pub stocked : AreStocked stage (slots_of loan now.items) now.stock
    pub rest : (final : List (SlotOf D)) → AreClosed loan stage IsAlike (items_of window now.items) now.stock final → AreClosed loan stage IsAlike (items_of window before.items) before.stock final
    pub others : (other : ℕ) → (window ≡ other → ⊥) → items_of other now.items ≡ items_of other before.items
    pub within : All (Contains before.items) now.items
    pub apart : AreApart before.items → AreApart now.items
    pub next : now.next ≡ before.next

  pub leaving_begins : (window : ℕ) (before : ItemsState D K) → AreLive loan stage before.items → AreStocked stage (slots_of loan before.items) before.stock → IsBeingLeft window before before
  leaving_begins window before live stocked = record {
    live = live;
    stocked = stocked;
    rest = λ final c. c;
    others = λ other apart. refl;
    within = All-contains_itself before.items;
    apart = λ h. h;
    next = refl;
  }

  module _ (window : ℕ) (before now : ItemsState D K) (x : Item K) (under : IsBeingLeft window before now) (youngest : youngest_of window now.items ≡ Some x) where
    at : (i : ℕ) × (slice_get now.items i ≡ Some x) × (without_youngest window now.items ≡ remove now.items i)
    at = youngest_at window now.items x youngest

    pub youngest_is_live : stage (loan x.kept).definition ≡ Live
    youngest_is_live = All-there (λ (y : Item K). stage (loan y.kept).definition ≡ Live) at.0 now.items x at.1 under.live

    pub youngest_is_left : is_left (loan x.kept).slot now.stock ≡ true
    youngest_is_left = is_left_there now.items at.0 x at.1 now.stock under.stocked

    pub leaving_goes_on : (after : ItemsState D K) → after.items ≡ without_youngest window now.items → after.next ≡ now.next → IsShut stage IsAlike (loan x.kept) now.stock after.stock
        → IsBeingLeft window before after
    leaving_goes_on after is next is_shut = record {
      live = subst (AreLive loan stage) (sym removed) (All-remove (λ (y : Item K). stage (loan y.kept).definition ≡ Live) at.0 now.items under.live);
      stocked = subst (λ ys. AreStocked stage (slots_of loan ys) after.stock) (sym removed) (stocked_then now.items at.0 x at.1 now.stock under.stocked after.stock is_shut);
      rest = λ final closed. under.rest final (subst (λ ys. AreClosed loan stage IsAlike ys now.stock final) (sym split)
          (closed_more (items_of window after.items) x now.stock after.stock final (its_slot now.items at.0 x at.1 now.stock under.stocked) is_shut closed));
      others = λ other apart. ap (items_of other) is ∙ items_of-without_youngest_other window other now.items apart ∙ under.others other apart;
      within = subst (All (Contains before.items)) (sym removed) (All-remove (Contains before.items) at.0 now.items under.within);
      apart = λ h. subst (λ ys. AreApart ys) (sym removed) (apart-remove at.0 now.items (under.apart h));
      next = next ∙ under.next;
    }
      where
        removed : after.items ≡ remove now.items at.0
        removed = is ∙ at.2

        split : items_of window now.items ≡ items_of window after.items ++ x ∷ []
        split =
            items_of-without_youngest window now.items
            ∙ ap (λ ys. items_of window ys ++ option_to_list (youngest_of window now.items)) (sym is)
            ∙ ap (λ o. items_of window after.items ++ option_to_list o) youngest

  -- none of them is there
  pub all_left : (window : ℕ) (before now after : ItemsState D K) → IsBeingLeft window before now → youngest_of window now.items ≡ None
      → after.items ≡ without_youngest window now.items → after.next ≡ now.next → after.stock ≡ now.stock → AreLeft loan stage IsAlike window before after
  all_left window before now after under none is next stock = record {
    gone = ap (items_of window) same ∙ gone.0;
    others = λ other apart. ap (items_of other) same ∙ under.others other apart;
    within = subst (All (Contains before.items)) (sym same) under.within;
    apart = λ h. subst (λ ys. AreApart ys) (sym same) (under.apart h);
    next = next ∙ under.next;
    closed = under.rest after.stock (subst (λ ys. AreClosed loan stage IsAlike ys now.stock after.stock) (sym gone.0) (subst (λ s. AreClosed loan stage IsAlike [] s after.stock) stock (closed_none after.stock)));
    stocked = subst (λ s. AreStocked stage (slots_of loan after.items) s) (sym stock) (subst (λ ys. AreStocked stage (slots_of loan ys) now.stock) (sym same) under.stocked);
  }
    where
      gone : (items_of window now.items ≡ []) × (without_youngest window now.items ≡ now.items)
      gone = no_youngest window now.items none

      same : after.items ≡ now.items
      same = is ∙ gone.1
