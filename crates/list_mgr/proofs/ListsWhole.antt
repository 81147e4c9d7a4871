-- Lists that are whole are whole where one of them is changed, put in or taken out, and where controls are called.
use Rattle.std.proofs.Common.{◌≡◌, ℕ, zero, suc, ◌<◌, ◌≤◌, Bool, true, false, ◌==◌, cond, List, [], ◌∷◌, ◌++◌, map, Some, refl, sym, ap, ◌∙◌, subst, arith, eqb-true}
use Rattle.std.specs.Prelude.{All, slice_get}
use Rattle.std.specs.List.{AllZip, list_any, remove}
use Rattle.std.specs.Option.{option_and_then}
use Rattle.std.proofs.lemmas.Bool.{false≢true}
use Rattle.std.proofs.lemmas.Bool.Decides.{nat_tests}
use Rattle.std.proofs.lemmas.List.Elements.{All-append, All-cons, All-head, All-map, All-nil, All-tail, All-weaker}
use Rattle.window_items.specs.Items.{are_before, count_of, has_serial, is_before, is_in_at, items_of, serial_after}
use Rattle.window_items.proofs.LawLemmas.{still_before}
use Rattle.window_items.proofs.SerialLemmas.{apart-remove, apart_more}
use Rattle.window_items.proofs.WindowLemmas.{count_of-push, count_of-push_other, count_of-remove, count_of-remove_other, is_in_at-other, items_of-push_other, items_of-remove_other}
use Rattle.def_iface.specs.ListMeaning.{ListDefinition}
use Rattle.def_iface.specs.Slots.{IsTaken}
use Rattle.window_list.specs.declared.layer.Layer.{Layer}
use Rattle.desk_call.specs.declared.list.ListOf.{ListOf}
use Rattle.vis_update.specs.Records.{WindowRecord}
use Rattle.vis_update.specs.Relayings.{with_layers_of}
use Rattle.window_mgr.specs.Refused.{is_missing}
use Rattle.control_mgr.specs.InUse.{AreStocked}
use Rattle.control_mgr.proofs.ControlBits.{bare, missing_alike}
use Rattle.control_mgr.proofs.ControlsKept.{uncontrolled}
use Rattle.control_mgr.proofs.LayerOut.{all-remove}
use Rattle.control_mgr.proofs.Settled.{missing-layers}
use Rattle.control_mgr.proofs.Stocks.{stocked_with, stocked_without}
use Rattle.list_mgr.specs.ListDesks.{KeptList, ListDesk, ListSlot, ListsState, list_of}
use Rattle.list_mgr.specs.ListRefusals.{most_lists}
use Rattle.list_mgr.specs.ListSteps.{AreListLayers, IsChangedTo, IsLayerOf, IsListShut, layers_of_lists}
use Rattle.list_mgr.specs.WholeLists.{AreWholeLists, IsSettledList, slots_of}
use Rattle.list_mgr.proofs.Edited.{Keeps, whole_edited}
use Rattle.list_mgr.proofs.ListedLayers.{listed_behind}
use Rattle.list_mgr.proofs.ListsStay.{AreListsJoined}
use Rattle.window_items.proofs.EditLemmas.{All-remove}

-- ---- layers of windows

same_number : (a b : ℕ) → a ≡ b → (a == b) ≡ true
same_number a b e = grind (arith, nat_tests)

other_number : (a b : ℕ) → (b ≡ a → ⊥) → (a == b) ≡ false
other_number a b e = grind (arith, nat_tests)

-- where a window's layers come to be those of its lists as they are now, and the lists of other windows stay
joined_laid : (s : ℕ) (ks : List Layer) (ls now : List KeptList) (ws : List WindowRecord) → AreListLayers (items_of s now) ks
    → ((t : ℕ) → (t ≡ s → ⊥) → items_of t now ≡ items_of t ls) → AreListsJoined ls ws → AreListsJoined now (map (with_layers_of s ks) ws)
joined_laid s ks ls now ws new others joined =
    All-map (λ (w : WindowRecord). AreListLayers (items_of w.serial now) w.layers) (with_layers_of s ks) ws
    (All-weaker (λ (w : WindowRecord). AreListLayers (items_of w.serial ls) w.layers) (λ (w : WindowRecord). AreListLayers (items_of (with_layers_of s ks w).serial now) (with_layers_of s ks w).layers)
    (λ w h. by_test w h (w.serial == s) refl) ws joined)
  where
    by_test : (w : WindowRecord) → AreListLayers (items_of w.serial ls) w.layers → (b : Bool) → (w.serial == s) ≡ b
        → AreListLayers (items_of (cond b (record w { layers = ks }) w).serial now) (cond b (record w { layers = ks }) w).layers
    by_test w h true e = subst (λ t. AreListLayers (items_of t now) ks) (sym (eqb-true w.serial s e)) new
    by_test w h false e = subst (λ xs. AreListLayers xs w.layers) (sym (others w.serial (λ same. false≢true (sym e ∙ same_number w.serial s same)))) h

somewhere_laid : (s : ℕ) (ks : List Layer) (ws : List WindowRecord) (ls : List KeptList) → All (λ l. is_missing l.window ws ≡ false) ls → All (λ l. is_missing l.window (map (with_layers_of s ks) ws) ≡ false) ls
somewhere_laid s ks ws ls h =
    All-weaker (λ (l : KeptList). is_missing l.window ws ≡ false) (λ (l : KeptList). is_missing l.window (map (with_layers_of s ks) ws) ≡ false)
    (λ l e. missing-layers s l.window ks ws ∙ e) ls h

-- ---- lists with one more behind

slots_more : (l : KeptList) (ls : List KeptList) → slots_of (ls ++ l ∷ []) ≡ slots_of ls ++ l.kept.definition.slot ∷ []
slots_more l [] = refl
slots_more l (x ∷ xs) = ap (λ ns. x.kept.definition.slot ∷ ns) (slots_more l xs)

pub All-more : (P : KeptList → Type 0) (ls : List KeptList) (l : KeptList) → All P ls → P l → All P (ls ++ l ∷ [])
All-more P ls l h new = All-append P ls (l ∷ []) h (All-cons P l [] new (All-nil P))

-- no window has more than it may have, where its own had fewer
few_more : (l : KeptList) (ls : List KeptList) → count_of l.window ls < most_lists → ((t : ℕ) → count_of t ls ≤ most_lists) → (t : ℕ) → count_of t (ls ++ l ∷ []) ≤ most_lists
few_more l ls room few t = by_test (l.window == t) refl
  where
    by_test : (b : Bool) → (l.window == t) ≡ b → count_of t (ls ++ l ∷ []) ≤ most_lists
    by_test true e =
        let more = count_of-push t ls l e in
        let same : count_of t ls ≡ count_of l.window ls = ap (λ n. count_of n ls) (sym (eqb-true l.window t e)) in
        omega (arith, more, same, room)
    by_test false e = subst (λ n. n ≤ most_lists) (sym (count_of-push_other t ls l e)) (few t)

-- what was whole is whole with one list more, over slots of which its definition was taken out, beside the windows with its layer
pub whole_put : (l : KeptList) (old : ListDefinition) (kind : List ℕ) (ks : List Layer) (ws : List WindowRecord) (state : ListsState) (left : List ListSlot)
    → AreWholeLists ws state → state.next ≡ Some l.serial → list_any (has_serial l.serial) state.lists ≡ false → IsSettledList l → is_missing l.window ws ≡ false
    → count_of l.window state.lists < most_lists
    → IsTaken (λ (d : ListDefinition). d.stage) kind (record { definition = old; slot = l.kept.definition.slot }) state.stock left
    → AreListLayers (items_of l.window (state.lists ++ l ∷ [])) ks
    → AreWholeLists (map (with_layers_of l.window ks) ws) (record { lists = state.lists ++ l ∷ []; next = serial_after l.serial; stock = left })
whole_put l old kind ks ws state left whole next unused settled there room took joined = record {
  settled = All-more IsSettledList state.lists l whole.settled settled;
  apart = apart_more l state.lists unused whole.apart;
  given = still_before l state.lists (subst (λ o. are_before o state.lists ≡ true) next whole.given);
  somewhere = All-more (λ (x : KeptList). is_missing x.window (map (with_layers_of l.window ks) ws) ≡ false) state.lists l (somewhere_laid l.window ks ws state.lists whole.somewhere) (missing-layers l.window l.window ks ws ∙ there);
  few = few_more l state.lists room whole.few;
  joined = joined_laid l.window ks state.lists (state.lists ++ l ∷ []) ws joined
      (λ t away. items_of-push_other t state.lists l (other_number l.window t away))
      whole.joined;
  stocked = subst (λ ns. AreStocked (λ (d : ListDefinition). d.stage) ns left) (sym (slots_more l state.lists))
      (stocked_with (λ (d : ListDefinition). d.stage) (slots_of state.lists) kind (record { definition = old; slot = l.kept.definition.slot }) state.stock left took whole.stocked);
}

-- ---- lists without one

pub slot_at : (ls : List KeptList) (i : ℕ) (l : KeptList) → slice_get ls i ≡ Some l → slice_get (slots_of ls) i ≡ Some l.kept.definition.slot
slot_at [] i l e = absurd (cc)
slot_at (x ∷ xs) zero l e = let same : x ≡ l = cc in ap (λ (y : KeptList). Some y.kept.definition.slot) same
slot_at (x ∷ xs) (suc i) l e = slot_at xs i l e

pub slots-remove : (i : ℕ) (ls : List KeptList) → slots_of (remove ls i) ≡ remove (slots_of ls) i
slots-remove zero [] = refl
slots-remove (suc i) [] = refl
slots-remove zero (l ∷ ls) = refl
slots-remove (suc i) (l ∷ ls) = ap (λ ns. l.kept.definition.slot ∷ ns) (slots-remove i ls)

-- no window has more lists then
few_left : (at : ℕ) (ls : List KeptList) → ((t : ℕ) → count_of t ls ≤ most_lists) → (t : ℕ) → count_of t (remove ls at) ≤ most_lists
few_left at ls few t = by_test (is_in_at t at ls) refl
  where
    by_test : (b : Bool) → is_in_at t at ls ≡ b → count_of t (remove ls at) ≤ most_lists
    by_test true e = let less = count_of-remove t at ls e in let most = few t in omega (arith, less, most)
    by_test false e = subst (λ n. n ≤ most_lists) (sym (count_of-remove_other t at ls e)) (few t)

-- what was whole is whole without one list, over slots into one of which its definition came back, beside the windows without its layer
pub whole_gone : (at window : ℕ) (l : KeptList) (ks : List Layer) (ws : List WindowRecord) (state : ListsState) (back : List ListSlot) → AreWholeLists ws state
    → slice_get state.lists at ≡ Some l → is_in_at window at state.lists ≡ true → IsListShut l.kept.definition state.stock back → AreListLayers (items_of window (remove state.lists at)) ks
    → AreWholeLists (map (with_layers_of window ks) ws) (record state { lists = remove state.lists at; stock = back })
whole_gone at window l ks ws state back whole there here shut joined = record {
  settled = All-remove IsSettledList at state.lists whole.settled;
  apart = apart-remove at state.lists whole.apart;
  given = all-remove (λ (x : KeptList). is_before state.next x.serial) at state.lists whole.given;
  somewhere = somewhere_laid window ks ws (remove state.lists at) (All-remove (λ (x : KeptList). is_missing x.window ws ≡ false) at state.lists whole.somewhere);
  few = few_left at state.lists whole.few;
  joined = joined_laid window ks state.lists (remove state.lists at) ws joined
      (λ t away. items_of-remove_other t at state.lists (is_in_at-other window t at state.lists (λ e. away (sym e)) here))
      whole.joined;
  stocked = subst (λ ns. AreStocked (λ (d : ListDefinition). d.stage) ns back) (sym (slots-remove at state.lists))
      (stocked_without (λ (d : ListDefinition). d.stage) at (slots_of state.lists) (record { definition = shut.definition; slot = l.kept.definition.slot }) state.stock back
      (slot_at state.lists at l there) shut.closed shut.back whole.stocked);
}

-- ---- lists beside controls

-- the layers behind the controls are as they were, and so are the lists
joined_behind : (ls : List KeptList) (ws vs : List WindowRecord) → map uncontrolled vs ≡ map uncontrolled ws → AreListsJoined ls ws → AreListsJoined ls vs
joined_behind ls ws [] same joined = All-nil (λ (w : WindowRecord). AreListLayers (items_of w.serial ls) w.layers)
joined_behind ls [] (v ∷ vs) same joined = absurd (cc)
joined_behind ls (w ∷ ws) (v ∷ vs) same joined =
    let first : uncontrolled w ≡ uncontrolled v = cc in
    let rest : map uncontrolled vs ≡ map uncontrolled ws = cc in
    All-cons (λ (x : WindowRecord). AreListLayers (items_of x.serial ls) x.layers) v vs
    (first_joined first (All-head (λ (x : WindowRecord). AreListLayers (items_of x.serial ls) x.layers) w ws joined))
    (joined_behind ls ws vs rest (All-tail (λ (x : WindowRecord). AreListLayers (items_of x.serial ls) x.layers) w ws joined))
  where
    first_joined : uncontrolled w ≡ uncontrolled v → AreListLayers (items_of w.serial ls) w.layers → AreListLayers (items_of v.serial ls) v.layers
    first_joined same its =
        subst (AllZip IsLayerOf (items_of v.serial ls)) (listed_behind v.layers)
        (subst (λ (x : WindowRecord). AllZip IsLayerOf (items_of x.serial ls) (layers_of_lists x.layers)) same (subst (AllZip IsLayerOf (items_of w.serial ls)) (sym (listed_behind w.layers)) its))

-- lists that are whole are so beside windows that are the same but for the layers of controls
pub whole_behind : (ws vs : List WindowRecord) (state : ListsState) → map bare vs ≡ map bare ws → map uncontrolled vs ≡ map uncontrolled ws → AreWholeLists ws state → AreWholeLists vs state
whole_behind ws vs state same behind whole = record {
  settled = whole.settled;
  apart = whole.apart;
  given = whole.given;
  somewhere = All-weaker (λ (l : KeptList). is_missing l.window ws ≡ false) (λ (l : KeptList). is_missing l.window vs ≡ false) (λ l e. missing_alike l.window ws vs same ∙ e) state.lists whole.somewhere;
  few = whole.few;
  joined = joined_behind state.lists ws vs behind whole.joined;
  stocked = whole.stocked;
}

-- ---- one step

module _ (before after : ListDesk) (whole : AreWholeLists before.desk.windows.desk.windows before.lists) where
  -- the lists are whole afterwards
  abbrev pub IsWhole : Type 0
  IsWhole = AreWholeLists after.desk.windows.desk.windows after.lists

  -- nothing of them changed
  pub same_whole : after.desk.windows.desk.windows ≡ before.desk.windows.desk.windows → after.lists ≡ before.lists → IsWhole
  same_whole windows same = subst (λ (x : List WindowRecord × ListsState). AreWholeLists x.0 x.1) (λ i. (sym windows i, sym same i)) whole

  -- a list was changed that keeps its place
  pub edited_whole : (l : ListOf) (f : KeptList → KeptList) → Keeps f → ((x : KeptList) → list_of l before.lists.lists ≡ Some x → IsSettledList x → IsSettledList (f x)) → IsChangedTo l f before after
      → after.desk.windows.desk.windows ≡ before.desk.windows.desk.windows → IsWhole
  edited_whole l f keeps stays changed windows =
      subst (λ (x : List WindowRecord × ListsState). AreWholeLists x.0 x.1) (λ i. (sym windows i, sym changed.lists i))
      (whole_edited f keeps changed.at before.desk.windows.desk.windows before.lists whole (λ x there. stays x (ap (option_and_then (slice_get before.lists.lists)) changed.found ∙ there)))
