-- The windows of a desk are put away, from the last to the first.
use Rattle.std.proofs.Common.{◌≡◌, ⊎_elim, inl, inr, ℕ, ◌+◌, ◌<◌, true, false, List, [], ◌∷◌, ◌++◌, length, map, Option, Some, None, refl, sym, ap, ◌∙◌, subst, arith, get_or}
use Rattle.std.specs.Prelude.{slice_get, slice_set, is_none, IfSome, All, AllPairs, Contains}
use Rattle.std.specs.Option.{option_map_or}
use Rattle.std.proofs.Math.ListN.{get_or-append}
use Rattle.std.proofs.Math.Seq.{get_or-append_seam}
use Rattle.std.proofs.lemmas.Bool.{cases_eq}
use Rattle.std.proofs.lemmas.List.{map-append}
use Rattle.std.proofs.lemmas.List.Elements.{All-nil, All-pop, All-push}
use Rattle.std.proofs.lemmas.Option.{slice_get-get_or}
use Rattle.def_iface.specs.Slots.{TakenBox}
use Rattle.def_iface.specs.declared.window_def.Stage.TheVariants.{Live, Closed}
use Rattle.def_iface.specs.WindowMeaning.{WindowDefinition, WindowLoan, SameLook}
use Rattle.def_iface.specs.WindowSlots.{WindowSlot, IsFull, is_left, holding}
use Rattle.window_list.specs.declared.window.Window.{Window}
use Rattle.window_list.specs.Lists.{IsLastBox}
use Rattle.vis_update.specs.Records.{WindowRecord}
use Rattle.vis_update.specs.Records.{record_of}
use Rattle.window_mgr.specs.Whole.{IsSettled, IsStocked, IsSlot}
use Rattle.window_mgr.specs.Closing.{loan_of, IsClosedAt, IsShut, IsClosed}
use Rattle.window_mgr.proofs.SlotLemmas.{get-set_same, get-set_other, map-set}

module _ {X : Type 0} where
  length-snoc : (xs : List X) (y : X) → length (xs ++ y ∷ []) ≡ length xs + 1
  length-snoc [] y = refl
  length-snoc (x ∷ xs) y = let e = length-snoc xs y in omega arith

  at_front : (xs : List X) (y d : X) (i : ℕ) → i < length xs → get_or (xs ++ y ∷ []) i d ≡ get_or xs i d
  at_front xs y d i low = get_or-append xs (y ∷ []) d i low

  -- an element that is not the last one stands before it
  contains_front : (xs : List X) (x y : X) → (x ≡ y → ⊥) → Contains (xs ++ y ∷ []) x → Contains xs x
  contains_front xs x y apart (i, low, at) =
      let long = length-snoc xs y in
      ⊎_elim
      (λ last. absurd (apart (sym (sym (get_or-append_seam xs y [] x) ∙ ap (λ n. get_or (xs ++ y ∷ []) n x) (sym last) ∙ at))))
      (λ front. let below : i < length xs = omega arith in (i, below, sym (at_front xs y x i below) ∙ at))
      (cases_eq i (length xs))

  -- a fact of each element and each later one holds of the elements in front of the last
  pairs_front : (R : X → X → Type 0) (xs : List X) (y : X) → AllPairs R (xs ++ y ∷ []) → AllPairs R xs
  pairs_front R xs y pairs i j d low within =
      let long = length-snoc xs y in
      let first : i < length xs = omega arith in
      subst (λ x. R x (get_or xs j d)) (at_front xs y d i first)
      (subst (λ x. R (get_or (xs ++ y ∷ []) i d) x) (at_front xs y d j within) (pairs i j d low (omega arith)))

  -- and of each of these and the last
  pairs_last : (R : X → X → Type 0) (xs : List X) (y : X) → AllPairs R (xs ++ y ∷ []) → All (λ x. R x y) xs
  pairs_last R xs y pairs i d low =
      let long = length-snoc xs y in
      subst (λ x. R x y) (at_front xs y d i low)
      (subst (λ x. R (get_or (xs ++ y ∷ []) i d) x) (get_or-append_seam xs y [] d) (pairs i (length xs) d low (omega arith)))

-- an empty slot got a closed definition
pub record Shut (loan : WindowLoan) (old new : List WindowSlot) : Type 0 where
  pub view : WindowSlot
  pub definition : WindowDefinition
  pub found : slice_get old loan.slot ≡ Some view
  pub empty : view.held ≡ None
  pub closed : definition.stage ≡ Closed
  pub look : SameLook loan.definition definition
  pub back : new ≡ slice_set old loan.slot (holding (Some definition) view)

pub shut_facts : (loan : WindowLoan) (old new : List WindowSlot) → IsShut loan old new → Shut loan old new
shut_facts loan old new shut = by_cases (slice_get old loan.slot) refl shut.left shut.back
  where
    held_none : (o : Option WindowDefinition) → is_none o ≡ true → o ≡ None
    held_none None e = refl
    held_none (Some d) e = absurd (cc)

    by_cases : (o : Option WindowSlot) → slice_get old loan.slot ≡ o → option_map_or (λ (s : WindowSlot). is_none s.held) o false ≡ true → IfSome o (λ s. new ≡ slice_set old loan.slot (holding (Some shut.definition) s)) → Shut loan old new
    by_cases None at e back = absurd (cc)
    by_cases (Some s) at e back = record {
      view = s;
      definition = shut.definition;
      found = at;
      empty = held_none s.held e;
      closed = shut.closed;
      look = shut.look;
      back = back;
    }

left_parts : (ws : List WindowRecord) (w : WindowRecord) (slots : List WindowSlot) → IsStocked (ws ++ w ∷ []) slots → All (λ v. is_left v.slot slots ≡ true) ws × (is_left w.slot slots ≡ true)
left_parts ws w slots stocked = All-pop (λ v. is_left v.slot slots ≡ true) (ws ++ w ∷ []) ws (Some w) refl stocked.left

module _ (ws : List WindowRecord) (w : WindowRecord) (old new : List WindowSlot) (stocked : IsStocked (ws ++ w ∷ []) old) (is_shut : IsShut (loan_of w) old new) where
  shut : Shut (loan_of w) old new
  shut = shut_facts (loan_of w) old new is_shut

  here : slice_get new w.slot ≡ Some (holding (Some shut.definition) shut.view)
  here = ap (λ ss. slice_get ss w.slot) shut.back ∙ get-set_same old w.slot shut.view _ shut.found

  elsewhere : (k : ℕ) → (k ≡ w.slot → ⊥) → slice_get new k ≡ slice_get old k
  elsewhere k away = ap (λ ss. slice_get ss k) shut.back ∙ get-set_other old w.slot k _ away

  here_full : IsFull (holding (Some shut.definition) shut.view)
  here_full = (shut.definition, refl, inr shut.closed)

  -- the others are stocked, where the last window's slot has its definition
  pub stocked_front : IsStocked ws new
  stocked_front = record {
    left = λ k d low. ap (λ o. option_map_or (λ (s : WindowSlot). is_none s.held) o false) (elsewhere _ (pairs_last (λ a b. a.slot ≡ b.slot → ⊥) ws w stocked.apart k d low)) ∙ (left_parts ws w old stocked).0 k d low;
    apart = pairs_front (λ a b. a.slot ≡ b.slot → ⊥) ws w stocked.apart;
    others = others;
  }
    where
      others : (k : ℕ) → IsSlot ws new k
      others k s e = ⊎_elim
          (λ at. inl (let same : Some (holding (Some shut.definition) shut.view) ≡ Some s = sym here ∙ ap (slice_get new) (sym at) ∙ e in
          let is : holding (Some shut.definition) shut.view ≡ s = cc in
          subst IsFull is here_full))
          (λ away. ⊎_elim
          (λ full. inl full)
          (λ none. inr (none.0, contains_front (map (λ v. v.slot) ws) k w.slot away (subst (λ ks. Contains ks k) (map-append (λ (v : WindowRecord). v.slot) ws (w ∷ [])) none.1)))
          (stocked.others k s (sym (elsewhere k away) ∙ e)))
          (cases_eq k w.slot)

  -- what ends the desk without its last window ends the whole desk
  closed_with : (final : List WindowSlot) → IsClosed ws new final → IsClosed (ws ++ w ∷ []) old final
  closed_with final rest = record {
    ended = record {
      kinds = rest.ended.kinds ∙ ap (map (λ s. s.kind)) shut.back ∙ map-set (λ (s : WindowSlot). s.kind) old w.slot shut.view _ shut.found refl;
      others = others;
      closed = All-push (IsClosedAt final) ws w rest.ended.closed (_, rest.ended.others w.slot _ here here_full, (shut.definition, refl, shut.closed, shut.look));
    };
    full = rest.full;
  }
    where
      others : (k : ℕ) (s : WindowSlot) → slice_get old k ≡ Some s → IsFull s → slice_get final k ≡ Some s
      others k s e full = ⊎_elim
          (λ at. absurd (
          let same : Some shut.view ≡ Some s = sym shut.found ∙ ap (slice_get old) (sym at) ∙ e in
          let is : shut.view ≡ s = cc in
          let none : None ≡ Some full.0 = sym shut.empty ∙ ap (λ (t : WindowSlot). t.held) is ∙ full.1 in
          cc))
          (λ away. rest.ended.others k s (elsewhere k away ∙ e) full)
          (cases_eq k w.slot)

-- a stock without an empty slot is as the end of a desk without a window leaves it
closed_none : (slots : List WindowSlot) → IsStocked [] slots → IsClosed [] slots slots
closed_none slots stocked = record {
  ended = record {
    kinds = refl;
    others = λ k s e full. e;
    closed = All-nil (IsClosedAt slots);
  };
  full = λ k d low. ⊎_elim (λ full. full) (λ none. absurd (let within = none.1.1 in omega arith)) (stocked.others k (get_or slots k d) (slice_get-get_or slots k d low));
}

-- of all windows these are left to put away
pub record IsUnderWay (all left : List WindowRecord) (old now : List WindowSlot) : Type 0 where
  pub settled : All IsSettled left
  pub stocked : IsStocked left now
  pub rest : (final : List WindowSlot) → IsClosed left now final → IsClosed all old final

-- at first all are
pub begins : (all : List WindowRecord) (old : List WindowSlot) → All IsSettled all → IsStocked all old → IsUnderWay all all old old
begins all old settled stocked = record { settled = settled; stocked = stocked; rest = λ final c. c }

-- where none is left, the desk has ended
pub ends : {V : Type 0} {H : V → Type 0} (loan : TakenBox V H → WindowLoan) (all : List WindowRecord) (us : List (Window V H)) (none : us ≡ []) (old now : List WindowSlot) → IsUnderWay all (map (record_of loan) us) old now → IsClosed all old now
ends loan all us none old now under =
    let last : IsUnderWay all [] old now = subst (λ us. IsUnderWay all (map (record_of loan) us) old now) none under in
    last.rest now (closed_none now last.stocked)

module _ {V : Type 0} {H : V → Type 0} (loan : TakenBox V H → WindowLoan) (all : List WindowRecord) (us vs : List (Window V H)) (taken : TakenBox V H) (box : IsLastBox us taken vs) (old now : List WindowSlot) (under : IsUnderWay all (map (record_of loan) us) old now) where
  abbrev v : Window V H
  v = box.window

  records_are : map (record_of loan) us ≡ map (record_of loan) vs ++ record_of loan v ∷ []
  records_are = ap (map (record_of loan)) box.last ∙ map-append (record_of loan) vs (v ∷ [])

  before_last : IsUnderWay all (map (record_of loan) vs ++ record_of loan v ∷ []) old now
  before_last = subst (λ ws. IsUnderWay all ws old now) records_are under

  settled_parts : All IsSettled (map (record_of loan) vs) × IsSettled (record_of loan v)
  settled_parts = All-pop IsSettled _ (map (record_of loan) vs) (Some (record_of loan v)) refl before_last.settled

  -- the last window's definition is live
  pub last_is_live : (loan taken).definition.stage ≡ Live
  last_is_live = ap (λ t. (loan t).definition.stage) box.its ∙ settled_parts.1.live

  -- its slot is there, and empty
  pub last_is_left : is_left (loan taken).slot now ≡ true
  last_is_left = ap (λ t. is_left (loan t).slot now) box.its ∙ (left_parts (map (record_of loan) vs) (record_of loan v) now before_last.stocked).1

  -- once it is put away, the windows before it are left
  pub goes_on : (new : List WindowSlot) → IsShut (loan taken) now new → IsUnderWay all (map (record_of loan) vs) old new
  goes_on new shut_it = let is_shut = subst (λ t. IsShut (loan t) now new) box.its shut_it in record {
    settled = settled_parts.0;
    stocked = stocked_front (map (record_of loan) vs) (record_of loan v) now new before_last.stocked is_shut;
    rest = λ final c. before_last.rest final (closed_with (map (record_of loan) vs) (record_of loan v) now new before_last.stocked is_shut final c);
  }
