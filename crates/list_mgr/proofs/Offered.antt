-- What the stocks would give for a new list and its scroll bars is what is taken out of them, and what was taken goes back.
use Rattle.std.proofs.Common.{◌≡◌, inl, ℕ, zero, suc, ◌+◌, Bool, true, false, not, ◌&&◌, ◌||◌, cond, List, [], ◌∷◌, ◌++◌, length, Option, Some, None, refl, sym, ap, ◌∙◌, subst, arith}
use Rattle.std.specs.Prelude.{if◌then◌else◌, is_none, nat_lt, option_to_list, slice_get, slice_set}
use Rattle.std.specs.List.{position, position_or_len}
use Rattle.std.specs.Option.{option_and_then, option_map, option_map_or}
use Rattle.std.proofs.lemmas.Bool.{or_left, or_right}
use Rattle.std.proofs.lemmas.Bool.Decides.{nat_tests}
use Rattle.std.proofs.lemmas.Slice.Eq.{bytes_eq-Decides}
use Rattle.tb_geom.specs.declared.refusal.Refusal.{Refusal}
use Rattle.tb_geom.specs.declared.refusal.Refusal.TheVariants.{NoDefinition, NoSuchName}
use Rattle.def_iface.specs.declared.window_def.Stage.{Stage}
use Rattle.def_iface.specs.ControlMeaning.{ControlDefinition, ControlLoan}
use Rattle.def_iface.specs.ListMeaning.{ListDefinition, ListLoan}
use Rattle.def_iface.specs.Slots.{IsNotTaken, IsTaken, LoanOf, SlotOf, first_offer, has_kind, is_kind, is_left, offered, offers}
use Rattle.desk_call.specs.declared.list.NewList.{NewList}
use Rattle.window_mgr.proofs.SlotLemmas.{get-set_same}
use Rattle.control_mgr.specs.ControlDesks.{ControlSlot}
use Rattle.control_mgr.proofs.NewSteps.{put_back_is_old, taken_was_offered}
use Rattle.list_mgr.specs.ListDesks.{ListSlot}
use Rattle.list_mgr.specs.ListRefusals.{fresh_bars, horizontal_offer, lacks_kind, scroll_kind, vertical_offer}
use Rattle.list_mgr.specs.Offers.{AreOffered, IsBack, IsOffer, IsOfferIf, MayGoBack, Offered, definition_of}

-- ---- the first place where a test holds

-- the place n, of k places
abbrev place_of : ℕ → ℕ → Option ℕ
place_of n k = cond (nat_lt n k) (Some n) None

place_first : (k : ℕ) → place_of 0 (suc k) ≡ Some 0
place_first k = ap (λ b. cond {A = Option ℕ} b (Some 0) None) (some k)
  where
    some : (k : ℕ) → nat_lt 0 (suc k) ≡ true
    some k = grind (arith, nat_tests)

place_next : (n k : ℕ) → place_of (1 + n) (suc k) ≡ option_map (λ at. suc at) (place_of n k)
place_next n k = by_test (nat_lt n k) (alike n k)
  where
    alike : (n k : ℕ) → nat_lt (1 + n) (suc k) ≡ nat_lt n k
    alike n k = grind (arith, nat_tests)

    more : (n : ℕ) → 1 + n ≡ suc n
    more n = omega arith

    by_test : (b : Bool) → nat_lt (1 + n) (suc k) ≡ b → place_of (1 + n) (suc k) ≡ option_map (λ at. suc at) (cond b (Some n) None)
    by_test true e = ap (λ b. cond b (Some (1 + n)) None) e ∙ ap Some (more n)
    by_test false e = ap (λ b. cond b (Some (1 + n)) None) e

position_step : {X : Type 0} (p : X → Bool) (x : X) (xs : List X) (b : Bool) → p x ≡ b → position p (x ∷ xs) ≡ cond b (Some 0) (option_map (λ at. suc at) (position p xs))
position_step p x xs true e = ap (λ b. place_of (cond (not b) (1 + position_or_len p xs) 0) (suc (length xs))) e ∙ place_first (length xs)
position_step p x xs false e =
    ap (λ b. place_of (cond (not b) (1 + position_or_len p xs) 0) (suc (length xs))) e ∙ place_next (position_or_len p xs) (length xs)

-- ---- one definition

module _ {D : Type 0} (stage : D → Stage) (kind : List ℕ) where
  -- where none is taken though there are slots of the kind, none is offered
  pub none_offered : (slots : List (SlotOf D)) (e : Refusal) → has_kind kind slots ≡ true → IsNotTaken stage kind slots e → first_offer stage kind slots ≡ None
  none_offered slots NoSuchName has none = absurd (cc)
  none_offered slots NoDefinition has none = none.1
  none_offered slots _ has none = absurd none

  has_set : (slots : List (SlotOf D)) (at : ℕ) (s t : SlotOf D) → slice_get slots at ≡ Some s → is_kind kind t ≡ true → has_kind kind (slice_set slots at t) ≡ true
  has_set [] at s t e is = absurd (cc)
  has_set (x ∷ xs) zero s t e is = or_left (is_kind kind t) (has_kind kind xs) is
  has_set (x ∷ xs) (suc at) s t e is = or_right (is_kind kind x) (has_kind kind (slice_set xs at t)) (has_set xs at s t e is)

  -- the stock has slots of the kind still
  pub kind_stays : (wanted : Bool) (o : Option (LoanOf D)) (old new : List (SlotOf D)) → IsOfferIf stage wanted kind o old new → has_kind kind old ≡ true → has_kind kind new ≡ true
  kind_stays true None old new offer has = ap (has_kind kind) offer.1 ∙ has
  kind_stays true (Some loan) old new offer has =
      ap (has_kind kind) offer.left ∙ has_set old loan.slot _ (record { kind = kind; held = None }) offer.held ((bytes_eq-Decides kind kind).1 refl)
  kind_stays false o old new offer has = ap (has_kind kind) offer.1 ∙ has

  -- what was taken was offered, and where nothing was taken the slots are as they were
  pub some_taken : (wanted : Bool) (loan : LoanOf D) (old new : List (SlotOf D)) → IsOfferIf stage wanted kind (Some loan) old new → IsTaken stage kind loan old new
  some_taken true loan old new offer = offer
  some_taken false loan old new offer = let none = offer.0 in absurd (cc)

  pub none_taken : (wanted : Bool) (old new : List (SlotOf D)) → IsOfferIf stage wanted kind None old new → new ≡ old
  none_taken true old new offer = offer.1
  none_taken false old new offer = offer.1

  taken_left : (loan : LoanOf D) (old new : List (SlotOf D)) → IsTaken stage kind loan old new → is_left loan.slot new ≡ true
  taken_left loan old new took =
      ap (is_left loan.slot) took.left
      ∙ ap (λ o. option_map_or (λ (s : SlotOf D). is_none s.held) o false) (get-set_same old loan.slot _ (record { kind = kind; held = None }) took.held)

  -- what was taken can go back
  pub may_go_back : (wanted : Bool) (o : Option (LoanOf D)) (old new : List (SlotOf D)) → IsOfferIf stage wanted kind o old new → MayGoBack stage o new
  may_go_back true None old new offer = tt
  may_go_back true (Some loan) old new offer = (inl offer.fresh, taken_left loan old new offer)
  may_go_back false None old new offer = tt
  may_go_back false (Some loan) old new offer = let none = offer.0 in absurd (cc)

  -- and the slots are then as they were
  pub back_is_old : (wanted : Bool) (o : Option (LoanOf D)) (old new back : List (SlotOf D)) → IsOfferIf stage wanted kind o old new → IsBack o new back → back ≡ old
  back_is_old true None old new back offer same = same ∙ offer.1
  back_is_old true (Some loan) old new back offer put = put_back_is_old stage kind loan old new offer back put
  back_is_old false None old new back offer same = same ∙ offer.1
  back_is_old false (Some loan) old new back offer put = let none = offer.0 in absurd (cc)

  -- the stock would give what it gave
  pub offered_is : (o : Option (LoanOf D)) (old new : List (SlotOf D)) → IsOffer stage kind o old new → offered stage kind old ≡ option_map (λ (l : LoanOf D). l.definition) o
  offered_is None old new offer = ap (λ o. option_and_then (λ at. option_and_then (λ (s : SlotOf D). s.held) (slice_get old at)) o) offer.0
  offered_is (Some loan) old new offer = taken_was_offered stage kind loan old new offer

-- ---- scroll bars

abbrev stage_of : ControlDefinition → Stage
stage_of d = d.stage

fresh_none : (slots : List ControlSlot) → first_offer stage_of scroll_kind slots ≡ None → fresh_bars slots ≡ []
fresh_none [] none = refl
fresh_none (s ∷ ss) none = by_test (offers stage_of scroll_kind s) refl (fresh_none ss)
  where
    no_more : (o : Option ℕ) → option_map (λ at. suc at) o ≡ None → o ≡ None
    no_more None e = refl
    no_more (Some k) e = absurd (cc)

    by_test : (b : Bool) → offers stage_of scroll_kind s ≡ b → (first_offer stage_of scroll_kind ss ≡ None → fresh_bars ss ≡ [])
        → (if b then option_to_list s.held ++ fresh_bars ss else fresh_bars ss) ≡ []
    by_test true e rest = let first = position_step (offers stage_of scroll_kind) s ss true e in absurd (cc)
    by_test false e rest = rest (no_more _ (sym (position_step (offers stage_of scroll_kind) s ss false e) ∙ none))

-- the first of the fresh ones is taken, and the others stay
fresh_taken : (slot : ℕ) (d : ControlDefinition) (old : List ControlSlot) → first_offer stage_of scroll_kind old ≡ Some slot
    → slice_get old slot ≡ Some (record { kind = scroll_kind; held = Some d })
    → fresh_bars old ≡ d ∷ fresh_bars (slice_set old slot (record { kind = scroll_kind; held = None }))
fresh_taken slot d [] first held = absurd (cc)
fresh_taken zero d (s ∷ ss) first held = by_test (offers stage_of scroll_kind s) refl
  where
    is : s ≡ record { kind = scroll_kind; held = Some d }
    is = cc

    later : (o : Option ℕ) → option_map (λ at. suc at) o ≡ Some 0 → ⊥
    later None e = cc
    later (Some k) e = let z : suc k ≡ 0 = cc in absurd (omega arith)

    by_test : (b : Bool) → offers stage_of scroll_kind s ≡ b → (if b then option_to_list s.held ++ fresh_bars ss else fresh_bars ss) ≡ d ∷ fresh_bars ss
    by_test true e = ap (λ (x : ControlSlot). option_to_list x.held ++ fresh_bars ss) is
    by_test false e = absurd (later _ (sym (position_step (offers stage_of scroll_kind) s ss false e) ∙ first))
fresh_taken (suc k) d (s ∷ ss) first held = by_test (offers stage_of scroll_kind s) refl (λ at. fresh_taken k d ss at held)
  where
    before : (o : Option ℕ) → option_map (λ at. suc at) o ≡ Some (suc k) → o ≡ Some k
    before None e = absurd (cc)
    before (Some j) e = let z : suc j ≡ suc k = cc in let same : j ≡ k = omega arith in ap Some same

    by_test : (b : Bool) → offers stage_of scroll_kind s ≡ b → (first_offer stage_of scroll_kind ss ≡ Some k → fresh_bars ss ≡ d ∷ fresh_bars (slice_set ss k (record { kind = scroll_kind; held = None })))
        → (if b then option_to_list s.held ++ fresh_bars ss else fresh_bars ss) ≡ d ∷ (if b then option_to_list s.held ++ fresh_bars (slice_set ss k (record { kind = scroll_kind; held = None })) else fresh_bars (slice_set ss k (record { kind = scroll_kind; held = None })))
    by_test true e rest = let zero_is : Some 0 ≡ Some (suc k) = sym (position_step (offers stage_of scroll_kind) s ss true e) ∙ first in absurd (cc)
    by_test false e rest = rest (before _ (sym (position_step (offers stage_of scroll_kind) s ss false e) ∙ first))

fresh_left : (loan : ControlLoan) (old new : List ControlSlot) → IsTaken stage_of scroll_kind loan old new → fresh_bars old ≡ loan.definition ∷ fresh_bars new
fresh_left loan old new took = fresh_taken loan.slot loan.definition old took.first took.held ∙ ap (λ ss. loan.definition ∷ fresh_bars ss) (sym took.left)

-- the first of the fresh ones
first_fresh : (o : Option ControlLoan) (old new : List ControlSlot) → IsOffer stage_of scroll_kind o old new → slice_get (fresh_bars old) 0 ≡ definition_of o
first_fresh None old new offer = ap (λ ds. slice_get ds 0) (fresh_none old offer.0)
first_fresh (Some loan) old new offer = ap (λ ds. slice_get ds 0) (fresh_left loan old new offer)

-- and the one behind it
next_fresh : (v h : Option ControlLoan) (old mid new : List ControlSlot) → IsOffer stage_of scroll_kind v old mid → IsOffer stage_of scroll_kind h mid new → slice_get (fresh_bars old) 1 ≡ definition_of h
next_fresh (Some loan) h old mid new first next = ap (λ ds. slice_get ds 1) (fresh_left loan old mid first) ∙ first_fresh h mid new next
next_fresh None None old mid new first next = ap (λ ds. slice_get ds 1) (fresh_none old first.0)
next_fresh None (Some loan) old mid new first next =
    let none : fresh_bars mid ≡ [] = ap fresh_bars first.1 ∙ fresh_none old first.0 in
    let some = fresh_left loan mid new next in
    absurd (cc)

-- one that is wanted is not there
pub bar_missing : (wanted : Bool) (old new : List ControlSlot) (e : Refusal) → wanted ≡ true → (wanted ≡ true → has_kind scroll_kind old ≡ true) → IsNotTaken stage_of scroll_kind old e → new ≡ old
    → IsOfferIf stage_of wanted scroll_kind None old new
bar_missing wanted old new e is has none same = subst (λ b. IsOfferIf stage_of b scroll_kind None old new) (sym is) (none_offered stage_of scroll_kind old e (has is) none, same)

-- what the bars would have is what is taken for them
pub vertical_is : (wanted : Bool) (v : Option ControlLoan) (old new : List ControlSlot) → IsOfferIf stage_of wanted scroll_kind v old new
    → (if wanted then slice_get (fresh_bars old) 0 else None) ≡ definition_of v
vertical_is true v old new offer = first_fresh v old new offer
vertical_is false v old new offer = ap definition_of (sym offer.0)

pub horizontal_is : (down across : Bool) (v h : Option ControlLoan) (old mid new : List ControlSlot) → IsOfferIf stage_of down scroll_kind v old mid → IsOfferIf stage_of across scroll_kind h mid new
    → (if across then slice_get (fresh_bars old) (if down then 1 else 0) else None) ≡ definition_of h
horizontal_is true true v h old mid new first next = next_fresh v h old mid new first next
horizontal_is false true v h old mid new first next = ap (λ ss. slice_get (fresh_bars ss) 0) (sym first.1) ∙ first_fresh h mid new next
horizontal_is down false v h old mid new first next = ap definition_of (sym next.0)

-- ---- those of a new list

-- where the kinds that are wanted are not lacking, one of scroll bars is there for a horizontal one
pub across_kind : (n : NewList) (slots : List ListSlot) (bars : List ControlSlot) → lacks_kind n slots bars ≡ false → n.horizontal_bar ≡ true → has_kind scroll_kind bars ≡ true
across_kind n slots bars none wanted =
    barred (has_kind n.kind slots) (has_kind scroll_kind bars) n.vertical_bar
    (ap (λ h. not (has_kind n.kind slots) || (nat_lt 0 ((if n.vertical_bar then 1 else 0) + (if h then 1 else 0)) && not (has_kind scroll_kind bars))) (sym wanted) ∙ none)
  where
    barred : (a b v : Bool) → (not a || (nat_lt 0 ((if v then 1 else 0) + 1) && not b)) ≡ false → b ≡ true
    barred a true v e = refl
    barred true false true e = absurd (cc)
    barred true false false e = absurd (cc)
    barred false false v e = absurd (cc)

module _ (n : NewList) (o : Offered) (kept rest : List ListSlot) (held left : List ControlSlot) (offered : AreOffered n o kept rest held left) where
  pub vertical_offered : vertical_offer n held ≡ definition_of o.vertical
  vertical_offered = vertical_is n.vertical_bar o.vertical held offered.between offered.vertical

  pub horizontal_offered : horizontal_offer n held ≡ definition_of o.horizontal
  horizontal_offered = horizontal_is n.vertical_bar n.horizontal_bar o.vertical o.horizontal held offered.between left offered.vertical offered.horizontal

  -- the list's definition was taken
  pub list_taken : (l : ListLoan) → o.list ≡ Some l → IsTaken (λ (d : ListDefinition). d.stage) n.kind l kept rest
  list_taken l e = subst (λ x. IsOffer (λ (d : ListDefinition). d.stage) n.kind x kept rest) e offered.list

  -- and the definitions of the bars that are there
  pub no_bar_taken : o.vertical ≡ None → o.horizontal ≡ None → left ≡ held
  no_bar_taken v h =
      none_taken stage_of scroll_kind n.horizontal_bar offered.between left (subst (λ x. IsOfferIf stage_of n.horizontal_bar scroll_kind x offered.between left) h offered.horizontal)
      ∙ none_taken stage_of scroll_kind n.vertical_bar held offered.between (subst (λ x. IsOfferIf stage_of n.vertical_bar scroll_kind x held offered.between) v offered.vertical)

  down_taken : (l : ControlLoan) → o.vertical ≡ Some l → IsTaken stage_of scroll_kind l held offered.between
  down_taken l e = some_taken stage_of scroll_kind n.vertical_bar l held offered.between (subst (λ x. IsOfferIf stage_of n.vertical_bar scroll_kind x held offered.between) e offered.vertical)

  across_taken : (l : ControlLoan) → o.horizontal ≡ Some l → IsTaken stage_of scroll_kind l offered.between left
  across_taken l e = some_taken stage_of scroll_kind n.horizontal_bar l offered.between left (subst (λ x. IsOfferIf stage_of n.horizontal_bar scroll_kind x offered.between left) e offered.horizontal)

  pub vertical_taken : (l : ControlLoan) → o.vertical ≡ Some l → o.horizontal ≡ None → IsTaken stage_of scroll_kind l held left
  vertical_taken l v h =
      subst (IsTaken stage_of scroll_kind l held)
      (sym (none_taken stage_of scroll_kind n.horizontal_bar offered.between left (subst (λ x. IsOfferIf stage_of n.horizontal_bar scroll_kind x offered.between left) h offered.horizontal)))
      (down_taken l v)

  pub horizontal_taken : (l : ControlLoan) → o.vertical ≡ None → o.horizontal ≡ Some l → IsTaken stage_of scroll_kind l held left
  horizontal_taken l v h =
      subst (λ old. IsTaken stage_of scroll_kind l old left)
      (none_taken stage_of scroll_kind n.vertical_bar held offered.between (subst (λ x. IsOfferIf stage_of n.vertical_bar scroll_kind x held offered.between) v offered.vertical))
      (across_taken l h)

  pub both_taken : (l k : ControlLoan) → o.vertical ≡ Some l → o.horizontal ≡ Some k → IsTaken stage_of scroll_kind l held offered.between × IsTaken stage_of scroll_kind k offered.between left
  both_taken l k v h = (down_taken l v, across_taken k h)

  -- what was taken can go back, one after the other, and all is as it was
  pub horizontal_back : MayGoBack stage_of o.horizontal left
  horizontal_back = may_go_back stage_of scroll_kind n.horizontal_bar o.horizontal offered.between left offered.horizontal

  module _ (mid : List ControlSlot) (back : IsBack o.horizontal left mid) where
    between_again : mid ≡ offered.between
    between_again = back_is_old stage_of scroll_kind n.horizontal_bar o.horizontal offered.between left mid offered.horizontal back

    pub vertical_back : MayGoBack stage_of o.vertical mid
    vertical_back = subst (MayGoBack stage_of o.vertical) (sym between_again) (may_go_back stage_of scroll_kind n.vertical_bar o.vertical held offered.between offered.vertical)

    pub bars_back : (end : List ControlSlot) → IsBack o.vertical mid end → end ≡ held
    bars_back end back = back_is_old stage_of scroll_kind n.vertical_bar o.vertical held offered.between end offered.vertical (subst (λ m. IsBack o.vertical m end) between_again back)

  pub list_back : MayGoBack (λ (d : ListDefinition). d.stage) o.list rest
  list_back = may_go_back (λ (d : ListDefinition). d.stage) n.kind true o.list kept rest offered.list

  pub lists_back : (end : List ListSlot) → IsBack o.list rest end → end ≡ kept
  lists_back end back = back_is_old (λ (d : ListDefinition). d.stage) n.kind true o.list kept rest end offered.list back
