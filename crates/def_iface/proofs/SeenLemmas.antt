-- What is said of slots with boxes holds of the slots with what the boxes mean.
use Rattle.std.proofs.Common.{◌≡◌, ℕ, false, ◌&&◌, ◌||◌, List, [], ◌∷◌, ◌++◌, set, Option, Some, None, refl, ap, ◌∙◌, position}
use Rattle.std.specs.Option.{option_map, option_map_or, is_none, IfSome}
use Rattle.std.specs.List.{slice_get}
use Rattle.std.proofs.lemmas.Option.{slice_get-map}
use Rattle.std.proofs.lemmas.List.{map-set, map-append}
use Rattle.tb_geom.specs.declared.refusal.Refusal.{Refusal}
use Rattle.tb_geom.specs.declared.refusal.Refusal.TheVariants.{NoSuchName, NoDefinition}
use Rattle.def_iface.specs.declared.window_def.Stage.{Stage}
use Rattle.def_iface.specs.Slots.{SlotOf, LoanOf, seen_slot, seen_slots, seen_loan, is_kind, has_kind, holds_fresh, offers, first_offer, holding, is_left, IsTaken, IsNotTaken, IsPutBack}
use Rattle.def_iface.proofs.StockLemmas.{position-map}

-- where a box stands in its life: where what it means does
abbrev pub stage_by : {B D : Type 0} → (B → D) → (D → Stage) → B → Stage
stage_by meaning stage b = stage (meaning b)

module _ {B D : Type 0} (meaning : B → D) where
  pub kind_seen : (kind : List ℕ) (slots : List (SlotOf B)) → has_kind kind (seen_slots meaning slots) ≡ has_kind kind slots
  kind_seen kind [] = refl
  kind_seen kind (s ∷ slots) = ap (λ b. is_kind kind s || b) (kind_seen kind slots)

  pub added_seen : (old new : List (SlotOf B)) (kind : List ℕ) (b : B) → new ≡ old ++ record { kind = kind; held = Some b } ∷ []
      → seen_slots meaning new ≡ seen_slots meaning old ++ record { kind = kind; held = Some (meaning b) } ∷ []
  added_seen old new kind b e = ap (seen_slots meaning) e ∙ map-append (seen_slot meaning) old (record { kind = kind; held = Some b } ∷ [])

  pub left_seen : (slot : ℕ) (slots : List (SlotOf B)) → is_left slot (seen_slots meaning slots) ≡ is_left slot slots
  left_seen slot slots = ap (λ o. option_map_or (λ (s : SlotOf D). is_none s.held) o false) (slice_get-map (seen_slot meaning) slots slot) ∙ each (slice_get slots slot)
    where
      empty : (held : Option B) → is_none (option_map meaning held) ≡ is_none held
      empty None = refl
      empty (Some b) = refl

      each : (o : Option (SlotOf B)) → option_map_or (λ (s : SlotOf D). is_none s.held) (option_map (seen_slot meaning) o) false ≡ option_map_or (λ s. is_none s.held) o false
      each None = refl
      each (Some s) = empty s.held

  pub put_back_seen : (loan : LoanOf B) (old new : List (SlotOf B)) → IsPutBack loan old new → IsPutBack (seen_loan meaning loan) (seen_slots meaning old) (seen_slots meaning new)
  put_back_seen loan old new put = by_get (slice_get old loan.slot) refl put
    where
      by_get : (o : Option (SlotOf B)) → slice_get old loan.slot ≡ o → IfSome o (λ s. new ≡ set old loan.slot (holding (Some loan.definition) s)) → IsPutBack (seen_loan meaning loan) (seen_slots meaning old) (seen_slots meaning new)
      by_get None e p = rw (slice_get-map (seen_slot meaning) old loan.slot, e) tt
      by_get (Some s) e p = rw (slice_get-map (seen_slot meaning) old loan.slot, e) (ap (seen_slots meaning) p ∙ map-set (seen_slot meaning) old loan.slot (holding (Some loan.definition) s))

  module _ (stage : D → Stage) where
    fresh_seen : (held : Option B) → holds_fresh stage (option_map meaning held) ≡ holds_fresh (λ b. stage (meaning b)) held
    fresh_seen None = refl
    fresh_seen (Some b) = refl

    pub offer_seen : (kind : List ℕ) (slots : List (SlotOf B)) → first_offer stage kind (seen_slots meaning slots) ≡ first_offer (λ b. stage (meaning b)) kind slots
    offer_seen kind slots = position-map (offers stage kind) (seen_slot meaning) slots ∙ (λ i. position (λ s. is_kind kind s && fresh_seen s.held i) slots)

    pub taken_seen : (kind : List ℕ) (loan : LoanOf B) (old new : List (SlotOf B)) → IsTaken (λ b. stage (meaning b)) kind loan old new
        → IsTaken stage kind (seen_loan meaning loan) (seen_slots meaning old) (seen_slots meaning new)
    taken_seen kind loan old new taken = record {
      first = offer_seen kind old ∙ taken.first;
      held = slice_get-map (seen_slot meaning) old loan.slot ∙ ap (option_map (seen_slot meaning)) taken.held;
      fresh = taken.fresh;
      left = ap (seen_slots meaning) taken.left ∙ map-set (seen_slot meaning) old loan.slot (record { kind = kind; held = None });
    }

    pub not_taken_seen : (kind : List ℕ) (slots : List (SlotOf B)) (why : Refusal) → IsNotTaken (λ b. stage (meaning b)) kind slots why → IsNotTaken stage kind (seen_slots meaning slots) why
    not_taken_seen kind slots NoSuchName e = kind_seen kind slots ∙ e
    not_taken_seen kind slots NoDefinition e = (kind_seen kind slots ∙ e.0, offer_seen kind slots ∙ e.1)
    not_taken_seen kind slots _ e = absurd e
