-- Calls that tell something of a text record, as steps.
use Rattle.std.proofs.Common.{◌≡◌, ℕ, Bool, true, false, List, [], ◌∷◌, get_or, Option, Some, None, Ok, Err, if◌then◌else◌, refl, sym, ap, ◌∙◌}
use Rattle.std.specs.Prelude.{nat_abs, not, pos}
use Rattle.tb_geom.specs.declared.refusal.Refusal.TheVariants.{OutOfRange}
use Rattle.tb_geom.specs.Points.{PixelSet}
use Rattle.tb_geom.specs.Refusals.{first_refusal}
use Rattle.desk_layers.specs.declared.part.Part.{Part}
use Rattle.def_iface.specs.Slots.{TakenBox}
use Rattle.def_iface.specs.WindowMeaning.{WindowLoan}
use Rattle.def_iface.specs.WindowSlots.{WindowSlot}
use Rattle.desk_call.specs.declared.text.TextCall.TheVariants as asks
use Rattle.desk_call.specs.declared.text.TextNumber.{TextNumber}
use Rattle.desk_call.specs.declared.text.TextReply.{TextReply}
use Rattle.window_mgr.specs.declared.manager.WindowManager.{WindowManager}
use Rattle.window_mgr.specs.DeskStates.{Opened}
use Rattle.control_mgr.proofs.Lays.{one_item}
use Rattle.control_mgr.proofs.Places.{read_is}
use Rattle.text_mgr.specs.declared.spots.TextAt.{TextAt}
use Rattle.text_mgr.specs.declared.texts.Texts.{Texts}
use Rattle.text_mgr.specs.Spots.{IsSpotOf}
use Rattle.text_mgr.specs.TextDesks.{KeptText}
use Rattle.text_mgr.specs.CallEdits.{is_outside}
use Rattle.text_mgr.specs.TextRefusals.{is_line, text_refusals}
use Rattle.text_mgr.specs.TextSteps.{IsTextStep, line_told, place_told}
use Rattle.text_mgr.specs.WholeTexts.{LeavesTexts, texts_state}
use Rattle.text_mgr.proofs.Places.{named_there, record_there}
use Rattle.text_mgr.proofs.Steps.{desk_seen, other_reasons, refused_by, told, unchanged}
use Rattle.text_mgr.proofs.NewJudged.{allowed, not_allowed}

-- what is there only inside of a range
is_out : {A : Type 0} (b : Bool) (x : A) → (if b then None else Some x) ≡ None → b ≡ true
is_out true x e = refl
is_out false x e = absurd (cc)

is_in : {A : Type 0} (b : Bool) (x y : A) → (if b then None else Some x) ≡ Some y → (b ≡ false) × (y ≡ x)
is_in true x y e = absurd (cc)
is_in false x y e = (refl, cc)

module _ {V : Type 0} {H : V → Type 0} (loan : TakenBox V H → WindowLoan) (t : WindowManager V H) (m : Texts) (s : TextAt) where
  module _ (n : TextNumber) (is : IsSpotOf loan n.text t m s) where
    -- an offset is named where the number lies in the range of offsets
    abbrev offset_if : Option ℕ
    offset_if = if is_outside (pos 0) (pos 32767) n.number then None else Some (nat_abs n.number)

    reasons : (others : List ℕ → Part → PixelSet) (slots : List WindowSlot) → first_refusal (text_refusals (asks.PlaceOf n) (desk_seen loan others t slots m) (texts_state m))
        ≡ first_refusal ((is_outside (pos 0) (pos 32767) n.number, OutOfRange) ∷ [])
    reasons others slots = other_reasons loan n.text t m s is (λ r. (is_outside (pos 0) (pos 32767) n.number, OutOfRange) ∷ [])

    -- where the number is no offset
    pub no_offset : offset_if ≡ None → (o : Opened) → LeavesTexts loan (IsTextStep (asks.PlaceOf n) (Err OutOfRange)) t o m t o m
    no_offset e o =
        refused_by loan (asks.PlaceOf n) (Err OutOfRange) OutOfRange t o m refl (λ others slots.
        reasons others slots ∙ (λ i. first_refusal ((is_out (is_outside (pos 0) (pos 32767) n.number) (nat_abs n.number) e i, OutOfRange) ∷ [])))

  module _ (n : TextNumber) (is : IsSpotOf loan n.text t m s) (y : KeptText) (here : y ≡ get_or m.list.items.items s.text y) where
    abbrev there : KeptText
    there = (record_there loan n.text t m s is).item

    item_is : there ≡ y
    item_is = one_item m.list.items.items s.text there y is.low (read_is m.list.items.items s.text there (record_there loan n.text t m s is).there) here

    -- where there is no such line
    pub no_line : (if is_line n.number y.kept then Some (line_told (nat_abs n.number) y.kept) else None) ≡ None → (o : Opened) → LeavesTexts loan (IsTextStep (asks.Line n) (Err OutOfRange)) t o m t o m
    no_line e o =
        refused_by loan (asks.Line n) (Err OutOfRange) OutOfRange t o m refl (λ others slots.
        other_reasons loan n.text t m s is (λ r. (not (is_line n.number r), OutOfRange) ∷ [])
        ∙ (λ i. first_refusal ((not (is_line n.number (item_is i).kept), OutOfRange) ∷ []))
        ∙ (λ i. first_refusal ((not (not_allowed (is_line n.number y.kept) (line_told (nat_abs n.number) y.kept) e i), OutOfRange) ∷ [])))

    pub line_tells : (answer : TextReply) → (if is_line n.number y.kept then Some (line_told (nat_abs n.number) y.kept) else None) ≡ Some answer → (o : Opened)
        → LeavesTexts loan (IsTextStep (asks.Line n) (Ok answer)) t o m t o m
    line_tells answer e o =
        let may = allowed (is_line n.number y.kept) (line_told (nat_abs n.number) y.kept) answer e in
        told loan (asks.Line n) answer t o m (λ others slots.
        other_reasons loan n.text t m s is (λ r. (not (is_line n.number r), OutOfRange) ∷ [])
        ∙ (λ i. first_refusal ((not (is_line n.number (item_is i).kept), OutOfRange) ∷ []))
        ∙ (λ i. first_refusal ((not (may.0 i), OutOfRange) ∷ [])))
        (λ others slots. (there, named_there loan n.text t m s is, (may.1 ∙ ap (λ (z : KeptText). line_told (nat_abs n.number) z.kept) (sym item_is), unchanged loan others t o slots m)))

    pub place_tells : (at : ℕ) (answer : TextReply) → offset_if n is ≡ Some at → answer ≡ place_told at y.kept → (o : Opened) → LeavesTexts loan (IsTextStep (asks.PlaceOf n) (Ok answer)) t o m t o m
    place_tells at answer e told_is o =
        let may = is_in (is_outside (pos 0) (pos 32767) n.number) (nat_abs n.number) at e in
        told loan (asks.PlaceOf n) answer t o m (λ others slots. reasons n is others slots ∙ (λ i. first_refusal ((may.0 i, OutOfRange) ∷ [])))
        (λ others slots. (there, named_there loan n.text t m s is, (told_is ∙ (λ i. place_told (may.1 i) (sym item_is i).kept), unchanged loan others t o slots m)))
