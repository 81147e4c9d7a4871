-- Why a new window is refused, once its definition was taken.
use Rattle.std.proofs.Common.{◌≡◌, inl, inr, ℕ, zero, suc, Bool, true, false, not, ◌||◌, if◌then◌else◌, List, [], ◌∷◌, ◌++◌, length, Some, None, refl, ap, ◌∙◌, subst}
use Rattle.std.specs.Prelude.{slice_get}
use Rattle.std.specs.Option.{option_and_then}
use Rattle.std.proofs.lemmas.List.{length-map}
use Rattle.std.proofs.lemmas.Slice.Eq.{bytes_eq-Decides}
use Rattle.tb_geom.specs.declared.refusal.Refusal.{Refusal}
use Rattle.tb_geom.specs.declared.refusal.Refusal.TheVariants.{OutOfRange, TooLong, TooMany, NoDefinition}
use Rattle.def_iface.specs.Slots.{TakenBox}
use Rattle.def_iface.specs.WindowMeaning.{WindowDefinition, WindowLoan}
use Rattle.def_iface.specs.WindowSlots.{WindowSlot, IsTaken, IsNotTaken, is_kind, has_kind, offered}
use Rattle.desk_call.specs.declared.window.WindowCall.TheVariants.{New}
use Rattle.desk_call.specs.declared.window.NewWindow.{NewWindow}
use Rattle.window_mgr.specs.declared.manager.WindowManager.{WindowManager}
use Rattle.window_mgr.specs.FullDesk.{FullDesk}
use Rattle.vis_update.specs.Records.{record_of}
use Rattle.window_mgr.specs.Records.{desk_of, state_of}
use Rattle.tb_geom.specs.Refusals.{first_refusal}
use Rattle.window_mgr.specs.Refused.{judged_refusals, new_window_refusals}
use Rattle.vis_update.specs.Places.{is_placed}
use Rattle.window_mgr.specs.Step.{IsCallRefused}
use Rattle.window_mgr.specs.Planned.{IsUnplanned}

module _ (kind : List ℕ) (loan : WindowLoan) (old left : List WindowSlot) (took : IsTaken kind loan old left) where
  -- the stock would give the definition that it gave
  pub taken_was_offered : offered kind old ≡ Some loan.definition
  taken_was_offered =
      ap (λ o. option_and_then (λ at. option_and_then (λ (s : WindowSlot). s.held) (slice_get old at)) o) took.first
      ∙ ap (λ o. option_and_then (λ (s : WindowSlot). s.held) o) took.held

  any_at : (slots : List WindowSlot) (at : ℕ) (s : WindowSlot) → slice_get slots at ≡ Some s → is_kind kind s ≡ true → has_kind kind slots ≡ true
  any_at [] at s e is = absurd (cc)
  any_at (t ∷ slots) zero s e is =
      let same : t ≡ s = cc in
      ap (λ b. b || has_kind kind slots) (ap (is_kind kind) same ∙ is)
  any_at (t ∷ slots) (suc at) s e is = ap (λ b. is_kind kind t || b) (any_at slots at s e is) ∙ or-true (is_kind kind t)
    where
      or-true : (b : Bool) → (b || true) ≡ true
      or-true true = refl
      or-true false = refl

  -- and has a slot for the kind
  pub taken_was_there : has_kind kind old ≡ true
  taken_was_there = any_at old loan.slot _ took.held ((bytes_eq-Decides kind kind).1 refl)

-- with a definition at hand only place, title and the count of windows refuse
pub refusal_with : (w : NewWindow) (desk : FullDesk) (d : WindowDefinition) → has_kind w.kind desk.stock ≡ true → offered w.kind desk.stock ≡ Some d → first_refusal (new_window_refusals w desk) ≡ first_refusal (judged_refusals w (is_placed (Some d) w.place w.size) (length desk.windows) desk.next)
refusal_with w desk d there at_hand = rw (there, at_hand) (by_tests (is_placed (Some d) w.place w.size) _ _)
  where
    by_tests : (a b c : Bool) → (if not a then Some OutOfRange else (if b then Some TooLong else (if c then Some TooMany else (if false then Some NoDefinition else None)))) ≡ (if not a then Some OutOfRange else (if b then Some TooLong else (if c then Some TooMany else None)))
    by_tests false b c = refl
    by_tests true true c = refl
    by_tests true false true = refl
    by_tests true false false = refl

-- with none at hand the name of the kind refuses nothing, and that none is left comes last
pub refusal_without : (w : NewWindow) (desk : FullDesk) (kind : List ℕ) (e : Refusal) → kind ≡ w.kind → IsNotTaken kind desk.stock NoDefinition
    → first_refusal (judged_refusals w (is_placed None w.place w.size) (length desk.windows) desk.next ++ (true, NoDefinition) ∷ []) ≡ Some e
    → first_refusal (new_window_refusals w desk) ≡ Some e
refusal_without w desk kind e named none judged =
    let there = subst (λ k. IsNotTaken k desk.stock NoDefinition) named none in
    let at_hand : offered w.kind desk.stock ≡ None = ap (λ o. option_and_then (λ at. option_and_then (λ (s : WindowSlot). s.held) (slice_get desk.stock at)) o) there.1 in
    rw (there.0, at_hand) judged

module _ {V : Type 0} {H : V → Type 0} (loan : TakenBox V H → WindowLoan) (w : NewWindow) (taken : WindowLoan) (t : WindowManager V H) (slots left : List WindowSlot) (took : IsTaken w.kind taken slots left) where
  -- why a new window is refused, by the judgement of a window manager
  pub refusal_is : first_refusal (new_window_refusals w (desk_of loan t slots)) ≡ first_refusal (judged_refusals w (is_placed (Some taken.definition) w.place w.size) (length t.windows.records.items) t.windows.next)
  refusal_is =
      refusal_with w (desk_of loan t slots) taken.definition (taken_was_there w.kind taken slots left took) (taken_was_offered w.kind taken slots left took)
      ∙ ap (λ n. first_refusal (judged_refusals w (is_placed (Some taken.definition) w.place w.size) n t.windows.next)) (length-map t.windows.records.items (record_of loan))

  -- what is not planned is refused for the written reason
  pub unplanned_is_refused : (e : Refusal) → IsUnplanned w (is_placed (Some taken.definition) w.place w.size) (length t.windows.records.items) t.windows.next e → IsCallRefused (New w) e (state_of loan t slots)
  unplanned_is_refused e (inl first) = inl (refusal_is ∙ first)
  unplanned_is_refused e (inr memory) = inr (refusal_is ∙ memory.0, (refl, memory.1))
