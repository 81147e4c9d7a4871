-- Why an operation in a window is refused.
use Rattle.std.proofs.Common.{◌≡◌, inl, inr, ℕ, ◌<◌, ◌≤◌, true, false, [], length, Some, None, refl, sym, ap, ◌∙◌, subst, arith}
use Rattle.std.specs.Prelude.{slice_get, IsSomeAnd, nat_le, get_or}
use Rattle.std.proofs.lemmas.Bool.Decides.{nat_tests}
use Rattle.std.specs.Option.{option_map}
use Rattle.std.proofs.lemmas.Option.{slice_get-map, slice_get-get_or, slice_get_within}
use Rattle.tb_geom.specs.declared.refusal.Refusal.{Refusal}
use Rattle.tb_geom.specs.declared.refusal.Refusal.TheVariants.{BadSyntax, BadRegion, NoSuchWindow, OutOfRange, TooLong, TooMany}
use Rattle.lent_ops.specs.OpRefs.{IsGood, IsRefused}
use Rattle.def_iface.specs.Slots.{TakenBox}
use Rattle.def_iface.specs.WindowMeaning.{WindowLoan}
use Rattle.desk_call.specs.declared.window.Drawing.{Drawing}
use Rattle.desk_call.specs.declared.window.WindowCall.TheVariants.{Draw}
use Rattle.window_mgr.specs.declared.manager.WindowManager.{WindowManager}
use Rattle.window_list.specs.declared.window.Window as code
use Rattle.vis_update.specs.Records.{WindowRecord}
use Rattle.window_mgr.specs.FullDesk.{FullDesk}
use Rattle.window_mgr.specs.Finding.{record_with}
use Rattle.window_mgr.specs.Kept.{IsKept}
use Rattle.window_mgr.specs.Planned.{MayDraw}
use Rattle.vis_update.specs.Records.{record_of}
use Rattle.window_mgr.specs.Records.{desk_of, state_of, look_on}
use Rattle.window_mgr.specs.Refused.{IsRefusal, is_formal, most_operations}
use Rattle.window_mgr.proofs.FindLemmas.{record_at}

-- ---- the window of a number in a window manager

module _ {V : Type 0} {H : V → Type 0} (loan : TakenBox V H → WindowLoan) (t : WindowManager V H) (kept : IsKept loan t) where
  pub record_there : (at n : ℕ) (x : code.Window V H) → slice_get t.windows.records.items at ≡ Some x → x.serial ≡ n → record_with n (desk_of loan t []).windows ≡ Some (record_of loan x)
  record_there at n x there number =
      ap (λ k. record_with k (desk_of loan t []).windows) (sym number)
      ∙ record_at (look_on t) (desk_of loan t []).windows at (record_of loan x) kept.whole.sound.distinct (slice_get-map (record_of loan) t.windows.records.items at ∙ ap (option_map (record_of loan)) there)

  -- the window that was found at this place
  pub found_there : (at n : ℕ) → IsSomeAnd (slice_get t.windows.records.items at) (λ w. w.serial ≡ n) → (x : code.Window V H) × (slice_get t.windows.records.items at ≡ Some x) × (x.serial ≡ n)
  found_there at n h = by_get (slice_get t.windows.records.items at) refl h
    where
      by_get : (o : _) → slice_get t.windows.records.items at ≡ o → IsSomeAnd o (λ w. w.serial ≡ n) → (x : code.Window V H) × (slice_get t.windows.records.items at ≡ Some x) × (x.serial ≡ n)
      by_get None e p = absurd p
      by_get (Some x) e p = (x, e, p)

-- ---- the refusals, one after another

module _ {V : Type 0} {H : V → Type 0} (loan : TakenBox V H → WindowLoan) (t : WindowManager V H) (kept : IsKept loan t) (d : Drawing) where
  abbrev desk : FullDesk
  desk = desk_of loan t []

  -- the call refuses for this
  abbrev Refuses : Refusal → Type 0
  Refuses e = IsRefusal (Draw d) (state_of loan t []) (Some e)

  -- bytes that have not their form come first
  pub formal_first : (e : Refusal) → IsRefused d.operation e → is_formal e ≡ true → Refuses e
  formal_first e (inl (is, rows)) formal = subst Refuses (sym is) (Some BadSyntax, inl (refl, rows), refl)
  formal_first e (inr (inl (is, bad))) formal = subst Refuses (sym is) (Some BadRegion, inr (inl (refl, bad)), refl)
  formal_first e (inr (inr (inl (is, far)))) formal = let two : is_formal OutOfRange ≡ true = sym (ap is_formal is) ∙ formal in absurd (cc)
  formal_first e (inr (inr (inr (is, long)))) formal = let two : is_formal TooLong ≡ true = sym (ap is_formal is) ∙ formal in absurd (cc)

  -- then a window that is not there
  pub no_window : IsGood d.operation → record_with d.window desk.windows ≡ None → Refuses NoSuchWindow
  no_window good none = (None, good, rw none refl)

  pub no_window_first : (e : Refusal) → IsRefused d.operation e → is_formal e ≡ false → record_with d.window desk.windows ≡ None → Refuses NoSuchWindow
  no_window_first e (inl (is, rows)) formal none = let two : is_formal BadSyntax ≡ false = sym (ap is_formal is) ∙ formal in absurd (cc)
  no_window_first e (inr (inl (is, bad))) formal none = let two : is_formal BadRegion ≡ false = sym (ap is_formal is) ∙ formal in absurd (cc)
  no_window_first e (inr (inr (inl (is, far)))) formal none = (Some OutOfRange, inr (inr (inl (refl, far))), rw none refl)
  no_window_first e (inr (inr (inr (is, long)))) formal none = (Some TooLong, inr (inr (inr (refl, long))), rw none refl)

  judged_of : (w : WindowRecord) (e : Refusal) → IsRefused d.operation e → is_formal e ≡ false → record_with d.window desk.windows ≡ Some w → Refuses e
  judged_of w e (inl (is, rows)) formal found = let two : is_formal BadSyntax ≡ false = sym (ap is_formal is) ∙ formal in absurd (cc)
  judged_of w e (inr (inl (is, bad))) formal found = let two : is_formal BadRegion ≡ false = sym (ap is_formal is) ∙ formal in absurd (cc)
  judged_of w e (inr (inr (inl (is, far)))) formal found = subst Refuses (sym is) (Some OutOfRange, inr (inr (inl (refl, far))), rw found refl)
  judged_of w e (inr (inr (inr (is, long)))) formal found = subst Refuses (sym is) (Some TooLong, inr (inr (inr (refl, long))), rw found refl)

  -- then the numbers and the text of the operation
  pub then_judged : (at : ℕ) (e : Refusal) → IsRefused d.operation e → is_formal e ≡ false → IsSomeAnd (slice_get t.windows.records.items at) (λ w. w.serial ≡ d.window) → Refuses e
  then_judged at e judged formal here =
      let found = found_there loan t kept at d.window here in
      judged_of (record_of loan found.0) e judged formal (record_there loan t kept at d.window found.0 found.1 found.2)

  -- then a picture that is full; and nothing else
  module _ (at : ℕ) (good : IsGood d.operation) (here : IsSomeAnd (slice_get t.windows.records.items at) (λ w. w.serial ≡ d.window)) (x : code.Window V H) (read : x ≡ get_or t.windows.records.items at x) where
    there : slice_get t.windows.records.items at ≡ Some x
    there =
        let found = found_there loan t kept at d.window here in
        slice_get-get_or t.windows.records.items at x (slice_get_within t.windows.records.items at found.0 found.1) ∙ ap Some (sym read)

    number : x.serial ≡ d.window
    number =
        let found = found_there loan t kept at d.window here in
        let both : Some found.0 ≡ Some x = sym found.1 ∙ there in
        let same : found.0 ≡ x = cc in
        sym (ap (λ (w : code.Window V H). w.serial) same) ∙ found.2

    pub full : most_operations ≤ length x.picture → Refuses TooMany
    full many =
        let test : nat_le 1024 (length x.picture) ≡ true = grind (arith, nat_tests) in
        (None, good, rw (record_there loan t kept at d.window x there number, test) refl)

    pub may_draw : length x.picture < most_operations → MayDraw d t at
    may_draw few = record { good = good; window = x; there = there; serial = number; room = few }

  pub unrefused : (at : ℕ) → MayDraw d t at → IsRefusal (Draw d) (state_of loan t []) None
  unrefused at may =
      let few : length may.window.picture < 1024 = may.room in
      let test : nat_le 1024 (length may.window.picture) ≡ false = grind (arith, nat_tests) in
      (None, may.good, rw (record_there loan t kept at d.window may.window may.there may.serial, test) refl)
