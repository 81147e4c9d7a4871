-- Why a new control is refused, as the code judges it.
use Rattle.std.proofs.Common.{◌≡◌, ℕ, ◌<◌, ◌≤◌, Bool, true, false, not, ◌||◌, List, [], ◌∷◌, ◌++◌, length, Option, None, Some, Result, Err, MatchResult, refl, sym, ap, ◌∙◌, subst, arith}
use Rattle.std.specs.Prelude.{is_none, nat_le, nat_lt}
use Rattle.std.proofs.lemmas.Bool.Decides.{nat_tests}
use Rattle.tb_geom.specs.declared.refusal.Refusal.{Refusal}
use Rattle.tb_geom.specs.declared.refusal.Refusal.TheVariants.{NoDefinition, NoSuchWindow, OutOfRange, TooLong, TooMany}
use Rattle.tb_geom.specs.Refusals.{first_refusal}
use Rattle.window_items.specs.Items.{count_of}
use Rattle.window_items.proofs.SeenLemmas.{count_of-seen}
use Rattle.def_iface.specs.Slots.{TakenBox}
use Rattle.def_iface.specs.ControlMeaning.{ControlDefinition, ControlLoan}
use Rattle.def_iface.specs.WindowMeaning.{WindowLoan}
use Rattle.desk_call.specs.declared.control.NewControl.{NewControl}
use Rattle.vis_update.specs.Records.{WindowRecord, record_of}
use Rattle.window_list.specs.declared.window.Window.{Window}
use Rattle.window_mgr.specs.declared.manager.WindowManager.{WindowManager}
use Rattle.window_mgr.specs.Edits.{IsWindowAt, StandsAt}
use Rattle.window_mgr.specs.Finding.{record_with}
use Rattle.window_mgr.specs.Kept.{IsKept}
use Rattle.window_mgr.specs.Records.{desk_of, look_on}
use Rattle.window_mgr.proofs.Covered.{record_there}
use Rattle.window_mgr.proofs.FindLemmas.{record_at}
use Rattle.control_mgr.specs.declared.controls.Controls.{Controls}
use Rattle.control_mgr.specs.declared.making.Ticket.{Ticket}
use Rattle.control_mgr.specs.ControlRefusals.{is_full, is_setting, judged_refusals}
use Rattle.control_mgr.specs.Judged.{may_be_in, may_be_placed}
use Rattle.control_mgr.specs.Making.{IsTicket, judged_by}
use Rattle.control_mgr.specs.WholeControls.{records_of}
use Rattle.control_mgr.proofs.Lays.{one_item}
use Rattle.control_mgr.proofs.Steps.{first_behind, first_of}
use Rattle.control_mgr.specs.Seen.{kept_seen}

module _ {V : Type 0} {H : V → Type 0} {W : Type 0} {K : W → Type 0} (control_loan : TakenBox W K → ControlLoan) (n : NewControl) (d : Option ControlDefinition) (t : WindowManager V H) where
  -- whichever window stands there, the control may be placed in it
  pub placed_where : (at : ℕ) → StandsAt t.windows.records.items n.window at → (w : Window V H) → IsWindowAt t.windows.records.items at w → may_be_placed d n.place n.size w.place ≡ true
      → (v : Window V H) → IsWindowAt t.windows.records.items at v → may_be_placed d n.place n.size v.place ≡ true
  placed_where at stands w lies may v is = subst (λ (x : Window V H). may_be_placed d n.place n.size x.place ≡ true) (one_item t.windows.records.items at w v stands.0 lies is) may

module _ {V : Type 0} {H : V → Type 0} (loan : TakenBox V H → WindowLoan) {W : Type 0} {K : W → Type 0} (control_loan : TakenBox W K → ControlLoan)
    (n : NewControl) (d : Option ControlDefinition) (t : WindowManager V H) (m : Controls (TakenBox W K)) where
  -- an answer that is a refusal
  pub refused_so : (r : Result Ticket Refusal) (e : Refusal) → r ≡ Err e → judged_by loan control_loan n d t m ≡ Some e
      → MatchResult r (λ k. (judged_by loan control_loan n d t m ≡ None) × IsTicket control_loan n d t m k) (λ why. judged_by loan control_loan n d t m ≡ Some why)
  refused_so r e is why = subst (λ r. MatchResult r (λ k. (judged_by loan control_loan n d t m ≡ None) × IsTicket control_loan n d t m k) (λ why. judged_by loan control_loan n d t m ≡ Some why)) (sym is) why

  -- where no definition is left, that is the last reason
  pub none_is_left : judged_by loan control_loan n d t m ≡ None
      → first_refusal (judged_refusals n d (desk_of loan t []) (records_of control_loan m) m.list.next ++ (true, NoDefinition) ∷ []) ≡ Some NoDefinition
  none_is_left e = first_behind (judged_refusals n d (desk_of loan t []) (records_of control_loan m) m.list.next) ((true, NoDefinition) ∷ []) e

  pub judged_before : (e : Refusal) → judged_by loan control_loan n d t m ≡ Some e
      → first_refusal (judged_refusals n d (desk_of loan t []) (records_of control_loan m) m.list.next ++ (true, NoDefinition) ∷ []) ≡ Some e
  judged_before e why = first_of (judged_refusals n d (desk_of loan t []) (records_of control_loan m) m.list.next) ((true, NoDefinition) ∷ []) e why

  module _ (kept : IsKept loan t) (at : ℕ) (stands : StandsAt t.windows.records.items n.window at) (w : Window V H) (lies : IsWindowAt t.windows.records.items at w) where
    pub window_is : record_with n.window (desk_of loan t []).windows ≡ Some (record_of loan w)
    window_is =
        subst (λ s. record_with s (desk_of loan t []).windows ≡ Some (record_of loan w)) (stands.1 w lies)
        (record_at (look_on t) (desk_of loan t []).windows at (record_of loan w) kept.whole.sound.distinct (record_there loan t kept.slots kept.whole at stands.0 w lies))

    -- the reasons, where the window is this one
    abbrev reasons : Option WindowRecord → Bool → Bool → Bool → List (Bool × Refusal)
    reasons o setting long full =
        (is_none o, NoSuchWindow) ∷ (not (may_be_in d n.place n.size o), OutOfRange) ∷ (not setting, OutOfRange) ∷ (long, TooLong) ∷ (full, TooMany) ∷ []

    abbrev setting : Bool
    setting = is_setting n.minimum n.maximum n.value

    abbrev long : Bool
    long = nat_lt 255 (length n.title)

    abbrev full : Bool
    full = is_full (count_of n.window (records_of control_loan m)) m.list.next

    by_window : judged_by loan control_loan n d t m ≡ first_refusal (reasons (Some (record_of loan w)) setting long full)
    by_window = ap (λ o. first_refusal (reasons o setting long full)) window_is

    pub out_of_place : may_be_placed d n.place n.size w.place ≡ false → judged_by loan control_loan n d t m ≡ Some OutOfRange
    out_of_place e = by_window ∙ (λ i. first_refusal ((not (e i), OutOfRange) ∷ (not setting, OutOfRange) ∷ (long, TooLong) ∷ (full, TooMany) ∷ []))

    module _ (placed : may_be_placed d n.place n.size w.place ≡ true) where
      by_place : judged_by loan control_loan n d t m ≡ first_refusal ((not setting, OutOfRange) ∷ (long, TooLong) ∷ (full, TooMany) ∷ [])
      by_place = by_window ∙ (λ i. first_refusal ((not (placed i), OutOfRange) ∷ (not setting, OutOfRange) ∷ (long, TooLong) ∷ (full, TooMany) ∷ []))

      pub bad_setting : setting ≡ false → judged_by loan control_loan n d t m ≡ Some OutOfRange
      bad_setting e = by_place ∙ (λ i. first_refusal ((not (e i), OutOfRange) ∷ (long, TooLong) ∷ (full, TooMany) ∷ []))

      module _ (good : setting ≡ true) where
        by_setting : judged_by loan control_loan n d t m ≡ first_refusal ((long, TooLong) ∷ (full, TooMany) ∷ [])
        by_setting = by_place ∙ (λ i. first_refusal ((not (good i), OutOfRange) ∷ (long, TooLong) ∷ (full, TooMany) ∷ []))

        pub long_title : 255 < length n.title → judged_by loan control_loan n d t m ≡ Some TooLong
        long_title e = by_setting ∙ (λ i. first_refusal ((is_long (length n.title) e i, TooLong) ∷ (full, TooMany) ∷ []))
          where
            is_long : (k : ℕ) → 255 < k → nat_lt 255 k ≡ true
            is_long k e = grind (arith, nat_tests)

        module _ (short : length n.title ≤ 255) where
          by_title : judged_by loan control_loan n d t m ≡ first_refusal ((full, TooMany) ∷ [])
          by_title = by_setting ∙ (λ i. first_refusal ((is_short (length n.title) short i, TooLong) ∷ (full, TooMany) ∷ []))
            where
              is_short : (k : ℕ) → k ≤ 255 → nat_lt 255 k ≡ false
              is_short k e = grind (arith, nat_tests)

          pub no_serial : m.list.next ≡ None → judged_by loan control_loan n d t m ≡ Some TooMany
          no_serial e = by_title ∙ by_next (nat_le 64 (count_of n.window (records_of control_loan m))) m.list.next e
            where
              by_next : (b : Bool) (o : Option ℕ) → o ≡ None → first_refusal ((b || is_none o, TooMany) ∷ []) ≡ Some TooMany
              by_next true o e = refl
              by_next false o e = ap (λ o. first_refusal ((is_none o, TooMany) ∷ [])) e

          pub many : 64 ≤ count_of n.window m.list.items.items → judged_by loan control_loan n d t m ≡ Some TooMany
          many e =
              by_title ∙ ap (λ k. first_refusal ((nat_le 64 k || is_none m.list.next, TooMany) ∷ [])) (count_of-seen (kept_seen control_loan) n.window m.list.items.items)
              ∙ (λ i. first_refusal ((are_many (count_of n.window m.list.items.items) e i || is_none m.list.next, TooMany) ∷ []))
            where
              are_many : (k : ℕ) → 64 ≤ k → nat_le 64 k ≡ true
              are_many k e = grind (arith, nat_tests)

          pub is_given : (serial : ℕ) → m.list.next ≡ Some serial → count_of n.window m.list.items.items < 64
              → judged_by loan control_loan n d t m ≡ None
          is_given serial next few =
              by_title ∙ ap (λ c. first_refusal ((nat_le 64 c || is_none m.list.next, TooMany) ∷ [])) (count_of-seen (kept_seen control_loan) n.window m.list.items.items)
              ∙ (λ i. first_refusal ((are_few (count_of n.window m.list.items.items) few i || is_none (next i), TooMany) ∷ []))
            where
              are_few : (k : ℕ) → k < 64 → nat_le 64 k ≡ false
              are_few k e = grind (arith, nat_tests)
