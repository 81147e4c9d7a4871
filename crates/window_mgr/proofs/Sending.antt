-- Where a window goes that is sent behind another, or to the back of its class.
use Rattle.std.proofs.Common.{◌≡◌, ℕ, zero, suc, ◌+◌, ◌-◌, ◌<◌, ◌≤◌, ◌==◌, nat_lt, Bool, true, false, not, if◌then◌else◌, List, [], ◌∷◌, length, get_or, map, Option, None, Some, refl, sym, ap, ◌∙◌, subst, arith}
use mathlib.Core.Bool.{beq}
use Rattle.std.specs.Prelude.{slice_get, is_none}
use Rattle.std.specs.List.{insert, remove}
use Rattle.std.specs.Option.{option_map}
use Rattle.std.proofs.lemmas.Bool.{false≢true, eqb-true}
use Rattle.std.proofs.lemmas.Bool.Decides.{nat_tests}
use Rattle.std.proofs.lemmas.Option.{slice_get-map, slice_get-get_or}
use Rattle.tb_geom.specs.declared.refusal.Refusal.TheVariants.{NoSuchWindow, OutOfRange}
use Rattle.def_iface.specs.Slots.{TakenBox}
use Rattle.def_iface.specs.WindowMeaning.{WindowLoan}
use Rattle.desk_layers.specs.Desk as layers
use Rattle.desk_layers.proofs.Owning.{same_number}
use Rattle.window_list.specs.Classes.{back_place}
use Rattle.window_list.specs.Lists.{floats}
use Rattle.window_list.specs.declared.window.Window.{Window}
use Rattle.vis_update.specs.Records.{WindowRecord, Look, layered_window, record_of, is_floating}
use Rattle.vis_update.specs.Touches.{is_this}
use Rattle.desk_call.specs.declared.window.SendBehind.{SendBehind}
use Rattle.window_mgr.specs.declared.manager.WindowManager.{WindowManager}
use Rattle.window_mgr.specs.FullDesk.{FullDesk}
use Rattle.window_mgr.specs.Arrange.{put_behind}
use Rattle.window_mgr.specs.Edits.{IsWindowAt, StandsAt, IsPlaceBehind}
use Rattle.window_mgr.specs.Finding.{record_with}
use Rattle.window_mgr.specs.Kept.{IsKept}
use Rattle.window_mgr.specs.Records.{desk_of, look_on}
use Rattle.tb_geom.specs.Refusals.{first_refusal}
use Rattle.window_mgr.specs.Refused.{behind_refusals, is_named_missing, named_record, are_apart}
use Rattle.window_mgr.proofs.Arrangements.{place_after, place_next, put_behind_is}
use Rattle.window_mgr.proofs.ClassPlaces.{back_records}
use Rattle.window_mgr.proofs.DrawRefusals.{record_there}
use Rattle.window_mgr.proofs.EditSeats.{there_is, map-remove, same_at}
use Rattle.window_mgr.proofs.FindLemmas.{not_among}
use Rattle.window_mgr.proofs.PutIn.{put_in, put_is_insert, taken_out, length-put}

-- ---- places among the others

is_here : (x : ℕ) (r v : WindowRecord) (n : ℕ) → r ≡ v → v.serial ≡ x → (if r.serial == x then 1 else n) ≡ 1
is_here x r v n same its = ap (λ b. if b then 1 else n) (ap (λ k. k == x) (ap (λ (z : WindowRecord). z.serial) same ∙ its) ∙ same_number x)

module _ (look : Look) (x : ℕ) where
  -- the place behind the window of this number
  first_place : (ws : List WindowRecord) (k : ℕ) (v : WindowRecord) → layers.AreWindows (map (layered_window look) ws) → slice_get ws k ≡ Some v → v.serial ≡ x → place_next x ws ≡ suc k
  first_place [] k v distinct e its = absurd (cc)
  first_place (r ∷ ws) zero v distinct e its = let same : r ≡ v = cc in is_here x r v _ same its
  first_place (r ∷ ws) (suc k) v distinct e its =
      ap (λ b. if b then 1 else suc (place_next x ws)) (ap (λ n. r.serial == n) (sym its) ∙ not_among look r.serial ws k v distinct.0 e) ∙ ap suc (first_place ws k v distinct.1.1 e its)

  suc_place : (k i : ℕ) → suc (if nat_lt k i then k + 1 else k) ≡ (if nat_lt (suc k) (suc i) then suc k + 1 else suc k)
  suc_place k i = by_test (nat_lt k i) (nat_lt (suc k) (suc i)) refl refl
    where
      by_test : (a b : Bool) → nat_lt k i ≡ a → nat_lt (suc k) (suc i) ≡ b → suc (if a then k + 1 else k) ≡ (if b then suc k + 1 else suc k)
      by_test true true e f = omega arith
      by_test false false e f = refl
      by_test true false e f = absurd (grind (arith, nat_tests))
      by_test false true e f = absurd (grind (arith, nat_tests))

  none_before : (k : ℕ) → nat_lt (suc k) zero ≡ false
  none_before k = grind (arith, nat_tests)

  all_before : (k : ℕ) → nat_lt zero (suc k) ≡ true
  all_before k = grind (arith, nat_tests)

  -- the same among the windows but the one at a place
  place_is : (ws : List WindowRecord) (i k : ℕ) (w v : WindowRecord) → layers.AreWindows (map (layered_window look) ws) → slice_get ws i ≡ Some w → (w.serial == x) ≡ false → slice_get ws k ≡ Some v → v.serial ≡ x
      → place_next x (remove ws i) ≡ (if nat_lt k i then k + 1 else k)
  place_is [] i k w v distinct ew away ev its = absurd (cc)
  place_is (r ∷ ws) zero zero w v distinct ew away ev its =
      let same : w ≡ v = cc in
      absurd (false≢true (sym away ∙ ap (λ k. k == x) (ap (λ (z : WindowRecord). z.serial) same ∙ its) ∙ same_number x))
  place_is (r ∷ ws) zero (suc k) w v distinct ew away ev its = first_place ws k v distinct.1.1 ev its ∙ sym (ap (λ c. if c then suc k + 1 else suc k) (none_before k))
  place_is (r ∷ ws) (suc i) zero w v distinct ew away ev its = let same : r ≡ v = cc in is_here x r v _ same its ∙ sym (ap (λ c. if c then zero + 1 else zero) (all_before i))
  place_is (r ∷ ws) (suc i) (suc k) w v distinct ew away ev its =
      ap (λ b. if b then 1 else suc (place_next x (remove ws i))) (ap (λ n. r.serial == n) (sym its) ∙ not_among look r.serial ws k v distinct.0 ev)
      ∙ ap suc (place_is ws i k w v distinct.1.1 ew away ev its)
      ∙ suc_place k i

-- the place behind another window, among the windows but the one that goes there: the other stands before it or after it
pub behind_one_before : (i at : ℕ) → i < at → i + 1 ≡ (if nat_lt i at then i + 1 else i)
behind_one_before i at before = by_test (nat_lt i at) refl
  where
    by_test : (c : Bool) → nat_lt i at ≡ c → i + 1 ≡ (if c then i + 1 else i)
    by_test true e = refl
    by_test false e = absurd (grind (arith, nat_tests))

pub behind_one_after : (i at : ℕ) → at ≤ i → i ≡ (if nat_lt i at then i + 1 else i)
behind_one_after i at after = by_test (nat_lt i at) refl
  where
    by_test : (c : Bool) → nat_lt i at ≡ c → i ≡ (if c then i + 1 else i)
    by_test true e = absurd (grind (arith, nat_tests))
    by_test false e = refl

-- ---- the call

module _ {V : Type 0} {H : V → Type 0} (loan : TakenBox V H → WindowLoan) (t : WindowManager V H) (kept : IsKept loan t) (b : SendBehind) (at : ℕ) (stands : StandsAt t.windows.records.items b.window at) where
  abbrev desk : FullDesk
  desk = desk_of loan t []

  -- the window at a place, and its record
  module _ (s i : ℕ) (its : StandsAt t.windows.records.items s i) where
    w : (x : Window V H) × (x ≡ get_or t.windows.records.items i x)
    w = there_is t.windows.records.items i its.0

    there : slice_get t.windows.records.items i ≡ Some w.0
    there = slice_get-get_or t.windows.records.items i w.0 its.0 ∙ ap Some (sym w.1)

    record_at : slice_get desk.windows i ≡ Some (record_of loan w.0)
    record_at = slice_get-map (record_of loan) t.windows.records.items i ∙ ap (option_map (record_of loan)) there

    found : record_with s desk.windows ≡ Some (record_of loan w.0)
    found = record_there loan t kept i s w.0 there (its.1 w.0 w.1)

  fewer : length (remove t.windows.records.items at) + 1 ≡ length t.windows.records.items
  fewer =
      let x = w b.window at stands in
      sym (length-put at x.0 (remove t.windows.records.items at)) ∙ ap length (sym (taken_out t.windows.records.items at x.0 stands.0 x.1))

  abbrev others : List WindowRecord
  others = map (record_of loan) (remove t.windows.records.items at)

  -- where it goes among the others
  goes : (s : Option ℕ) (to : ℕ) (v : Window V H) → place_after s v.floating others ≡ to → put_behind s (record_of loan v) others ≡ insert others to (record_of loan v)
  goes s to v place = put_behind_is s (record_of loan v) others ∙ ap (λ n. put_in n (record_of loan v) others) place ∙ put_is_insert to (record_of loan v) others

  -- to the back of its class
  pub last_of_all : b.behind ≡ None → (v : Window V H) → IsWindowAt t.windows.records.items at v → (to : ℕ) → to ≡ back_place floats v.floating (remove t.windows.records.items at) → to ≤ length (remove t.windows.records.items at) → IsPlaceBehind loan b at t to
  last_of_all none v v_is to to_is low = record {
    unrefused =
        (λ k. first_refusal ((is_none (found b.window at stands k), NoSuchWindow) ∷ (is_named_missing (none k) desk.windows, NoSuchWindow) ∷ (is_this (none k) b.window, OutOfRange)
        ∷ (are_apart (found b.window at stands k) (named_record (none k) desk.windows), OutOfRange) ∷ []));
    low = let n = fewer in omega arith;
    is = λ x x_is.
        let same : x.floating ≡ v.floating = ap (λ (z : Window V H). z.floating) (same_at t.windows.records.items at x v stands.0 x_is v_is) in
        ap (λ s. put_behind s (record_of loan x) others) none
        ∙ goes None to x (ap (λ f. back_place is_floating f others) same ∙ back_records v.floating loan (remove t.windows.records.items at) ∙ sym to_is);
  }

  -- behind one that is missing
  pub missing : (x : ℕ) → b.behind ≡ Some x → record_with x desk.windows ≡ None → first_refusal (behind_refusals b desk) ≡ Some NoSuchWindow
  missing x some none =
      (λ k. first_refusal ((is_none (found b.window at stands k), NoSuchWindow) ∷ (is_named_missing (some k) desk.windows, NoSuchWindow) ∷ (is_this (some k) b.window, OutOfRange)
      ∷ (are_apart (found b.window at stands k) (named_record (some k) desk.windows), OutOfRange) ∷ []))
      ∙ ap (λ o. first_refusal ((is_none o, NoSuchWindow) ∷ (is_this (Some x) b.window, OutOfRange) ∷ (are_apart (Some (record_of loan (w b.window at stands).0)) o, OutOfRange) ∷ [])) none

  module _ (x i : ℕ) (some : b.behind ≡ Some x) (its : StandsAt t.windows.records.items x i) where
    wx : (y : Window V H) × (y ≡ get_or t.windows.records.items i y)
    wx = w x i its

    wb : (y : Window V H) × (y ≡ get_or t.windows.records.items at y)
    wb = w b.window at stands

    -- one of the two floats alone
    abbrev apart : Bool
    apart = are_apart (Some (record_of loan wb.0)) (Some (record_of loan wx.0))

    refusals_are : first_refusal (behind_refusals b desk) ≡ (if b.window == x then Some OutOfRange else (if apart then Some OutOfRange else None))
    unfolding wb wx w
    refusals_are =
        (λ k. first_refusal ((is_none (found b.window at stands k), NoSuchWindow) ∷ (is_named_missing (some k) desk.windows, NoSuchWindow) ∷ (is_this (some k) b.window, OutOfRange)
        ∷ (are_apart (found b.window at stands k) (named_record (some k) desk.windows), OutOfRange) ∷ []))
        ∙ ap (λ o. first_refusal ((is_none o, NoSuchWindow) ∷ (b.window == x, OutOfRange) ∷ (are_apart (Some (record_of loan wb.0)) o, OutOfRange) ∷ [])) (found x i its)

    -- behind itself
    pub itself : x ≡ b.window → first_refusal (behind_refusals b desk) ≡ Some OutOfRange
    itself same = refusals_are ∙ ap (λ c. if c then Some OutOfRange else (if apart then Some OutOfRange else None)) (ap (λ n. b.window == n) same ∙ same_number b.window)

    module _ (differs : x ≡ b.window → ⊥) (y z : Window V H) (y_is : IsWindowAt t.windows.records.items i y) (z_is : IsWindowAt t.windows.records.items at z) where
      away : (b.window == x) ≡ false
      away = by_number (b.window == x) refl
        where
          by_number : (c : Bool) → (b.window == x) ≡ c → c ≡ false
          by_number true e = absurd (differs (sym (eqb-true b.window x e)))
          by_number false e = refl

      -- as the two windows say
      apart_is : apart ≡ (if z.floating then not y.floating else y.floating)
      apart_is = λ k. if (same_at t.windows.records.items at wb.0 z stands.0 wb.1 z_is k).floating then not (same_at t.windows.records.items i wx.0 y its.0 wx.1 y_is k).floating else (same_at t.windows.records.items i wx.0 y its.0 wx.1 y_is k).floating

      told : (c : Bool) → (if z.floating then not y.floating else y.floating) ≡ c → first_refusal (behind_refusals b desk) ≡ (if c then Some OutOfRange else None)
      told c e = refusals_are ∙ (λ k. if away k then Some OutOfRange else (if (apart_is ∙ e) k then Some OutOfRange else None))

      -- behind one of the other class
      pub of_another_class : not (beq y.floating z.floating) ≡ true → first_refusal (behind_refusals b desk) ≡ Some OutOfRange
      of_another_class e = told true (by_classes y.floating z.floating e)
        where
          by_classes : (f g : Bool) → not (beq f g) ≡ true → (if g then not f else f) ≡ true
          by_classes true true d = absurd (cc)
          by_classes true false d = refl
          by_classes false true d = refl
          by_classes false false d = absurd (cc)

      -- behind another
      pub another : not (beq y.floating z.floating) ≡ false → (to : ℕ) → to ≡ (if nat_lt i at then i + 1 else i) → IsPlaceBehind loan b at t to
      unfolding wb w wx
      another e to to_is = record {
        unrefused = told false (by_classes y.floating z.floating e);
        low = by_test (nat_lt i at) refl to_is;
        is = λ v v_is. ap (λ s. put_behind s (record_of loan v) others) some ∙ goes (Some x) to v (ap (place_next x) (map-remove (record_of loan) t.windows.records.items at) ∙ place ∙ sym to_is);
      }
        where
          by_classes : (f g : Bool) → not (beq f g) ≡ false → (if g then not f else f) ≡ false
          by_classes true true d = refl
          by_classes true false d = absurd (cc)
          by_classes false true d = absurd (cc)
          by_classes false false d = refl

          place : place_next x (remove desk.windows at) ≡ (if nat_lt i at then i + 1 else i)
          place = place_is (look_on t) x desk.windows at i (record_of loan wb.0) (record_of loan wx.0) kept.whole.sound.distinct (record_at b.window at stands) (ap (λ n. n == x) (stands.1 wb.0 wb.1) ∙ away) (record_at x i its) (its.1 wx.0 wx.1)

          by_test : (c : Bool) → nat_lt i at ≡ c → to ≡ (if c then i + 1 else i) → to < length t.windows.records.items
          by_test true e f = let low = stands.0 in grind (arith, nat_tests)
          by_test false e f = subst (λ n. n < length t.windows.records.items) (sym f) its.0
