-- A window that was disposed of: what holds of the desk after it.
use Rattle.std.proofs.Common.{◌≡◌, ℕ, ◌≤◌, ◌==◌, Bool, true, false, if◌then◌else◌, List, [], ◌∷◌, ◌++◌, length, map, None, Some, refl, sym, ap, ◌∙◌, subst, arith}
use Rattle.std.specs.Prelude.{All}
use Rattle.std.proofs.lemmas.Bool.{not-true}
use Rattle.std.proofs.lemmas.List.Elements.{All-tail}
use Rattle.std.proofs.lemmas.List.Sorted.{length_permutation}
use Rattle.tb_geom.specs.declared.point.Point.{Point}
use Rattle.def_iface.specs.WindowSlots.{WindowSlot}
use Rattle.desk_layers.specs.Desk as layers
use Rattle.desk_layers.specs.Owner.{Owner, owner, owner_among, own_bit, content_bit, is_content}
use Rattle.desk_layers.specs.Owner.Owner.{Desktop, Bar, Frame, Content}
use Rattle.desk_layers.specs.Change as plain
use Rattle.desk_layers.proofs.Changing.{stays_right}
use Rattle.desk_layers.proofs.Owning.{is_other, owner_is_other}
use Rattle.vis_update.specs.Records.{WindowRecord, layered_window}
use Rattle.window_mgr.specs.declared.arrange.Activates.TheVariants.{FrontInItsPlace}
use Rattle.window_mgr.specs.declared.arrange.Activation.{Activation}
use Rattle.window_mgr.specs.Arrange.{activated, activation_of, desk_activated, desk_arranged, without}
use Rattle.window_mgr.specs.Closing.{IsShut, loan_of}
use Rattle.window_mgr.specs.Effects.{IsWindowDisposed}
use Rattle.window_mgr.specs.Finding.{front_of}
use Rattle.window_mgr.specs.FullDesk.{FullDesk, FullState, IsRightState, AreSerials, layered_desk, layered_state, IsGiven, look_of}
use Rattle.window_mgr.specs.Whole.{IsSoundDesk, IsSettled, IsStocked}
use Rattle.window_mgr.proofs.PutIn.{put_in, put_permutes, put_last, IsFree, found_put, distinct_out, serials_out, All-out, is_put, IsTakenOut, out_of}
use Rattle.window_mgr.proofs.Rearranged.{layers_lit, length_lit, numbered_lit, settled_all, stocked_lit, stocked_put}
use Rattle.window_mgr.proofs.SlotLemmas.{map-set}
use Rattle.window_mgr.proofs.ClosingLemmas.{shut_facts, stocked_front}

-- a window of a desk, at this place of the rest
pub record IsOneOf (before : FullDesk) (s i : ℕ) (w : WindowRecord) (rest : List WindowRecord) : Type 0 where
  pub windows : before.windows ≡ put_in i w rest
  pub serial : w.serial ≡ s

module _ (before : FullDesk) (s i : ℕ) (w : WindowRecord) (rest : List WindowRecord) (O : IsOneOf before s i w rest) (a : Activation) (slots : List WindowSlot) where
  -- the desk without it
  abbrev pub left : FullDesk
  left = record (desk_activated rest a before) { stock = slots }

  pub numbered_left : AreSerials before.next before.windows → AreSerials left.next left.windows
  numbered_left serials = numbered_lit before.active before.next a rest
      (let all = subst (AreSerials before.next) O.windows serials in (all.0, (serials_out (IsGiven before.next) i w rest all.1).1))

  pub settled_left : All IsSettled before.windows → All IsSettled left.windows
  settled_left all = settled_all before.active a rest (All-tail IsSettled w rest (All-out IsSettled i w rest (subst (All IsSettled) O.windows all)))

  module _ (distinct : layers.IsDesk (layered_desk before)) where
    was_distinct : IsFree (look_of before) w.serial rest × layers.AreWindows (map (layered_window (look_of before)) rest)
    was_distinct = distinct_out (look_of before) i w rest (subst (λ ws. layers.AreWindows (map (layered_window (look_of before)) ws)) O.windows distinct)

    pub distinct_left : layers.IsDesk (layered_desk left)
    distinct_left = subst layers.AreWindows (sym (layers_lit before.active (look_of before) a rest)) was_distinct.1

    pub free_of : IsFree (look_of before) s rest
    free_of = subst (λ n. IsFree (look_of before) n rest) O.serial was_distinct.0

    -- it is not found any more
    gone : layers.window_of s (layered_desk left).windows ≡ None
    gone = ap (layers.window_of s) (layers_lit before.active (look_of before) a rest) ∙ free_of

    -- and other windows are found as they were
    pub others_found : (n : ℕ) → (s == n) ≡ false → layers.window_of n (layered_desk before).windows ≡ layers.window_of n (layered_desk left).windows
    others_found n away =
        ap (λ ws. layers.window_of n (map (layered_window (look_of before)) ws)) O.windows
        ∙ found_put (look_of before) n i w rest was_distinct.0
        ∙ ap (λ k. if k == n then Some (layered_window (look_of before) w) else layers.window_of n (map (layered_window (look_of before)) rest)) O.serial
        ∙ (λ k. if away k then Some (layered_window (look_of before) w) else layers.window_of n (map (layered_window (look_of before)) rest))
        ∙ ap (layers.window_of n) (sym (layers_lit before.active (look_of before) a rest))

    -- no pixel is its
    other_owner : (p : Point) → is_other s (owner (layered_desk left) p) ≡ true
    other_owner p = in_bar (layers.in_bar (layered_desk left) p) (owner_among (layered_desk left).windows p) (owner_is_other (layered_desk left).windows p s gone)
      where
        in_bar : (b : Bool) (o : Owner) → is_other s o ≡ true → is_other s (if b then Bar else o) ≡ true
        in_bar true o e = refl
        in_bar false o e = e

    pub disposal_is_sound : (stale image : Point → Bool) → plain.IsSound plain.no_change (record { desk = layered_desk before; stale = stale; image = image }) (layered_desk left)
    disposal_is_sound stale image = record {
      desk = distinct_left;
      kept = λ p on content afresh taken put drawn there. by_owner p (owner (layered_desk left) p) content (other_owner p);
      right = λ p on taken. absurd (cc);
    }
      where
        by_owner : (p : Point) (o : Owner) → is_content o ≡ true → is_other s o ≡ true → own_bit (layered_desk before) o p ≡ own_bit (layered_desk left) o p
        by_owner p Desktop e other = absurd (cc)
        by_owner p Bar e other = absurd (cc)
        by_owner p (Frame n) e other = absurd (cc)
        by_owner p (Content n part) e other = ap (λ found. content_bit found part p) (others_found n (not-true (s == n) other))

  -- the desk is sound as it was
  pub sound_left : IsSoundDesk before → IsShut (loan_of w) before.stock slots → IsSoundDesk left
  sound_left sound shut = record {
    screen = sound.screen;
    distinct = distinct_left sound.distinct;
    serials = numbered_left sound.serials;
    few = fewer (ap (λ (ws : List WindowRecord). length ws) O.windows ∙ length_permutation (w ∷ rest) (put_in i w rest) (put_permutes i w rest)) (length_lit before.active a rest) sound.few;
    settled = settled_left sound.settled;
    stocked = stocked_lit before.active a rest slots (stocked_front rest w before.stock slots last shut);
  }
    where
      fewer : length before.windows ≡ length (w ∷ rest) → length (activated a before.active rest) ≡ length rest → length before.windows ≤ 64 → length (activated a before.active rest) ≤ 64
      fewer more same few = omega arith

      last : IsStocked (rest ++ w ∷ []) before.stock
      last = subst (λ ws. IsStocked ws before.stock) (put_last rest w) (stocked_put i (length rest) w w rest before.stock refl (subst (λ ws. IsStocked ws before.stock) O.windows sound.stocked))

-- ---- the step

pub disposed_stays_right : (s : ℕ) (before after : FullState) → IsRightState before → IsWindowDisposed s before after → IsRightState after
disposed_stays_right s before after right closed =
    let sound = disposal_is_sound before.desk s out.place closed.window out.rest one activation after.desk.stock right.plain.desk before.stale before.image in
    record {
      plain = stays_right plain.no_change (layered_state before) (layered_state after) right.plain (subst (plain.IsSound plain.no_change (layered_state before)) (sym (ap layered_desk desk_is)) sound) closed.pixels;
      serials = subst (λ (d : FullDesk). AreSerials d.next d.windows) (sym desk_is) (numbered_left before.desk s out.place closed.window out.rest one activation after.desk.stock right.serials);
    }
  where
    out : IsTakenOut s before.desk.windows closed.window
    out = out_of s before.desk.windows closed.window closed.found

    one : IsOneOf before.desk s out.place closed.window out.rest
    one = record { windows = out.is; serial = out.serial }

    activation : Activation
    activation = activation_of FrontInItsPlace s before.desk.active (front_of out.rest)

    free : IsFree (look_of before.desk) s out.rest
    free = free_of before.desk s out.place closed.window out.rest one activation after.desk.stock right.plain.desk

    rest_is : without s before.desk.windows ≡ out.rest
    rest_is = ap (without s) out.is ∙ (is_put (look_of before.desk) s out.place closed.window out.rest out.serial free).others

    desk_is : after.desk ≡ left before.desk s out.place closed.window out.rest one activation after.desk.stock
    desk_is = closed.desk ∙ ap (λ ws. record (desk_arranged ws FrontInItsPlace s before.desk) { stock = after.desk.stock }) rest_is

pub disposed_keeps_kinds : (s : ℕ) (before after : FullState) → IsWindowDisposed s before after → map (λ slot. slot.kind) after.desk.stock ≡ map (λ slot. slot.kind) before.desk.stock
disposed_keeps_kinds s before after closed =
    let shut = shut_facts (loan_of closed.window) before.desk.stock after.desk.stock closed.shut in
    ap (map (λ slot. slot.kind)) shut.back ∙ map-set (λ (slot : WindowSlot). slot.kind) before.desk.stock closed.window.slot shut.view _ shut.found refl
