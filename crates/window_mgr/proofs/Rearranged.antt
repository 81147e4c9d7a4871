-- One window put anew among the others, and what becomes active: what holds of the desk after it.
use Rattle.std.proofs.Common.{◌≡◌, inl, inr, ℕ, ◌≤◌, ◌==◌, Bool, true, false, if◌then◌else◌, List, ◌∷◌, length, map, Option, None, Some, refl, sym, ap, ◌∙◌, subst}
use Rattle.std.specs.Prelude.{All}
use Rattle.std.proofs.lemmas.Bool.{eqb-true, false≢true}
use Rattle.std.proofs.lemmas.List.{length-map}
use Rattle.std.proofs.lemmas.List.Elements.{All-weaker, All-head, All-tail}
use Rattle.std.proofs.lemmas.List.Sorted.{length_permutation}
use Rattle.tb_geom.specs.declared.point.Point.{Point}
use Rattle.tb_geom.specs.Points.{minus}
use Rattle.def_iface.specs.WindowSlots.{WindowSlot, is_left}
use Rattle.desk_layers.specs.declared.part.Part.{Part}
use Rattle.desk_layers.specs.Desk as layers
use Rattle.desk_layers.specs.Owner.{Owner, owner, own_bit, content_bit, frame_bit, is_content}
use Rattle.desk_layers.specs.Owner.Owner.{Desktop, Bar, Frame, Content}
use Rattle.desk_layers.specs.Change as plain
use Rattle.def_iface.specs.WindowNews.{no_news}
use Rattle.desk_layers.proofs.Owning.{same_number}
use Rattle.vis_update.specs.Records.{WindowRecord, Look, layered_window}
use Rattle.vis_update.specs.Seats.{stand_of}
use Rattle.vis_update.specs.Touches.{moved_from, moving}
use Rattle.window_mgr.specs.declared.arrange.Activation.{Activation}
use Rattle.window_mgr.specs.declared.arrange.Activation.TheVariants.{Stays, Becomes}
use Rattle.window_mgr.specs.FullDesk.{FullDesk, AreSerials, layered_desk, IsGiven, look_of}
use Rattle.window_mgr.specs.Arrange.{with_highlighting, activated, desk_activated}
use Rattle.window_mgr.specs.Whole.{IsSoundDesk, IsSettled, IsStocked}
use Rattle.window_mgr.proofs.LayerParts.{parts_alike}
use Rattle.window_mgr.proofs.PutIn.{put_in, IsFree, found_put, distinct_put, parts_out, distinct_out, serials_put, serials_out, put_permutes, All-out, All-put, AllPairs-put, AllPairs-out, Contains-put}
use Rattle.window_mgr.proofs.EachChanged.{map-map, settled_map, stocked_map, numbered_map}
use Rattle.window_mgr.proofs.DimLemmas.{either}

-- ---- a window that may have become active, or was so

module _ (s former : Option ℕ) where
  abbrev pub relit_record : WindowRecord → WindowRecord
  relit_record w = with_highlighting true s (with_highlighting false former w)

  relit_either : (P : WindowRecord → Type 0) (w : WindowRecord) → P w → P (record w { highlighted = true }) → P (record w { highlighted = false }) → P (relit_record w)
  relit_either P w h on off = either false former (λ v. P (with_highlighting true s v)) w (either true s P w h on) (either true s P (record w { highlighted = false }) off on)

  same_layers : (look : Look) (w : WindowRecord) → layered_window look (relit_record w) ≡ layered_window look w
  same_layers look w = relit_either (λ v. layered_window look v ≡ layered_window look w) w refl refl refl

  same_stand : (w : WindowRecord) → stand_of (relit_record w) ≡ stand_of w
  same_stand w = relit_either (λ v. stand_of v ≡ stand_of w) w refl refl refl

  same_slot : (w : WindowRecord) → (relit_record w).slot ≡ w.slot
  same_slot w = relit_either (λ v. v.slot ≡ w.slot) w refl refl refl

  same_serial : (w : WindowRecord) → (relit_record w).serial ≡ w.serial
  same_serial w = relit_either (λ v. v.serial ≡ w.serial) w refl refl refl

  settled_lit : (w : WindowRecord) → IsSettled w → IsSettled (relit_record w)
  settled_lit w its = relit_either IsSettled w its (record { origin = its.origin; placed = its.placed; live = its.live; told = its.told; fits = its.fits; inside = its.inside; within = its.within; layers = its.layers; goes_by = its.goes_by }) (record { origin = its.origin; placed = its.placed; live = its.live; told = its.told; fits = its.fits; inside = its.inside; within = its.within; layers = its.layers; goes_by = its.goes_by })

-- all windows, after an activation
module _ (former : Option ℕ) where
  pub layers_lit : (look : Look) (a : Activation) (ws : List WindowRecord) → map (layered_window look) (activated a former ws) ≡ map (layered_window look) ws
  layers_lit look (Becomes s) ws = map-map (layered_window look) (relit_record s former) (layered_window look) (same_layers s former look) ws
  layers_lit look Stays ws = refl

  pub stands_lit : (a : Activation) (ws : List WindowRecord) → map stand_of (activated a former ws) ≡ map stand_of ws
  stands_lit (Becomes s) ws = map-map stand_of (relit_record s former) stand_of (same_stand s former) ws
  stands_lit Stays ws = refl

  pub length_lit : (a : Activation) (ws : List WindowRecord) → length (activated a former ws) ≡ length ws
  length_lit (Becomes s) ws = length-map ws (relit_record s former)
  length_lit Stays ws = refl

  pub numbered_lit : (next : Option ℕ) (a : Activation) (ws : List WindowRecord) → AreSerials next ws → AreSerials next (activated a former ws)
  numbered_lit next (Becomes s) ws serials = numbered_map (relit_record s former) (same_serial s former) next ws serials
  numbered_lit next Stays ws serials = serials

  pub settled_all : (a : Activation) (ws : List WindowRecord) → All IsSettled ws → All IsSettled (activated a former ws)
  settled_all (Becomes s) ws all = settled_map (relit_record s former) (settled_lit s former) ws all
  settled_all Stays ws all = all

  pub stocked_lit : (a : Activation) (ws : List WindowRecord) (slots : List WindowSlot) → IsStocked ws slots → IsStocked (activated a former ws) slots
  stocked_lit (Becomes s) ws slots h = stocked_map (relit_record s former) (same_slot s former) ws slots h
  stocked_lit Stays ws slots h = h

-- ---- one window put anew

-- the slots, of which one window's is another window's now
pub stocked_put : (i j : ℕ) (w v : WindowRecord) (rest : List WindowRecord) (slots : List WindowSlot) → v.slot ≡ w.slot → IsStocked (put_in i w rest) slots → IsStocked (put_in j v rest) slots
stocked_put i j w v rest slots slot h =
    let left = All-out (λ u. is_left u.slot slots ≡ true) i w rest h.left in
    let apart = AllPairs-out (λ x y. x.slot ≡ y.slot → ⊥) turns i w rest h.apart in
    record {
      left = All-put (λ u. is_left u.slot slots ≡ true) j v rest (ap (λ k. is_left k slots) slot ∙ All-head (λ u. is_left u.slot slots ≡ true) w rest left) (All-tail (λ u. is_left u.slot slots ≡ true) w rest left);
      apart = AllPairs-put (λ x y. x.slot ≡ y.slot → ⊥) turns j v rest (All-weaker (λ y. w.slot ≡ y.slot → ⊥) (λ y. v.slot ≡ y.slot → ⊥) (λ y apart e. apart (sym slot ∙ e)) rest apart.0) apart.1;
      others = λ k t e. elim (h.others k t e) [
        | inl full ↦ inl full
        | inr none ↦ inr (none.0, Contains-put (λ (u : WindowRecord). u.slot) i j w v rest k slot none.1)
      ];
    }
  where
    turns : (x y : WindowRecord) → (x.slot ≡ y.slot → ⊥) → y.slot ≡ x.slot → ⊥
    turns x y apart e = apart (sym e)

-- a window of a desk, and as it is put anew: w and v are the window before and after, i and j its places among the rest
pub record IsEdit (before : FullDesk) (s i j : ℕ) (w v : WindowRecord) (rest : List WindowRecord) : Type 0 where
  pub windows : before.windows ≡ put_in i w rest
  pub serial : w.serial ≡ s
  pub same_serial : v.serial ≡ w.serial
  pub same_layers : v.layers ≡ w.layers

module _ (before : FullDesk) (s i j : ℕ) (w v : WindowRecord) (rest : List WindowRecord) (E : IsEdit before s i j w v rest) (b : Activation) where
  -- the desk after it
  abbrev pub edited : FullDesk
  edited = desk_activated (put_in j v rest) b before

  module _ (distinct : layers.IsDesk (layered_desk before)) where
    was_distinct : layers.AreWindows (map (layered_window (look_of before)) (put_in i w rest))
    was_distinct = subst (λ ws. layers.AreWindows (map (layered_window (look_of before)) ws)) E.windows distinct

    pub free : IsFree (look_of before) w.serial rest
    free = (distinct_out (look_of before) i w rest was_distinct).0

    pub free_now : IsFree (look_of before) v.serial rest
    free_now = subst (λ n. IsFree (look_of before) n rest) (sym E.same_serial) free

    pub distinct_now : layers.IsDesk (layered_desk edited)
    distinct_now = subst layers.AreWindows (sym (layers_lit before.active (look_of before) b (put_in j v rest))) (distinct_put (look_of before) j v rest free_now (parts_alike (look_of before) (look_of before) w v E.same_layers (parts_out (look_of before) i w rest was_distinct)) (distinct_out (look_of before) i w rest was_distinct).1)

    -- how a window is found before and after
    found_before : (n : ℕ) → layers.window_of n (layered_desk before).windows ≡ (if s == n then Some (layered_window (look_of before) w) else layers.window_of n (map (layered_window (look_of before)) rest))
    found_before n = ap (λ ws. layers.window_of n (map (layered_window (look_of before)) ws)) E.windows ∙ found_put (look_of before) n i w rest free ∙ ap (λ k. if k == n then Some (layered_window (look_of before) w) else layers.window_of n (map (layered_window (look_of before)) rest)) E.serial

    found_after : (n : ℕ) → layers.window_of n (layered_desk edited).windows ≡ (if s == n then Some (layered_window (look_of before) v) else layers.window_of n (map (layered_window (look_of before)) rest))
    found_after n = ap (layers.window_of n) (layers_lit before.active (look_of before) b (put_in j v rest)) ∙ found_put (look_of before) n j v rest free_now ∙ ap (λ k. if k == n then Some (layered_window (look_of before) v) else layers.window_of n (map (layered_window (look_of before)) rest)) (E.same_serial ∙ E.serial)

    -- other windows are found as they were
    pub others_found : (n : ℕ) → (s == n) ≡ false → layers.window_of n (layered_desk before).windows ≡ layers.window_of n (layered_desk edited).windows
    others_found n away = found_before n ∙ (λ k. if away k then Some (layered_window (look_of before) w) else layers.window_of n (map (layered_window (look_of before)) rest)) ∙ (λ k. if sym away k then Some (layered_window (look_of before) v) else layers.window_of n (map (layered_window (look_of before)) rest)) ∙ sym (found_after n)

    -- the frame of the window, where that stays in its place, shows as it did
    pub frame_kept : (p : Point) → v.place ≡ w.place → v.definition ≡ w.definition → frame_bit (layers.window_of s (layered_desk before).windows) p ≡ frame_bit (layers.window_of s (layered_desk edited).windows) p
    frame_kept p place definition =
        (λ k. frame_bit (found_before s k) p)
        ∙ (λ k. frame_bit (if same_number s k then Some (layered_window (look_of before) w) else layers.window_of s (map (layered_window (look_of before)) rest)) p)
        ∙ (λ k. (sym definition k).picture no_news before.font (minus p (sym place k)))
        ∙ sym ((λ k. frame_bit (found_after s k) p) ∙ (λ k. frame_bit (if same_number s k then Some (layered_window (look_of before) v) else layers.window_of s (map (layered_window (look_of before)) rest)) p))

    -- the call is a sound change, where the window's content moves as it does
    pub edit_is_sound : (stale : Point → Bool) (image : Point → Bool) (by : Option Point)
        → ((part : Part) (p : Point) → content_bit (Some (layered_window (look_of before) w)) part (moved_from s by (Content s part) p) ≡ content_bit (Some (layered_window (look_of before) v)) part p)
        → plain.IsSound (moving s by) (record { desk = layered_desk before; stale = stale; image = image }) (layered_desk edited)
    edit_is_sound stale image by moves = record {
      desk = distinct_now;
      kept = λ p on content afresh taken put drawn there. by_owner p (owner (layered_desk edited) p) content;
      right = λ p on taken. absurd (cc);
    }
      where
        by_owner : (p : Point) (o : Owner) → is_content o ≡ true → own_bit (layered_desk before) o (moved_from s by o p) ≡ own_bit (layered_desk edited) o p
        by_owner p Desktop e = absurd (cc)
        by_owner p Bar e = absurd (cc)
        by_owner p (Frame n) e = absurd (cc)
        by_owner p (Content n part) e = by_test (n == s) refl
          where
            still : (d : Option Point) → (n == s) ≡ false → moved_from s d (Content n part) p ≡ p
            still None away = refl
            still (Some d) away = ap (λ c. if c then minus p d else p) away

            turned : (n == s) ≡ false → (s == n) ≡ false
            turned away = turn (s == n) refl
              where
                turn : (c : Bool) → (s == n) ≡ c → c ≡ false
                turn true f = absurd (false≢true (sym away ∙ ap (λ k. k == s) (sym (eqb-true s n f)) ∙ self))
                  where
                    self : (s == s) ≡ true
                    self = ap (λ k. s == k) (eqb-true s n f) ∙ f
                turn false f = refl

            by_test : (c : Bool) → (n == s) ≡ c → content_bit (layers.window_of n (layered_desk before).windows) part (moved_from s by (Content n part) p) ≡ content_bit (layers.window_of n (layered_desk edited).windows) part p
            by_test true here =
                let same : n ≡ s = eqb-true n s here in
                let self : (s == n) ≡ true = ap (λ k. k == n) (sym same) ∙ ap (λ k. n == k) same ∙ here in
                (λ k. content_bit ((found_before n ∙ (λ m. if self m then Some (layered_window (look_of before) w) else layers.window_of n (map (layered_window (look_of before)) rest))) k) part (moved_from s by (Content (same k) part) p))
                ∙ moves part p
                ∙ (λ k. content_bit (sym (found_after n ∙ (λ m. if self m then Some (layered_window (look_of before) v) else layers.window_of n (map (layered_window (look_of before)) rest))) k) part p)
            by_test false away =
                (λ k. content_bit (others_found n (turned away) k) part (still by away k))

  pub numbered_now : AreSerials before.next before.windows → AreSerials edited.next edited.windows
  numbered_now serials = numbered_lit before.active before.next b (put_in j v rest)
      (let all = subst (AreSerials before.next) E.windows serials in
      let parts = serials_out (IsGiven before.next) i w rest all.1 in
      (all.0, serials_put (IsGiven before.next) j v rest (subst (IsGiven before.next) (sym E.same_serial) parts.0) parts.1))

  -- the desk is sound as it was
  pub sound_now : IsSoundDesk before → v.slot ≡ w.slot → IsSettled v → IsSoundDesk edited
  sound_now sound slot settled = record {
    screen = sound.screen;
    distinct = distinct_now sound.distinct;
    serials = numbered_now sound.serials;
    few = subst (λ n. n ≤ 64) (sym (length_lit before.active b (put_in j v rest) ∙ length_permutation (v ∷ rest) (put_in j v rest) (put_permutes j v rest) ∙ sym (length_permutation (w ∷ rest) (put_in i w rest) (put_permutes i w rest)) ∙ ap (λ (ws : List WindowRecord). length ws) (sym E.windows))) sound.few;
    settled = settled_all before.active b (put_in j v rest) (All-put IsSettled j v rest settled (All-tail IsSettled w rest (All-out IsSettled i w rest (subst (All IsSettled) E.windows sound.settled))));
    stocked = stocked_lit before.active b (put_in j v rest) before.stock (stocked_put i j w v rest before.stock slot (subst (λ ws. IsStocked ws before.stock) E.windows sound.stocked));
  }
