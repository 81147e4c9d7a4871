-- The seats of windows of which one is taken out.
use Rattle.std.proofs.Common.{◌≡◌, ℕ, zero, suc, ◌+◌, ◌<◌, ◌==◌, Bool, true, false, if◌then◌else◌, List, [], ◌∷◌, length, get_or, map, Option, None, Some, refl, sym, ap, ◌∙◌, subst, arith}
use Rattle.std.specs.Prelude.{All}
use Rattle.std.specs.List.{remove}
use Rattle.std.proofs.lemmas.List.{length-map}
use Rattle.std.proofs.lemmas.List.Elements.{All-tail}
use Rattle.def_iface.specs.Slots.{TakenBox}
use Rattle.def_iface.specs.WindowMeaning.{WindowLoan}
use Rattle.tb_geom.specs.Pixels.{Pixels, holds}
use Rattle.desk_layers.specs.Change.{State}
use Rattle.window_list.specs.declared.window.Window.{Window}
use Rattle.window_list.specs.Lists.{relit, lit, dimmed}
use Rattle.vis_update.specs.declared.area.Area.{Area}
use Rattle.vis_update.specs.declared.plan.Seat.{Seat}
use Rattle.vis_update.specs.declared.plan.Touch.{Touch}
use Rattle.vis_update.specs.Plans.{IsLosing}
use Rattle.vis_update.specs.Hands.{IsLostOf}
use Rattle.vis_update.specs.Records.{record_of, is_floating}
use Rattle.vis_update.specs.Areas.{IsArea}
use Rattle.vis_update.specs.Seats.{stand_of, seat_stand, area_had, IsPlacedSeat, IsNearSeat, IsArranged, IsChangedArea}
use Rattle.vis_update.proofs.SeatLemmas.{seats_near, losing_seats}
use Rattle.window_mgr.specs.declared.arrange.Activation.{Activation}
use Rattle.window_mgr.specs.declared.arrange.Activation.TheVariants.{Stays, Becomes}
use Rattle.window_mgr.specs.declared.manager.WindowManager.{WindowManager}
use Rattle.window_mgr.specs.Edits.{IsWindowAt, relit_all}
use Rattle.window_mgr.specs.Finding.{front_of}
use Rattle.window_mgr.specs.FullDesk.{FullDesk, layered_desk, layered_state, look_of}
use Rattle.window_mgr.specs.Kept.{IsKept}
use Rattle.window_mgr.specs.Records.{state_of}
use Rattle.window_mgr.specs.Seats.{first_seated}
use Rattle.window_mgr.specs.Without.{AreSeatsWithout, IsDeskWithout, records_without}
use Rattle.window_mgr.proofs.PutIn.{taken_out, All-out, length-put}
use Rattle.window_mgr.proofs.Seating.{lengths_of, seats_areas, seats_class, seats_stand, seat_floats, seats_had, seats_placed, sides}
use Rattle.window_mgr.proofs.EditSeats.{map-remove, there_is, first_stand}

-- one element less
pub length-out : {X : Type 0} (xs : List X) (i : ℕ) → i < length xs → length (remove xs i) + 1 ≡ length xs
length-out xs i low =
    let x = there_is xs i low in
    sym (length-put i x.0 (remove xs i)) ∙ ap length (sym (taken_out xs i x.0 low x.1))

-- ---- a window that is taken out after an activation

module _ {V : Type 0} {H : V → Type 0} where
  pub remove_lit : (a : Activation) (former : Option ℕ) (ws : List (Window V H)) (i : ℕ) → remove (relit_all a former ws) i ≡ relit_all a former (remove ws i)
  remove_lit Stays former ws i = refl
  remove_lit (Becomes s) former ws i = sym (map-remove (relit former s) ws i)

  pub length_relit : (a : Activation) (former : Option ℕ) (ws : List (Window V H)) → length (relit_all a former ws) ≡ length ws
  length_relit Stays former ws = refl
  length_relit (Becomes s) former ws = length-map ws (relit former s)

  same_taken : (former s : Option ℕ) (w : Window V H) → (relit former s w).taken ≡ w.taken
  same_taken former s w = was_lit s (dimmed former w) ∙ was_dimmed former
    where
      lit_test : (v : Window V H) (b : Bool) → (if b then record v { highlighted = true } else v).taken ≡ v.taken
      lit_test v true = refl
      lit_test v false = refl

      dim_test : (b : Bool) → (if b then record w { highlighted = false } else w).taken ≡ w.taken
      dim_test true = refl
      dim_test false = refl

      was_lit : (k : Option ℕ) (v : Window V H) → (lit k v).taken ≡ v.taken
      was_lit None v = refl
      was_lit (Some k) v = lit_test v (v.serial == k)

      was_dimmed : (k : Option ℕ) → (dimmed k w).taken ≡ w.taken
      was_dimmed None = refl
      was_dimmed (Some k) = dim_test (w.serial == k)

  -- the window that stood at the place has the same definition
  pub record WasAt (i : ℕ) (ws : List (Window V H)) (w : Window V H) : Type 0 where
    pub window : Window V H
    pub there : IsWindowAt ws i window
    pub its : w.taken ≡ window.taken

  pub was_at : (a : Activation) (former : Option ℕ) (ws : List (Window V H)) (i : ℕ) (w : Window V H) → i < length ws → IsWindowAt (relit_all a former ws) i w → WasAt i ws w
  was_at Stays former ws i w low w_is = record { window = w; there = w_is; its = refl }
  was_at (Becomes s) former ws i w low w_is = among ws i low w_is
    where
      among : (vs : List (Window V H)) (k : ℕ) → k < length vs → w ≡ get_or (map (relit former s) vs) k w → WasAt k vs w
      among [] k within e = absurd (omega arith)
      among (v ∷ vs) zero within e = record { window = v; there = refl; its = ap (λ (x : Window V H). x.taken) e ∙ same_taken former s v }
      among (v ∷ vs) (suc k) within e = let behind = among vs k (omega arith) e in record { window = behind.window; there = behind.there; its = behind.its }

-- ---- the seats

module _ {V : Type 0} {H : V → Type 0} (loan : TakenBox V H → WindowLoan) (t : WindowManager V H) (kept : IsKept loan t) (at : ℕ) (seats : List (Seat V H)) (S : AreSeatsWithout at t.windows.records.items t.areas.items seats) (low : at < length t.windows.records.items) where
  within : at < length S.all
  within = let n = lengths_of t.windows.records.items t.areas.items S.all S.are in omega arith

  pub one_seat_less : length seats + 1 ≡ length t.windows.records.items
  one_seat_less = ap (λ (ss : List (Seat V H)). length ss + 1) S.is ∙ length-out S.all at within ∙ lengths_of t.windows.records.items t.areas.items S.all S.are

  -- what holds of all seats holds of the rest
  all_rest : (P : Seat V H → Type 0) → All P S.all → All P seats
  all_rest P all =
      let x = there_is S.all at within in
      subst (All P) (sym S.is) (All-tail P x.0 (remove S.all at) (All-out P at x.0 (remove S.all at) (subst (All P) (taken_out S.all at x.0 within x.1) all)))

  abbrev before : State
  before = layered_state (state_of loan t [])

  had : All (λ (s : Seat V H). IsArea before.desk before.stale s.serial s.area.now) seats
  had = all_rest (λ (s : Seat V H). IsArea before.desk before.stale s.serial s.area.now) (seats_had loan before t.windows.records.items t.areas.items S.all S.are kept.whole.areas)

  pub near_rest : All IsNearSeat seats
  near_rest = let side = sides loan t kept in seats_near before.desk before.stale seats side.0 side.1 had

  -- the areas are those of the windows without one
  pub areas_rest : map area_had seats ≡ remove t.areas.items at
  areas_rest = ap (map area_had) S.is ∙ map-remove area_had S.all at ∙ ap (λ xs. remove xs at) (seats_areas t.windows.records.items t.areas.items S.all S.are)

  pub losing_rest : (touch : Touch) (old : Area) → IsArea before.desk before.stale touch.window old → (changed lost : Pixels) → IsLostOf old changed lost → All (IsLosing touch (holds changed) (holds lost)) seats
  losing_rest touch old its changed lost lost_is = losing_seats touch before.desk before.stale old changed lost seats its lost_is had

  pub placed_rest : All (IsPlacedSeat loan) seats
  placed_rest = all_rest (IsPlacedSeat loan) (seats_placed loan t.windows.records.items t.areas.items S.all S.are kept.whole.sound.settled)

  -- the seats stand as the windows do
  seats_rest : map (seat_stand loan) seats ≡ map stand_of (records_without loan at t)
  seats_rest =
      ap (map (seat_stand loan)) S.is
      ∙ map-remove (seat_stand loan) S.all at
      ∙ ap (λ xs. remove xs at) (seats_stand loan t.windows.records.items t.areas.items S.all S.are)
      ∙ sym (map-remove stand_of (map (record_of loan) t.windows.records.items) at)
      ∙ ap (map stand_of) (sym (map-remove (record_of loan) t.windows.records.items at))

  pub arranged_rest : (after : FullDesk) (changed : Pixels) → IsDeskWithout loan at t after → IsChangedArea before.desk (layered_desk after) changed → IsArranged loan (look_of after) before (layered_desk after) after.windows changed seats
  arranged_rest after changed D changes = record {
    desk = refl;
    distinct = D.distinct;
    changes = changes;
    stands = seats_rest ∙ sym D.stands;
    areas = had;
  }

  -- and are of their classes
  classes_rest : map (seat_floats) seats ≡ map is_floating (records_without loan at t)
  classes_rest =
      ap (map (seat_floats)) S.is
      ∙ map-remove (seat_floats) S.all at
      ∙ ap (λ xs. remove xs at) (seats_class loan t.windows.records.items t.areas.items S.all S.are)
      ∙ sym (map-remove is_floating (map (record_of loan) t.windows.records.items) at)
      ∙ ap (map is_floating) (sym (map-remove (record_of loan) t.windows.records.items at))

  -- and the first visible ordinary one is the same
  pub front_rest : first_seated seats ≡ front_of (records_without loan at t)
  front_rest = first_stand loan seats (records_without loan at t) seats_rest classes_rest
