-- The windows of a desk as they are, and a new one among them.
use Rattle.std.proofs.Common.{◌≡◌, ℕ, zero, suc, ◌+◌, ◌<◌, Bool, true, false, ◌&&◌, ℤ, pos, ◌≤ℤ◌, List, [], ◌∷◌, ◌++◌, length, get_or, take, map, Option, None, Some, refl, sym, ap, ◌∙◌, subst, arith}
use Rattle.std.specs.Prelude.{All}
use Rattle.std.specs.List.{insert}
use Rattle.std.proofs.Math.Seq.{take-length}
use Rattle.std.proofs.lemmas.List.{take_more, length-map}
use Rattle.std.proofs.lemmas.List.Elements.{All-nil, All-cons, All-head, All-tail}
use Rattle.std.proofs.lemmas.Bool.{and_parts, false≢true}
use Rattle.std.proofs.lemmas.Int.{ints}
use Rattle.tb_geom.specs.Points.{PixelSet}
use Rattle.tb_geom.specs.Pixels.{Pixels}
use Rattle.def_iface.specs.Slots.{TakenBox}
use Rattle.def_iface.specs.WindowMeaning.{WindowDefinition, WindowLoan, SameRegions}
use Rattle.desk_layers.specs.Desk as layers
use Rattle.desk_layers.specs.Desk.{LayeredDesk}
use Rattle.desk_layers.specs.Change.{State}
use Rattle.desk_call.specs.declared.window.NewWindow.{NewWindow}
use Rattle.window_mgr.specs.declared.manager.WindowManager.{WindowManager}
use Rattle.vis_update.specs.declared.area.Area.{Area}
use Rattle.vis_update.specs.declared.plan.Plan.{Plan}
use Rattle.vis_update.specs.declared.plan.Seat.{Seat}
use Rattle.vis_update.specs.declared.plan.Touch.{Touch}
use Rattle.vis_update.specs.Plans.{IsPlan, AreAreasAfter, areas_then, stale_after}
use Rattle.vis_update.specs.Touches.{change_of}
use Rattle.window_list.specs.declared.window.Window.{Window}
use Rattle.vis_update.specs.Records.{WindowRecord, is_floating}
use Rattle.window_mgr.specs.FullDesk.{FullDesk, AreSerials, layered_desk, layered_state}
use Rattle.window_mgr.specs.Kept.{IsKept}
use Rattle.vis_update.specs.Records.{record_of}
use Rattle.window_mgr.specs.Records.{desk_of, state_of, look_on}
use Rattle.vis_update.specs.Areas.{stale_in}
use Rattle.vis_update.specs.Seats.{stand_of, seat_stand, area_had, IsPlacedSeat, IsNearSeat, IsSeatOf, IsArranged, IsChangedArea}
use Rattle.vis_update.specs.Areas.{IsNowhere, IsNear}
use Rattle.window_mgr.specs.Seats.{AreSeatsOf, AreSeatsWith}
use Rattle.window_mgr.specs.Effects.{begins_active, new_record, desk_with_new}
use Rattle.window_mgr.specs.Arrange.{with_highlighting}
use Rattle.vis_update.specs.Areas.{IsArea, AreAreas}
use Rattle.window_mgr.specs.Whole.{IsSettled}
use Rattle.desk_ground.specs.Screens.{is_screen_side}
use Rattle.vis_update.proofs.PlaceLemmas.{placed_from}
use Rattle.window_mgr.proofs.EachChanged.{map-map}
use Rattle.window_mgr.proofs.DimLemmas.{either, windows_behind}
use Rattle.window_mgr.proofs.ClassPlaces.{new_windows, others_with, place_on}
use Rattle.window_mgr.proofs.PutIn.{put_in, put_is_insert, map-put, length-put, distinct_put, All-put}
use Rattle.window_mgr.proofs.Running.{layered_desk-with, next_is_free}
use Rattle.vis_update.proofs.SeatLemmas as seat

-- windows of which one loses its highlighting stand where they stood
stands-behind : (active : Option ℕ) (b : Bool) (ws : List WindowRecord) → map stand_of (windows_behind active b ws) ≡ map stand_of ws
stands-behind active false ws = refl
stands-behind active true ws = map-map stand_of (with_highlighting false active) stand_of (λ w. either false active (λ v. stand_of v ≡ stand_of w) w refl refl) ws

-- ---- the list of seats, as it grows

module _ {V : Type 0} {H : V → Type 0} where
  seats_snoc : (ws : List (Window V H)) (areas : List Area) (seats : List (Seat V H)) (w : Window V H) (a : Area) (s : Seat V H) → AreSeatsOf ws areas seats → IsSeatOf w a s → AreSeatsOf (ws ++ w ∷ []) (areas ++ a ∷ []) (seats ++ s ∷ [])
  seats_snoc [] [] [] w a s h one = (one, tt)
  seats_snoc (v ∷ ws) (b ∷ areas) (r ∷ seats) w a s h one = (h.0, seats_snoc ws areas seats w a s h.1 one)
  seats_snoc [] [] (r ∷ seats) w a s h one = absurd h
  seats_snoc [] (b ∷ areas) seats w a s h one = absurd h
  seats_snoc (v ∷ ws) [] seats w a s h one = absurd h
  seats_snoc (v ∷ ws) (b ∷ areas) [] w a s h one = absurd h

  -- one seat more
  pub seats_of_more : (ws : List (Window V H)) (areas : List Area) (seats more : List (Seat V H)) (i : ℕ) (w : Window V H) (a : Area) (s : Seat V H) → more ≡ seats ++ s ∷ [] → w ≡ get_or ws i w → a ≡ get_or areas i a → i < length ws → i < length areas → AreSeatsOf (take i ws) (take i areas) seats → IsSeatOf w a s → AreSeatsOf (take (i + 1) ws) (take (i + 1) areas) more
  seats_of_more ws areas seats more i w a s e w_is a_is low within h one =
      subst (λ (x : List (Window V H) × List Area × List (Seat V H)). AreSeatsOf x.0 x.1 x.2) (λ k. (sym (take_more ws i w low) k, sym (take_more areas i a within) k, sym e k))
      (seats_snoc (take i ws) (take i areas) seats (get_or ws i w) (get_or areas i a) s h (subst (λ (x : Window V H × Area). IsSeatOf x.0 x.1 s) (λ k. (w_is k, a_is k)) one))

  -- and all of them
  pub all_seats_of : (ws : List (Window V H)) (areas : List Area) (seats : List (Seat V H)) (i : ℕ) → i ≡ length ws → length areas ≡ length ws → AreSeatsOf (take i ws) (take i areas) seats → AreSeatsOf ws areas seats
  all_seats_of ws areas seats i all same h =
      subst (λ (x : List (Window V H) × List Area). AreSeatsOf x.0 x.1 seats) (λ k. ((ap (λ n. take n ws) all ∙ take-length ws) k, (ap (λ n. take n areas) (all ∙ sym same) ∙ take-length areas) k)) h

  -- the seat at a place is that of the window there
  pub seat_at : (ws : List (Window V H)) (areas : List Area) (seats : List (Seat V H)) (i : ℕ) (w : Window V H) (s : Seat V H) → AreSeatsOf ws areas seats → i < length ws → w ≡ get_or ws i w → s ≡ get_or seats i s → (a : Area) × IsSeatOf w a s
  seat_at [] areas seats i w s its low w_is s_is = absurd (omega arith)
  seat_at (v ∷ ws) (a ∷ areas) (r ∷ seats) zero w s its low w_is s_is = (a, subst (λ (x : Window V H × Seat V H). IsSeatOf x.0 a x.1) (λ k. (sym w_is k, sym s_is k)) its.0)
  seat_at (v ∷ ws) (a ∷ areas) (r ∷ seats) (suc i) w s its low w_is s_is = seat_at ws areas seats i w s its.1 (omega arith) w_is s_is
  seat_at (v ∷ ws) [] seats i w s its low w_is s_is = absurd its
  seat_at (v ∷ ws) (a ∷ areas) [] i w s its low w_is s_is = absurd its

  -- the window that sits here floats
  abbrev pub seat_floats : Seat V H → Bool
  seat_floats s = s.floating

  -- seats lend the areas
  pub seats_areas : (ws : List (Window V H)) (areas : List Area) (seats : List (Seat V H)) → AreSeatsOf ws areas seats → map area_had seats ≡ areas
  seats_areas [] [] [] its = refl
  seats_areas (w ∷ ws) (a ∷ areas) (s ∷ seats) its = λ i. its.0.area i ∷ seats_areas ws areas seats its.1 i
  seats_areas [] [] (s ∷ seats) its = absurd its
  seats_areas [] (a ∷ areas) seats its = absurd its
  seats_areas (w ∷ ws) [] seats its = absurd its
  seats_areas (w ∷ ws) (a ∷ areas) [] its = absurd its

  pub lengths_of : (ws : List (Window V H)) (areas : List Area) (seats : List (Seat V H)) → AreSeatsOf ws areas seats → length seats ≡ length ws
  lengths_of [] [] [] its = refl
  lengths_of (w ∷ ws) (a ∷ areas) (s ∷ seats) its = ap suc (lengths_of ws areas seats its.1)
  lengths_of [] [] (s ∷ seats) its = absurd its
  lengths_of [] (a ∷ areas) seats its = absurd its
  lengths_of (w ∷ ws) [] seats its = absurd its
  lengths_of (w ∷ ws) (a ∷ areas) [] its = absurd its

  module _ (k : ℕ) (added : Seat V H) (ws : List (Window V H)) (areas : List Area) (seats : List (Seat V H)) (S : AreSeatsWith k added ws areas seats) where
    pub with_is : seats ≡ put_in k added S.all
    with_is = S.is ∙ sym (put_is_insert k added S.all)

    -- they lend the areas, and the new one its own
    pub areas_with : map area_had seats ≡ insert areas k added.area.now
    areas_with = ap (map area_had) with_is ∙ map-put area_had k added S.all ∙ ap (put_in k added.area.now) (seats_areas ws areas S.all S.are) ∙ put_is_insert k added.area.now areas

    -- one seat more than there are windows
    pub seats_length : length seats ≡ length ws + 1
    seats_length =
        let rest = lengths_of ws areas S.all S.are in
        let more = ap length with_is ∙ length-put k added S.all in
        omega arith

    -- what holds of all the others and of it
    pub all_with : (P : Seat V H → Type 0) → P added → All P S.all → All P seats
    all_with P one all = subst (All P) (sym with_is) (All-put P k added S.all one all)

-- areas of no pixel are one as good as the other
nowhere_alike : (desk : LayeredDesk) (stale : PixelSet) (n : ℕ) (a b : Area) → IsNowhere a → IsNowhere b → IsArea desk stale n a → IsArea desk stale n b
nowhere_alike desk stale n a b none nowhere its = record {
  visible = λ p. nowhere.visible p ∙ sym (none.visible p) ∙ its.visible p;
  update = λ p. nowhere.update p ∙ sym (none.update p) ∙ its.update p ∙ ap (λ v. v && stale p) (none.visible p ∙ sym (nowhere.visible p));
  frame = λ p. nowhere.frame p ∙ sym (none.frame p) ∙ its.frame p;
}

-- so a plan, where the window at a place had the one, is a plan where it had the other
pub plan_for_any : (t : Touch) (before : State) (after : LayeredDesk) (desktop : Pixels) (k : ℕ) (a b : Area) (olds : List Area) (ws : List WindowRecord) (plan : Plan) → IsNowhere a → IsNowhere b
    → IsPlan t before after desktop (insert olds k a) ws plan → IsPlan t before after desktop (insert olds k b) ws plan
plan_for_any t before after desktop k a b olds ws plan none nowhere its = record {
  areas = subst (λ xs. AreAreasAfter (change_of t) before after ws (areas_then xs plan.areas.items)) (put_is_insert k b olds)
      (by_place k olds ws plan.areas.items (subst (λ xs. AreAreasAfter (change_of t) before after ws (areas_then xs plan.areas.items)) (sym (put_is_insert k a olds)) its.areas));
  parts = its.parts;
  desktop_is = its.desktop_is;
  uncovered = its.uncovered;
  copied = its.copied;
}
  where
    by_first : (xs : List Area) (vs : List WindowRecord) (cs : List (Option Area)) → AreAreasAfter (change_of t) before after vs (areas_then (a ∷ xs) cs) → AreAreasAfter (change_of t) before after vs (areas_then (b ∷ xs) cs)
    by_first xs [] [] h = absurd h
    by_first xs [] (c ∷ cs) h = absurd h
    by_first xs (v ∷ vs) [] h = (nowhere_alike after (stale_after (change_of t) before after) v.serial a b none nowhere h.0, h.1)
    by_first xs (v ∷ vs) (None ∷ cs) h = (nowhere_alike after (stale_after (change_of t) before after) v.serial a b none nowhere h.0, h.1)
    by_first xs (v ∷ vs) (Some c ∷ cs) h = h

    -- a plan for no window leaves the areas
    then_none : (xs : List Area) → areas_then xs [] ≡ xs
    then_none [] = refl
    then_none (x ∷ xs) = refl

    by_place : (j : ℕ) (xs : List Area) (vs : List WindowRecord) (cs : List (Option Area)) → AreAreasAfter (change_of t) before after vs (areas_then (put_in j a xs) cs) → AreAreasAfter (change_of t) before after vs (areas_then (put_in j b xs) cs)
    by_place zero xs vs cs h = by_first xs vs cs h
    by_place (suc j) [] vs cs h = by_first [] vs cs h
    by_place (suc j) (x ∷ xs) [] [] h = absurd h
    by_place (suc j) (x ∷ xs) [] (c ∷ cs) h = absurd h
    by_place (suc j) (x ∷ xs) (v ∷ vs) [] h = (h.0, subst (AreAreasAfter (change_of t) before after vs) (then_none (put_in j b xs)) (by_place j xs vs [] (subst (AreAreasAfter (change_of t) before after vs) (sym (then_none (put_in j a xs))) h.1)))
    by_place (suc j) (x ∷ xs) (v ∷ vs) (c ∷ cs) h = (h.0, by_place j xs vs cs h.1)

-- no side of a screen is longer than 1024
low_side : (n : ℤ) → is_screen_side n ≡ true → n ≤ℤ pos 1024
low_side n e = grind (arith, ints)

module _ {V : Type 0} {H : V → Type 0} (loan : TakenBox V H → WindowLoan) (t : WindowManager V H) (kept : IsKept loan t) where
  pub sides : (pos t.screen.width ≤ℤ pos 1024) × (pos t.screen.height ≤ℤ pos 1024)
  sides =
      let one = and_parts (is_screen_side (pos t.screen.width)) _ kept.whole.sound.screen in
      (low_side (pos t.screen.width) one.0, low_side (pos t.screen.height) (and_parts (is_screen_side (pos t.screen.height)) _ one.1).0)

  pub gray_near : IsNear t.gray
  gray_near = seat.gray_near (layered_desk (desk_of loan t [])) t.gray sides.0 sides.1 kept.whole.gray

  -- a serial that is to be given next is no window's
  pub number_is_free : (n : ℕ) → t.windows.next ≡ Some n → layers.window_of n (layered_desk (desk_of loan t [])).windows ≡ None
  number_is_free n next = next_is_free (look_on t) n (desk_of loan t []).windows (subst (λ (k : Option ℕ). AreSerials k (desk_of loan t []).windows) next kept.whole.sound.serials).1

  -- there are as many areas as windows
  pub as_many : length t.areas.items ≡ length t.windows.records.items
  as_many = seat.as_many (layered_desk (desk_of loan t [])) (stale_in t.areas.items) (desk_of loan t []).windows t.areas.items kept.whole.areas ∙ length-map t.windows.records.items (record_of loan)

module _ {V : Type 0} {H : V → Type 0} (loan : TakenBox V H → WindowLoan) where
  -- ---- windows that stay as they are

  pub seats_stand : (ws : List (Window V H)) (areas : List Area) (seats : List (Seat V H)) → AreSeatsOf ws areas seats → map (seat_stand loan) seats ≡ map stand_of (map (record_of loan) ws)
  seats_stand [] [] [] its = refl
  seats_stand (w ∷ ws) (a ∷ areas) (s ∷ seats) its = λ i. seat.seat_is_stand loan w a s its.0 i ∷ seats_stand ws areas seats its.1 i
  seats_stand [] [] (s ∷ seats) its = absurd its
  seats_stand [] (a ∷ areas) seats its = absurd its
  seats_stand (w ∷ ws) [] seats its = absurd its
  seats_stand (w ∷ ws) (a ∷ areas) [] its = absurd its

  pub seats_class : (ws : List (Window V H)) (areas : List Area) (seats : List (Seat V H)) → AreSeatsOf ws areas seats → map seat_floats seats ≡ map is_floating (map (record_of loan) ws)
  seats_class [] [] [] its = refl
  seats_class (w ∷ ws) (a ∷ areas) (s ∷ seats) its = λ i. its.0.floating i ∷ seats_class ws areas seats its.1 i
  seats_class [] [] (s ∷ seats) its = absurd its
  seats_class [] (a ∷ areas) seats its = absurd its
  seats_class (w ∷ ws) [] seats its = absurd its
  seats_class (w ∷ ws) (a ∷ areas) [] its = absurd its

  pub seats_had : (before : State) (ws : List (Window V H)) (areas : List Area) (seats : List (Seat V H)) → AreSeatsOf ws areas seats → AreAreas before.desk before.stale (map (record_of loan) ws) areas → All (λ s. IsArea before.desk before.stale s.serial s.area.now) seats
  seats_had before [] [] [] its had = All-nil (λ s. IsArea before.desk before.stale s.serial s.area.now)
  seats_had before (w ∷ ws) (a ∷ areas) (s ∷ seats) its had =
      All-cons (λ s. IsArea before.desk before.stale s.serial s.area.now) s seats
      (seat.seat_had before.desk before.stale w a s its.0 had.0)
      (seats_had before ws areas seats its.1 had.1)
  seats_had before [] [] (s ∷ seats) its had = absurd its
  seats_had before [] (a ∷ areas) seats its had = absurd its
  seats_had before (w ∷ ws) [] seats its had = absurd its
  seats_had before (w ∷ ws) (a ∷ areas) [] its had = absurd its

  seat_placed : (w : Window V H) (a : Area) (s : Seat V H) → IsSeatOf w a s → IsSettled (record_of loan w) → IsPlacedSeat loan s
  seat_placed w a s its settled = seat.seat_placed loan w a s its (placed_from (record_of loan w).definition w.place w.size settled.placed settled.fits settled.inside)

  pub seats_placed : (ws : List (Window V H)) (areas : List Area) (seats : List (Seat V H)) → AreSeatsOf ws areas seats → All IsSettled (map (record_of loan) ws) → All (IsPlacedSeat loan) seats
  seats_placed [] [] [] its settled = All-nil (IsPlacedSeat loan)
  seats_placed (w ∷ ws) (a ∷ areas) (s ∷ seats) its settled =
      All-cons (IsPlacedSeat loan) s seats (seat_placed w a s its.0 (All-head IsSettled (record_of loan w) (map (record_of loan) ws) settled))
      (seats_placed ws areas seats its.1 (All-tail IsSettled (record_of loan w) (map (record_of loan) ws) settled))
  seats_placed [] [] (s ∷ seats) its settled = absurd its
  seats_placed [] (a ∷ areas) seats its settled = absurd its
  seats_placed (w ∷ ws) [] seats its settled = absurd its
  seats_placed (w ∷ ws) (a ∷ areas) [] its settled = absurd its

  -- all may be where they are to be
  pub all_placed : (k : ℕ) (added : Seat V H) (ws : List (Window V H)) (areas : List Area) (seats : List (Seat V H)) → AreSeatsWith k added ws areas seats → IsPlacedSeat loan added → All IsSettled (map (record_of loan) ws) → All (IsPlacedSeat loan) seats
  all_placed k added ws areas seats S placed settled = all_with k added ws areas seats S (IsPlacedSeat loan) placed (seats_placed ws areas S.all S.are settled)

  -- ---- and a new one among them

  -- the seat of a new window of this number and definition, which had no pixel
  pub record IsNewSeat (w : NewWindow) (n : ℕ) (d : WindowDefinition) (s : Seat V H) : Type 0 where
    pub serial : s.serial ≡ n
    pub place : s.place ≡ w.place
    pub size : s.size ≡ w.size
    pub shown : s.shown ≡ w.shown
    pub definition : (loan s.taken.now).definition ≡ d
    pub nowhere : IsNowhere s.area.now

  module _ (floating : Bool) (w : NewWindow) (n slot : ℕ) (d begun : WindowDefinition) (t : WindowManager V H) (kept : IsKept loan t) (next : t.windows.next ≡ Some n) (regions : SameRegions d begun) (front : Seat V H) (new : IsNewSeat w n d front) where
    abbrev before : State
    before = layered_state (state_of loan t [])

    abbrev after : FullDesk
    after = desk_with_new floating w n slot begun (desk_of loan t [])

    free : layers.window_of n before.desk.windows ≡ None
    free = number_is_free loan t kept n next

    distinct : layers.IsDesk (layered_desk after)
    distinct =
        subst layers.IsDesk (sym (layered_desk-with floating w n slot begun (desk_of loan t []) []))
        (distinct_put (look_on t) (place_on floating (desk_of loan t [])) (new_record floating w n slot begun) (desk_of loan t []).windows free (refl, tt) kept.whole.sound.distinct)

    pub front_stand : seat_stand loan front ≡ stand_of (new_record floating w n slot begun)
    front_stand =
        (λ i. record {
          serial = new.serial i;
          place = new.place i;
          shown = new.shown i;
          structure = (new.definition i).structure (new.size i);
          content = (new.definition i).content (new.size i);
        })
        ∙ (λ i. record { serial = n; place = w.place; shown = w.shown; structure = sym regions.structure i w.size; content = sym regions.content i w.size })

    -- a window that was not there had no pixel
    pub front_had : IsArea before.desk before.stale front.serial front.area.now
    front_had = subst (λ k. IsArea before.desk before.stale k front.area.now) (sym new.serial) (seat.absent_area before.desk before.stale n front.area.now free new.nowhere)

    -- the seats stand as the windows do, with the new one at its place
    stands_with : (k : ℕ) → k ≡ place_on floating (desk_of loan t []) → (seats : List (Seat V H)) → AreSeatsWith k front t.windows.records.items t.areas.items seats → map (seat_stand loan) seats ≡ map stand_of after.windows
    stands_with k place seats S =
        ap (map (seat_stand loan)) (with_is k front t.windows.records.items t.areas.items seats S)
        ∙ map-put (seat_stand loan) k front S.all
        ∙ (λ i. put_in (place i) (front_stand i) ((seats_stand t.windows.records.items t.areas.items S.all S.are ∙ sym (stands-behind t.windows.active (begins_active floating w) (desk_of loan t []).windows)) i))
        ∙ sym (map-put stand_of (place_on floating (desk_of loan t [])) (new_record floating w n slot begun) (others_with floating w (desk_of loan t [])))
        ∙ ap (map stand_of) (sym (new_windows floating w n slot begun (desk_of loan t [])))

    pub arranged : (k : ℕ) → k ≡ place_on floating (desk_of loan t []) → (seats : List (Seat V H)) (changed : Pixels) → AreSeatsWith k front t.windows.records.items t.areas.items seats → IsChangedArea before.desk (layered_desk after) changed → IsArranged loan (look_on t) before (layered_desk after) after.windows changed seats
    arranged k place seats changed S changes = record {
      desk = refl;
      distinct = distinct;
      changes = changes;
      stands = stands_with k place seats S;
      areas = all_with k front t.windows.records.items t.areas.items seats S (λ s. IsArea before.desk before.stale s.serial s.area.now) front_had (seats_had before t.windows.records.items t.areas.items S.all S.are kept.whole.areas);
    }

  -- all seats are near, with a new one that had no pixel
  pub all_near : (t : WindowManager V H) → IsKept loan t → (k : ℕ) (added : Seat V H) → IsNowhere added.area.now → (seats : List (Seat V H)) → AreSeatsWith k added t.windows.records.items t.areas.items seats → All IsNearSeat seats
  all_near t kept k added nowhere seats S =
      let side = sides loan t kept in
      let was : State = layered_state (state_of loan t []) in
      all_with k added t.windows.records.items t.areas.items seats S IsNearSeat
      ((λ p e. absurd (false≢true (sym (nowhere.visible p) ∙ e))), (λ p e. absurd (false≢true (sym (nowhere.update p) ∙ e))))
      (seat.seats_near was.desk was.stale S.all side.0 side.1 (seats_had was t.windows.records.items t.areas.items S.all S.are kept.whole.areas))
