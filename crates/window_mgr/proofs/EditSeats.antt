-- The seats of windows of which one is put anew.
use Rattle.std.proofs.Common.{◌≡◌, ℕ, zero, suc, ◌<◌, ◌≤◌, Bool, true, false, not, ◌&&◌, if◌then◌else◌, List, [], ◌∷◌, length, get_or, map, Option, None, Some, refl, sym, ap, ◌∙◌, subst, arith}
use Rattle.std.specs.Prelude.{All, slice_get}
use Rattle.std.specs.List.{insert, remove}
use Rattle.std.proofs.lemmas.Bool.{and_parts}
use Rattle.std.proofs.lemmas.Option.{slice_get_read, get_or_from_slice_get}
use Rattle.std.proofs.lemmas.List.Elements.{All-head, All-tail, All-get_or}
use Rattle.tb_geom.specs.declared.point.Point.{Point}
use Rattle.tb_geom.specs.Points.{minus}
use Rattle.tb_geom.specs.Pixels.{Pixels, holds}
use Rattle.def_iface.specs.Slots.{TakenBox}
use Rattle.def_iface.specs.WindowMeaning.{WindowLoan}
use Rattle.desk_layers.specs.Change.{State}
use Rattle.window_list.specs.declared.window.Window.{Window}
use Rattle.window_list.specs.Ranks.{insert_option, moved_item}
use Rattle.window_list.specs.Lists.{edit}
use Rattle.vis_update.specs.declared.plan.Seat.{Seat}
use Rattle.vis_update.specs.declared.plan.Touch.{Touch}
use Rattle.vis_update.specs.Plans.{IsLosing}
use Rattle.vis_update.specs.Hands.{IsLostOf}
use Rattle.vis_update.specs.Records.{WindowRecord, record_of, is_floating}
use Rattle.vis_update.specs.Places.{is_placed}
use Rattle.vis_update.specs.Areas.{IsArea}
use Rattle.vis_update.specs.Seats.{stand_of, seat_stand, area_had, IsPlacedSeat, IsNearSeat, IsArranged, IsChangedArea}
use Rattle.window_mgr.specs.Arrange.{same_place, way_between}
use Rattle.window_mgr.specs.declared.arrange.Edit.{Edit}
use Rattle.window_mgr.specs.declared.manager.WindowManager.{WindowManager}
use Rattle.window_mgr.specs.FullDesk.{FullDesk, layered_desk, layered_state, look_of}
use Rattle.window_mgr.specs.Edits.{put_record, records_put, IsWindowAt, AreSeatsAfter, IsDeskOfEdit, IsPlaceable, IsOnItsWay, SameSize}
use Rattle.window_mgr.specs.Finding.{front_of}
use Rattle.window_mgr.specs.Kept.{IsKept}
use Rattle.window_mgr.specs.Records.{state_of}
use Rattle.window_mgr.specs.Refused.{may_stand}
use Rattle.window_mgr.specs.Seats.{first_seated}
use Rattle.window_mgr.specs.Whole.{IsSettled}
use Rattle.window_mgr.proofs.PaintLemmas.{settled_in}
use Rattle.vis_update.proofs.PlaceLemmas.{placed_from}
use Rattle.window_mgr.proofs.PutIn.{put_in, put_is_insert, taken_out, All-out, All-put, map-put, length-put}
use Rattle.window_mgr.proofs.Seating.{as_many, lengths_of, seat_at, seats_areas, seats_class, seats_stand, seat_floats, seats_had, seats_placed, sides}
use Rattle.vis_update.proofs.SeatLemmas.{seats_near, losing_seats}
use Rattle.window_mgr.proofs.Ways.{same_places}

module _ {X Y : Type 0} (f : X → Y) where
  pub map-insert : (i : ℕ) (x : X) (xs : List X) → map f (insert xs i x) ≡ put_in i (f x) (map f xs)
  map-insert i x xs = ap (map f) (sym (put_is_insert i x xs)) ∙ map-put f i x xs

  pub map-remove : (xs : List X) (i : ℕ) → map f (remove xs i) ≡ remove (map f xs) i
  map-remove [] zero = refl
  map-remove [] (suc i) = refl
  map-remove (x ∷ xs) zero = refl
  map-remove (x ∷ xs) (suc i) = ap (λ ys. f x ∷ ys) (map-remove xs i)

-- the element at a place is one
pub same_at : {X : Type 0} (xs : List X) (i : ℕ) (x y : X) → i < length xs → x ≡ get_or xs i x → y ≡ get_or xs i y → x ≡ y
same_at [] i x y low e f = absurd (omega arith)
same_at (z ∷ xs) zero x y low e f = e ∙ sym f
same_at (z ∷ xs) (suc i) x y low e f = same_at xs i x y (omega arith) e f

-- there is an element at each place
pub there_is : {X : Type 0} (xs : List X) (i : ℕ) → i < length xs → (x : X) × (x ≡ get_or xs i x)
there_is [] i low = absurd (omega arith)
there_is (x ∷ xs) zero low = (x, refl)
there_is (x ∷ xs) (suc i) low = there_is xs i (omega arith)

pub length-anew : {X : Type 0} (xs : List X) (i j : ℕ) (x : X) → i < length xs → length (insert (remove xs i) j x) ≡ length xs
length-anew xs i j x low =
    let y = there_is xs i low in
    ap length (sym (put_is_insert j x (remove xs i))) ∙ length-put j x (remove xs i) ∙ sym (length-put i y.0 (remove xs i)) ∙ ap length (sym (taken_out xs i y.0 low y.1))

-- an element that is changed after it was put in is put in changed
pub edit_put : {X : Type 0} (f : X → X) (i : ℕ) (x : X) (xs : List X) → i ≤ length xs → edit f i (put_in i x xs) ≡ put_in i (f x) xs
edit_put f zero x xs low = refl
edit_put f (suc i) x [] low = absurd (omega arith)
edit_put f (suc i) x (y ∷ ys) low = ap (λ zs. y ∷ zs) (edit_put f i x ys (omega arith))

-- an element is read where it was put in
pub read_put : {X : Type 0} (i : ℕ) (x : X) (xs : List X) → i ≤ length xs → slice_get (put_in i x xs) i ≡ Some x
read_put zero x xs low = refl
read_put (suc i) x [] low = absurd (omega arith)
read_put (suc i) x (y ∷ ys) low = read_put i x ys (omega arith)

module _ {X : Type 0} (xs : List X) (i j : ℕ) (x : X) (low : i < length xs) (x_is : x ≡ get_or xs i x) where
  -- an element that was moved to another place was put in there
  moved_put : moved_item xs i j ≡ put_in j x (remove xs i)
  moved_put = ap (λ (o : Option _). insert_option (remove xs i) j o) (slice_get_read xs (length xs) i x refl low x_is) ∙ sym (put_is_insert j x (remove xs i))

  pub length-moved : length (moved_item xs i j) ≡ length xs
  length-moved = ap length (moved_put ∙ put_is_insert j x (remove xs i)) ∙ length-anew xs i j x low

  room : j < length xs → j ≤ length (remove xs i)
  room to =
      let rest = length-put i x (remove xs i) in
      let all = ap length (taken_out xs i x low x_is) in
      omega arith

  -- it is read there
  pub read_moved : j < length xs → slice_get (moved_item xs i j) j ≡ Some x
  read_moved to = ap (λ ys. slice_get ys j) moved_put ∙ read_put j x (remove xs i) (room to)

  -- and where it is changed, it was put anew
  pub moved_anew : (f : X → X) → j < length xs → edit f j (moved_item xs i j) ≡ insert (remove xs i) j (f x)
  moved_anew f to = ap (edit f j) moved_put ∙ edit_put f j x (remove xs i) (room to) ∙ put_is_insert j (f x) (remove xs i)

-- an element that is moved to its own place is where it was
pub moved_to_itself : {X : Type 0} (xs : List X) (i : ℕ) → i < length xs → moved_item xs i i ≡ xs
moved_to_itself xs i low = let x = there_is xs i low in moved_put xs i i x.0 low x.1 ∙ sym (taken_out xs i x.0 low x.1)

-- what is read of an element is read of it among what is of all
pub read_map : {X Y : Type 0} (f : X → Y) (xs : List X) (i : ℕ) (x : X) → x ≡ get_or xs i x → f x ≡ get_or (map f xs) i (f x)
read_map f [] i x e = refl
read_map f (y ∷ ys) zero x e = ap f e
read_map f (y ∷ ys) (suc i) x e = read_map f ys i x e

-- seats that stand as windows do, of the same classes, have the same first visible ordinary one
pub first_stand : {V : Type 0} {H : V → Type 0} (loan : TakenBox V H → WindowLoan) (ss : List (Seat V H)) (ws : List WindowRecord) → map (seat_stand loan) ss ≡ map stand_of ws → map (seat_floats) ss ≡ map is_floating ws → first_seated ss ≡ front_of ws
first_stand loan [] [] e c = refl
first_stand loan [] (v ∷ vs) e c = absurd (cc)
first_stand loan (s ∷ ss) [] e c = absurd (cc)
first_stand loan (s ∷ ss) (v ∷ vs) e c =
    let here : seat_stand loan s ≡ stand_of v = cc in
    let behind : map (seat_stand loan) ss ≡ map stand_of vs = cc in
    let its_class : s.floating ≡ v.floating = cc in
    let classes : map (seat_floats) ss ≡ map is_floating vs = cc in
    λ i. if (here i).shown && not (its_class i) then Some (here i).serial else first_stand loan ss vs behind classes i

module _ {V : Type 0} {H : V → Type 0} (loan : TakenBox V H → WindowLoan) (t : WindowManager V H) (kept : IsKept loan t) (e : Edit) (seats : List (Seat V H)) (S : AreSeatsAfter e t.windows.records.items t.areas.items seats) (low : e.at < length t.windows.records.items) where
  within : e.at < length S.all
  within = let n = lengths_of t.windows.records.items t.areas.items S.all S.are in omega arith

  pub as_many_seats : length seats ≡ length t.windows.records.items
  as_many_seats = ap length S.is ∙ length-anew S.all e.at e.to (record S.seat { place = e.place; size = e.size; shown = e.shown }) within ∙ lengths_of t.windows.records.items t.areas.items S.all S.are

  -- what holds of all seats but in their places
  all_anew : (P : Seat V H → Type 0) → All P S.all → P (record S.seat { place = e.place; size = e.size; shown = e.shown }) → All P seats
  all_anew P all one =
      subst (All P) (put_is_insert e.to (record S.seat { place = e.place; size = e.size; shown = e.shown }) (remove S.all e.at) ∙ sym S.is)
      (All-put P e.to (record S.seat { place = e.place; size = e.size; shown = e.shown }) (remove S.all e.at) one (All-tail P S.seat (remove S.all e.at) (All-out P e.at S.seat (remove S.all e.at) (subst (All P) (taken_out S.all e.at S.seat within S.at) all))))

  one_of : (P : Seat V H → Type 0) → All P S.all → P S.seat
  one_of P all = All-head P S.seat (remove S.all e.at) (All-out P e.at S.seat (remove S.all e.at) (subst (All P) (taken_out S.all e.at S.seat within S.at) all))

  abbrev before : State
  before = layered_state (state_of loan t [])

  had : All (λ (s : Seat V H). IsArea before.desk before.stale s.serial s.area.now) seats
  had =
      let all = seats_had loan before t.windows.records.items t.areas.items S.all S.are kept.whole.areas in
      all_anew (λ (s : Seat V H). IsArea before.desk before.stale s.serial s.area.now) all (one_of (λ (s : Seat V H). IsArea before.desk before.stale s.serial s.area.now) all)

  pub near_edit : All IsNearSeat seats
  near_edit = let side = sides loan t kept in seats_near before.desk before.stale seats side.0 side.1 had

  -- the seat that is put anew
  abbrev pub anew : Seat V H
  anew = record S.seat { place = e.place; size = e.size; shown = e.shown }

  pub area_low : e.at < length t.areas.items
  area_low = let long = as_many loan t kept in omega arith

  -- its area is the one that stood at the place of the edit
  pub area_read : S.seat.area.now ≡ get_or t.areas.items e.at S.seat.area.now
  area_read = read_map area_had S.all e.at S.seat S.at ∙ ap (λ xs. get_or xs e.at S.seat.area.now) (seats_areas t.windows.records.items t.areas.items S.all S.are)

  -- the areas are those of the windows, one in its new place
  pub areas_edit : map area_had seats ≡ moved_item t.areas.items e.at e.to
  areas_edit =
      ap (map area_had) S.is
      ∙ map-insert area_had e.to anew (remove S.all e.at)
      ∙ ap (put_in e.to S.seat.area.now) (map-remove area_had S.all e.at ∙ ap (λ xs. remove xs e.at) (seats_areas t.windows.records.items t.areas.items S.all S.are))
      ∙ sym (moved_put t.areas.items e.at e.to S.seat.area.now area_low area_read)

  -- it stands in its new place
  pub anew_read : (s : Seat V H) → e.to < length t.windows.records.items → s ≡ get_or seats e.to s → s ≡ anew
  anew_read s to read =
      let one_less = length-put e.at S.seat (remove S.all e.at) in
      let all = ap length (taken_out S.all e.at S.seat within S.at) in
      let long = lengths_of t.windows.records.items t.areas.items S.all S.are in
      let many = as_many_seats in
      let found : slice_get seats e.to ≡ Some anew = ap (λ ss. slice_get ss e.to) (S.is ∙ sym (put_is_insert e.to anew (remove S.all e.at))) ∙ read_put e.to anew (remove S.all e.at) (omega arith) in
      same_at seats e.to s anew (omega arith) read (sym (get_or_from_slice_get seats e.to anew anew found))

  -- what holds of all seats holds of it
  pub of_anew : (P : Seat V H → Type 0) → All P seats → (s : Seat V H) → e.to < length t.windows.records.items → s ≡ get_or seats e.to s → P s
  of_anew P all s to read =
      let many = as_many_seats in
      subst P (sym read) (All-get_or P seats e.to s (omega arith) all)

  pub losing_edit : (touch : Touch) (w : Window V H) → IsWindowAt t.windows.records.items e.at w → touch.window ≡ w.serial → (s : Seat V H) → e.to < length t.windows.records.items → s ≡ get_or seats e.to s
      → (changed lost : Pixels) → IsLostOf s.area.now changed lost → All (IsLosing touch (holds changed) (holds lost)) seats
  losing_edit touch w w_is about s to read changed lost lost_is =
      let its = seat_at t.windows.records.items t.areas.items S.all e.at w S.seat S.are low w_is S.at in
      let same : s.serial ≡ touch.window = ap (λ (x : Seat V H). x.serial) (anew_read s to read) ∙ its.1.serial ∙ sym about in
      losing_seats touch before.desk before.stale s.area.now changed lost seats
      (subst (λ n. IsArea before.desk before.stale n s.area.now) same (of_anew (λ (x : Seat V H). IsArea before.desk before.stale x.serial x.area.now) had s to read))
      lost_is had

  pub placed_edit : IsPlaceable loan e t.windows.records.items → All (IsPlacedSeat loan) seats
  placed_edit may =
      let w = there_is t.windows.records.items e.at low in
      let its = seat_at t.windows.records.items t.areas.items S.all e.at w.0 S.seat S.are low w.1 S.at in
      all_anew (IsPlacedSeat loan) (seats_placed loan t.windows.records.items t.areas.items S.all S.are kept.whole.sound.settled)
      ((λ i. is_placed (Some (loan (its.1.taken i)).definition) e.place e.size) ∙ (and_parts (is_placed (Some (loan w.0.taken).definition) e.place e.size) _ (may w.0 w.1)).0)

  module _ (w : Window V H) (w_is : IsWindowAt t.windows.records.items e.at w) where
    seat_put : seat_stand loan (record S.seat { place = e.place; size = e.size; shown = e.shown }) ≡ stand_of (put_record e (record_of loan w))
    seat_put =
        let its = seat_at t.windows.records.items t.areas.items S.all e.at w S.seat S.are low w_is S.at in
        λ i. record {
          serial = its.1.serial i;
          place = e.place;
          shown = e.shown;
          structure = (loan (its.1.taken i)).definition.structure e.size;
          content = (loan (its.1.taken i)).definition.content e.size;
        }

    -- the seats stand as the windows do
    pub seats_put : map (seat_stand loan) seats ≡ map stand_of (records_put loan e w t)
    seats_put =
        ap (map (seat_stand loan)) S.is
        ∙ map-insert (seat_stand loan) e.to (record S.seat { place = e.place; size = e.size; shown = e.shown }) (remove S.all e.at)
        ∙ (λ i. put_in e.to (seat_put i) ((map-remove (seat_stand loan) S.all e.at ∙ ap (λ xs. remove xs e.at) (seats_stand loan t.windows.records.items t.areas.items S.all S.are) ∙ sym (map-remove stand_of (map (record_of loan) t.windows.records.items) e.at) ∙ ap (map stand_of) (sym (map-remove (record_of loan) t.windows.records.items e.at))) i))
        ∙ sym (map-insert stand_of e.to (put_record e (record_of loan w)) (map (record_of loan) (remove t.windows.records.items e.at)))

    pub arranged_edit : (after : FullDesk) (changed : Pixels) → IsDeskOfEdit loan e t w after → IsChangedArea before.desk (layered_desk after) changed → IsArranged loan (look_of after) before (layered_desk after) after.windows changed seats
    arranged_edit after changed D changes = record {
      desk = refl;
      distinct = D.distinct;
      changes = changes;
      stands = seats_put ∙ sym D.stands;
      areas = had;
    }

    -- and are of their classes
    classes_put : map (seat_floats) seats ≡ map is_floating (records_put loan e w t)
    classes_put =
        let its = seat_at t.windows.records.items t.areas.items S.all e.at w S.seat S.are low w_is S.at in
        ap (map (seat_floats)) S.is
        ∙ map-insert (seat_floats) e.to (record S.seat { place = e.place; size = e.size; shown = e.shown }) (remove S.all e.at)
        ∙ (λ i. put_in e.to (its.1.floating i) ((map-remove (seat_floats) S.all e.at ∙ ap (λ xs. remove xs e.at) (seats_class loan t.windows.records.items t.areas.items S.all S.are) ∙ sym (map-remove is_floating (map (record_of loan) t.windows.records.items) e.at) ∙ ap (map is_floating) (sym (map-remove (record_of loan) t.windows.records.items e.at))) i))
        ∙ sym (map-insert is_floating e.to (put_record e (record_of loan w)) (map (record_of loan) (remove t.windows.records.items e.at)))

    -- and the first visible ordinary one is the same
    pub front_put : first_seated seats ≡ front_of (records_put loan e w t)
    front_put = first_stand loan seats (records_put loan e w t) seats_put classes_put

-- a window that stays where it is, with its size, may be there
pub may_stay : {V : Type 0} {H : V → Type 0} (loan : TakenBox V H → WindowLoan) (e : Edit) (ws : List (Window V H)) (x : Window V H) → e.at < length ws → IsWindowAt ws e.at x → e.place ≡ x.place → e.size ≡ x.size → All IsSettled (map (record_of loan) ws) → IsPlaceable loan e ws
may_stay loan e ws x low x_is place_is size_is settled w w_is =
    let same : x ≡ w = same_at ws e.at x w low x_is w_is in
    let its = settled_in loan ws e.at w low w_is settled in
    (λ i. may_stand ((place_is ∙ ap (λ (z : Window _ _). z.place) same) i) ((size_is ∙ ap (λ (z : Window _ _). z.size) same) i) (record_of loan w))
    ∙ (λ i. placed_from (loan w.taken).definition w.place w.size its.placed its.fits its.inside i && its.layers i)

pub may_stay_as : {V : Type 0} {H : V → Type 0} (loan : TakenBox V H → WindowLoan) (e f : Edit) (ws : List (Window V H)) (x : Window V H) → e ≡ f → f.at < length ws → IsWindowAt ws f.at x → f.place ≡ x.place → f.size ≡ x.size → All IsSettled (map (record_of loan) ws) → IsPlaceable loan e ws
may_stay_as loan e f ws x same low x_is place_is size_is settled = subst (λ (y : Edit). IsPlaceable loan y ws) (sym same) (may_stay loan f ws x low x_is place_is size_is settled)

-- and has its size
pub same_size : {V : Type 0} {H : V → Type 0} (e : Edit) (ws : List (Window V H)) (x : Window V H) → e.at < length ws → IsWindowAt ws e.at x → e.size ≡ x.size → SameSize e ws
same_size e ws x low x_is size_is w w_is = size_is ∙ ap (λ (z : Window _ _). z.size) (same_at ws e.at x w low x_is w_is)

-- ---- how far its pixels move

-- a window that stays where it is moves no pixels
pub stays_as : {V : Type 0} {H : V → Type 0} (e f : Edit) (ws : List (Window V H)) (x : Window V H) → e ≡ f → f.at < length ws → IsWindowAt ws f.at x → f.place ≡ x.place → IsOnItsWay e.at e.place None ws
stays_as e f ws x same low x_is place_is = subst (λ (y : Edit). IsOnItsWay y.at y.place None ws) (sym same) (λ w w_is. place_is ∙ ap (λ (z : Window _ _). z.place) (same_at ws f.at x w low x_is w_is))

-- one that is put elsewhere moves them as far
pub goes_as_far : {V : Type 0} {H : V → Type 0} (e : Edit) (i : ℕ) (by : Point) (ws : List (Window V H)) (x : Window V H) → e.at ≡ i → i < length ws → IsWindowAt ws i x → by ≡ minus e.place x.place → IsOnItsWay e.at e.place (Some by) ws
goes_as_far e i by ws x at low x_is far w w_is = far ∙ ap (λ (z : Window _ _). minus e.place z.place) (same_at ws i x w low x_is (subst (λ n. IsWindowAt ws n w) at w_is))

-- the window goes there, or stays where it is
pub goes_there : {V : Type 0} {H : V → Type 0} (e : Edit) (i : ℕ) (by : Option Point) (ws : List (Window V H)) (x : Window V H) → e.at ≡ i → i < length ws → IsWindowAt ws i x → by ≡ way_between x.place e.place → IsOnItsWay e.at e.place by ws
goes_there e i by ws x at low x_is way = subst (λ b. IsOnItsWay e.at e.place b ws) (sym way) (by_test (same_place x.place e.place) refl)
  where
    by_test : (b : Bool) → same_place x.place e.place ≡ b → IsOnItsWay e.at e.place (if b then None else Some (minus e.place x.place)) ws
    by_test true same = λ w w_is. sym (same_places x.place e.place same) ∙ ap (λ (z : Window _ _). z.place) (same_at ws i x w low x_is (subst (λ n. IsWindowAt ws n w) at w_is))
    by_test false same = goes_as_far e i (minus e.place x.place) ws x at low x_is refl
