-- The step of a new window.
use Rattle.std.proofs.Common.{◌≡◌, ℕ, ◌<◌, ◌≤◌, nat_lt, nat_le, Bool, true, false, not, ◌&&◌, ◌||◌, ◌==◌, ◌+◌, if◌then◌else◌, List, [], ◌∷◌, ◌++◌, length, map, Option, None, Some, pos, inl, refl, sym, ap, ◌∙◌, subst, arith}
use Rattle.std.specs.Prelude.{All, Ok, Err, is_none}
use Rattle.std.specs.List.{insert}
use Rattle.vis_update.specs.declared.area.Area.{Area}
use Rattle.std.proofs.lemmas.Bool.Decides.{nat_tests}
use Rattle.std.proofs.lemmas.List.{length-map}
use Rattle.tb_geom.specs.declared.point.Point.{Point}
use Rattle.tb_geom.specs.declared.refusal.Refusal.{Refusal}
use Rattle.tb_geom.specs.declared.refusal.Refusal.TheVariants.{OutOfRange, TooLong, TooMany, NoDefinition}
use Rattle.tb_geom.specs.declared.rect.Rect.{Rect}
use Rattle.tb_geom.specs.Points.{PixelSet}
use Rattle.tb_geom.specs.Rects.{in_plane, is_in_range, moved_rect, rect_holds}
use Rattle.bit_map.specs.Bits.{Bits}
use Rattle.def_iface.specs.Slots.{TakenBox}
use Rattle.def_iface.specs.declared.size.Size.{Size}
use Rattle.def_iface.specs.Sizes.{is_size}
use Rattle.def_iface.specs.WindowNews.{AllWindowNews, new_window_news}
use Rattle.def_iface.specs.WindowMeaning.{WindowDefinition, WindowLoan, IsBegun, IsWithin, is_fitting}
use Rattle.def_iface.specs.WindowSlots.{WindowSlot, IsTaken, IsNotTaken, IsPutBack}
use Rattle.desk_layers.specs.Desk as layers
use Rattle.desk_layers.specs.Owner.{own_bit}
use Rattle.desk_layers.specs.Owner.Owner.{Frame}
use Rattle.def_iface.proofs.Hearing.{goes_by_all}
use Rattle.desk_layers.specs.Change as plain
use Rattle.desk_call.specs.declared.window.NewWindow.{NewWindow}
use Rattle.desk_call.specs.declared.window.WindowCall.TheVariants.{New, NewFloating}
use Rattle.desk_call.specs.declared.window.WindowReply.TheVariants.{Made}
use Rattle.window_mgr.specs.declared.manager.WindowManager.{WindowManager}
use Rattle.vis_update.specs.declared.plan.Plan.{Plan}
use Rattle.vis_update.specs.declared.plan.Touch.{Touch}
use Rattle.window_list.specs.declared.window.Window.{Window}
use Rattle.vis_update.specs.Records.{WindowRecord, layered_window}
use Rattle.window_mgr.specs.FullDesk.{FullDesk, AreSerials, layered_desk, layered_state}
use Rattle.vis_update.specs.Records.{record_of}
use Rattle.window_mgr.specs.Records.{desk_of, state_of, look_on}
use Rattle.window_paint.specs.White.{all_white}
use Rattle.tb_geom.specs.Refusals.{first_refusal}
use Rattle.window_mgr.specs.Refused.{judged_refusals, new_window_refusals, is_full, longest_text, most_windows}
use Rattle.vis_update.specs.Places.{is_placed}
use Rattle.window_mgr.specs.Step.{IsWindowStep}
use Rattle.window_mgr.specs.Effects.{IsNewWindow, IsUnchanged, begins_active, first_news, new_record, desk_with_new}
use Rattle.window_mgr.specs.Arrange.{with_highlighting}
use Rattle.window_mgr.specs.Planned.{IsPlanWith, IsAdded, IsUnplanned, SameDesk, new_place, new_touch}
use Rattle.window_list.specs.Classes.{front_place}
use Rattle.window_list.specs.Lists.{floats, leads, with_new}
use Rattle.window_list.proofs.ClassLemmas.{made_way, way_front, way_length}
use Rattle.vis_update.specs.Plans.{IsPlan, areas_then}
use Rattle.vis_update.specs.Touches.{change_of, draws_whole}
use Rattle.window_mgr.specs.Whole.{IsWholeManager, IsSoundDesk, IsSettled, IsStocked, LieThere}
use Rattle.window_mgr.specs.Commits.{IsPlanDrawn}
use Rattle.window_mgr.proofs.LyingThere.{dimmed_lie}
use Rattle.window_mgr.proofs.SlotLemmas.{stocked_with, put_back_is_old}
use Rattle.window_mgr.proofs.RefusalLemmas.{refusal_is, refusal_without, unplanned_is_refused}
use Rattle.window_mgr.proofs.SameDeskLemmas.{plan_stays, stays_unchanged}
use Rattle.vis_update.proofs.PlaceLemmas.{placed_parts}
use Rattle.window_mgr.proofs.Committing.{quiet_is, turned}
use Rattle.window_mgr.proofs.Arranged.{IsArrangedCall, is_left as arranged_is_left, is_whole as arranged_is_whole}
use Rattle.window_mgr.proofs.DimLemmas.{windows_behind, settled_behind, stocked_behind, records_behind}
use Rattle.window_mgr.proofs.ClassPlaces.{new_windows, others_with, own_bit-put, place_on, place_records}
use Rattle.window_mgr.proofs.PutIn.{put_in, put_is_insert, map-put, length-put, distinct_put, All-put}
use Rattle.window_mgr.proofs.Rearranged.{stocked_put}
use Rattle.window_mgr.proofs.Running.{layered_desk-with, next_is_free, numbered_with}

-- what it says that a place, a title and the count of windows refuse nothing
record Unrefused (w : NewWindow) (placed : Bool) (count : ℕ) (next : Option ℕ) : Type 0 where
  placed_is : placed ≡ true
  title : nat_lt longest_text (length w.title) ≡ false
  room : is_full count next ≡ false

unrefused : (w : NewWindow) (placed : Bool) (count : ℕ) (next : Option ℕ) → first_refusal (judged_refusals w placed count next) ≡ None → Unrefused w placed count next
unrefused w placed count next e = by_tests placed (nat_lt longest_text (length w.title)) (is_full count next) refl refl refl e
  where
    by_tests : (a b c : Bool) → placed ≡ a → nat_lt longest_text (length w.title) ≡ b → is_full count next ≡ c → (if not a then Some OutOfRange else (if b then Some TooLong else (if c then Some TooMany else None))) ≡ None → Unrefused w placed count next
    by_tests true true c ea eb ec e = absurd (cc)
    by_tests true false true ea eb ec e = absurd (cc)
    by_tests true false false ea eb ec e = record { placed_is = ea; title = eb; room = ec }
    by_tests false b c ea eb ec e = absurd (cc)

-- a window that nothing refuses has a size that fits it
pub unrefused_fits : (w : NewWindow) (d : WindowDefinition) (count : ℕ) (next : Option ℕ) → first_refusal (judged_refusals w (is_placed (Some d) w.place w.size) count next) ≡ None → is_fitting d w.size ≡ true
unrefused_fits w d count next e = (placed_parts d w.place w.size (unrefused w _ count next e).placed_is).fits

-- and it may stand where it is to be
pub unrefused_placed : (w : NewWindow) (d : WindowDefinition) (count : ℕ) (next : Option ℕ) → first_refusal (judged_refusals w (is_placed (Some d) w.place w.size) count next) ≡ None → is_placed (Some d) w.place w.size ≡ true
unrefused_placed w d count next e = (unrefused w _ count next e).placed_is

-- and its place is a point
pub unrefused_place : (w : NewWindow) (d : WindowDefinition) (count : ℕ) (next : Option ℕ) → first_refusal (judged_refusals w (is_placed (Some d) w.place w.size) count next) ≡ None → in_plane w.place ≡ true
unrefused_place w d count next e = (placed_parts d w.place w.size (unrefused w _ count next e).placed_is).place_in

-- and its structure there lies in the range of coordinates
pub unrefused_inside : (w : NewWindow) (d : WindowDefinition) (count : ℕ) (next : Option ℕ) → first_refusal (judged_refusals w (is_placed (Some d) w.place w.size) count next) ≡ None → is_in_range (moved_rect (d.bounds w.size) w.place.h w.place.v) ≡ true
unrefused_inside w d count next e = (placed_parts d w.place w.size (unrefused w _ count next e).placed_is).moved

-- a desk that may get one more window has less than there may be
fewer_before : (count : ℕ) (next : Option ℕ) → is_full count next ≡ false → count < most_windows
fewer_before count next e = by_test (nat_le most_windows count) refl e
  where
    by_test : (b : Bool) → nat_le most_windows count ≡ b → (b || is_none next) ≡ false → count < most_windows
    by_test true t e = absurd (cc)
    by_test false t e = grind (arith, nat_tests)

length_behind : (active : Option ℕ) (b : Bool) (ws : List WindowRecord) → length (windows_behind active b ws) ≡ length ws
length_behind active true ws = length-map ws (with_highlighting false active)
length_behind active false ws = refl

-- the content still lies in the box once the definition has begun
begun_within : (size : Size) {all : AllWindowNews} (d begun : WindowDefinition) → IsBegun all d begun → IsWithin (d.content size) (rect_holds (d.bounds size)) → IsWithin (begun.content size) (rect_holds (begun.bounds size))
begun_within size {all} d begun live within =
    subst (λ (x : (Size → PixelSet) × (Size → Rect)). IsWithin (x.0 size) (rect_holds (x.1 size))) (λ i. (sym live.regions.content i, sym live.regions.bounds i)) within

-- a definition that was told an equal title
pub begun_as : {size : Size} {t u : List ℕ} {go_away highlighted : Bool} {d begun : WindowDefinition} → t ≡ u
    → IsBegun (new_window_news size t go_away highlighted) d begun → IsBegun (new_window_news size u go_away highlighted) d begun
begun_as {size} {t} {u} {go_away} {highlighted} {d} {begun} e live = subst (λ x. IsBegun (new_window_news size x go_away highlighted) d begun) e live

-- the record of a new window is settled
pub settled_new : (floating : Bool) (w : NewWindow) (n slot : ℕ) (d begun : WindowDefinition) → IsBegun (first_news floating w) d begun → is_placed (Some d) w.place w.size ≡ true → IsWithin (d.content w.size) (rect_holds (d.bounds w.size)) → IsSettled (new_record floating w n slot begun)
settled_new floating w n slot d begun live placed within =
    let its = placed_parts d w.place w.size placed in
    record {
      origin = refl;
      placed = its.place_in;
      live = live.live;
      told = live.told;
      fits = ap (λ (b : Size → Rect). is_size w.size && is_in_range (b w.size)) live.regions.bounds ∙ its.fits;
      inside = ap (λ (b : Size → Rect). is_in_range (moved_rect (b w.size) w.place.h w.place.v)) live.regions.bounds ∙ its.moved;
      within = begun_within w.size d begun live within;
      layers = refl;
      goes_by = goes_by_all (first_news floating w) d begun live.heard;
    }

-- the windows of a list, with a new one among them
module _ {V : Type 0} {H : V → Type 0} (added : Window V H) (active : Option ℕ) (ws items : List (Window V H)) (items_are : items ≡ with_new active added ws) where
  -- where it stands
  abbrev pub place_in : ℕ
  place_in = front_place floats added.floating ws

  -- the others
  abbrev pub others_in : List (Window V H)
  others_in = made_way (leads added) active ws

  pub put_among : items ≡ put_in place_in added others_in
  put_among =
      items_are
      ∙ (λ i. insert others_in (way_front (leads added) added.floating active ws i) added)
      ∙ sym (put_is_insert place_in added others_in)

  pub one_more : length items ≡ length ws + 1
  one_more =
      let more = ap length put_among ∙ length-put place_in added others_in in
      let others = way_length (leads added) active ws in
      omega arith

-- all windows are settled, with a new one among them
pub settled_added : {V : Type 0} {H : V → Type 0} (loan : TakenBox V H → WindowLoan) (floating : Bool) (w : NewWindow) (n slot : ℕ) (d begun : WindowDefinition) (added : Window V H) (active : Option ℕ) (ws items : List (Window V H)) → record_of loan added ≡ new_record floating w n slot begun → items ≡ with_new active added ws → IsBegun (first_news floating w) d begun → is_placed (Some d) w.place w.size ≡ true → IsWithin (d.content w.size) (rect_holds (d.bounds w.size)) → All IsSettled (map (record_of loan) ws) → All IsSettled (map (record_of loan) items)
settled_added loan floating w n slot d begun added active ws items seen items_are live placed within settled =
    let k = place_in added active ws items items_are in
    let others = others_in added active ws items items_are in
    subst (All IsSettled)
    (sym (ap (map (record_of loan)) (put_among added active ws items items_are) ∙ map-put (record_of loan) k added others ∙ (λ i. put_in k (seen i) (records_behind loan active (leads added) ws i))))
    (All-put IsSettled k (new_record floating w n slot begun) (windows_behind active (leads added) (map (record_of loan) ws)) (settled_new floating w n slot d begun live placed within) (settled_behind active (leads added) (map (record_of loan) ws) settled))

module _ {V : Type 0} {H : V → Type 0} (loan : TakenBox V H → WindowLoan) where
  -- all that is known where a window was added
  pub record IsNew (floating : Bool) (w : NewWindow) (n : ℕ) (taken : WindowLoan) (touch : Touch) (plan : Plan) (t planned new : WindowManager V H) (slots left : List WindowSlot) : Type 0 where
    pub whole : IsWholeManager loan t slots
    pub same : SameDesk t planned
    pub unrefused_is : first_refusal (judged_refusals w (is_placed (Some taken.definition) w.place w.size) (length t.windows.records.items) t.windows.next) ≡ None
    pub touch_is : touch ≡ new_touch n
    pub plan_with : IsPlanWith loan floating w n taken.definition touch planned plan
    pub number : planned.windows.next ≡ Some n
    pub added : IsAdded loan floating w n taken touch plan planned new
    pub took : IsTaken w.kind taken slots left
    pub within : IsWithin (taken.definition.content w.size) (rect_holds (taken.definition.bounds w.size))

  module _ (floating : Bool) (w : NewWindow) (n : ℕ) (taken : WindowLoan) (touch : Touch) (plan : Plan) (t planned new : WindowManager V H) (slots left : List WindowSlot) (N : IsNew floating w n taken touch plan t planned new slots left) where
    abbrev before : FullDesk
    before = desk_of loan t slots

    -- the desk with the new window at its place
    abbrev after : FullDesk
    after = record (desk_with_new floating w n taken.slot N.added.begun before) { stock = left }

    next_is : t.windows.next ≡ Some n
    next_is = sym N.same.next ∙ N.number

    below : AreSerials (Some n) before.windows
    below = subst (λ (k : Option ℕ). AreSerials k before.windows) next_is N.whole.sound.serials

    free : layers.window_of n (layered_desk before).windows ≡ None
    free = next_is_free (look_on t) n before.windows below.1

    abbrev made : WindowRecord
    made = new_record floating w n taken.slot N.added.begun

    -- where it is put in
    abbrev k : ℕ
    k = place_on floating before

    -- as layers, the desk after is the desk before with one more window
    layers_are : layered_desk after ≡ record (layered_desk before) { windows = map (layered_window (look_on t)) (put_in k made before.windows) }
    layers_are = layered_desk-with floating w n taken.slot N.added.begun before left

    -- the areas before, with one of no pixel at the place of the new window
    abbrev olds : List Area
    olds = insert t.areas.items (new_place floating t) N.added.area

    -- the plan, said of the desk before the call
    plan_is : IsPlan touch (layered_state (state_of loan t slots)) (layered_desk after) t.desktop olds after.windows plan
    plan_is =
        let back : SameDesk planned t = record { screen = sym N.same.screen; bar = sym N.same.bar; font = sym N.same.font; gray = sym N.same.gray; desktop = sym N.same.desktop; windows = sym N.same.windows; areas = sym N.same.areas; active = sym N.same.active; next = sym N.same.next } in
        plan_stays loan planned t [] [] back refl floating w n taken.definition touch plan N.plan_with taken.slot N.added.begun N.added.live.regions N.added.area N.added.nowhere

    -- the window leads as the call says
    leads_is : leads N.added.record_is ≡ begins_active floating w
    leads_is = λ i. (N.added.seen i).shown && not (N.added.seen i).floating

    class_is : N.added.record_is.floating ≡ floating
    class_is = ap (λ (x : WindowRecord). x.floating) N.added.seen

    windows_are : map (record_of loan) new.windows.records.items ≡ after.windows
    windows_are =
        ap (map (record_of loan)) (put_among N.added.record_is planned.windows.active planned.windows.records.items new.windows.records.items N.added.windows)
        ∙ map-put (record_of loan) (front_place floats N.added.record_is.floating planned.windows.records.items) N.added.record_is (made_way (leads N.added.record_is) planned.windows.active planned.windows.records.items)
        ∙ (λ i. put_in (front_place floats (class_is i) (N.same.windows i)) (N.added.seen i) (map (record_of loan) (made_way (leads_is i) (N.same.active i) (N.same.windows i))))
        ∙ (λ i. put_in (sym (place_records floating loan t.windows.records.items) i) made (records_behind loan t.windows.active (begins_active floating w) t.windows.records.items i))
        ∙ sym (new_windows floating w n taken.slot N.added.begun before)

    drawn : IsPlanDrawn plan touch.by t.font after.windows t.screen new.screen
    drawn = subst (λ (x : List ℕ × List WindowRecord × Bits). IsPlanDrawn plan touch.by x.0 x.1 x.2 new.screen) (λ i. (N.same.font i, windows_are i, N.same.screen i)) N.added.drawn

    desk_is : desk_of loan new left ≡ after
    desk_is = λ i. record {
      width = pos (drawn.width i);
      height = pos (drawn.height i);
      bar = (N.added.bar ∙ N.same.bar) i;
      font = (N.added.font ∙ N.same.font) i;
      shows = all_white;
      windows = windows_are i;
      active = (N.added.active ∙ ap (λ a. if begins_active floating w then Some n else a) N.same.active) i;
      next = N.added.next i;
      stock = left;
    }

    -- the frames of other windows stay
    frames : (s : ℕ) (p : Point) → draws_whole touch s ≡ false → own_bit (layered_desk before) (Frame s) p ≡ own_bit (layered_desk after) (Frame s) p
    frames s p e =
        sym (own_bit-put (look_on t) (layered_desk before) k made before.windows p (Frame s) free (ap not (turned s n (quiet_is (s == n) (ap (λ (x : Touch). s == x.window && x.whole) (sym N.touch_is) ∙ e)))))
        ∙ sym (ap (λ d. own_bit d (Frame s) p) layers_are)

    settled : IsSettled made
    settled = record {
      origin = refl;
      placed = unrefused_place w _ _ _ N.unrefused_is;
      live = N.added.live.live;
      told = N.added.live.told;
      fits = ap (λ (b : Size → Rect). is_size w.size && is_in_range (b w.size)) N.added.live.regions.bounds ∙ unrefused_fits w _ _ _ N.unrefused_is;
      inside = ap (λ (b : Size → Rect). is_in_range (moved_rect (b w.size) w.place.h w.place.v)) N.added.live.regions.bounds ∙ unrefused_inside w _ _ _ N.unrefused_is;
      within = begun_within w.size taken.definition N.added.begun N.added.live N.within;
      layers = refl;
      goes_by = goes_by_all (first_news floating w) taken.definition N.added.begun N.added.live.heard;
    }

    few_after : length after.windows ≤ most_windows
    few_after =
        let fewer : length t.windows.records.items < most_windows = fewer_before _ t.windows.next (unrefused w _ (length t.windows.records.items) t.windows.next N.unrefused_is).room in
        let records : length before.windows ≡ length t.windows.records.items = length-map t.windows.records.items (record_of loan) in
        let same : length (others_with floating w before) ≡ length before.windows = length_behind t.windows.active (begins_active floating w) before.windows in
        let more = ap length (new_windows floating w n taken.slot N.added.begun before) ∙ length-put k made (others_with floating w before) in
        omega arith

    sound_after : IsSoundDesk after
    sound_after = record {
      screen = N.whole.sound.screen;
      distinct = subst layers.IsDesk (sym layers_are) (distinct_put (look_on t) k made before.windows free (refl, tt) N.whole.sound.distinct);
      serials = numbered_with floating w n taken.slot N.added.begun before below;
      few = few_after;
      settled = subst (All IsSettled) (sym (new_windows floating w n taken.slot N.added.begun before))
          (All-put IsSettled k made (others_with floating w before) settled (settled_behind t.windows.active (begins_active floating w) before.windows N.whole.sound.settled));
      stocked = subst (λ ws. IsStocked ws left) (sym (new_windows floating w n taken.slot N.added.begun before))
          (stocked_put 0 k made made (others_with floating w before) left refl
          (stocked_with w.kind taken slots left N.took made (others_with floating w before) refl (stocked_behind t.windows.active (begins_active floating w) before.windows slots N.whole.sound.stocked)));
    }

    arranged : IsArrangedCall loan touch t new slots left after olds plan
    arranged = record {
      whole = N.whole;
      screen = refl;
      sound = sound_after;
      frames = frames;
      planned = plan_is;
      drawn = drawn;
      desk_is = desk_is;
      areas = N.added.areas ∙ (λ i. areas_then (insert (N.same.areas i) (front_place floats floating (N.same.windows i)) N.added.area) plan.areas.items);
      desktop = N.added.desktop;
      gray = N.added.gray ∙ N.same.gray;
      lie = subst (All LieThere) (sym (put_among N.added.record_is planned.windows.active planned.windows.records.items new.windows.records.items N.added.windows))
          (All-put LieThere (front_place floats N.added.record_is.floating planned.windows.records.items) N.added.record_is _ N.added.there
          (dimmed_lie planned.windows.active (leads N.added.record_is) planned.windows.records.items (subst (All LieThere) (sym N.same.windows) N.whole.layers)));
    }

    pub is_whole : IsWholeManager loan new left
    is_whole = arranged_is_whole loan touch t new slots left after olds plan arranged

    pub is_new_window : IsNewWindow floating w n (state_of loan t slots) (state_of loan new left)
    is_new_window = record {
      loan = taken;
      begun = N.added.begun;
      serials = next_is;
      taken = N.took;
      live = N.added.live;
      desk = desk_is;
      pixels = subst (λ (x : Touch). plain.IsChanged (change_of x) (layered_state (state_of loan t slots)) (layered_state (state_of loan new left))) N.touch_is (arranged_is_left loan touch t new slots left after olds plan arranged).1;
    }

    -- the call was done
    pub is_made : IsWindowStep (if floating then NewFloating w else New w) (Ok (Made n)) (state_of loan t slots) (state_of loan new left)
    is_made = by_class floating is_new_window
      where
        by_class : (b : Bool) → IsNewWindow b w n (state_of loan t slots) (state_of loan new left) → IsWindowStep (if b then NewFloating w else New w) (Ok (Made n)) (state_of loan t slots) (state_of loan new left)
        by_class true made = (refusal_is loan w taken t slots left N.took ∙ N.unrefused_is, (n, refl, made))
        by_class false made = (refusal_is loan w taken t slots left N.took ∙ N.unrefused_is, (n, refl, made))

  -- the call was refused: the definition is back in its slot
  pub is_not_made : (floating : Bool) (w : NewWindow) (e : Refusal) (taken : WindowLoan) (t planned : WindowManager V H) (slots left back : List WindowSlot) → IsWholeManager loan t slots → IsTaken w.kind taken slots left → IsUnplanned w (is_placed (Some taken.definition) w.place w.size) (length t.windows.records.items) t.windows.next e → SameDesk t planned → IsPutBack taken left back
      → IsWindowStep (if floating then NewFloating w else New w) (Err e) (state_of loan t slots) (state_of loan planned back)
  is_not_made floating w e taken t planned slots left back whole took unplanned same back_is = by_class floating
    where
      unchanged : IsUnchanged (state_of loan t slots) (state_of loan planned back)
      unchanged = stays_unchanged loan t planned slots back same (put_back_is_old w.kind taken slots left took back back_is)

      by_class : (b : Bool) → IsWindowStep (if b then NewFloating w else New w) (Err e) (state_of loan t slots) (state_of loan planned back)
      by_class true = (unplanned_is_refused loan w taken t slots left took e unplanned, unchanged)
      by_class false = (unplanned_is_refused loan w taken t slots left took e unplanned, unchanged)

  -- nor is a window made that no definition of its kind is left for
  pub is_not_given : (floating : Bool) (w : NewWindow) (e why : Refusal) (kind : List ℕ) (t : WindowManager V H) (slots back : List WindowSlot) → kind ≡ w.kind → why ≡ NoDefinition → IsNotTaken kind slots why
      → first_refusal (judged_refusals w (is_placed None w.place w.size) (length (desk_of loan t []).windows) t.windows.next ++ (true, NoDefinition) ∷ []) ≡ Some e
      → back ≡ slots → IsWindowStep (if floating then NewFloating w else New w) (Err e) (state_of loan t slots) (state_of loan t back)
  is_not_given floating w e why kind t slots back named is_why none judged same = by_class floating
    where
      refused : first_refusal (new_window_refusals w (desk_of loan t slots)) ≡ Some e
      refused = refusal_without w (desk_of loan t slots) kind e named (subst (IsNotTaken kind slots) is_why none) judged

      unchanged : IsUnchanged (state_of loan t slots) (state_of loan t back)
      unchanged = record {
        desk = ap (desk_of loan t) same;
        stale = λ p on. ap (λ (s : List WindowSlot). (state_of loan t s).stale p) same;
        image = λ p on. ap (λ (s : List WindowSlot). (state_of loan t s).image p) same;
      }

      by_class : (b : Bool) → IsWindowStep (if b then NewFloating w else New w) (Err e) (state_of loan t slots) (state_of loan t back)
      by_class true = (inl refused, unchanged)
      by_class false = (inl refused, unchanged)
