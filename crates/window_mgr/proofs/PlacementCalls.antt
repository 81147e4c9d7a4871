-- What the calls that put a window elsewhere or give it another size leave, and their steps.
use Rattle.std.proofs.Common.{◌≡◌, ◌==◌, inr, ℕ, zero, suc, ◌<◌, ◌&&◌, not, Bool, true, false, if◌then◌else◌, List, [], ◌∷◌, length, get_or, map, Option, None, Some, Result, Ok, Err, pos, refl, sym, ap, ◌∙◌, subst, arith}
use Rattle.std.specs.Prelude.{All, slice_set, slice_get, is_none}
use Rattle.std.specs.Option.{is_some}
use Rattle.std.specs.List.{remove}
use Rattle.std.proofs.lemmas.Bool.{and_parts}
use Rattle.std.proofs.lemmas.List.{length-set}
use Rattle.std.proofs.lemmas.List.Elements.{All-head, All-tail}
use Rattle.std.proofs.lemmas.Option.{slice_get_read}
use Rattle.tb_geom.specs.declared.point.Point.{Point}
use Rattle.tb_geom.specs.declared.refusal.Refusal.{Refusal}
use Rattle.tb_geom.specs.declared.refusal.Refusal.TheVariants.{NoSuchWindow, OutOfRange}
use Rattle.tb_geom.specs.declared.rect.Rect.{Rect}
use Rattle.tb_geom.specs.Points.{PixelSet, minus}
use Rattle.tb_geom.specs.Rects.{in_plane, is_in_range, moved_rect, rect_holds}
use Rattle.def_iface.specs.declared.size.Size.{Size}
use Rattle.def_iface.specs.Slots.{TakenBox}
use Rattle.def_iface.specs.Sizes.{is_size}
use Rattle.def_iface.specs.WindowMeaning.{WindowLoan, IsWithin}
use Rattle.def_iface.specs.WindowNews.{told_placed}
use Rattle.def_iface.proofs.Hearing.{goes_by_news}
use Rattle.def_iface.specs.WindowSlots.{WindowSlot}
use Rattle.desk_layers.specs.Owner.{frame_bit}
use Rattle.desk_layers.specs.Change.{IsChanged}
use Rattle.window_list.specs.declared.window.Placement.{Placement}
use Rattle.window_list.specs.declared.window.UserState.{UserState}
use Rattle.window_list.specs.declared.window.Window.{Window}
use Rattle.window_list.specs.Lists.{IsPlacedAt, with_place_and_size}
use Rattle.vis_update.specs.declared.plan.Plan.{Plan}
use Rattle.vis_update.specs.declared.plan.Touch.{Touch}
use Rattle.vis_update.specs.Records.{WindowRecord, news_of, record_of}
use Rattle.vis_update.specs.Places.{is_placed}
use Rattle.vis_update.specs.Seats.{stand_of}
use Rattle.vis_update.specs.Plans.{IsPlan}
use Rattle.vis_update.specs.Touches.{moving}
use Rattle.vis_update.proofs.PlaceLemmas.{placed_parts}
use Rattle.desk_call.specs.declared.window.SizeWindow.{SizeWindow}
use Rattle.desk_call.specs.declared.window.WindowCall.{WindowCall}
use Rattle.desk_call.specs.declared.window.WindowCall.TheVariants as asks
use Rattle.desk_call.specs.declared.window.WindowReply.{WindowReply}
use Rattle.desk_call.specs.declared.window.WindowReply.TheVariants.{Done}
use Rattle.desk_call.specs.declared.window.Zoom.{Zoom}
use Rattle.desk_call.specs.declared.window.Zoom.TheVariants.{Out, In}
use Rattle.desk_call.specs.declared.window.ZoomWindow.{ZoomWindow}
use Rattle.desk_call.specs.Parts.{zoom_of}
use Rattle.window_mgr.specs.declared.arrange.Activation.TheVariants.{Stays}
use Rattle.window_mgr.specs.declared.arrange.Edit.{Edit}
use Rattle.window_mgr.specs.declared.manager.WindowManager.{WindowManager}
use Rattle.window_mgr.specs.FullDesk.{FullDesk, layered_desk, layered_state}
use Rattle.window_mgr.specs.Arrange.{changed, with_placement, desk_activated}
use Rattle.window_mgr.specs.Commits.{IsPlanDrawn}
use Rattle.window_mgr.specs.Effects.{Effect, IsEffect, IsWindowPlaced, effect_of, places}
use Rattle.window_mgr.specs.Effects.Effect.{Places}
use Rattle.window_mgr.specs.Placings.{of_size, sized, zoom_target, zoomed_by, gone}
use Rattle.window_mgr.specs.Edits.{IsWindowAt, put_record, stays_put, IsPlanOfEdit, IsDeskOfEdit, IsPlaceable, IsOnItsWay}
use Rattle.window_mgr.specs.Finding.{record_with}
use Rattle.window_mgr.specs.Kept.{IsKept}
use Rattle.window_mgr.specs.Records.{desk_of, state_of}
use Rattle.window_paint.specs.White.{all_white}
use Rattle.tb_geom.specs.Refusals.{first_refusal}
use Rattle.window_mgr.specs.Refused as refused
use Rattle.window_mgr.specs.Refused.{IsRefusal, may_grow, may_lie, size_refusals, zoom_refusals}
use Rattle.window_mgr.specs.Laying.{MayHave, IsPlaceableAt, IsPlacementCommitted, IsLaid, IsLaidOverAnySlots}
use Rattle.window_mgr.specs.Step.{IsWindowStep}
use Rattle.window_mgr.specs.Whole.{IsWholeManager, IsSettled, LieThere}
use Rattle.window_mgr.proofs.LyingThere.{put_lie}
use Rattle.window_mgr.proofs.PutIn.{put_in, put_is_insert, taken_out, map-put, All-out, All-put}
use Rattle.window_mgr.proofs.Rearranged.{IsEdit, edited, sound_now, distinct_now, others_found}
use Rattle.window_mgr.proofs.EditSeats.{same_at, moved_to_itself}
use Rattle.window_mgr.proofs.Remarked.{area_low}
use Rattle.window_list.specs.Ranks.{moved_item}
use Rattle.window_mgr.proofs.Committing.{turned, quiet_is}
use Rattle.window_mgr.proofs.Arranged.{IsArrangedCall, is_left as arranged_is_left, is_whole as arranged_is_whole, spares as arranged_spares}
use Rattle.window_mgr.specs.Sparing.{Spares}
use Rattle.window_mgr.proofs.Steps as steps

-- the element at a place is read there
pub read_at : {X : Type 0} (xs : List X) (i : ℕ) (x : X) → i < length xs → x ≡ get_or xs i x → slice_get xs i ≡ Some x
read_at xs i x low x_is = slice_get_read xs (length xs) i x refl low x_is

-- what was set at a place was put in there
pub set_is_put : {X : Type 0} (xs : List X) (i : ℕ) (x : X) → i < length xs → slice_set xs i x ≡ put_in i x (remove xs i)
set_is_put [] i x low = absurd (omega arith)
set_is_put (y ∷ ys) zero x low = refl
set_is_put (y ∷ ys) (suc i) x low = ap (λ zs. y ∷ zs) (set_is_put ys i x (omega arith))

module _ {V : Type 0} {H : V → Type 0} (loan : TakenBox V H → WindowLoan) where
  -- ---- a window of a list, and the list after it was put elsewhere

  module _ {i : ℕ} {to : Placement} {w : Window V H} {old new : List (Window V H)} (low : i < length old) (w_is : IsWindowAt old i w) (R : IsPlacedAt loan i to w old new) where
    abbrev pub rest : List WindowRecord
    rest = map (record_of loan) (remove old i)

    abbrev pub laid : WindowRecord
    laid = with_placement to (loan R.taken).definition (record_of loan w)

    -- the window in the list
    abbrev pub laid_window : Window V H
    laid_window = record (with_place_and_size to w) { taken = R.taken }

    records_were : map (record_of loan) old ≡ put_in i (record_of loan w) rest
    records_were = ap (map (record_of loan)) (taken_out old i w low w_is) ∙ map-put (record_of loan) i w (remove old i)

    records_are : map (record_of loan) new ≡ put_in i laid rest
    records_are =
        ap (map (record_of loan)) (R.items ∙ set_is_put old i laid_window low)
        ∙ map-put (record_of loan) i laid_window (remove old i)
        ∙ (λ k. put_in i (record laid { slot = R.slot k }) rest)

    pub as_many : length new ≡ length old
    as_many = ap length R.items ∙ length-set old i laid_window

    -- its definition answers regions as before, so that it stands as it was planned to
    stands : stand_of laid ≡ stand_of (put_record (record (stays_put i w) { place = to.place; size = to.size }) (record_of loan w))
    stands = λ k. record {
      serial = w.serial;
      place = to.place;
      shown = w.shown;
      structure = R.regions.structure k to.size;
      content = R.regions.content k to.size;
    }

    was_settled : All IsSettled (map (record_of loan) old) → All IsSettled (record_of loan w ∷ rest)
    was_settled all = All-out IsSettled i (record_of loan w) rest (subst (All IsSettled) records_were all)

    laid_settled : MayHave loan to w → All IsSettled (map (record_of loan) old) → IsSettled laid
    laid_settled may all =
        let was = All-head IsSettled (record_of loan w) rest (was_settled all) in
        let fit = and_parts (is_placed (Some (loan w.taken).definition) to.place to.size) _ may.0 in
        let its = placed_parts (loan w.taken).definition to.place to.size fit.0 in
        record {
          origin = was.origin;
          placed = its.place_in;
          live = R.live;
          told = R.told;
          fits = (λ k. is_size to.size && is_in_range (R.regions.bounds k to.size)) ∙ its.fits;
          inside = (λ k. is_in_range (moved_rect (R.regions.bounds k to.size) to.place.h to.place.v)) ∙ its.moved;
          layers = fit.1;
          within = subst (λ (x : (Size → PixelSet) × (Size → Rect)). IsWithin (x.0 to.size) (rect_holds (x.1 to.size))) (λ k. (sym R.regions.content k, sym R.regions.bounds k)) may.1;
          goes_by = goes_by_news (told_placed to.size (is_some to.user_state)) (news_of (record_of loan w)) (news_of laid) (loan w.taken).definition (loan R.taken).definition
              (λ n. refl) (λ n. refl) was.goes_by R.heard;
        }

    pub all_settled : MayHave loan to w → All IsSettled (map (record_of loan) old) → All IsSettled (map (record_of loan) new)
    all_settled may all = subst (All IsSettled) (sym records_are) (All-put IsSettled i laid rest (laid_settled may all) (All-tail IsSettled (record_of loan w) rest (was_settled all)))

  -- ---- the call

  -- all that is known where a call put the window at this place there
  pub record IsPlacementCall (i : ℕ) (to : Placement) (by : Option Point) (plan : Plan) (t new : WindowManager V H) (slots : List WindowSlot) : Type 0 where
    pub whole : IsWholeManager loan t slots
    pub low : i < length t.windows.records.items
    pub may : IsPlaceableAt loan i to t.windows.records.items
    pub planned : (w : Window V H) → IsWindowAt t.windows.records.items i w → IsPlanOfEdit loan (record (stays_put i w) { place = to.place; size = to.size }) by true t plan
    pub committed : IsPlacementCommitted loan i to plan by t new

  module _ (i : ℕ) (to : Placement) (by : Option Point) (plan : Plan) (t new : WindowManager V H) (slots : List WindowSlot) (N : IsPlacementCall i to by plan t new slots) where
    abbrev w : Window V H
    w = N.committed.window

    w_is : IsWindowAt t.windows.records.items i w
    w_is = N.committed.at

    abbrev R : IsPlacedAt loan i to w t.windows.records.items new.windows.records.items
    R = N.committed.lies

    abbrev v : WindowRecord
    v = laid N.low w_is R

    abbrev others : List WindowRecord
    others = rest N.low w_is R

    edit : IsEdit (desk_of loan t slots) w.serial i i (record_of loan w) v others
    edit = record { windows = records_were N.low w_is R; serial = refl; same_serial = refl; same_layers = refl }

    abbrev left : FullDesk
    left = edited (desk_of loan t slots) w.serial i i (record_of loan w) v others edit Stays

    windows_are : map (record_of loan) new.windows.records.items ≡ left.windows
    windows_are = records_are N.low w_is R

    abbrev planned_edit : Edit
    planned_edit = record (stays_put i w) { place = to.place; size = to.size }

    plan_is : IsPlanOfEdit loan planned_edit by true t plan
    plan_is = N.planned w w_is

    abbrev touch : Touch
    touch = record { window = w.serial; by = by; whole = true }

    deskof : IsDeskOfEdit loan planned_edit t w left
    deskof = record {
      distinct = distinct_now (desk_of loan t slots) w.serial i i (record_of loan w) v others edit Stays N.whole.sound.distinct;
      screen = refl;
      stands =
          map-put stand_of i v others
          ∙ (λ k. put_in i (stands N.low w_is R k) (map stand_of others))
          ∙ sym (map-put stand_of i (put_record planned_edit (record_of loan w)) others)
          ∙ ap (map stand_of) (put_is_insert i (put_record planned_edit (record_of loan w)) others);
      layers =
          map-put (λ (u : WindowRecord). u.layers) i v others
          ∙ sym (map-put (λ (u : WindowRecord). u.layers) i (put_record planned_edit (record_of loan w)) others)
          ∙ ap (map (λ (u : WindowRecord). u.layers)) (put_is_insert i (put_record planned_edit (record_of loan w)) others);
    }

    olds_are : moved_item t.areas.items i i ≡ t.areas.items
    olds_are = moved_to_itself t.areas.items i (area_low loan t slots N.whole i N.low)

    placement_arranged : IsArrangedCall loan touch t new slots slots left t.areas.items plan
    placement_arranged = record {
      whole = N.whole;
      screen = refl;
      sound = sound_now (desk_of loan t slots) w.serial i i (record_of loan w) v others edit Stays N.whole.sound refl
          (laid_settled N.low w_is R (N.may w w_is) N.whole.sound.settled);
      frames = λ n p quiet. ap (λ o. frame_bit o p) (others_found (desk_of loan t slots) w.serial i i (record_of loan w) v others edit Stays N.whole.sound.distinct n (turned n w.serial (quiet_is (n == w.serial) quiet)));
      planned = subst (λ olds. IsPlan touch (layered_state (state_of loan t slots)) (layered_desk left) t.desktop olds left.windows plan) olds_are (plan_is w w_is left deskof);
      drawn = subst (λ ws. IsPlanDrawn plan by t.font ws t.screen new.screen) windows_are N.committed.drawn;
      desk_is = λ k. record {
        width = pos (N.committed.drawn.width k);
        height = pos (N.committed.drawn.height k);
        bar = N.committed.bar k;
        font = N.committed.font k;
        shows = all_white;
        windows = windows_are k;
        active = N.committed.active k;
        next = N.committed.next k;
        stock = slots;
      };
      areas = N.committed.areas;
      desktop = N.committed.desktop;
      gray = N.committed.gray;
      lie = subst (All LieThere) (sym (R.items ∙ set_is_put t.windows.records.items i (laid_window N.low w_is R) N.low))
          (put_lie t.windows.records.items i i w (laid_window N.low w_is R) N.low w_is N.whole.layers refl);
    }

    placement_left : (desk_of loan new slots ≡ left) × IsChanged (moving w.serial by) (layered_state (state_of loan t slots)) (layered_state (state_of loan new slots))
    placement_left = arranged_is_left loan touch t new slots slots left t.areas.items plan placement_arranged

    window_placed : IsWindowPlaced (record { window = w.serial; by = by; to = to }) (state_of loan t slots) (state_of loan new slots)
    window_placed = record {
      window = record_of loan w;
      definition = (loan R.taken).definition;
      found = steps.found loan t new slots N.whole i w.serial w N.low w_is refl;
      told = record { live = R.live; told = R.told; regions = R.regions; heard = R.heard };
      arranged = record {
        desk = placement_left.0 ∙ ap (λ ws. desk_activated ws Stays (desk_of loan t slots)) placed_so;
        pixels = placement_left.1;
      };
    }
      where
        placed_so : put_in i v others ≡ changed w.serial (with_placement to (loan R.taken).definition) (desk_of loan t slots).windows
        placed_so = put_is_insert i v others ∙ sym (steps.changed_so loan t new slots N.whole i w.serial w N.low w_is refl (with_placement to (loan R.taken).definition))

    -- and it writes no more on the screen
    pub placement_spares : (v : Window V H) → IsWindowAt t.windows.records.items i v → Spares loan v.serial by t new
    placement_spares v v_is = subst (λ (x : Window V H). Spares loan x.serial by t new) (same_at t.windows.records.items i w v N.low w_is v_is) (arranged_spares loan touch t new slots slots left t.areas.items plan placement_arranged)

    -- it is whole after the call, and this is what the call answers and leaves
    pub placement_done : IsWholeManager loan new slots × IsLaid loan i to by (Ok Done) t new slots
    placement_done = (
      arranged_is_whole loan touch t new slots slots left t.areas.items plan placement_arranged,
      (refl, λ x x_is. subst (λ (y : Window V H). IsWindowPlaced (record { window = y.serial; by = by; to = to }) (state_of loan t slots) (state_of loan new slots)) (same_at t.windows.records.items i w x N.low w_is x_is) window_placed),
    )

  -- ---- the window at a place

  module _ (t : WindowManager V H) (kept : IsKept loan t) (i : ℕ) (to : Placement) (low : i < length t.windows.records.items) (x : Window V H) (x_is : IsWindowAt t.windows.records.items i x) where
    -- it is put at a point
    pub arrives : refused.may_stand to.place to.size (record_of loan x) ≡ true → in_plane to.place ≡ true
    arrives stands = (placed_parts (loan x.taken).definition to.place to.size (and_parts (is_placed (Some (loan x.taken).definition) to.place to.size) _ stands).0).place_in

    -- one that may lie there
    pub is_placeable_at : MayHave loan to x → IsPlaceableAt loan i to t.windows.records.items
    is_placeable_at may w w_is = subst (MayHave loan to) (same_at t.windows.records.items i x w low x_is w_is) may

    pub is_placeable : IsPlaceableAt loan i to t.windows.records.items → (e : Edit) → e ≡ stays_put i x → IsPlaceable loan (record e { place = to.place; size = to.size }) t.windows.records.items
    is_placeable may e e_is = subst (λ (y : Edit). IsPlaceable loan (record y { place = to.place; size = to.size }) t.windows.records.items) (sym e_is) (λ w w_is. (may w w_is).0)

    -- one that stays there
    pub stays_there : to.place ≡ x.place → IsOnItsWay i to.place None t.windows.records.items
    stays_there place_is w w_is = place_is ∙ ap (λ (z : Window V H). z.place) (same_at t.windows.records.items i x w low x_is w_is)

    -- and one whose pixels go as far as it does
    pub goes_there : (by : Point) → by ≡ minus to.place x.place → IsOnItsWay i to.place (Some by) t.windows.records.items
    goes_there by far w w_is = far ∙ ap (λ (z : Window V H). minus to.place z.place) (same_at t.windows.records.items i x w low x_is w_is)

    pub is_on_its_way : (by : Option Point) → IsOnItsWay i to.place by t.windows.records.items → (e : Edit) → e ≡ stays_put i x → IsOnItsWay e.at to.place by t.windows.records.items
    is_on_its_way by way e e_is = subst (λ (y : Edit). IsOnItsWay y.at to.place by t.windows.records.items) (sym e_is) way

    pub placement_call : (by : Option Point) (plan : Plan) (new : WindowManager V H) (slots : List WindowSlot) (e : Edit) → IsWholeManager loan t slots → IsPlaceableAt loan i to t.windows.records.items → e ≡ stays_put i x → IsPlanOfEdit loan (record e { place = to.place; size = to.size }) by true t plan → IsPlacementCommitted loan i to plan by t new → IsPlacementCall i to by plan t new slots
    placement_call by plan new slots e whole may e_is planned committed = record {
      whole = whole;
      low = low;
      may = may;
      planned = λ w w_is.
          subst (λ (y : Window V H). IsPlanOfEdit loan (record (stays_put i y) { place = to.place; size = to.size }) by true t plan) (same_at t.windows.records.items i x w low x_is w_is)
          (subst (λ (y : Edit). IsPlanOfEdit loan (record y { place = to.place; size = to.size }) by true t plan) e_is planned);
      committed = committed;
    }

  -- ---- the steps of the window that is found

  module _ (t new : WindowManager V H) (slots : List WindowSlot) (whole : IsWholeManager loan t slots) (i s : ℕ) (x : Window V H) (low : i < length t.windows.records.items) (x_is : IsWindowAt t.windows.records.items i x) (serial : x.serial ≡ s) where
    abbrev desk : FullDesk
    desk = desk_of loan t slots

    found : record_with s desk.windows ≡ Some (record_of loan x)
    found = steps.found loan t new slots whole i s x low x_is serial

    -- the window manager is whole after the call, which makes its step
    abbrev IsStep : WindowCall → Result WindowReply Refusal → Type 0
    IsStep call result = IsWholeManager loan new slots × IsWindowStep call result (state_of loan t slots) (state_of loan new slots)

    -- a call that puts the window there makes its step
    placement_step : (call : WindowCall) (to : Placement) (by : Option Point) (result : Result WindowReply Refusal) → effect_of call desk ≡ Places (record { window = s; by = by; to = to }) → may_grow call ≡ true → IsRefusal call (state_of loan t slots) None
        → IsLaidOverAnySlots loan i to by result t new → IsStep call result
    placement_step call to by (Ok answer) is grows allowed done =
        let left = done slots whole in (
          left.0,
          (
            allowed,
            subst (λ (f : Effect). IsEffect f answer (state_of loan t slots) (state_of loan new slots)) (sym is)
                (left.1.0, subst (λ n. IsWindowPlaced (record { window = n; by = by; to = to }) (state_of loan t slots) (state_of loan new slots)) serial (left.1.1 x x_is)),
          ),
        )
    placement_step call to by (Err refusal) is grows allowed done =
        let left = done slots whole in
        (left.0, (inr (allowed, (grows, left.1.0)), left.1.1))

    -- ---- sizing

    module _ (z : SizeWindow) (named : s ≡ z.window) where
      pub may_size : (b : Bool) → b ≡ refused.may_stand x.place z.size (record_of loan x) → first_refusal (size_refusals z desk) ≡ (if b then None else Some OutOfRange)
      may_size b fits = steps.may_stand loan t new slots whole i z.window x low x_is (serial ∙ named) (λ o. may_lie (sized z o) o) b fits

      pub size_step : (to : Placement) (result : Result WindowReply Refusal) → to ≡ of_size z.size (record_of loan x) → refused.may_stand x.place z.size (record_of loan x) ≡ true → IsLaidOverAnySlots loan i to None result t new → IsStep (asks.Size z) result
      size_step to result to_is fits done =
          placement_step (asks.Size z) to None result
          (ap (λ o. places (sized z o)) (ap (λ n. record_with n desk.windows) (sym named) ∙ found) ∙ (λ k. Places (record { window = sym named k; by = None; to = sym to_is k })))
          refl (may_size true (sym fits)) done

    -- ---- zooming

    module _ (z : ZoomWindow) (named : s ≡ z.window) where
      there : record_with z.window desk.windows ≡ Some (record_of loan x)
      there = ap (λ n. record_with n desk.windows) (sym named) ∙ found

      -- why it is refused, where the part zooms so
      refused_by : (o : Option Zoom) → zoom_of z.part ≡ o → first_refusal (zoom_refusals z desk) ≡ (if is_none o then Some OutOfRange else (if not (may_lie (zoomed_by o z.window (Some (record_of loan x)) desk) (Some (record_of loan x))) then Some OutOfRange else None))
      refused_by o o_is = λ k. first_refusal ((is_none (there k), NoSuchWindow) ∷ (is_none (o_is k), OutOfRange) ∷ (not (may_lie (zoomed_by (o_is k) z.window (there k) desk) (there k)), OutOfRange) ∷ [])

      pub no_zoom : zoom_of z.part ≡ None → first_refusal (zoom_refusals z desk) ≡ Some OutOfRange
      no_zoom none = refused_by None none

      module _ (zoom : Zoom) (zooms : zoom_of z.part ≡ Some zoom) where
        -- where it is put does not depend on the slots
        any_slots : (d : Zoom) (u : Option UserState) → zoom_target d u (desk_of loan t []) (record_of loan x) ≡ zoom_target d u desk (record_of loan x)
        any_slots Out None = refl
        any_slots Out (Some u) = refl
        any_slots In None = refl
        any_slots In (Some u) = refl

        module _ (target : Option Placement) (target_is : target ≡ zoom_target zoom x.user_state (desk_of loan t []) (record_of loan x)) where
          target_so : zoom_target zoom x.user_state desk (record_of loan x) ≡ target
          target_so = sym (target_is ∙ any_slots zoom x.user_state)

          effect_is : effect_of (asks.Zoom z) desk ≡ places (gone z.window (record_of loan x) target)
          effect_is = (λ k. places (zoomed_by (zooms k) z.window (there k) desk)) ∙ ap (λ o. places (gone z.window (record_of loan x) o)) target_so

          zoom_refused : first_refusal (zoom_refusals z desk) ≡ (if not (may_lie (gone z.window (record_of loan x) target) (Some (record_of loan x))) then Some OutOfRange else None)
          zoom_refused = refused_by (Some zoom) zooms ∙ ap (λ o. if not (may_lie (gone z.window (record_of loan x) o) (Some (record_of loan x))) then Some OutOfRange else None) target_so

        -- it is zoomed so already
        pub stays_zoomed : None ≡ zoom_target zoom x.user_state (desk_of loan t []) (record_of loan x) → IsWindowStep (asks.Zoom z) (Ok Done) (state_of loan t slots) (state_of loan t slots)
        stays_zoomed none = (
          zoom_refused None none,
          subst (λ (f : Effect). IsEffect f Done (state_of loan t slots) (state_of loan t slots)) (sym (effect_is None none)) (refl, record { desk = refl; stale = λ p on. refl; image = λ p on. refl }),
        )

        module _ (to : Placement) (to_is : Some to ≡ zoom_target zoom x.user_state (desk_of loan t []) (record_of loan x)) where
          pub may_zoom : (b : Bool) → b ≡ refused.may_stand to.place to.size (record_of loan x) → first_refusal (zoom_refusals z desk) ≡ (if b then None else Some OutOfRange)
          may_zoom b fits = zoom_refused (Some to) to_is ∙ ap (λ c. if not c then Some OutOfRange else None) (sym fits) ∙ by_test b
            where
              by_test : (c : Bool) → (if not c then Some OutOfRange else None) ≡ (if c then None else Some OutOfRange)
              by_test true = refl
              by_test false = refl

          pub zoom_step : (by : Point) (result : Result WindowReply Refusal) → by ≡ minus to.place x.place → refused.may_stand to.place to.size (record_of loan x) ≡ true → IsLaidOverAnySlots loan i to (Some by) result t new → IsStep (asks.Zoom z) result
          zoom_step by result by_is fits done =
              placement_step (asks.Zoom z) to (Some by) result
              (effect_is (Some to) to_is ∙ (λ k. Places (record { window = sym named k; by = Some (sym by_is k); to = to })))
              refl (may_zoom true (sym fits)) done
