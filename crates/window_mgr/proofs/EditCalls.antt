-- What a call that puts one window anew leaves.
use Rattle.std.proofs.Common.{◌≡◌, ℕ, ◌<◌, ◌==◌, ◌&&◌, Bool, true, false, if◌then◌else◌, List, [], ◌∷◌, length, map, Option, None, Some, Ok, pos, refl, sym, ap, ◌∙◌, subst}
use Rattle.std.specs.Prelude.{All, is_some}
use Rattle.std.specs.List.{insert, remove}
use Rattle.std.proofs.lemmas.Bool.{and_parts, eqb-true}
use Rattle.std.proofs.lemmas.List.Elements.{All-head, All-tail}
use Rattle.tb_geom.specs.declared.point.Point.{Point}
use Rattle.tb_geom.specs.Rects.{rect_holds}
use Rattle.def_iface.specs.Slots.{TakenBox}
use Rattle.def_iface.specs.WindowMeaning.{WindowLoan, IsWithin, WindowGoesBy}
use Rattle.def_iface.specs.WindowSlots.{WindowSlot}
use Rattle.desk_layers.specs.Owner.{frame_bit, own_bit}
use Rattle.desk_layers.specs.Owner.Owner.{Frame}
use Rattle.window_list.specs.declared.window.Window.{Window}
use Rattle.window_list.specs.Ranks.{moved_item}
use Rattle.window_list.specs.Lists.{relit, lit as lit_window, dimmed}
use Rattle.vis_update.specs.declared.plan.Plan.{Plan}
use Rattle.vis_update.specs.declared.plan.Touch.{Touch}
use Rattle.vis_update.specs.Records.{WindowRecord, news_of, record_of}
use Rattle.vis_update.specs.Places.{is_placed}
use Rattle.vis_update.specs.Seats.{stand_of}
use Rattle.vis_update.specs.Touches.{moving, draws_whole}
use Rattle.desk_layers.specs.Change.{IsChanged}
use Rattle.vis_update.proofs.PlaceLemmas.{placed_parts}
use Rattle.desk_call.specs.declared.window.WindowReply.TheVariants.{Done}
use Rattle.window_mgr.specs.declared.arrange.Activates.{Activates}
use Rattle.window_mgr.specs.declared.arrange.Activation.{Activation}
use Rattle.window_mgr.specs.declared.arrange.Activation.TheVariants.{Stays, Becomes}
use Rattle.window_mgr.specs.declared.arrange.Edit.{Edit}
use Rattle.window_mgr.specs.declared.manager.WindowManager.{WindowManager}
use Rattle.window_mgr.specs.FullDesk.{FullDesk, layered_desk, layered_state}
use Rattle.window_mgr.specs.Arrange.{activated, desk_activated, with_highlighting}
use Rattle.window_mgr.specs.Commits.{IsPlanDrawn}
use Rattle.window_mgr.specs.Edits.{put_record, put_window, records_put, relit_all, IsWindowAt, IsPlanOfEdit, IsDeskOfEdit, IsPlaceable, SameSize, IsOnItsWay, IsActivation, AreSettledAfter, IsCommitted, IsRearranged}
use Rattle.window_mgr.specs.Effects.{IsArrangement}
use Rattle.window_mgr.specs.Records.{desk_of, state_of}
use Rattle.window_paint.specs.White.{all_white}
use Rattle.window_mgr.specs.Whole.{IsWholeManager, IsSettled, LieThere}
use Rattle.window_mgr.proofs.PutIn.{put_in, put_is_insert, taken_out, All-out, All-put, map-put}
use Rattle.window_mgr.proofs.LyingThere.{relit_lie, put_lie}
use Rattle.window_mgr.proofs.KeptWindows.{layers_relit}
use Rattle.window_mgr.proofs.DimLemmas.{dimmed_record}
use Rattle.window_mgr.proofs.Rearranged.{IsEdit, edited, sound_now, distinct_now, others_found, frame_kept, stands_lit, settled_all, relit_record}
use Rattle.window_mgr.proofs.EditSeats.{map-insert, same_at}
use Rattle.window_mgr.proofs.Committing.{turned}
use Rattle.window_mgr.proofs.Arranged.{IsArrangedCall, is_left as arranged_is_left, is_whole as arranged_is_whole, spares as arranged_spares}
use Rattle.window_mgr.specs.Sparing.{Spares}

module _ {V : Type 0} {H : V → Type 0} (loan : TakenBox V H → WindowLoan) where
  -- ---- the records of the code, after an activation

  lit_record : (s : Option ℕ) (w : Window V H) → record_of loan (lit_window s w) ≡ with_highlighting true s (record_of loan w)
  lit_record s w = by_window s
    where
      by_test : (b : Bool) → record_of loan (if b then record w { highlighted = true } else w) ≡ (if b then record (record_of loan w) { highlighted = true } else record_of loan w)
      by_test true = refl
      by_test false = refl

      by_window : (k : Option ℕ) → record_of loan (lit_window k w) ≡ with_highlighting true k (record_of loan w)
      by_window None = refl
      by_window (Some k) = by_test (w.serial == k)

  relit_is : (former s : Option ℕ) (w : Window V H) → record_of loan (relit former s w) ≡ relit_record s former (record_of loan w)
  relit_is former s w = lit_record s (dimmed former w) ∙ ap (with_highlighting true s) (dimmed_record loan former w)

  pub relit_records : (a : Activation) (former : Option ℕ) (ws : List (Window V H)) → map (record_of loan) (relit_all a former ws) ≡ activated a former (map (record_of loan) ws)
  relit_records Stays former ws = refl
  relit_records (Becomes s) former ws = all ws
    where
      all : (vs : List (Window V H)) → map (record_of loan) (map (relit former s) vs) ≡ map (relit_record s former) (map (record_of loan) vs)
      all [] = refl
      all (v ∷ vs) = λ i. relit_is former s v i ∷ all vs i

  -- ---- a window and the place of the edit

  module _ (t : WindowManager V H) (slots : List WindowSlot) (e : Edit) (a : Activation) (w : Window V H) (w_is : IsWindowAt t.windows.records.items e.at w) (low : e.at < length t.windows.records.items) where
    abbrev pub rest : List WindowRecord
    rest = map (record_of loan) (remove t.windows.records.items e.at)

    pub windows_were : (desk_of loan t slots).windows ≡ put_in e.at (record_of loan w) rest
    windows_were = ap (map (record_of loan)) (taken_out t.windows.records.items e.at w low w_is) ∙ map-put (record_of loan) e.at w (remove t.windows.records.items e.at)

    pub edit_is : IsEdit (desk_of loan t slots) w.serial e.at e.to (record_of loan w) (put_record e (record_of loan w)) rest
    edit_is = record { windows = windows_were; serial = refl; same_serial = refl; same_layers = refl }

    abbrev pub after : FullDesk
    after = edited (desk_of loan t slots) w.serial e.at e.to (record_of loan w) (put_record e (record_of loan w)) rest edit_is a

    -- the same, in the words of the calls
    pub after_is : after ≡ desk_activated (records_put loan e w t) a (desk_of loan t slots)
    after_is = ap (λ ws. desk_activated ws a (desk_of loan t slots)) (put_is_insert e.to (put_record e (record_of loan w)) rest)

    records_are : e.size ≡ w.size → map (record_of loan) (relit_all a t.windows.active (insert (remove t.windows.records.items e.at) e.to (put_window e w))) ≡ after.windows
    records_are size_is =
        relit_records a t.windows.active (insert (remove t.windows.records.items e.at) e.to (put_window e w))
        ∙ ap (activated a t.windows.active) (map-insert (record_of loan) e.to (put_window e w) (remove t.windows.records.items e.at) ∙ (λ i. put_in e.to (record (record_of loan w) { place = e.place; size = sym size_is i; user_state = e.user_state; shown = e.shown }) rest))

    put_settled : IsPlaceable loan e t.windows.records.items → e.size ≡ w.size → All IsSettled (desk_of loan t slots).windows → IsSettled (put_record e (record_of loan w))
    put_settled may size_is all =
        let was = All-head IsSettled (record_of loan w) rest (All-out IsSettled e.at (record_of loan w) rest (subst (All IsSettled) windows_were all)) in
        let fit = and_parts (is_placed (Some (loan w.taken).definition) e.place e.size) _ (may w w_is) in
        let its = placed_parts (loan w.taken).definition e.place e.size fit.0 in
        record {
          origin = was.origin;
          placed = its.place_in;
          live = was.live;
          told = was.told ∙ sym size_is;
          fits = its.fits;
          inside = its.moved;
          layers = fit.1;
          within = subst (λ s. IsWithin ((loan w.taken).definition.content s) (rect_holds ((loan w.taken).definition.bounds s))) (sym size_is) was.within;
          goes_by = subst (λ s. WindowGoesBy (record (news_of (record_of loan w)) { size = s }) (loan w.taken).definition) (sym size_is) was.goes_by;
        }

    pub settled_after : IsPlaceable loan e t.windows.records.items → e.size ≡ w.size → All IsSettled (desk_of loan t slots).windows
        → All IsSettled (map (record_of loan) (relit_all a t.windows.active (insert (remove t.windows.records.items e.at) e.to (put_window e w))))
    settled_after may size_is all =
        subst (All IsSettled) (sym (records_are size_is))
        (settled_all t.windows.active a (put_in e.to (put_record e (record_of loan w)) rest) (All-put IsSettled e.to (put_record e (record_of loan w)) rest (put_settled may size_is all) (All-tail IsSettled (record_of loan w) rest (All-out IsSettled e.at (record_of loan w) rest (subst (All IsSettled) windows_were all)))))

  -- all that is known where a call put one window anew
  pub record IsEditCall (e : Edit) (activates : Activates) (activation : Activation) (by : Option Point) (plan : Plan) (t new : WindowManager V H) (slots : List WindowSlot) : Type 0 where
    pub whole : IsWholeManager loan t slots
    pub low : e.at < length t.windows.records.items
    pub may : IsPlaceable loan e t.windows.records.items
    pub same : SameSize e t.windows.records.items
    pub becomes : IsActivation loan e activates t activation
    pub way : IsOnItsWay e.at e.place by t.windows.records.items
    pub planned : IsPlanOfEdit loan e by (is_some by) t plan
    pub committed : IsCommitted loan e activation plan by t new

  module _ (e : Edit) (activates : Activates) (activation : Activation) (by : Option Point) (plan : Plan) (t new : WindowManager V H) (slots : List WindowSlot) (N : IsEditCall e activates activation by plan t new slots) where
    abbrev w : Window V H
    w = N.committed.window

    w_is : IsWindowAt t.windows.records.items e.at w
    w_is = N.committed.at

    abbrev left : FullDesk
    left = after t slots e activation w w_is N.low

    edit : IsEdit (desk_of loan t slots) w.serial e.at e.to (record_of loan w) (put_record e (record_of loan w)) (rest t slots e activation w w_is N.low)
    edit = edit_is t slots e activation w w_is N.low

    abbrev touch : Touch
    touch = record { window = w.serial; by = by; whole = is_some by }

    -- the frame of a window that is not drawn whole is as it was: that of another, or that of the window itself, which stays
    -- where it is
    frames : (n : ℕ) (p : Point) → draws_whole touch n ≡ false → own_bit (layered_desk (desk_of loan t slots)) (Frame n) p ≡ own_bit (layered_desk left) (Frame n) p
    frames n p quiet = by_window (n == w.serial) refl
      where
        stays : (k : Option Point) → (true && is_some k) ≡ false → IsOnItsWay e.at e.place k t.windows.records.items → e.place ≡ w.place
        stays None still way = way w w_is
        stays (Some k) still way = absurd (cc)

        by_window : (b : Bool) → (n == w.serial) ≡ b → own_bit (layered_desk (desk_of loan t slots)) (Frame n) p ≡ own_bit (layered_desk left) (Frame n) p
        by_window true here =
            let same : n ≡ w.serial = eqb-true n w.serial here in
            let place : e.place ≡ w.place = stays by (ap (λ b. b && is_some by) (sym here) ∙ quiet) N.way in
            ap (λ k. own_bit (layered_desk (desk_of loan t slots)) (Frame k) p) same
            ∙ frame_kept (desk_of loan t slots) w.serial e.at e.to (record_of loan w) _ _ edit activation N.whole.sound.distinct p place refl
            ∙ ap (λ k. own_bit (layered_desk left) (Frame k) p) (sym same)
        by_window false away = ap (λ o. frame_bit o p) (others_found (desk_of loan t slots) w.serial e.at e.to (record_of loan w) _ _ edit activation N.whole.sound.distinct n (turned n w.serial away))

    windows_are : map (record_of loan) new.windows.records.items ≡ left.windows
    windows_are = ap (map (record_of loan)) N.committed.windows ∙ records_are t slots e activation w w_is N.low (N.same w w_is)

    drawn : IsPlanDrawn plan by t.font left.windows t.screen new.screen
    drawn = subst (λ ws. IsPlanDrawn plan by t.font ws t.screen new.screen) windows_are N.committed.drawn

    deskof : IsDeskOfEdit loan e t w left
    deskof = record {
      distinct = distinct_now (desk_of loan t slots) w.serial e.at e.to (record_of loan w) _ _ edit activation N.whole.sound.distinct;
      screen = refl;
      stands = stands_lit t.windows.active activation _ ∙ ap (map stand_of) (put_is_insert e.to (put_record e (record_of loan w)) (rest t slots e activation w w_is N.low));
      layers = layers_relit activation t.windows.active _ ∙ ap (map (λ (v : WindowRecord). v.layers)) (put_is_insert e.to (put_record e (record_of loan w)) (rest t slots e activation w w_is N.low));
    }

    edit_arranged : IsArrangedCall loan touch t new slots slots left (moved_item t.areas.items e.at e.to) plan
    edit_arranged = record {
      whole = N.whole;
      screen = refl;
      sound = sound_now (desk_of loan t slots) w.serial e.at e.to (record_of loan w) _ _ edit activation N.whole.sound refl (put_settled t slots e activation w w_is N.low N.may (N.same w w_is) N.whole.sound.settled);
      frames = frames;
      planned = N.planned w w_is left deskof;
      drawn = drawn;
      desk_is = λ i. record {
        width = pos (drawn.width i);
        height = pos (drawn.height i);
        bar = N.committed.bar i;
        font = N.committed.font i;
        shows = all_white;
        windows = windows_are i;
        active = N.committed.active i;
        next = N.committed.next i;
        stock = slots;
      };
      areas = N.committed.areas;
      desktop = N.committed.desktop;
      gray = N.committed.gray;
      lie = subst (All LieThere) (ap (relit_all activation t.windows.active) (put_is_insert e.to (put_window e w) (remove t.windows.records.items e.at)) ∙ sym N.committed.windows)
          (relit_lie activation t.windows.active _ (put_lie t.windows.records.items e.at e.to w (put_window e w) N.low w_is N.whole.layers refl));
    }

    edit_is_left : (v : Window V H) → IsWindowAt t.windows.records.items e.at v
        → IsArrangement (record { window = v.serial; by = by; windows = records_put loan e v t; activates = activates }) (state_of loan t slots) (state_of loan new slots)
    edit_is_left v v_is = subst (λ (x : Window V H). IsArrangement (record { window = x.serial; by = by; windows = records_put loan e x t; activates = activates }) (state_of loan t slots) (state_of loan new slots)) (same_at t.windows.records.items e.at w v N.low w_is v_is) (record {
      desk = left_is.0 ∙ after_is t slots e activation w w_is N.low ∙ ap (λ x. desk_activated (records_put loan e w t) x (desk_of loan t slots)) (N.becomes w w_is);
      pixels = left_is.1;
    })
      where
        left_is : (desk_of loan new slots ≡ left) × IsChanged (moving w.serial by) (layered_state (state_of loan t slots)) (layered_state (state_of loan new slots))
        left_is = arranged_is_left loan touch t new slots slots left (moved_item t.areas.items e.at e.to) plan edit_arranged

    -- it is whole after the call, and this is what the call answers and leaves
    pub edit_done : IsWholeManager loan new slots × IsRearranged loan e activates by (Ok Done) t new slots
    edit_done = (arranged_is_whole loan touch t new slots slots left (moved_item t.areas.items e.at e.to) plan edit_arranged, (refl, edit_is_left))

    -- and it writes no more on the screen
    pub edit_spares : (v : Window V H) → IsWindowAt t.windows.records.items e.at v → Spares loan v.serial by t new
    edit_spares v v_is = subst (λ (x : Window V H). Spares loan x.serial by t new) (same_at t.windows.records.items e.at w v N.low w_is v_is) (arranged_spares loan touch t new slots slots left (moved_item t.areas.items e.at e.to) plan edit_arranged)

  -- every window is settled, whichever stands at the place
  pub all_settled : (t : WindowManager V H) (slots : List WindowSlot) (e : Edit) (a : Activation) → IsWholeManager loan t slots → e.at < length t.windows.records.items → IsPlaceable loan e t.windows.records.items → SameSize e t.windows.records.items
      → AreSettledAfter loan e a t.windows.active t.windows.records.items
  all_settled t slots e a whole low may same w w_is = settled_after t slots e a w w_is low may (same w w_is) whole.sound.settled
