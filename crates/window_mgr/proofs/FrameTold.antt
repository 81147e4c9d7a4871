-- A window manager that told a window's definition something, and drew the window's frame.
use Rattle.std.proofs.Common.{◌≡◌, ℕ, zero, suc, ◌==◌, ◌<◌, ◌&&◌, not, Bool, true, false, if◌then◌else◌, List, [], ◌∷◌, length, get_or, map, Some, pos, refl, sym, ap, ◌∙◌, subst, arith}
use Rattle.std.specs.Prelude.{slice_get, All}
use Rattle.std.specs.List.{remove}
use Rattle.std.proofs.lemmas.Bool.{and_parts, eqb-true, false≢true}
use Rattle.std.proofs.lemmas.List.{get_or-set_same, length-set}
use Rattle.tb_geom.specs.declared.point.Point.{Point}
use Rattle.tb_geom.specs.declared.rect.Rect.{Rect}
use Rattle.tb_geom.specs.Points.{PixelSet, minus}
use Rattle.tb_geom.specs.Pixels.{holds}
use Rattle.tb_geom.specs.Rects.{in_plane, is_in_range, moved_rect, rect_holds}
use Rattle.bit_map.specs.Bits.{Bits, on_map, bit}
use Rattle.bit_blit.specs.Draws.{Draws, IsWritten}
use Rattle.bit_blit.proofs.WrittenLemmas.{written_in}
use Rattle.window_mgr.specs.DrawnWithin.{WritesFrame}
use Rattle.window_mgr.specs.Sparing.{IsRepainted, Repaints}
use Rattle.def_iface.specs.WindowNews.{no_news, told_change}
use Rattle.def_iface.specs.declared.size.Size.{Size}
use Rattle.def_iface.specs.Slots.{TakenBox}
use Rattle.def_iface.specs.declared.window_def.WindowChange.{WindowChange}
use Rattle.def_iface.specs.declared.window_def.WindowChange.TheVariants.{Resized, Titled, Highlighted, Closable, Zoomed, Tracked}
use Rattle.def_iface.specs.WindowMeaning.{WindowDefinition, WindowLoan, IsWithin}
use Rattle.def_iface.specs.Sizes.{is_size}
use Rattle.def_iface.specs.WindowSlots.{WindowSlot}
use Rattle.desk_layers.specs.Desk as layers
use Rattle.desk_layers.specs.Desk.{LayeredDesk}
use Rattle.desk_layers.specs.Owner.{Owner, owner, owner_among, owner_within, own_bit, same_owner, is_content}
use Rattle.desk_layers.specs.Owner.Owner.{Desktop, Bar, Frame, Content}
use Rattle.desk_layers.specs.Scratch.{scratch}
use Rattle.desk_layers.specs.Change as plain
use Rattle.desk_layers.proofs.Owning.{same_number, same_owner-self, is_other, owner_is_other}
use Rattle.desk_layers.proofs.Painting.{scratch_is_owners}
use Rattle.vis_update.specs.declared.area.Area.{Area}
use Rattle.vis_update.specs.Areas.{IsArea, AreAreas, IsGray, IsDesktop, is_content_of, stale_in}
use Rattle.vis_update.specs.Records.{WindowRecord, Look, layered_window, record_of}
use Rattle.window_list.specs.declared.window.Window.{Window}
use Rattle.window_list.specs.declared.list.WindowList.{WindowList}
use Rattle.window_list.specs.Changes.{keeps_size, with_change, IsNotifiedAt}
use Rattle.window_list.specs.Holders.{part_at}
use Rattle.vis_update.proofs.LayerOwners.{owner_first}
use Rattle.window_mgr.specs.declared.arrange.Activation.TheVariants.{Stays}
use Rattle.window_mgr.specs.declared.manager.WindowManager.{WindowManager}
use Rattle.window_mgr.specs.Arrange.{changed}
use Rattle.window_mgr.specs.Edits.{IsWindowAt}
use Rattle.window_mgr.specs.FrameNotices.{IsFrameNotified, notified_record}
use Rattle.window_mgr.specs.FullDesk.{FullDesk, layered_desk, layered_state}
use Rattle.window_mgr.specs.Records.{desk_of, state_of, look_on}
use Rattle.window_paint.specs.White.{all_white}
use Rattle.window_mgr.specs.Whole.{IsWholeManager, IsSoundDesk, IsSettled, LieThere}
use Rattle.window_mgr.proofs.Arranged.{between-is_below}
use Rattle.window_mgr.proofs.FindLemmas.{not_among, record_at}
use Rattle.window_mgr.proofs.FrameSteps.{noted, told_keeps, told_goes_by, noted_edit, desk_noted, owner_same, frame_now, frame_was, others_same}
use Rattle.window_mgr.proofs.PaintLemmas.{settled_in}
use Rattle.window_mgr.proofs.PutIn.{put_in, taken_out, map-put, is_put, All-anew}
use Rattle.window_mgr.proofs.Rearranged.{free, sound_now}
use Rattle.window_mgr.proofs.Remarked as remarked
use Rattle.window_mgr.proofs.Remarked.{unless}
use Rattle.window_mgr.proofs.Repicturing.{not_stale}
use Rattle.window_mgr.proofs.PlacementCalls.{set_is_put}
use Rattle.window_mgr.proofs.LayerParts.{lies_in}

-- ---- whose the frame's pixels are

no_bar : (s : ℕ) (b : Bool) (o : Owner) → same_owner (if b then Bar else o) (Frame s) ≡ true → same_owner o (Frame s) ≡ true
no_bar s true o e = absurd (cc)
no_bar s false o e = e

-- none of them lies outside the window's structure
frame_in : (look : Look) (ws : List WindowRecord) (i : ℕ) (w : WindowRecord) (p : Point) → layers.AreWindows (map (layered_window look) ws) → slice_get ws i ≡ Some w
    → same_owner (owner_among (map (layered_window look) ws) p) (Frame w.serial) ≡ true → w.definition.structure w.size (minus p w.place) ≡ true
frame_in look [] i w p distinct e its = absurd (cc)
frame_in look (y ∷ ys) zero w p distinct e its =
    let first : y ≡ w = cc in
    ap (λ (z : WindowRecord). z.definition.structure z.size (minus p z.place)) (sym first)
    ∙ by_structure (layers.in_structure (layered_window look y) p) refl (ap (λ (z : WindowRecord). same_owner (owner_among (map (layered_window look) (y ∷ ys)) p) (Frame z.serial)) first ∙ its)
  where
    apart : (o : Owner) → is_other y.serial o ≡ true → same_owner o (Frame y.serial) ≡ true → ⊥
    apart Desktop other same = absurd (cc)
    apart Bar other same = absurd (cc)
    apart (Frame n) other same = false≢true (sym (ap not (ap (λ k. y.serial == k) (eqb-true n y.serial same) ∙ same_number y.serial)) ∙ other)
    apart (Content n part) other same = absurd (cc)

    by_structure : (b : Bool) → layers.in_structure (layered_window look y) p ≡ b → same_owner (owner_among (map (layered_window look) (y ∷ ys)) p) (Frame y.serial) ≡ true → y.definition.structure y.size (minus p y.place) ≡ true
    by_structure true f same = (and_parts y.shown _ f).1
    by_structure false f same =
        absurd (apart (owner_among (map (layered_window look) ys) p) (owner_is_other (map (layered_window look) ys) p y.serial distinct.0)
        (ap (λ b. same_owner (if b then owner_within (layered_window look y) (layered_window look y).layers p else owner_among (map (layered_window look) ys) p) (Frame y.serial)) (sym f) ∙ same))
frame_in look (y ∷ ys) (suc i) w p distinct e its =
    frame_in look ys i w p distinct.1.1 e (by_tests (layers.in_structure (layered_window look y) p) (y.definition.content y.size (minus p y.place)) (sym (ap (λ o. same_owner o (Frame w.serial)) (owner_first look y ys p)) ∙ its))
  where
    away : (y.serial == w.serial) ≡ false
    away = not_among look y.serial ys i w distinct.0 e

    by_tests : (a b : Bool) → same_owner (if a then (if b then Content y.serial (part_at y.layers (minus p y.place)) else Frame y.serial) else owner_among (map (layered_window look) ys) p) (Frame w.serial) ≡ true → same_owner (owner_among (map (layered_window look) ys) p) (Frame w.serial) ≡ true
    by_tests true true same = absurd (cc)
    by_tests true false same = absurd (false≢true (sym away ∙ same))
    by_tests false b same = same

-- ---- the window's record, in the list

module _ {V : Type 0} {H : V → Type 0} (loan : TakenBox V H → WindowLoan) where
  -- its layers lie where they did
  told_lies : (change : WindowChange) (x : Window V H) (taken : TakenBox V H) → LieThere x → LieThere (record (with_change change x) { taken = taken })
  told_lies (Resized s) x taken its = its
  told_lies (Titled t) x taken its = its
  told_lies (Highlighted b) x taken its = its
  told_lies (Closable b) x taken its = its
  told_lies (Zoomed b) x taken its = its
  told_lies (Tracked b) x taken its = its

  -- the record is what it is to be
  record_told : (change : WindowChange) (x : Window V H) (taken : TakenBox V H) → (loan taken).slot ≡ (loan x.taken).slot
      → record_of loan (record (with_change change x) { taken = taken }) ≡ record (notified_record change (record_of loan x)) { definition = (loan taken).definition }
  record_told (Resized s) x taken slot = λ k. record (record_of loan x) { definition = (loan taken).definition; slot = slot k }
  record_told (Titled t) x taken slot = λ k. record (record_of loan x) { title = t.now; definition = (loan taken).definition; slot = slot k }
  record_told (Highlighted b) x taken slot = λ k. record (record_of loan x) { highlighted = b; heard = record x.heard { highlighted = b }; definition = (loan taken).definition; slot = slot k }
  record_told (Closable b) x taken slot = λ k. record (record_of loan x) { go_away = b; definition = (loan taken).definition; slot = slot k }
  record_told (Zoomed b) x taken slot = λ k. record (record_of loan x) { heard = record x.heard { zoomed = b }; definition = (loan taken).definition; slot = slot k }
  record_told (Tracked b) x taken slot = λ k. record (record_of loan x) { heard = record x.heard { tracked = b }; definition = (loan taken).definition; slot = slot k }

  -- the list is as long as it was
  pub still_low : {at : ℕ} {change : WindowChange} {damage : Rect} {x : Window V H} {old new : List (Window V H)} → at < length old → IsNotifiedAt loan at change damage x old new → at < length new
  still_low {at} {change} {damage} {x} {old} {new} low T =
      let long : length new ≡ length old = ap length T.items ∙ length-set old at (record (with_change change x) { taken = T.taken }) in
      omega arith

  module _ (t : WindowManager V H) (slots : List WindowSlot) (whole : IsWholeManager loan t slots) (at : ℕ) (low : at < length t.windows.records.items) (x : Window V H) (there : IsWindowAt t.windows.records.items at x) (change : WindowChange) (keeps : keeps_size change ≡ true) (damage : Rect) (list : WindowList V H) (T : IsNotifiedAt loan at change damage x t.windows.records.items list.records.items) where
    abbrev before : FullDesk
    before = desk_of loan t slots

    abbrev was : LayeredDesk
    was = layered_desk before

    abbrev w : WindowRecord
    w = record_of loan x

    abbrev d : WindowDefinition
    d = (loan T.taken).definition

    abbrev v : WindowRecord
    v = noted (notified_record change w) d w

    abbrev rest : List WindowRecord
    rest = map (record_of loan) (remove t.windows.records.items at)

    windows_were : before.windows ≡ put_in at w rest
    windows_were = ap (map (record_of loan)) (taken_out t.windows.records.items at x low there) ∙ map-put (record_of loan) at x (remove t.windows.records.items at)

    told_is : record (notified_record change w) { definition = d } ≡ v
    told_is = λ k. record (told_keeps change w k) { definition = d }

    windows_are : map (record_of loan) list.records.items ≡ put_in at v rest
    windows_are =
        ap (map (record_of loan)) (T.items ∙ set_is_put t.windows.records.items at (record (with_change change x) { taken = T.taken }) low)
        ∙ map-put (record_of loan) at (record (with_change change x) { taken = T.taken }) (remove t.windows.records.items at)
        ∙ ap (λ r. put_in at r rest) (record_told change x T.taken T.slot ∙ told_is)

    was_settled : IsSettled w
    was_settled = settled_in loan t.windows.records.items at x low there whole.sound.settled

    pub now_settled : IsSettled v
    now_settled =
        let its = was_settled in record {
          origin = its.origin;
          placed = its.placed;
          live = T.live;
          told = T.size ∙ its.told;
          fits = (λ k. is_size x.size && is_in_range (T.regions.bounds k x.size)) ∙ its.fits;
          inside = (λ k. is_in_range (moved_rect (T.regions.bounds k x.size) x.place.h x.place.v)) ∙ its.inside;
          within = subst (λ (y : (Size → PixelSet) × (Size → Rect)). IsWithin (y.0 x.size) (rect_holds (y.1 x.size))) (λ k. (sym T.regions.content k, sym T.regions.bounds k)) its.within;
          layers = its.layers;
          goes_by = told_goes_by change w d keeps its.goes_by T.heard;
        }

    -- ---- the window that is drawn

    module _ (z : Window V H) (z_there : IsWindowAt list.records.items at z) where
      z_is : z ≡ record (with_change change x) { taken = T.taken }
      z_is = z_there ∙ ap (λ zs. get_or zs at z) T.items ∙ get_or-set_same t.windows.records.items at (record (with_change change x) { taken = T.taken }) z low

      pub drawn_record : record_of loan z ≡ v
      drawn_record = ap (record_of loan) z_is ∙ record_told change x T.taken T.slot ∙ told_is

      pub drawn_settled : IsSettled (record_of loan z)
      drawn_settled = subst IsSettled (sym drawn_record) now_settled

    -- ---- where its frame shows

    module _ (a : Area) (read : a ≡ get_or t.areas.items at a) where
      area_is : IsArea was (stale_in t.areas.items) x.serial a
      area_is = remarked.area_is loan t slots whole at low x there a read

      -- its frame shows on pixels of its structure alone
      pub frame_within : (p : Point) → holds a.frame p ≡ true → (loan x.taken).definition.structure x.size (minus p x.place) ≡ true
      frame_within p e =
          let its = (and_parts (layers.on_screen was p) (same_owner (owner was p) (Frame x.serial)) (sym (area_is.frame p) ∙ e)).1 in
          frame_in (look_on t) before.windows at w p whole.sound.distinct (remarked.record_there loan t slots whole at low x there a read) (no_bar x.serial (layers.in_bar was p) (owner_among was.windows p) its)

      -- ---- the screen

      -- its pixels are the map's
      of_map : (p : Point) → layers.on_screen was p ≡ on_map t.screen p
      unfolding on_map
      of_map p = λ i. between-is_below t.screen.width p.h i && between-is_below t.screen.height p.v i

      module _ (screen : Bits) (drawn : Draws (λ p. holds a.frame p && rect_holds damage (minus p x.place)) (λ p _. d.picture no_news t.font (minus p x.place)) t.screen screen)
          (near : (p : Point) → holds a.frame p ≡ true → in_plane (minus p x.place) ≡ true) (p : Point) (on : layers.on_screen was p ≡ true) where
        abbrev now : LayeredDesk
        now = layered_desk (desk_noted before whole.sound.distinct at w rest windows_were (notified_record change w) d T.regions)

        on_map_is : layers.on_screen was p ≡ on_map t.screen p
        on_map_is = of_map p

        bit_is : bit screen p ≡ (if same_owner (owner was p) (Frame x.serial) && rect_holds damage (minus p x.place) then d.picture no_news t.font (minus p x.place) else bit t.screen p)
        bit_is =
            drawn.pixels p (sym on_map_is ∙ on)
            ∙ ap (λ b. if b && rect_holds damage (minus p x.place) then d.picture no_news t.font (minus p x.place) else bit t.screen p)
            (area_is.frame p ∙ ap (λ b. b && same_owner (owner was p) (Frame x.serial)) on)

        -- a pixel that is none of the frame is as it was
        still : same_owner (owner was p) (Frame x.serial) ≡ false → bit screen p ≡ bit t.screen p
        still e = bit_is ∙ ap (λ b. if b && rect_holds damage (minus p x.place) then d.picture no_news t.font (minus p x.place) else bit t.screen p) e

        -- one of the frame is as the frame is now: it was drawn, or it is no other than it was
        framed : owner was p ≡ Frame x.serial → bit screen p ≡ own_bit now (Frame x.serial) p
        framed e =
            bit_is
            ∙ ap (λ b. if b && rect_holds damage (minus p x.place) then d.picture no_news t.font (minus p x.place) else bit t.screen p) its
            ∙ by_damage (rect_holds damage (minus p x.place)) refl
            ∙ sym (frame_now before whole.sound.distinct at w rest windows_were (notified_record change w) d T.regions p)
          where
            its : same_owner (owner was p) (Frame x.serial) ≡ true
            its = ap (λ o. same_owner o (Frame x.serial)) e ∙ same_number x.serial

            by_damage : (b : Bool) → rect_holds damage (minus p x.place) ≡ b → (if b then d.picture no_news t.font (minus p x.place) else bit t.screen p) ≡ d.picture no_news t.font (minus p x.place)
            by_damage true f = refl
            by_damage false f =
                whole.frames p on (ap is_content e)
                ∙ ap (λ o. own_bit was o p) e
                ∙ frame_was before whole.sound.distinct at w rest windows_were (notified_record change w) d T.regions p
                ∙ sym (T.damaged t.font (minus p x.place) (near p (area_is.frame p ∙ (λ i. on i && its i))) f)

        shown : (o : Owner) → owner was p ≡ o → is_content o ≡ false → bit screen p ≡ own_bit now o p
        shown Desktop e c = still (ap (λ o. same_owner o (Frame x.serial)) e) ∙ whole.frames p on (ap is_content e) ∙ ap (λ o. own_bit was o p) e
        shown Bar e c = still (ap (λ o. same_owner o (Frame x.serial)) e) ∙ whole.frames p on (ap is_content e) ∙ ap (λ o. own_bit was o p) e
        shown (Frame n) e c = by_number (n == x.serial) refl
          where
            by_number : (b : Bool) → (n == x.serial) ≡ b → bit screen p ≡ own_bit now (Frame n) p
            by_number true same =
                let is : n ≡ x.serial = eqb-true n x.serial same in
                framed (e ∙ ap Frame is) ∙ ap (λ k. own_bit now (Frame k) p) (sym is)
            by_number false away =
                still (ap (λ o. same_owner o (Frame x.serial)) e ∙ away)
                ∙ whole.frames p on (ap is_content e)
                ∙ ap (λ o. own_bit was o p) e
                ∙ others_same before whole.sound.distinct at w rest windows_were (notified_record change w) d T.regions n p away
        shown (Content n part) e c = absurd (cc)

        same : owner now p ≡ owner was p
        same = owner_same before whole.sound.distinct at w rest windows_were (notified_record change w) d T.regions p

        frame_shown : is_content (owner now p) ≡ false → bit screen p ≡ own_bit now (owner now p) p
        frame_shown c = shown (owner was p) refl (ap is_content (sym same) ∙ c) ∙ ap (λ o. own_bit now o p) (sym same)

        had_is : plain.had plain.no_change was (owner was p) p ≡ true
        had_is = λ i. on i && same_owner-self (owner was p) i

        image_is : layers.IsDesk now → bit screen p ≡ plain.image_by plain.no_change (layered_state (state_of loan t slots)) now (owner now p) p
        image_is distinct = by_content (is_content (owner now p)) refl
          where
            no_frame : (o : Owner) → is_content o ≡ true → same_owner o (Frame x.serial) ≡ false
            no_frame Desktop c = refl
            no_frame Bar c = refl
            no_frame (Frame n) c = absurd (cc)
            no_frame (Content n part) c = refl

            by_content : (b : Bool) → is_content (owner now p) ≡ b → bit screen p ≡ plain.image_by plain.no_change (layered_state (state_of loan t slots)) now (owner now p) p
            by_content false c = frame_shown c ∙ sym (scratch_is_owners now p distinct) ∙ sym (unless (is_content (owner now p)) (scratch now p) _ c)
            by_content true c =
                still (no_frame (owner was p) (ap is_content (sym same) ∙ c))
                ∙ sym (λ i. if not (c i) then scratch now p else (if not ((ap (λ o. plain.had plain.no_change was o p) same ∙ had_is) i) then false else bit t.screen p))

        stale_is : stale_in t.areas.items p ≡ plain.stale_by plain.no_change (layered_state (state_of loan t slots)) (owner now p) p
        stale_is = by_content (is_content (owner was p)) refl ∙ ap (λ o. plain.stale_by plain.no_change (layered_state (state_of loan t slots)) o p) (sym same)
          where
            by_content : (b : Bool) → is_content (owner was p) ≡ b → stale_in t.areas.items p ≡ plain.stale_by plain.no_change (layered_state (state_of loan t slots)) (owner was p) p
            by_content false c = not_stale was (stale_in t.areas.items) before.windows t.areas.items p whole.areas c ∙ sym (unless (is_content (owner was p)) false _ c)
            by_content true c = sym (λ i. if not (c i) then false else (if had_is i then stale_in t.areas.items p else true))

      -- ---- the window manager

      -- the window manager, with these windows and these pixels on its screen
      abbrev pub with_frame : Bits → WindowManager V H
      with_frame screen = record t { screen = screen; windows = list }

      module _ (screen : Bits) (drawn : Draws (λ p. holds a.frame p && rect_holds damage (minus p x.place)) (λ p _. d.picture no_news t.font (minus p x.place)) t.screen screen)
          (near : (p : Point) → holds a.frame p ≡ true → in_plane (minus p x.place) ≡ true) (others : list ≡ record t.windows { records = list.records }) where
        abbrev after : FullDesk
        after = desk_noted before whole.sound.distinct at w rest windows_were (notified_record change w) d T.regions

        desk_is : desk_of loan (with_frame screen) slots ≡ after
        desk_is = λ i. record {
          width = pos (drawn.width i);
          height = pos (drawn.height i);
          bar = t.bar;
          font = t.font;
          shows = all_white;
          windows = windows_are i;
          active = (others i).active;
          next = (others i).next;
          stock = slots;
        }

        sound_after : IsSoundDesk after
        sound_after =
            sound_now before x.serial at at w v rest (noted_edit before whole.sound.distinct at w rest windows_were (notified_record change w) d T.regions) Stays whole.sound refl now_settled

        same_owners : (p : Point) → owner (layered_desk after) p ≡ owner was p
        same_owners p = owner_same before whole.sound.distinct at w rest windows_were (notified_record change w) d T.regions p

        area_same : (n m : ℕ) (b : Area) → n ≡ m → IsArea was (stale_in t.areas.items) n b → IsArea (layered_desk after) (stale_in t.areas.items) m b
        area_same n m b same its = record {
          visible = λ p. its.visible p ∙ (λ i. layers.on_screen was p && is_content_of (same i) (sym (same_owners p) i));
          update = its.update;
          frame = λ p. its.frame p ∙ (λ i. layers.on_screen was p && same_owner (sym (same_owners p) i) (Frame (same i)));
        }

        areas_same : (ws vs : List WindowRecord) (areas : List Area) → map (λ (y : WindowRecord). y.serial) ws ≡ map (λ (y : WindowRecord). y.serial) vs → AreAreas was (stale_in t.areas.items) ws areas → AreAreas (layered_desk after) (stale_in t.areas.items) vs areas
        areas_same [] [] [] e its = tt
        areas_same (y ∷ ws) (z ∷ vs) (b ∷ areas) e its =
            let first : y.serial ≡ z.serial = cc in
            let behind : map (λ (y : WindowRecord). y.serial) ws ≡ map (λ (y : WindowRecord). y.serial) vs = cc in
            (area_same y.serial z.serial b first its.0, areas_same ws vs areas behind its.1)
        areas_same [] [] (b ∷ areas) e its = absurd its
        areas_same [] (z ∷ vs) areas e its = absurd (cc)
        areas_same (y ∷ ws) [] areas e its = absurd (cc)
        areas_same (y ∷ ws) (z ∷ vs) [] e its = absurd its

        serials_same : map (λ (y : WindowRecord). y.serial) before.windows ≡ map (λ (y : WindowRecord). y.serial) after.windows
        serials_same =
            ap (map (λ (y : WindowRecord). y.serial)) windows_were
            ∙ map-put (λ (y : WindowRecord). y.serial) at w rest
            ∙ sym (map-put (λ (y : WindowRecord). y.serial) at v rest)

        is_whole : IsWholeManager loan (with_frame screen) slots
        is_whole = record {
          sound = subst IsSoundDesk (sym desk_is) sound_after;
          gray = subst (λ (y : FullDesk). IsGray (layered_desk y) t.gray) (sym desk_is) whole.gray;
          desktop = subst (λ (y : FullDesk). IsDesktop (layered_desk y) t.desktop) (sym desk_is) (λ p. whole.desktop p ∙ (λ i. layers.on_screen was p && same_owner (sym (same_owners p) i) Desktop));
          areas = subst (λ (y : FullDesk). AreAreas (layered_desk y) (stale_in t.areas.items) y.windows t.areas.items) (sym desk_is) (areas_same before.windows after.windows t.areas.items serials_same whole.areas);
          frames = subst (λ (k : LayeredDesk). (p : Point) → layers.on_screen k p ≡ true → is_content (owner k p) ≡ false → bit screen p ≡ own_bit k (owner k p) p) (sym (ap layered_desk desk_is))
              (λ p on c. frame_shown screen drawn near p on c);
          layers =
              subst (All LieThere) (sym (T.items ∙ set_is_put t.windows.records.items at (record (with_change change x) { taken = T.taken }) low))
              (All-anew LieThere at x (record (with_change change x) { taken = T.taken }) t.windows.records.items low there (told_lies change x T.taken (lies_in t.windows.records.items at x low there whole.layers)) whole.layers);
        }

        changed_so : changed x.serial (λ y. record (notified_record change y) { definition = d }) before.windows ≡ after.windows
        changed_so =
            ap (changed x.serial (λ y. record (notified_record change y) { definition = d })) windows_were
            ∙ (is_put (look_on t) x.serial at w rest refl (free before x.serial at at w v rest (noted_edit before whole.sound.distinct at w rest windows_were (notified_record change w) d T.regions) Stays whole.sound.distinct)).changed_is (λ y. record (notified_record change y) { definition = d })
            ∙ ap (λ y. put_in at y rest) told_is

        -- no pixel was written but those of the frame
        pub repainted : IsWritten (holds a.frame) t.screen screen → Repaints loan (λ n. n == x.serial) t (with_frame screen)
        repainted written =
            subst (λ (k : LayeredDesk). IsRepainted (λ n. n == x.serial) was k t.screen screen) (sym (ap layered_desk desk_is))
            (record {
              owners = same_owners;
              screens = λ p. refl;
              others = λ p on none. written.outside p (on_there p on) (area_is.frame p ∙ ap (λ b. b && same_owner (owner was p) (Frame x.serial)) on ∙ by_test p none (same_owner (owner was p) (Frame x.serial)) refl);
              rises = λ p on. written.rises p (on_there p on);
              changed = λ p on ne. written.changed p (on_there p on) ne;
            })
          where
            on_there : (p : Point) → layers.on_screen was p ≡ true → on_map t.screen p ≡ true
            on_there p on = sym (on_map_is screen drawn near p on) ∙ on

            by_test : (p : Point) → ((s : ℕ) → same_owner (owner was p) (Frame s) ≡ true → (s == x.serial) ≡ false) → (b : Bool) → same_owner (owner was p) (Frame x.serial) ≡ b → b ≡ false
            by_test p none true e = sym (same_number x.serial) ∙ none x.serial e
            by_test p none false e = refl

        -- nor of these but in the damage that the definition may answer
        pub written_within : IsWritten (λ p. holds a.frame p && rect_holds damage (minus p x.place)) t.screen screen
            → WritesFrame loan x.serial x.place ((loan x.taken).definition.damage (told_change change no_news)) t (with_frame screen)
        written_within written = written_in _ _ t.screen screen (λ p there out. by_tests p there out (rect_holds damage (minus p x.place)) refl) written
          where
            last : (b : Bool) → (b && true) ≡ b
            last true = refl
            last false = refl

            none : (b : Bool) → (b && false) ≡ false
            none true = refl
            none false = refl

            by_tests : (p : Point) → on_map t.screen p ≡ true
                → (same_owner (owner was p) (Frame x.serial) && (loan x.taken).definition.damage (told_change change no_news) (minus p x.place)) ≡ false
                → (b : Bool) → rect_holds damage (minus p x.place) ≡ b → (holds a.frame p && b) ≡ false
            by_tests p there out false e = none (holds a.frame p)
            by_tests p there out true e =
                last (holds a.frame p)
                ∙ area_is.frame p
                ∙ ap (λ b. b && same_owner (owner was p) (Frame x.serial)) (of_map p ∙ there)
                ∙ sym (last (same_owner (owner was p) (Frame x.serial)))
                ∙ ap (λ b. same_owner (owner was p) (Frame x.serial) && b) (sym (T.answered (minus p x.place) e))
                ∙ out

        -- it is whole again, the definition was told, and the frame drawn
        pub frame_told : IsWholeManager loan (with_frame screen) slots × IsFrameNotified x.serial (λ _. told_change change) (notified_record change) (state_of loan t slots) (state_of loan (with_frame screen) slots)
        frame_told = (
          is_whole,
          record {
            window = w;
            definition = d;
            found = record_at (look_on t) before.windows at w whole.sound.distinct (remarked.record_there loan t slots whole at low x there a read);
            told = record { live = T.live; told = T.size ∙ was_settled.told; regions = T.regions; heard = T.heard };
            desk = desk_is ∙ ap (λ ws. record before { windows = ws }) (sym changed_so);
            pixels = record {
              stale = subst (λ (k : LayeredDesk). (p : Point) → layers.on_screen k p ≡ true → stale_in t.areas.items p ≡ plain.stale_by plain.no_change (layered_state (state_of loan t slots)) (owner k p) p) (sym (ap layered_desk desk_is))
                  (λ p on. stale_is screen drawn near p on);
              image = subst (λ (k : LayeredDesk). (p : Point) → layers.on_screen k p ≡ true → bit screen p ≡ plain.image_by plain.no_change (layered_state (state_of loan t slots)) k (owner k p) p) (sym (ap layered_desk desk_is))
                  (λ p on. image_is screen drawn near p on sound_after.distinct);
            };
          },
        )

    -- ---- the window that was drawn, by its own name

    module _ (z : Window V H) (z_there : IsWindowAt list.records.items at z) (a : Area) (read : a ≡ get_or t.areas.items at a) where
      as_drawn : record_of loan z ≡ v
      as_drawn = drawn_record z z_there

      -- what is drawn lies within its structure
      pub drawn_within : (p : Point) → holds a.frame p ≡ true → (loan z.taken).definition.structure z.size (minus p z.place) ≡ true
      drawn_within p e =
          ap (λ (y : WindowRecord). y.definition.structure y.size (minus p y.place)) as_drawn
          ∙ (λ k. T.regions.structure k x.size (minus p x.place))
          ∙ frame_within a read p e

      pub frame_told_by : (screen : Bits) → Draws (λ p. holds a.frame p && rect_holds damage (minus p z.place)) (λ p _. (loan z.taken).definition.picture no_news t.font (minus p z.place)) t.screen screen
          → ((p : Point) → holds a.frame p ≡ true → in_plane (minus p z.place) ≡ true) → list ≡ record t.windows { records = list.records }
          → IsWholeManager loan (record t { screen = screen; windows = list }) slots × IsFrameNotified x.serial (λ _. told_change change) (notified_record change) (state_of loan t slots) (state_of loan (record t { screen = screen; windows = list }) slots)
      frame_told_by screen drawn near others =
          frame_told a read screen
          (subst (λ (y : WindowRecord). Draws (λ p. holds a.frame p && rect_holds damage (minus p y.place)) (λ p _. y.definition.picture no_news t.font (minus p y.place)) t.screen screen) as_drawn drawn)
          (subst (λ (y : WindowRecord). (p : Point) → holds a.frame p ≡ true → in_plane (minus p y.place) ≡ true) as_drawn near)
          others

      pub frame_repainted_by : (screen : Bits) → Draws (λ p. holds a.frame p && rect_holds damage (minus p z.place)) (λ p _. (loan z.taken).definition.picture no_news t.font (minus p z.place)) t.screen screen
          → ((p : Point) → holds a.frame p ≡ true → in_plane (minus p z.place) ≡ true) → list ≡ record t.windows { records = list.records }
          → IsWritten (λ p. holds a.frame p && rect_holds damage (minus p z.place)) t.screen screen
          → Repaints loan (λ n. n == x.serial) t (record t { screen = screen; windows = list })
      frame_repainted_by screen drawn near others written =
          repainted a read screen
          (subst (λ (y : WindowRecord). Draws (λ p. holds a.frame p && rect_holds damage (minus p y.place)) (λ p _. y.definition.picture no_news t.font (minus p y.place)) t.screen screen) as_drawn drawn)
          (subst (λ (y : WindowRecord). (p : Point) → holds a.frame p ≡ true → in_plane (minus p y.place) ≡ true) as_drawn near)
          others (written_in _ (holds a.frame) t.screen screen (λ p there out. ap (λ b. b && rect_holds damage (minus p z.place)) out) written)

      pub frame_written_by : (screen : Bits) → Draws (λ p. holds a.frame p && rect_holds damage (minus p z.place)) (λ p _. (loan z.taken).definition.picture no_news t.font (minus p z.place)) t.screen screen
          → ((p : Point) → holds a.frame p ≡ true → in_plane (minus p z.place) ≡ true) → list ≡ record t.windows { records = list.records }
          → IsWritten (λ p. holds a.frame p && rect_holds damage (minus p z.place)) t.screen screen
          → WritesFrame loan x.serial x.place ((loan x.taken).definition.damage (told_change change no_news)) t (record t { screen = screen; windows = list })
      frame_written_by screen drawn near others written =
          written_within a read screen
          (subst (λ (y : WindowRecord). Draws (λ p. holds a.frame p && rect_holds damage (minus p y.place)) (λ p _. y.definition.picture no_news t.font (minus p y.place)) t.screen screen) as_drawn drawn)
          (subst (λ (y : WindowRecord). (p : Point) → holds a.frame p ≡ true → in_plane (minus p y.place) ≡ true) as_drawn near)
          others
          (subst (λ (y : WindowRecord). IsWritten (λ p. holds a.frame p && rect_holds damage (minus p y.place)) t.screen screen) as_drawn written)
