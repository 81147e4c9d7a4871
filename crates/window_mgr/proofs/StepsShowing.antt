-- A step of a call on windows is the same step whatever controls and lists show, since no such call draws one of them.
use Rattle.std.proofs.Common.{◌≡◌, inl, inr, ℕ, Bool, true, false, not, ◌&&◌, if◌then◌else◌, List, [], ◌∷◌, Option, None, Some, Result, Ok, Err, refl, sym, ap, subst, ◌∙◌}
use Rattle.std.specs.Prelude.{is_none}
use Rattle.tb_geom.specs.declared.point.Point.{Point}
use Rattle.tb_geom.specs.declared.refusal.Refusal.{Refusal}
use Rattle.tb_geom.specs.declared.refusal.Refusal.TheVariants.{NoSuchWindow, OutOfRange}
use Rattle.tb_geom.specs.Points.{PixelSet}
use Rattle.tb_geom.specs.Refusals.{first_refusal}
use Rattle.desk_layers.specs.declared.part.Part.{Part}
use Rattle.desk_layers.specs.Desk.{IsDesk, on_screen}
use Rattle.desk_layers.specs.Owner.{Owner, owner, own_bit, same_owner, is_content}
use Rattle.desk_layers.specs.Scratch.{scratch}
use Rattle.desk_layers.specs.Change.{Change, IsChanged, no_change, had, stale_by, image_by}
use Rattle.desk_layers.proofs.Painting.{scratch_is_owners}
use Rattle.lent_ops.specs.Asked.{asked_holds}
use Rattle.desk_call.specs.declared.window.WindowCall.{WindowCall}
use Rattle.desk_call.specs.declared.window.WindowCall.TheVariants.{New, NewFloating, Dispose, Show, Hide, ShowHide, Select, BringToFront, SendBehind, Move, Size, Zoom, Draw, SetPicture, Scroll, Find, Front, Info, VisibleRegion, UpdateRegion, Region}
use Rattle.desk_call.specs.declared.window.WindowReply.{WindowReply}
use Rattle.desk_call.specs.declared.window.WindowReply.TheVariants as reply
use Rattle.desk_call.specs.declared.window.WindowPart.TheVariants.{InDesk}
use Rattle.desk_call.specs.Steps.{IsRefusedFor}
use Rattle.vis_update.specs.Areas.{is_content_of}
use Rattle.vis_update.specs.Touches.{moving}
use Rattle.vis_update.specs.Contents.{scroll_change}
use Rattle.window_mgr.specs.DeskStates.{DeskState, IsDeskUnchanged, SameActivity}
use Rattle.window_mgr.specs.FullDesk.{FullDesk, FullState, layered_desk, layered_state}
use Rattle.window_mgr.specs.Records.{desk_showing, state_showing}
use Rattle.window_mgr.specs.Finding.{record_with, found_at, found_by, found_none}
use Rattle.window_mgr.specs.Refused.{IsRefusal, IsUntold, may_grow, is_missing, may_lie}
use Rattle.window_mgr.specs.Telling.{IsRegionTold, seen_from, visible_of, update_of}
use Rattle.window_mgr.specs.Arrange.{Arrangement}
use Rattle.desk_call.specs.declared.window.Zoom as zooms
use Rattle.desk_call.specs.declared.window.Zoom.TheVariants.{Out, In}
use Rattle.desk_call.specs.declared.window.ZoomWindow.{ZoomWindow}
use Rattle.desk_call.specs.Parts.{zoom_of}
use Rattle.window_list.specs.declared.window.UserState.{UserState}
use Rattle.vis_update.specs.Records.{WindowRecord}
use Rattle.window_mgr.specs.Placings.{Placing, zoom_target, zoomed, zoomed_by, gone}
use Rattle.window_mgr.specs.Effects.{Effect, IsEffect, IsUnchanged, IsArrangement, effect_of, places, draw_change, picture_change}
use Rattle.window_mgr.specs.Effects.Effect.{Makes, Disposes, Draws, Pictures, Scrolls, Arranges, Places, Tells, Describes}
use Rattle.window_mgr.specs.Step.{IsWindowStep}
use Rattle.window_mgr.proofs.Showing.{owner_showing, distinct_showing, bit_showing, update_showing}

-- ---- changes that draw no content afresh

module _ (shows : List ℕ → Part → PixelSet) (c : Change) where
  had_showing : (d : FullDesk) (o : Owner) (p : Point) → had c (layered_desk (desk_showing shows d)) o p ≡ had c (layered_desk d) o p
  had_showing d o p = ap (λ w. on_screen (layered_desk d) (c.source o p) && same_owner w o) (owner_showing shows d (c.source o p))

  stale_showing : (s : FullState) (o : Owner) (p : Point) → stale_by c (layered_state (state_showing shows s)) o p ≡ stale_by c (layered_state s) o p
  stale_showing s o p = ap (λ h. if not (is_content o) then false else (if c.afresh o p then false else (if c.taken o p then false else (if c.added o p then true else (if h then s.stale (c.source o p) else true))))) (had_showing s.desk o p)

  scratch_showing : (d : FullDesk) (p : Point) → IsDesk (layered_desk d) → is_content (owner (layered_desk d) p) ≡ false
      → scratch (layered_desk (desk_showing shows d)) p ≡ scratch (layered_desk d) p
  scratch_showing d p distinct plain =
      scratch_is_owners (layered_desk (desk_showing shows d)) p (distinct_showing shows d distinct)
      ∙ ap (λ o. own_bit (layered_desk (desk_showing shows d)) o p) (owner_showing shows d p)
      ∙ bit_showing shows d (owner (layered_desk d) p) p plain
      ∙ sym (scratch_is_owners (layered_desk d) p distinct)

  module _ (fresh : (o : Owner) (p : Point) → c.afresh o p ≡ false) (redrawn : (o : Owner) → c.redrawn o ≡ false) where
    image_showing : (s t : FullState) (p : Point) → IsDesk (layered_desk t.desk)
        → image_by c (layered_state (state_showing shows s)) (layered_desk (desk_showing shows t.desk)) (owner (layered_desk t.desk) p) p
        ≡ image_by c (layered_state s) (layered_desk t.desk) (owner (layered_desk t.desk) p) p
    image_showing s t p distinct = by_tests (is_content o) refl (c.afresh o p) (fresh o p) (c.redrawn o) (redrawn o)
      where
        o : Owner
        o = owner (layered_desk t.desk) p

        image : Bool → Bool → Bool → Bool → Bool → Bool → Bool
        image content afresh h again stale painted =
            if not content then painted
            else (if afresh then painted
            else (if not h then false
            else (if again then (if stale then s.image (c.source o p) else painted)
            else c.drawn o p (s.image (c.source o p)))))

        by_tests : (content : Bool) → is_content o ≡ content → (afresh : Bool) → afresh ≡ false → (again : Bool) → again ≡ false
            → image content afresh (had c (layered_desk (desk_showing shows s.desk)) o p) again (stale_by c (layered_state (state_showing shows s)) o p) (scratch (layered_desk (desk_showing shows t.desk)) p)
            ≡ image content afresh (had c (layered_desk s.desk) o p) again (stale_by c (layered_state s) o p) (scratch (layered_desk t.desk) p)
        by_tests false plain afresh _ again _ = scratch_showing t.desk p distinct plain
        by_tests true plain true e again _ = absurd (cc)
        by_tests true plain false _ true e = absurd (cc)
        by_tests true plain false _ false _ = ap (λ h. if not h then false else c.drawn o p (s.image (c.source o p))) (had_showing s.desk o p)

    pub changed_showing : (s t : FullState) → IsDesk (layered_desk t.desk) → IsChanged c (layered_state s) (layered_state t)
        → IsChanged c (layered_state (state_showing shows s)) (layered_state (state_showing shows t))
    changed_showing s t distinct changed = record {
      stale = λ p on. changed.stale p on ∙ sym (stale_showing s (owner (layered_desk t.desk) p) p)
          ∙ (λ i. stale_by c (layered_state (state_showing shows s)) (sym (owner_showing shows t.desk p) i) p);
      image = λ p on. changed.image p on ∙ sym (image_showing s t p distinct)
          ∙ (λ i. image_by c (layered_state (state_showing shows s)) (layered_desk (desk_showing shows t.desk)) (sym (owner_showing shows t.desk p) i) p);
    }

-- ---- refusals

module _ (shows : List ℕ → Part → PixelSet) where
  visible_showing : (n : ℕ) (s : FullState) (p : Point) → visible_of n (state_showing shows s) p ≡ visible_of n s p
  visible_showing n s p = λ i. seen_from (record_with n s.desk.windows) (λ q. on_screen (layered_desk s.desk) q && is_content_of n (owner_showing shows s.desk q i)) p

  untold_showing : (n : ℕ) (set other : PixelSet) (d : FullDesk) (why : Option Refusal) → ((p : Point) → other p ≡ set p) → IsUntold n set d why → IsUntold n other (desk_showing shows d) why
  untold_showing n set other d why same (long, (region, is, measured), e) = (long, (region, (λ p. is p ∙ sym (same p)), measured), e)

  -- where a zoom puts a window
  zoomed_showing : (z : ZoomWindow) (o : Option WindowRecord) (d : FullDesk) → zoomed z o (desk_showing shows d) ≡ zoomed z o d
  zoomed_showing z o d = by_cases (zoom_of z.part) o
    where
      by_state : (zoom : zooms.Zoom) (kept : Option UserState) (w : WindowRecord) → zoom_target zoom kept (desk_showing shows d) w ≡ zoom_target zoom kept d w
      by_state Out None w = refl
      by_state Out (Some kept) w = refl
      by_state In None w = refl
      by_state In (Some kept) w = refl

      by_cases : (zoom : Option zooms.Zoom) (o : Option WindowRecord) → zoomed_by zoom z.window o (desk_showing shows d) ≡ zoomed_by zoom z.window o d
      by_cases None o = refl
      by_cases (Some zoom) None = refl
      by_cases (Some zoom) (Some w) = ap (gone z.window w) (by_state zoom w.user_state w)

  refusal_showing : (call : WindowCall) (s : FullState) (why : Option Refusal) → IsRefusal call s why → IsRefusal call (state_showing shows s) why
  refusal_showing (Zoom z) s why e = ap (λ o. first_refusal ((is_missing z.window s.desk.windows, NoSuchWindow) ∷ (is_none (zoom_of z.part), OutOfRange) ∷ (not (may_lie o (record_with z.window s.desk.windows)), OutOfRange) ∷ [])) (zoomed_showing z (record_with z.window s.desk.windows) s.desk) ∙ e
  refusal_showing (VisibleRegion n) s why e = untold_showing n (visible_of n s) (visible_of n (state_showing shows s)) s.desk why (visible_showing n s) e
  refusal_showing (UpdateRegion n) s why e = untold_showing n (update_of n s) (update_of n (state_showing shows s)) s.desk why (update_showing shows s n) e
  refusal_showing _ s why e = e

  -- ---- effects

  pub unchanged_showing : (s t : FullState) → IsUnchanged s t → IsUnchanged (state_showing shows s) (state_showing shows t)
  unchanged_showing s t same = record { desk = ap (desk_showing shows) same.desk; stale = same.stale; image = same.image }

  told_alike : (set other : PixelSet) (answer : WindowReply) → ((p : Point) → other p ≡ set p) → IsRegionTold set answer → IsRegionTold other answer
  told_alike set other (reply.Region bytes) same (region, is, r) = (region, (λ p. is p ∙ sym (same p)), r)
  told_alike set other reply.Done same none = none
  told_alike set other (reply.Made n) same none = none
  told_alike set other (reply.Found f) same none = none
  told_alike set other (reply.Front f) same none = none
  told_alike set other (reply.Info i) same none = none

  arranged_showing : (a : Arrangement) (s t : FullState) → IsDesk (layered_desk t.desk) → IsArrangement a s t → IsArrangement a (state_showing shows s) (state_showing shows t)
  arranged_showing a s t distinct arranged = record {
    desk = ap (desk_showing shows) arranged.desk;
    pixels = changed_showing shows (moving a.window a.by) (λ o p. refl) (λ o. refl) s t distinct arranged.pixels;
  }

  -- where a region is described, it is the same whatever layers show
  abbrev DescribesAlike : Effect → Type 0
  DescribesAlike (Describes region) = (s : FullState) (p : Point) → region (state_showing shows s) p ≡ region s p
  DescribesAlike _ = Unit {0}

  effect_showing : (e : Effect) (answer : WindowReply) (s t : FullState) → DescribesAlike e → IsDesk (layered_desk t.desk)
      → IsEffect e answer s t → IsEffect e answer (state_showing shows s) (state_showing shows t)
  effect_showing (Makes floating w) answer s t alike distinct (serial, a, made) = (
    serial,
    a,
    record {
      loan = made.loan;
      begun = made.begun;
      serials = made.serials;
      taken = made.taken;
      live = made.live;
      desk = ap (desk_showing shows) made.desk;
      pixels = changed_showing shows no_change (λ o p. refl) (λ o. refl) s t distinct made.pixels;
    },
  )
  effect_showing (Disposes n) answer s t alike distinct (a, gone) = (
    a,
    record {
      window = gone.window;
      found = gone.found;
      shut = gone.shut;
      desk = ap (desk_showing shows) gone.desk;
      pixels = changed_showing shows no_change (λ o p. refl) (λ o. refl) s t distinct gone.pixels;
    },
  )
  effect_showing (Draws d) answer s t alike distinct (a, drawn) = (
    a,
    record {
      window = drawn.window;
      operation = drawn.operation;
      found = drawn.found;
      meant = drawn.meant;
      desk = ap (desk_showing shows) drawn.desk;
      pixels = changed_showing shows (draw_change s.desk.font d.window drawn.window drawn.operation) (λ o p. refl) (λ o. refl) s t distinct drawn.pixels;
    },
  )
  effect_showing (Pictures n) answer s t alike distinct (a, set) = (
    a,
    record {
      desk = ap (desk_showing shows) set.desk;
      pixels = changed_showing shows (picture_change n.window) (λ o p. refl) (λ o. refl) s t distinct set.pixels;
    },
  )
  effect_showing (Scrolls m) answer s t alike distinct (a, scrolled) = (
    a,
    record {
      desk = ap (desk_showing shows) scrolled.desk;
      pixels = changed_showing shows (scroll_change m.window m.by) (λ o p. refl) (λ o. refl) s t distinct scrolled.pixels;
    },
  )
  effect_showing (Arranges a) answer s t alike distinct (done, arranged) = (done, arranged_showing a s t distinct arranged)
  effect_showing (Places p) answer s t alike distinct (done, placed) = (
    done,
    record {
      window = placed.window;
      definition = placed.definition;
      found = placed.found;
      told = placed.told;
      arranged = arranged_showing _ s t distinct placed.arranged;
    },
  )
  effect_showing (Tells r) answer s t alike distinct (a, same) = (a, unchanged_showing s t same)
  effect_showing (Describes region) answer s t alike distinct (told, same) =
      (told_alike (region s) (region (state_showing shows s)) answer (alike s) told, unchanged_showing s t same)

  -- ---- the step

  places_alike : (p : Option Placing) → DescribesAlike (places p)
  places_alike None = tt
  places_alike (Some p) = tt

  pub found_showing : (d : FullDesk) (p : Point) → found_at (desk_showing shows d) p ≡ found_at d p
  found_showing d p = λ i. if on_screen (layered_desk d) p then found_by d.windows (owner_showing shows d p i) p else found_none InDesk

  step_effect : (call : WindowCall) (answer : WindowReply) (s t : FullState) → IsDesk (layered_desk t.desk)
      → IsEffect (effect_of call s.desk) answer s t
      → IsEffect (effect_of call (desk_showing shows s.desk)) answer (state_showing shows s) (state_showing shows t)
  step_effect (Find p) answer s t distinct (told, same) = (told ∙ ap reply.Found (sym (found_showing s.desk p)), unchanged_showing s t same)
  step_effect (VisibleRegion n) answer s t distinct effect = effect_showing (Describes (visible_of n)) answer s t (visible_showing n) distinct effect
  step_effect (UpdateRegion n) answer s t distinct effect = effect_showing (Describes (update_of n)) answer s t (λ u p. update_showing shows u n p) distinct effect
  step_effect (Region f) answer s t distinct effect = effect_showing (Describes (λ u. asked_holds f)) answer s t (λ u p. refl) distinct effect
  step_effect (Size z) answer s t distinct effect = effect_showing (effect_of (Size z) s.desk) answer s t (places_alike _) distinct effect
  step_effect (Zoom z) answer s t distinct effect =
      subst (λ o. IsEffect (places o) answer (state_showing shows s) (state_showing shows t)) (sym (zoomed_showing z (record_with z.window s.desk.windows) s.desk))
      (effect_showing (effect_of (Zoom z) s.desk) answer s t (places_alike _) distinct effect)
  step_effect call answer s t distinct effect = effect_showing (effect_of call s.desk) answer s t tt distinct effect

  pub step_showing : (call : WindowCall) (result : Result WindowReply Refusal) (s t : FullState) → IsDesk (layered_desk t.desk)
      → IsWindowStep call result s t → IsWindowStep call result (state_showing shows s) (state_showing shows t)
  step_showing call (Ok answer) s t distinct (none, effect) = (refusal_showing call s None none, step_effect call answer s t distinct effect)
  step_showing call (Err e) s t distinct (refused, same) = (by_reason refused, unchanged_showing s t same)
    where
      by_reason : IsRefusedFor (IsRefusal call s) (may_grow call) e → IsRefusedFor (IsRefusal call (state_showing shows s)) (may_grow call) e
      by_reason (inl refused) = inl (refusal_showing call s (Some e) refused)
      by_reason (inr (none, grown)) = inr (refusal_showing call s None none, grown)

  -- ---- a desk at which something may be open

  -- the desk, where its controls and lists show this
  abbrev pub shown : DeskState → DeskState
  shown d = record d { windows = state_showing shows d.windows }

  pub unchanged_desk_showing : (s t : DeskState) → IsDeskUnchanged s t → IsDeskUnchanged (shown s) (shown t)
  unchanged_desk_showing s t same = record { windows = unchanged_showing s.windows t.windows same.windows; activity = same.activity; begun = same.begun }

  pub same_activity_showing : (s t : DeskState) → SameActivity s t → SameActivity (shown s) (shown t)
  same_activity_showing s t same = record { activity = same.activity; begun = same.begun }
