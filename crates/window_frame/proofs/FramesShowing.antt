-- Steps of frames, whatever controls and lists show, since none draws one of them.
use Rattle.std.proofs.Common.{◌≡◌, inl, inr, ℕ, ◌==◌, Bool, true, false, ◌&&◌, if◌then◌else◌, List, [], ◌∷◌, map, Option, None, Some, Result, Ok, Err, refl, sym, ap, subst, ◌∙◌}
use Rattle.tb_geom.specs.declared.point.Point.{Point}
use Rattle.tb_geom.specs.declared.refusal.Refusal.{Refusal}
use Rattle.tb_geom.specs.Points.{PixelSet}
use Rattle.tb_geom.specs.Refusals.{first_refusal}
use Rattle.def_iface.specs.WindowNews.{WindowNews, told_title, told_highlighted, told_tracked}
use Rattle.desk_layers.specs.declared.part.Part.{Part}
use Rattle.desk_layers.specs.Desk as layers
use Rattle.desk_layers.specs.Change.{no_change}
use Rattle.desk_call.specs.declared.activity.Standing.{Standing}
use Rattle.desk_call.specs.declared.activity.Standing.TheVariants as standing
use Rattle.desk_call.specs.declared.frame.FrameCall.{FrameCall}
use Rattle.desk_call.specs.declared.frame.FrameCall.TheVariants.{SetTitle, Hilite, TrackGoAway, StepGoAway, EndGoAway}
use Rattle.desk_call.specs.declared.frame.FrameReply.{FrameReply}
use Rattle.desk_call.specs.declared.frame.FrameReply.TheVariants.{Done, Tracked}
use Rattle.desk_call.specs.Steps.{IsRefusedFor}
use Rattle.vis_update.specs.Records.{WindowRecord, Look, layered_window}
use Rattle.vis_update.specs.Touches.{is_this}
use Rattle.window_mgr.specs.Arrange.{changed}
use Rattle.window_mgr.specs.DeskStates.{DeskState}
use Rattle.window_mgr.specs.FrameNotices.{IsFrameNotified}
use Rattle.window_mgr.specs.FullDesk.{FullDesk, FullState, layered_desk, look_of}
use Rattle.window_mgr.specs.Records.{desk_showing, state_showing}
use Rattle.window_mgr.proofs.LayerParts.{parts_alike}
use Rattle.window_mgr.proofs.StepsShowing.{changed_showing, found_showing, shown, unchanged_desk_showing, same_activity_showing}
use Rattle.window_frame.specs.Followers.{Telling, AreNotified, IsCaughtUp, IsCaughtUpBy, told_flag, with_heard, Flag}
use Rattle.window_frame.specs.Followers.Flag.{Highlighting, Zooming}
use Rattle.window_frame.specs.FrameRefusals.{frame_refusals}
use Rattle.window_frame.specs.FrameSteps.{IsTrackingNotified, IsBegunAt, IsTrackedAt, IsFrameEffect, IsFrameStep, in_go_away, is_go_away, with_title, with_flag, with_tracked}

-- ---- windows of which one was told something are told apart as before

-- what of a record tells its window apart stays
pub record KeepsApart (f : WindowRecord → WindowRecord) : Type 0 where
  pub serial : (w : WindowRecord) → (f w).serial ≡ w.serial
  pub layers : (w : WindowRecord) → (f w).layers ≡ w.layers

module _ (look : Look) (n : ℕ) (f : WindowRecord → WindowRecord) (keeps : KeepsApart f) where
  missing_still : (s : ℕ) (ws : List WindowRecord) → layers.window_of s (map (layered_window look) ws) ≡ None
      → layers.window_of s (map (layered_window look) (changed n f ws)) ≡ None
  missing_still s [] e = refl
  missing_still s (w ∷ ws) e = by_tests (w.serial == n) (w.serial == s) refl e (missing_still s ws)
    where
      by_tests : (this found : Bool) → (w.serial == s) ≡ found
          → (if found then Some (layered_window look w) else layers.window_of s (map (layered_window look) ws)) ≡ None
          → (layers.window_of s (map (layered_window look) ws) ≡ None → layers.window_of s (map (layered_window look) (changed n f ws)) ≡ None)
          → layers.window_of s (map (layered_window look) (if this then f w ∷ ws else w ∷ changed n f ws)) ≡ None
      by_tests this true is h rest = absurd (cc)
      by_tests true false is h rest =
          ap (λ b. if b then Some (layered_window look (f w)) else layers.window_of s (map (layered_window look) ws)) (ap (λ m. m == s) (keeps.serial w) ∙ is) ∙ h
      by_tests false false is h rest =
          ap (λ b. if b then Some (layered_window look w) else layers.window_of s (map (layered_window look) (changed n f ws))) is ∙ rest h

  pub apart_still : (ws : List WindowRecord) → layers.AreWindows (map (layered_window look) ws) → layers.AreWindows (map (layered_window look) (changed n f ws))
  apart_still [] apart = tt
  apart_still (w ∷ ws) (missing, (parts, rest)) = by_test (w.serial == n) (apart_still ws rest)
    where
      by_test : (this : Bool) → layers.AreWindows (map (layered_window look) (changed n f ws)) → layers.AreWindows (map (layered_window look) (if this then f w ∷ ws else w ∷ changed n f ws))
      by_test true still = (
        subst (λ s. layers.window_of s (map (layered_window look) ws) ≡ None) (sym (keeps.serial w)) missing,
        (parts_alike look look w (f w) (keeps.layers w) parts, rest),
      )
      by_test false still = (missing_still w.serial ws missing, (parts, still))

-- ---- a definition that was told something

module _ (shows : List ℕ → Part → PixelSet) where
  pub notified_showing : (n : ℕ) (news : WindowRecord → WindowNews → WindowNews) (kept : WindowRecord → WindowRecord) (s t : FullState) → layers.IsDesk (layered_desk t.desk)
      → IsFrameNotified n news kept s t → IsFrameNotified n news kept (state_showing shows s) (state_showing shows t)
  notified_showing n news kept s t distinct it = record {
    window = it.window;
    definition = it.definition;
    found = it.found;
    told = it.told;
    desk = ap (desk_showing shows) it.desk;
    pixels = changed_showing shows no_change (λ o p. refl) (λ o. refl) s t distinct it.pixels;
  }

pub distinct_notified : (n : ℕ) (news : WindowRecord → WindowNews → WindowNews) (kept : WindowRecord → WindowRecord) (s t : FullState) → KeepsApart kept
    → IsFrameNotified n news kept s t → layers.IsDesk (layered_desk s.desk) → layers.IsDesk (layered_desk t.desk)
distinct_notified n news kept s t keeps it distinct =
    subst (λ (d : FullDesk). layers.IsDesk (layered_desk d)) (sym it.desk)
    (apart_still (look_of s.desk) n (λ w. record (kept w) { definition = it.definition }) (record { serial = keeps.serial; layers = keeps.layers }) s.desk.windows distinct)

-- ---- definitions that are told how their windows stand

heard_keeps : (flag : Flag) → KeepsApart (with_heard flag)
heard_keeps Highlighting = record { serial = λ w. refl; layers = λ w. refl }
heard_keeps Zooming = record { serial = λ w. refl; layers = λ w. refl }

module _ (shows : List ℕ → Part → PixelSet) where
  told_all_showing : (ts : List Telling) (s t : FullState) → layers.IsDesk (layered_desk s.desk) → AreNotified ts s t → AreNotified ts (state_showing shows s) (state_showing shows t)
  unfolding notified_showing
  told_all_showing [] s t distinct same = ap (state_showing shows) same
  told_all_showing (x ∷ xs) s t distinct (middle, its, rest) =
      let after = distinct_notified x.window (told_flag x.flag) (with_heard x.flag) s middle (heard_keeps x.flag) its.told distinct in (
        state_showing shows middle,
        record { told = notified_showing shows x.window (told_flag x.flag) (with_heard x.flag) s middle after its.told; otherwise = its.otherwise },
        told_all_showing xs middle t after rest,
      )

  pub caught_up_showing : (s t : FullState) → layers.IsDesk (layered_desk s.desk) → IsCaughtUp s t → IsCaughtUp (state_showing shows s) (state_showing shows t)
  caught_up_showing s t distinct (tellings, told, informed) = (tellings, told_all_showing tellings s t distinct told, informed)

  pub caught_up_by_showing : (when : Standing) (s t : FullState) → layers.IsDesk (layered_desk s.desk) → IsCaughtUpBy when s t → IsCaughtUpBy when (state_showing shows s) (state_showing shows t)
  caught_up_by_showing standing.Asks s t distinct same = ap (state_showing shows) same
  caught_up_by_showing (standing.Updates n) s t distinct it = caught_up_showing s t distinct it
  caught_up_by_showing standing.Tracks s t distinct it = caught_up_showing s t distinct it
  caught_up_by_showing standing.Pulls s t distinct it = caught_up_showing s t distinct it
  caught_up_by_showing standing.TracksControl s t distinct it = caught_up_showing s t distinct it
  caught_up_by_showing standing.Drags s t distinct it = caught_up_showing s t distinct it
  caught_up_by_showing standing.Grows s t distinct it = caught_up_showing s t distinct it
  caught_up_by_showing standing.Selects s t distinct it = caught_up_showing s t distinct it
  caught_up_by_showing standing.Changes s t distinct it = caught_up_showing s t distinct it

-- ---- calls about frames

module _ (shows : List ℕ → Part → PixelSet) where
  tracking_showing : (inside : Bool) (n : ℕ) (s t : FullState) → layers.IsDesk (layered_desk s.desk) → IsTrackingNotified inside n s t → IsTrackingNotified inside n (state_showing shows s) (state_showing shows t)
  tracking_showing inside n s t distinct (inl (missing, same)) = inl (missing, ap (state_showing shows) same)
  tracking_showing inside n s t distinct (inr its) =
      inr (notified_showing shows n (λ _. told_tracked inside) (with_tracked inside) s t
      (distinct_notified n (λ _. told_tracked inside) (with_tracked inside) s t (record { serial = λ w. refl; layers = λ w. refl }) its distinct) its)

  in_go_away_showing : (n : ℕ) (d : FullDesk) (p : Point) → in_go_away n (desk_showing shows d) p ≡ in_go_away n d p
  in_go_away_showing n d p = ap (λ found. is_go_away found.part && is_this found.window n) (found_showing shows d p)

  begun_showing : (n : ℕ) (inside : Bool) (s t : DeskState) → layers.IsDesk (layered_desk s.windows.desk) → IsBegunAt n inside s t → IsBegunAt n inside (shown shows s) (shown shows t)
  begun_showing n true s t distinct (opened, told) = (opened, tracking_showing true n s.windows t.windows distinct told)
  begun_showing n false s t distinct same = unchanged_desk_showing shows s t same

  tracked_showing : (p : Point) (inside told : Bool) (s t : DeskState) → layers.IsDesk (layered_desk s.windows.desk) → IsTrackedAt p inside told s t → IsTrackedAt p inside told (shown shows s) (shown shows t)
  tracked_showing p inside told s t distinct it = record {
    window = it.window;
    tracked = it.tracked;
    answer = it.answer ∙ sym (in_go_away_showing it.window s.windows.desk p);
    told = tracking_showing told it.window s.windows t.windows distinct it.told;
  }

  refusals_same : (call : FrameCall) (d : FullDesk) (why : Option Refusal) → first_refusal (frame_refusals call d) ≡ why → first_refusal (frame_refusals call (desk_showing shows d)) ≡ why
  refusals_same (SetTitle n) d why e = e
  refusals_same (Hilite h) d why e = e
  refusals_same (TrackGoAway g) d why e = e
  refusals_same (StepGoAway p) d why e = e
  refusals_same (EndGoAway p) d why e = e

  frame_effect : (call : FrameCall) (answer : FrameReply) (s t : DeskState) → layers.IsDesk (layered_desk s.windows.desk) → IsFrameEffect call answer s t → IsFrameEffect call answer (shown shows s) (shown shows t)
  frame_effect (SetTitle n) Done s t distinct (same, its) = (
    same_activity_showing shows s t same,
    notified_showing shows n.window (λ _. told_title n.title) (with_title n.title) s.windows t.windows
        (distinct_notified n.window (λ _. told_title n.title) (with_title n.title) s.windows t.windows (record { serial = λ w. refl; layers = λ w. refl }) its distinct) its,
  )
  frame_effect (Hilite h) Done s t distinct (same, its) = (
    same_activity_showing shows s t same,
    notified_showing shows h.window (λ _. told_highlighted h.highlighted) (with_flag h.highlighted) s.windows t.windows
        (distinct_notified h.window (λ _. told_highlighted h.highlighted) (with_flag h.highlighted) s.windows t.windows (record { serial = λ w. refl; layers = λ w. refl }) its distinct) its,
  )
  frame_effect (TrackGoAway g) (Tracked inside) s t distinct (is, begun) = (is ∙ sym (in_go_away_showing g.window s.windows.desk g.point), begun_showing g.window inside s t distinct begun)
  frame_effect (StepGoAway p) (Tracked inside) s t distinct (same, it) = (same_activity_showing shows s t same, tracked_showing p inside inside s t distinct it)
  frame_effect (EndGoAway p) (Tracked inside) s t distinct (idle, it) = (idle, tracked_showing p inside false s t distinct it)
  frame_effect (SetTitle n) (Tracked inside) s t distinct none = none
  frame_effect (Hilite h) (Tracked inside) s t distinct none = none
  frame_effect (TrackGoAway g) Done s t distinct none = none
  frame_effect (StepGoAway p) Done s t distinct none = none
  frame_effect (EndGoAway p) Done s t distinct none = none

  pub frame_step_showing : (call : FrameCall) (result : Result FrameReply Refusal) (s t : DeskState) → layers.IsDesk (layered_desk s.windows.desk) → IsFrameStep call result s t → IsFrameStep call result (shown shows s) (shown shows t)
  frame_step_showing call (Ok answer) s t distinct (none, effect) = (refusals_same call s.windows.desk None none, frame_effect call answer s t distinct effect)
  frame_step_showing call (Err e) s t distinct (refused, same) = (by_reason refused, unchanged_desk_showing shows s t same)
    where
      by_reason : IsRefusedFor (λ why. first_refusal (frame_refusals call s.windows.desk) ≡ why) false e
          → IsRefusedFor (λ why. first_refusal (frame_refusals call (desk_showing shows s.windows.desk)) ≡ why) false e
      by_reason (inl refused) = inl (refusals_same call s.windows.desk (Some e) refused)
      by_reason (inr (none, grown)) = inr (refusals_same call s.windows.desk None none, grown)
