-- A right state stays right where a call about controls comes.
use Rattle.std.proofs.Common.{◌≡◌, ◌⊎◌, ⊎_elim, inl, inr, ℕ, Bool, true, false, ◌&&◌, ◌==◌, cond, List, map, Option, None, Some, Result, Ok, Err, refl, sym, ap, ◌∙◌, subst}
use Rattle.std.proofs.lemmas.Bool.{and_parts}
use Rattle.tb_geom.specs.declared.point.Point.{Point}
use Rattle.tb_geom.specs.declared.refusal.Refusal.{Refusal}
use Rattle.tb_geom.specs.Points.{PixelSet}
use Rattle.control_values.specs.declared.part.ControlPart.{ControlPart}
use Rattle.control_values.specs.Parts.{number_of}
use Rattle.desk_layers.specs.declared.part.Part.{Part}
use Rattle.desk_layers.specs.declared.part.Part.TheVariants as part
use Rattle.desk_layers.specs.Desk.{IsDesk, on_screen}
use Rattle.desk_layers.specs.Owner.{owner, same_owner}
use Rattle.desk_layers.specs.Owner.Owner.{Content}
use Rattle.desk_layers.specs.Change as plain
use Rattle.desk_layers.proofs.Changing.{stays_right}
use Rattle.desk_layers.proofs.Owning.{same_owner-true}
use Rattle.desk_call.specs.declared.activity.Activity.{Activity}
use Rattle.desk_call.specs.declared.activity.Activity.TheVariants.{TrackingControl}
use Rattle.desk_call.specs.declared.control.ControlCall.{ControlCall}
use Rattle.desk_call.specs.declared.control.ControlCall.TheVariants.{New, Dispose, Show, Hide, Move, Size, SetValue, SetMinimum, SetMaximum, Hilite, SetTitle, Get, Find, Test, Track, Step, End}
use Rattle.desk_call.specs.declared.control.ControlOf.{ControlOf}
use Rattle.desk_call.specs.declared.control.ControlReply.{ControlReply}
use Rattle.desk_call.specs.declared.control.PointAtControl.{PointAtControl}
use Rattle.vis_update.specs.Records.{WindowRecord}
use Rattle.vis_update.specs.Relayings.{afresh_change, is_part_afresh, with_layers_of}
use Rattle.window_mgr.specs.Effects.{IsUnchanged}
use Rattle.window_mgr.specs.FullDesk.{AreSerials, FullDesk, FullState, IsRightState, layered_desk, layered_state}
use Rattle.window_mgr.specs.Relayered.{IsLayerRedrawn, redrawn_change}
use Rattle.window_mgr.proofs.EachChanged.{numbered_map}
use Rattle.window_mgr.proofs.Running.{unchanged_stays_right}
use Rattle.control_mgr.specs.Fields.{with_highlight}
use Rattle.control_mgr.specs.ControlDesks.{ControlDesk, ControlRecord, ControlsState, ShowsControls, controls_show}
use Rattle.control_mgr.specs.ControlSteps.{AreControlsLaid, IsControlEffect, IsControlLaid, IsControlStep, IsHighlighted, IsControlReleased, IsShownAnew, IsStepped, IsTracked, SameShown, highlight_of, is_thumb, new_control, released, tested}
use Rattle.control_mgr.specs.WholeControls.{AreControlsApart, AreWholeControls}
use Rattle.control_mgr.proofs.Settled.{AreJoined}
use Rattle.control_mgr.proofs.ControlBits.{bare, bare_laid, same_own}
use Rattle.control_mgr.proofs.SerialsFound.{StayControls, stay_edited, stay_pushed, stay_removed}

-- ---- what any call leaves of what is shown

-- the layers of a window were set, and all controls in a window stay but what is drawn afresh
pub record IsRelaidDesk (before after : ControlDesk) : Type 0 where
  pub window : ℕ
  pub afresh : Option Part
  pub laid : AreControlsLaid window afresh before after
  pub stay : StayControls (is_part_afresh window afresh) before.controls.controls after.controls.controls

-- a control of a window was shown anew, and all others stay
pub record IsRedrawnDesk (before after : ControlDesk) : Type 0 where
  pub window : ℕ
  pub control : ℕ
  pub redrawn : IsLayerRedrawn window (part.Control control) before.desk.windows after.desk.windows
  pub others : after.others ≡ before.others
  pub shows : ShowsControls after
  pub stay : StayControls (λ o. same_owner o (Content window (part.Control control))) before.controls.controls after.controls.controls

-- nothing that is shown changed, or so
abbrev pub LeavesShown : ControlDesk → ControlDesk → Type 0
LeavesShown before after =
    (IsUnchanged before.desk.windows after.desk.windows × (after.controls ≡ before.controls) × (after.others ≡ before.others)) ⊎ (IsRelaidDesk before after ⊎ IsRedrawnDesk before after)

module _ (before after : ControlDesk) where
  still_leaves : SameShown before after → LeavesShown before after
  still_leaves same = inl (
    record {
      desk = ap (λ (s : FullState). s.desk) same.windows;
      stale = λ p on. ap (λ (s : FullState). s.stale p) same.windows;
      image = λ p on. ap (λ (s : FullState). s.image p) same.windows;
    },
    same.controls,
    same.others,
  )

  module _ (apart : AreControlsApart before.controls.controls) where
    laid_leaves : (c : ControlOf) (f : ControlRecord → ControlRecord) → ((x : ControlRecord) → (f x).serial ≡ x.serial) → IsControlLaid c f before after → LeavesShown before after
    laid_leaves c f same done = inr (inl (record {
      window = c.window;
      afresh = Some (part.Control c.control);
      laid = done.laid;
      stay = stay_edited c f same before after apart done.changed;
    }))

    anew_leaves : (c : ControlOf) (f : ControlRecord → ControlRecord) → ((x : ControlRecord) → (f x).serial ≡ x.serial) → IsShownAnew c f before after → LeavesShown before after
    anew_leaves c f same done = inr (inr (record {
      window = c.window;
      control = c.control;
      redrawn = done.redrawn;
      others = done.others;
      shows = done.shows;
      stay = stay_edited c f same before after apart done.changed;
    }))

    highlighted_leaves : (thumb : Bool) (c : ControlOf) (h : ℕ) → IsHighlighted thumb c h before after → LeavesShown before after
    highlighted_leaves true c h same = still_leaves same
    highlighted_leaves false c h done = anew_leaves c (with_highlight h) (λ x. refl) done

    tracked_leaves : (p : PointAtControl) (o : Option ControlPart) → IsTracked p o before after → LeavesShown before after
    tracked_leaves p None same = inl (same.desk.windows, same.controls, same.others)
    tracked_leaves p (Some its) done = highlighted_leaves (is_thumb its) p.control (number_of its) done.1

    stepped_leaves : (a : Activity) (p : Point) (answer : Option ControlPart) → IsStepped a p answer before after → LeavesShown before after
    stepped_leaves (TrackingControl k) p answer done = highlighted_leaves (is_thumb k.part) k.control (highlight_of answer) done.2
    stepped_leaves a p answer wrong = absurd wrong

    released_leaves : (a : Activity) (p : Point) (answer : Option ControlPart) → IsControlReleased a p answer before after → LeavesShown before after
    released_leaves (TrackingControl k) p answer done = anew_leaves k.control (released k p answer) (λ x. refl) done.2
    released_leaves a p answer wrong = absurd wrong

    effect_leaves : (call : ControlCall) (answer : ControlReply) → IsControlEffect call answer before after → LeavesShown before after
    effect_leaves (New n) answer (serial, is, made) = inr (inl (record {
      window = n.window;
      afresh = Some (part.Control serial);
      laid = made.laid;
      stay = stay_pushed (is_part_afresh n.window (Some (part.Control serial))) before.controls.controls after.controls.controls (new_control n serial made.loan.slot made.begun) made.controls;
    }))
    effect_leaves (Dispose c) answer (is, gone) = inr (inl (record {
      window = c.window;
      afresh = None;
      laid = gone.laid;
      stay = stay_removed (is_part_afresh c.window None) before.controls.controls after.controls.controls gone.at apart (ap (λ (s : ControlsState). s.controls) gone.controls);
    }))
    effect_leaves (Show c) answer (is, done) = laid_leaves c _ (λ x. refl) done
    effect_leaves (Hide c) answer (is, done) = laid_leaves c _ (λ x. refl) done
    effect_leaves (Move m) answer (is, done) = laid_leaves m.control _ (λ x. refl) done
    effect_leaves (Size z) answer (is, done) = laid_leaves z.control _ (λ x. refl) done
    effect_leaves (SetValue n) answer done = anew_leaves n.control _ (λ x. refl) done.2
    effect_leaves (SetMinimum n) answer done = anew_leaves n.control _ (λ x. refl) done.2
    effect_leaves (SetMaximum n) answer done = anew_leaves n.control _ (λ x. refl) done.2
    effect_leaves (Hilite n) answer done = anew_leaves n.control _ (λ x. refl) done.2.2
    effect_leaves (SetTitle t) answer done = anew_leaves t.control _ (λ x. refl) done.2
    effect_leaves (Get c) answer (is, same) = inl (same.desk.windows, same.controls, same.others)
    effect_leaves (Find p) answer (is, same) = inl (same.desk.windows, same.controls, same.others)
    effect_leaves (Test p) answer (is, same) = inl (same.desk.windows, same.controls, same.others)
    effect_leaves (Track p) answer (is, done) = tracked_leaves p (tested p.control before.controls.controls p.point) done
    effect_leaves (Step p) answer (its, is, done) = stepped_leaves before.desk.activity p its done
    effect_leaves (End p) answer (its, is, done) = released_leaves before.desk.activity p its done

pub step_leaves : (call : ControlCall) (result : Result ControlReply Refusal) (before after : ControlDesk) → AreControlsApart before.controls.controls → IsControlStep call result before after → LeavesShown before after
step_leaves call (Ok answer) before after apart step = effect_leaves before after apart call answer step.1
step_leaves call (Err e) before after apart step = inl (step.1.desk.windows, step.1.controls, step.1.others)

-- ---- what is right stays so

-- other layers show what they showed
still_shown : (before after : ControlDesk) → after.others ≡ before.others → ShowsControls after → after.desk.windows.desk.shows ≡ controls_show before.others after.controls.controls after.desk.windows.desk.font
still_shown before after same shows = shows ∙ ap (λ others. controls_show others after.controls.controls after.desk.windows.desk.font) same

module _ (before after : ControlDesk) (right : IsRightState before.desk.windows) (shows : ShowsControls before) (was : AreJoined before.controls.controls before.desk.windows.desk.windows)
    (are : AreJoined after.controls.controls after.desk.windows.desk.windows) (distinct : IsDesk (layered_desk after.desk.windows.desk)) where
  abbrev d : FullDesk
  d = before.desk.windows.desk

  abbrev e : FullDesk
  e = after.desk.windows.desk

  -- what a pixel's owner has there, it had there
  its_owner : (p : Point) → (on_screen (layered_desk d) p && same_owner (owner (layered_desk d) p) (owner (layered_desk e) p)) ≡ true → owner (layered_desk d) p ≡ owner (layered_desk e) p
  its_owner p there = same_owner-true (owner (layered_desk d) p) (owner (layered_desk e) p) (and_parts (on_screen (layered_desk d) p) (same_owner (owner (layered_desk d) p) (owner (layered_desk e) p)) there).1

  relaid_right : IsRelaidDesk before after → IsRightState after.desk.windows
  relaid_right its = record {
    plain = stays_right change (layered_state before.desk.windows) (layered_state after.desk.windows) right.plain sound its.laid.set.pixels;
    serials = subst (λ (x : FullDesk). AreSerials x.next x.windows) (sym its.laid.set.desk) (numbered_map (with_layers_of its.window its.laid.layers) same_serial d.next d.windows right.serials);
  }
    where
      change : plain.Change
      change = afresh_change its.window its.afresh

      same_serial : (w : WindowRecord) → (with_layers_of its.window its.laid.layers w).serial ≡ w.serial
      same_serial w = by_test (w.serial == its.window)
        where
          by_test : (b : Bool) → (cond b (record w { layers = its.laid.layers }) w).serial ≡ w.serial
          by_test true = refl
          by_test false = refl

      windows : map bare e.windows ≡ map bare d.windows
      windows = ap (λ (x : FullDesk). map bare x.windows) its.laid.set.desk ∙ bare_laid its.window its.laid.layers d.windows

      sound : plain.IsSound change (layered_state before.desk.windows) (layered_desk e)
      sound = record {
        desk = distinct;
        kept = λ p on content afresh taken put redrawn there.
            same_own before.others before.others d e before.controls.controls after.controls.controls shows (still_shown before after its.laid.elsewhere its.laid.shows) (ap (λ (x : FullDesk). x.font) its.laid.set.desk) windows was are (is_part_afresh its.window its.afresh) its.stay (λ s n q was now other r. refl) (λ s n q was now other r. refl)
            p (owner (layered_desk e) p) right.plain.desk distinct (its_owner p there) refl content afresh;
        right = λ p on taken. absurd (cc);
      }

  redrawn_right : IsRedrawnDesk before after → IsRightState after.desk.windows
  redrawn_right its = record {
    plain = stays_right change (layered_state before.desk.windows) (layered_state after.desk.windows) right.plain sound its.redrawn.pixels;
    serials = subst (λ (x : FullDesk). AreSerials x.next x.windows) (sym its.redrawn.desk) right.serials;
  }
    where
      change : plain.Change
      change = redrawn_change its.window (part.Control its.control)

      sound : plain.IsSound change (layered_state before.desk.windows) (layered_desk e)
      sound = record {
        desk = distinct;
        kept = λ p on content afresh taken put redrawn there.
            same_own before.others before.others d e before.controls.controls after.controls.controls shows (still_shown before after its.others its.shows) (ap (λ (x : FullDesk). x.font) its.redrawn.desk) (ap (λ (x : FullDesk). map bare x.windows) its.redrawn.desk) was are
            (λ o. same_owner o (Content its.window (part.Control its.control))) its.stay (λ s n q was now other r. refl) (λ s n q was now other r. refl)
            p (owner (layered_desk e) p) right.plain.desk distinct (its_owner p there) refl content redrawn;
        right = λ p on taken. absurd (cc);
      }

  pub leaves_right : LeavesShown before after → IsRightState after.desk.windows
  leaves_right leaves = ⊎_elim
      (λ still. unchanged_stays_right before.desk.windows after.desk.windows right still.0)
      (λ other. ⊎_elim relaid_right redrawn_right other)
      leaves

-- a call about controls leaves a right state right
pub control_right : (call : ControlCall) (result : Result ControlReply Refusal) (before after : ControlDesk) → IsRightState before.desk.windows → ShowsControls before
    → AreWholeControls before.desk.windows.desk.windows before.controls → AreWholeControls after.desk.windows.desk.windows after.controls → IsDesk (layered_desk after.desk.windows.desk)
    → IsControlStep call result before after → IsRightState after.desk.windows
control_right call result before after right shows was are distinct step =
    leaves_right before after right shows was.joined are.joined distinct (step_leaves call result before after was.apart step)

-- the windows show the controls after any such call
pub control_shows : (call : ControlCall) (result : Result ControlReply Refusal) (before after : ControlDesk) → AreControlsApart before.controls.controls → ShowsControls before → IsControlStep call result before after → ShowsControls after
control_shows call result before after apart shows step = ⊎_elim
    (λ still. subst (λ (x : FullDesk × ControlsState × (List ℕ → Part → PixelSet)). x.0.shows ≡ controls_show x.2 x.1.controls x.0.font) (λ i. (sym still.0.desk i, sym still.1 i, sym still.2 i)) shows)
    (λ other. ⊎_elim (λ its. its.laid.shows) (λ its. its.shows) other)
    (step_leaves call result before after apart step)
