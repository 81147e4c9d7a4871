-- What any call about controls leaves of the rest of a desk.
use Rattle.std.proofs.Common.{◌≡◌, ◌⊎◌, inl, inr, ℕ, Bool, true, false, List, ◌∷◌, map, Option, None, Some, Result, Ok, Err, refl, ap, ◌∙◌}
use Rattle.std.specs.Prelude.{IfSome, is_none, slice_get, slice_set}
use Rattle.std.specs.Option.{option_map_or}
use Rattle.tb_geom.specs.declared.point.Point.{Point}
use Rattle.tb_geom.specs.declared.refusal.Refusal.{Refusal}
use Rattle.tb_geom.specs.declared.refusal.Refusal.TheVariants.{NoSuchControl, NoSuchWindow}
use Rattle.tb_geom.specs.Refusals.{first_refusal}
use Rattle.control_values.specs.declared.part.ControlPart.{ControlPart}
use Rattle.window_items.specs.Items.{serial_after}
use Rattle.desk_layers.specs.declared.part.Part.{Part}
use Rattle.def_iface.specs.ControlMeaning.{ControlDefinition, ControlLoan}
use Rattle.def_iface.specs.Slots.{IsTaken, holding}
use Rattle.desk_call.specs.declared.activity.Activity.{Activity}
use Rattle.desk_call.specs.declared.activity.Activity.TheVariants.{Idle, TrackingControl}
use Rattle.desk_call.specs.declared.activity.TrackedControl.{TrackedControl}
use Rattle.desk_call.specs.declared.control.ControlCall.{ControlCall}
use Rattle.desk_call.specs.declared.control.ControlCall.TheVariants.{New, Dispose, Show, Hide, Move, Size, SetValue, SetMinimum, SetMaximum, Hilite, SetTitle, Get, Find, Test, Track, Step, End}
use Rattle.desk_call.specs.declared.control.ControlOf.{ControlOf}
use Rattle.desk_call.specs.declared.control.ControlReply.{ControlReply}
use Rattle.desk_call.specs.declared.control.ControlReply.TheVariants as reply
use Rattle.desk_call.specs.declared.control.PointAtControl.{PointAtControl}
use Rattle.vis_update.specs.Records.{WindowRecord}
use Rattle.window_mgr.specs.DeskStates.{SameActivity}
use Rattle.window_mgr.specs.FullDesk.{FullDesk, FullState}
use Rattle.window_mgr.specs.Refused.{is_missing}
use Rattle.window_mgr.proofs.SlotLemmas.{map-set}
use Rattle.control_mgr.specs.ControlDesks.{ControlDesk, ControlRecord, ControlSlot, ControlsState, IsControlDeskUnchanged, index_of}
use Rattle.control_mgr.specs.ControlRefusals.{control_refusals, point_refusals}
use Rattle.control_mgr.specs.ControlSteps.{AreControlsLaid, IsChangedTo, IsControlEffect, IsControlLaid, IsControlShut, IsControlStep, IsHighlighted, IsControlReleased, IsShownAnew, IsStepped, IsTracked, is_thumb, tested}
use Rattle.control_mgr.proofs.Steps.{none_hold}
use Rattle.control_mgr.proofs.ControlBits.{bare, bare_laid, missing_alike}

-- ---- the desk

-- the desk is the same but for its windows' layers and what is shown of them
pub record IsSameButLayers (before after : FullDesk) : Type 0 where
  pub windows : map bare after.windows ≡ map bare before.windows
  pub rest : after ≡ record before { windows = after.windows; shows = after.shows }

unchanged_desk : (before after : FullDesk) → after ≡ before → IsSameButLayers before after
unchanged_desk before after same = record {
  windows = ap (λ (d : FullDesk). map bare d.windows) same;
  rest = λ i. record (same i) { windows = after.windows; shows = after.shows };
}

laid_desk : (window : ℕ) (afresh : Option Part) (before after : ControlDesk) → AreControlsLaid window afresh before after → IsSameButLayers before.desk.windows.desk after.desk.windows.desk
laid_desk window afresh before after laid = record {
  windows = ap (λ (d : FullDesk). map bare d.windows) laid.set.desk ∙ bare_laid window laid.layers before.desk.windows.desk.windows;
  rest = λ i. record (laid.set.desk i) { windows = after.desk.windows.desk.windows; shows = after.desk.windows.desk.shows };
}

anew_desk : (c : ControlOf) (f : ControlRecord → ControlRecord) (before after : ControlDesk) → IsShownAnew c f before after → IsSameButLayers before.desk.windows.desk after.desk.windows.desk
anew_desk c f before after anew = record {
  windows = ap (λ (d : FullDesk). map bare d.windows) anew.redrawn.desk;
  rest = λ i. record (anew.redrawn.desk i) { windows = after.desk.windows.desk.windows; shows = after.desk.windows.desk.shows };
}

-- ---- what is open, and what there is of controls

-- what is open is what was, or nothing, or a control of a window that is there is tracked
abbrev pub IsOpenAfter : List WindowRecord → Activity → Activity → Type 0
IsOpenAfter windows before after =
    (after ≡ before) ⊎ ((after ≡ Idle) ⊎ ((k : TrackedControl) × (after ≡ TrackingControl k) × (is_missing k.control.window windows ≡ false)))

-- the kinds that the stock has slots for
abbrev pub kinds_of : ControlsState → List (List ℕ)
kinds_of s = map (λ (slot : ControlSlot). slot.kind) s.stock

-- the next serial goes to a control that is made, which its call answers, and every other call leaves it
abbrev pub IsNextControl : ControlCall → Result ControlReply Refusal → ControlsState → ControlsState → Type 0
IsNextControl (New n) (Ok answer) before after =
    (serial : ℕ) × (answer ≡ reply.Made serial) × (before.next ≡ Some serial) × (after.next ≡ serial_after serial)
IsNextControl _ _ before after = after.next ≡ before.next

-- what a call about controls leaves of all else
pub record IsBesideControls (before after : ControlDesk) : Type 0 where
  pub width : after.desk.windows.desk.width ≡ before.desk.windows.desk.width
  pub height : after.desk.windows.desk.height ≡ before.desk.windows.desk.height
  pub bar : after.desk.windows.desk.bar ≡ before.desk.windows.desk.bar
  pub font : after.desk.windows.desk.font ≡ before.desk.windows.desk.font
  pub active : after.desk.windows.desk.active ≡ before.desk.windows.desk.active
  pub next : after.desk.windows.desk.next ≡ before.desk.windows.desk.next
  pub stock : after.desk.windows.desk.stock ≡ before.desk.windows.desk.stock
  -- the windows are the same but for their layers, in the same order
  pub windows : map bare after.desk.windows.desk.windows ≡ map bare before.desk.windows.desk.windows
  pub missing : (s : ℕ) → is_missing s after.desk.windows.desk.windows ≡ is_missing s before.desk.windows.desk.windows
  pub begun : after.desk.begun ≡ before.desk.begun
  pub activity : IsOpenAfter before.desk.windows.desk.windows before.desk.activity after.desk.activity
  pub kinds : kinds_of after.controls ≡ kinds_of before.controls
  -- what other layers show
  pub others : after.others ≡ before.others

-- the same, gathered of the parts
record Leaves (before after : ControlDesk) : Type 0 where
  desk : IsSameButLayers before.desk.windows.desk after.desk.windows.desk
  begun : after.desk.begun ≡ before.desk.begun
  activity : IsOpenAfter before.desk.windows.desk.windows before.desk.activity after.desk.activity
  kinds : kinds_of after.controls ≡ kinds_of before.controls
  others : after.others ≡ before.others

beside : (before after : ControlDesk) → Leaves before after → IsBesideControls before after
beside before after leaves = record {
  width = ap (λ (d : FullDesk). d.width) leaves.desk.rest;
  height = ap (λ (d : FullDesk). d.height) leaves.desk.rest;
  bar = ap (λ (d : FullDesk). d.bar) leaves.desk.rest;
  font = ap (λ (d : FullDesk). d.font) leaves.desk.rest;
  active = ap (λ (d : FullDesk). d.active) leaves.desk.rest;
  next = ap (λ (d : FullDesk). d.next) leaves.desk.rest;
  stock = ap (λ (d : FullDesk). d.stock) leaves.desk.rest;
  windows = leaves.desk.windows;
  missing = λ s. missing_alike s before.desk.windows.desk.windows after.desk.windows.desk.windows leaves.desk.windows;
  begun = leaves.begun;
  activity = leaves.activity;
  kinds = leaves.kinds;
  others = leaves.others;
}

-- ---- the kinds of the stock

shut_kinds : (loan : ControlLoan) (old new : List ControlSlot) → IsControlShut loan old new → map (λ (s : ControlSlot). s.kind) new ≡ map (λ (s : ControlSlot). s.kind) old
shut_kinds loan old new shut = by_slot (slice_get old loan.slot) refl shut.left shut.back
  where
    by_slot : (o : Option ControlSlot) → slice_get old loan.slot ≡ o → option_map_or (λ (s : ControlSlot). is_none s.held) o false ≡ true
        → IfSome o (λ s. new ≡ slice_set old loan.slot (holding (Some shut.definition) s)) → map (λ (s : ControlSlot). s.kind) new ≡ map (λ (s : ControlSlot). s.kind) old
    by_slot None there left back = absurd (cc)
    by_slot (Some s) there left back =
        ap (map (λ (s : ControlSlot). s.kind)) back
        ∙ map-set (λ (s : ControlSlot). s.kind) old loan.slot s (holding (Some shut.definition) s) there refl

taken_kinds : (kind : List ℕ) (loan : ControlLoan) (old new : List ControlSlot) → IsTaken (λ (d : ControlDefinition). d.stage) kind loan old new → map (λ (s : ControlSlot). s.kind) new ≡ map (λ (s : ControlSlot). s.kind) old
taken_kinds kind loan old new took =
    ap (map (λ (s : ControlSlot). s.kind)) took.left
    ∙ map-set (λ (s : ControlSlot). s.kind) old loan.slot (record { kind = kind; held = Some loan.definition }) (record { kind = kind; held = None }) took.held refl

-- ---- each call

module _ (before after : ControlDesk) where
  -- a step that leaves the stock and what is open, and the next serial
  abbrev LeavesBoth : Type 0
  LeavesBoth = Leaves before after × (after.controls.next ≡ before.controls.next)

  still_leaves : IsControlDeskUnchanged before after → LeavesBoth
  still_leaves same = (
    record {
      desk = unchanged_desk before.desk.windows.desk after.desk.windows.desk same.desk.windows.desk;
      begun = same.desk.begun;
      activity = inl same.desk.activity;
      kinds = ap kinds_of same.controls;
      others = same.others;
    },
    ap (λ (s : ControlsState). s.next) same.controls,
  )

  changed_kinds : (c : ControlOf) (f : ControlRecord → ControlRecord) → IsChangedTo c f before after → kinds_of after.controls ≡ kinds_of before.controls
  changed_kinds c f changed = ap kinds_of changed.state

  changed_next : (c : ControlOf) (f : ControlRecord → ControlRecord) → IsChangedTo c f before after → after.controls.next ≡ before.controls.next
  changed_next c f changed = ap (λ (s : ControlsState). s.next) changed.state

  laid_leaves : (c : ControlOf) (f : ControlRecord → ControlRecord) → IsControlLaid c f before after → LeavesBoth
  laid_leaves c f done = (
    record {
      desk = laid_desk c.window _ before after done.laid;
      begun = done.activity.begun;
      activity = inl done.activity.activity;
      kinds = changed_kinds c f done.changed;
      others = done.laid.elsewhere;
    },
    changed_next c f done.changed,
  )

  anew_leaves : (c : ControlOf) (f : ControlRecord → ControlRecord) → after.desk.begun ≡ before.desk.begun → IsOpenAfter before.desk.windows.desk.windows before.desk.activity after.desk.activity
      → IsShownAnew c f before after → LeavesBoth
  anew_leaves c f begun activity done = (
    record { desk = anew_desk c f before after done; begun = begun; activity = activity; kinds = changed_kinds c f done.changed; others = done.others },
    changed_next c f done.changed,
  )

  set_leaves : (c : ControlOf) (f : ControlRecord → ControlRecord) → SameActivity before.desk after.desk → IsShownAnew c f before after → LeavesBoth
  set_leaves c f same done = anew_leaves c f same.begun (inl same.activity) done

  highlighted_leaves : (thumb : Bool) (c : ControlOf) (h : ℕ) → after.desk.begun ≡ before.desk.begun → IsOpenAfter before.desk.windows.desk.windows before.desk.activity after.desk.activity
      → IsHighlighted thumb c h before after → LeavesBoth
  highlighted_leaves true c h begun activity same = (
    record {
      desk = unchanged_desk before.desk.windows.desk after.desk.windows.desk (ap (λ (s : FullState). s.desk) same.windows);
      begun = begun;
      activity = activity;
      kinds = ap kinds_of same.controls;
      others = same.others;
    },
    ap (λ (s : ControlsState). s.next) same.controls,
  )
  highlighted_leaves false c h begun activity done = anew_leaves c _ begun activity done

  tracked_leaves : (p : PointAtControl) (o : Option ControlPart) → is_missing p.control.window before.desk.windows.desk.windows ≡ false → IsTracked p o before after → LeavesBoth
  tracked_leaves p None there same = still_leaves same
  tracked_leaves p (Some its) there done = highlighted_leaves (is_thumb its) p.control _ done.0.begun (inr (inr (_, done.0.activity, there))) done.1

  stepped_leaves : (a : Activity) (p : Point) (answer : Option ControlPart) → IsStepped a p answer before after → LeavesBoth
  stepped_leaves (TrackingControl k) p answer done = highlighted_leaves (is_thumb k.part) k.control _ done.1.begun (inl done.1.activity) done.2
  stepped_leaves a p answer wrong = absurd wrong

  released_leaves : (a : Activity) (p : Point) (answer : Option ControlPart) → IsControlReleased a p answer before after → LeavesBoth
  released_leaves (TrackingControl k) p answer done = anew_leaves k.control _ done.1.begun (inr (inl done.1.activity)) done.2
  released_leaves a p answer wrong = absurd wrong

  abbrev Both : ControlCall → Result ControlReply Refusal → Type 0
  Both call result = IsBesideControls before after × IsNextControl call result before.controls after.controls

  both : LeavesBoth → IsBesideControls before after × (after.controls.next ≡ before.controls.next)
  both leaves = (beside before after leaves.0, leaves.1)

  effect_facts : (call : ControlCall) (answer : ControlReply) → first_refusal (control_refusals call before.desk.windows.desk before.controls) ≡ None → IsControlEffect call answer before after → Both call (Ok answer)
  effect_facts (New n) answer may (serial, is, made) = (
    beside before after (record {
      desk = laid_desk n.window _ before after made.laid;
      begun = made.activity.begun;
      activity = inl made.activity.activity;
      kinds = taken_kinds n.kind made.loan before.controls.stock after.controls.stock made.taken;
      others = made.laid.elsewhere;
    }),
    (serial, is, made.serials, made.next),
  )
  effect_facts (Dispose c) answer may (is, gone) = (
    beside before after (record {
      desk = laid_desk c.window _ before after gone.laid;
      begun = gone.activity.begun;
      activity = inl gone.activity.activity;
      kinds = shut_kinds gone.control.kept.definition before.controls.stock after.controls.stock gone.shut;
      others = gone.laid.elsewhere;
    }),
    ap (λ (s : ControlsState). s.next) gone.controls,
  )
  effect_facts (Show c) answer may (is, done) = both (laid_leaves c _ done)
  effect_facts (Hide c) answer may (is, done) = both (laid_leaves c _ done)
  effect_facts (Move m) answer may (is, done) = both (laid_leaves m.control _ done)
  effect_facts (Size z) answer may (is, done) = both (laid_leaves z.control _ done)
  effect_facts (SetValue n) answer may done = both (set_leaves n.control _ done.1 done.2)
  effect_facts (SetMinimum n) answer may done = both (set_leaves n.control _ done.1 done.2)
  effect_facts (SetMaximum n) answer may done = both (set_leaves n.control _ done.1 done.2)
  effect_facts (Hilite n) answer may (h, is, done) = both (set_leaves n.control _ done.1 done.2)
  effect_facts (SetTitle t) answer may done = both (set_leaves t.control _ done.1 done.2)
  effect_facts (Get c) answer may (is, same) = both (still_leaves same)
  effect_facts (Find p) answer may (is, same) = both (still_leaves same)
  effect_facts (Test p) answer may (is, same) = both (still_leaves same)
  effect_facts (Track p) answer may (is, done) =
      both (tracked_leaves p (tested p.control before.controls.controls p.point) (none_hold (is_missing p.control.window before.desk.windows.desk.windows) NoSuchWindow
      ((is_none (index_of p.control before.controls.controls), NoSuchControl) ∷ point_refusals p.point) may).0 done)
  effect_facts (Step p) answer may (its, is, done) = both (stepped_leaves before.desk.activity p its done)
  effect_facts (End p) answer may (its, is, done) = both (released_leaves before.desk.activity p its done)

  refused_next : (call : ControlCall) (e : Refusal) → after.controls.next ≡ before.controls.next → IsNextControl call (Err e) before.controls after.controls
  refused_next (New n) e same = same
  refused_next call e same = same

-- what a call about controls leaves of all else, and which serial comes next
pub control_facts : (call : ControlCall) (result : Result ControlReply Refusal) (before after : ControlDesk) → IsControlStep call result before after
    → IsBesideControls before after × IsNextControl call result before.controls after.controls
control_facts call (Ok answer) before after step = effect_facts before after call answer step.0 step.1
control_facts call (Err e) before after step =
    let its = both before after (still_leaves before after step.1) in
    (its.0, refused_next before after call e its.1)
