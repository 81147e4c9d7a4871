-- One step of a call about controls: what it leaves, and what it answers.
use Rattle.std.specs.Prelude.{◌≡◌, ◌==◌, ℕ, ℤ, pos, Bool, true, false, not, ◌&&◌, if◌then◌else◌, List, [], ◌∷◌, ◌++◌, All, Option, None, Some, Result, slice_get, is_some}
use Rattle.std.specs.List.{filter, remove}
use Rattle.std.specs.Option.{option_map, option_map_or, option_and_then}
use Rattle.tb_geom.specs.declared.point.Point.{Point}
use Rattle.tb_geom.specs.declared.refusal.Refusal.{Refusal}
use Rattle.tb_geom.specs.Points.{minus, plus}
use Rattle.tb_geom.specs.Pixels.{holds}
use Rattle.tb_geom.specs.Rects.{moved_rect}
use Rattle.tb_geom.specs.Refusals.{first_refusal}
use Rattle.control_values.specs.declared.part.ControlPart.{ControlPart}
use Rattle.control_values.specs.declared.part.ControlPart.TheVariants.{Thumb}
use Rattle.control_values.specs.Parts.{number_of}
use Rattle.control_values.specs.Settings.{Setting, settled}
use Rattle.window_items.specs.Items.{items_of, edit_at, serial_after, with_kept}
use Rattle.control_mgr.specs.Fields.{with_highlight, with_place, with_shown, with_size, with_title, with_values}
use Rattle.desk_layers.specs.declared.part.Part.{Part}
use Rattle.desk_layers.specs.declared.part.Part.TheVariants as part
use Rattle.def_iface.specs.ControlMeaning.{ControlDefinition, ControlLoan, IsControlBegun, SameControlLook}
use Rattle.def_iface.specs.ControlNews.{no_control_news, new_control_news}
use Rattle.desk_layers.specs.Desk.{on_screen}
use Rattle.desk_layers.specs.Owner.{Owner, owner}
use Rattle.desk_layers.specs.Owner.Owner.{Content}
use Rattle.def_iface.specs.Closing as closing
use Rattle.def_iface.specs.Slots.{IsTaken}
use Rattle.window_list.specs.declared.layer.Layer.{Layer}
use Rattle.desk_call.specs.declared.activity.Activity.{Activity}
use Rattle.desk_call.specs.declared.activity.Activity.TheVariants.{Idle, TrackingControl}
use Rattle.desk_call.specs.declared.activity.TrackedControl.{TrackedControl}
use Rattle.desk_call.specs.declared.control.ControlCall.{ControlCall}
use Rattle.desk_call.specs.declared.control.ControlCall.TheVariants.{New, Dispose, Show, Hide, Move, Size, SetValue, SetMinimum, SetMaximum, Hilite, SetTitle, Get, Find, Test, Track, Step, End}
use Rattle.desk_call.specs.declared.control.ControlOf.{ControlOf}
use Rattle.desk_call.specs.declared.control.ControlReply.{ControlReply}
use Rattle.desk_call.specs.declared.control.ControlReply.TheVariants as reply
use Rattle.desk_call.specs.declared.control.FoundControl.{FoundControl}
use Rattle.desk_call.specs.declared.control.NewControl.{NewControl}
use Rattle.desk_call.specs.declared.control.PointAtControl.{PointAtControl}
use Rattle.desk_call.specs.declared.update.LayerKind.TheVariants.{Controls}
use Rattle.desk_call.specs.Steps.{IsStepOf}
use Rattle.vis_update.specs.Records.{WindowRecord}
use Rattle.window_paint.specs.Kinds.{is_of}
use Rattle.window_mgr.specs.DeskStates.{SameActivity}
use Rattle.window_mgr.specs.Finding.{record_with}
use Rattle.window_mgr.specs.FullDesk.{FullDesk, layered_desk}
use Rattle.window_mgr.specs.Relayered.{AreLayersSet, IsLayerRedrawn}
use Rattle.control_mgr.specs.ControlDesks.{ControlDesk, ControlRecord, ControlSlot, IsControlDeskUnchanged, ShowsControls, control_of, index_of, news_of_control}
use Rattle.control_mgr.specs.ControlRefusals.{control_refusals, may_control_grow}
use Rattle.control_mgr.specs.Judged.{is_inactive, is_within, part_tested, part_under}

-- ---- controls as layers of their windows

-- the layer is this control's: it is shown where the control is, and has the control's region at its place
pub record IsLayerOf (c : ControlRecord) (l : Layer) : Type 0 where
  pub part : l.part ≡ part.Control c.serial
  pub shown : l.shown ≡ c.kept.shown
  pub region : (p : Point) → holds l.region p ≡ c.kept.definition.definition.region c.kept.size (minus p c.kept.place)
  pub bounds : l.bounds ≡ moved_rect (c.kept.definition.definition.bounds c.kept.size) c.kept.place.h c.kept.place.v

-- the layers begin with these controls', from front to back the oldest first, and no other is a control's
abbrev pub AreLayersOf : List ControlRecord → List Layer → Type 0
AreLayersOf [] ls = All (λ l. is_of Controls l.part ≡ false) ls
AreLayersOf (c ∷ cs) [] = ⊥
AreLayersOf (c ∷ cs) (l ∷ ls) = IsLayerOf c l × AreLayersOf cs ls

-- the layers behind them
abbrev pub behind_controls : List Layer → List Layer
behind_controls ls = filter (λ l. not (is_of Controls l.part)) ls

-- ---- what is common to several calls

-- what the definition of the control at this place is told of it, being changed so, and the controls then
pub record IsChangedAt (f : ControlRecord → ControlRecord) (at : ℕ) (before after : List ControlRecord) : Type 0 where
  pub control : ControlRecord
  pub there : slice_get before at ≡ Some control
  pub definition : ControlDefinition
  pub told : IsControlBegun (news_of_control (f control)) control.kept.definition.definition definition
  pub controls : after ≡ edit_at (λ c. with_kept (λ k. record k { definition = record { definition = definition; slot = c.kept.definition.slot } }) (f c)) at before

-- a control was changed so, and its definition told of it
pub record IsChangedTo (c : ControlOf) (f : ControlRecord → ControlRecord) (before after : ControlDesk) : Type 0 where
  pub at : ℕ
  pub found : index_of c before.controls.controls ≡ Some at
  pub controls : List ControlRecord
  pub changed : IsChangedAt f at before.controls.controls controls
  pub state : after.controls ≡ record before.controls { controls = controls }

-- the window's layers begin with its controls', as these are now, and one of them was drawn afresh, if one is named
pub record AreControlsLaid (window : ℕ) (afresh : Option Part) (before after : ControlDesk) : Type 0 where
  pub layers : List Layer
  pub joined : AreLayersOf (items_of window after.controls.controls) layers
  -- and those behind them are as they were
  pub others : (w : WindowRecord) → record_with window before.desk.windows.desk.windows ≡ Some w
      → behind_controls layers ≡ behind_controls w.layers
  pub set : AreLayersSet window layers afresh before.desk.windows after.desk.windows
  -- what layers show that are no controls' is as it was
  pub elsewhere : after.others ≡ before.others
  pub shows : ShowsControls after

-- the control was changed so, and all that it then owns was drawn
pub record IsControlLaid (c : ControlOf) (f : ControlRecord → ControlRecord) (before after : ControlDesk) : Type 0 where
  pub changed : IsChangedTo c f before after
  pub laid : AreControlsLaid c.window (Some (part.Control c.control)) before after
  pub activity : SameActivity before.desk after.desk

-- the control was changed so, and shown anew on its pixels that are not to be redrawn
pub record IsShownAnew (c : ControlOf) (f : ControlRecord → ControlRecord) (before after : ControlDesk) : Type 0 where
  pub changed : IsChangedTo c f before after
  pub redrawn : IsLayerRedrawn c.window (part.Control c.control) before.desk.windows after.desk.windows
  pub others : after.others ≡ before.others
  pub shows : ShowsControls after

-- nothing but what is open changed
pub record SameShown (before after : ControlDesk) : Type 0 where
  pub windows : after.desk.windows ≡ before.desk.windows
  pub controls : after.controls ≡ before.controls
  pub others : after.others ≡ before.others

-- the control that stands here, if one does, got this setting and was shown anew
abbrev pub IsSettingPutAt : Option ℕ → ControlOf → Setting → ControlDesk → ControlDesk → Type 0
IsSettingPutAt None c setting before after = SameShown before after
IsSettingPutAt (Some at) c setting before after = IsShownAnew c (with_values setting) before after

-- so did the control, if it is there
abbrev pub IsSettingPut : ControlOf → Setting → ControlDesk → ControlDesk → Type 0
IsSettingPut c setting before after = IsSettingPutAt (index_of c before.controls.controls) c setting before after

-- what is open is this now, and what was to be redrawn when it began is as it was
pub record Opens (now : Activity) (before after : ControlDesk) : Type 0 where
  pub activity : after.desk.activity ≡ now
  pub begun : after.desk.begun ≡ before.desk.begun

-- ---- controls that are made and ended

-- the record that a new control gets: it is not highlighted
abbrev pub new_control : NewControl → ℕ → ℕ → ControlDefinition → ControlRecord
new_control n serial slot d = record {
  serial = serial;
  window = n.window;
  kept = record {
    place = n.place;
    size = n.size;
    shown = n.shown;
    values = settled n.minimum n.maximum n.value;
    highlight = 0;
    title = n.title;
    definition = record { definition = d; slot = slot };
  };
}

-- a control of this serial was made, with a definition that was taken out of the stock and begun, and drawn
pub record IsControlMade (n : NewControl) (serial : ℕ) (before after : ControlDesk) : Type 0 where
  pub loan : ControlLoan
  pub begun : ControlDefinition
  pub serials : before.controls.next ≡ Some serial
  pub taken : IsTaken (λ d. d.stage) n.kind loan before.controls.stock after.controls.stock
  pub live : IsControlBegun (new_control_news n.size n.title (settled n.minimum n.maximum n.value)) loan.definition begun
  pub controls : after.controls.controls ≡ before.controls.controls ++ new_control n serial loan.slot begun ∷ []
  pub next : after.controls.next ≡ serial_after serial
  pub laid : AreControlsLaid n.window (Some (part.Control serial)) before after
  pub activity : SameActivity before.desk after.desk

-- the definition was closed and put into its slot, which was empty, and every other slot is as it was
abbrev pub IsControlShut : ControlLoan → List ControlSlot → List ControlSlot → Type 0
IsControlShut = closing.IsShut (λ (d : ControlDefinition). d.stage) SameControlLook

-- the control is there no more, its definition went back Closed into its slot, and what it owned belongs to what lies under it
pub record IsControlDisposed (c : ControlOf) (before after : ControlDesk) : Type 0 where
  pub at : ℕ
  pub found : index_of c before.controls.controls ≡ Some at
  pub control : ControlRecord
  pub there : slice_get before.controls.controls at ≡ Some control
  pub shut : IsControlShut control.kept.definition before.controls.stock after.controls.stock
  pub controls : after.controls ≡ record before.controls { controls = remove before.controls.controls at; stock = after.controls.stock }
  pub laid : AreControlsLaid c.window None before after
  pub activity : SameActivity before.desk after.desk

-- the control that stands here, if one does, was disposed of
abbrev pub IsEndedAt : Option ℕ → ControlOf → ControlDesk → ControlDesk → Type 0
IsEndedAt None c before after = after ≡ before
IsEndedAt (Some at) c before after = IsControlDisposed c before after

-- so was the control, if it is there
abbrev pub IsEndedIfThere : ControlOf → ControlDesk → ControlDesk → Type 0
IsEndedIfThere c before after = IsEndedAt (index_of c before.controls.controls) c before after

-- ---- what is asked

-- what is told of a control
abbrev pub info_of : Option ControlRecord → ControlReply
info_of None = reply.Done
info_of (Some c) = reply.Info (record { values = c.kept.values; highlight = c.kept.highlight; shown = c.kept.shown })

-- the control and the part of it that the point of its window lies in; an inactive one is not found
abbrev pub found_in : ControlRecord → Point → Option FoundControl
found_in c p = if is_inactive c then None
    else option_map (λ part. record { part = part; control = c.serial }) (part_under c p)

-- what is found at a point of a window where this is the owner of the pixel there
abbrev pub control_found_by : ℕ → List ControlRecord → Owner → Point → Option FoundControl
control_found_by s cs (Content t (part.Control n)) p =
    if t == s then option_and_then (λ c. found_in c p) (control_of (record { window = s; control = n }) cs) else None
control_found_by s cs _ p = None

-- what is found at a point of a window that lies at this place: the control that owns the pixel of the screen there
abbrev pub found_from : FullDesk → List ControlRecord → ℕ → Point → Point → Option FoundControl
found_from desk cs s place p = let q = plus place p in
    if on_screen (layered_desk desk) q then control_found_by s cs (owner (layered_desk desk) q) p else None

-- so in this window, if it is there
abbrev pub found_control : FullDesk → List ControlRecord → ℕ → Point → Option FoundControl
found_control desk cs s p = option_map_or (λ w. found_from desk cs s w.place p) (record_with s desk.windows) None

-- the part of a control, if it is there, that a point of its window lies in
abbrev pub tested : ControlOf → List ControlRecord → Point → Option ControlPart
tested c cs p = option_and_then (λ d. part_tested d p) (control_of c cs)

-- ---- tracking

abbrev pub is_thumb : ControlPart → Bool
is_thumb Thumb = true
is_thumb _ = false

abbrev pub is_part : ControlPart → Option ControlPart → Bool
is_part k None = false
is_part k (Some l) = number_of l == number_of k

-- so far outside of a control's rectangle its thumb may be dragged
abbrev pub slop : ℕ
slop = 16

-- the tracked part, where the point lies in it: for a thumb, where it lies no further outside of the control
abbrev pub is_in_part : TrackedControl → ControlRecord → Point → Bool
is_in_part k c p = if is_thumb k.part then is_within slop c p else is_part k.part (part_tested c p)

abbrev pub tracked_part : TrackedControl → Option ControlRecord → Point → Option ControlPart
tracked_part k None p = None
tracked_part k (Some c) p = if is_in_part k c p then Some k.part else None

-- how a control is highlighted of which this part is, or none
abbrev pub highlight_of : Option ControlPart → ℕ
highlight_of part = option_map_or number_of part 0

-- the setting of a control whose thumb was released here
abbrev pub dragged : TrackedControl → Point → ControlRecord → Setting
dragged k p c = settled c.kept.values.minimum c.kept.values.maximum
    (c.kept.definition.definition.thumb_value no_control_news (minus k.from c.kept.place) (minus p c.kept.place))

-- the setting of a control once the mouse button was released: where its thumb was dragged, by that
abbrev pub released_setting : TrackedControl → Point → Option ControlPart → ControlRecord → Setting
released_setting k p answer c = if is_thumb k.part && is_some answer then dragged k p c else c.kept.values

-- how a control is highlighted once the tracking of this part ended, where it was highlighted so: not any more, but that a thumb
-- that is tracked is never highlighted, so that its end leaves this alone too
abbrev pub highlight_after : ControlPart → ℕ → ℕ
highlight_after part highlight = if is_thumb part then highlight else 0

-- the control then
abbrev pub released : TrackedControl → Point → Option ControlPart → ControlRecord → ControlRecord
released k p answer c = with_kept (λ x. record x { highlight = highlight_after k.part c.kept.highlight; values = released_setting k p answer c }) c

-- the control is highlighted so, where its part that is tracked is no thumb
abbrev pub IsHighlighted : Bool → ControlOf → ℕ → ControlDesk → ControlDesk → Type 0
IsHighlighted true c h before after = SameShown before after
IsHighlighted false c h before after = IsShownAnew c (with_highlight h) before after

-- the mouse button was pressed on this part of a control, or on none
abbrev pub IsTracked : PointAtControl → Option ControlPart → ControlDesk → ControlDesk → Type 0
IsTracked p None before after = IsControlDeskUnchanged before after
IsTracked p (Some part) before after =
    Opens (TrackingControl (record { control = p.control; part = part; from = p.point })) before after
    × IsHighlighted (is_thumb part) p.control (number_of part) before after

-- the mouse is at a point while a part is tracked
abbrev pub IsStepped : Activity → Point → Option ControlPart → ControlDesk → ControlDesk → Type 0
IsStepped (TrackingControl k) p answer before after =
    (answer ≡ tracked_part k (control_of k.control before.controls.controls) p)
    × SameActivity before.desk after.desk × IsHighlighted (is_thumb k.part) k.control (highlight_of answer) before after
IsStepped _ p answer before after = ⊥

-- the mouse button was released at a point
abbrev pub IsControlReleased : Activity → Point → Option ControlPart → ControlDesk → ControlDesk → Type 0
IsControlReleased (TrackingControl k) p answer before after =
    (answer ≡ tracked_part k (control_of k.control before.controls.controls) p)
    × Opens Idle before after × IsShownAnew k.control (released k p answer) before after
IsControlReleased _ p answer before after = ⊥

-- ---- the step

-- the control with another value, minimum or maximum, by which its value is moved between them
abbrev pub with_value : ℤ → ControlRecord → ControlRecord
with_value n c = with_values (settled c.kept.values.minimum c.kept.values.maximum n) c

abbrev pub with_minimum : ℤ → ControlRecord → ControlRecord
with_minimum n c = with_values (settled n c.kept.values.maximum c.kept.values.value) c

abbrev pub with_maximum : ℤ → ControlRecord → ControlRecord
with_maximum n c = with_values (settled c.kept.values.minimum n c.kept.values.value) c

-- what a change by the number of a call answers and leaves
abbrev pub IsSet : ControlOf → (ControlRecord → ControlRecord) → ControlReply → ControlDesk → ControlDesk → Type 0
IsSet c f answer before after = (answer ≡ reply.Done) × SameActivity before.desk after.desk × IsShownAnew c f before after

-- what a call that tells something answers and leaves
abbrev pub Tells : ControlReply → ControlReply → ControlDesk → ControlDesk → Type 0
Tells told answer before after = (answer ≡ told) × IsControlDeskUnchanged before after

-- what a call that nothing refuses answers and leaves
abbrev pub IsControlEffect : ControlCall → ControlReply → ControlDesk → ControlDesk → Type 0
IsControlEffect (New n) answer before after = (serial : ℕ) × (answer ≡ reply.Made serial) × IsControlMade n serial before after
IsControlEffect (Dispose c) answer before after = (answer ≡ reply.Done) × IsControlDisposed c before after
IsControlEffect (Show c) answer before after = (answer ≡ reply.Done) × IsControlLaid c (with_shown true) before after
IsControlEffect (Hide c) answer before after = (answer ≡ reply.Done) × IsControlLaid c (with_shown false) before after
IsControlEffect (Move m) answer before after = (answer ≡ reply.Done) × IsControlLaid m.control (with_place m.place) before after
IsControlEffect (Size z) answer before after = (answer ≡ reply.Done) × IsControlLaid z.control (with_size z.size) before after
IsControlEffect (SetValue n) answer before after = IsSet n.control (with_value n.number) answer before after
IsControlEffect (SetMinimum n) answer before after = IsSet n.control (with_minimum n.number) answer before after
IsControlEffect (SetMaximum n) answer before after = IsSet n.control (with_maximum n.number) answer before after
IsControlEffect (Hilite n) answer before after = (h : ℕ) × (n.number ≡ pos h) × IsSet n.control (with_highlight h) answer before after
IsControlEffect (SetTitle t) answer before after = IsSet t.control (with_title t.title) answer before after
IsControlEffect (Get c) answer before after = Tells (info_of (control_of c before.controls.controls)) answer before after
IsControlEffect (Find p) answer before after =
    Tells (reply.Found (found_control before.desk.windows.desk before.controls.controls p.window p.point)) answer before after
IsControlEffect (Test p) answer before after =
    Tells (reply.Part (tested p.control before.controls.controls p.point)) answer before after
IsControlEffect (Track p) answer before after =
    (answer ≡ reply.Part (tested p.control before.controls.controls p.point))
    × IsTracked p (tested p.control before.controls.controls p.point) before after
IsControlEffect (Step p) answer before after =
    (part : Option ControlPart) × (answer ≡ reply.Part part) × IsStepped before.desk.activity p part before after
IsControlEffect (End p) answer before after =
    (part : Option ControlPart) × (answer ≡ reply.Part part) × IsControlReleased before.desk.activity p part before after

-- one step of a call about controls
abbrev pub IsControlStep : ControlCall → Result ControlReply Refusal → ControlDesk → ControlDesk → Type 0
IsControlStep call = IsStepOf
    (λ before why. first_refusal (control_refusals call before.desk.windows.desk before.controls) ≡ why) (may_control_grow call)
    (IsControlEffect call) IsControlDeskUnchanged
