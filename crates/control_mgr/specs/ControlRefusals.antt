-- Why a call about controls refuses: the first refusal of the written order whose condition holds.
use Rattle.std.specs.Prelude.{ℕ, ℤ, Bool, true, false, not, ◌&&◌, ◌||◌, nat_le, nat_lt, int_le, List, [], ◌∷◌, ◌++◌, length, Option, None, Some, is_none}
use Rattle.tb_geom.specs.declared.point.Point.{Point}
use Rattle.tb_geom.specs.declared.refusal.Refusal.{Refusal}
use Rattle.tb_geom.specs.declared.refusal.Refusal.TheVariants.{NoDefinition, NoSuchControl, NoSuchName, NoSuchWindow, OutOfRange, TooLong, TooMany}
use Rattle.tb_geom.specs.Rects.{in_plane}
use Rattle.control_values.specs.Highlights.{is_highlight}
use Rattle.control_values.specs.Settings.{is_in_range}
use Rattle.window_items.specs.Items.{count_of}
use Rattle.def_iface.specs.ControlMeaning.{ControlDefinition}
use Rattle.def_iface.specs.Slots.{has_kind, offered}
use Rattle.desk_call.specs.declared.control.ControlCall.{ControlCall}
use Rattle.desk_call.specs.declared.control.ControlCall.TheVariants.{New, Dispose, Show, Hide, Move, Size, SetValue, SetMinimum, SetMaximum, Hilite, SetTitle, Get, Find, Test, Track, Step, End}
use Rattle.desk_call.specs.declared.control.ControlOf.{ControlOf}
use Rattle.desk_call.specs.declared.control.NewControl.{NewControl}
use Rattle.window_mgr.specs.Finding.{record_with}
use Rattle.window_mgr.specs.FullDesk.{FullDesk}
use Rattle.window_mgr.specs.Refused.{is_missing, longest_text}
use Rattle.control_mgr.specs.ControlDesks.{ControlRecord, ControlSlot, ControlsState, control_of, index_of}
use Rattle.control_mgr.specs.Judged.{may_be_in, may_go_to, may_get_size}

-- as many controls as a window may have
abbrev pub most_controls : ℕ
most_controls = 64

-- the definition that the stock would give for the kind
abbrev pub offered_control : List ℕ → List ControlSlot → Option ControlDefinition
offered_control kind slots = offered (λ d. d.stage) kind slots

-- ---- what is missing

-- a control is named that its window has not, or whose window there is not
abbrev pub missing_refusals : ControlOf → FullDesk → List ControlRecord → List (Bool × Refusal)
missing_refusals c desk cs =
    (is_missing c.window desk.windows, NoSuchWindow) ∷ (is_none (index_of c cs), NoSuchControl) ∷ []

-- a point is none of the range of coordinates
abbrev pub point_refusals : Point → List (Bool × Refusal)
point_refusals p = (not (in_plane p), OutOfRange) ∷ []

-- a title is too long
abbrev pub title_refusals : List ℕ → List (Bool × Refusal)
title_refusals title = (nat_lt longest_text (length title), TooLong) ∷ []

-- ---- a new control

-- the stock has no such kind, which is judged whatever is open
abbrev pub control_form_refusals : ControlCall → List ControlSlot → List (Bool × Refusal)
control_form_refusals (New n) slots = (not (has_kind n.kind slots), NoSuchName) ∷ []
control_form_refusals _ slots = []

-- a control may have this setting
abbrev pub is_setting : ℤ → ℤ → ℤ → Bool
is_setting minimum maximum value = is_in_range minimum && (is_in_range maximum && (is_in_range value && int_le minimum maximum))

-- no control can be added to a window with so many: there are as many as there may be, or no serial is left for it
abbrev pub is_full : ℕ → Option ℕ → Bool
is_full count next = nat_le most_controls count || is_none next

-- why a control may not be made, whatever the stock holds
abbrev pub judged_refusals : NewControl → Option ControlDefinition → FullDesk → List ControlRecord → Option ℕ → List (Bool × Refusal)
judged_refusals n d desk cs next =
    (is_missing n.window desk.windows, NoSuchWindow)
    ∷ (not (may_be_in d n.place n.size (record_with n.window desk.windows)), OutOfRange)
    ∷ (not (is_setting n.minimum n.maximum n.value), OutOfRange)
    ∷ (nat_lt longest_text (length n.title), TooLong)
    ∷ (is_full (count_of n.window cs) next, TooMany) ∷ []

abbrev pub new_refusals : NewControl → FullDesk → ControlsState → List (Bool × Refusal)
new_refusals n desk s =
    (not (has_kind n.kind s.stock), NoSuchName)
    ∷ (judged_refusals n (offered_control n.kind s.stock) desk s.controls s.next
    ++ (is_none (offered_control n.kind s.stock), NoDefinition) ∷ [])

-- ---- numbers

-- the minimum may be so, or the maximum, where the control is there
abbrev pub may_be_minimum : ℤ → Option ControlRecord → Bool
may_be_minimum n None = true
may_be_minimum n (Some c) = is_in_range n && int_le n c.kept.values.maximum

abbrev pub may_be_maximum : ℤ → Option ControlRecord → Bool
may_be_maximum n None = true
may_be_maximum n (Some c) = is_in_range n && int_le c.kept.values.minimum n

-- ---- calls

-- why the call may be refused
abbrev pub control_refusals : ControlCall → FullDesk → ControlsState → List (Bool × Refusal)
control_refusals (New n) desk s = new_refusals n desk s
control_refusals (Dispose c) desk s = missing_refusals c desk s.controls
control_refusals (Show c) desk s = missing_refusals c desk s.controls
control_refusals (Hide c) desk s = missing_refusals c desk s.controls
control_refusals (Move m) desk s = missing_refusals m.control desk s.controls
    ++ (not (may_go_to m.place (control_of m.control s.controls) (record_with m.control.window desk.windows)), OutOfRange) ∷ []
control_refusals (Size z) desk s = missing_refusals z.control desk s.controls
    ++ (not (may_get_size z.size (control_of z.control s.controls) (record_with z.control.window desk.windows)), OutOfRange) ∷ []
control_refusals (SetValue n) desk s = missing_refusals n.control desk s.controls ++ (not (is_in_range n.number), OutOfRange) ∷ []
control_refusals (SetMinimum n) desk s = missing_refusals n.control desk s.controls
    ++ (not (may_be_minimum n.number (control_of n.control s.controls)), OutOfRange) ∷ []
control_refusals (SetMaximum n) desk s = missing_refusals n.control desk s.controls
    ++ (not (may_be_maximum n.number (control_of n.control s.controls)), OutOfRange) ∷ []
control_refusals (Hilite n) desk s = missing_refusals n.control desk s.controls ++ (not (is_highlight n.number), OutOfRange) ∷ []
control_refusals (SetTitle t) desk s = missing_refusals t.control desk s.controls ++ title_refusals t.title
control_refusals (Get c) desk s = missing_refusals c desk s.controls
control_refusals (Find p) desk s = (is_missing p.window desk.windows, NoSuchWindow) ∷ point_refusals p.point
control_refusals (Test p) desk s = missing_refusals p.control desk s.controls ++ point_refusals p.point
control_refusals (Track p) desk s = missing_refusals p.control desk s.controls ++ point_refusals p.point
control_refusals (Step p) desk s = point_refusals p
control_refusals (End p) desk s = point_refusals p

-- whether a call may ask for memory
abbrev pub may_control_grow : ControlCall → Bool
may_control_grow (New n) = true
may_control_grow (Dispose c) = true
may_control_grow (Show c) = true
may_control_grow (Hide c) = true
may_control_grow (Move m) = true
may_control_grow (Size z) = true
may_control_grow _ = false
