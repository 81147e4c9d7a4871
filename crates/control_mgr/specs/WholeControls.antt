-- What holds of the controls of a desk and of their stock between calls, and their state as plain data.
use Rattle.std.specs.Prelude.{◌≡◌, ◌≤◌, ℕ, true, false, List, [], map, All, is_none}
use Rattle.tb_geom.specs.Points.{PixelSet}
use Rattle.tb_geom.specs.Rects.{in_plane}
use Rattle.window_items.specs.Items.{AreApart, are_before, items_of, count_of}
use Rattle.control_mgr.specs.Seen.{all_seen}
use Rattle.desk_layers.specs.declared.part.Part.{Part}
use Rattle.def_iface.specs.Slots.{TakenBox}
use Rattle.def_iface.specs.declared.window_def.Stage.TheVariants.{Live}
use Rattle.def_iface.specs.ControlMeaning.{ControlDefinition, ControlLoan}
use Rattle.def_iface.specs.WindowMeaning.{WindowLoan}
use Rattle.def_iface.specs.WindowSlots.{WindowSlot}
use Rattle.desk_call.specs.declared.activity.Activity.{Activity}
use Rattle.desk_call.specs.declared.activity.Activity.TheVariants.{TrackingControl}
use Rattle.vis_update.specs.Records.{WindowRecord}
use Rattle.window_mgr.specs.declared.manager.WindowManager.{WindowManager}
use Rattle.window_mgr.specs.DeskStates.{Opened, desk_with}
use Rattle.window_mgr.specs.Records.{desk_of, state_of, state_showing}
use Rattle.window_mgr.specs.Refused.{is_missing}
use Rattle.window_mgr.specs.Whole.{IsWholeManager}
use Rattle.control_mgr.specs.declared.controls.Controls.{Controls}
use Rattle.control_mgr.specs.ControlDesks.{ControlDesk, ControlRecord, ControlSlot, ControlsState, controls_show, index_of}
use Rattle.control_mgr.specs.ControlRefusals.{most_controls}
use Rattle.control_mgr.specs.ControlSteps.{AreLayersOf}
use Rattle.control_mgr.specs.InUse.{AreStocked}
use Rattle.control_mgr.specs.Settled.{AreSettled}

-- each of another serial
abbrev pub AreControlsApart : List ControlRecord → Type 0
AreControlsApart cs = AreApart cs

abbrev pub AreLiveControls : List ControlRecord → Type 0
AreLiveControls cs = All (λ c. c.kept.definition.definition.stage ≡ Live) cs

-- the slots of the controls' definitions
abbrev pub slots_of : List ControlRecord → List ℕ
slots_of cs = map (λ c. c.kept.definition.slot) cs

-- the controls of these windows, between calls: settled, each of another serial that was given before, in a window that is
-- there, and no window has more than it may have; the layers of each window begin with its controls', and no other is a
-- control's; and the empty slots of the stock are those of their definitions
pub record AreWholeControls (windows : List WindowRecord) (s : ControlsState) : Type 0 where
  pub settled : AreSettled s.controls
  pub apart : AreControlsApart s.controls
  pub given : are_before s.next s.controls ≡ true
  pub somewhere : All (λ c. is_missing c.window windows ≡ false) s.controls
  pub few : (window : ℕ) → count_of window s.controls ≤ most_controls
  pub joined : All (λ w. AreLayersOf (items_of w.serial s.controls) w.layers) windows
  pub stocked : AreStocked (λ (d : ControlDefinition). d.stage) (slots_of s.controls) s.stock

-- the control that is tracked, if one is, is there, and the mouse button was pressed at a point
abbrev pub IsTrackable : Activity → List ControlRecord → Type 0
IsTrackable (TrackingControl k) cs = (in_plane k.from ≡ true) × (is_none (index_of k.control cs) ≡ false)
IsTrackable _ cs = Unit {0}

-- `control_loan` says what a control's definition that was taken means
module _ {W : Type 0} {K : W → Type 0} (control_loan : TakenBox W K → ControlLoan) where
  -- the controls as plain data
  abbrev pub records_of : Controls (TakenBox W K) → List ControlRecord
  records_of m = all_seen control_loan m.list.items.items

  abbrev pub controls_state : Controls (TakenBox W K) → List ControlSlot → ControlsState
  controls_state m slots = record { controls = records_of m; next = m.list.next; stock = slots }

  -- `loan` says what a window's definition that was taken means
  module _ {V : Type 0} {H : V → Type 0} (loan : TakenBox V H → WindowLoan) where
    -- windows and controls with what is open, as a desk where other layers show this
    abbrev pub control_desk : (List ℕ → Part → PixelSet) → WindowManager V H → Opened → List WindowSlot → Controls (TakenBox W K)
        → List ControlSlot → ControlDesk
    control_desk others t o slots m kept = record {
      desk = desk_with o (state_showing (controls_show others (records_of m)) (state_of loan t slots));
      controls = controls_state m kept;
      others = others;
    }

    -- whatever other layers show, over any slots over which the windows are whole, and over these of the controls' stock, both
    -- are whole afterwards, and together they are one step of the desk
    abbrev pub LeavesOver : List ControlSlot → List ControlSlot → (ControlDesk → ControlDesk → Type 0)
        → WindowManager V H → Opened → Controls (TakenBox W K) → WindowManager V H → Opened → Controls (TakenBox W K) → Type 0
    LeavesOver kept left step old before m new after n = (others : List ℕ → Part → PixelSet) (slots : List WindowSlot)
        → IsWholeManager loan old slots
        → AreWholeControls (desk_of loan old []).windows (controls_state m kept)
        → IsWholeManager loan new slots × AreWholeControls (desk_of loan new []).windows (controls_state n left)
        × step (control_desk others old before slots m kept) (control_desk others new after slots n left)

    -- so over any slots of the controls' stock, which a call leaves alone
    abbrev pub LeavesControls : (ControlDesk → ControlDesk → Type 0)
        → WindowManager V H → Opened → Controls (TakenBox W K) → WindowManager V H → Opened → Controls (TakenBox W K) → Type 0
    LeavesControls step old before m new after n = (kept : List ControlSlot) → LeavesOver kept kept step old before m new after n

    -- the controls are whole beside these windows over some slots
    pub record AreBeside (t : WindowManager V H) (m : Controls (TakenBox W K)) : Type 0 where
      pub slots : List ControlSlot
      pub whole : AreWholeControls (desk_of loan t []).windows (controls_state m slots)
