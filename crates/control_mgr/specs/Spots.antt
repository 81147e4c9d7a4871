-- Where a control stands, as the code keeps it, and how it is changed there.
use Rattle.std.specs.Prelude.{◌≡◌, ◌<◌, true, false, [], length, Some}
use Rattle.tb_geom.specs.Points.{PixelSet}
use Rattle.def_iface.specs.Slots.{TakenBox}
use Rattle.def_iface.specs.ControlMeaning.{ControlLoan, is_fitting_control}
use Rattle.def_iface.specs.WindowMeaning.{WindowLoan}
use Rattle.def_iface.specs.declared.window_def.Stage.TheVariants.{Live}
use Rattle.window_items.specs.Items.{with_kept}
use Rattle.desk_call.specs.declared.activity.Activity.{Activity}
use Rattle.desk_call.specs.declared.control.ControlOf.{ControlOf}
use Rattle.window_mgr.specs.declared.manager.WindowManager.{WindowManager}
use Rattle.window_mgr.specs.DeskStates.{Opened}
use Rattle.window_mgr.specs.Edits.{StandsAt}
use Rattle.window_mgr.specs.Records.{desk_of}
use Rattle.window_mgr.specs.Refused.{is_missing}
use Rattle.control_mgr.specs.declared.controls.Controls.{Controls}
use Rattle.control_mgr.specs.declared.laying.Lie.{Lie}
use Rattle.control_mgr.specs.declared.setting.State.{State}
use Rattle.control_mgr.specs.declared.spots.ControlAt.{ControlAt}
use Rattle.control_mgr.specs.ControlDesks.{ControlRecord, index_of}
use Rattle.control_mgr.specs.WholeControls.{records_of}

-- this is open, and this was to be redrawn when it began
abbrev pub opened : Activity → PixelSet → Opened
opened activity begun = record { activity = activity; begun = begun }

-- the control with this setting, highlighting and title
abbrev pub with_state : State → ControlRecord → ControlRecord
with_state s c = with_kept (λ k. record k { values = s.values; highlight = s.highlight; title = s.title }) c

-- the control, lying so
abbrev pub with_lie : Lie → ControlRecord → ControlRecord
with_lie l c = with_kept (λ k. record k { place = l.place; size = l.size; shown = l.shown }) c

-- the definition of the control is live, and may be told the control's size
pub record IsTellable (c : ControlRecord) : Type 0 where
  pub live : c.kept.definition.definition.stage ≡ Live
  pub fits : is_fitting_control c.kept.definition.definition c.kept.size ≡ true

module _ {V : Type 0} {H : V → Type 0} (loan : TakenBox V H → WindowLoan) {W : Type 0} {K : W → Type 0} (control_loan : TakenBox W K → ControlLoan) where
  -- the control stands here, and its window
  pub record IsSpotOf (c : ControlOf) (t : WindowManager V H) (m : Controls (TakenBox W K)) (s : ControlAt) : Type 0 where
    pub window : StandsAt t.windows.records.items c.window s.window
    pub there : is_missing c.window (desk_of loan t []).windows ≡ false
    pub control : index_of c (records_of control_loan m) ≡ Some s.control
    pub low : s.control < length m.list.items.items

  -- some control stands here, and its window
  pub record IsSpot (t : WindowManager V H) (m : Controls (TakenBox W K)) (s : ControlAt) : Type 0 where
    pub of : ControlOf
    pub is : IsSpotOf of t m s
