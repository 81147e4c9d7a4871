-- How a control comes to lie in its window, as the code does it.
use Rattle.std.specs.Prelude.{◌≡◌, Bool, true, false, Option, Some, Result, Ok, Err, slice_get}
use Rattle.std.specs.Borrow.{Bor}
use Rattle.std.specs.Option.{option_map}
use Rattle.tb_geom.specs.declared.point.Point.{Point}
use Rattle.tb_geom.specs.declared.refusal.Refusal.{Refusal}
use Rattle.tb_geom.specs.declared.refusal.Refusal.TheVariants.{NoMemory}
use Rattle.tb_geom.specs.Points.{minus}
use Rattle.tb_geom.specs.Pixels.{holds}
use Rattle.tb_geom.specs.Rects.{in_plane, is_in_range, moved_rect, rect_holds}
use Rattle.def_iface.specs.Slots.{TakenBox}
use Rattle.def_iface.specs.ControlMeaning.{ControlDefinition, ControlLoan, is_fitting_control}
use Rattle.def_iface.specs.WindowMeaning.{IsWithin}
use Rattle.window_list.specs.declared.layer.LayerShape.{LayerShape}
use Rattle.desk_call.specs.declared.control.ControlCall.{ControlCall}
use Rattle.desk_call.specs.declared.control.ControlCall.TheVariants.{Show, Hide}
use Rattle.desk_call.specs.declared.control.ControlOf.{ControlOf}
use Rattle.desk_call.specs.declared.control.ControlReply.{ControlReply}
use Rattle.desk_call.specs.declared.control.ControlReply.TheVariants.{Done}
use Rattle.window_list.specs.declared.window.Window.{Window}
use Rattle.window_mgr.specs.declared.manager.WindowManager.{WindowManager}
use Rattle.window_mgr.specs.Edits.{IsWindowAt}
use Rattle.control_mgr.specs.declared.controls.Controls.{Controls}
use Rattle.control_mgr.specs.declared.laying.Lie.{Lie}
use Rattle.control_mgr.specs.declared.spots.ControlAt.{ControlAt}
use Rattle.control_mgr.specs.ControlDesks.{ControlDesk, ControlRecord, IsControlDeskUnchanged}
use Rattle.control_mgr.specs.ControlSteps.{IsControlLaid}
use Rattle.control_mgr.specs.Judged.{may_be_placed}
use Rattle.control_mgr.specs.WholeControls.{records_of}

-- a control with this definition may lie so, whatever its window
pub record MayLieSo (d : ControlDefinition) (l : Lie) : Type 0 where
  pub placed : in_plane l.place ≡ true
  pub fits : is_fitting_control d l.size ≡ true
  pub inside : is_in_range (moved_rect (d.bounds l.size) l.place.h l.place.v) ≡ true

-- the region of a control with this definition that lies so, in its window's coordinates
pub record IsShapeOf (d : ControlDefinition) (l : Lie) (s : LayerShape) : Type 0 where
  pub shown : s.shown ≡ l.shown
  pub region : (p : Point) → holds s.region p ≡ d.region l.size (minus p l.place)
  pub bounds : s.bounds ≡ moved_rect (d.bounds l.size) l.place.h l.place.v
  pub boxed : IsWithin (holds s.region) (rect_holds s.bounds)

-- the call that shows a control, or hides it
abbrev pub shown_call : Bool → ControlOf → ControlCall
shown_call true c = Show c
shown_call false c = Hide c

-- the control was laid so, or there was no memory for it
abbrev pub IsLaidOrShort : ControlOf → (ControlRecord → ControlRecord) → Result ControlReply Refusal → ControlDesk → ControlDesk → Type 0
IsLaidOrShort c f (Ok answer) before after = (answer ≡ Done) × IsControlLaid c f before after
IsLaidOrShort c f (Err e) before after = (e ≡ NoMemory) × IsControlDeskUnchanged before after

module _ {W : Type 0} {K : W → Type 0} (control_loan : TakenBox W K → ControlLoan) where
  -- the definition of what was taken, if something was
  abbrev pub definition_if : Option (Bor (TakenBox W K)) → Option ControlDefinition
  definition_if taken = option_map (λ t. (control_loan t.now).definition) taken

  -- the control at this place may lie so in its window
  abbrev pub MayLie : {V : Type 0} {H : V → Type 0} → WindowManager V H → Controls (TakenBox W K) → ControlAt → Lie → Type 0
  MayLie t m s l = (c : ControlRecord) (w : Window _ _) → slice_get (records_of control_loan m) s.control ≡ Some c
      → IsWindowAt t.windows.records.items s.window w
      → may_be_placed (Some c.kept.definition.definition) l.place l.size w.place ≡ true
