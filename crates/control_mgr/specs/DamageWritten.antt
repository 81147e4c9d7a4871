-- What is written of the screen where a control is changed and drawn anew.
use Rattle.std.specs.Prelude.{◌≡◌, Some, slice_get}
use Rattle.tb_geom.specs.declared.rect.Rect.{Rect}
use Rattle.tb_geom.specs.Points.{minus}
use Rattle.tb_geom.specs.Rects.{rect_holds}
use Rattle.desk_layers.specs.declared.part.Part.TheVariants as part
use Rattle.def_iface.specs.Slots.{TakenBox}
use Rattle.def_iface.specs.ControlMeaning.{ControlLoan}
use Rattle.def_iface.specs.WindowMeaning.{WindowLoan}
use Rattle.window_list.specs.declared.window.Window.{Window}
use Rattle.window_mgr.specs.declared.manager.WindowManager.{WindowManager}
use Rattle.window_mgr.specs.DrawnWithin.{WritesPart}
use Rattle.window_mgr.specs.Edits.{IsWindowAt}
use Rattle.control_mgr.specs.declared.controls.Controls.{Controls}
use Rattle.control_mgr.specs.declared.spots.ControlAt.{ControlAt}
use Rattle.control_mgr.specs.ControlDesks.{ControlRecord, news_of_control}
use Rattle.control_mgr.specs.Damages.{HoldsDamages}
use Rattle.control_mgr.specs.WholeControls.{records_of}

module _ {V : Type 0} {H : V → Type 0} (loan : TakenBox V H → WindowLoan) {W : Type 0} {K : W → Type 0} (control_loan : TakenBox W K → ControlLoan) where
  -- the control that stands here was changed so, and told all of itself: whatever rectangle has each pixel that the damages may have
  -- which its definition answers, no other pixel of the screen was written than those that the control owns within it
  abbrev pub WritesDamages : (ControlRecord → ControlRecord) → ControlAt → Controls (TakenBox W K) → WindowManager V H → WindowManager V H → Type 0
  WritesDamages f s m t u = (x : ControlRecord) → slice_get (records_of control_loan m) s.control ≡ Some x
      → (w : Window V H) → IsWindowAt t.windows.records.items s.window w
      → (r : Rect) → HoldsDamages (news_of_control (f x)) x.kept.definition.definition r
      → WritesPart loan w.serial (part.Control x.serial) w.place (λ p. rect_holds r (minus p x.kept.place)) t u
