-- The tracking of a control's part.
use Rattle.std.proofs.Common.{◌≡◌, ℕ, ◌<◌, Bool, true, false, if◌then◌else◌, length, get_or, Some, None, sym, ap, ◌∙◌, subst}
use Rattle.std.specs.Prelude.{IfSome, slice_get}
use Rattle.tb_geom.specs.declared.point.Point.{Point}
use Rattle.control_values.specs.Settings.{Setting, settled}
use Rattle.window_items.specs.declared.item.Item.{Item}
use Rattle.control_mgr.specs.declared.control.Control.{Control}
use Rattle.control_mgr.specs.Seen.{seen}
use Rattle.def_iface.specs.Slots.{TakenBox}
use Rattle.def_iface.specs.ControlMeaning.{ControlLoan, is_fitting_control}
use Rattle.desk_call.specs.declared.activity.TrackedControl.{TrackedControl}
use Rattle.control_mgr.specs.declared.controls.Controls.{Controls}
use Rattle.control_mgr.specs.ControlDesks.{ControlRecord}
use Rattle.control_mgr.specs.ControlSteps.{dragged, is_in_part, is_part, is_thumb, slop, tracked_part}
use Rattle.control_mgr.specs.Judged.{is_within, part_tested}
use Rattle.control_mgr.specs.Settled.{AreSettled, IsSettledControl}
use Rattle.control_mgr.specs.WholeControls.{records_of}
use Rattle.control_mgr.proofs.Places.{record_read}
use Rattle.window_items.proofs.EditLemmas.{All-there}

-- ---- a control as the code reads it

module _ {W : Type 0} {K : W → Type 0} (control_loan : TakenBox W K → ControlLoan) (m : Controls (TakenBox W K)) (at : ℕ) (x : Item (Control (TakenBox W K))) (low : at < length m.list.items.items) (read : x ≡ get_or m.list.items.items at x) where
  abbrev c : ControlRecord
  c = seen control_loan x

  pub there : slice_get (records_of control_loan m) at ≡ Some c
  there = record_read control_loan m.list.items.items at x low read

  pub settled_there : AreSettled (records_of control_loan m) → IsSettledControl c
  settled_there settled = All-there IsSettledControl at (records_of control_loan m) c there settled

  -- its definition was told its size, which fits it
  pub told_fits : AreSettled (records_of control_loan m) → is_fitting_control (control_loan x.kept.definition).definition (control_loan x.kept.definition).definition.size ≡ true
  told_fits settled = ap (is_fitting_control (control_loan x.kept.definition).definition) (settled_there settled).told ∙ (settled_there settled).fits

  tracked_there : (k : TrackedControl) (p : Point) (b : Bool) → b ≡ is_in_part k c p → (if b then Some k.part else None) ≡ tracked_part k (slice_get (records_of control_loan m) at) p
  tracked_there k p b e = ap (λ t. if t then Some k.part else None) e ∙ ap (λ o. tracked_part k o p) (sym there)

  -- whether a point lies in the part that is tracked, a thumb or another
  pub thumb_tracked : (k : TrackedControl) (p : Point) (b : Bool) → is_thumb k.part ≡ true → b ≡ is_within slop c p → (if b then Some k.part else None) ≡ tracked_part k (slice_get (records_of control_loan m) at) p
  thumb_tracked k p b thumb e = tracked_there k p b (e ∙ sym (ap (λ t. if t then is_within slop c p else is_part k.part (part_tested c p)) thumb))

  pub part_tracked : (k : TrackedControl) (p : Point) (b : Bool) → is_thumb k.part ≡ false → b ≡ is_part k.part (part_tested c p) → (if b then Some k.part else None) ≡ tracked_part k (slice_get (records_of control_loan m) at) p
  part_tracked k p b thumb e = tracked_there k p b (e ∙ sym (ap (λ t. if t then is_within slop c p else is_part k.part (part_tested c p)) thumb))

  pub dragged_there : (k : TrackedControl) (p : Point) (v : Setting) → v ≡ dragged k p c → IfSome (slice_get (records_of control_loan m) at) (λ d. v ≡ dragged k p d)
  dragged_there k p v e = subst (λ o. IfSome o (λ d. v ≡ dragged k p d)) (sym there) e
