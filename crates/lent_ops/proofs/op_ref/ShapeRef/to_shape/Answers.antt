use Rattle.std.proofs.Common.{refl, ap}
use Rattle.draw_port.specs.declared.shapes.Shape.TheVariants.{FillRgn}
use Rattle.lent_ops.proofs.FormLemmas.{form_is}
use Rattle.lent_ops.proofs.op_ref.ShapeRef.to_shape.Goals as goal

pub returns-in_ok-to_region-in-FillRgn : goal.returns-in_ok-to_region-in-FillRgn
returns-in_ok-to_region-in-FillRgn c = rw c.in-FillRgn.is (c.in_ok-to_region-in-FillRgn.field-0, c.in_ok-to_region-in-FillRgn.ensures, refl)

pub returns-in_ok-to_frame-in-FrameRgn : goal.returns-in_ok-to_frame-in-FrameRgn
returns-in_ok-to_frame-in-FrameRgn c = rw c.in-FrameRgn.is (ap (λ g. FillRgn g c.in-FrameRgn.shade) c.in_ok-to_frame-in-FrameRgn.ensures)

pub returns-in_ok-to_region-in-Form : goal.returns-in_ok-to_region-in-Form
returns-in_ok-to_region-in-Form c =
    let near = rw c.in-Form.is at c.requires.near in
    rw c.in-Form.is (ap (λ g. FillRgn g c.in-Form.shade) (form_is c.in-Form.form c.in_ok-to_region-in-Form.field-0 near c.in_ok-to_region-in-Form.ensures))
