-- Operations, one after another.
use Rattle.std.proofs.Common.{◌≡◌, ℕ, Bool, List, [], ◌∷◌, ◌++◌, refl}
use Rattle.tb_geom.specs.declared.point.Point.{Point}
use Rattle.draw_port.specs.Ops.{op_value, picture_value}
use Rattle.draw_port.specs.declared.shapes.Op.{Op}

pub one_more : (font : List ℕ) (ops : List Op) (op : Op) (p : Point) (d : Bool) → picture_value font (ops ++ op ∷ []) p d ≡ op_value font op p (picture_value font ops p d)
one_more font [] op p d = refl
one_more font (first ∷ ops) op p d = one_more font ops op p (op_value font first p d)
