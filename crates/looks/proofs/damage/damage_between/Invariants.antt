use Rattle.std.proofs.Common.{◌≡◌, true, false, take}
use Rattle.tb_geom.specs.declared.point.Point.{Point}
use Rattle.tb_geom.specs.Rects.{rect_holds}
use Rattle.looks.specs.Damages.{IsWithin, look_damage}
use Rattle.looks.specs.Letters.{Lettering}
use Rattle.looks.specs.Marks.{look_bit}
use Rattle.looks.proofs.damage.damage_between.Given as goal

abbrev pub invariant-loop-at : goal.invariant-loop-at
invariant-loop-at l =
    ((u t : Lettering) → (l.same_text ≡ true → t ≡ u) → (p : Point) → rect_holds l.damage p ≡ false → look_bit t (take l.at l.new) p ≡ look_bit u (take l.at l.old) p)
    × IsWithin l.damage (look_damage l.same_text l.old l.new)
