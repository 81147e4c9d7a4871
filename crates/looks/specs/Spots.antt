-- Spots: which part of a window or a control a point lies in.
use Rattle.std.specs.Prelude.{Bool, ◌&&◌, if◌then◌else◌, List, [], ◌∷◌}
use Rattle.tb_geom.specs.declared.point.Point.{Point}
use Rattle.tb_geom.specs.declared.rect.Rect.{Rect}
use Rattle.tb_geom.specs.Rects.{rect_holds}
use Rattle.looks.specs.declared.spot.Spot.{Spot}

-- the part of the first spot that is on and holds the point, and `rest` where none does
abbrev pub first_part : {T : Type 0} → List (Spot T) → T → Point → T
first_part [] rest p = rest
first_part (s ∷ spots) rest p =
    if s.on && (rect_holds s.cut p && rect_holds s.rect p) then s.part else first_part spots rest p

-- a part: the rectangle, cut to another, where the test holds
abbrev pub spot : {T : Type 0} → Bool → Rect → Rect → T → Spot T
spot on cut rect part = record { on = on; cut = cut; rect = rect; part = part }
