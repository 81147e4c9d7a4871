-- Whether two steps are the same.
use Rattle.std.specs.Prelude.{Bool, true, false, ◌&&◌, nat_eq}
use Rattle.std.specs.Ordering.{int_eq}
use Rattle.std.specs.Str.{bytes_eq}
use Rattle.std.specs.Bool.{beq}
use Rattle.tb_geom.specs.declared.rect.Rect.{Rect}
use Rattle.bit_map.specs.Modes.{source_number}
use Rattle.looks.specs.declared.pen.Pen.{Pen}
use Rattle.looks.specs.declared.pen.Pen.TheVariants.{At, Middle}
use Rattle.looks.specs.declared.pen.Baseline.{Baseline}
use Rattle.looks.specs.declared.pen.Baseline.TheVariants.{At as AtRow, Middle as MiddleRow}
use Rattle.looks.specs.declared.pen.Plate.{Plate}
use Rattle.draw_port.specs.declared.shapes.Shade.{Shade}
use Rattle.shape_strips.specs.declared.corner.Corner.{Corner}
use Rattle.looks.specs.declared.rounded.Rounded.{Rounded}
use Rattle.looks.specs.declared.step.Mark.{Mark}
use Rattle.looks.specs.declared.step.Mark.TheVariants.{Fill, Frame, Behind, Text, Cross, Round}

abbrev pub same_rects : Rect → Rect → Bool
same_rects a b = int_eq a.left b.left && (int_eq a.top b.top && (int_eq a.right b.right && int_eq a.bottom b.bottom))

abbrev pub same_shades : Shade → Shade → Bool
same_shades a b = bytes_eq a.pattern.rows b.pattern.rows && nat_eq (source_number a.mode) (source_number b.mode)

abbrev pub same_plates : Plate → Plate → Bool
same_plates a b = nat_eq a.width b.width && (nat_eq a.margin b.margin && (int_eq a.top b.top && int_eq a.bottom b.bottom))

abbrev pub same_pens : Pen → Pen → Bool
same_pens (At x) (At y) = int_eq x y
same_pens (Middle w) (Middle v) = nat_eq w v
same_pens _ _ = false

abbrev pub same_baselines : Baseline → Baseline → Bool
same_baselines (AtRow x) (AtRow y) = int_eq x y
same_baselines (MiddleRow h) (MiddleRow k) = nat_eq h k
same_baselines _ _ = false

abbrev pub same_corners : Corner → Corner → Bool
same_corners a b = nat_eq a.width b.width && nat_eq a.height b.height

abbrev pub same_rounded : Rounded → Rounded → Bool
same_rounded a b = same_rects a.rect b.rect && (same_corners a.corner b.corner && beq a.inside b.inside)

abbrev pub same_marks : Mark → Mark → Bool
same_marks (Fill r s) (Fill q t) = same_rects r q && same_shades s t
same_marks (Frame r s) (Frame q t) = same_rects r q && same_shades s t
same_marks (Behind a) (Behind b) = same_plates a b
same_marks (Text a) (Text b) = same_pens a.pen b.pen && same_baselines a.baseline b.baseline
same_marks (Cross r) (Cross q) = same_rects r q
same_marks (Round r s) (Round q t) = same_rounded r q && same_shades s t
same_marks _ _ = false

-- the mark stands by the text of the look
abbrev pub shows_text : Mark → Bool
shows_text (Behind plate) = true
shows_text (Text place) = true
shows_text _ = false
