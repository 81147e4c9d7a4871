-- What a look gives at a point: its steps in turn, from white.
use Rattle.std.specs.Prelude.{ℕ, neg_ℤ, replicate, Bool, true, false, ◌&&◌, ◌||◌, if◌then◌else◌, List, [], ◌∷◌, ℤ, pos, ◌-ℤ◌}
use Rattle.std.specs.List.{fold}
use Rattle.std.specs.Ordering.{int_eq}
use Rattle.tb_geom.specs.declared.point.Point.{Point}
use Rattle.tb_geom.specs.declared.rect.Rect.{Rect}
use Rattle.tb_geom.specs.Points.{PixelSet}
use Rattle.tb_geom.specs.Rects.{rect_holds}
use Rattle.bit_map.specs.declared.mode.Mode.TheVariants.{Copy, Xor, Bic}
use Rattle.draw_port.specs.declared.shapes.Shade.{Shade}
use Rattle.draw_port.specs.Ops.{frame_holds, shade_value}
use Rattle.looks.specs.Letters.{Lettering, pen_point, plate_rect}
use Rattle.looks.specs.declared.pen.Pen.TheVariants.{At, Middle}
use Rattle.looks.specs.declared.pen.Baseline.{Baseline}
use Rattle.looks.specs.declared.pen.Baseline.TheVariants.{At as AtRow}
use Rattle.looks.specs.declared.pen.Place.{Place}
use Rattle.looks.specs.declared.pen.Plate.{Plate}
use Rattle.shape_strips.specs.declared.corner.Corner.{Corner}
use Rattle.looks.specs.Rounded.{rounded, rounded_inside, rounded_holds}
use Rattle.looks.specs.declared.step.Mark.{Mark}
use Rattle.looks.specs.declared.step.Mark.TheVariants.{Fill, Frame, Behind, Text, Cross, Round}
use Rattle.looks.specs.declared.step.Step.{Step}

-- the shades that looks use
abbrev pub all_black : Shade
all_black = record { pattern = record { rows = replicate 8 255 }; mode = Copy }

abbrev pub all_white : Shade
all_white = record { pattern = record { rows = replicate 8 0 }; mode = Copy }

-- every other pixel made white
abbrev pub gray_away : Shade
gray_away = record { pattern = record { rows = 0xAA ∷ 0x55 ∷ 0xAA ∷ 0x55 ∷ 0xAA ∷ 0x55 ∷ 0xAA ∷ 0x55 ∷ [] }; mode = Bic }

-- the other color of each pixel
abbrev pub turned : Shade
turned = record { pattern = record { rows = replicate 8 255 }; mode = Xor }

-- one pixel in four black, and the others white
abbrev pub light_gray : Shade
light_gray = record { pattern = record { rows = 0x88 ∷ 0x22 ∷ 0x88 ∷ 0x22 ∷ 0x88 ∷ 0x22 ∷ 0x88 ∷ 0x22 ∷ [] }; mode = Copy }

-- whether a pixel lies on the diagonal down from the first column, or on that from the last one
unfoldable pub on_diagonals : Rect → PixelSet
on_diagonals r p = int_eq (p.h -ℤ r.left) (p.v -ℤ r.top) || int_eq (r.right -ℤ pos 1 -ℤ p.h) (p.v -ℤ r.top)

-- the pixels of a rectangle on its two diagonals
abbrev pub cross_holds : Rect → PixelSet
cross_holds r p = rect_holds r p && on_diagonals r p

-- the pixels of a mark
abbrev pub mark_holds : Lettering → Mark → PixelSet
mark_holds t (Fill r shade) p = rect_holds r p
mark_holds t (Frame r shade) p = frame_holds r p
mark_holds t (Behind plate) p = rect_holds (plate_rect t.width plate) p
mark_holds t (Text place) p = t.pixel (pen_point t place) p
mark_holds t (Cross r) p = cross_holds r p
mark_holds t (Round r shade) p = rounded_holds r p

-- what the mark makes of the bit d at one of its pixels
abbrev pub mark_value : Mark → Point → Bool → Bool
mark_value (Fill r shade) p d = shade_value shade p d
mark_value (Frame r shade) p d = shade_value shade p d
mark_value (Behind plate) p d = false
mark_value (Text place) p d = true
mark_value (Cross r) p d = shade_value all_black p d
mark_value (Round r shade) p d = shade_value shade p d

-- the pixels that a step draws: none where it is off
unfoldable pub step_holds : Lettering → Step → PixelSet
step_holds t s p = s.on && (rect_holds s.cut p && mark_holds t s.mark p)

-- what the step makes of the bit d
abbrev pub step_value : Lettering → Point → Bool → Step → Bool
step_value t p d s = if step_holds t s p then mark_value s.mark p d else d

-- the value of a look: each step in turn, from white
abbrev pub look_bit : Lettering → List Step → PixelSet
look_bit t steps p = fold (step_value t p) false steps

-- steps that are on; those of a rectangle are cut to it
abbrev pub black_fill : Rect → Step
black_fill r = record { on = true; cut = r; mark = Fill r all_black }

abbrev pub white_fill : Rect → Step
white_fill r = record { on = true; cut = r; mark = Fill r all_white }

abbrev pub black_frame : Rect → Step
black_frame r = record { on = true; cut = r; mark = Frame r all_black }

-- white behind the text
abbrev pub white_plate : Rect → Plate → Step
white_plate cut plate = record { on = true; cut = cut; mark = Behind plate }

-- the text, in the middle of a width, on a baseline
abbrev pub black_text : Rect → ℕ → ℤ → Step
black_text cut w baseline = record { on = true; cut = cut; mark = Text (record { pen = Middle w; baseline = AtRow baseline }) }

-- the text at a place
abbrev pub placed_text : Rect → Place → Step
placed_text cut place = record { on = true; cut = cut; mark = Text place }

-- the text from a column on
abbrev pub text_at : Rect → ℤ → Baseline → Step
text_at cut column baseline = placed_text cut (record { pen = At column; baseline = baseline })

-- the text in the middle of a width
abbrev pub centred_text : Rect → ℕ → Baseline → Step
centred_text cut w baseline = placed_text cut (record { pen = Middle w; baseline = baseline })

-- gray over what stands there
abbrev pub grayed : Rect → Step
grayed r = record { on = true; cut = r; mark = Fill r gray_away }

-- each pixel turned
abbrev pub inverted : Rect → Step
inverted r = record { on = true; cut = r; mark = Fill r turned }

-- light gray in place of what stands there
abbrev pub light_gray_fill : Rect → Step
light_gray_fill r = record { on = true; cut = r; mark = Fill r light_gray }

-- both diagonals of a square in black
abbrev pub black_cross : Rect → Step
black_cross r = record { on = true; cut = r; mark = Cross r }

-- black on a rectangle with rounded corners
abbrev pub black_round : Rect → Corner → Step
black_round r c = record { on = true; cut = r; mark = Round (rounded r c) all_black }

-- white on what a frame of one pixel leaves of it
abbrev pub white_inside : Rect → Corner → Step
white_inside r c = record { on = true; cut = r; mark = Round (rounded_inside r c) all_white }

-- each pixel of that turned
abbrev pub inverted_inside : Rect → Corner → Step
inverted_inside r c = record { on = true; cut = r; mark = Round (rounded_inside r c) turned }

-- the step, where the test holds
abbrev pub when : Bool → Step → Step
when test s = record s { on = test }

-- the step within another cut
abbrev pub cut_to : Rect → Step → Step
cut_to r s = record s { cut = r }

-- a rectangle by its sides
abbrev pub box : ℤ → ℤ → ℤ → ℤ → Rect
box l t r b = record { left = l; top = t; right = r; bottom = b }

-- the number below 0 of this size
abbrev pub neg : ℕ → ℤ
neg n = neg_ℤ (pos n)
