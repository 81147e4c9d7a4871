-- The parts of the highlight on two lines share no pixel.
use Rattle.std.proofs.Common.{◌≡◌, ℕ, zero, suc, ◌+◌, ◌*◌, ◌<◌, ◌≤◌, Bool, true, false, not, ◌&&◌, ◌||◌, ℤ, pos, ◌+ℤ◌, ◌≤ℤ◌, refl, ap, arith, mul-le-mul}
use Rattle.std.proofs.lemmas.Bool.{and_parts}
use Rattle.std.proofs.lemmas.Int.{ints}
use Rattle.tb_geom.specs.declared.point.Point.{Point}
use Rattle.tb_geom.specs.Rects.{between, rect_holds}
use Rattle.tb_geom.proofs.RectLemmas.{sides_of, holds_in}
use Rattle.text_record.specs.Texts.{Record}
use Rattle.text_record.specs.Places.{line_top}
use Rattle.text_record.specs.Placings.{widened, box_of}
use Rattle.text_paint.specs.Shown.{some_line, has_part, part_left, part_right, rows_between, part_holds, inset, frame_holds}

none_of : (a b : Bool) → b ≡ false → (a && b) ≡ false
none_of true b e = e
none_of false b e = refl

neither : (a b : Bool) → a ≡ false → b ≡ false → (a || b) ≡ false
neither true b p q = p
neither false b p q = q

-- rows that end before a row do not have it
ended : (low x high : ℤ) → high ≤ℤ x → between low x high ≡ false
ended low x high p = grind (arith, ints)

-- a line that lies before another ends there or before
rows_apart : (top : ℤ) (j k height : ℕ) → j < k → ((top +ℤ pos (j * height)) +ℤ pos height) ≤ℤ (top +ℤ pos (k * height))
rows_apart top j k height p =
    let less : (j + 1) * height ≤ k * height = mul-le-mul (omega arith) (omega arith) in
    omega (arith, ints, less)

line_ended : (r : Record) (j : ℕ) (left right : ℤ) (p : Point) → (line_top r j +ℤ pos r.height) ≤ℤ p.v → rect_holds (rows_between r j left right) p ≡ false
line_ended r j left right p e = none_of (between left p.h right) (between (line_top r j) p.v (line_top r j +ℤ pos r.height)) (ended (line_top r j) p.v (line_top r j +ℤ pos r.height) e)

-- the row of a pixel that the part on a line has lies on the line or below
part_row : (r : Record) (k : ℕ) (p : Point) → part_holds r k p ≡ true → line_top r k ≤ℤ p.v
part_row r k p e =
    let rows = rows_between r k (part_left r k) (part_right r k) in
    (sides_of rows p (and_parts (has_part r k) (rect_holds rows p) e).1).top

-- no line before has it
pub none_before : (r : Record) (k n : ℕ) (p : Point) → n ≤ k → part_holds r k p ≡ true → some_line n (λ j. part_holds r j p) ≡ false
none_before r k zero p l e = refl
none_before r k (suc n) p l e =
    let apart = rows_apart r.top n k r.height l in
    let row = part_row r k p e in
    let rows = rows_between r n (part_left r n) (part_right r n) in
    neither (part_holds r n p) (some_line n (λ j. part_holds r j p))
    (none_of (has_part r n) (rect_holds rows p) (line_ended r n (part_left r n) (part_right r n) p (omega (arith, ints, apart, row))))
    (none_before r k n p (omega arith) e)

-- a pixel of the view is not one of the frame
pub inside_frame : (r : Record) (p : Point) → rect_holds r.view p ≡ true → frame_holds r p ≡ false
inside_frame r p e = by_flag r.framed
  where
    by_flag : (framed : Bool) → (framed && (rect_holds (box_of framed r.view) p && not (rect_holds (inset (box_of framed r.view)) p))) ≡ false
    by_flag false = refl
    by_flag true =
        let at = sides_of r.view p e in
        let inside : rect_holds (inset (widened r.view)) p ≡ true = holds_in (inset (widened r.view)) p (omega (arith, ints, at.left)) (omega (arith, ints, at.right)) (omega (arith, ints, at.top)) (omega (arith, ints, at.bottom)) in
        none_of (rect_holds (widened r.view) p) (not (rect_holds (inset (widened r.view)) p)) (ap not inside)
