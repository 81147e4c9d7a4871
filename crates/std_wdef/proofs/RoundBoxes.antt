-- The boxes of round shapes, and the pixels in the middle of their sides.
use Rattle.std.proofs.Common.{ℕ, ◌+◌, ◌*◌, ◌/◌, ◌≤◌, ◌≡◌, ◌⊎◌, inl, inr, ◌&&◌, Bool, true, false, ℤ, pos, ◌+ℤ◌, ◌-ℤ◌, ◌≤ℤ◌, ◌<ℤ◌, refl, sym, ap, ◌∙◌, arith}
use Rattle.std.proofs.lemmas.Nat.{mul-le}
use Rattle.std.proofs.lemmas.Bool.{and_left, and_parts, and_right, cases_Bool}
use Rattle.std.proofs.lemmas.Int.{ints}
use Rattle.tb_geom.specs.declared.point.Point.{Point}
use Rattle.tb_geom.specs.declared.rect.Rect.{Rect}
use Rattle.tb_geom.specs.Points.{PixelSet}
use Rattle.tb_geom.specs.Rects.{between, rect_holds, IsBoxOf}
use Rattle.tb_geom.proofs.RectLemmas.{between-in, holds_in, sides_of}
use Rattle.region_rows.specs.Counts.{count_to}
use Rattle.region_rows.proofs.Counts.{count-is}
use Rattle.shape_strips.specs.declared.corner.Corner.{Corner}
use Rattle.shape_strips.specs.Ovals.{in_oval}
use Rattle.shape_strips.specs.Rounds.{across, down, fitted, round_holds}
use Rattle.shape_strips.specs.declared.pen.Pen.{Pen}
use Rattle.shape_strips.specs.Frames.{inside_holds, inset_corner, inset_rect, surrounds}
use Rattle.shape_strips.proofs.RoundLemmas.{outside_rect}
use Rattle.shape_strips.proofs.RunLemmas.{between_before, between_past}

-- the middle row of an oval
middle_row : (w k x : ℕ) → x ≤ w → in_oval w k x 0 ≡ true
unfolding in_oval
middle_row w k x le =
    let side : x * k ≤ w * k = mul-le _ _ _ _ le (omega arith) in
    let bigger : (x * k) * (x * k) ≤ (w * k) * (w * k) = mul-le _ _ _ _ side side in
    grind (arith, bigger)

-- the pixels of the first row of an oval of 16 rows at its middle
first_row : (w x : ℕ) → 3 ≤ w → x ≤ 1 → in_oval w 16 x 15 ≡ true
unfolding in_oval
first_row w x wide small =
    let wider : 3 * 3 ≤ w * w = mul-le _ _ _ _ wide wide in
    let few : x * x ≤ 1 * 1 = mul-le _ _ _ _ small small in
    grind (arith, wider, few)

-- the pixels of a round shape in the middle rows
in_middle_row : (r : Rect) (c : Corner) (p : Point) → rect_holds r p ≡ true → down r (fitted r c) p.v ≡ 0 → round_holds r c p ≡ true
unfolding round_holds
in_middle_row r c p inside middle =
    (λ i. inside i && in_oval (fitted r c).width (fitted r c).height (across r (fitted r c) p.h) (middle i))
    ∙ middle_row (fitted r c).width (fitted r c).height (across r (fitted r c) p.h) (omega arith)

-- those in the middle of the first row and the last one, where the corners are 16 rows high
in_middle_column : (r : Rect) (c : Corner) (p : Point) → rect_holds r p ≡ true
    → (fitted r c).height ≡ 16 → 3 ≤ (fitted r c).width → across r (fitted r c) p.h ≤ 1 → down r (fitted r c) p.v ≡ 15
    → round_holds r c p ≡ true
unfolding round_holds
in_middle_column r c p inside high wide near low =
    (λ i. inside i && in_oval (fitted r c).width (high i) (across r (fitted r c) p.h) (low i))
    ∙ first_row (fitted r c).width (across r (fitted r c) p.h) wide near

-- a rectangle is the box of a set that lies in it and has a pixel at each of its sides
pub box_by_sides : (r : Rect) (s : PixelSet) (a b c d : ℤ)
    → ((p : Point) → s p ≡ true → rect_holds r p ≡ true)
    → s (record { h = r.left; v = a }) ≡ true
    → s (record { h = r.right -ℤ pos 1; v = b }) ≡ true
    → s (record { h = c; v = r.top }) ≡ true
    → s (record { h = d; v = r.bottom -ℤ pos 1 }) ≡ true
    → IsBoxOf r s
box_by_sides r s a b c d within left right top bottom = record {
  holds = within;
  smallest = λ q around p e.
      let in_r = sides_of r p e in
      let first = sides_of q (record { h = r.left; v = a }) (around _ left) in
      let last = sides_of q (record { h = r.right -ℤ pos 1; v = b }) (around _ right) in
      let upper = sides_of q (record { h = c; v = r.top }) (around _ top) in
      let lower = sides_of q (record { h = d; v = r.bottom -ℤ pos 1 }) (around _ bottom) in
      holds_in q p (omega (arith, ints)) (omega (arith, ints)) (omega (arith, ints)) (omega (arith, ints));
}

-- a round shape lies in its rectangle
pub round_within : (r : Rect) (c : Corner) (p : Point) → round_holds r c p ≡ true → rect_holds r p ≡ true
round_within r c p e = elim (cases_Bool (rect_holds r p)) [
  | inl in_it ↦ in_it
  | inr out ↦ absurd (cc (e, outside_rect r c p out))
]

-- its box, by the middle of its columns
box_about : (r : Rect) (w : ℕ) → pos (w + w) ≤ℤ (r.right -ℤ r.left) → (r.right -ℤ r.left) ≤ℤ pos (w + w + 1) → 1 ≤ w
    → pos 3 ≤ℤ (r.right -ℤ r.left) → pos 18 ≤ℤ (r.bottom -ℤ r.top)
    → IsBoxOf r (round_holds r (record { width = 16; height = 16 }))
box_about r w low high some wide tall =
    let c : Corner = record { width = 16; height = 16 } in
    let all_across = count-is r.left r.right (omega (arith, ints)) in
    let all_down = count-is r.top r.bottom (omega (arith, ints)) in
    let row = r.top +ℤ pos 8 in
    let column = r.left +ℤ pos w in
    let above = count-is r.top (r.top +ℤ pos 8) (omega (arith, ints)) in
    let below = count-is ((r.top +ℤ pos 8) +ℤ pos 1) r.bottom (omega (arith, ints)) in
    let before = count-is r.left (r.left +ℤ pos w) (omega (arith, ints)) in
    let after = count-is ((r.left +ℤ pos w) +ℤ pos 1) r.right (omega (arith, ints)) in
    let none_above = count-is r.top r.top (omega (arith, ints)) in
    let none_below = count-is ((r.bottom -ℤ pos 1) +ℤ pos 1) r.bottom (omega (arith, ints)) in
    let middle : down r (fitted r c) (r.top +ℤ pos 8) ≡ 0 = omega (arith, ints) in
    let near : across r (fitted r c) (r.left +ℤ pos w) ≤ 1 = omega (arith, ints) in
    let height : (fitted r c).height ≡ 16 = omega (arith, ints) in
    let width : 3 ≤ (fitted r c).width = omega (arith, ints) in
    let first : down r (fitted r c) r.top ≡ 15 = omega (arith, ints) in
    let last : down r (fitted r c) (r.bottom -ℤ pos 1) ≡ 15 = omega (arith, ints) in
    box_by_sides r (round_holds r c) (r.top +ℤ pos 8) (r.top +ℤ pos 8) (r.left +ℤ pos w) (r.left +ℤ pos w)
    (round_within r c)
    (in_middle_row r c _ (holds_in r _ (omega (arith, ints)) (omega (arith, ints)) (omega (arith, ints)) (omega (arith, ints))) middle)
    (in_middle_row r c _ (holds_in r _ (omega (arith, ints)) (omega (arith, ints)) (omega (arith, ints)) (omega (arith, ints))) middle)
    (in_middle_column r c _ (holds_in r _ (omega (arith, ints)) (omega (arith, ints)) (omega (arith, ints)) (omega (arith, ints))) height width near first)
    (in_middle_column r c _ (holds_in r _ (omega (arith, ints)) (omega (arith, ints)) (omega (arith, ints)) (omega (arith, ints))) height width near last)

-- the box of a round shape whose corners are 16 by 16, where it is at least 3 columns wide and 18 rows high
pub round_box : (r : Rect) → pos 3 ≤ℤ (r.right -ℤ r.left) → pos 18 ≤ℤ (r.bottom -ℤ r.top)
    → IsBoxOf r (round_holds r (record { width = 16; height = 16 }))
round_box r wide tall =
    let columns = count-is r.left r.right (omega (arith, ints)) in
    box_about r (count_to r.left r.right / 2) (omega (arith, ints)) (omega (arith, ints)) (omega (arith, ints)) wide tall

-- what a frame leaves lies in the shape
pub inside_within_round : (r : Rect) (c : Corner) (pen : Pen) (p : Point) → inside_holds r c pen p ≡ true → round_holds r c p ≡ true
inside_within_round r c pen p e =
    let kept = and_parts (round_holds (inset_rect r pen) (inset_corner c pen) p) (surrounds (round_holds r c) p) e in
    (and_parts (round_holds r c p) _ kept.1).0

-- the rows of a rectangle, and those beside it
pub beside_rows : (r : Rect) (h v : ℤ) (x : Bool) → (v <ℤ r.top) ⊎ (r.bottom ≤ℤ v) → (rect_holds r (record { h = h; v = v }) && x) ≡ false
beside_rows r h v x (inl above) = and_left (rect_holds r (record { h = h; v = v })) x (and_right (between r.left h r.right) _ (between_before r.top v r.bottom above))
beside_rows r h v x (inr below) = and_left (rect_holds r (record { h = h; v = v })) x (and_right (between r.left h r.right) _ (between_past r.top v r.bottom below))

pub cut_row : (r : Rect) (h v : ℤ) (x : Bool) → r.top ≤ℤ v → v <ℤ r.bottom → (between r.left h r.right && x) ≡ (rect_holds r (record { h = h; v = v }) && x)
cut_row r h v x top bottom = ap (λ a. a && x) (sym (with_true (between r.left h r.right) _ (between-in r.top v r.bottom top bottom)))
  where
    with_true : (a b : Bool) → b ≡ true → (a && b) ≡ a
    with_true true b e = e
    with_true false b e = refl
