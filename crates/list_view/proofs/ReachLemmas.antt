-- How far a view reaches.
use Rattle.std.proofs.Common.{◌≡◌, ℕ, ◌+◌, min, ℤ, pos, ◌+ℤ◌, ◌-ℤ◌, ◌≤ℤ◌, ◌<ℤ◌, true, ◌&&◌, ap, ◌∙◌, arith}
use Rattle.std.specs.Prelude.{◌*ℤ◌, int_div, nat_abs}
use Rattle.std.proofs.lemmas.Int.{ints}
use Rattle.tb_geom.specs.declared.point.Point.{Point}
use Rattle.tb_geom.specs.Rects.{rect_holds}
use Rattle.tb_geom.proofs.RectLemmas.{holds_in, sides_of}
use Rattle.list_cells.specs.declared.cell.Cell.{Cell}
use Rattle.list_view.specs.declared.axis.Axis.{Axis}
use Rattle.list_view.specs.Axes.{IsAxis, IsLine, end_of, line_start, line_end, line_at, lines_end}
use Rattle.list_view.specs.Views.{View, IsView, view_rect, whole_cell, cell_rect, columns_end, rows_end}
use Rattle.list_view.proofs.AxisLemmas.{quotient_is, quotient_part}
use Rattle.list_view.proofs.LineLemmas.{not_more, mul_le}
use Rattle.list_view.proofs.LawLemmas.{common_holds, holder_is, is_in}

-- a line is one from the first to before the end
pub record IsReached (first line : ℤ) (end : ℕ) : Type 0 where
  pub from : first ≤ℤ line
  pub before : line <ℤ pos end

-- no place before the view's end lies in a line behind the one at the last pixel
line_at_rises : (a : Axis) (first place : ℤ) → IsAxis a → a.start ≤ℤ place → place <ℤ end_of a → line_at a first place ≤ℤ line_at a first (end_of a -ℤ pos 1)
line_at_rises a first place axis from to =
    let some = axis.cell_some in
    let here = quotient_is (place -ℤ a.start) a.cell (omega (arith, ints)) some in
    let last = quotient_is ((end_of a -ℤ pos 1) -ℤ a.start) a.cell (omega (arith, ints)) some in
    let least = here.least in
    let few : int_div (place -ℤ a.start) a.cell ≤ℤ int_div ((end_of a -ℤ pos 1) -ℤ a.start) a.cell =
    not_more ((end_of a -ℤ pos 1) -ℤ a.start) a.cell (int_div ((end_of a -ℤ pos 1) -ℤ a.start) a.cell) (int_div (place -ℤ a.start) a.cell) some last (omega (arith, ints)) in
    omega (arith, ints)

before_end : (count : ℕ) (last line : ℤ) → pos 0 ≤ℤ line → line ≤ℤ last → line <ℤ pos count → line <ℤ pos (min count (nat_abs (last +ℤ pos 1)))
before_end count last line least most few = omega (arith, ints)

-- the line at a place of the view
pub reached : (a : Axis) (count : ℕ) (first line place : ℤ) → IsAxis a → IsLine first → a.start ≤ℤ place → place <ℤ end_of a → line ≡ line_at a first place → line <ℤ pos count
    → IsReached first line (lines_end a count first)
reached a count first line place axis start from to is few =
    let least = start.least in
    let part = quotient_part (place -ℤ a.start) a.cell (omega (arith, ints)) axis.cell_some in
    let some = part.least in
    let rises = line_at_rises a first place axis from to in
    record {
      from = omega (arith, ints);
      before = before_end count (line_at a first (end_of a -ℤ pos 1)) line (omega (arith, ints)) (omega (arith, ints)) few;
    }

pub column_reached : (v : View) (columns : ℕ) (c : Cell) (p : Point) → IsView v → c.column <ℤ pos columns → rect_holds (cell_rect v c) p ≡ true
    → IsReached v.first.column c.column (columns_end columns v)
column_reached v columns c p h few e =
    let view = sides_of (view_rect v) p (is_in v c p e).view in
    reached v.across columns v.first.column c.column p.h h.across h.first.column view.left view.right (ap (λ (d : Cell). d.column) (holder_is v c p h e)) few

pub row_reached : (v : View) (rows : ℕ) (c : Cell) (p : Point) → IsView v → c.row <ℤ pos rows → rect_holds (cell_rect v c) p ≡ true
    → IsReached v.first.row c.row (rows_end rows v)
row_reached v rows c p h few e =
    let view = sides_of (view_rect v) p (is_in v c p e).view in
    reached v.down rows v.first.row c.row p.v h.down h.first.row view.top view.bottom (ap (λ (d : Cell). d.row) (holder_is v c p h e)) few

-- one past the line at the last pixel, as it is counted
pub lines_end_is : (a : Axis) (count : ℕ) (first end last : ℤ) → end ≡ end_of a → last ≡ line_at a first (end -ℤ pos 1) → pos 0 ≤ℤ last → min count (nat_abs last + 1) ≡ lines_end a count first
lines_end_is a count first end last end_is last_is some =
    let next : nat_abs last + 1 ≡ nat_abs (last +ℤ pos 1) = omega (arith, ints) in
    ap (min count) next ∙ ap (λ (z : ℤ). min count (nat_abs (z +ℤ pos 1))) (last_is ∙ ap (λ (z : ℤ). line_at a first (z -ℤ pos 1)) end_is)

-- a line from the first to before the end begins in the view
record BeginsIn (a : Axis) (first line : ℤ) : Type 0 where
  pub from : a.start ≤ℤ line_start a first line
  pub to : line_start a first line <ℤ end_of a
  pub long : line_start a first line <ℤ line_end a first line

up_to_last : (count : ℕ) (last line : ℤ) → pos 0 ≤ℤ last → line <ℤ pos (min count (nat_abs (last +ℤ pos 1))) → line ≤ℤ last
up_to_last count last line some before = omega (arith, ints)

begins_in : (a : Axis) (count : ℕ) (first line : ℤ) → IsAxis a → IsLine first → IsReached first line (lines_end a count first) → BeginsIn a first line
begins_in a count first line axis start reach =
    let some = axis.cell_some in
    let long = axis.some in
    let least = start.least in
    let from = reach.from in
    let last = quotient_is ((end_of a -ℤ pos 1) -ℤ a.start) a.cell (omega (arith, ints)) some in
    let within = last.least in
    let part = quotient_part ((end_of a -ℤ pos 1) -ℤ a.start) a.cell (omega (arith, ints)) some in
    let counted = part.least in
    let most : line ≤ℤ line_at a first (end_of a -ℤ pos 1) = up_to_last count (line_at a first (end_of a -ℤ pos 1)) line (omega (arith, ints)) reach.before in
    let few : ((line -ℤ first) *ℤ a.cell) ≤ℤ (int_div ((end_of a -ℤ pos 1) -ℤ a.start) a.cell *ℤ a.cell) =
    mul_le (line -ℤ first) (int_div ((end_of a -ℤ pos 1) -ℤ a.start) a.cell) a.cell (omega (arith, ints)) (omega (arith, ints)) in
    let on : (pos 0 *ℤ a.cell) ≤ℤ ((line -ℤ first) *ℤ a.cell) = mul_le (pos 0) (line -ℤ first) a.cell (omega (arith, ints)) (omega (arith, ints)) in
    record { from = omega (arith, ints); to = omega (arith, ints); long = omega (arith, ints) }

-- a cell from the corner to before the ends shows
pub shows : (v : View) (columns rows : ℕ) (c : Cell) → IsView v → IsReached v.first.column c.column (columns_end columns v) → IsReached v.first.row c.row (rows_end rows v)
    → (p : Point) × (rect_holds (cell_rect v c) p ≡ true)
shows v columns rows c h across down =
    let left = begins_in v.across columns v.first.column c.column h.across h.first.column across in
    let top = begins_in v.down rows v.first.row c.row h.down h.first.row down in
    let p : Point = record { h = line_start v.across v.first.column c.column; v = line_start v.down v.first.row c.row } in (
      p,
      common_holds (view_rect v) (whole_cell v c) p
          ∙ (λ i. holds_in (view_rect v) p left.from left.to top.from top.to i && holds_in (whole_cell v c) p (omega (arith, ints)) left.long (omega (arith, ints)) top.long i),
    )
