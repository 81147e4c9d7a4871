-- Rectangles of views and of cells.
use Rattle.std.proofs.Common.{◌≡◌, Bool, true, false, ◌&&◌, ℕ, ℤ, pos, negsuc, ◌+ℤ◌, ◌≤ℤ◌, refl, sym, ap, ◌∙◌, arith, rules, subst, if◌then◌else◌, Ok, Err}
use Rattle.std.proofs.lemmas.Bool.{true≢false}
use Rattle.std.specs.Prelude.{int_le, Result}
use Rattle.std.specs.Result.{IsOk, is_ok}
use Rattle.std.proofs.lemmas.Int.{ints}
use Rattle.tb_geom.specs.declared.point.Point.{Point}
use Rattle.tb_geom.specs.declared.rect.Rect.{Rect}
use Rattle.tb_geom.specs.Rects.{rect_holds, is_empty_rect, empty_rect, shared_rect, is_coordinate, is_in_range}
use Rattle.tb_geom.proofs.RectLemmas.{holds_none, sides_rise, is_empty_from, holds-shared, is_around, same_rect}
use Rattle.control_values.specs.Settings.{is_in_range as settable}
use Rattle.list_cells.specs.declared.cell.Cell.{Cell}
use Rattle.list_view.specs.declared.axis.Axis.{Axis}
use Rattle.list_view.specs.Axes.{IsAxis, IsLine, end_of, scrolled_line, line_start, line_at}
use Rattle.list_view.specs.Views.{View, IsView, view_rect, scrolled, common_rect, cell_corner, whole_cell, any_cell_at}
use Rattle.list_view.specs.Bars.{vertical_bar, horizontal_bar}

-- ---- the view's rectangle

coordinate : (z : ℤ) → negsuc 16383 ≤ℤ z → z ≤ℤ pos 16383 → is_coordinate z ≡ true
coordinate z l m = grind (arith, ints)

start_coordinate : (a : Axis) → IsAxis a → is_coordinate a.start ≡ true
start_coordinate a h =
    let low = h.start_in_range in
    let high = h.end_in_range in
    let some = h.some in
    coordinate a.start low (omega (arith, ints))

end_coordinate : (a : Axis) → IsAxis a → is_coordinate (end_of a) ≡ true
end_coordinate a h =
    let low = h.start_in_range in
    let high = h.end_in_range in
    let some = h.some in
    coordinate (end_of a) (omega (arith, ints)) high

pub view_in_range : (v : View) → IsView v → is_in_range (view_rect v) ≡ true
view_in_range v h = λ i. start_coordinate v.across h.across i && (start_coordinate v.down h.down i && (end_coordinate v.across h.across i && end_coordinate v.down h.down i))

-- ---- scrolling

-- a view with another cell in its corner
pub scrolled_is : (v w : View) (columns rows : ℕ) (across down column row : ℤ) → v ≡ w → column ≡ scrolled_line v.across columns v.first.column across → row ≡ scrolled_line v.down rows v.first.row down
    → record v { first = record { column = column; row = row } } ≡ scrolled columns rows across down w
scrolled_is v w columns rows across down column row view column_is row_is =
    (λ i. record v { first = record { column = column_is i; row = row_is i } }) ∙ ap (scrolled columns rows across down) view

-- ---- what two rectangles share

-- rectangles with some pixels, and the same ones, are equal
same_pixels : (r s : Rect) → is_empty_rect r ≡ false → is_empty_rect s ≡ false → ((p : Point) → rect_holds r p ≡ rect_holds s p) → r ≡ s
same_pixels r s some_r some_s same =
    let a = is_around r s (sides_rise r some_r) (λ p e. sym (same p) ∙ e) in
    let b = is_around s r (sides_rise s some_s) (λ p e. same p ∙ e) in
    same_rect r s (omega (arith, ints)) (omega (arith, ints)) (omega (arith, ints)) (omega (arith, ints))

-- with the pixels of two rectangles, and 0 0 0 0 without any, a rectangle is what they share
pub common_is : (r s t : Rect) → ((p : Point) → rect_holds t p ≡ (rect_holds r p && rect_holds s p)) → (is_empty_rect t ≡ true → t ≡ empty_rect) → t ≡ common_rect r s
unfolding common_rect
common_is r s t pixels none = by_value (is_empty_rect (shared_rect r s)) refl (is_empty_rect t) refl
  where
    same : (p : Point) → rect_holds t p ≡ rect_holds (shared_rect r s) p
    same p = pixels p ∙ sym (holds-shared r s p)

    by_value : (b : Bool) → is_empty_rect (shared_rect r s) ≡ b → (d : Bool) → is_empty_rect t ≡ d → t ≡ (if b then empty_rect else shared_rect r s)
    by_value true e d f = none (is_empty_from t (λ p. same p ∙ holds_none (shared_rect r s) e p))
    by_value false e false f = same_pixels t (shared_rect r s) f e same
    by_value false e true f = absurd (true≢false (sym (is_empty_from (shared_rect r s) (λ p. sym (same p) ∙ holds_none t f p)) ∙ e))

-- ---- cells

pub cell_corner_is : (v w : View) (c : Cell) (across down : ℤ) → v ≡ w → across ≡ line_start v.across v.first.column c.column → down ≡ line_start v.down v.first.row c.row
    → record { h = across; v = down } ≡ cell_corner w c
cell_corner_is v w c across down view across_is down_is = (λ i. record { h = across_is i; v = down_is i }) ∙ ap (λ (u : View). cell_corner u c) view

pub whole_cell_is : (v w : View) (c : Cell) (corner : Point) → v ≡ w → corner ≡ cell_corner w c
    → record { left = corner.h; top = corner.v; right = corner.h +ℤ v.across.cell; bottom = corner.v +ℤ v.down.cell } ≡ whole_cell w c
whole_cell_is v w c corner view is =
    λ i. record { left = (is i).h; top = (is i).v; right = (is i).h +ℤ (view i).across.cell; bottom = (is i).v +ℤ (view i).down.cell }

pub any_cell_is : (v w : View) (p : Point) (column row : ℤ) → v ≡ w → column ≡ line_at v.across v.first.column p.h → row ≡ line_at v.down v.first.row p.v
    → record { column = column; row = row } ≡ any_cell_at w p
any_cell_is v w p column row view column_is row_is = (λ i. record { column = column_is i; row = row_is i }) ∙ ap (λ (u : View). any_cell_at u p) view

-- ---- scroll bars

-- a scroll bar may be set so
pub setting_fits : (bound first : ℤ) → IsLine bound → IsLine first → (settable (pos 0) && (settable bound && (settable first && int_le (pos 0) bound))) ≡ true
unfolding settable
setting_fits bound first b f =
    let bl = b.least in
    let bm = b.most in
    let fl = f.least in
    let fm = f.most in
    let bound_fits : settable bound ≡ true = grind (arith, ints) in
    let first_fits : settable first ≡ true = grind (arith, ints) in
    let rises : int_le (pos 0) bound ≡ true = grind (arith, ints) in
    λ i. true && (bound_fits i && (first_fits i && rises i))

pub vertical_bar_is : (v : View) (across down : Axis) (left bottom : ℤ) → across ≡ v.across → down ≡ v.down → left ≡ end_of across → bottom ≡ end_of down
    → record { left = left; top = down.start; right = left +ℤ pos 16; bottom = bottom } ≡ vertical_bar v
vertical_bar_is v across down left bottom a d l b =
    (λ i. record { left = l i; top = down.start; right = l i +ℤ pos 16; bottom = b i }) ∙ (λ i. record { left = end_of (a i); top = (d i).start; right = end_of (a i) +ℤ pos 16; bottom = end_of (d i) })

pub horizontal_bar_is : (v : View) (across down : Axis) (top right : ℤ) → across ≡ v.across → down ≡ v.down → top ≡ end_of down → right ≡ end_of across
    → record { left = across.start; top = top; right = right; bottom = top +ℤ pos 16 } ≡ horizontal_bar v
horizontal_bar_is v across down top right a d t r =
    (λ i. record { left = across.start; top = t i; right = r i; bottom = t i +ℤ pos 16 }) ∙ (λ i. record { left = (a i).start; top = end_of (d i); right = end_of (a i); bottom = end_of (d i) +ℤ pos 16 })

-- the column and the row of the cell in the corner
pub column_of : (v : View) (first : Cell) → IsView v → first ≡ v.first → IsLine first.column
column_of v first h e = subst (λ (c : Cell). IsLine c.column) (sym e) h.first.column

pub row_of : (v : View) (first : Cell) → IsView v → first ≡ v.first → IsLine first.row
row_of v first h e = subst (λ (c : Cell). IsLine c.row) (sym e) h.first.row

pub is_made : {X E : Type 0} (r : Result X E) → is_ok r ≡ true → IsOk r
is_made (Ok x) e = search rules
is_made (Err x) e = absurd (cc)
