-- Where a text stands in its window.
use Rattle.std.specs.Prelude.{ℕ, ◌+◌, ◌≤◌, max, Bool, ◌&&◌, nat_le, if◌then◌else◌, ℤ, pos, negsuc, ◌+ℤ◌, ◌-ℤ◌, ◌≤ℤ◌, int_le}
use Rattle.tb_geom.specs.declared.rect.Rect.{Rect}
use Rattle.tb_geom.specs.Rects.{is_in_range}
use Rattle.text_record.specs.declared.placing.Placing.{Placing}

-- the height of a line: at least 1
abbrev pub line_height : ℕ → ℕ → ℕ → ℕ
line_height ascent descent leading = max 1 (ascent + descent + leading)

-- a rectangle with 3 columns and rows more on each side
abbrev pub widened : Rect → Rect
widened r = record { left = r.left +ℤ negsuc 2; top = r.top +ℤ negsuc 2; right = r.right +ℤ pos 3; bottom = r.bottom +ℤ pos 3 }

-- the box of a record: the view, or where framed the view with 3 more on each side
abbrev pub box_of : Bool → Rect → Rect
box_of framed view = if framed then widened view else view

-- whether a number lies in -16777216..16777215
abbrev pub is_near : ℤ → Bool
is_near x = int_le (negsuc 16777215) x && int_le x (pos 16777215)

-- whether there are 1..1024 pixels from one side to another
abbrev pub is_span : ℤ → ℤ → Bool
is_span low high = int_le (pos 1) (high -ℤ low) && int_le (high -ℤ low) (pos 1024)

-- whether a rectangle has 1..1024 columns and rows
abbrev pub is_sized : Rect → Bool
is_sized r = is_span r.left r.right && is_span r.top r.bottom

-- whether lines may be so wide
abbrev pub is_width : ℕ → Bool
is_width n = nat_le 1 n && nat_le n 16383

-- whether a text may stand so: the numbers are in range, and the sides of the box are coordinates
abbrev pub is_placing : Bool → Placing → Bool
is_placing framed p =
    is_near p.left && (is_near p.top && (is_width p.width && (is_sized p.view && is_in_range (box_of framed p.view))))

-- the same in numbers
pub record IsPlacing (left top : ℤ) (width : ℕ) (view : Rect) : Type 0 where
  pub left_from : negsuc 16777215 ≤ℤ left
  pub left_to : left ≤ℤ pos 16777215
  pub top_from : negsuc 16777215 ≤ℤ top
  pub top_to : top ≤ℤ pos 16777215
  pub width_from : 1 ≤ width
  pub width_to : width ≤ 16383
  pub view_left_from : negsuc 16383 ≤ℤ view.left
  pub view_right_to : view.right ≤ℤ pos 16383
  pub view_top_from : negsuc 16383 ≤ℤ view.top
  pub view_bottom_to : view.bottom ≤ℤ pos 16383
  pub view_columns : (view.left +ℤ pos 1) ≤ℤ view.right
  pub view_rows : (view.top +ℤ pos 1) ≤ℤ view.bottom
  pub view_columns_to : view.right ≤ℤ (view.left +ℤ pos 1024)
  pub view_rows_to : view.bottom ≤ℤ (view.top +ℤ pos 1024)
