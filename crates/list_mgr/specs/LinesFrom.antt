-- How much of a view may show otherwise where rows or columns were added or deleted.
use Rattle.std.specs.Prelude.{◌≡◌, ◌<ℤ◌, ℤ, Bool, true, false}
use Rattle.tb_geom.specs.declared.point.Point.{Point}
use Rattle.tb_geom.specs.declared.rect.Rect.{Rect}
use Rattle.tb_geom.specs.Rects.{rect_holds}
use Rattle.list_view.specs.Views.{View, any_cell_at, view_rect}
use Rattle.list_mgr.specs.declared.line_edit.LineAxis.{LineAxis}
use Rattle.list_mgr.specs.LineEdits.{line_of}

-- the rectangle is all of the view, where that was scrolled, and else it lacks only points of the view in lines before one
abbrev pub AreLinesFrom : LineAxis → Bool → View → ℤ → Rect → Type 0
AreLinesFrom axis true v line r = r ≡ view_rect v
AreLinesFrom axis false v line r =
    (p : Point) → rect_holds (view_rect v) p ≡ true → rect_holds r p ≡ false → line_of axis (any_cell_at v p) <ℤ line
