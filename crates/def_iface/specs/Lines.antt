-- The lines of outlines: rectangles of which no two share a pixel.
use Rattle.std.specs.Prelude.{◌≡◌, pos, ◌+ℤ◌, ◌-ℤ◌, true, false, ◌||◌, List, [], ◌∷◌, ◌++◌, replicate}
use Rattle.std.specs.Int.{int_min, int_max}
use Rattle.tb_geom.specs.declared.point.Point.{Point}
use Rattle.tb_geom.specs.declared.rect.Rect.{Rect}
use Rattle.tb_geom.specs.Points.{PixelSet}
use Rattle.tb_geom.specs.Rects.{rect_holds, empty_rect}

-- one of the rectangles has the pixel
abbrev pub line_holds : List Rect → PixelSet
line_holds [] p = false
line_holds (r ∷ rs) p = rect_holds r p || line_holds rs p

-- no two of them share a pixel
abbrev pub AreApart : List Rect → Type 0
AreApart [] = Unit {0}
AreApart (r ∷ rs) = ((p : Point) → rect_holds r p ≡ true → line_holds rs p ≡ false) × AreApart rs

-- what is left of a rectangle without its outermost pixels
abbrev pub inside : Rect → Rect
inside r =
    let left = int_min r.right (r.left +ℤ pos 1) in
    let top = int_min r.bottom (r.top +ℤ pos 1) in
    record { left = left; top = top; right = int_max left (r.right -ℤ pos 1); bottom = int_max top (r.bottom -ℤ pos 1) }

-- what a rectangle has beside one inside it, as four sides: above, below, left and right of that
abbrev pub sides_around : Rect → Rect → List Rect
sides_around r i =
    record r { bottom = i.top }
    ∷ record r { top = i.bottom }
    ∷ record i { left = r.left; right = i.left }
    ∷ record i { left = i.right; right = r.right }
    ∷ []

-- the outermost pixels
abbrev pub four_sides : Rect → List Rect
four_sides r = sides_around r (inside r)

-- those, and four empty rectangles
abbrev pub frame_lines : Rect → List Rect
frame_lines r = four_sides r ++ replicate 4 empty_rect
