-- The picture of a menu bar, and the title that a point is on.
use Rattle.std.specs.Prelude.{ℕ, ◌+◌, Bool, not, if◌then◌else◌, List, [], ◌∷◌, Option, None, Some, pos}
use Rattle.std.specs.Ordering.{int_eq}
use Rattle.tb_geom.specs.declared.point.Point.{Point}
use Rattle.tb_geom.specs.declared.rect.Rect.{Rect}
use Rattle.tb_geom.specs.Points.{PixelSet}
use Rattle.tb_geom.specs.Rects.{rect_holds}
use Rattle.strike_font.specs.Text.{text_width}
use Rattle.looks.specs.declared.lettered.Lettered.{Lettered}
use Rattle.looks.specs.declared.pen.Baseline.TheVariants.{At as AtRow}
use Rattle.looks.specs.declared.step.Step.{Step}
use Rattle.looks.specs.Lettered.{lettered_value}
use Rattle.looks.specs.Marks.{box, grayed, inverted, text_at, when}
use Rattle.desk_ground.specs.declared.bar.TitleHit.{TitleHit}
use Rattle.desk_ground.specs.declared.titles.BarTitle.{BarTitle}

-- the columns that a title takes
abbrev pub title_width : List ℕ → BarTitle → ℕ
title_width font t = text_width font t.text + 16

-- the box of a title of so many columns that begins at a column: above the last row of the bar
abbrev pub title_box : ℕ → ℕ → Rect
title_box left width = box (pos left) (pos 0) (pos (left + width)) (pos 19)

-- the bar, as wide as any screen
abbrev pub bar_box : Rect
bar_box = box (pos 0) (pos 0) (pos 1024) (pos 20)

-- a text in the bar, from a column on
abbrev pub text_in_bar : ℕ → Step
text_in_bar column = text_at bar_box (pos column) (AtRow (pos 14))

-- a step with its text
abbrev pub lettered : List ℕ → Step → Lettered
lettered text step = record { text = text; step = step }

-- a title that begins at a column: its text, 8 columns further, gray where its menu is not enabled, inverted where it is
-- highlighted
abbrev pub title_steps : ℕ → ℕ → BarTitle → List Lettered
title_steps left width t =
    lettered t.text (text_in_bar (left + 8))
    ∷ lettered [] (when (not t.enabled) (grayed (title_box left width)))
    ∷ lettered [] (when t.highlighted (inverted (title_box left width))) ∷ []

-- what the titles from a column on make of the bit d, one after another
abbrev pub titles_value : List ℕ → ℕ → List BarTitle → Point → Bool → Bool
titles_value font left [] p d = d
titles_value font left (t ∷ ts) p d =
    titles_value font (left + title_width font t) ts p (lettered_value font (title_steps left (title_width font t) t) p d)

-- the picture of the bar: white, its last row, 19, black, and its titles from column 10 on
abbrev pub bar_picture : List ℕ → List BarTitle → PixelSet
bar_picture font titles p = titles_value font 10 titles p (int_eq p.v (pos 19))

-- of titles from a column on, the one in whose box the point lies
abbrev pub title_at : List ℕ → ℕ → List BarTitle → Point → Option TitleHit
title_at font left [] p = None
title_at font left (t ∷ ts) p =
    if rect_holds (title_box left (title_width font t)) p then Some (record { menu = t.menu; left = pos left })
    else title_at font (left + title_width font t) ts p
