-- The banner window as plain data: its box, its look, and what a click on it hits.
use Rattle.std.specs.Prelude.{ℕ, pos, ◌+ℤ◌, true, if◌then◌else◌, codes, List, [], ◌∷◌}
use Rattle.tb_geom.specs.declared.point.Point.{Point}
use Rattle.tb_geom.specs.declared.rect.Rect.{Rect}
use Rattle.tb_geom.specs.Points.{PixelSet}
use Rattle.tb_geom.specs.Rects.{rect_holds}
use Rattle.def_iface.specs.declared.size.Size.{Size}
use Rattle.def_iface.specs.declared.window_def.Hit.{Hit}
use Rattle.def_iface.specs.declared.window_def.Hit.TheVariants.{NoHit, InContent, InDrag}
use Rattle.def_iface.specs.declared.window_def.Stage.{Stage}
use Rattle.def_iface.specs.Sizes.{is_size, rect_of}
use Rattle.def_iface.specs.Lines.{frame_lines}
use Rattle.def_iface.specs.WindowMeaning.{WindowDefinition}
use Rattle.def_iface.specs.WindowKeeping.{size_in}
use Rattle.looks.specs.declared.pen.Baseline.TheVariants.{At}
use Rattle.looks.specs.declared.step.Step.{Step}
use Rattle.looks.specs.Damages.{look_damage}
use Rattle.looks.specs.Letters.{lettering}
use Rattle.looks.specs.Marks.{box, neg, black_fill, white_fill, text_at, look_bit}
use Rattle.looks.specs.Spots.{spot, first_part}

-- nine rows above the content, with one row of the frame between the two
abbrev pub banner_of : Size → Rect
banner_of s = box (pos 0) (neg 10) s.width (neg 1)

-- content and banner with a frame of one pixel around both
abbrev pub box_of : Size → Rect
box_of s = box (neg 1) (neg 11) (s.width +ℤ pos 1) (s.height +ℤ pos 1)

-- the word that stands on the banner
abbrev pub word : List ℕ
word = codes "Hello"

-- black all over, a white banner, the word in black from 1 -2 on, and a white content
abbrev pub banner_look : Size → List Step
banner_look s =
    black_fill (box_of s)
    ∷ white_fill (banner_of s)
    ∷ text_at (box_of s) (pos 1) (At (neg 2))
    ∷ white_fill (rect_of s)
    ∷ []

-- the banner drags the window
abbrev pub banner_hit : Size → Point → Hit
banner_hit s p = first_part (spot true (rect_of s) (rect_of s) InContent ∷ spot true (banner_of s) (banner_of s) InDrag ∷ []) NoHit p

-- the pixels that the damage may have of a window that gets another size, once it has one
abbrev pub banner_damage : (old new : Size) → PixelSet
banner_damage old new p = if is_size old then rect_holds (look_damage true (banner_look old) (banner_look new)) p else true

-- a banner window's definition as a value
abbrev pub banner_window : Stage → Size → WindowDefinition
banner_window stage size = record {
  stage = stage;
  size = size;
  structure = λ s. rect_holds (box_of s);
  content = λ s. rect_holds (rect_of s);
  bounds = box_of;
  grow_lines = λ s. frame_lines (box_of s);
  picture = λ n font. look_bit (lettering font word) (banner_look (size_in n size));
  hit = λ n. banner_hit (size_in n size);
  damage = λ n. banner_damage size (size_in n size);
}
