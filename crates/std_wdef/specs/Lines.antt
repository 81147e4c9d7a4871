-- The lines of the outline that stands for a standard window while its size is chosen.
use Rattle.std.specs.Prelude.{if◌then◌else◌, List, [], ◌∷◌, ◌++◌, replicate, ℤ, pos, ◌-ℤ◌}
use Rattle.std.specs.Int.{int_max}
use Rattle.tb_geom.specs.declared.rect.Rect.{Rect}
use Rattle.tb_geom.specs.Rects.{empty_rect}
use Rattle.def_iface.specs.declared.size.Size.{Size}
use Rattle.def_iface.specs.Lines.{four_sides}
use Rattle.looks.specs.Marks.{box}
use Rattle.std_wdef.specs.declared.kind.Variation.{Variation}
use Rattle.std_wdef.specs.Kinds.{has_size_box}
use Rattle.std_wdef.specs.Areas.{structure_box}

-- so far before the end of the content, and not before its first column or row
abbrev pub back : ℤ → ℤ → ℤ
back end far = int_max (pos 0) (end -ℤ far)

-- column w-15 of 0 0 w h, where it has that
abbrev pub size_box_column : Size → Rect
size_box_column s = box (back s.width (pos 15)) (pos 0) (back s.width (pos 14)) s.height

-- row h-15, left of that column and right of it
abbrev pub left_of_column : Size → Rect
left_of_column s = box (pos 0) (back s.height (pos 15)) (back s.width (pos 15)) (back s.height (pos 14))

abbrev pub right_of_column : Size → Rect
right_of_column s = box (back s.width (pos 14)) (back s.height (pos 15)) s.width (back s.height (pos 14))

abbrev pub size_box_lines : Size → List Rect
size_box_lines s = size_box_column s ∷ left_of_column s ∷ right_of_column s ∷ empty_rect ∷ []

-- the outermost pixels of the structure's box, and the lines of the size box where the kind has one
abbrev pub grow_lines : Variation → Size → List Rect
grow_lines v s = four_sides (structure_box v s) ++ (if has_size_box v then size_box_lines s else replicate 4 empty_rect)
