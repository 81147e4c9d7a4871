-- The notched window: its upper right corner is cut out.
use Rattle.std.specs.Prelude.{true, List, [], ◌∷◌, ℤ, pos, ◌+ℤ◌, ◌-ℤ◌, if◌then◌else◌}
use Rattle.std.specs.Int.{int_min, int_div_euclid}
use Rattle.tb_geom.specs.declared.point.Point.{Point}
use Rattle.tb_geom.specs.Points.{PixelSet}
use Rattle.tb_geom.specs.Rects.{rect_holds}
use Rattle.def_iface.specs.declared.size.Size.{Size}
use Rattle.def_iface.specs.declared.window_def.Stage.{Stage}
use Rattle.def_iface.specs.declared.window_def.Stage.TheVariants.{Fresh}
use Rattle.def_iface.specs.declared.window_def.WindowChange.{WindowChange}
use Rattle.def_iface.specs.declared.window_def.Hit.{Hit}
use Rattle.def_iface.specs.declared.window_def.Hit.TheVariants.{NoHit, InContent}
use Rattle.def_iface.specs.Sizes.{is_size, rect_of}
use Rattle.def_iface.specs.Lines.{frame_lines}
use Rattle.def_iface.specs.WindowMeaning.{WindowDefinition, size_after}
use Rattle.looks.specs.declared.area.Piece.{Piece}
use Rattle.looks.specs.Areas.{added_rect, removed_rect, area_holds}
use Rattle.looks.specs.declared.step.Step.{Step}
use Rattle.looks.specs.Damages.{look_damage}
use Rattle.looks.specs.Letters.{lettering}
use Rattle.looks.specs.Marks.{box, neg, black_fill, look_bit}
use Rattle.std_wdef.specs.declared.notched_window.NotchedWindow.{NotchedWindow}
use Rattle.def_iface.specs.WindowKeeping.{size_in}
use Rattle.std_wdef.specs.Looks.{ring}

-- n: min(w, h) div 2
unfoldable pub notch : Size → ℤ
notch s = int_div_euclid (int_min s.width s.height) (pos 2)

-- structure: -1 -1 w+1 h+1 without w-n+1 -1 w+1 n-1
abbrev pub notched_structure : Size → List Piece
notched_structure s =
    added_rect (ring 1 s)
    ∷ removed_rect (box (s.width -ℤ notch s +ℤ pos 1) (neg 1) (s.width +ℤ pos 1) (notch s -ℤ pos 1))
    ∷ []

-- content: 0 0 w h without w-n 0 w n
abbrev pub notched_content : Size → List Piece
notched_content s =
    added_rect (rect_of s)
    ∷ removed_rect (box (s.width -ℤ notch s) (pos 0) s.width (notch s))
    ∷ []

-- all black
abbrev pub notched_look : Size → List Step
notched_look s = black_fill (ring 1 s) ∷ []

abbrev pub notched_hit : Size → Point → Hit
notched_hit s p = if area_holds (notched_content s) p then InContent else NoHit

-- the pixels that the damage may have of a window that gets another size
abbrev pub notched_damage : (old new : Size) → PixelSet
notched_damage old new p = if is_size old then rect_holds (look_damage true (notched_look old) (notched_look new)) p else true

-- a notched window's definition as a value
abbrev pub notched_window : Stage → Size → WindowDefinition
notched_window stage size = record {
  stage = stage;
  size = size;
  structure = λ s. area_holds (notched_structure s);
  content = λ s. area_holds (notched_content s);
  bounds = λ s. ring 1 s;
  grow_lines = λ s. frame_lines (ring 1 s);
  picture = λ n font. look_bit (lettering font []) (notched_look (size_in n size));
  hit = λ n. notched_hit (size_in n size);
  damage = λ n. notched_damage size (size_in n size);
}

-- what the window is
abbrev pub notched_meaning : NotchedWindow → WindowDefinition
notched_meaning w = notched_window w.stage w.size

-- a window that was told nothing yet
abbrev pub fresh_notched : NotchedWindow
fresh_notched = record { stage = Fresh; size = record { width = pos 0; height = pos 0 } }

-- the window after a change: it keeps its size, which is all that it shows
abbrev pub told_notched : WindowChange → NotchedWindow → NotchedWindow
told_notched change w = record w { size = size_after change w.size }

-- the window at another stage
abbrev pub notched_at : Stage → NotchedWindow → NotchedWindow
notched_at stage w = record w { stage = stage }
