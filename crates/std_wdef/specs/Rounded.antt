-- The rounded window: the document window's box with round corners, black but for what its frame leaves.
use Rattle.std.specs.Prelude.{nat_abs, Bool, true, ◌&&◌, List, [], ◌∷◌, pos, is_none, if◌then◌else◌, ℕ}
use Rattle.tb_geom.specs.declared.point.Point.{Point}
use Rattle.tb_geom.specs.declared.rect.Rect.{Rect}
use Rattle.tb_geom.specs.Points.{PixelSet}
use Rattle.tb_geom.specs.Rects.{rect_holds}
use Rattle.shape_strips.specs.declared.corner.Corner.{Corner}
use Rattle.shape_strips.specs.declared.pen.Pen.{Pen}
use Rattle.shape_strips.specs.Rounds.{round_holds}
use Rattle.shape_strips.specs.Frames.{inside_holds}
use Rattle.def_iface.specs.declared.keeping.Flags.{Flags}
use Rattle.def_iface.specs.declared.size.Size.{Size}
use Rattle.def_iface.specs.declared.window_def.Hit.{Hit}
use Rattle.def_iface.specs.declared.window_def.Hit.TheVariants.{InContent, InDrag, InGoAway}
use Rattle.def_iface.specs.declared.window_def.Stage.{Stage}
use Rattle.def_iface.specs.declared.window_def.Stage.TheVariants.{Fresh}
use Rattle.def_iface.specs.declared.window_def.WindowChange.{WindowChange}
use Rattle.def_iface.specs.Sizes.{is_size, rect_of}
use Rattle.def_iface.specs.Lines.{frame_lines}
use Rattle.def_iface.specs.WindowKeeping.{no_flags, flags_after, flags_in, size_in, title_after, title_in}
use Rattle.def_iface.specs.WindowMeaning.{WindowDefinition, size_after}
use Rattle.looks.specs.declared.step.Step.{Step}
use Rattle.looks.specs.Damages.{look_damage}
use Rattle.looks.specs.Letters.{lettering}
use Rattle.looks.specs.Marks.{black_fill, black_frame, black_text, white_inside, inverted_inside, when, box, neg, look_bit}
use Rattle.std_wdef.specs.declared.kind.Shown.{Shown}
use Rattle.std_wdef.specs.declared.round_window.RoundWindow.{RoundWindow}
use Rattle.std_wdef.specs.Kinds.{is_titled}
use Rattle.std_wdef.specs.Looks.{document_box, title_bar, in_title_bar}
use Rattle.std_wdef.specs.Windows.{shown}

-- its corners, and the pen of its frame
abbrev pub window_corner : Corner
window_corner = record { width = 16; height = 16 }

abbrev pub frame_pen : Pen
frame_pen = record { width = 1; height = 1 }

-- the structure
abbrev pub round_structure : Size → PixelSet
round_structure s = round_holds (document_box s) window_corner

-- what the frame leaves of it, in a rectangle
abbrev pub inside_within : Rect → Size → PixelSet
inside_within r s p = rect_holds r p && inside_holds (document_box s) window_corner frame_pen p

-- the content: what it leaves of 0 0 w h, which may be nothing
abbrev pub round_content : Size → PixelSet
round_content s = inside_within (rect_of s) s

-- it shows a go-away box, and that is tracked, with the point inside
abbrev pub round_closes : Flags → Bool
round_closes f = f.highlighted && f.go_away

abbrev pub round_tracks : Flags → Bool
round_tracks f = round_closes f && f.tracked

abbrev pub go_away_box : Rect
go_away_box = box (pos 8) (neg 16) (pos 19) (neg 5)

-- 1. black, and what the frame leaves of the title bar white; 2. the title, from (w - tw) div 2 on; 3. highlighted with
-- go-away: the box, and what shows while it is tracked; 4. highlighted: what the frame leaves of the title bar inverted
abbrev pub round_look : Flags → Bool → Size → List Step
round_look f titled s =
    black_fill (document_box s)
    ∷ in_title_bar s (white_inside (document_box s) window_corner)
    ∷ when titled (black_text (title_bar s) (nat_abs s.width) (neg 6))
    ∷ in_title_bar s (when (round_closes f) (black_frame go_away_box))
    ∷ in_title_bar s (when (round_tracks f) (black_fill (box (pos 9) (neg 15) (pos 18) (neg 6))))
    ∷ in_title_bar s (when f.highlighted (inverted_inside (document_box s) window_corner))
    ∷ []

-- the pixels that the damage may have of a window that shows something else: once it has a size, those around what the
-- steps of its look can draw on that do not draw alike
abbrev pub round_damage : (same_title : Bool) → (old new : Shown) → PixelSet
round_damage same_title old new p =
    if is_size old.size
    then rect_holds (look_damage same_title (round_look old.flags old.titled old.size) (round_look new.flags new.titled new.size)) p
    else true

-- the part that a point lies in; the go-away box is cut to what the frame leaves of the title bar
abbrev pub round_hit : Flags → Size → Point → Hit
round_hit f s p =
    if round_content s p then InContent
    else (if round_closes f && (inside_within (title_bar s) s p && rect_holds go_away_box p) then InGoAway else InDrag)

-- a rounded window's definition as a value
abbrev pub round_window : Stage → Flags → List ℕ → Size → WindowDefinition
round_window stage f title size = record {
  stage = stage;
  size = size;
  structure = round_structure;
  content = round_content;
  bounds = document_box;
  grow_lines = λ s. frame_lines (document_box s);
  picture = λ n font. look_bit (lettering font (title_in n title)) (round_look (flags_in n f) (is_titled (title_in n title)) (size_in n size));
  hit = λ n. round_hit (flags_in n f) (size_in n size);
  damage = λ n. round_damage (is_none n.title) (shown f title size) (shown (flags_in n f) (title_in n title) (size_in n size));
}

-- what the window is
abbrev pub round_meaning : RoundWindow → WindowDefinition
round_meaning w = round_window w.stage w.flags w.title w.size

-- a window that was told nothing yet
abbrev pub fresh_round : RoundWindow
fresh_round = record { stage = Fresh; flags = no_flags; title = []; size = record { width = pos 0; height = pos 0 } }

-- the window after a change
abbrev pub told_round : WindowChange → RoundWindow → RoundWindow
told_round change w = record w {
  flags = flags_after change w.flags;
  title = title_after change w.title;
  size = size_after change w.size;
}

-- the window at another stage
abbrev pub round_at : Stage → RoundWindow → RoundWindow
round_at stage w = record w { stage = stage }
