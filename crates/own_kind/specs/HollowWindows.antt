-- The hollow window as plain data. Rectangles are box left top right bottom, local to the window, whose size is w by h.
use Rattle.std.specs.Prelude.{ℕ, nat_abs, true, ◌&&◌, if◌then◌else◌, List, [], ◌∷◌, ◌++◌}
use Rattle.std.specs.Prelude.{ℤ, pos, ◌+ℤ◌, ◌-ℤ◌}
use Rattle.std.specs.Int.{int_div_euclid}
use Rattle.tb_geom.specs.declared.point.Point.{Point}
use Rattle.tb_geom.specs.declared.rect.Rect.{Rect}
use Rattle.def_iface.specs.declared.keeping.Flags.{Flags}
use Rattle.def_iface.specs.declared.size.Size.{Size}
use Rattle.def_iface.specs.declared.window_def.Stage.{Stage}
use Rattle.def_iface.specs.declared.window_def.Hit.{Hit}
use Rattle.def_iface.specs.declared.window_def.Hit.TheVariants.{InContent, InDrag, InGrow, InGoAway, InZoomIn, InZoomOut}
use Rattle.def_iface.specs.declared.window_def.WindowChange.{WindowChange}
use Rattle.def_iface.specs.Sizes.{rect_of}
use Rattle.def_iface.specs.Lines.{frame_lines}
use Rattle.def_iface.specs.WindowMeaning.{WindowDefinition, size_after}
use Rattle.def_iface.specs.WindowKeeping.{flags_after, title_after, flags_in, title_in, size_in}
use Rattle.looks.specs.declared.area.Piece.{Piece}
use Rattle.looks.specs.Areas.{added_rect, removed_rect, area_holds}
use Rattle.looks.specs.declared.spot.Spot.{Spot}
use Rattle.looks.specs.Spots.{first_part, spot}
use Rattle.looks.specs.declared.step.Step.{Step}
use Rattle.looks.specs.Letters.{lettering}
use Rattle.looks.specs.Marks.{box, neg, black_fill, white_fill, black_frame, black_text, when, cut_to, look_bit}
use Rattle.own_kind.specs.declared.hollow_window.HollowWindow.{HollowWindow}

-- all of the window, its hole too
abbrev pub outline : Size → Rect
outline s = box (neg 1) (neg 19) (s.width +ℤ pos 1) (s.height +ℤ pos 1)

-- the bar above the content
abbrev pub bar : Size → Rect
bar s = box (pos 0) (neg 18) s.width (neg 1)

-- the row below the content
abbrev pub lower_edge : Size → Rect
lower_edge s = box (neg 1) s.height (s.width +ℤ pos 1) (s.height +ℤ pos 1)

abbrev pub go_away_box : Rect
go_away_box = box (pos 8) (neg 16) (pos 19) (neg 5)

abbrev pub zoom_box : Size → Rect
zoom_box s = box (s.width -ℤ pos 19) (neg 16) (s.width -ℤ pos 8) (neg 5)

-- n: w div 3
unfoldable pub third : Size → ℤ
third s = int_div_euclid s.width (pos 3)

-- n columns, with n more to the right of them, and the rest to the left: none, where w is 1 or 2
abbrev pub hole : Size → Rect
hole s = box (s.width -ℤ third s -ℤ third s) (pos 0) (s.width -ℤ third s) s.height

abbrev pub hollow_structure : Size → List Piece
hollow_structure s = added_rect (outline s) ∷ removed_rect (hole s) ∷ []

-- in two parts, left and right of the hole
abbrev pub hollow_content : Size → List Piece
hollow_content s = added_rect (rect_of s) ∷ removed_rect (hole s) ∷ []

-- black, and a white bar, which has a black frame of its own where the window is highlighted; and the title
abbrev pub bar_line : Flags → Size → List Step
bar_line f s =
    black_fill (outline s)
    ∷ white_fill (bar s)
    ∷ when f.highlighted (black_frame (bar s))
    ∷ black_text (bar s) (nat_abs s.width) (neg 6)
    ∷ []

-- a go-away box, where it has one, and the mark that it is tracked
abbrev pub go_away_line : Flags → Size → List Step
go_away_line f s =
    cut_to (bar s) (when f.go_away (white_fill go_away_box))
    ∷ cut_to (bar s) (when f.go_away (black_frame go_away_box))
    ∷ cut_to (bar s) (when f.tracked (black_fill (box (pos 11) (neg 13) (pos 16) (neg 8))))
    ∷ []

-- a zoom box, and the mark that the window is zoomed
abbrev pub zoom_line : Flags → Size → List Step
zoom_line f s =
    cut_to (bar s) (white_fill (zoom_box s))
    ∷ cut_to (bar s) (black_frame (zoom_box s))
    ∷ cut_to (bar s) (when f.zoomed (black_fill (box (s.width -ℤ pos 16) (neg 13) (s.width -ℤ pos 11) (neg 8))))
    ∷ []

unfoldable pub hollow_look : Flags → Size → List Step
hollow_look f s = bar_line f s ++ go_away_line f s ++ zoom_line f s

-- what the zoom box does
abbrev pub zoom_hit : Flags → Hit
zoom_hit f = if f.zoomed then InZoomIn else InZoomOut

-- the parts that a highlighted window has beside the one by which it is dragged
abbrev pub hollow_spots : Flags → Size → List (Spot Hit)
hollow_spots f s =
    spot (f.highlighted && f.go_away) (bar s) go_away_box InGoAway
    ∷ spot f.highlighted (bar s) (zoom_box s) (zoom_hit f)
    ∷ spot f.highlighted (lower_edge s) (lower_edge s) InGrow
    ∷ []

abbrev pub hollow_hit : Flags → Size → Point → Hit
hollow_hit f s p = if area_holds (hollow_content s) p then InContent else first_part (hollow_spots f s) InDrag p

-- a hollow window's definition as a value, which leaves open how large its damage is
abbrev pub hollow_window : Stage → Flags → List ℕ → Size → WindowDefinition
hollow_window stage f title size = record {
  stage = stage;
  size = size;
  structure = λ s. area_holds (hollow_structure s);
  content = λ s. area_holds (hollow_content s);
  bounds = outline;
  grow_lines = λ s. frame_lines (outline s);
  picture = λ n font. look_bit (lettering font (title_in n title)) (hollow_look (flags_in n f) (size_in n size));
  hit = λ n. hollow_hit (flags_in n f) (size_in n size);
  damage = λ n p. true;
}

-- what the window is
abbrev pub window_meaning : HollowWindow → WindowDefinition
window_meaning w = hollow_window w.stage w.flags w.title w.size

-- the window after a change
abbrev pub told_window : WindowChange → HollowWindow → HollowWindow
told_window change w = record w {
  flags = flags_after change w.flags;
  title = title_after change w.title;
  size = size_after change w.size;
}

-- the window at another stage
abbrev pub window_at : Stage → HollowWindow → HollowWindow
window_at stage w = record w { stage = stage }
