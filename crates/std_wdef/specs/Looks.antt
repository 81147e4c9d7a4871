-- What the standard windows look like: each line is a step, and later ones replace earlier ones. Rectangles are
-- box left top right bottom, local to the window, whose content is w by h.
use Rattle.std.specs.Prelude.{ℕ, nat_abs, Bool, List, [], ◌∷◌, ◌++◌, ℤ, pos, ◌+ℤ◌, ◌-ℤ◌}
use Rattle.tb_geom.specs.declared.rect.Rect.{Rect}
use Rattle.def_iface.specs.declared.size.Size.{Size}
use Rattle.def_iface.specs.Sizes.{rect_of}
use Rattle.looks.specs.declared.step.Step.{Step}
use Rattle.looks.specs.Marks.{black_fill, white_fill, black_frame, white_plate, black_text, when, cut_to, box, neg}
use Rattle.std_wdef.specs.declared.kind.Variation.{Variation}
use Rattle.std_wdef.specs.declared.kind.Variation.TheVariants.{Document, Dialog, Plain, Shadow, NoGrow, Zoom}
use Rattle.def_iface.specs.declared.keeping.Flags.{Flags}
use Rattle.std_wdef.specs.Kinds.{has_size_box, closes, tracks, zooms, grows}

-- the pixels up to a distance from the content
abbrev pub ring : ℕ → Size → Rect
ring k s = box (neg k) (neg k) (s.width +ℤ pos k) (s.height +ℤ pos k)

-- the structure of the document kinds
abbrev pub document_box : Size → Rect
document_box s = box (neg 1) (neg 19) (s.width +ℤ pos 1) (s.height +ℤ pos 1)

-- the box around the structure of a shadow window
abbrev pub shadow_box : Size → Rect
shadow_box s = box (neg 1) (neg 1) (s.width +ℤ pos 3) (s.height +ℤ pos 3)

abbrev pub size_box : Size → Rect
size_box s = box (s.width -ℤ pos 15) (s.height -ℤ pos 15) s.width s.height

-- lines 2 to 5 are cut to the title bar, and line 6 to the content rectangle
abbrev pub title_bar : Size → Rect
title_bar s = box (pos 0) (neg 18) s.width (neg 1)

abbrev pub in_title_bar : Size → Step → Step
in_title_bar s = cut_to (title_bar s)

abbrev pub in_content : Size → Step → Step
in_content s = cut_to (rect_of s)

-- a row of the title bar
abbrev pub stripe : ℤ → Flags → Size → Step
stripe row f s = in_title_bar s (when f.highlighted (black_fill (box (pos 1) row (s.width -ℤ pos 1) (row +ℤ pos 1))))

abbrev pub plain_look : Size → List Step
plain_look s = black_fill (ring 1 s) ∷ white_fill (rect_of s) ∷ []

abbrev pub shadow_look : Size → List Step
shadow_look s = black_fill (shadow_box s) ∷ []

-- black at the distances 4, 5 and 8, white at the others of 1 .. 8
abbrev pub dialog_look : Size → List Step
dialog_look s =
    black_fill (ring 8 s)
    ∷ white_fill (ring 7 s)
    ∷ black_fill (ring 5 s)
    ∷ white_fill (ring 3 s)
    ∷ []

-- 1. the structure white, its frame black, row -1 black; 2. highlighted: the stripes
abbrev pub bar_lines : Flags → Size → List Step
bar_lines f s =
    white_fill (document_box s)
    ∷ black_frame (document_box s)
    ∷ black_fill (box (neg 1) (neg 1) (s.width +ℤ pos 1) (pos 0))
    ∷ stripe (neg 15) f s
    ∷ stripe (neg 13) f s
    ∷ stripe (neg 11) f s
    ∷ stripe (neg 9) f s
    ∷ stripe (neg 7) f s
    ∷ stripe (neg 5) f s
    ∷ []

-- 3. highlighted with go-away: the box, and what shows while it is tracked
abbrev pub go_away_line : Variation → Flags → Size → List Step
go_away_line v f s =
    in_title_bar s (when (closes v f) (white_fill (box (pos 7) (neg 16) (pos 20) (neg 4))))
    ∷ in_title_bar s (when (closes v f) (black_frame (box (pos 8) (neg 16) (pos 19) (neg 5))))
    ∷ in_title_bar s (when (tracks v f) (black_fill (box (pos 9) (neg 15) (pos 18) (neg 6))))
    ∷ []

-- 4. highlighted zoom: the box, and the smaller one in it
abbrev pub zoom_line : Variation → Flags → Size → List Step
zoom_line v f s = let w = s.width in
    in_title_bar s (when (zooms v f) (white_fill (box (w -ℤ pos 20) (neg 16) (w -ℤ pos 7) (neg 4))))
    ∷ in_title_bar s (when (zooms v f) (black_frame (box (w -ℤ pos 19) (neg 16) (w -ℤ pos 8) (neg 5))))
    ∷ in_title_bar s (when (zooms v f) (black_frame (box (w -ℤ pos 19) (neg 16) (w -ℤ pos 12) (neg 9))))
    ∷ []

-- 5. the title, of width tw, x being (w - tw) div 2: white behind it, from x - 4 to x + tw + 4, and the text at pen x
abbrev pub title_line : Bool → Size → List Step
title_line titled s =
    when titled (white_plate (title_bar s) (record { width = nat_abs s.width; margin = 4; top = neg 16; bottom = neg 4 }))
    ∷ when titled (black_text (title_bar s) (nat_abs s.width) (neg 6))
    ∷ []

-- 6. the size box; highlighted: what is in it
abbrev pub size_line : Variation → Flags → Size → List Step
size_line v f s = let w = s.width in let h = s.height in
    in_content s (when (has_size_box v) (white_fill (size_box s)))
    ∷ in_content s (when (has_size_box v) (black_fill (box (w -ℤ pos 15) (h -ℤ pos 15) (w -ℤ pos 14) h)))
    ∷ in_content s (when (has_size_box v) (black_fill (box (w -ℤ pos 15) (h -ℤ pos 15) w (h -ℤ pos 14))))
    ∷ in_content s (when (grows v f) (black_frame (box (w -ℤ pos 11) (h -ℤ pos 11) (w -ℤ pos 4) (h -ℤ pos 4))))
    ∷ []

-- the lines, one after another
unfoldable pub document_look : Variation → Flags → Bool → Size → List Step
document_look v f titled s = bar_lines f s ++ go_away_line v f s ++ zoom_line v f s ++ title_line titled s ++ size_line v f s

-- what a window of a kind looks like; whether its title is empty is a matter of the document kinds alone
abbrev pub look_of : Variation → Flags → Bool → Size → List Step
look_of Plain f titled s = plain_look s
look_of Shadow f titled s = shadow_look s
look_of Dialog f titled s = dialog_look s
look_of Document f titled s = document_look Document f titled s
look_of NoGrow f titled s = document_look NoGrow f titled s
look_of Zoom f titled s = document_look Zoom f titled s
