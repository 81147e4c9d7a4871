-- Structure and content of the standard windows: rectangles added and taken away.
use Rattle.std.specs.Prelude.{List, [], ◌∷◌, pos, ◌+ℤ◌}
use Rattle.tb_geom.specs.declared.rect.Rect.{Rect}
use Rattle.def_iface.specs.declared.size.Size.{Size}
use Rattle.def_iface.specs.Sizes.{rect_of}
use Rattle.looks.specs.declared.area.Piece.{Piece}
use Rattle.looks.specs.Areas.{added_rect, removed_rect, only}
use Rattle.looks.specs.Marks.{box}
use Rattle.std_wdef.specs.declared.kind.Variation.{Variation}
use Rattle.std_wdef.specs.declared.kind.Variation.TheVariants.{Document, Dialog, Plain, Shadow, NoGrow, Zoom}
use Rattle.std_wdef.specs.Kinds.{has_size_box, is_shadow}
use Rattle.std_wdef.specs.Looks.{ring, document_box, shadow_box, size_box}

-- the first rectangle of the structure
abbrev pub first_box : Variation → Size → Rect
first_box Plain s = ring 1 s
first_box Shadow s = ring 1 s
first_box Dialog s = ring 8 s
first_box Document s = document_box s
first_box NoGrow s = document_box s
first_box Zoom s = document_box s

-- a shadow window has a second one
abbrev pub structure_of : Variation → Size → List Piece
structure_of v s =
    added_rect (first_box v s)
    ∷ only (is_shadow v) (added_rect (box (pos 1) (pos 1) (s.width +ℤ pos 3) (s.height +ℤ pos 3)))
    ∷ []

-- the content is the rectangle of the size, without the size box where there is one
abbrev pub content_of : Variation → Size → List Piece
content_of v s =
    added_rect (rect_of s)
    ∷ only (has_size_box v) (removed_rect (size_box s))
    ∷ []

-- the box of the structure
abbrev pub structure_box : Variation → Size → Rect
structure_box Shadow s = shadow_box s
structure_box Plain s = ring 1 s
structure_box Dialog s = ring 8 s
structure_box Document s = document_box s
structure_box NoGrow s = document_box s
structure_box Zoom s = document_box s
