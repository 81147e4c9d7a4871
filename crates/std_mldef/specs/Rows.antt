-- The rows of a menu.
use Rattle.std.specs.Prelude.{ℕ, ◌+◌, ◌*◌, zero, suc, Bool, false, not, ◌==◌, length, if◌then◌else◌, List, [], ◌∷◌, Option, None, Some, ℤ, pos, ◌+ℤ◌, ◌-ℤ◌, int_le, ◌&&◌, slice_get}
use Rattle.std.specs.Option.{option_map_or}
use Rattle.tb_geom.specs.declared.point.Point.{Point}
use Rattle.tb_geom.specs.declared.rect.Rect.{Rect}
use Rattle.tb_geom.specs.Points.{PixelSet}
use Rattle.tb_geom.specs.Rects.{between, rect_holds}
use Rattle.looks.specs.declared.lettered.Lettered.{Lettered}
use Rattle.looks.specs.declared.pen.Baseline.TheVariants.{At as AtRow}
use Rattle.looks.specs.declared.step.Step.{Step}
use Rattle.looks.specs.Letters.{lettering}
use Rattle.looks.specs.Lettered.{lettered_value}
use Rattle.looks.specs.Marks.{black_fill, black_frame, box, grayed, inverted, look_bit, neg, text_at, when}
use Rattle.menu_record.specs.declared.item.MenuItem.{MenuItem}
use Rattle.menu_record.specs.declared.menu.Menu.{Menu}
use Rattle.menu_record.specs.Menus.{is_line, is_bright, can_choose}
use Rattle.def_iface.specs.declared.size.Size.{Size}
use Rattle.std_mldef.specs.declared.rows.Row.{Row}
use Rattle.std_mldef.specs.Measures.{menu_size}

-- the width of a row and its top lie in 0..100000
abbrev pub is_row : Row → Bool
is_row r = (int_le (pos 0) r.width && int_le r.width (pos 100000)) && (int_le (pos 0) r.top && int_le r.top (pos 100000))

-- all of a row
abbrev pub row_box : Row → Rect
row_box r = box (pos 0) r.top r.width (r.top +ℤ pos 16)

-- what of it lies inside the frame
abbrev pub inner_box : Row → Rect
inner_box r = box (pos 1) r.top (r.width -ℤ pos 1) (r.top +ℤ pos 16)

-- the dividing line: the eighth of the row's pixel rows, counted from 0, inside the frame
abbrev pub line_box : Row → Rect
line_box r = box (pos 1) (r.top +ℤ pos 8) (r.width -ℤ pos 1) (r.top +ℤ pos 9)

-- a text in a row, from a column on
abbrev pub text_in : Row → ℤ → Step
text_in r column = text_at (row_box r) column (AtRow (r.top +ℤ pos 12))

-- the mark as a text
abbrev pub mark_text : Option ℕ → List ℕ
mark_text None = []
mark_text (Some c) = c ∷ []

-- the key as a text: ^ and the character
abbrev pub key_text : Option ℕ → List ℕ
key_text None = []
key_text (Some c) = 0x5E ∷ c ∷ []

-- a step with its text
abbrev pub lettered : List ℕ → Step → Lettered
lettered text step = record { text = text; step = step }

-- a row of these texts, or a line across it; gray where the item does not show as enabled, inverted where it is
-- highlighted
abbrev pub row_steps : Row → Bool → List ℕ → List ℕ → List ℕ → Bool → Bool → List Lettered
row_steps r line mark text key bright lit =
    lettered mark (when (not line) (text_in r (pos 3)))
    ∷ lettered text (when (not line) (text_in r (pos 15)))
    ∷ lettered key (when (not line) (text_in r (r.width -ℤ pos 21)))
    ∷ lettered [] (when line (black_fill (line_box r)))
    ∷ lettered [] (when (not bright) (grayed (inner_box r)))
    ∷ lettered [] (when lit (inverted (inner_box r))) ∷ []

-- the row of an item: its mark, its text and its key
unfoldable pub item_steps : Row → MenuItem → Bool → Bool → List Lettered
item_steps r item bright lit = row_steps r (is_line item) (mark_text item.mark) item.text (key_text item.key) bright lit

-- the row of the item at place k, from 0 on, of a menu of this size
abbrev pub row_of : Size → ℕ → Row
row_of size k = record { width = size.width; top = pos (16 * k + 1) }

-- this is the highlighted item, by its place from 0 on
abbrev pub is_lit : Option ℕ → ℕ → Bool
is_lit None k = false
is_lit (Some n) k = n == k + 1

-- what the row of the item at place k makes of the bit d
abbrev pub row_value : List ℕ → Menu → Option ℕ → ℕ → Point → Bool → Bool
row_value font menu lit k p d =
    option_map_or (λ item. lettered_value font (item_steps (row_of (menu_size font menu) k) item (is_bright menu item) (is_lit lit k)) p d)
    (slice_get menu.items k) d

-- what the first n rows make of it
abbrev pub rows_value : List ℕ → Menu → Option ℕ → ℕ → Point → Bool → Bool
rows_value font menu lit zero p d = d
rows_value font menu lit (suc n) p d = row_value font menu lit n p (rows_value font menu lit n p d)

-- the rectangle of a menu
abbrev pub menu_box : Size → Rect
menu_box size = box (pos 0) (pos 0) size.width size.height

-- what of a menu lies inside its frame
abbrev pub inside_frame : Size → Rect
inside_frame size = box (pos 1) (pos 1) (size.width -ℤ pos 1) (size.height -ℤ pos 1)

-- a menu of this size without its rows: white with a black frame
abbrev pub framed_bit : List ℕ → Size → PixelSet
framed_bit font size p = look_bit (lettering font []) (black_frame (menu_box size) ∷ []) p

-- the picture of a menu: its rows, over that
unfoldable pub menu_bit : List ℕ → Option ℕ → Menu → PixelSet
menu_bit font lit menu p = rows_value font menu lit (length menu.items) p (framed_bit font (menu_size font menu) p)

-- the item that a point chooses, of items that begin at place k: that in whose row it lies, if it can be chosen
abbrev pub chosen_from : Menu → Size → ℕ → List MenuItem → Point → Option ℕ
chosen_from menu size k [] p = None
chosen_from menu size k (item ∷ items) p =
    if rect_holds (inner_box (row_of size k)) p then (if can_choose menu item then Some (k + 1) else None)
    else chosen_from menu size (k + 1) items p

-- and of all items of a menu
abbrev pub chosen : List ℕ → Menu → Point → Option ℕ
chosen font menu p = chosen_from menu (menu_size font menu) 0 menu.items p

-- the pixel's row is one of the rows of the highlighted item
abbrev pub in_band : Option ℕ → PixelSet
in_band None p = false
in_band (Some n) p = between (pos (16 * n) -ℤ pos 15) p.v (pos (16 * n) +ℤ pos 1)

-- those rows, across the range of coordinates
abbrev pub band : Option ℕ → Rect
band None = box (pos 0) (pos 0) (pos 0) (pos 0)
band (Some n) = box (neg 16384) (pos (16 * n) -ℤ pos 15) (pos 16384) (pos (16 * n) +ℤ pos 1)
