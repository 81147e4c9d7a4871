-- The strip of a menu as plain data: its items stand side by side, from left to right, each in a cell of 12 columns and 10
-- rows, and a frame lies around them all.
use Rattle.std.specs.Prelude.{ℕ, ◌+◌, ◌*◌, ◌/◌, nat_abs, if◌then◌else◌, List, [], ◌∷◌, Option, None, Some, length, slice_get, pos, ◌+ℤ◌, ◌-ℤ◌}
use Rattle.std.specs.Option.{option_map_or, unwrap_or}
use Rattle.tb_geom.specs.declared.point.Point.{Point}
use Rattle.tb_geom.specs.declared.rect.Rect.{Rect}
use Rattle.tb_geom.specs.Points.{PixelSet}
use Rattle.tb_geom.specs.Rects.{rect_holds}
use Rattle.looks.specs.declared.step.Step.{Step}
use Rattle.looks.specs.Damages.{joined}
use Rattle.looks.specs.Letters.{lettering}
use Rattle.looks.specs.Marks.{black_frame, box, inverted, look_bit}
use Rattle.menu_record.specs.declared.menu.Menu.{Menu}
use Rattle.menu_record.specs.Menus.{can_choose}
use Rattle.def_iface.specs.declared.size.Size.{Size}
use Rattle.def_iface.specs.MenuMeaning.{MenuDefinition}
use Rattle.own_kind.specs.declared.strip_menu.StripMenu.{StripMenu}

abbrev pub strip_size : Menu → Size
strip_size menu = record { width = pos (12 * length menu.items + 2); height = pos 12 }

-- the cell of the item of this number, which counts from 1
abbrev pub cell : ℕ → Rect
cell n = box (pos (12 * n) -ℤ pos 11) (pos 1) (pos (12 * n) +ℤ pos 1) (pos 11)

-- that of the highlighted item, and no pixel where none is
abbrev pub lit_cell : Option ℕ → Rect
lit_cell None = box (pos 0) (pos 0) (pos 0) (pos 0)
lit_cell (Some n) = cell n

-- the pixels of that cell
unfoldable pub is_lit : Option ℕ → PixelSet
is_lit lit p = rect_holds (lit_cell lit) p

-- white with a black frame, and the cell of the highlighted item black
abbrev pub strip_look : Size → Option ℕ → List Step
strip_look size lit = black_frame (box (pos 0) (pos 0) size.width size.height) ∷ inverted (lit_cell lit) ∷ []

abbrev pub strip_bit : Option ℕ → List ℕ → Menu → PixelSet
strip_bit lit font menu p = look_bit (lettering font []) (strip_look (strip_size menu) lit) p

-- the cells of as many items as a menu may have
abbrev pub all_cells : Rect
all_cells = box (pos 1) (pos 1) (pos 373) (pos 11)

-- the item at a place, from 0 on, if it can be chosen
abbrev pub choice_at : Menu → ℕ → Option ℕ
choice_at menu k = option_map_or (λ item. if can_choose menu item then Some (k + 1) else None) (slice_get menu.items k) None

-- the place of the item in whose cell a point lies, from 0 on
abbrev pub place_of : Point → ℕ
place_of p = nat_abs (p.h -ℤ pos 1) / 12

-- the item in whose cell the point lies, if it can be chosen
abbrev pub chosen : Menu → Point → Option ℕ
chosen menu p = if rect_holds all_cells p then choice_at menu (place_of p) else None

-- of which item is highlighted it goes by what it is told last, and no more is drawn anew than what lies around both cells
abbrev pub strip_meaning : StripMenu → MenuDefinition
strip_meaning m = record {
  stage = m.stage;
  size = λ font menu. strip_size menu;
  choose = λ font menu. chosen menu;
  picture = λ n font menu. strip_bit (unwrap_or n.highlighted m.highlighted) font menu;
  damage = λ n. rect_holds (joined (lit_cell m.highlighted) (lit_cell (unwrap_or n.highlighted m.highlighted)));
}
