-- What the screen shows while a menu is pulled down: the menu over the base image.
use Rattle.std.specs.Prelude.{◌≡◌, ℕ, Bool, true, ◌&&◌, if◌then◌else◌, List, Option, None, Some, pos, ◌+ℤ◌, int_le}
use Rattle.tb_geom.specs.declared.point.Point.{Point}
use Rattle.tb_geom.specs.declared.rect.Rect.{Rect}
use Rattle.tb_geom.specs.Points.{PixelSet, minus}
use Rattle.tb_geom.specs.Rects.{rect_holds}
use Rattle.bit_map.specs.Bits.{Bits, on_map, bit}
use Rattle.menu_record.specs.declared.menu.Menu.{Menu}
use Rattle.def_iface.specs.declared.size.Size.{Size}
use Rattle.def_iface.specs.MenuMeaning.{MenuDefinition, no_menu_news}

-- a menu that is pulled down: its definition, its record, and where it lies on the screen, before it is cut to that
pub record Pulled : Type 0 where
  pub definition : MenuDefinition
  pub menu : Menu
  pub place : Point
  pub size : Size

-- its rectangle
abbrev pub pulled_rect : Point → Size → Rect
pulled_rect place size = record { left = place.h; top = place.v; right = place.h +ℤ size.width; bottom = place.v +ℤ size.height }

-- a menu may lie there: its corner is on a screen
abbrev pub is_menu_place : Point → Bool
is_menu_place p = (int_le (pos 0) p.h && int_le p.h (pos 1024)) && (int_le (pos 0) p.v && int_le p.v (pos 1024))

-- its value at a pixel of the screen
abbrev pub pulled_bit : List ℕ → Pulled → PixelSet
pulled_bit font m p = m.definition.picture no_menu_news font m.menu (minus p m.place)

-- what the screen shows over a base image: the pulled menu where it lies, if one is pulled, and else the base
abbrev pub shown_bit : List ℕ → Option Pulled → PixelSet → PixelSet
shown_bit font None base p = base p
shown_bit font (Some m) base p = if rect_holds (pulled_rect m.place m.size) p then pulled_bit font m p else base p

-- the map in front shows that
pub record IsShown (font : List ℕ) (pulled : Option Pulled) (base front : Bits) : Type 0 where
  pub width : front.width ≡ base.width
  pub height : front.height ≡ base.height
  pub pixels : (p : Point) → on_map front p ≡ true → bit front p ≡ shown_bit font pulled (bit base) p
