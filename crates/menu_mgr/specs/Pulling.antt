-- Which menu is pulled down, and which of its items a point is over.
use Rattle.std.specs.Prelude.{ℕ, pos, Bool, false, not, ◌&&◌, if◌then◌else◌, List, Option, None, Some}
use Rattle.std.specs.Option.{option_map, option_and_then}
use Rattle.std.specs.Ordering.{int_eq}
use Rattle.tb_geom.specs.declared.point.Point.{Point}
use Rattle.tb_geom.specs.Points.{PixelSet, minus}
use Rattle.tb_geom.specs.Rects.{rect_holds}
use Rattle.desk_layers.specs.Desk.{on_screen}
use Rattle.def_iface.specs.declared.size.Size.{Size}
use Rattle.def_iface.specs.MenuMeaning.{no_menu_news, told_item}
use Rattle.desk_ground.specs.declared.bar.TitleHit.{TitleHit}
use Rattle.desk_ground.specs.Bars.{title_at}
use Rattle.menu_list.specs.Lists.{menu_with}
use Rattle.overlay.specs.Overlays.{Pulled, pulled_rect}
use Rattle.overlay.specs.Places.{pulled_place, shown_size}
use Rattle.desk_call.specs.declared.activity.Activity.{Activity}
use Rattle.desk_call.specs.declared.activity.Activity.TheVariants.{Pulling}
use Rattle.desk_call.specs.declared.activity.PulledMenu.{PulledMenu}
use Rattle.window_mgr.specs.FullDesk.{FullDesk, layered_desk}
use Rattle.menu_mgr.specs.MenuDesks.{MenuDesk, MenuRecord}

-- ---- titles

-- a title that a point of the screen is on, with its menu
pub record TitleOf : Type 0 where
  pub hit : TitleHit
  pub record_of : MenuRecord

-- the point is one of the screen, which has a menu bar
abbrev pub may_be_on_title : FullDesk → Point → Bool
may_be_on_title desk p = on_screen (layered_desk desk) p && not (int_eq desk.bar.rows (pos 0))

-- the title of the menu bar that the point is on
abbrev pub title_under : FullDesk → Point → Option TitleHit
title_under desk p = if may_be_on_title desk p then title_at desk.font 10 desk.bar.titles p else None

abbrev pub titled : TitleHit → List MenuRecord → Option TitleOf
titled hit menus = option_map (λ l. record { hit = hit; record_of = l }) (menu_with (pos hit.menu) menus)

-- the same with its menu
abbrev pub title_of_point : MenuDesk → Point → Option TitleOf
title_of_point d p = option_and_then (λ hit. titled hit d.menus.menus) (title_under d.desk.windows.desk p)

-- ---- the pulled menu

-- how large a menu is that is pulled down, in the font of the desk
abbrev pub size_of : List ℕ → MenuRecord → Size
size_of font l = shown_size l.menu (l.definition.definition.size font l.menu)

-- the menu below its title: at the title's left side, moved left where its right edge would pass the screen
abbrev pub pulled_below : FullDesk → TitleOf → PulledMenu
pulled_below desk t = let size = size_of desk.font t.record_of in record {
  menu = t.hit.menu;
  place = pulled_place desk.width t.hit.left size;
  size = size;
  item = None;
}

-- what of a pulled menu the screen shows: its definition and its record, at its place
abbrev pub as_pulled : PulledMenu → MenuRecord → Pulled
as_pulled m l = record { definition = l.definition.definition; menu = l.menu; place = m.place; size = m.size }

-- the menu that is pulled down, if one is
abbrev pub pulled_of : Activity → List MenuRecord → Option Pulled
pulled_of (Pulling m) menus = option_map (as_pulled m) (menu_with (pos m.menu) menus)
pulled_of _ menus = None

-- the pixels of the map in front that this menu has, where it is pulled down, within the damage that its definition may answer
-- where it is told which item is highlighted
abbrev pub item_damage : PulledMenu → Option ℕ → Option MenuRecord → PixelSet
item_damage m item None p = false
item_damage m item (Some l) p =
    rect_holds (pulled_rect m.place m.size) p && l.definition.definition.damage (told_item item no_menu_news) (minus p m.place)

-- the item of a pulled menu that can be chosen at a point of the screen: the point is a pixel of the menu there
abbrev pub item_of : FullDesk → PulledMenu → MenuRecord → Point → Option ℕ
item_of desk m l p =
    if on_screen (layered_desk desk) p && rect_holds (pulled_rect m.place m.size) p
    then l.definition.definition.choose desk.font l.menu (minus p m.place) else None

abbrev pub item_under : FullDesk → PulledMenu → List MenuRecord → Point → Option ℕ
item_under desk m menus p = option_and_then (λ l. item_of desk m l p) (menu_with (pos m.menu) menus)

-- its rectangle has the point
abbrev pub is_in : Option Pulled → Point → Bool
is_in None p = false
is_in (Some m) p = rect_holds (pulled_rect m.place m.size) p

-- the point is a pixel of the screen that it has
abbrev pub is_pulled_at : FullDesk → Option Pulled → Point → Bool
is_pulled_at desk m p = on_screen (layered_desk desk) p && is_in m p
