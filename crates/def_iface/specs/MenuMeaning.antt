-- What a menu's definition is, seen from outside, and what it is told.
use Rattle.std.specs.Prelude.{◌≡◌, ℕ, Bool, true, false, ◌&&◌, List, Option, None, Some, pos, int_le}
use Rattle.std.specs.Option.{unwrap_or, option_map_or}
use Rattle.tb_geom.specs.declared.point.Point.{Point}
use Rattle.tb_geom.specs.declared.rect.Rect.{Rect}
use Rattle.tb_geom.specs.Points.{PixelSet}
use Rattle.tb_geom.specs.Rects.{rect_holds, in_plane}
use Rattle.menu_record.specs.declared.menu.Menu.{Menu}
use Rattle.menu_record.specs.Menus.{can_choose, item_at}
use Rattle.def_iface.specs.declared.size.Size.{Size}
use Rattle.def_iface.specs.declared.window_def.Stage.{Stage}
use Rattle.def_iface.specs.declared.window_def.Stage.TheVariants.{Live}
use Rattle.def_iface.specs.declared.menu_def.MenuChange.{MenuChange}
use Rattle.def_iface.specs.declared.menu_def.MenuChange.TheVariants.{Highlighted}
use Rattle.def_iface.specs.Slots.{LoanOf}

-- of what a menu's definition can be told what it was told last, if it was: which item is highlighted, if one is
pub record MenuNews : Type 0 where
  pub highlighted : Option (Option ℕ)

-- it is told nothing
abbrev pub no_menu_news : MenuNews
no_menu_news = record { highlighted = None }

-- it is told which item is highlighted, and then the rest: what comes later counts
abbrev pub told_item : Option ℕ → MenuNews → MenuNews
told_item item n = record { highlighted = Some (unwrap_or n.highlighted item) }

-- it is told of the change, and then the rest
abbrev pub told_menu : MenuChange → MenuNews → MenuNews
told_menu (Highlighted item) n = told_item item n

-- A definition as a value: its stage, and how large a menu is in a font, which is the list of its bytes, which of its items
-- a point chooses, by its number from 1 on, its picture, and the pixels that the damage may have that it answers to some news;
-- points are local to the menu.
pub record MenuDefinition : Type 0 where
  pub stage : Stage
  pub size : List ℕ → Menu → Size
  pub choose : List ℕ → Menu → Point → Option ℕ
  pub picture : MenuNews → List ℕ → Menu → PixelSet
  pub damage : MenuNews → PixelSet

-- a definition that is out of its slot, and the number of that slot
abbrev pub MenuLoan : Type 0
MenuLoan = LoanOf MenuDefinition

-- sizes and choices are answered as before
pub record SameMeasures (old new : MenuDefinition) : Type 0 where
  pub size : new.size ≡ old.size
  pub choose : new.choose ≡ old.choose

-- each side lies in 0..100000
abbrev pub is_menu_size : Size → Bool
is_menu_size s = (int_le (pos 0) s.width && int_le s.width (pos 100000)) && (int_le (pos 0) s.height && int_le s.height (pos 100000))

-- no item is chosen, or one that the menu has and that can be chosen
abbrev pub is_choice : Menu → Option ℕ → Bool
is_choice menu None = true
is_choice menu (Some n) = option_map_or (can_choose menu) (item_at n menu.items) false

-- in every font and for every menu, the pictures are equal outside the damage, as far as coordinates go
abbrev pub IsMenuDamage : Rect → MenuDefinition → MenuDefinition → Type 0
IsMenuDamage damage old new =
    (font : List ℕ) (menu : Menu) (p : Point) → in_plane p ≡ true → rect_holds damage p ≡ false
    → new.picture no_menu_news font menu p ≡ old.picture no_menu_news font menu p

-- it was told something, which comes before all that it is told from here on: whatever that is, it shows what the old one
-- shows that is told both
pub record MenuHears (news : MenuNews → MenuNews) (old new : MenuDefinition) : Type 0 where
  pub picture : (n : MenuNews) (font : List ℕ) (menu : Menu) (p : Point) → new.picture n font menu p ≡ old.picture (news n) font menu p

-- it answers as the old one, whatever it is told from here on
pub record SameMenuLook (old new : MenuDefinition) : Type 0 where
  pub measures : SameMeasures old new
  pub look : MenuHears (λ n. n) old new

-- what a fresh definition is once it was made live and told that no item is highlighted
pub record IsMenuBegun (old new : MenuDefinition) : Type 0 where
  pub live : new.stage ≡ Live
  pub measures : SameMeasures old new
  pub heard : MenuHears (told_item None) old new

-- the definition goes by this: told it again, it shows what it shows anyhow
abbrev pub MenuGoesBy : Option ℕ → MenuDefinition → Type 0
MenuGoesBy item d = MenuHears (told_item item) d d
