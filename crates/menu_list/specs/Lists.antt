-- The menus of a desk as a list: those with a number, those in the menu bar, and what a key chooses.
use Rattle.std.specs.Prelude.{ℕ, zero, suc, ℤ, pos, Bool, true, false, ◌&&◌, ◌==◌, if◌then◌else◌, List, [], ◌∷◌, length, Option, None, Some, map, slice_get}
use Rattle.std.specs.Option.{option_map, option_map_or, option_and_then, option_or, unwrap_or}
use Rattle.std.specs.List.{filter, find, list_any, position, remove}
use Rattle.std.specs.Ordering.{int_eq}
use Rattle.tb_geom.specs.declared.refusal.Refusal.{Refusal}
use Rattle.menu_record.specs.declared.menu.Menu.{Menu}
use Rattle.menu_record.specs.Menus.{item_with_key}
use Rattle.desk_ground.specs.declared.titles.BarTitle.{BarTitle}
use Rattle.desk_call.specs.declared.menu.Choice.{Choice}
use Rattle.menu_list.specs.declared.listed.Listed.{Listed}

-- the highlighted menu, if it is not the one of this number
abbrev pub without_highlight : ℕ → Option ℕ → Option ℕ
without_highlight id None = None
without_highlight id (Some highlighted) = if highlighted == id then None else Some highlighted

-- whether the highlighted menu has this number
abbrev pub is_highlighted : ℕ → Option ℕ → Bool
is_highlighted id highlighted = option_map_or (λ h. h == id) highlighted false

module _ {D : Type 0} where
  -- the menu has this number
  abbrev pub has_number : ℤ → Listed D → Bool
  has_number id l = int_eq (pos l.menu.id) id

  -- where the first menu of this number stands
  abbrev pub menu_index : ℤ → List (Listed D) → Option ℕ
  menu_index id menus = position (has_number id) menus

  -- that menu
  abbrev pub menu_with : ℤ → List (Listed D) → Option (Listed D)
  menu_with id menus = find (has_number id) menus

  -- where it stands, or the end of the list where none has this number
  abbrev pub place_before : ℤ → List (Listed D) → ℕ
  place_before id menus = unwrap_or (menu_index id menus) (length menus)

  -- the list with f of the menu at this place, from 0, in the place of that
  abbrev pub edit_at : (Listed D → Listed D) → ℕ → List (Listed D) → List (Listed D)
  edit_at f i [] = []
  edit_at f zero (l ∷ ls) = f l ∷ ls
  edit_at f (suc i) (l ∷ ls) = l ∷ edit_at f i ls

  -- f of the menu's record
  abbrev pub with_menu : (Menu → Menu) → Listed D → Listed D
  with_menu f l = record l { menu = f l.menu }

  -- the menu, in the menu bar or not
  abbrev pub with_inserted : Bool → Listed D → Listed D
  with_inserted inserted l = record l { inserted = inserted }

  -- why the record of the menu at this place is not changed
  abbrev pub why_at : (Menu → Option Refusal) → ℕ → List (Listed D) → Option Refusal
  why_at why at menus = option_and_then (λ l. why l.menu) (slice_get menus at)

  -- the list with one menu more, before the first of this number, or at the end where none has it
  abbrev pub put_before : ℤ → Listed D → List (Listed D) → List (Listed D)
  put_before before l [] = l ∷ []
  put_before before l (m ∷ ms) = if has_number before m then l ∷ m ∷ ms else m ∷ put_before before l ms

  -- the list with the menu at this place in the menu bar, before the first of the others that has this number, or at the end
  abbrev pub moved_before : ℤ → ℕ → List (Listed D) → List (Listed D)
  moved_before before at menus = option_map_or (λ l. put_before before (with_inserted true l) (remove menus at)) (slice_get menus at) menus

  -- the highlighted menu, if it is not the one at this place
  abbrev pub without_highlight_at : ℕ → List (Listed D) → Option ℕ → Option ℕ
  without_highlight_at at menus highlighted = option_map_or (λ l. without_highlight l.menu.id highlighted) (slice_get menus at) highlighted

  -- the menus in the menu bar, from left to right
  abbrev pub in_bar : List (Listed D) → List (Listed D)
  in_bar menus = filter (λ l. l.inserted) menus

  -- a menu of this number is in the menu bar
  abbrev pub is_in_bar : ℤ → List (Listed D) → Bool
  is_in_bar id menus = list_any (λ l. l.inserted && has_number id l) menus

  -- the title of a menu
  abbrev pub title_of : Option ℕ → Listed D → BarTitle
  title_of highlighted l = record {
    menu = l.menu.id;
    text = l.menu.title;
    enabled = l.menu.enabled;
    highlighted = is_highlighted l.menu.id highlighted;
  }

  -- the titles in the menu bar, from left to right
  abbrev pub titles_of : Option ℕ → List (Listed D) → List BarTitle
  titles_of highlighted menus = map (title_of highlighted) (in_bar menus)

  -- what the key chooses of a menu, which has to be in the menu bar
  abbrev pub key_in : ℕ → Listed D → Option Choice
  key_in key l = if l.inserted then option_map (λ item. record { menu = l.menu.id; item = item }) (item_with_key key l.menu) else None

  -- what it chooses: what stands further right comes first
  abbrev pub key_choice : ℕ → List (Listed D) → Option Choice
  key_choice key [] = None
  key_choice key (l ∷ ls) = option_or (key_choice key ls) (key_in key l)
