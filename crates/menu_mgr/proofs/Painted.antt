-- The menu that is pulled down, painted over a base image.
use Rattle.std.proofs.Common.{◌≡◌, ℕ, ◌<◌, ℤ, List, length, get_or, Option, Some, None, pos, refl, sym, ap, ◌∙◌, subst}
use Rattle.std.specs.Prelude.{slice_get}
use Rattle.std.specs.Option.{option_map}
use Rattle.std.proofs.lemmas.Option.{slice_get_read}
use Rattle.tb_geom.specs.Points.{minus}
use Rattle.tb_geom.specs.Rects.{rect_holds}
use Rattle.bit_map.specs.Bits.{Bits}
use Rattle.bit_blit.specs.Draws.{Draws}
use Rattle.def_iface.specs.Slots.{TakenBox}
use Rattle.def_iface.specs.declared.window_def.Stage.TheVariants.{Live}
use Rattle.def_iface.specs.MenuMeaning.{MenuLoan, no_menu_news}
use Rattle.menu_list.specs.declared.listed.Listed.{Listed}
use Rattle.menu_list.specs.Lists.{menu_index}
use Rattle.menu_list.specs.Seen.{seen}
use Rattle.menu_list.proofs.SeenLemmas.{menu_with-seen, slice_get-seen}
use Rattle.menu_list.proofs.Indices.{with_found, with_none}
use Rattle.overlay.specs.Overlays.{IsShown, Pulled, pulled_rect}
use Rattle.overlay.proofs.ShownLemmas.{pulled_shows}
use Rattle.desk_call.specs.declared.activity.Activity.TheVariants.{Pulling}
use Rattle.desk_call.specs.declared.activity.PulledMenu.{PulledMenu}
use Rattle.menu_mgr.specs.Pulling.{as_pulled, pulled_of}
use Rattle.menu_mgr.specs.WholeMenus.{AreLive, menus_of}
use Rattle.menu_mgr.proofs.Stocks.{live-at}

-- a base image shows itself, where no menu is pulled down
pub base_shows : (font : List ℕ) (pulled : Option Pulled) (base : Bits) → pulled ≡ None → IsShown font pulled base base
base_shows font pulled base none = subst (λ m. IsShown font m base base) (sym none) (record { width = refl; height = refl; pixels = λ p on. refl })

module _ {W : Type 0} {K : W → Type 0} (menu_loan : TakenBox W K → MenuLoan) (m : PulledMenu) (menus : List (Listed (TakenBox W K))) (id : ℤ) (is : id ≡ pos m.menu) where
  -- no menu has the number of the pulled one
  pub none_pulled : menu_index id menus ≡ None → pulled_of (Pulling m) (menus_of menu_loan menus) ≡ None
  none_pulled none = ap (option_map (as_pulled m))
      (menu_with-seen menu_loan (pos m.menu) menus ∙ ap (option_map (seen menu_loan)) (with_none (pos m.menu) menus (ap (λ n. menu_index n menus) (sym is) ∙ none)))

  module _ (at : ℕ) (l : Listed (TakenBox W K)) (found : menu_index id menus ≡ Some at) (low : at < length menus) (read : l ≡ get_or menus at l) where
    got : slice_get menus at ≡ Some l
    got = slice_get_read menus (length menus) at l refl low read

    -- the menu that is found is the pulled one
    pulled_is : pulled_of (Pulling m) (menus_of menu_loan menus) ≡ Some (as_pulled m (seen menu_loan l))
    pulled_is =
        let first : menu_index (pos m.menu) menus ≡ Some at = ap (λ n. menu_index n menus) (sym is) ∙ found in
        ap (option_map (as_pulled m)) (menu_with-seen menu_loan (pos m.menu) menus ∙ ap (option_map (seen menu_loan)) (with_found (pos m.menu) menus at first ∙ got))

    -- its definition is live
    pub found_live : AreLive (menus_of menu_loan menus) → (menu_loan l.definition).definition.stage ≡ Live
    found_live live = live-at at (menus_of menu_loan menus) (seen menu_loan l) (slice_get-seen menu_loan menus at ∙ ap (option_map (seen menu_loan)) got) live

    -- it was drawn over a base image
    pub pulled_painted : (font : List ℕ) (base new : Bits)
        → Draws (rect_holds (pulled_rect m.place m.size)) (λ p _. (menu_loan l.definition).definition.picture no_menu_news font l.menu (minus p m.place)) base new
        → IsShown font (pulled_of (Pulling m) (menus_of menu_loan menus)) base new
    pulled_painted font base new drawn = subst (λ pulled. IsShown font pulled base new) (sym pulled_is)
        (pulled_shows font (as_pulled m (seen menu_loan l)) (pulled_rect m.place m.size) base base new refl drawn (base_shows font None base refl))
