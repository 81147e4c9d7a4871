-- What a point of the screen is over: the pulled menu, and an item of it.
use Rattle.std.proofs.Common.{◌≡◌, ◌<◌, ℕ, Bool, true, false, ◌&&◌, if◌then◌else◌, List, [], length, Option, Some, None, pos, refl, sym, ap, ◌∙◌}
use Rattle.std.specs.Prelude.{slice_get}
use Rattle.std.specs.Option.{option_map, option_and_then}
use Rattle.tb_geom.specs.declared.point.Point.{Point}
use Rattle.tb_geom.specs.declared.rect.Rect.{Rect}
use Rattle.tb_geom.specs.Points.{minus}
use Rattle.tb_geom.specs.Rects.{rect_holds}
use Rattle.bit_map.specs.Bits.{Bits, bounds_of}
use Rattle.def_iface.specs.Slots.{TakenBox}
use Rattle.desk_layers.specs.Desk.{on_screen}
use Rattle.def_iface.specs.WindowMeaning.{WindowLoan}
use Rattle.def_iface.specs.MenuMeaning.{MenuLoan}
use Rattle.menu_list.specs.declared.listed.Listed.{Listed}
use Rattle.menu_list.specs.Lists.{menu_index}
use Rattle.menu_list.specs.Seen.{all_seen}
use Rattle.overlay.specs.Overlays.{pulled_rect}
use Rattle.desk_call.specs.declared.activity.Activity.TheVariants.{Pulling}
use Rattle.desk_call.specs.declared.activity.PulledMenu.{PulledMenu}
use Rattle.menu_list.proofs.FoundMenus.{is_at}
use Rattle.window_mgr.specs.declared.manager.WindowManager.{WindowManager}
use Rattle.window_mgr.specs.FullDesk.{FullDesk, layered_desk}
use Rattle.window_mgr.specs.Records.{desk_of}
use Rattle.menu_mgr.specs.MenuDesks.{MenuRecord}
use Rattle.menu_mgr.specs.Pulling.{as_pulled, is_pulled_at, item_of, item_under, pulled_of}
use Rattle.menu_mgr.proofs.SeenMenus.{found, found_none}

-- the point is one of the screen
pub on_it : {V : Type 0} {H : V → Type 0} (loan : TakenBox V H → WindowLoan) (t : WindowManager V H) (screen : Bits) (bounds : Rect) (p : Point) (b : Bool)
    → screen ≡ t.screen → bounds ≡ bounds_of screen → b ≡ rect_holds bounds p → b ≡ on_screen (layered_desk (desk_of loan t [])) p
on_it loan t screen bounds p b same sides is = is ∙ ap (λ r. rect_holds r p) (sides ∙ ap bounds_of same)

and_false : (b : Bool) → (b && false) ≡ false
and_false true = refl
and_false false = refl

module _ {B : Type 0} (g : B → MenuLoan) (desk : FullDesk) (m : PulledMenu) (xs : List (Listed B)) (p : Point) where
  -- where the pulled menu is not among the menus, a point is over no item, nor over the menu
  pub no_item : None ≡ menu_index (pos m.menu) xs → item_under desk m (all_seen g xs) p ≡ None
  no_item none = ap (option_and_then (λ (l : MenuRecord). item_of desk m l p)) (found_none g (pos m.menu) xs (sym none))

  pub nowhere : None ≡ menu_index (pos m.menu) xs → is_pulled_at desk (pulled_of (Pulling m) (all_seen g xs)) p ≡ false
  nowhere none =
      ap (λ (o : Option MenuRecord). is_pulled_at desk (option_map (as_pulled m) o) p) (found_none g (pos m.menu) xs (sym none))
      ∙ and_false (on_screen (layered_desk desk) p)

  -- the point is a pixel of the menu, if it is one of the rectangle and of the screen
  pub over_it : (at : ℕ) (rect : Rect) (on over : Bool) → Some at ≡ menu_index (pos m.menu) xs → at < length xs → on ≡ on_screen (layered_desk desk) p → rect ≡ pulled_rect m.place m.size → over ≡ rect_holds rect p
      → (on && over) ≡ is_pulled_at desk (pulled_of (Pulling m) (all_seen g xs)) p
  over_it at rect on over is within there rect_is holds =
      let here = is_at at xs within in
      let menu = found g (pos m.menu) xs at here.listed (sym is) here.got in
      (λ i. there i && (holds ∙ ap (λ r. rect_holds r p) rect_is) i)
      ∙ sym (ap (λ (o : Option MenuRecord). is_pulled_at desk (option_map (as_pulled m) o) p) menu)

  -- and its item there is what the definition of the menu chooses
  pub item_there : (at : ℕ) (x : Listed B) (rect : Rect) (on over : Bool) (font : List ℕ) (q : Point) (item : Option ℕ)
      → Some at ≡ menu_index (pos m.menu) xs → slice_get xs at ≡ Some x → on ≡ true → over ≡ true
      → on ≡ on_screen (layered_desk desk) p → rect ≡ pulled_rect m.place m.size → over ≡ rect_holds rect p
      → font ≡ desk.font → q ≡ minus p m.place → item ≡ (g x.definition).definition.choose font x.menu q
      → item ≡ item_under desk m (all_seen g xs) p
  item_there at x rect on over font q item is got on_is over_is there rect_is holds font_is point_is chosen =
      let menu = found g (pos m.menu) xs at x (sym is) got in
      let both : (on_screen (layered_desk desk) p && rect_holds (pulled_rect m.place m.size) p) ≡ true =
      λ i. (sym there ∙ on_is) i && (ap (λ r. rect_holds r p) (sym rect_is) ∙ sym holds ∙ over_is) i in
      chosen ∙ (λ i. (g x.definition).definition.choose (font_is i) x.menu (point_is i))
      ∙ sym (ap (λ b. if b then (g x.definition).definition.choose desk.font x.menu (minus p m.place) else None) both)
      ∙ sym (ap (option_and_then (λ (l : MenuRecord). item_of desk m l p)) menu)
