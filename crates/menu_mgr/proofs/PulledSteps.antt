-- Calls on a menu that is pulled down, by what their parts leave.
use Rattle.std.proofs.Common.{◌≡◌, ◌≤◌, ◌<◌, ℕ, true, not, List, [], ◌∷◌, length, Option, Some, None, Ok, pos, refl, sym, ap, ◌∙◌, subst}
use Rattle.std.specs.Prelude.{slice_get, vec_capacity, IfSome}
use Rattle.std.specs.Option.{option_map}
use Rattle.tb_geom.specs.declared.point.Point.{Point}
use Rattle.tb_geom.specs.declared.refusal.Refusal.TheVariants.{OutOfRange}
use Rattle.tb_geom.specs.Points.{PixelSet}
use Rattle.tb_geom.specs.Rects.{in_plane}
use Rattle.tb_geom.specs.Refusals.{first_refusal}
use Rattle.def_iface.specs.Slots.{TakenBox}
use Rattle.def_iface.specs.WindowMeaning.{WindowLoan}
use Rattle.def_iface.specs.MenuMeaning.{MenuLoan, is_menu_size}
use Rattle.def_iface.specs.WindowSlots.{WindowSlot}
use Rattle.menu_list.specs.declared.listed.Listed.{Listed}
use Rattle.menu_list.specs.Lists.{menu_index, menu_with, titles_of}
use Rattle.menu_list.specs.Seen.{seen}
use Rattle.menu_list.proofs.SeenLemmas.{titles_of-seen}
use Rattle.overlay.specs.declared.overlay.Overlay.{Overlay}
use Rattle.overlay.specs.Overlays.{IsShown, is_menu_place}
use Rattle.desk_call.specs.declared.activity.Activity.{Activity}
use Rattle.desk_call.specs.declared.activity.Activity.TheVariants.{Pulling}
use Rattle.desk_call.specs.declared.activity.PulledMenu.{PulledMenu}
use Rattle.desk_call.specs.declared.menu.MenuCall.TheVariants.{Down}
use Rattle.desk_call.specs.declared.menu.MenuReply.TheVariants as reply
use Rattle.menu_list.proofs.FoundMenus.{is_at}
use Rattle.window_mgr.specs.declared.manager.WindowManager.{WindowManager}
use Rattle.window_mgr.specs.BarShown.{IsBarShown}
use Rattle.window_mgr.specs.DeskStates.{Opened}
use Rattle.window_mgr.specs.Records.{desk_of, state_of}
use Rattle.window_mgr.specs.Updating.{LeavesState}
use Rattle.menu_mgr.specs.declared.menus.Menus.{Menus}
use Rattle.menu_mgr.specs.declared.pulling.Titled.{Titled}
use Rattle.menu_mgr.specs.Leaving.{LeavesMenus, indexed, opened}
use Rattle.menu_mgr.specs.MenuDesks.{MenuDesk, MenuRecord, MenuSlot, IsMenuDeskUnchanged}
use Rattle.menu_mgr.specs.MenuRefusals.{point_refusals}
use Rattle.menu_mgr.specs.MenuSteps.{AreMenusShown, IsMenuStep, IsPressedOn}
use Rattle.menu_mgr.specs.Pulling.{as_pulled, pulled_below, pulled_of, title_under}
use Rattle.menu_mgr.specs.WholeMenus.{AreLive, AreMenusStocked, IsMenuFront, IsWholeMenus, menu_desk, menus_of}
use Rattle.menu_mgr.proofs.SeenMenus.{found, no_title, on_title, title_index}

-- a point of the range of coordinates
pub near : (p : Point) → in_plane p ≡ true → first_refusal (point_refusals p) ≡ None
near p e = ap (λ b. first_refusal ((not b, OutOfRange) ∷ [])) e

pub still : (d : MenuDesk) → IsMenuDeskUnchanged d d
still d = record {
  desk = record { windows = record { desk = refl; stale = λ p on. refl; image = λ p on. refl }; activity = refl; begun = refl };
  menus = refl;
}

module _ {V : Type 0} {H : V → Type 0} (loan : TakenBox V H → WindowLoan) {W : Type 0} {K : W → Type 0} (menu_loan : TakenBox W K → MenuLoan) where
  abbrev pub seen_menus : Menus W K → List MenuRecord
  seen_menus m = menus_of menu_loan m.list.menus.items

  -- what holds of the menus themselves between calls
  pub record IsHeld (m : Menus W K) (slots : List MenuSlot) : Type 0 where
    pub few : length m.list.menus.items ≤ 16
    pub room : 16 ≤ vec_capacity m.list.menus
    pub live : AreLive (seen_menus m)
    pub stocked : AreMenusStocked (seen_menus m) slots

  -- ---- the mouse button is pressed on no title

  pub press_on_none : (t : WindowManager V H) (o : Opened) (m : Menus W K) (p : Point) → in_plane p ≡ true → indexed m.list.menus.items (title_under (desk_of loan t []) p) ≡ None
      → LeavesMenus loan menu_loan (IsMenuStep (Down p) (Ok (reply.Pulled None))) t o m t o m
  press_on_none t o m p e none kept whole slots w =
      let d = menu_desk menu_loan loan t o slots m kept in
      let on = no_title menu_loan m.list.menus.items (title_under (desk_of loan t []) p) none in
      (w, whole, (near p e, (None, refl, subst (λ x. IsPressedOn x None d d) (sym on) (refl, still d))))

  -- ---- the menu bar shows other titles

  pub shown : (t u : WindowManager V H) (m n : Menus W K) (o q : Opened) (slots : List WindowSlot) (kept : List MenuSlot) (items : List (Listed (TakenBox W K))) (h : Option ℕ)
      → n.list.menus.items ≡ items → n.list.highlighted ≡ h → IsBarShown (titles_of h items) (state_of loan t slots) (state_of loan u slots)
      → AreMenusShown (menus_of menu_loan items) h kept (menu_desk menu_loan loan t o slots m kept) (menu_desk menu_loan loan u q slots n kept)
  shown t u m n o q slots kept items h same lit bar = record {
    menus = λ i. record { menus = menus_of menu_loan (same i); highlighted = lit i; stock = kept };
    bar = subst (λ ts. IsBarShown ts (state_of loan t slots) (state_of loan u slots)) (sym (titles_of-seen menu_loan h items)) bar;
  }

  -- ---- a menu is pulled down below a title

  -- all that is known where it was, and the title stands at an index of the menus
  pub record IsPulledOver (title : Titled) (pulled : PulledMenu) (t u : WindowManager V H) (m n : Menus W K) (front : Overlay) : Type 0 where
    pub menus : n.list.menus ≡ m.list.menus
    pub highlighted : n.list.highlighted ≡ Some title.hit.menu
    pub bar : LeavesState loan (IsBarShown (titles_of (Some title.hit.menu) m.list.menus.items)) t u
    pub lies : IfSome (slice_get m.list.menus.items title.at) (λ l. let listed = seen menu_loan l in
        (pulled ≡ pulled_below (desk_of loan t []) (record { hit = title.hit; record_of = listed }))
        × IsShown u.font (Some (as_pulled pulled listed)) u.screen front.front)
    pub placed : (is_menu_place pulled.place ≡ true) × (is_menu_size pulled.size ≡ true)

  module _ (title : Titled) (listed : Listed (TakenBox W K)) (pulled : PulledMenu) (t u : WindowManager V H) (m n : Menus W K) (front : Overlay) (over : IsPulledOver title pulled t u m n front)
      (got : slice_get m.list.menus.items title.at ≡ Some listed) where
    here : (pulled ≡ pulled_below (desk_of loan t []) (record { hit = title.hit; record_of = seen menu_loan listed }))
        × IsShown u.font (Some (as_pulled pulled (seen menu_loan listed))) u.screen front.front
    here = subst (λ x. IfSome x (λ l.
        (pulled ≡ pulled_below (desk_of loan t []) (record { hit = title.hit; record_of = seen menu_loan l }))
        × IsShown u.font (Some (as_pulled pulled (seen menu_loan l))) u.screen front.front)) got over.lies

    pub lies_below : pulled ≡ pulled_below (desk_of loan t []) (record { hit = title.hit; record_of = seen menu_loan listed })
    lies_below = here.0

    same_items : n.list.menus.items ≡ m.list.menus.items
    same_items = λ i. (over.menus i).items

    pub pulled_whole : (slots : List MenuSlot) → IsHeld m slots → IsWholeMenus menu_loan (Pulling pulled) n slots
    pulled_whole slots held = record {
      few = subst (λ (items : List (Listed (TakenBox W K))). length items ≤ 16) (sym same_items) held.few;
      room = subst (λ k. 16 ≤ k) (sym (λ i. vec_capacity (over.menus i))) held.room;
      live = subst (λ items. AreLive (menus_of menu_loan items)) (sym same_items) held.live;
      stocked = subst (λ items. AreMenusStocked (menus_of menu_loan items) slots) (sym same_items) held.stocked;
      placed = over.placed;
    }

    module _ (index : menu_index (pos title.hit.menu) m.list.menus.items ≡ Some title.at) where
      is_pulled : pulled_of (Pulling pulled) (seen_menus n) ≡ Some (as_pulled pulled (seen menu_loan listed))
      is_pulled =
          let number : pulled.menu ≡ title.hit.menu = ap (λ (q : PulledMenu). q.menu) here.0 in
          ap (λ k. option_map (as_pulled pulled) (menu_with (pos k) (seen_menus n))) number
          ∙ ap (λ items. option_map (as_pulled pulled) (menu_with (pos title.hit.menu) (menus_of menu_loan items))) same_items
          ∙ ap (option_map (as_pulled pulled)) (found menu_loan (pos title.hit.menu) m.list.menus.items title.at listed index got)

      pub pulled_front : IsMenuFront menu_loan (Pulling pulled) u n front
      pulled_front = record {
        width = here.1.width;
        height = here.1.height;
        shown = subst (λ x. IsShown u.font x u.screen front.front) (sym is_pulled) here.1;
      }

  pub pressed : (t u : WindowManager V H) (a : Activity) (begun : PixelSet) (m n : Menus W K) (front : Overlay) (p : Point) (title : Titled) (pulled : PulledMenu)
      → in_plane p ≡ true → indexed m.list.menus.items (title_under (desk_of loan t []) p) ≡ Some title → title.at < length m.list.menus.items
      → IsPulledOver title pulled t u m n front
      → LeavesMenus loan menu_loan (IsMenuStep (Down p) (Ok (reply.Pulled (Some title.hit.menu)))) t (opened a begun) m u (opened (Pulling pulled) begun) n
  pressed t u a begun m n front p title pulled e on within over kept whole slots w =
      let items = m.list.menus.items in
      let at = is_at title.at items within in
      let bar = over.bar slots w in
      let before = menu_desk menu_loan loan t (opened a begun) slots m kept in
      let after = menu_desk menu_loan loan u (opened (Pulling pulled) begun) slots n kept in
      let held : IsHeld m kept = record { few = whole.few; room = whole.room; live = whole.live; stocked = whole.stocked } in
      let is = on_title menu_loan items (title_under (desk_of loan t []) p) title at.listed on at.got in (
        bar.0,
        pulled_whole title at.listed pulled t u m n front over at.got kept held,
        (
          near p e,
          (
            Some title.hit.menu,
            refl,
            subst (λ x. IsPressedOn x (Some title.hit.menu) before after) (sym is) (
              refl,
              record {
                activity = ap Pulling (lies_below title at.listed pulled t u m n front over at.got);
                begun = refl;
                shown = shown t u m n (opened a begun) (opened (Pulling pulled) begun) slots kept items (Some title.hit.menu) (λ i. (over.menus i).items) over.highlighted bar.1;
              },
            ),
          ),
        ),
      )

  -- the map in front shows the menu
  pub pressed_front : (t u : WindowManager V H) (m n : Menus W K) (front : Overlay) (p : Point) (title : Titled) (pulled : PulledMenu)
      → indexed m.list.menus.items (title_under (desk_of loan t []) p) ≡ Some title → title.at < length m.list.menus.items
      → IsPulledOver title pulled t u m n front → IsMenuFront menu_loan (Pulling pulled) u n front
  pressed_front t u m n front p title pulled on within over =
      let items = m.list.menus.items in
      let at = is_at title.at items within in
      pulled_front title at.listed pulled t u m n front over at.got (title_index menu_loan items (title_under (desk_of loan t []) p) title on).1
