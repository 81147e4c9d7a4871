-- Calls that go on with a menu that is pulled down, or put it away, by what their parts leave.
use Rattle.std.proofs.Common.{◌≡◌, ◌≤◌, ◌<◌, ℕ, true, if◌then◌else◌, List, [], length, Option, Some, None, Ok, pos, refl, sym, ap, ◌∙◌, subst, arith}
use Rattle.std.specs.Prelude.{vec_capacity, is_none, ℤ}
use Rattle.tb_geom.specs.declared.point.Point.{Point}
use Rattle.tb_geom.specs.Points.{PixelSet}
use Rattle.tb_geom.specs.Rects.{in_plane}
use Rattle.bit_map.specs.Bits.{Bits}
use Rattle.def_iface.specs.Slots.{TakenBox}
use Rattle.def_iface.specs.WindowMeaning.{WindowLoan}
use Rattle.def_iface.specs.MenuMeaning.{MenuLoan}
use Rattle.desk_ground.specs.declared.titles.BarTitle.{BarTitle}
use Rattle.menu_list.specs.Lists.{menu_index, titles_of}
use Rattle.menu_list.specs.Seen.{seen}
use Rattle.menu_list.proofs.SeenLemmas.{length-seen, menu_index-seen}
use Rattle.overlay.specs.declared.overlay.Overlay.{Overlay}
use Rattle.overlay.specs.Overlays.{IsShown}
use Rattle.desk_call.specs.declared.activity.Activity.{Activity}
use Rattle.desk_call.specs.declared.activity.Activity.TheVariants.{Idle, Pulling}
use Rattle.desk_call.specs.declared.activity.PulledMenu.{PulledMenu}
use Rattle.desk_call.specs.declared.menu.Choice.{Choice}
use Rattle.desk_call.specs.declared.menu.MenuCall.TheVariants.{Move, Up}
use Rattle.desk_call.specs.declared.menu.MenuReply.TheVariants as reply
use Rattle.menu_list.proofs.FoundMenus.{is_at}
use Rattle.window_mgr.specs.declared.manager.WindowManager.{WindowManager}
use Rattle.window_mgr.specs.BarShown.{IsBarShown}
use Rattle.window_mgr.specs.Kept.{IsKept}
use Rattle.window_mgr.specs.Records.{desk_of, state_of}
use Rattle.window_mgr.specs.Updating.{LeavesState}
use Rattle.menu_mgr.specs.declared.menus.Menus.{Menus}
use Rattle.menu_mgr.specs.declared.pulling.Titled.{Titled}
use Rattle.menu_mgr.specs.Leaving.{AreKeptMenus, LeavesMenus, indexed, of_another, opened}
use Rattle.menu_mgr.specs.MenuDesks.{MenuSlot}
use Rattle.menu_mgr.specs.MenuSteps.{IsMenuStep, IsMoved, IsMovedOn, IsMenuReleased, IsTold, choice_of}
use Rattle.menu_mgr.specs.Pulling.{item_under, pulled_of, title_under}
use Rattle.menu_mgr.specs.WholeMenus.{AreLive, AreMenusStocked, IsMenuFront, IsWholeMenus, menu_desk, menus_of}
use Rattle.menu_mgr.proofs.PulledSteps.{near, seen_menus, IsHeld, IsPulledOver, shown, lies_below, pulled_front, pulled_whole}
use Rattle.menu_mgr.proofs.ShownBars as bars
use Rattle.menu_mgr.proofs.SeenMenus.{another, on_no_other, on_other, seen_at, title_index}
use Rattle.menu_mgr.proofs.ToldMenus.{as_large, told_alike}

module _ {V : Type 0} {H : V → Type 0} (loan : TakenBox V H → WindowLoan) {W : Type 0} {K : W → Type 0} (menu_loan : TakenBox W K → MenuLoan) where
  -- all that is known of the menus where the pulled menu was told which item is highlighted
  pub record IsToldSo (pulled : PulledMenu) (item : Option ℕ) (m k : Menus W K) : Type 0 where
    pub told : IsTold pulled item (seen_menus loan menu_loan m) (seen_menus loan menu_loan k)
    pub highlighted : k.list.highlighted ≡ m.list.highlighted
    pub room : vec_capacity m.list.menus ≤ vec_capacity k.list.menus

  module _ (pulled : PulledMenu) (item : Option ℕ) (m k : Menus W K) (so : IsToldSo pulled item m k) where
    pub as_many : length k.list.menus.items ≡ length m.list.menus.items
    as_many =
        sym (length-seen menu_loan k.list.menus.items)
        ∙ (told_alike pulled item (seen_menus loan menu_loan m) (seen_menus loan menu_loan k) so.told).many
        ∙ length-seen menu_loan m.list.menus.items

    pub told_held : (slots : List MenuSlot) → IsWholeMenus menu_loan (Pulling pulled) m slots → IsHeld loan menu_loan k slots
    told_held slots whole =
        let alike = told_alike pulled item (seen_menus loan menu_loan m) (seen_menus loan menu_loan k) so.told in
        record {
          few = omega (arith, as_many, whole.few);
          room = omega (arith, so.room, whole.room);
          live = alike.live whole.live;
          stocked = alike.stocked slots whole.stocked;
        }

    pub told_whole : (slots : List MenuSlot) → IsWholeMenus menu_loan (Pulling pulled) m slots → IsWholeMenus menu_loan (Pulling (record pulled { item = item })) k slots
    told_whole slots whole =
        let held = told_held slots whole in
        record {
          few = held.few;
          room = held.room;
          live = held.live;
          stocked = held.stocked;
          placed = whole.placed;
        }

    pub same_index : (id : ℤ) → menu_index id k.list.menus.items ≡ menu_index id m.list.menus.items
    same_index id =
        sym (menu_index-seen menu_loan id k.list.menus.items)
        ∙ (told_alike pulled item (seen_menus loan menu_loan m) (seen_menus loan menu_loan k) so.told).index id
        ∙ menu_index-seen menu_loan id m.list.menus.items

  -- so the menus still hold
  pub record StillHold (m k : Menus W K) : Type 0 where
    pub many : length k.list.menus.items ≡ length m.list.menus.items
    pub few : length k.list.menus.items ≤ 16
    pub live : AreLive (seen_menus loan menu_loan k)

  pub still_hold : (a : Activity) (pulled : PulledMenu) (m k : Menus W K) → AreKeptMenus menu_loan a m → a ≡ Pulling pulled → IsToldSo pulled None m k → StillHold m k
  still_hold a pulled m k kept pulling so =
      let held = told_held pulled None m k so kept.slots (subst (λ x. IsWholeMenus menu_loan x m kept.slots) pulling kept.whole) in
      record {
        many = as_many pulled None m k so;
        few = held.few;
        live = held.live;
      }

  -- ---- the mouse is on the title of another menu

  pub moved_on : (t u : WindowManager V H) (a : Activity) (begun : PixelSet) (m k n : Menus W K) (front : Overlay) (p : Point) (pulled new : PulledMenu) (title : Titled)
      → in_plane p ≡ true → a ≡ Pulling pulled
      → of_another pulled (indexed m.list.menus.items (title_under (desk_of loan t []) p)) ≡ Some title
      → title.at < length m.list.menus.items → title.at < length k.list.menus.items
      → IsToldSo pulled None m k → IsPulledOver loan menu_loan title new t u k n front
      → LeavesMenus loan menu_loan (IsMenuStep (Move p) (Ok (reply.Item None))) t (opened a begun) m u (opened (Pulling new) begun) n
  moved_on t u a begun m k n front p pulled new title e pulling on within there so over kept was slots w =
      let under = title_under (desk_of loan t []) p in
      let whole : IsWholeMenus menu_loan (Pulling pulled) m kept = subst (λ x. IsWholeMenus menu_loan x m kept) pulling was in
      let held = told_held pulled None m k so kept whole in
      let old = is_at title.at m.list.menus.items within in
      let now = is_at title.at k.list.menus.items there in
      let bar = over.bar slots w in
      let before = menu_desk menu_loan loan t (opened a begun) slots m kept in
      let after = menu_desk menu_loan loan u (opened (Pulling new) begun) slots n kept in
      let is = on_other menu_loan pulled m.list.menus.items under title old.listed on old.got in
      let size = (told_alike pulled None (seen_menus loan menu_loan m) (seen_menus loan menu_loan k) so.told).size t.font title.at (seen menu_loan old.listed) (seen menu_loan now.listed)
      (seen_at menu_loan m.list.menus.items title.at old.listed old.got) (seen_at menu_loan k.list.menus.items title.at now.listed now.got) in (
        bar.0,
        pulled_whole loan menu_loan title now.listed new t u k n front over now.got kept held,
        (
          near p e,
          (
            None,
            refl,
            subst (λ x. IsMoved x p None before after) (sym pulling) (
                subst (λ x. IsMovedOn pulled x p None before after) (sym is) (
                  refl,
                  (
                    seen_menus loan menu_loan k,
                    so.told,
                    record {
                      activity = ap Pulling (lies_below loan menu_loan title now.listed new t u k n front over now.got ∙ as_large (desk_of loan t []) title.hit (seen menu_loan old.listed) (seen menu_loan now.listed) size);
                      begun = refl;
                      shown = shown loan menu_loan t u m n (opened a begun) (opened (Pulling new) begun) slots kept k.list.menus.items (Some title.hit.menu) (λ i. (over.menus i).items) over.highlighted bar.1;
                    },
                  ),
                )),
          ),
        ),
      )

  -- the map in front shows that menu
  pub moved_front : (t u : WindowManager V H) (m k n : Menus W K) (front : Overlay) (p : Point) (pulled new : PulledMenu) (title : Titled)
      → of_another pulled (indexed m.list.menus.items (title_under (desk_of loan t []) p)) ≡ Some title → title.at < length k.list.menus.items
      → IsToldSo pulled None m k → IsPulledOver loan menu_loan title new t u k n front → IsMenuFront menu_loan (Pulling new) u n front
  moved_front t u m k n front p pulled new title on there so over =
      let under = title_under (desk_of loan t []) p in
      let now = is_at title.at k.list.menus.items there in
      let index = (title_index menu_loan m.list.menus.items under title (another pulled (indexed m.list.menus.items under) title on).0).1 in
      pulled_front loan menu_loan title now.listed new t u k n front over now.got (same_index pulled None m k so (pos title.hit.menu) ∙ index)

  -- ---- it is on none

  pub stayed_on : (t : WindowManager V H) (a : Activity) (begun : PixelSet) (m k : Menus W K) (p : Point) (pulled : PulledMenu) (item : Option ℕ)
      → in_plane p ≡ true → a ≡ Pulling pulled
      → of_another pulled (indexed m.list.menus.items (title_under (desk_of loan t []) p)) ≡ None
      → item ≡ item_under (desk_of loan t []) pulled (seen_menus loan menu_loan m) p
      → IsToldSo pulled item m k
      → LeavesMenus loan menu_loan (IsMenuStep (Move p) (Ok (reply.Item item))) t (opened a begun) m t (opened (Pulling (record pulled { item = item })) begun) k
  stayed_on t a begun m k p pulled item e pulling none over so kept was slots w =
      let whole : IsWholeMenus menu_loan (Pulling pulled) m kept = subst (λ x. IsWholeMenus menu_loan x m kept) pulling was in
      let before = menu_desk menu_loan loan t (opened a begun) slots m kept in
      let after = menu_desk menu_loan loan t (opened (Pulling (record pulled { item = item })) begun) slots k kept in
      let is = on_no_other menu_loan pulled m.list.menus.items (title_under (desk_of loan t []) p) none in (
        w,
        told_whole pulled item m k so kept whole,
        (
          near p e,
          (
            item,
            refl,
            subst (λ x. IsMoved x p item before after) (sym pulling) (
                subst (λ x. IsMovedOn pulled x p item before after) (sym is) (
                  over,
                  (
                    seen_menus loan menu_loan k,
                    so.told,
                    record {
                      activity = refl;
                      windows = refl;
                      begun = refl;
                      menus = λ i. record { menus = seen_menus loan menu_loan k; highlighted = so.highlighted i; stock = kept };
                    },
                  ),
                )),
          ),
        ),
      )

  -- the map in front shows the menu so
  pub stayed_front : (t : WindowManager V H) (a : Activity) (m k : Menus W K) (before after : Overlay) (pulled : PulledMenu) (item : Option ℕ) → a ≡ Pulling pulled
      → ((base : Bits) → IsShown t.font (pulled_of (Pulling pulled) (seen_menus loan menu_loan m)) base before.front
      → IsShown t.font (pulled_of (Pulling pulled) (seen_menus loan menu_loan k)) base after.front)
      → IsMenuFront menu_loan a t m before → IsMenuFront menu_loan (Pulling (record pulled { item = item })) t k after
  stayed_front t a m k before after pulled item pulling shows was =
      let front : IsMenuFront menu_loan (Pulling pulled) t m before = subst (λ x. IsMenuFront menu_loan x t m before) pulling was in
      let shown = shows t.screen front.shown in
      record { width = shown.width; height = shown.height; shown = shown }

  -- ---- the mouse button is released

  pub released : (t u : WindowManager V H) (a : Activity) (begun : PixelSet) (m k n : Menus W K) (p : Point) (pulled : PulledMenu) (choice : Option Choice)
      → in_plane p ≡ true → a ≡ Pulling pulled
      → choice ≡ choice_of pulled (item_under (desk_of loan t []) pulled (seen_menus loan menu_loan m) p)
      → IsToldSo pulled None m k
      → n.list.menus ≡ k.list.menus → n.list.highlighted ≡ (if is_none choice then None else k.list.highlighted)
      → LeavesState loan (IsBarShown (titles_of n.list.highlighted n.list.menus.items)) t u
      → LeavesMenus loan menu_loan (IsMenuStep (Up p) (Ok (reply.Chosen choice))) t (opened a begun) m u (opened Idle begun) n
  released t u a begun m k n p pulled choice e pulling chosen so menus lit leaves kept was slots w =
      let whole : IsWholeMenus menu_loan (Pulling pulled) m kept = subst (λ x. IsWholeMenus menu_loan x m kept) pulling was in
      let told = told_held pulled None m k so kept whole in
      let bar = leaves slots w in
      let before = menu_desk menu_loan loan t (opened a begun) slots m kept in
      let after = menu_desk menu_loan loan u (opened Idle begun) slots n kept in
      let items : n.list.menus.items ≡ k.list.menus.items = λ i. (menus i).items in
      let alone = lit ∙ ap (λ h. if is_none choice then None else h) so.highlighted in (
        bar.0,
        record {
          few = subst (λ v. length v ≤ 16) (sym items) told.few;
          room = subst (λ v. 16 ≤ v) (sym (λ i. vec_capacity (menus i))) told.room;
          live = subst (λ v. AreLive (menus_of menu_loan v)) (sym items) told.live;
          stocked = subst (λ v. AreMenusStocked (menus_of menu_loan v) kept) (sym items) told.stocked;
          placed = tt;
        },
        (
          near p e,
          (
            choice,
            refl,
            subst (λ x. IsMenuReleased x p choice before after) (sym pulling) (
              chosen,
              record {
                told = seen_menus loan menu_loan k;
                definition = so.told;
                activity = refl;
                begun = refl;
                shown = shown loan menu_loan t u m n (opened a begun) (opened Idle begun) slots kept k.list.menus.items (if is_none choice then None else m.list.highlighted) items alone
                    (subst (λ ts. IsBarShown ts (state_of loan t slots) (state_of loan u slots)) (λ i. titles_of (alone i) (items i)) bar.1);
              },
            ),
          ),
        ),
      )

  -- nothing lies in front then
  pub released_front : (t u : WindowManager V H) (a : Activity) (m n : Menus W K) (titles : List BarTitle) → IsKept loan t → LeavesState loan (IsBarShown titles) t u
      → (front : Overlay) → IsMenuFront menu_loan a t m front → IsMenuFront menu_loan Idle u n front
  released_front t u a m n titles kept leaves front was =
      let sides = bars.as_large loan t u kept.slots titles (leaves kept.slots kept.whole).1 in
      record { width = was.width ∙ sym sides.width; height = was.height ∙ sym sides.height; shown = tt }
