-- Menus of which the definition of one was told which item is highlighted: what they are but for that.
use Rattle.std.proofs.Common.{◌≡◌, ℕ, zero, suc, ◌+◌, not, cond, List, [], ◌∷◌, length, Option, Some, None, refl, sym, ap, ◌∙◌, subst}
use Rattle.std.specs.Prelude.{ℤ, pos, slice_get}
use Rattle.std.specs.List.{position_or_len}
use Rattle.std.specs.Option.{option_map}
use Rattle.bit_map.specs.Bits.{Bits}
use Rattle.def_iface.specs.declared.size.Size.{Size}
use Rattle.def_iface.specs.MenuMeaning.{MenuDefinition}
use Rattle.menu_record.specs.declared.menu.Menu.{Menu}
use Rattle.desk_ground.specs.declared.bar.TitleHit.{TitleHit}
use Rattle.menu_list.specs.Lists.{edit_at, has_number, menu_index}
use Rattle.overlay.specs.Overlays.{IsShown}
use Rattle.overlay.specs.Places.{pulled_place, shown_size}
use Rattle.desk_call.specs.declared.activity.Activity.TheVariants.{Pulling}
use Rattle.desk_call.specs.declared.activity.PulledMenu.{PulledMenu}
use Rattle.menu_list.proofs.Indices.{with_found}
use Rattle.window_mgr.specs.FullDesk.{FullDesk}
use Rattle.menu_mgr.specs.MenuDesks.{MenuRecord, MenuSlot}
use Rattle.menu_mgr.specs.MenuSteps.{IsTold, IsToldAt, with_definition}
use Rattle.menu_mgr.specs.Pulling.{as_pulled, pulled_below, pulled_of, size_of}
use Rattle.menu_mgr.specs.WholeMenus.{uses, AreMenusStocked, AreLive}
use Rattle.menu_mgr.proofs.Stocks.{live-edit, uses-edit, stocked_alike}

-- ---- one menu with another definition

module _ (d : MenuDefinition) where
  same_place : (id : ℤ) (at : ℕ) (ls : List MenuRecord) → position_or_len (has_number id) (edit_at (with_definition d) at ls) ≡ position_or_len (has_number id) ls
  same_place id at [] = refl
  same_place id zero (l ∷ ls) = refl
  same_place id (suc at) (l ∷ ls) = ap (λ n. cond (not (has_number id l)) (1 + n) 0) (same_place id at ls)

  as_many : (at : ℕ) (ls : List MenuRecord) → length (edit_at (with_definition d) at ls) ≡ length ls
  as_many at [] = refl
  as_many zero (l ∷ ls) = refl
  as_many (suc at) (l ∷ ls) = ap suc (as_many at ls)

  same_index : (id : ℤ) (at : ℕ) (ls : List MenuRecord) → menu_index id (edit_at (with_definition d) at ls) ≡ menu_index id ls
  same_index id at ls = rw (same_place id at ls, as_many at ls) refl

  pub told_there : (at : ℕ) (ls : List MenuRecord) → slice_get (edit_at (with_definition d) at ls) at ≡ option_map (with_definition d) (slice_get ls at)
  told_there at [] = refl
  told_there zero (l ∷ ls) = refl
  told_there (suc at) (l ∷ ls) = told_there at ls

  same_size : (font : List ℕ) (at i : ℕ) (ls : List MenuRecord) (l m : MenuRecord)
      → ((k : MenuRecord) → slice_get ls at ≡ Some k → d.size ≡ k.definition.definition.size)
      → slice_get ls i ≡ Some l → slice_get (edit_at (with_definition d) at ls) i ≡ Some m → size_of font m ≡ size_of font l
  same_size font at i [] l m same was is = absurd (cc)
  same_size font zero zero (k ∷ ls) l m same was is =
      let a : k ≡ l = cc in
      let b : with_definition d k ≡ m = cc in
      ap (size_of font) (sym b) ∙ ap (λ (s : List ℕ → Menu → Size). shown_size k.menu (s font k.menu)) (same k refl) ∙ ap (size_of font) a
  same_size font zero (suc i) (k ∷ ls) l m same was is = let a : l ≡ m = cc in ap (size_of font) (sym a)
  same_size font (suc at) zero (k ∷ ls) l m same was is = let a : l ≡ m = cc in ap (size_of font) (sym a)
  same_size font (suc at) (suc i) (k ∷ ls) l m same was is = same_size font at i ls l m same was is

-- ---- the menus of which one was told

-- what stays of menus of which one was told
pub record AreAlike (before after : List MenuRecord) : Type 0 where
  pub many : length after ≡ length before
  pub live : AreLive before → AreLive after
  pub stocked : (slots : List MenuSlot) → AreMenusStocked before slots → AreMenusStocked after slots
  pub index : (id : ℤ) → menu_index id after ≡ menu_index id before
  pub size : (font : List ℕ) (i : ℕ) (l m : MenuRecord) → slice_get before i ≡ Some l → slice_get after i ≡ Some m → size_of font m ≡ size_of font l

edited_alike : (item at : Option ℕ) (before after : List MenuRecord) → IsToldAt at item before after → AreAlike before after
edited_alike item None before after same = record {
  many = ap length same;
  live = λ h. subst AreLive (sym same) h;
  stocked = λ slots h. subst (λ ls. AreMenusStocked ls slots) (sym same) h;
  index = λ id. ap (menu_index id) same;
  size = λ font i l m was is. let a : l ≡ m = cc (ap (λ ls. slice_get ls i) same) in ap (size_of font) (sym a);
}
edited_alike item (Some at) before after (l, got, (d, told, is)) = record {
  many = ap length is ∙ as_many d at before;
  live = λ h. subst AreLive (sym is) (live-edit (with_definition d) (λ k live. told.live) at before h);
  stocked = λ slots h. stocked_alike before after slots (λ k. ap (uses k) is ∙ uses-edit k (with_definition d) (λ m. refl) at before) h;
  index = λ id. ap (menu_index id) is ∙ same_index d id at before;
  size = λ font i k m was now.
      same_size d font at i before k m (λ n here. let a : l ≡ n = cc in told.measures.size ∙ ap (λ (x : MenuRecord). x.definition.definition.size) a)
      was (sym (ap (λ ls. slice_get ls i) is) ∙ now);
}

pub told_alike : (m : PulledMenu) (item : Option ℕ) (before after : List MenuRecord) → IsTold m item before after → AreAlike before after
told_alike m item before after told = edited_alike item (menu_index (pos m.menu) before) before after told

-- a menu that is as large is pulled down at the same place
pub as_large : (desk : FullDesk) (hit : TitleHit) (l m : MenuRecord) → size_of desk.font m ≡ size_of desk.font l
    → pulled_below desk (record { hit = hit; record_of = m }) ≡ pulled_below desk (record { hit = hit; record_of = l })
as_large desk hit l m same = ap (λ (s : Size). record { menu = hit.menu; place = pulled_place desk.width hit.left s; size = s; item = None }) same

-- ---- the pulled menu among them

-- it was told where it stands
pub told_at_index : (m : PulledMenu) (item : Option ℕ) (at : ℕ) (before after : List MenuRecord) → menu_index (pos m.menu) before ≡ Some at
    → IsToldAt (Some at) item before after → IsTold m item before after
told_at_index m item at before after is told = subst (λ o. IsToldAt o item before after) (sym is) told

-- and nowhere, where it is not among them
pub told_nowhere : (m : PulledMenu) (item : Option ℕ) (menus : List MenuRecord) → menu_index (pos m.menu) menus ≡ None → IsTold m item menus menus
told_nowhere m item menus none = subst (λ o. IsToldAt o item menus menus) (sym none) refl

-- the map in front shows it as it did
pub front_at_index : (m : PulledMenu) (item : Option ℕ) (font : List ℕ) (at : ℕ) (before after : List MenuRecord) (base front now : Bits)
    → menu_index (pos m.menu) before ≡ Some at → IsToldAt (Some at) item before after
    → (IsShown font (option_map (as_pulled m) (slice_get before at)) base front → IsShown font (option_map (as_pulled m) (slice_get after at)) base now)
    → IsShown font (pulled_of (Pulling m) before) base front → IsShown font (pulled_of (Pulling m) after) base now
front_at_index m item font at before after base front now is told shows shown =
    let here = with_found (pos m.menu) before at is in
    let there = with_found (pos m.menu) after at ((edited_alike item (Some at) before after told).index (pos m.menu) ∙ is) in
    subst (λ o. IsShown font (option_map (as_pulled m) o) base now) (sym there)
    (shows (subst (λ o. IsShown font (option_map (as_pulled m) o) base front) here shown))
