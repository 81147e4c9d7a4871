-- The menu of a number and the menu of a title, as the code finds them and as they are seen.
use Rattle.std.proofs.Common.{◌≡◌, ℕ, zero, suc, Bool, true, false, ◌&&◌, ◌==◌, if◌then◌else◌, ◌<◌, List, [], ◌∷◌, length, get_or, set, Option, Some, None, refl, sym, ap, ◌∙◌, subst}
use Rattle.std.specs.Prelude.{ℤ, pos, slice_get}
use Rattle.std.specs.Option.{option_map, option_and_then}
use Rattle.tb_geom.specs.declared.rect.Rect.{Rect}
use Rattle.tb_geom.specs.Points.{minus}
use Rattle.tb_geom.specs.Rects.{rect_holds}
use Rattle.bit_map.specs.Bits.{Bits}
use Rattle.bit_blit.specs.Draws.{IsWritten}
use Rattle.bit_blit.proofs.WrittenLemmas.{written_in}
use Rattle.def_iface.specs.declared.window_def.Stage.TheVariants.{Live}
use Rattle.def_iface.specs.MenuMeaning.{MenuLoan, no_menu_news, told_item}
use Rattle.def_iface.specs.WindowMeaning.{IsWithin}
use Rattle.desk_ground.specs.declared.bar.TitleHit.{TitleHit}
use Rattle.menu_list.specs.declared.listed.Listed.{Listed}
use Rattle.menu_list.specs.Lists.{edit_at, menu_index, menu_with}
use Rattle.menu_list.specs.Seen.{seen, all_seen}
use Rattle.menu_list.proofs.ListLemmas.{read_there}
use Rattle.menu_list.proofs.SeenLemmas.{menu_with-seen, slice_get-seen}
use Rattle.overlay.specs.Overlays.{IsShown, pulled_rect}
use Rattle.desk_call.specs.declared.activity.PulledMenu.{PulledMenu}
use Rattle.menu_list.proofs.Indices.{with_found, with_none}
use Rattle.menu_mgr.specs.declared.pulling.Titled.{Titled}
use Rattle.menu_mgr.specs.Leaving.{indexed, of_another}
use Rattle.menu_mgr.specs.MenuDesks.{MenuRecord}
use Rattle.menu_mgr.specs.MenuSteps.{IsItemTold, IsToldAt, other_title, with_definition}
use Rattle.menu_mgr.specs.Pulling.{TitleOf, as_pulled, item_damage, titled}
use Rattle.menu_mgr.specs.WholeMenus.{AreLive}
use Rattle.menu_mgr.proofs.Stocks.{live-at}
use Rattle.menu_mgr.proofs.ToldMenus.{told_there}

abbrev pub titled_at : TitleHit → ℕ → Titled
titled_at hit at = record { at = at; hit = hit }

abbrev pub title_with : TitleHit → MenuRecord → TitleOf
title_with hit l = record { hit = hit; record_of = l }

module _ {B : Type 0} (g : B → MenuLoan) where
  -- the menu at an index
  pub seen_at : (xs : List (Listed B)) (at : ℕ) (l : Listed B) → slice_get xs at ≡ Some l → slice_get (all_seen g xs) at ≡ Some (seen g l)
  seen_at xs at l got = slice_get-seen g xs at ∙ ap (option_map (seen g)) got

  -- the menu of a number
  pub found : (id : ℤ) (xs : List (Listed B)) (at : ℕ) (l : Listed B) → menu_index id xs ≡ Some at → slice_get xs at ≡ Some l → menu_with id (all_seen g xs) ≡ Some (seen g l)
  found id xs at l is got = menu_with-seen g id xs ∙ ap (option_map (seen g)) (with_found id xs at is ∙ got)

  pub found_none : (id : ℤ) (xs : List (Listed B)) → menu_index id xs ≡ None → menu_with id (all_seen g xs) ≡ None
  found_none id xs none = menu_with-seen g id xs ∙ ap (option_map (seen g)) (with_none id xs none)

  -- another definition in one of them
  pub told_seen : (xs : List (Listed B)) (i : ℕ) (x : Listed B) (t : B) → x ≡ get_or xs i x → (g t).slot ≡ (g x.definition).slot
      → all_seen g (set xs i (record x { definition = t })) ≡ edit_at (with_definition (g t).definition) i (all_seen g xs)
  told_seen [] i x t read slot = refl
  told_seen (y ∷ ys) zero x t read slot =
      let same = slot ∙ ap (λ (z : Listed B). (g z.definition).slot) read in
      λ j. record { menu = (read j).menu; inserted = (read j).inserted; definition = record { definition = (g t).definition; slot = same j } } ∷ all_seen g ys
  told_seen (y ∷ ys) (suc i) x t read slot = ap (λ (ls : List MenuRecord). seen g y ∷ ls) (told_seen ys i x t read slot)

  -- the definition of one of them is live
  pub live_there : (xs : List (Listed B)) (at : ℕ) (x : Listed B) → at < length xs → x ≡ get_or xs at x → AreLive (all_seen g xs) → (g x.definition).definition.stage ≡ Live
  live_there xs at x within read live = live-at at (all_seen g xs) (seen g x) (seen_at xs at x (read_there xs at x within read)) live

  module _ (xs : List (Listed B)) (at : ℕ) (x : Listed B) (t : B) (within : at < length xs) (read : x ≡ get_or xs at x) (slot : (g t).slot ≡ (g x.definition).slot) where
    got : slice_get (all_seen g xs) at ≡ Some (seen g x)
    got = seen_at xs at x (read_there xs at x within read)

    -- it was told which item is highlighted
    pub told_here : (item : Option ℕ) → IsItemTold item (g x.definition).definition (g t).definition → IsToldAt (Some at) item (all_seen g xs) (all_seen g (set xs at (record x { definition = t })))
    told_here item told = (seen g x, got, ((g t).definition, told, told_seen xs at x t read slot))

    -- and shown so
    pub front_here : (font : List ℕ) (m : PulledMenu) (base front now : Bits)
        → (IsShown font (Some (as_pulled m (seen g x))) base front → IsShown font (Some (record (as_pulled m (seen g x)) { definition = (g t).definition })) base now)
        → IsShown font (option_map (as_pulled m) (slice_get (all_seen g xs) at)) base front
        → IsShown font (option_map (as_pulled m) (slice_get (all_seen g (set xs at (record x { definition = t }))) at)) base now
    front_here font m base front now shows shown =
        let after : slice_get (all_seen g (set xs at (record x { definition = t }))) at ≡ Some (with_definition (g t).definition (seen g x)) =
        ap (λ ls. slice_get ls at) (told_seen xs at x t read slot)
        ∙ told_there (g t).definition at (all_seen g xs)
        ∙ ap (option_map (with_definition (g t).definition)) got in
        subst (λ o. IsShown font (option_map (as_pulled m) o) base now) (sym after)
        (shows (subst (λ o. IsShown font (option_map (as_pulled m) o) base front) got shown))

    -- in the damage that it may answer, and nowhere else
    pub written_here : (m : PulledMenu) (item : Option ℕ) (damage : Rect) (front now : Bits)
        → IsWithin (rect_holds damage) ((g x.definition).definition.damage (told_item item no_menu_news))
        → IsWritten (λ p. rect_holds (pulled_rect m.place m.size) p && rect_holds damage (minus p m.place)) front now
        → IsWritten (item_damage m item (slice_get (all_seen g xs) at)) front now
    written_here m item damage front now answered written =
        subst (λ o. IsWritten (item_damage m item o) front now) (sym got)
        (written_in _ _ front now (λ p on out. fewer (rect_holds (pulled_rect m.place m.size) p) (rect_holds damage (minus p m.place)) _ (answered (minus p m.place)) out) written)
      where
        fewer : (r d e : Bool) → (d ≡ true → e ≡ true) → (r && e) ≡ false → (r && d) ≡ false
        fewer true true e more out = sym (more refl) ∙ out
        fewer true false e more out = refl
        fewer false d e more out = refl

  -- ---- titles

  -- a point is on no title of a menu
  pub no_title : (xs : List (Listed B)) (o : Option TitleHit) → indexed xs o ≡ None → option_and_then (λ hit. titled hit (all_seen g xs)) o ≡ None
  no_title xs None none = refl
  no_title xs (Some hit) none = by_index (menu_index (pos hit.menu) xs) refl none
    where
      by_index : (i : Option ℕ) → menu_index (pos hit.menu) xs ≡ i → option_map (titled_at hit) i ≡ None → titled hit (all_seen g xs) ≡ None
      by_index None is e = ap (option_map (title_with hit)) (found_none (pos hit.menu) xs is)
      by_index (Some at) is e = absurd (cc)

  -- the menu of a title stands at its index
  pub title_index : (xs : List (Listed B)) (o : Option TitleHit) (t : Titled) → indexed xs o ≡ Some t → (o ≡ Some t.hit) × (menu_index (pos t.hit.menu) xs ≡ Some t.at)
  title_index xs None t e = absurd (cc)
  title_index xs (Some hit) t e = by_index (menu_index (pos hit.menu) xs) refl e
    where
      by_index : (i : Option ℕ) → menu_index (pos hit.menu) xs ≡ i → option_map (titled_at hit) i ≡ Some t → (Some hit ≡ Some t.hit) × (menu_index (pos t.hit.menu) xs ≡ Some t.at)
      by_index None is e = absurd (cc)
      by_index (Some at) is e =
          let same : titled_at hit at ≡ t = cc in
          (ap (λ (u : Titled). Some u.hit) same, ap (λ (u : Titled). menu_index (pos u.hit.menu) xs) (sym same) ∙ is ∙ ap (λ (u : Titled). Some u.at) same)

  -- a point is on this title
  pub on_title : (xs : List (Listed B)) (o : Option TitleHit) (t : Titled) (l : Listed B) → indexed xs o ≡ Some t → slice_get xs t.at ≡ Some l
      → option_and_then (λ hit. titled hit (all_seen g xs)) o ≡ Some (title_with t.hit (seen g l))
  on_title xs o t l e got =
      let is = title_index xs o t e in
      ap (option_and_then (λ hit. titled hit (all_seen g xs))) is.0
      ∙ ap (option_map (title_with t.hit)) (found (pos t.hit.menu) xs t.at l is.1 got)

-- the title of another menu than the pulled one
pub another : (m : PulledMenu) (o : Option Titled) (t : Titled) → of_another m o ≡ Some t → (o ≡ Some t) × ((t.hit.menu == m.menu) ≡ false)
another m None t e = absurd (cc)
another m (Some s) t e = by_test (s.hit.menu == m.menu) refl e
  where
    by_test : (b : Bool) → (s.hit.menu == m.menu) ≡ b → (if b then None else Some s) ≡ Some t → (Some s ≡ Some t) × ((t.hit.menu == m.menu) ≡ false)
    by_test true is e = absurd (cc)
    by_test false is e = let same : s ≡ t = cc in (ap Some same, ap (λ (u : Titled). u.hit.menu == m.menu) (sym same) ∙ is)

module _ {B : Type 0} (g : B → MenuLoan) (m : PulledMenu) where
  pub on_other : (xs : List (Listed B)) (o : Option TitleHit) (t : Titled) (l : Listed B) → of_another m (indexed xs o) ≡ Some t → slice_get xs t.at ≡ Some l
      → other_title m (option_and_then (λ hit. titled hit (all_seen g xs)) o) ≡ Some (title_with t.hit (seen g l))
  on_other xs o t l e got =
      let is = another m (indexed xs o) t e in
      ap (other_title m) (on_title g xs o t l is.0 got) ∙ ap (λ b. if b then None else Some (title_with t.hit (seen g l))) is.1

  pub on_no_other : (xs : List (Listed B)) (o : Option TitleHit) → of_another m (indexed xs o) ≡ None
      → other_title m (option_and_then (λ hit. titled hit (all_seen g xs)) o) ≡ None
  on_no_other xs None e = refl
  on_no_other xs (Some hit) e = by_index (menu_index (pos hit.menu) xs) refl e
    where
      by_number : (b : Bool) (at : ℕ) (p : Option MenuRecord) → (if b then None else Some (titled_at hit at)) ≡ None
          → (hit.menu == m.menu) ≡ b → other_title m (option_map (title_with hit) p) ≡ None
      by_number true at None e is = refl
      by_number true at (Some l) e is = ap (λ b. if b then None else Some (title_with hit l)) is
      by_number false at p e is = absurd (cc)

      by_index : (i : Option ℕ) → menu_index (pos hit.menu) xs ≡ i → of_another m (option_map (titled_at hit) i) ≡ None → other_title m (titled hit (all_seen g xs)) ≡ None
      by_index None is e = ap (λ p. other_title m (option_map (title_with hit) p)) (found_none g (pos hit.menu) xs is)
      by_index (Some at) is e = by_number (hit.menu == m.menu) at (menu_with (pos hit.menu) (all_seen g xs)) e refl
