-- Menus whose definitions go by which of their items is highlighted.
use Rattle.std.proofs.Common.{◌≡◌, ℕ, zero, suc, ◌+◌, ◌≤◌, Bool, true, false, ◌&&◌, ◌||◌, cond, if◌then◌else◌, List, [], ◌∷◌, Option, None, Some, refl, sym, ap, ◌∙◌, subst, arith}
use Rattle.std.specs.Prelude.{All, ℤ, pos, slice_get}
use Rattle.std.specs.List.{remove}
use Rattle.std.specs.Option.{option_map_or}
use Rattle.std.proofs.lemmas.List.Elements.{All-cons, All-head, All-nil, All-tail, All-weaker}
use Rattle.def_iface.specs.MenuMeaning.{MenuDefinition, MenuGoesBy, MenuHears, told_item}
use Rattle.menu_record.specs.Edits.{set_enabled}
use Rattle.menu_list.specs.Editing.{with_item_checked, with_item_text, with_items_of}
use Rattle.menu_list.specs.Lists.{edit_at, has_number, is_in_bar, menu_index, menu_with, moved_before, put_before, with_inserted, with_menu}
use Rattle.menu_list.specs.MenuEdits.{edited, inserted, menus_after}
use Rattle.menu_list.proofs.Indices.{with_found, with_none}
use Rattle.desk_call.specs.declared.activity.Activity.TheVariants.{Idle, Pulling}
use Rattle.desk_call.specs.declared.activity.PulledMenu.{PulledMenu}
use Rattle.desk_call.specs.declared.menu.MenuCall.{MenuCall}
use Rattle.desk_call.specs.declared.menu.MenuCall.TheVariants.{Append, SetItem, Insert, Delete, Enable, Disable, Check}
use Rattle.menu_mgr.specs.MenuDesks.{MenuRecord}
use Rattle.menu_mgr.specs.MenuSteps.{IsTold, IsToldAt, with_definition}
use Rattle.desk_toolbox.specs.Reached.{AreMenusApart, IsLit, numbered}
use Rattle.desk_toolbox.proofs.MenuNumbers.{none_numbered, number_of, numbered-remove}

-- what a definition was told it goes by
pub hears_goes : (item : Option ℕ) (old new : MenuDefinition) → MenuHears (told_item item) old new → MenuGoesBy item new
hears_goes item old new heard = record { picture = λ n font menu p. heard.picture n font menu p ∙ sym (heard.picture (told_item item n) font menu p) }

-- ---- what holds of each menu

module _ (P : MenuRecord → Type 0) where
  all_at : (i : ℕ) (xs : List MenuRecord) (l : MenuRecord) → slice_get xs i ≡ Some l → All P xs → P l
  all_at i [] l e h = absurd (cc)
  all_at zero (x ∷ xs) l e h = let same : x ≡ l = cc in subst P same (All-head P x xs h)
  all_at (suc i) (x ∷ xs) l e h = all_at i xs l e (All-tail P x xs h)

  pub all_remove : (i : ℕ) (xs : List MenuRecord) → All P xs → All P (remove xs i)
  all_remove zero [] h = h
  all_remove (suc i) [] h = h
  all_remove zero (x ∷ xs) h = All-tail P x xs h
  all_remove (suc i) (x ∷ xs) h = All-cons P x (remove xs i) (All-head P x xs h) (all_remove i xs (All-tail P x xs h))

  all_put : (before : ℤ) (l : MenuRecord) (xs : List MenuRecord) → P l → All P xs → All P (put_before before l xs)
  all_put before l [] e h = All-cons P l [] e h
  all_put before l (x ∷ xs) e h = by_test (has_number before x) (all_put before l xs e (All-tail P x xs h))
    where
      by_test : (b : Bool) → All P (put_before before l xs) → All P (cond b (l ∷ x ∷ xs) (x ∷ put_before before l xs))
      by_test true rest = All-cons P l (x ∷ xs) e h
      by_test false rest = All-cons P x (put_before before l xs) (All-head P x xs h) rest

  all_edit : (f : MenuRecord → MenuRecord) → ((l : MenuRecord) → P l → P (f l)) → (i : ℕ) (xs : List MenuRecord) → All P xs → All P (edit_at f i xs)
  all_edit f keeps i [] h = h
  all_edit f keeps zero (x ∷ xs) h = All-cons P (f x) xs (keeps x (All-head P x xs h)) (All-tail P x xs h)
  all_edit f keeps (suc i) (x ∷ xs) h = All-cons P x (edit_at f i xs) (All-head P x xs h) (all_edit f keeps i xs (All-tail P x xs h))

  all_edited : (f : MenuRecord → MenuRecord) → ((l : MenuRecord) → P l → P (f l)) → (id : ℤ) (xs : List MenuRecord) → All P xs → All P (edited f id xs)
  all_edited f keeps id xs h = by_index (menu_index id xs)
    where
      by_index : (o : Option ℕ) → All P (option_map_or (λ at. edit_at f at xs) o xs)
      by_index None = h
      by_index (Some at) = all_edit f keeps at xs h

  all_moved : ((l : MenuRecord) → P l → P (with_inserted true l)) → (before : ℤ) (i : ℕ) (xs : List MenuRecord) → All P xs → All P (moved_before before i xs)
  all_moved keeps before i xs h = by_get (slice_get xs i) refl
    where
      by_get : (o : Option MenuRecord) → slice_get xs i ≡ o → All P (option_map_or (λ l. put_before before (with_inserted true l) (remove xs i)) o xs)
      by_get None e = h
      by_get (Some l) e = all_put before (with_inserted true l) (remove xs i) (keeps l (all_at i xs l e h)) (all_remove i xs h)

  all_inserted : ((l : MenuRecord) → P l → P (with_inserted true l)) → (id before : ℤ) (xs : List MenuRecord) → All P xs → All P (inserted id before xs)
  all_inserted keeps id before xs h = by_index (menu_index id xs)
    where
      by_index : (o : Option ℕ) → All P (option_map_or (λ at. moved_before before at xs) o xs)
      by_index None = h
      by_index (Some at) = all_moved keeps before at xs h

-- menus that are changed as data have their definitions
pub lit_after : (call : MenuCall) (xs : List MenuRecord) → All (IsLit Idle) xs → All (IsLit Idle) (menus_after call xs)
lit_after (Append a) xs h = all_edited (IsLit Idle) (with_menu (with_items_of a.items)) (λ l k. k) a.menu xs h
lit_after (SetItem t) xs h = all_edited (IsLit Idle) (with_menu (with_item_text t.item t.text)) (λ l k. k) t.menu xs h
lit_after (Insert place) xs h = all_inserted (IsLit Idle) (λ l k. k) place.menu place.before xs h
lit_after (Delete id) xs h = all_edited (IsLit Idle) (with_inserted false) (λ l k. k) id xs h
lit_after (Enable item) xs h = all_edited (IsLit Idle) (with_menu (set_enabled item.item true)) (λ l k. k) item.menu xs h
lit_after (Disable item) xs h = all_edited (IsLit Idle) (with_menu (set_enabled item.item false)) (λ l k. k) item.menu xs h
lit_after (Check c) xs h = all_edited (IsLit Idle) (with_menu (with_item_checked c.item c.checked)) (λ l k. k) c.menu xs h
lit_after _ xs h = h

-- ---- the pulled menu

-- the item of the menu of this number is highlighted, and none of another
abbrev pub IsLitAs : ℕ → Option ℕ → MenuRecord → Type 0
IsLitAs k item l = MenuGoesBy (if has_number (pos k) l then item else None) l.definition.definition

-- where none of it is, none of any menu is
pub none_lit : (k : ℕ) (xs : List MenuRecord) → All (IsLitAs k None) xs → All (IsLit Idle) xs
none_lit k xs h = All-weaker (IsLitAs k None) (IsLit Idle) (λ l e. by_test l (has_number (pos k) l) e) xs h
  where
    by_test : (l : MenuRecord) (b : Bool) → MenuGoesBy (if b then None else None) l.definition.definition → MenuGoesBy None l.definition.definition
    by_test l true e = e
    by_test l false e = e

pub lit_by_none : (k : ℕ) (xs : List MenuRecord) → All (IsLit Idle) xs → All (IsLitAs k None) xs
lit_by_none k xs h = All-weaker (IsLit Idle) (IsLitAs k None) (λ l e. by_test l (has_number (pos k) l) e) xs h
  where
    by_test : (l : MenuRecord) (b : Bool) → MenuGoesBy None l.definition.definition → MenuGoesBy (if b then None else None) l.definition.definition
    by_test l true e = e
    by_test l false e = e

-- of menus of other numbers no item is
others_lit : (k : ℕ) (old new : Option ℕ) (xs : List MenuRecord) → numbered k xs ≡ 0 → All (IsLitAs k old) xs → All (IsLitAs k new) xs
others_lit k old new [] none h = All-nil (IsLitAs k new)
others_lit k old new (x ∷ xs) none h =
    let both = by_test (has_number (pos k) x) none (All-head (IsLitAs k old) x xs h) in
    All-cons (IsLitAs k new) x xs both.0 (others_lit k old new xs both.1 (All-tail (IsLitAs k old) x xs h))
  where
    by_test : (b : Bool) → (if b then 1 else 0) + numbered k xs ≡ 0 → MenuGoesBy (if b then old else None) x.definition.definition
        → MenuGoesBy (if b then new else None) x.definition.definition × (numbered k xs ≡ 0)
    by_test true none e = absurd (omega arith)
    by_test false none e = (e, omega arith)

numbered_there : (k i : ℕ) (xs : List MenuRecord) (l : MenuRecord) → slice_get xs i ≡ Some l → has_number (pos k) l ≡ true → 1 ≤ numbered k xs
numbered_there k i xs l at is =
    let parts = numbered-remove k i xs l at in
    let one : number_of k l ≡ 1 = ap (λ (b : Bool). if b then 1 else 0) is in
    omega arith

-- the one menu of the number was told
told_lit_at : (k : ℕ) (old new : Option ℕ) (d : MenuDefinition) → MenuGoesBy new d → (i : ℕ) (xs : List MenuRecord) (l : MenuRecord) → slice_get xs i ≡ Some l → has_number (pos k) l ≡ true
    → numbered k xs ≤ 1 → All (IsLitAs k old) xs → All (IsLitAs k new) (edit_at (with_definition d) i xs)
told_lit_at k old new d goes i [] l at is few h = absurd (cc)
told_lit_at k old new d goes zero (x ∷ xs) l at is few h =
    let same : x ≡ l = cc in
    let its : has_number (pos k) x ≡ true = ap (has_number (pos k)) same ∙ is in
    let one : number_of k x ≡ 1 = ap (λ (b : Bool). if b then 1 else 0) its in
    let none : numbered k xs ≡ 0 = omega arith in
    All-cons (IsLitAs k new) (with_definition d x) xs (subst (λ (b : Bool). MenuGoesBy (if b then new else None) d) (sym its) goes)
    (others_lit k old new xs none (All-tail (IsLitAs k old) x xs h))
told_lit_at k old new d goes (suc i) (x ∷ xs) l at is few h =
    let there = numbered_there k i xs l at is in
    let both = by_test (has_number (pos k) x) few there (All-head (IsLitAs k old) x xs h) in
    All-cons (IsLitAs k new) x (edit_at (with_definition d) i xs) both.0
    (told_lit_at k old new d goes i xs l at is both.1 (All-tail (IsLitAs k old) x xs h))
  where
    by_test : (b : Bool) → (if b then 1 else 0) + numbered k xs ≤ 1 → 1 ≤ numbered k xs → MenuGoesBy (if b then old else None) x.definition.definition
        → MenuGoesBy (if b then new else None) x.definition.definition × (numbered k xs ≤ 1)
    by_test true few there e = absurd (omega arith)
    by_test false few there e = (e, omega arith)

found_number : (k : ℕ) (xs : List MenuRecord) (l : MenuRecord) → menu_with (pos k) xs ≡ Some l → has_number (pos k) l ≡ true
found_number k [] l e = absurd (cc)
found_number k (x ∷ xs) l e = by_test (has_number (pos k) x) refl (found_number k xs l) e
  where
    by_test : (b : Bool) → has_number (pos k) x ≡ b → (menu_with (pos k) xs ≡ Some l → has_number (pos k) l ≡ true) → cond b (Some x) (menu_with (pos k) xs) ≡ Some l → has_number (pos k) l ≡ true
    by_test true is rest e = let same : x ≡ l = cc in subst (λ y. has_number (pos k) y ≡ true) same is
    by_test false is rest e = rest e

pub told_lit : (m : PulledMenu) (item : Option ℕ) (before after : List MenuRecord) → AreMenusApart before → All (IsLit (Pulling m)) before → IsTold m item before after → All (IsLitAs m.menu item) after
told_lit m item before after apart was told = by_index (menu_index (pos m.menu) before) refl told
  where
    by_index : (o : Option ℕ) → menu_index (pos m.menu) before ≡ o → IsToldAt o item before after → All (IsLitAs m.menu item) after
    by_index None is same =
        subst (All (IsLitAs m.menu item)) (sym same)
        (others_lit m.menu m.item item before (none_numbered m.menu before (with_none (pos m.menu) before is)) was)
    by_index (Some at) is (l, found, (d, heard, same)) =
        subst (All (IsLitAs m.menu item)) (sym same)
        (told_lit_at m.menu m.item item d (hears_goes item l.definition.definition d heard.heard) at before l found
        (found_number m.menu before l (with_found (pos m.menu) before at is ∙ found)) (apart m.menu) was)

-- ---- in the menu bar

same_place : (id : ℤ) (d : MenuDefinition) (at : ℕ) (xs : List MenuRecord) → is_in_bar id (edit_at (with_definition d) at xs) ≡ is_in_bar id xs
same_place id d at [] = refl
same_place id d zero (x ∷ xs) = refl
same_place id d (suc at) (x ∷ xs) = ap (λ b. (x.inserted && has_number id x) || b) (same_place id d at xs)

pub told_in_bar : (id : ℤ) (at item : Option ℕ) (before after : List MenuRecord) → IsToldAt at item before after → is_in_bar id after ≡ is_in_bar id before
told_in_bar id None item before after same = ap (is_in_bar id) same
told_in_bar id (Some at) item before after (l, found, (d, told, is)) = ap (is_in_bar id) is ∙ same_place id d at before
