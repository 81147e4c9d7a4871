-- The stock of menus has the definitions of those that are there, and a highlighted title is in the menu bar, whatever is called.
use Rattle.std.proofs.Common.{◌≡◌, ℕ, zero, suc, ◌==◌, Bool, true, false, ◌&&◌, ◌||◌, cond, if◌then◌else◌, List, [], ◌∷◌, ◌++◌, Option, None, Some, refl, ap, ◌∙◌, arith}
use Rattle.std.specs.Prelude.{IfSome, ℤ, pos, slice_get}
use Rattle.std.specs.List.{remove}
use Rattle.std.specs.Option.{option_and_then, option_map, option_map_or, option_or}
use Rattle.std.specs.Ordering.{int_eq}
use Rattle.std.proofs.lemmas.Bool.Decides.{Decides-int_eq, nat_tests}
use Rattle.menu_record.specs.Edits.{edit_item, set_enabled, with_enabled}
use Rattle.menu_record.specs.Menus.{item_with_key}
use Rattle.menu_list.specs.Editing.{with_item_checked, with_item_text, with_items_of}
use Rattle.menu_list.specs.Lists.{edit_at, has_number, is_in_bar, key_choice, key_in, menu_index, menu_with, moved_before, put_before, with_inserted, with_menu, without_highlight, without_highlight_at}
use Rattle.menu_list.specs.MenuEdits.{edited, highlight_after, highlighted_by, inserted, menus_after, title_number}
use Rattle.desk_call.specs.declared.menu.Choice.{Choice}
use Rattle.desk_call.specs.declared.menu.MenuCall.{MenuCall}
use Rattle.desk_call.specs.declared.menu.MenuCall.TheVariants.{Append, SetItem, Insert, Delete, Enable, Disable, Check, Key, Hilite}
use Rattle.menu_mgr.specs.MenuDesks.{MenuRecord}
use Rattle.menu_mgr.specs.WholeMenus.{uses}
use Rattle.menu_mgr.proofs.Stocks.{uses-edit, uses-moved}
use Rattle.desk_toolbox.proofs.MenuNumbers.{same_number}

-- ---- in the menu bar

-- a menu of this number is there
abbrev pub Shows : ℕ → List MenuRecord → Type 0
Shows h ls = is_in_bar (pos h) ls ≡ true

or_keeps : (a b c : Bool) → (b ≡ true → c ≡ true) → (a || b) ≡ true → (a || c) ≡ true
or_keeps true b c keeps e = refl
or_keeps false b c keeps e = keeps e

or_right : (a b : Bool) → b ≡ true → (a || b) ≡ true
or_right true b e = refl
or_right false b e = e

or_left : (a b : Bool) → a ≡ true → (a || b) ≡ true
or_left true b e = refl
or_left false b e = absurd (cc)

and_both : (a b : Bool) → a ≡ true → b ≡ true → (a && b) ≡ true
and_both a b e f = λ i. and_of (e i) (f i)
  where
    and_of : Bool → Bool → Bool
    and_of x y = x && y

-- a menu has its own number, and no other
itself : (l : MenuRecord) → has_number (pos l.menu.id) l ≡ true
itself l = (Decides-int_eq (pos l.menu.id) (pos l.menu.id)).1 refl

pub of_another : (h : ℕ) (l : MenuRecord) → (h == l.menu.id) ≡ false → has_number (pos h) l ≡ false
of_another h l e = by_test (has_number (pos h) l) refl
  where
    differ : (m n : ℕ) → m ≡ n → (n == m) ≡ false → ⊥
    differ m n same other = grind (arith, nat_tests)

    by_test : (b : Bool) → has_number (pos h) l ≡ b → b ≡ false
    by_test true is = absurd (differ l.menu.id h (same_number l.menu.id h is) e)
    by_test false is = refl

pub shows-append : (h : ℕ) (xs : List MenuRecord) (l : MenuRecord) → Shows h xs → Shows h (xs ++ l ∷ [])
shows-append h [] l e = absurd (cc)
shows-append h (x ∷ xs) l e = or_keeps (x.inserted && has_number (pos h) x) (is_in_bar (pos h) xs) (is_in_bar (pos h) (xs ++ l ∷ [])) (shows-append h xs l) e

shows-edit : (id : ℤ) (f : MenuRecord → MenuRecord) → ((l : MenuRecord) → ((f l).inserted && has_number id (f l)) ≡ (l.inserted && has_number id l)) → (i : ℕ) (xs : List MenuRecord) → is_in_bar id (edit_at f i xs) ≡ is_in_bar id xs
shows-edit id f same i [] = refl
shows-edit id f same zero (x ∷ xs) = ap (λ b. b || is_in_bar id xs) (same x)
shows-edit id f same (suc i) (x ∷ xs) = ap (λ b. (x.inserted && has_number id x) || b) (shows-edit id f same i xs)

-- a menu of another number is another one, or none is
never : (a b c : Bool) → b ≡ false → ((a && b) || c) ≡ true → c ≡ true
never true true c e h = absurd (cc)
never true false c e h = h
never false b c e h = h

shows-edit_other : (h : ℕ) (f : MenuRecord → MenuRecord) (i : ℕ) (xs : List MenuRecord) (l : MenuRecord) → slice_get xs i ≡ Some l → has_number (pos h) l ≡ false → Shows h xs → Shows h (edit_at f i xs)
shows-edit_other h f i [] l at other e = absurd (cc)
shows-edit_other h f zero (x ∷ xs) l at other e =
    let same : x ≡ l = cc in
    or_right ((f x).inserted && has_number (pos h) (f x)) (is_in_bar (pos h) xs) (never x.inserted (has_number (pos h) x) (is_in_bar (pos h) xs) (ap (has_number (pos h)) same ∙ other) e)
shows-edit_other h f (suc i) (x ∷ xs) l at other e =
    or_keeps (x.inserted && has_number (pos h) x) (is_in_bar (pos h) xs) (is_in_bar (pos h) (edit_at f i xs)) (shows-edit_other h f i xs l at other) e

edit_none : (f : MenuRecord → MenuRecord) (i : ℕ) (xs : List MenuRecord) → slice_get xs i ≡ None → edit_at f i xs ≡ xs
edit_none f i [] at = refl
edit_none f zero (x ∷ xs) at = absurd (cc)
edit_none f (suc i) (x ∷ xs) at = ap (λ ys. x ∷ ys) (edit_none f i xs at)

pub shows-remove : (h i : ℕ) (xs : List MenuRecord) (l : MenuRecord) → slice_get xs i ≡ Some l → has_number (pos h) l ≡ false → Shows h xs → Shows h (remove xs i)
shows-remove h i [] l at other e = absurd (cc)
shows-remove h zero (x ∷ xs) l at other e =
    let same : x ≡ l = cc in never x.inserted (has_number (pos h) x) (is_in_bar (pos h) xs) (ap (has_number (pos h)) same ∙ other) e
shows-remove h (suc i) (x ∷ xs) l at other e =
    or_keeps (x.inserted && has_number (pos h) x) (is_in_bar (pos h) xs) (is_in_bar (pos h) (remove xs i)) (shows-remove h i xs l at other) e

shows-put : (h : ℕ) (before : ℤ) (l : MenuRecord) (xs : List MenuRecord) → Shows h xs → Shows h (put_before before l xs)
shows-put h before l [] e = absurd (cc)
shows-put h before l (x ∷ xs) e = by_test (has_number before x) (shows-put h before l xs)
  where
    by_test : (b : Bool) → (Shows h xs → Shows h (put_before before l xs)) → Shows h (cond b (l ∷ x ∷ xs) (x ∷ put_before before l xs))
    by_test true rest = or_right (l.inserted && has_number (pos h) l) (is_in_bar (pos h) (x ∷ xs)) e
    by_test false rest = or_keeps (x.inserted && has_number (pos h) x) (is_in_bar (pos h) xs) (is_in_bar (pos h) (put_before before l xs)) rest e

put_shows : (h : ℕ) (before : ℤ) (l : MenuRecord) (xs : List MenuRecord) → (l.inserted && has_number (pos h) l) ≡ true → Shows h (put_before before l xs)
put_shows h before l [] e = or_left (l.inserted && has_number (pos h) l) false e
put_shows h before l (x ∷ xs) e = by_test (has_number before x) (put_shows h before l xs e)
  where
    by_test : (b : Bool) → Shows h (put_before before l xs) → Shows h (cond b (l ∷ x ∷ xs) (x ∷ put_before before l xs))
    by_test true rest = or_left (l.inserted && has_number (pos h) l) (is_in_bar (pos h) (x ∷ xs)) e
    by_test false rest = or_right (x.inserted && has_number (pos h) x) (is_in_bar (pos h) (put_before before l xs)) rest

shows-moved : (h : ℕ) (before : ℤ) (i : ℕ) (xs : List MenuRecord) → Shows h xs → Shows h (moved_before before i xs)
shows-moved h before i xs e = by_get (slice_get xs i) refl
  where
    by_number : (l : MenuRecord) → slice_get xs i ≡ Some l → (b : Bool) → has_number (pos h) l ≡ b → Shows h (put_before before (with_inserted true l) (remove xs i))
    by_number l at true is = put_shows h before (with_inserted true l) (remove xs i) is
    by_number l at false is = shows-put h before (with_inserted true l) (remove xs i) (shows-remove h i xs l at is e)

    by_get : (o : Option MenuRecord) → slice_get xs i ≡ o → Shows h (option_map_or (λ l. put_before before (with_inserted true l) (remove xs i)) o xs)
    by_get None at = e
    by_get (Some l) at = by_number l at (has_number (pos h) l) refl

-- ---- calls that change menus as data

edited_shows : (h : ℕ) (f : MenuRecord → MenuRecord) → ((l : MenuRecord) → ((f l).inserted && has_number (pos h) (f l)) ≡ (l.inserted && has_number (pos h) l)) → (id : ℤ) (xs : List MenuRecord) → Shows h xs → Shows h (edited f id xs)
edited_shows h f same id xs e = by_index (menu_index id xs)
  where
    by_index : (o : Option ℕ) → Shows h (option_map_or (λ at. edit_at f at xs) o xs)
    by_index None = e
    by_index (Some at) = shows-edit (pos h) f same at xs ∙ e

enabled_same : (h : ℕ) (item : ℤ) (on : Bool) (l : MenuRecord) → (l.inserted && int_eq (pos (set_enabled item on l.menu).id) (pos h)) ≡ (l.inserted && has_number (pos h) l)
enabled_same h item on l = by_test (int_eq item (pos 0))
  where
    by_test : (b : Bool) → (l.inserted && int_eq (pos (if b then record l.menu { enabled = on } else record l.menu { items = edit_item (with_enabled on) item l.menu.items }).id) (pos h)) ≡ (l.inserted && has_number (pos h) l)
    by_test true = refl
    by_test false = refl

-- what holds of a title that is highlighted, if one is, holds with more
pub weaker : (P Q : ℕ → Type 0) → ((h : ℕ) → P h → Q h) → (o : Option ℕ) → IfSome o P → IfSome o Q
weaker P Q more None h = tt
weaker P Q more (Some n) h = more n h

inserted_shows : (h : ℕ) (id before : ℤ) (xs : List MenuRecord) → Shows h xs → Shows h (inserted id before xs)
inserted_shows h id before xs e = by_index (menu_index id xs)
  where
    by_index : (o : Option ℕ) → Shows h (option_map_or (λ at. moved_before before at xs) o xs)
    by_index None = e
    by_index (Some at) = shows-moved h before at xs e

-- a menu that leaves the menu bar loses its highlighting
deleted_shows : (id : ℤ) (xs : List MenuRecord) (was : Option ℕ) → IfSome was (λ h. Shows h xs) → IfSome (option_map_or (λ at. without_highlight_at at xs was) (menu_index id xs) was) (λ h. Shows h (edited (with_inserted false) id xs))
deleted_shows id xs was e = by_index (menu_index id xs)
  where
    by_title : (at : ℕ) (l : MenuRecord) → slice_get xs at ≡ Some l → (o : Option ℕ) → IfSome o (λ h. Shows h xs) → IfSome (without_highlight l.menu.id o) (λ h. Shows h (edit_at (with_inserted false) at xs))
    by_title at l there None h = tt
    by_title at l there (Some n) h = by_test (n == l.menu.id) refl
      where
        by_test : (b : Bool) → (n == l.menu.id) ≡ b → IfSome (if b then None else Some n) (λ k. Shows k (edit_at (with_inserted false) at xs))
        by_test true is = tt
        by_test false is = shows-edit_other n (with_inserted false) at xs l there (of_another n l is) h

    by_get : (at : ℕ) (o : Option MenuRecord) → slice_get xs at ≡ o → IfSome (option_map_or (λ l. without_highlight l.menu.id was) o was) (λ h. Shows h (edit_at (with_inserted false) at xs))
    by_get at None there = weaker (λ h. Shows h xs) (λ h. Shows h (edit_at (with_inserted false) at xs)) (λ h k. ap (is_in_bar (pos h)) (edit_none (with_inserted false) at xs there) ∙ k) was e
    by_get at (Some l) there = by_title at l there was e

    by_index : (o : Option ℕ) → IfSome (option_map_or (λ at. without_highlight_at at xs was) o was) (λ h. Shows h (option_map_or (λ at. edit_at (with_inserted false) at xs) o xs))
    by_index None = e
    by_index (Some at) = by_get at (slice_get xs at) refl

-- a key chooses of a menu in the menu bar
key_shows : (key : ℕ) (xs : List MenuRecord) → IfSome (key_choice key xs) (λ (c : Choice). Shows c.menu xs)
key_shows key [] = tt
key_shows key (x ∷ xs) = by_rest (key_choice key xs) (key_shows key xs)
  where
    by_item : (o : Option ℕ) → x.inserted ≡ true → IfSome (option_map (λ item. record { menu = x.menu.id; item = item }) o) (λ (c : Choice). Shows c.menu (x ∷ xs))
    by_item None on = tt
    by_item (Some item) on = or_left (x.inserted && has_number (pos x.menu.id) x) (is_in_bar (pos x.menu.id) xs) (and_both x.inserted (has_number (pos x.menu.id) x) on (itself x))

    by_inserted : (b : Bool) → x.inserted ≡ b → IfSome (if b then option_map (λ item. record { menu = x.menu.id; item = item }) (item_with_key key x.menu) else None) (λ (c : Choice). Shows c.menu (x ∷ xs))
    by_inserted true on = by_item (item_with_key key x.menu) on
    by_inserted false on = tt

    by_rest : (o : Option Choice) → IfSome o (λ (c : Choice). Shows c.menu xs) → IfSome (option_or o (key_in key x)) (λ (c : Choice). Shows c.menu (x ∷ xs))
    by_rest (Some c) h = or_right (x.inserted && has_number (pos c.menu) x) (is_in_bar (pos c.menu) xs) h
    by_rest None h = by_inserted x.inserted refl

keyed_shows : (o : Option Choice) (was : Option ℕ) (xs : List MenuRecord) → IfSome o (λ (c : Choice). Shows c.menu xs) → IfSome was (λ h. Shows h xs) → IfSome (highlighted_by o was) (λ h. Shows h xs)
keyed_shows None was xs chosen h = h
keyed_shows (Some c) was xs chosen h = chosen

title_shows : (id : ℤ) (xs : List MenuRecord) → IfSome (option_and_then title_number (menu_with id xs)) (λ h. Shows h xs)
title_shows id [] = tt
title_shows id (x ∷ xs) = by_number (has_number id x) (title_shows id xs)
  where
    by_inserted : (b : Bool) → x.inserted ≡ b → IfSome (if b then Some x.menu.id else None) (λ h. Shows h (x ∷ xs))
    by_inserted true on = or_left (x.inserted && has_number (pos x.menu.id) x) (is_in_bar (pos x.menu.id) xs) (and_both x.inserted (has_number (pos x.menu.id) x) on (itself x))
    by_inserted false on = tt

    by_number : (b : Bool) → IfSome (option_and_then title_number (menu_with id xs)) (λ h. Shows h xs) → IfSome (option_and_then title_number (cond b (Some x) (menu_with id xs))) (λ h. Shows h (x ∷ xs))
    by_number true rest = by_inserted x.inserted refl
    by_number false rest = weaker (λ h. Shows h xs) (λ h. Shows h (x ∷ xs)) (λ h k. or_right (x.inserted && has_number (pos h) x) (is_in_bar (pos h) xs) k) (option_and_then title_number (menu_with id xs)) rest

pub edited_title : (call : MenuCall) (xs : List MenuRecord) (was : Option ℕ) → IfSome was (λ h. Shows h xs) → IfSome (highlight_after call xs was) (λ h. Shows h (menus_after call xs))
edited_title (Append a) xs was e = weaker (λ h. Shows h xs) (λ h. Shows h (edited (with_menu (with_items_of a.items)) a.menu xs)) (λ h k. edited_shows h (with_menu (with_items_of a.items)) (λ l. refl) a.menu xs k) was e
edited_title (SetItem t) xs was e = weaker (λ h. Shows h xs) (λ h. Shows h (edited (with_menu (with_item_text t.item t.text)) t.menu xs)) (λ h k. edited_shows h (with_menu (with_item_text t.item t.text)) (λ l. refl) t.menu xs k) was e
edited_title (Insert place) xs was e = weaker (λ h. Shows h xs) (λ h. Shows h (inserted place.menu place.before xs)) (λ h k. inserted_shows h place.menu place.before xs k) was e
edited_title (Delete id) xs was e = deleted_shows id xs was e
edited_title (Enable item) xs was e = weaker (λ h. Shows h xs) (λ h. Shows h (edited (with_menu (set_enabled item.item true)) item.menu xs)) (λ h k. edited_shows h (with_menu (set_enabled item.item true)) (λ l. enabled_same h item.item true l) item.menu xs k) was e
edited_title (Disable item) xs was e = weaker (λ h. Shows h xs) (λ h. Shows h (edited (with_menu (set_enabled item.item false)) item.menu xs)) (λ h k. edited_shows h (with_menu (set_enabled item.item false)) (λ l. enabled_same h item.item false l) item.menu xs k) was e
edited_title (Check c) xs was e = weaker (λ h. Shows h xs) (λ h. Shows h (edited (with_menu (with_item_checked c.item c.checked)) c.menu xs)) (λ h k. edited_shows h (with_menu (with_item_checked c.item c.checked)) (λ l. refl) c.menu xs k) was e
edited_title (Key key) xs was e = keyed_shows (key_choice key xs) was xs (key_shows key xs) e
edited_title (Hilite id) xs was e = title_shows id xs
edited_title _ xs was e = e

edited_uses : (f : MenuRecord → MenuRecord) → ((l : MenuRecord) → (f l).definition.slot ≡ l.definition.slot) → (id : ℤ) (xs : List MenuRecord) (k : ℕ) → uses k (edited f id xs) ≡ uses k xs
edited_uses f same id xs k = by_index (menu_index id xs)
  where
    by_index : (o : Option ℕ) → uses k (option_map_or (λ at. edit_at f at xs) o xs) ≡ uses k xs
    by_index None = refl
    by_index (Some at) = uses-edit k f same at xs

inserted_uses : (id before : ℤ) (xs : List MenuRecord) (k : ℕ) → uses k (inserted id before xs) ≡ uses k xs
inserted_uses id before xs k = by_index (menu_index id xs)
  where
    by_index : (o : Option ℕ) → uses k (option_map_or (λ at. moved_before before at xs) o xs) ≡ uses k xs
    by_index None = refl
    by_index (Some at) = uses-moved k before at xs

pub uses_after : (call : MenuCall) (xs : List MenuRecord) (k : ℕ) → uses k (menus_after call xs) ≡ uses k xs
uses_after (Append a) xs k = edited_uses (with_menu (with_items_of a.items)) (λ l. refl) a.menu xs k
uses_after (SetItem t) xs k = edited_uses (with_menu (with_item_text t.item t.text)) (λ l. refl) t.menu xs k
uses_after (Insert place) xs k = inserted_uses place.menu place.before xs k
uses_after (Delete id) xs k = edited_uses (with_inserted false) (λ l. refl) id xs k
uses_after (Enable item) xs k = edited_uses (with_menu (set_enabled item.item true)) (λ l. refl) item.menu xs k
uses_after (Disable item) xs k = edited_uses (with_menu (set_enabled item.item false)) (λ l. refl) item.menu xs k
uses_after (Check c) xs k = edited_uses (with_menu (with_item_checked c.item c.checked)) (λ l. refl) c.menu xs k
uses_after _ xs k = refl
