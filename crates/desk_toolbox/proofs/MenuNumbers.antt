-- No two menus have one number, whatever a call about menus does.
use Rattle.std.proofs.Common.{◌≡◌, ℕ, zero, suc, ◌+◌, ◌≤◌, Bool, true, false, not, ◌||◌, cond, if◌then◌else◌, List, [], ◌∷◌, ◌++◌, Option, None, Some, Result, Ok, Err, refl, sym, ap, ◌∙◌, subst, arith, nat_abs}
use Rattle.std.specs.Prelude.{length, nat_le, ℤ, pos, negsuc, slice_get, is_none}
use Rattle.std.specs.List.{remove}
use Rattle.std.specs.Option.{option_map_or}
use Rattle.std.specs.Ordering.{int_eq}
use Rattle.std.proofs.lemmas.Bool.Decides.{Decides-int_eq}
use Rattle.tb_geom.specs.declared.point.Point.{Point}
use Rattle.tb_geom.specs.declared.refusal.Refusal.{Refusal}
use Rattle.tb_geom.specs.declared.refusal.Refusal.TheVariants.{NoDefinition, NoSuchName, OutOfRange, TooLong, TooMany}
use Rattle.tb_geom.specs.Refusals.{first_refusal}
use Rattle.menu_record.specs.Edits.{edit_item, is_menu_id, set_enabled, with_enabled}
use Rattle.menu_record.specs.declared.menu.Menu.{Menu}
use Rattle.menu_list.specs.Editing.{with_item_checked, with_item_text, with_items_of}
use Rattle.menu_list.specs.Lists.{edit_at, has_number, menu_index, menu_with, moved_before, put_before, with_inserted, with_menu}
use Rattle.desk_call.specs.declared.activity.Activity.{Activity}
use Rattle.desk_call.specs.declared.activity.Activity.TheVariants.{Idle, Updating, Tracking, Pulling, TrackingControl, Dragging, Growing, Selecting}
use Rattle.desk_call.specs.declared.activity.PulledMenu.{PulledMenu}
use Rattle.desk_call.specs.declared.menu.Choice.{Choice}
use Rattle.desk_call.specs.declared.menu.MenuCall.{MenuCall}
use Rattle.desk_call.specs.declared.menu.MenuCall.TheVariants.{New, Dispose, Down, Move, Up, Append, SetItem, Insert, Delete, Enable, Disable, Check}
use Rattle.desk_call.specs.declared.menu.MenuReply.{MenuReply}
use Rattle.desk_call.specs.declared.menu.NewMenu.{NewMenu}
use Rattle.menu_list.specs.MenuEdits.{edited, inserted, menus_after}
use Rattle.menu_list.specs.EditRefusals.{is_long_text, is_no_menu}
use Rattle.menu_list.proofs.Indices.{with_none}
use Rattle.menu_mgr.specs.MenuDesks.{MenuDesk, MenuRecord, MenuSlot, MenusState}
use Rattle.menu_mgr.specs.MenuRefusals.{none_is_left, menu_refusals, new_refusals}
use Rattle.menu_mgr.specs.MenuSteps.{AreMenusShown, IsDisposedAt, IsMenuEffect, IsMenuMade, IsMenuStep, IsMoved, IsMovedOn, IsPressedOn, IsMenuReleased, IsToldAt, new_record, other_title, with_definition}
use Rattle.menu_mgr.specs.Pulling.{TitleOf, title_of_point}
use Rattle.desk_toolbox.specs.Reached.{AreMenusApart, numbered}

-- ---- how many menus have a number

-- whether a menu has it, as a number
abbrev pub number_of : ℕ → MenuRecord → ℕ
number_of k l = if has_number (pos k) l then 1 else 0

numbered-append : (k : ℕ) (xs : List MenuRecord) (l : MenuRecord) → numbered k (xs ++ l ∷ []) ≡ numbered k xs + number_of k l
numbered-append k [] l = omega arith
numbered-append k (x ∷ xs) l = let h = numbered-append k xs l in omega arith

pub numbered-remove : (k i : ℕ) (xs : List MenuRecord) (l : MenuRecord) → slice_get xs i ≡ Some l → numbered k xs ≡ number_of k l + numbered k (remove xs i)
numbered-remove k i [] l e = absurd (cc)
numbered-remove k zero (x ∷ xs) l e = let same : x ≡ l = cc in ap (λ y. number_of k y + numbered k xs) same
numbered-remove k (suc i) (x ∷ xs) l e = let h = numbered-remove k i xs l e in omega arith

numbered-put : (k : ℕ) (before : ℤ) (l : MenuRecord) (xs : List MenuRecord) → numbered k (put_before before l xs) ≡ number_of k l + numbered k xs
numbered-put k before l [] = refl
numbered-put k before l (x ∷ xs) = by_test (has_number before x) (numbered-put k before l xs)
  where
    by_test : (b : Bool) → numbered k (put_before before l xs) ≡ number_of k l + numbered k xs → numbered k (cond b (l ∷ x ∷ xs) (x ∷ put_before before l xs)) ≡ number_of k l + numbered k (x ∷ xs)
    by_test true h = refl
    by_test false h = omega arith

numbered-moved : (k : ℕ) (before : ℤ) (i : ℕ) (xs : List MenuRecord) → numbered k (moved_before before i xs) ≡ numbered k xs
numbered-moved k before i xs = by_get (slice_get xs i) refl
  where
    by_get : (o : Option MenuRecord) → slice_get xs i ≡ o → numbered k (option_map_or (λ l. put_before before (with_inserted true l) (remove xs i)) o xs) ≡ numbered k xs
    by_get None e = refl
    by_get (Some l) e = numbered-put k before (with_inserted true l) (remove xs i) ∙ sym (numbered-remove k i xs l e)

pub numbered-edit : (k : ℕ) (f : MenuRecord → MenuRecord) → ((l : MenuRecord) → (f l).menu.id ≡ l.menu.id) → (i : ℕ) (xs : List MenuRecord) → numbered k (edit_at f i xs) ≡ numbered k xs
numbered-edit k f same i [] = refl
numbered-edit k f same zero (x ∷ xs) = ap (λ s. (if int_eq (pos s) (pos k) then 1 else 0) + numbered k xs) (same x)
numbered-edit k f same (suc i) (x ∷ xs) = ap (λ n. number_of k x + n) (numbered-edit k f same i xs)

-- ---- calls that change menus as data

edited_alike : (f : MenuRecord → MenuRecord) → ((l : MenuRecord) → (f l).menu.id ≡ l.menu.id) → (id : ℤ) (xs : List MenuRecord) (k : ℕ) → numbered k (edited f id xs) ≡ numbered k xs
edited_alike f same id xs k = by_index (menu_index id xs)
  where
    by_index : (o : Option ℕ) → numbered k (option_map_or (λ at. edit_at f at xs) o xs) ≡ numbered k xs
    by_index None = refl
    by_index (Some at) = numbered-edit k f same at xs

inserted_alike : (id before : ℤ) (xs : List MenuRecord) (k : ℕ) → numbered k (inserted id before xs) ≡ numbered k xs
inserted_alike id before xs k = by_index (menu_index id xs)
  where
    by_index : (o : Option ℕ) → numbered k (option_map_or (λ at. moved_before before at xs) o xs) ≡ numbered k xs
    by_index None = refl
    by_index (Some at) = numbered-moved k before at xs

enabled_id : (item : ℤ) (enabled : Bool) (m : Menu) → (set_enabled item enabled m).id ≡ m.id
enabled_id item enabled m = by_test (int_eq item (pos 0))
  where
    by_test : (b : Bool) → (if b then record m { enabled = enabled } else record m { items = edit_item (with_enabled enabled) item m.items }).id ≡ m.id
    by_test true = refl
    by_test false = refl

numbered_after : (call : MenuCall) (xs : List MenuRecord) (k : ℕ) → numbered k (menus_after call xs) ≡ numbered k xs
numbered_after (Append a) xs k = edited_alike (with_menu (with_items_of a.items)) (λ l. refl) a.menu xs k
numbered_after (SetItem t) xs k = edited_alike (with_menu (with_item_text t.item t.text)) (λ l. refl) t.menu xs k
numbered_after (Insert place) xs k = inserted_alike place.menu place.before xs k
numbered_after (Delete id) xs k = edited_alike (with_inserted false) (λ l. refl) id xs k
numbered_after (Enable item) xs k = edited_alike (with_menu (set_enabled item.item true)) (λ l. enabled_id item.item true l.menu) item.menu xs k
numbered_after (Disable item) xs k = edited_alike (with_menu (set_enabled item.item false)) (λ l. enabled_id item.item false l.menu) item.menu xs k
numbered_after (Check c) xs k = edited_alike (with_menu (with_item_checked c.item c.checked)) (λ l. refl) c.menu xs k
numbered_after _ xs k = refl

-- ---- a new menu

-- where no menu is found, none has the number
pub none_numbered : (k : ℕ) (xs : List MenuRecord) → menu_with (pos k) xs ≡ None → numbered k xs ≡ 0
none_numbered k [] e = refl
none_numbered k (x ∷ xs) e = by_test (has_number (pos k) x) (none_numbered k xs) e
  where
    by_test : (b : Bool) → (menu_with (pos k) xs ≡ None → numbered k xs ≡ 0) → cond b (Some x) (menu_with (pos k) xs) ≡ None → (if b then 1 else 0) + numbered k xs ≡ 0
    by_test true rest wrong = absurd (cc)
    by_test false rest e = let h = rest e in omega arith

-- the numbers that a menu may have are those of ℕ
as_number : (id : ℤ) → is_menu_id id ≡ true → id ≡ pos (nat_abs id)
as_number (pos n) e = refl
as_number (negsuc n) e = absurd (cc)

is_new : (a b c : Bool) (e f : Refusal) (more : List (Bool × Refusal)) → first_refusal ((a, e) ∷ (not b || not c, f) ∷ more) ≡ None → (b ≡ true) × (c ≡ true)
is_new true b c e f more h = absurd (cc)
is_new false true true e f more h = (refl, refl)
is_new false true false e f more h = absurd (cc)
is_new false false c e f more h = absurd (cc)

no_index : (o : Option ℕ) → is_none o ≡ true → o ≡ None
no_index None e = refl
no_index (Some at) e = absurd (cc)

pub same_number : (m n : ℕ) → int_eq (pos m) (pos n) ≡ true → m ≡ n
same_number m n e = ap nat_abs ((Decides-int_eq (pos m) (pos n)).0 e)

one_more : (k : ℕ) (xs : List MenuRecord) (l : MenuRecord) → AreMenusApart xs → numbered l.menu.id xs ≡ 0 → numbered k (xs ++ l ∷ []) ≤ 1
one_more k xs l apart none = subst (λ n. n ≤ 1) (sym (numbered-append k xs l)) (by_test (has_number (pos k) l) refl)
  where
    by_test : (b : Bool) → has_number (pos k) l ≡ b → numbered k xs + (if b then 1 else 0) ≤ 1
    by_test true e = let same : numbered k xs ≡ 0 = subst (λ n. numbered n xs ≡ 0) (same_number l.menu.id k e) none in omega arith
    by_test false e = let h = apart k in omega arith

-- ---- a step about menus

abbrev KeepsApart : MenuDesk → MenuDesk → Type 0
KeepsApart before after = AreMenusApart before.menus.menus → AreMenusApart after.menus.menus

same_keeps : (before after : MenuDesk) → after.menus ≡ before.menus → KeepsApart before after
same_keeps before after same was = subst (λ (m : MenusState). AreMenusApart m.menus) (sym same) was

shown_keeps : (ls : List MenuRecord) (highlighted : Option ℕ) (slots : List MenuSlot) (before after : MenuDesk) → AreMenusShown ls highlighted slots before after → AreMenusApart ls → AreMenusApart after.menus.menus
shown_keeps ls highlighted slots before after shown apart = subst (λ (m : MenusState). AreMenusApart m.menus) (sym shown.menus) apart

alike_apart : (xs ys : List MenuRecord) → ((k : ℕ) → numbered k ys ≡ numbered k xs) → AreMenusApart xs → AreMenusApart ys
alike_apart xs ys same apart k = subst (λ n. n ≤ 1) (sym (same k)) (apart k)

pub told_apart : (at item : Option ℕ) (before after : List MenuRecord) → IsToldAt at item before after → AreMenusApart before → AreMenusApart after
told_apart None item before after same was = subst AreMenusApart (sym same) was
told_apart (Some at) item before after (l, found, (d, told, is)) was =
    subst AreMenusApart (sym is) (alike_apart before (edit_at (with_definition d) at before) (λ k. numbered-edit k (with_definition d) (λ m. refl) at before) was)

pressed_keeps : (t : Option TitleOf) (answer : Option ℕ) (before after : MenuDesk) → IsPressedOn t answer before after → KeepsApart before after
pressed_keeps None answer before after (is, same) was = same_keeps before after same.menus was
pressed_keeps (Some t) answer before after (is, pulled) was = shown_keeps _ _ _ before after pulled.shown was

moved_on_keeps : (m : PulledMenu) (t : Option TitleOf) (p : Point) (answer : Option ℕ) (before after : MenuDesk) → IsMovedOn m t p answer before after → KeepsApart before after
moved_on_keeps m (Some t) p answer before after (is, (menus, told, pulled)) was =
    shown_keeps _ _ _ before after pulled.shown (told_apart (menu_index (pos m.menu) before.menus.menus) None before.menus.menus menus told was)
moved_on_keeps m None p answer before after (is, (menus, told, shown)) was =
    subst (λ (s : MenusState). AreMenusApart s.menus) (sym shown.menus) (told_apart (menu_index (pos m.menu) before.menus.menus) answer before.menus.menus menus told was)

moved_keeps : (a : Activity) (p : Point) (answer : Option ℕ) (before after : MenuDesk) → IsMoved a p answer before after → KeepsApart before after
moved_keeps (Pulling m) p answer before after moved = moved_on_keeps m (other_title m (title_of_point before p)) p answer before after moved
moved_keeps Idle p answer before after wrong = absurd wrong
moved_keeps (Updating s) p answer before after wrong = absurd wrong
moved_keeps (Tracking s) p answer before after wrong = absurd wrong
moved_keeps (TrackingControl c) p answer before after wrong = absurd wrong
moved_keeps (Dragging d) p answer before after wrong = absurd wrong
moved_keeps (Growing g) p answer before after wrong = absurd wrong
moved_keeps (Selecting k) p answer before after wrong = absurd wrong

released_keeps : (a : Activity) (p : Point) (choice : Option Choice) (before after : MenuDesk) → IsMenuReleased a p choice before after → KeepsApart before after
released_keeps (Pulling m) p choice before after (is, away) was =
    shown_keeps _ _ _ before after away.shown (told_apart (menu_index (pos m.menu) before.menus.menus) None before.menus.menus away.told away.definition was)
released_keeps Idle p choice before after wrong was = absurd wrong
released_keeps (Updating s) p choice before after wrong was = absurd wrong
released_keeps (Tracking s) p choice before after wrong was = absurd wrong
released_keeps (TrackingControl c) p choice before after wrong was = absurd wrong
released_keeps (Dragging d) p choice before after wrong was = absurd wrong
released_keeps (Growing g) p choice before after wrong was = absurd wrong
released_keeps (Selecting k) p choice before after wrong was = absurd wrong

disposed_keeps : (at : Option ℕ) (before after : MenuDesk) → IsDisposedAt at before after → KeepsApart before after
disposed_keeps None before after wrong was = absurd wrong
disposed_keeps (Some at) before after gone was = shown_keeps _ _ _ before after gone.shown fewer
  where
    fewer : AreMenusApart (remove before.menus.menus at)
    fewer k = let a = numbered-remove k at before.menus.menus gone.listed gone.found in let b = was k in omega arith

made_keeps : (n : NewMenu) (before after : MenuDesk) → first_refusal (new_refusals n before.menus) ≡ None → IsMenuMade n before after → KeepsApart before after
made_keeps n before after may made was =
    let new = is_new _ (is_menu_id n.menu) (is_no_menu n.menu before.menus.menus) NoSuchName OutOfRange
    ((is_long_text n.title, TooLong) ∷ (nat_le 16 (length before.menus.menus), TooMany) ∷ (none_is_left before.menus.stock, NoDefinition) ∷ []) may in
    let none = with_none n.menu before.menus.menus (no_index (menu_index n.menu before.menus.menus) new.1) in
    let free = none_numbered (nat_abs n.menu) before.menus.menus (subst (λ id. menu_with id before.menus.menus ≡ None) (as_number n.menu new.0) none) in
    shown_keeps _ _ _ before after made.shown (λ k. one_more k before.menus.menus (new_record n made.loan.slot made.begun) was free)

effect_keeps : (call : MenuCall) (answer : MenuReply) (before after : MenuDesk) → first_refusal (menu_refusals call before.menus) ≡ None → IsMenuEffect call answer before after → KeepsApart before after
effect_keeps (New n) answer before after may (is, made) was = made_keeps n before after may made was
effect_keeps (Dispose id) answer before after may (is, gone) was = disposed_keeps (menu_index id before.menus.menus) before after gone was
effect_keeps (Down p) answer before after may (menu, is, pressed) was = pressed_keeps (title_of_point before p) menu before after pressed was
effect_keeps (Move p) answer before after may (item, is, moved) was = moved_keeps before.desk.activity p item before after moved was
effect_keeps (Up p) answer before after may (choice, is, released) was = released_keeps before.desk.activity p choice before after released was
effect_keeps call answer before after may edited was =
    shown_keeps _ _ _ before after edited.shown (alike_apart before.menus.menus (menus_after call before.menus.menus) (numbered_after call before.menus.menus) was)

pub menu_keeps_apart : (call : MenuCall) (answer : Result MenuReply Refusal) (before after : MenuDesk) → IsMenuStep call answer before after → KeepsApart before after
menu_keeps_apart call (Ok answer) before after step was = effect_keeps call answer before after step.0 step.1 was
menu_keeps_apart call (Err e) before after step was = same_keeps before after step.1.menus was
