-- A call that changes menus as data, on a list in which each definition is seen as something else.
use Rattle.std.proofs.Common.{◌≡◌, ℕ, ◌+◌, not, ◌&&◌, ◌||◌, List, [], ◌∷◌, length, Option, None, Some, refl, sym, ap, ◌∙◌}
use Rattle.std.specs.Prelude.{ℤ, pos, true, false, nat_lt, is_none}
use Rattle.std.specs.List.{list_any}
use Rattle.std.specs.Option.{option_and_then, option_map, option_map_or}
use Rattle.std.specs.Ordering.{int_eq}
use Rattle.tb_geom.specs.declared.refusal.Refusal.TheVariants.{NoSuchItem, NoSuchMenu, OutOfRange, TooLong, TooMany}
use Rattle.menu_record.specs.Appending.{items_of, is_long}
use Rattle.menu_record.specs.Edits.{is_item, set_enabled}
use Rattle.menu_list.specs.declared.listed.Listed.{Listed}
use Rattle.menu_list.specs.Editing.{with_item_checked, with_item_text, with_items_of}
use Rattle.menu_list.specs.Lists.{edit_at, menu_index, menu_with, moved_before, with_inserted, with_menu, without_highlight_at}
use Rattle.menu_list.specs.Seen.{seen, all_seen}
use Rattle.menu_list.proofs.SeenLemmas.{edit_at-seen, is_in_bar-seen, key_choice-seen, menu_index-seen, menu_with-seen, moved_before-seen, without_highlight_at-seen}
use Rattle.desk_call.specs.declared.menu.InsertMenu.{InsertMenu}
use Rattle.desk_call.specs.declared.menu.MenuCall.{MenuCall}
use Rattle.desk_call.specs.declared.menu.MenuCall.TheVariants.{Append, SetItem, Insert, Delete, Enable, Disable, Check, Key, Hilite}
use Rattle.desk_call.specs.declared.menu.MenuReply.TheVariants.{Chosen}
use Rattle.menu_list.specs.EditRefusals.{edit_refusals, is_long_text, is_no_menu, is_no_place, items_in}
use Rattle.menu_list.specs.MenuEdits.{answer_to, edited, highlight_after, highlighted_by, inserted, menus_after, title_number}

module _ {B D : Type 0} (g : B → D) where
  -- ---- why it refuses

  pub is_no_menu-seen : (id : ℤ) (xs : List (Listed B)) → is_no_menu id (all_seen g xs) ≡ is_no_menu id xs
  is_no_menu-seen id xs = ap is_none (menu_index-seen g id xs)

  items_seen : (o : Option (Listed B)) → option_map_or (λ (l : Listed D). l.menu.items) (option_map (seen g) o) [] ≡ option_map_or (λ (l : Listed B). l.menu.items) o []
  items_seen None = refl
  items_seen (Some l) = refl

  items_in-seen : (id : ℤ) (xs : List (Listed B)) → items_in id (all_seen g xs) ≡ items_in id xs
  items_in-seen id xs = ap (λ o. option_map_or (λ (l : Listed D). l.menu.items) o []) (menu_with-seen g id xs) ∙ items_seen (menu_with id xs)

  is_no_place-seen : (place : InsertMenu) (xs : List (Listed B)) → is_no_place place (all_seen g xs) ≡ is_no_place place xs
  is_no_place-seen place xs = ap (λ b. not (int_eq place.before (pos 0)) && (not (int_eq place.before place.menu) && not b)) (is_in_bar-seen g place.before xs)

  pub edit_refusals-seen : (call : MenuCall) (xs : List (Listed B)) → edit_refusals call (all_seen g xs) ≡ edit_refusals call xs
  edit_refusals-seen (Append a) xs = λ i.
      (is_no_menu-seen a.menu xs i, NoSuchMenu)
      ∷ (list_any is_long (items_of a.items), TooLong)
      ∷ (nat_lt 31 (length (items_in-seen a.menu xs i) + length (items_of a.items)), TooMany) ∷ []
  edit_refusals-seen (SetItem t) xs = λ i.
      (is_no_menu-seen t.menu xs i, NoSuchMenu)
      ∷ (not (is_item t.item (items_in-seen t.menu xs i)), NoSuchItem)
      ∷ (is_long_text t.text, TooLong) ∷ []
  edit_refusals-seen (Insert place) xs = λ i.
      (is_no_menu-seen place.menu xs i, NoSuchMenu) ∷ (is_no_place-seen place xs i, NoSuchMenu) ∷ (int_eq place.before place.menu, OutOfRange) ∷ []
  edit_refusals-seen (Delete id) xs = λ i. (is_no_menu-seen id xs i, NoSuchMenu) ∷ []
  edit_refusals-seen (Enable item) xs = λ i.
      (is_no_menu-seen item.menu xs i, NoSuchMenu)
      ∷ (not (int_eq item.item (pos 0) || is_item item.item (items_in-seen item.menu xs i)), NoSuchItem) ∷ []
  edit_refusals-seen (Disable item) xs = λ i.
      (is_no_menu-seen item.menu xs i, NoSuchMenu)
      ∷ (not (int_eq item.item (pos 0) || is_item item.item (items_in-seen item.menu xs i)), NoSuchItem) ∷ []
  edit_refusals-seen (Check c) xs = λ i.
      (is_no_menu-seen c.menu xs i, NoSuchMenu) ∷ (not (is_item c.item (items_in-seen c.menu xs i)), NoSuchItem) ∷ []
  edit_refusals-seen (Hilite id) xs = λ i. (not (int_eq id (pos 0)) && is_no_menu-seen id xs i, NoSuchMenu) ∷ []
  edit_refusals-seen _ xs = refl

  -- ---- what it leaves

  edited-seen : (f : Listed B → Listed B) (h : Listed D → Listed D) → ((l : Listed B) → seen g (f l) ≡ h (seen g l))
      → (id : ℤ) (xs : List (Listed B)) → all_seen g (edited f id xs) ≡ edited h id (all_seen g xs)
  edited-seen f h same id xs = by_index (menu_index id xs) ∙ ap (λ o. option_map_or (λ at. edit_at h at (all_seen g xs)) o (all_seen g xs)) (sym (menu_index-seen g id xs))
    where
      by_index : (o : Option ℕ) → all_seen g (option_map_or (λ at. edit_at f at xs) o xs) ≡ option_map_or (λ at. edit_at h at (all_seen g xs)) o (all_seen g xs)
      by_index None = refl
      by_index (Some at) = edit_at-seen g f h same at xs

  inserted-seen : (id before : ℤ) (xs : List (Listed B)) → all_seen g (inserted id before xs) ≡ inserted id before (all_seen g xs)
  inserted-seen id before xs = by_index (menu_index id xs) ∙ ap (λ o. option_map_or (λ at. moved_before before at (all_seen g xs)) o (all_seen g xs)) (sym (menu_index-seen g id xs))
    where
      by_index : (o : Option ℕ) → all_seen g (option_map_or (λ at. moved_before before at xs) o xs) ≡ option_map_or (λ at. moved_before before at (all_seen g xs)) o (all_seen g xs)
      by_index None = refl
      by_index (Some at) = moved_before-seen g before at xs

  pub menus_after-seen : (call : MenuCall) (xs : List (Listed B)) → all_seen g (menus_after call xs) ≡ menus_after call (all_seen g xs)
  menus_after-seen (Append a) xs = edited-seen (with_menu (with_items_of a.items)) (with_menu (with_items_of a.items)) (λ l. refl) a.menu xs
  menus_after-seen (SetItem t) xs = edited-seen (with_menu (with_item_text t.item t.text)) (with_menu (with_item_text t.item t.text)) (λ l. refl) t.menu xs
  menus_after-seen (Insert place) xs = inserted-seen place.menu place.before xs
  menus_after-seen (Delete id) xs = edited-seen (with_inserted false) (with_inserted false) (λ l. refl) id xs
  menus_after-seen (Enable item) xs = edited-seen (with_menu (set_enabled item.item true)) (with_menu (set_enabled item.item true)) (λ l. refl) item.menu xs
  menus_after-seen (Disable item) xs = edited-seen (with_menu (set_enabled item.item false)) (with_menu (set_enabled item.item false)) (λ l. refl) item.menu xs
  menus_after-seen (Check c) xs = edited-seen (with_menu (with_item_checked c.item c.checked)) (with_menu (with_item_checked c.item c.checked)) (λ l. refl) c.menu xs
  menus_after-seen _ xs = refl

  dim_seen : (xs : List (Listed B)) (was : Option ℕ) (o : Option ℕ) → option_map_or (λ at. without_highlight_at at (all_seen g xs) was) o was ≡ option_map_or (λ at. without_highlight_at at xs was) o was
  dim_seen xs was None = refl
  dim_seen xs was (Some at) = without_highlight_at-seen g at xs was

  number_seen : (o : Option (Listed B)) → option_and_then title_number (option_map (seen g) o) ≡ option_and_then title_number o
  number_seen None = refl
  number_seen (Some l) = refl

  pub highlight_after-seen : (call : MenuCall) (xs : List (Listed B)) (was : Option ℕ) → highlight_after call (all_seen g xs) was ≡ highlight_after call xs was
  highlight_after-seen (Delete id) xs was = ap (λ o. option_map_or (λ at. without_highlight_at at (all_seen g xs) was) o was) (menu_index-seen g id xs) ∙ dim_seen xs was (menu_index id xs)
  highlight_after-seen (Key key) xs was = ap (λ c. highlighted_by c was) (key_choice-seen g key xs)
  highlight_after-seen (Hilite id) xs was = ap (option_and_then title_number) (menu_with-seen g id xs) ∙ number_seen (menu_with id xs)
  highlight_after-seen _ xs was = refl

  pub answer_to-seen : (call : MenuCall) (xs : List (Listed B)) → answer_to call (all_seen g xs) ≡ answer_to call xs
  answer_to-seen (Key key) xs = ap Chosen (key_choice-seen g key xs)
  answer_to-seen _ xs = refl
