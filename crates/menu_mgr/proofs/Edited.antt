-- What a call that changes menus as data leaves of their definitions: each stays live and has its slot.
use Rattle.std.proofs.Common.{◌≡◌, ℕ, zero, suc, List, [], ◌∷◌, length, Option, None, Some, true, false, refl, ap, ◌∙◌}
use Rattle.std.specs.Prelude.{ℤ}
use Rattle.std.specs.Option.{option_map_or}
use Rattle.menu_record.specs.Edits.{set_enabled}
use Rattle.menu_list.specs.Editing.{with_item_checked, with_item_text, with_items_of}
use Rattle.menu_list.specs.Lists.{edit_at, menu_index, moved_before, with_inserted, with_menu}
use Rattle.menu_list.proofs.LawLemmas.{as_many}
use Rattle.desk_call.specs.declared.menu.MenuCall.{MenuCall}
use Rattle.desk_call.specs.declared.menu.MenuCall.TheVariants.{Append, SetItem, Insert, Delete, Enable, Disable, Check}
use Rattle.menu_list.specs.MenuEdits.{edited, inserted, menus_after}
use Rattle.menu_mgr.specs.MenuDesks.{MenuRecord, MenuSlot}
use Rattle.menu_mgr.specs.WholeMenus.{uses, AreMenusStocked, AreLive}
use Rattle.menu_mgr.proofs.Stocks.{live-edit, live-moved, stocked_alike, uses-edit, uses-moved}

-- the same definitions, each for a menu of the list
pub record AreAlike (old new : List MenuRecord) : Type 0 where
  pub many : length new ≡ length old
  pub uses : (k : ℕ) → uses k new ≡ uses k old
  pub live : AreLive old → AreLive new

alike_same : (xs : List MenuRecord) → AreAlike xs xs
alike_same xs = record { many = refl; uses = λ k. refl; live = λ h. h }

many-edit : (f : MenuRecord → MenuRecord) (at : ℕ) (xs : List MenuRecord) → length (edit_at f at xs) ≡ length xs
many-edit f at [] = refl
many-edit f zero (x ∷ xs) = refl
many-edit f (suc at) (x ∷ xs) = ap suc (many-edit f at xs)

alike_edited : (f : MenuRecord → MenuRecord) → ((l : MenuRecord) → (f l).definition ≡ l.definition) → (id : ℤ) (xs : List MenuRecord) → AreAlike xs (edited f id xs)
alike_edited f same id xs = by_index (menu_index id xs)
  where
    by_index : (o : Option ℕ) → AreAlike xs (option_map_or (λ at. edit_at f at xs) o xs)
    by_index None = alike_same xs
    by_index (Some at) = record {
      many = many-edit f at xs;
      uses = λ k. uses-edit k f (λ l i. (same l i).slot) at xs;
      live = live-edit f (λ l h. (λ i. (same l i).definition.stage) ∙ h) at xs;
    }

alike_inserted : (id before : ℤ) (xs : List MenuRecord) → AreAlike xs (inserted id before xs)
alike_inserted id before xs = by_index (menu_index id xs)
  where
    by_index : (o : Option ℕ) → AreAlike xs (option_map_or (λ at. moved_before before at xs) o xs)
    by_index None = alike_same xs
    by_index (Some at) = record {
      many = as_many before at xs;
      uses = λ k. uses-moved k before at xs;
      live = live-moved before at xs;
    }

pub alike_after : (call : MenuCall) (xs : List MenuRecord) → AreAlike xs (menus_after call xs)
alike_after (Append a) xs = alike_edited (with_menu (with_items_of a.items)) (λ l. refl) a.menu xs
alike_after (SetItem t) xs = alike_edited (with_menu (with_item_text t.item t.text)) (λ l. refl) t.menu xs
alike_after (Insert place) xs = alike_inserted place.menu place.before xs
alike_after (Delete id) xs = alike_edited (with_inserted false) (λ l. refl) id xs
alike_after (Enable item) xs = alike_edited (with_menu (set_enabled item.item true)) (λ l. refl) item.menu xs
alike_after (Disable item) xs = alike_edited (with_menu (set_enabled item.item false)) (λ l. refl) item.menu xs
alike_after (Check c) xs = alike_edited (with_menu (with_item_checked c.item c.checked)) (λ l. refl) c.menu xs
alike_after _ xs = alike_same xs

pub still_stocked : (xs ys : List MenuRecord) (slots : List MenuSlot) → AreAlike xs ys → AreMenusStocked xs slots → AreMenusStocked ys slots
still_stocked xs ys slots alike stocked = stocked_alike xs ys slots alike.uses stocked
