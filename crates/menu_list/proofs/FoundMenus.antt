-- A call on the menu of a number that some menu has.
use Rattle.std.proofs.Common.{◌≡◌, inl, inr, ℕ, zero, suc, ◌<◌, Bool, true, false, not, ◌||◌, if◌then◌else◌, List, [], ◌∷◌, length, Option, None, Some, refl, sym, ap, ◌∙◌, subst, arith}
use Rattle.std.specs.Prelude.{ℤ, pos, slice_get, is_none, IfSome}
use Rattle.std.specs.Ordering.{int_eq}
use Rattle.std.specs.Option.{option_map_or, option_and_then}
use Rattle.tb_geom.specs.declared.refusal.Refusal.{Refusal}
use Rattle.tb_geom.specs.declared.refusal.Refusal.TheVariants.{NoSuchItem, NoSuchMenu}
use Rattle.tb_geom.specs.Refusals.{first_refusal}
use Rattle.menu_record.specs.declared.item.MenuItem.{MenuItem}
use Rattle.menu_record.specs.declared.menu.Menu.{Menu}
use Rattle.menu_record.specs.Appending.{why_not_appended}
use Rattle.menu_record.specs.Edits.{is_item, why_not_enabled}
use Rattle.menu_record.specs.Reads.{IsNotAppended}
use Rattle.menu_list.specs.declared.listed.Listed.{Listed}
use Rattle.menu_list.specs.Lists.{edit_at, menu_index, why_at}
use Rattle.desk_call.specs.Steps.{IsRefusedFor}
use Rattle.menu_list.specs.EditRefusals.{is_no_menu, items_in}
use Rattle.menu_list.specs.MenuEdits.{edited}
use Rattle.menu_list.proofs.Indices.{with_found}

-- what is known of the menu at an index
pub record IsAt {D : Type 0} (at : ℕ) (xs : List (Listed D)) : Type 0 where
  pub listed : Listed D
  pub got : slice_get xs at ≡ Some listed

module _ {D : Type 0} where
  pub is_at : (at : ℕ) (xs : List (Listed D)) → at < length xs → IsAt at xs
  is_at at [] low = absurd (omega arith)
  is_at zero (x ∷ xs) low = record { listed = x; got = refl }
  is_at (suc at) (x ∷ xs) low = let rest = is_at at xs (omega arith) in record { listed = rest.listed; got = rest.got }

  module _ (id : ℤ) (xs : List (Listed D)) (at : ℕ) (is : menu_index id xs ≡ Some at) (low : at < length xs) where
    pub here : IsAt at xs
    here = is_at at xs low

    items : items_in id xs ≡ here.listed.menu.items
    items = ap (λ o. option_map_or (λ (l : Listed D). l.menu.items) o []) (with_found id xs at is ∙ here.got)

    pub edited_is : (f : Listed D → Listed D) → edited f id xs ≡ edit_at f at xs
    edited_is f = ap (λ o. option_map_or (λ i. edit_at f i xs) o xs) is

    why_is : (why : Menu → Option Refusal) → why_at why at xs ≡ why here.listed.menu
    why_is why = ap (option_and_then (λ (l : Listed D). why l.menu)) here.got

    -- the menu is there, and what else may refuse the call is asked of its items
    pub refused_as : (rest : List MenuItem → List (Bool × Refusal)) (why : Menu → Option Refusal) (r : Option Refusal)
        → ((menu : Menu) → first_refusal (rest menu.items) ≡ why menu) → r ≡ why_at why at xs
        → first_refusal ((is_no_menu id xs, NoSuchMenu) ∷ rest (items_in id xs)) ≡ r
    refused_as rest why r same answered =
        (λ i. first_refusal ((is_none (is i), NoSuchMenu) ∷ rest (items i))) ∙ same here.listed.menu ∙ sym (why_is why) ∙ sym answered

    -- a text is not appended for a reason, or for want of memory
    pub not_appended : (rest : List MenuItem → List (Bool × Refusal)) (text : List ℕ) (e : Refusal)
        → ((menu : Menu) → first_refusal (rest menu.items) ≡ why_not_appended text (length menu.items))
        → IfSome (slice_get xs at) (λ l. IsNotAppended text (length l.menu.items) e)
        → IsRefusedFor (λ why. first_refusal ((is_no_menu id xs, NoSuchMenu) ∷ rest (items_in id xs)) ≡ why) true e
    not_appended rest text e same refused = by_reason (subst (λ o. IfSome o (λ (l : Listed D). IsNotAppended text (length l.menu.items) e)) here.got refused)
      where
        all_is : first_refusal ((is_no_menu id xs, NoSuchMenu) ∷ rest (items_in id xs)) ≡ why_not_appended text (length here.listed.menu.items)
        all_is = (λ i. first_refusal ((is_none (is i), NoSuchMenu) ∷ rest (items i))) ∙ same here.listed.menu

        by_reason : IsNotAppended text (length here.listed.menu.items) e → IsRefusedFor (λ why. first_refusal ((is_no_menu id xs, NoSuchMenu) ∷ rest (items_in id xs)) ≡ why) true e
        by_reason (inl told) = inl (all_is ∙ told)
        by_reason (inr (none, memory)) = inr (all_is ∙ none, (refl, memory))

-- the item 0 is the menu itself
pub item_or_menu : (item : ℤ) (menu : Menu) → first_refusal ((not (int_eq item (pos 0) || is_item item menu.items), NoSuchItem) ∷ []) ≡ why_not_enabled item menu
item_or_menu item menu = by_tests (int_eq item (pos 0)) (is_item item menu.items)
  where
    by_tests : (a b : Bool) → first_refusal ((not (a || b), NoSuchItem) ∷ []) ≡ (if a then None else first_refusal ((not b, NoSuchItem) ∷ []))
    by_tests true b = refl
    by_tests false b = refl
