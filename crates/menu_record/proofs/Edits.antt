-- An item that is changed in its list.
use Rattle.std.proofs.Common.{◌≡◌, ℕ, zero, suc, ◌-◌, ℤ, nat_abs, List, [], ◌∷◌, set, get_or, refl, ap, ◌∙◌}
use Rattle.std.proofs.Math.Path.{ap₂}
use Rattle.menu_record.specs.declared.item.MenuItem.{MenuItem}
use Rattle.menu_record.specs.Edits.{edit, edit_item}

-- a changed item is written over what it was
pub set_is_edit : (f : MenuItem → MenuItem) (items : List MenuItem) (i : ℕ) (item : MenuItem) → item ≡ get_or items i item → set items i (f item) ≡ edit f i items
set_is_edit f [] i item e = refl
set_is_edit f (y ∷ ys) zero item e = ap (λ z. f z ∷ ys) e
set_is_edit f (y ∷ ys) (suc i) item e = ap (λ zs. y ∷ zs) (set_is_edit f ys i item e)

-- the same, for the item of a number
pub item_is_edited : (f : MenuItem → MenuItem) (items now : List MenuItem) (place : ℕ) (number : ℤ) (item : MenuItem)
    → items ≡ now → place ≡ nat_abs number - 1 → item ≡ get_or items place item → set items place (f item) ≡ edit_item f number now
item_is_edited f items now place number item same at value = set_is_edit f items place item value ∙ ap₂ (λ k xs. edit f k xs) at same
