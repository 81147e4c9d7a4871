-- Outside the rows of two items, a menu looks alike whichever of them is highlighted.
use Rattle.std.proofs.Common.{◌≡◌, ℕ, zero, suc, ◌+◌, Bool, true, false, ◌&&◌, if◌then◌else◌, List, [], Option, Some, None, length, refl, sym, ap, ◌∙◌, arith, slice_get, eqb-true}
use Rattle.std.specs.Option.{option_map_or}
use Rattle.std.proofs.lemmas.Int.{ints}
use Rattle.std.proofs.lemmas.Bool.{false≢true}
use Rattle.tb_geom.specs.declared.point.Point.{Point}
use Rattle.tb_geom.specs.declared.rect.Rect.{Rect}
use Rattle.tb_geom.specs.Rects.{rect_holds}
use Rattle.looks.specs.Letters.{lettering}
use Rattle.looks.specs.Lettered.{lettered_value}
use Rattle.looks.specs.Marks.{step_holds, step_value, mark_value, inverted, when}
use Rattle.menu_record.specs.declared.item.MenuItem.{MenuItem}
use Rattle.menu_record.specs.declared.menu.Menu.{Menu}
use Rattle.menu_record.specs.Menus.{is_bright}
use Rattle.def_iface.specs.declared.size.Size.{Size}
use Rattle.std_mldef.specs.declared.rows.Row.{Row}
use Rattle.std_mldef.specs.Measures.{menu_size}
use Rattle.std_mldef.specs.Rows.{row_of, inner_box, item_steps, is_lit, row_value, rows_value, menu_bit, framed_bit, in_band}

-- inverting draws nothing outside its rectangle
stays : (font : List ℕ) (r : Rect) (x d : Bool) (p : Point) → rect_holds r p ≡ false → step_value (lettering font []) p d (when x (inverted r)) ≡ d
unfolding step_holds
stays font r x d p e = ap (λ b. if x && (b && b) then mark_value (inverted r).mark p d else d) e ∙ table x (mark_value (inverted r).mark p d)
  where
    table : (x m : Bool) → (if x && (false && false) then m else d) ≡ d
    table true m = refl
    table false m = refl

-- outside a row's inner box it is the same, highlighted or not
lit_elsewhere : (font : List ℕ) (r : Row) (item : MenuItem) (bright x y : Bool) (p : Point) (d : Bool) → rect_holds (inner_box r) p ≡ false
    → lettered_value font (item_steps r item bright x) p d ≡ lettered_value font (item_steps r item bright y) p d
unfolding item_steps
lit_elsewhere font r item bright x y p d e = stays font (inner_box r) x _ p e ∙ sym (stays font (inner_box r) y _ p e)

-- outside the row of the highlighted item
out_of_row : (size : Size) (lit : Option ℕ) (k : ℕ) (p : Point) → is_lit lit k ≡ true → in_band lit p ≡ false → rect_holds (inner_box (row_of size k)) p ≡ false
out_of_row size None k p is out = absurd (false≢true is)
out_of_row size (Some n) k p is out = let e : n ≡ k + 1 = eqb-true n (k + 1) is in grind (arith, ints, e)

row_same : (font : List ℕ) (menu : Menu) (a b : Option ℕ) (k : ℕ) (p : Point) (d : Bool) → in_band a p ≡ false → in_band b p ≡ false
    → row_value font menu a k p d ≡ row_value font menu b k p d
row_same font menu a b k p d out_a out_b = by_item (slice_get menu.items k)
  where
    size : Size
    size = menu_size font menu

    by_item : (o : Option MenuItem) → option_map_or (λ item. lettered_value font (item_steps (row_of size k) item (is_bright menu item) (is_lit a k)) p d) o d
        ≡ option_map_or (λ item. lettered_value font (item_steps (row_of size k) item (is_bright menu item) (is_lit b k)) p d) o d
    by_item None = refl
    by_item (Some item) = by_test (is_lit a k) (is_lit b k) refl refl
      where
        by_test : (x y : Bool) → is_lit a k ≡ x → is_lit b k ≡ y
            → lettered_value font (item_steps (row_of size k) item (is_bright menu item) (is_lit a k)) p d ≡ lettered_value font (item_steps (row_of size k) item (is_bright menu item) (is_lit b k)) p d
        by_test true y e f = lit_elsewhere font (row_of size k) item (is_bright menu item) (is_lit a k) (is_lit b k) p d (out_of_row size a k p e out_a)
        by_test false true e f = lit_elsewhere font (row_of size k) item (is_bright menu item) (is_lit a k) (is_lit b k) p d (out_of_row size b k p f out_b)
        by_test false false e f = ap (λ x. lettered_value font (item_steps (row_of size k) item (is_bright menu item) x) p d) (e ∙ sym f)

rows_same : (font : List ℕ) (menu : Menu) (a b : Option ℕ) (n : ℕ) (p : Point) (d : Bool) → in_band a p ≡ false → in_band b p ≡ false
    → rows_value font menu a n p d ≡ rows_value font menu b n p d
rows_same font menu a b zero p d out_a out_b = refl
rows_same font menu a b (suc n) p d out_a out_b =
    ap (row_value font menu a n p) (rows_same font menu a b n p d out_a out_b) ∙ row_same font menu a b n p (rows_value font menu b n p d) out_a out_b

pub menus_alike : (font : List ℕ) (menu : Menu) (a b : Option ℕ) (p : Point) → in_band a p ≡ false → in_band b p ≡ false → menu_bit font a menu p ≡ menu_bit font b menu p
unfolding menu_bit
menus_alike font menu a b p out_a out_b = rows_same font menu a b (length menu.items) p (framed_bit font (menu_size font menu) p) out_a out_b
