-- Which item a point chooses.
use Rattle.std.proofs.Common.{◌≡◌, ℕ, zero, suc, ◌+◌, ◌*◌, ◌<◌, Bool, true, false, if◌then◌else◌, List, [], ◌∷◌, Some, None, length, pos, refl, sym, ap, ◌∙◌, arith, slice_get}
use Rattle.std.proofs.lemmas.Int.{ints}
use Rattle.tb_geom.specs.declared.point.Point.{Point}
use Rattle.tb_geom.specs.Rects.{rect_holds}
use Rattle.menu_record.specs.declared.item.MenuItem.{MenuItem}
use Rattle.menu_record.specs.declared.menu.Menu.{Menu}
use Rattle.menu_record.specs.Menus.{can_choose}
use Rattle.def_iface.specs.declared.size.Size.{Size}
use Rattle.std_mldef.specs.Measures.{menu_size}
use Rattle.std_mldef.specs.Rows.{chosen, chosen_from, inner_box, inside_frame, row_of}

-- a point lies in one row at most
one_row : (size : Size) (i j : ℕ) (p : Point) → i < j → rect_holds (inner_box (row_of size j)) p ≡ true → rect_holds (inner_box (row_of size i)) p ≡ false
one_row size i j p h in_j = by_cases (rect_holds (inner_box (row_of size i)) p) refl
  where
    by_cases : (b : Bool) → rect_holds (inner_box (row_of size i)) p ≡ b → rect_holds (inner_box (row_of size i)) p ≡ false
    by_cases false e = e
    by_cases true in_i = absurd (grind (arith, ints))

from_row : (menu : Menu) (size : Size) (items : List MenuItem) (first j : ℕ) (item : MenuItem) (p : Point) → slice_get items j ≡ Some item
    → rect_holds (inner_box (row_of size (first + j))) p ≡ true → chosen_from menu size first items p ≡ (if can_choose menu item then Some (first + j + 1) else None)
from_row menu size [] first j item p is here = absurd (cc is)
from_row menu size (x ∷ xs) first zero item p is here =
    let at : first + zero ≡ first = omega arith in
    let same : x ≡ item = cc is in
    ap (λ b. if b then (if can_choose menu x then Some (first + 1) else None) else chosen_from menu size (first + 1) xs p) (ap (λ n. rect_holds (inner_box (row_of size n)) p) (sym at) ∙ here)
    ∙ (λ i. if can_choose menu (same i) then Some (sym at i + 1) else None)
from_row menu size (x ∷ xs) first (suc j) item p is here =
    let at : first + suc j ≡ (first + 1) + j = omega arith in
    ap (λ b. if b then (if can_choose menu x then Some (first + 1) else None) else chosen_from menu size (first + 1) xs p) (one_row size first (first + suc j) p (omega arith) here)
    ∙ from_row menu size xs (first + 1) j item p is (ap (λ n. rect_holds (inner_box (row_of size n)) p) (sym at) ∙ here)
    ∙ ap (λ n. if can_choose menu item then Some (n + 1) else None) (sym at)

pub own_row : (font : List ℕ) (menu : Menu) (k : ℕ) (item : MenuItem) (p : Point) → slice_get menu.items k ≡ Some item
    → rect_holds (inner_box (row_of (menu_size font menu) k)) p ≡ true → chosen font menu p ≡ (if can_choose menu item then Some (k + 1) else None)
own_row font menu k item p is here =
    let at : 0 + k ≡ k = omega arith in
    from_row menu (menu_size font menu) menu.items 0 k item p is (ap (λ n. rect_holds (inner_box (row_of (menu_size font menu) n)) p) at ∙ here)
    ∙ ap (λ n. if can_choose menu item then Some (n + 1) else None) at

-- where no row has the point, no item is chosen
no_row : (menu : Menu) (size : Size) (items : List MenuItem) (first : ℕ) (p : Point)
    → ((j : ℕ) → j < first + length items → rect_holds (inner_box (row_of size j)) p ≡ false) → chosen_from menu size first items p ≡ None
no_row menu size [] first p out = refl
no_row menu size (x ∷ xs) first p out =
    ap (λ b. if b then (if can_choose menu x then Some (first + 1) else None) else chosen_from menu size (first + 1) xs p) (out first (omega arith))
    ∙ no_row menu size xs (first + 1) p (λ j h. out j (omega arith))

row_inside : (size : Size) (n j : ℕ) (p : Point) → size.height ≡ pos (16 * n + 2) → j < n → rect_holds (inside_frame size) p ≡ false → rect_holds (inner_box (row_of size j)) p ≡ false
row_inside size n j p high h out = by_cases (rect_holds (inner_box (row_of size j)) p) refl
  where
    by_cases : (b : Bool) → rect_holds (inner_box (row_of size j)) p ≡ b → rect_holds (inner_box (row_of size j)) p ≡ false
    by_cases false e = e
    by_cases true in_j = absurd (grind (arith, ints))

pub outside_rows : (font : List ℕ) (menu : Menu) (p : Point) → rect_holds (inside_frame (menu_size font menu)) p ≡ false → chosen font menu p ≡ None
unfolding menu_size
outside_rows font menu p out =
    no_row menu (menu_size font menu) menu.items 0 p (λ j h. row_inside (menu_size font menu) (length menu.items) j p refl (omega arith) out)
