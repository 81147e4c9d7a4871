-- What a list shows outside of its view, and outside of a cell that was given other data.
use Rattle.std.proofs.Common.{◌≡◌, ℕ, ◌+◌, ◌*◌, ◌<◌, ◌≤◌, ◌==◌, ◌&&◌, Bool, true, false, if◌then◌else◌, List, ℤ, pos, negsuc, Option, None, Some, refl, sym, ap, ◌∙◌, arith}
use Rattle.std.specs.Prelude.{int_le, int_lt, nat_abs, nat_lt}
use Rattle.std.specs.Option.{option_map_or}
use Rattle.std.proofs.Math.Nat.{mul-le-mul_right}
use Rattle.std.proofs.lemmas.Bool.{and_parts, false≢true}
use Rattle.std.proofs.lemmas.Int.{ints}
use Rattle.std.proofs.lemmas.List.{get_or-set_other}
use Rattle.tb_geom.specs.declared.point.Point.{Point}
use Rattle.tb_geom.specs.declared.rect.Rect.{Rect}
use Rattle.tb_geom.specs.Rects.{rect_holds}
use Rattle.def_iface.specs.ListMeaning.{ListDefinition, cell_bit}
use Rattle.list_cells.specs.declared.cell.Cell.{Cell}
use Rattle.list_cells.specs.Contents.{Content, empty_content}
use Rattle.list_cells.specs.Grids.{Grid, content_of, is_cell, place_of, with_bytes}
use Rattle.list_view.specs.Views.{IsView, View, any_cell_at, cell_at, cell_rect, is_before, view_rect}
use Rattle.list_view.proofs.LawLemmas.{found_is_cell, holder_is_found}
use Rattle.list_view.specs.Shown.{cell_shown, in_cell, list_shown}
use Rattle.list_mgr.specs.ListDesks.{KeptList}
use Rattle.list_mgr.specs.ListSteps.{with_grid}
use Rattle.list_mgr.specs.WholeLists.{IsSettledList}
use Rattle.list_mgr.specs.Within.{IsSameOutside}
use Rattle.list_mgr.proofs.Cells.{number_in}

-- ---- outside of the view

pub nothing_outside : (font : List ℕ) (d : ListDefinition) (v : View) (g : Grid) (p : Point) → rect_holds (view_rect v) p ≡ false → list_shown font d v g p ≡ false
unfolding cell_at
nothing_outside font d v g p out =
    ap (λ b. option_map_or (λ c. cell_shown font d v g c p) (if b && is_before g.columns g.rows (any_cell_at v p) then Some (any_cell_at v p) else None) false) out

-- so a list shows there what another one shows with this view
pub view_outside : (within : Rect) (x y : KeptList) → within ≡ view_rect x.kept.view → view_rect y.kept.view ≡ view_rect x.kept.view → IsSameOutside within x y
view_outside within x y is same font p out =
    let out_of : rect_holds (view_rect x.kept.view) p ≡ false = ap (λ r. rect_holds r p) (sym is) ∙ out in
    nothing_outside font y.kept.definition.definition y.kept.view y.kept.cells p (ap (λ r. rect_holds r p) same ∙ out_of)
    ∙ sym (nothing_outside font x.kept.definition.definition x.kept.view x.kept.cells p out_of)

-- ---- outside of a cell

-- a place is that of one cell
one_row : (a b r s n : ℕ) → a < n → b < n → r * n + a ≡ s * n + b → nat_lt r s ≡ true → ⊥
one_row a b r s n la lb e less =
    let low : r < s = grind (arith, less) in
    let lines : (r + 1) * n ≤ s * n = mul-le-mul_right n (omega arith) in
    grind arith

same_row : (a b r s n : ℕ) → a < n → b < n → r * n + a ≡ s * n + b → r ≡ s
same_row a b r s n la lb e = by_tests (nat_lt r s) refl (nat_lt s r) refl
  where
    by_tests : (x : Bool) → nat_lt r s ≡ x → (y : Bool) → nat_lt s r ≡ y → r ≡ s
    by_tests true f y h = absurd (one_row a b r s n la lb e f)
    by_tests false f true h = absurd (one_row b a s r n lb la (sym e) h)
    by_tests false f false h = grind (arith, f, h)

counted : (z : ℤ) → int_le (pos 0) z ≡ true → z ≡ pos (nat_abs z)
counted (pos n) e = refl
counted (negsuc n) e = absurd (grind (arith, ints, e))

same_cell : (g : Grid) (k c : Cell) → is_cell g k ≡ true → is_cell g c ≡ true → place_of g k ≡ place_of g c → k ≡ c
same_cell g k c has there e =
    let one = and_parts (int_le (pos 0) k.column && int_lt k.column (pos g.columns)) (int_le (pos 0) k.row && int_lt k.row (pos g.rows)) has in
    let two = and_parts (int_le (pos 0) c.column && int_lt c.column (pos g.columns)) (int_le (pos 0) c.row && int_lt c.row (pos g.rows)) there in
    let low : nat_abs k.column < g.columns = number_in k.column g.columns one.0 in
    let few : nat_abs c.column < g.columns = number_in c.column g.columns two.0 in
    let rows : nat_abs k.row ≡ nat_abs c.row = same_row (nat_abs k.column) (nat_abs c.column) (nat_abs k.row) (nat_abs c.row) g.columns low few e in
    let lines : nat_abs k.row * g.columns ≡ nat_abs c.row * g.columns = ap (λ r. r * g.columns) rows in
    let columns : nat_abs k.column ≡ nat_abs c.column = omega (arith, e, lines) in
    let across : k.column ≡ c.column = counted k.column (and_parts (int_le (pos 0) k.column) (int_lt k.column (pos g.columns)) one.0).0 ∙ ap (λ n. pos n) columns
    ∙ sym (counted c.column (and_parts (int_le (pos 0) c.column) (int_lt c.column (pos g.columns)) two.0).0) in
    let down : k.row ≡ c.row = counted k.row (and_parts (int_le (pos 0) k.row) (int_lt k.row (pos g.rows)) one.1).0 ∙ ap (λ n. pos n) rows
    ∙ sym (counted c.row (and_parts (int_le (pos 0) c.row) (int_lt c.row (pos g.rows)) two.1).0) in
    λ i. record { column = across i; row = down i }

-- of a cell that was given other data the others hold what they held
others_hold : (g : Grid) (c k : Cell) (text : List ℕ) → (place_of g k ≡ place_of g c → ⊥) → content_of (with_bytes g c text) k ≡ content_of g k
others_hold g c k text other = get_or-set_other g.contents (place_of g c) (place_of g k) (record (content_of g c) { bytes = text }) empty_content other

cell_outside : (font : List ℕ) (d : ListDefinition) (v : View) (g : Grid) (c : Cell) (text : List ℕ) (p : Point) → IsView v → is_cell g c ≡ true → rect_holds (cell_rect v c) p ≡ false
    → list_shown font d v (with_bytes g c text) p ≡ list_shown font d v g p
cell_outside font d v g c text p view has out = by_cell (cell_at g.columns g.rows v p) refl
  where
    by_cell : (o : Option Cell) → cell_at g.columns g.rows v p ≡ o
        → option_map_or (λ k. cell_shown font d v (with_bytes g c text) k p) o false ≡ option_map_or (λ k. cell_shown font d v g k p) o false
    by_cell None e = refl
    by_cell (Some k) e =
        ap (λ (x : Content). cell_bit d x.selected font x.bytes (in_cell v k p))
        (others_hold g c k text (λ same. false≢true (sym out ∙ (holder_is_found v g c p view has).0 (e ∙ ap Some (same_cell g k c (found_is_cell v g k p view e) has same)))))

pub bytes_outside : (within : Rect) (x : KeptList) (c : Cell) (text : List ℕ) → within ≡ cell_rect x.kept.view c → is_cell x.kept.cells c ≡ true → IsSettledList x
    → IsSameOutside within x (with_grid (λ (g : Grid). with_bytes g c text) x)
bytes_outside within x c text is has its font p out =
    cell_outside font x.kept.definition.definition x.kept.view x.kept.cells c text p its.view has (ap (λ r. rect_holds r p) (sym is) ∙ out)
