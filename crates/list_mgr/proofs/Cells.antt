-- Cells that are given other data: whether that changes them, and that they are as they are to be between calls.
use Rattle.std.proofs.Common.{if◌then◌else◌, ◌≡◌, ℕ, ◌+◌, ◌*◌, ◌-◌, ◌<◌, ◌≤◌, ◌==◌, ◌&&◌, Bool, true, false, not, List, [], ◌∷◌, ◌++◌, length, get_or, ℤ, pos, negsuc, None, Some, refl, sym, ap, ◌∙◌, arith, eqb-true}
use Rattle.std.specs.Prelude.{int_le, int_lt, nat_abs, slice_set}
use Rattle.std.specs.Str.{bytes_eq}
use Rattle.std.proofs.Math.Nat.{mul-le-mul_right}
use Rattle.std.proofs.lemmas.Bool.{and_parts, eq-eqb, false≢true, le-ltb}
use Rattle.std.proofs.lemmas.Grind.{get_or-set_at}
use Rattle.std.proofs.lemmas.Int.{ints}
use Rattle.std.proofs.lemmas.List.{get_or_default, length-append, set-get_or}
use Rattle.std.proofs.lemmas.Slice.Eq.{bytes_eq-Decides}
use Rattle.tb_geom.specs.declared.refusal.Refusal.TheVariants.{NoSuchCell, TooLong}
use Rattle.tb_geom.specs.Refusals.{first_refusal}
use Rattle.list_cells.specs.declared.cell.Cell.{Cell}
use Rattle.list_cells.specs.Contents.{Content, bytes_held, empty_content}
use Rattle.list_cells.specs.Grids.{Grid, IsGrid, content_of, data_refusals, is_cell, is_too_long, place_of, with_bytes}
use Rattle.list_cells.proofs.GridLemmas.{data_added, data_set}
use Rattle.control_mgr.proofs.Steps.{first_fails, one_fails}
use Rattle.list_cells.specs.declared.click.SelectionFlags.{SelectionFlags}
use Rattle.list_mgr.specs.Changing.{IsSameOrNot}
use Rattle.list_mgr.proofs.Becoming.{MayBecomeWider}
use Rattle.list_mgr.proofs.SelectedCells.{bytes_selected}

-- ---- where a cell stands

pub number_in : (n : ℤ) (k : ℕ) → (int_le (pos 0) n && int_lt n (pos k)) ≡ true → nat_abs n < k
number_in (pos m) k e = grind (arith, ints, e)
number_in (negsuc m) k e = absurd (grind (arith, ints, e))

pub place_low : (g : Grid) (c : Cell) → is_cell g c ≡ true → place_of g c < g.rows * g.columns
place_low g c e =
    let both = and_parts (int_le (pos 0) c.column && int_lt c.column (pos g.columns)) (int_le (pos 0) c.row && int_lt c.row (pos g.rows)) e in
    let column : nat_abs c.column < g.columns = number_in c.column g.columns both.0 in
    let row : nat_abs c.row < g.rows = number_in c.row g.rows both.1 in
    let lines : (nat_abs c.row + 1) * g.columns ≤ g.rows * g.columns = mul-le-mul_right g.columns (omega arith) in
    grind arith

in_contents : (g : Grid) (c : Cell) → IsGrid g → is_cell g c ≡ true → place_of g c < length g.contents
in_contents g c is e = let low = place_low g c e in omega (arith, low, is.shape)

-- ---- why data are refused

-- the list has no such cell
pub no_cell_refused : (g : Grid) (c : Cell) (gone n : ℕ) → is_cell g c ≡ false → first_refusal (data_refusals g c gone n) ≡ Some NoSuchCell
unfolding data_refusals
no_cell_refused g c gone n e = λ i. if not (e i) then Some NoSuchCell else first_refusal ((is_too_long g gone n, TooLong) ∷ [])

-- it has one that may be given data
pub cell_of_allowed : (g : Grid) (c : Cell) (gone n : ℕ) → first_refusal (data_refusals g c gone n) ≡ None → is_cell g c ≡ true
cell_of_allowed g c gone n e = by_test (is_cell g c) refl
  where
    by_test : (b : Bool) → is_cell g c ≡ b → b ≡ true
    by_test true is = refl
    by_test false is = let both = sym (no_cell_refused g c gone n is) ∙ e in absurd (cc)

-- no data may be given to each
pub clearing_allowed : (g : Grid) (c : Cell) → IsGrid g → is_cell g c ≡ true → first_refusal (data_refusals g c (length (content_of g c).bytes) 0) ≡ None
unfolding data_refusals
clearing_allowed g c is has =
    first_fails (not (is_cell g c)) NoSuchCell ((is_too_long g (length (content_of g c).bytes) 0, TooLong) ∷ []) (ap not has)
    ∙ one_fails (is_too_long g (length (content_of g c).bytes) 0) TooLong
    (le-ltb 32000 (bytes_held g.contents - length (content_of g c).bytes + 0) (let few = is.bytes_within in omega (arith, few)))

-- ---- whether data change a cell

pub same_bytes : (g : Grid) (c : Cell) (text : List ℕ) → (content_of g c).bytes ≡ text → with_bytes g c text ≡ g
same_bytes g c text e =
    (λ i. record g { contents = slice_set g.contents (place_of g c) (record (content_of g c) { bytes = sym e i }) })
    ∙ ap (λ (cs : List Content). record g { contents = cs }) (set-get_or g.contents (place_of g c) empty_content)

pub other_bytes : (g : Grid) (c : Cell) (text : List ℕ) → IsGrid g → is_cell g c ≡ true → with_bytes g c text ≡ g → (content_of g c).bytes ≡ text
other_bytes g c text is has e =
    let put : get_or (slice_set g.contents (place_of g c) (record (content_of g c) { bytes = text })) (place_of g c) empty_content ≡ record (content_of g c) { bytes = text } =
    get_or-set_at g.contents (place_of g c) (place_of g c) (record (content_of g c) { bytes = text }) empty_content refl (in_contents g c is has) in
    sym (ap (λ (h : Grid). (get_or h.contents (place_of g c) empty_content).bytes) e) ∙ ap (λ (x : Content). x.bytes) put

-- where the bytes are others
pub set_or_not : (g : Grid) (c : Cell) (text : List ℕ) → IsGrid g → is_cell g c ≡ true → IsSameOrNot (not (bytes_eq (content_of g c).bytes text)) (with_bytes g c text) g
set_or_not g c text is has = by_test (bytes_eq (content_of g c).bytes text) refl
  where
    by_test : (b : Bool) → bytes_eq (content_of g c).bytes text ≡ b → IsSameOrNot (not b) (with_bytes g c text) g
    by_test true e = same_bytes g c text ((bytes_eq-Decides (content_of g c).bytes text).0 e)
    by_test false e = λ same. false≢true (sym e ∙ (bytes_eq-Decides (content_of g c).bytes text).1 (other_bytes g c text is has same))

nothing_in : (xs : List ℕ) → (length xs == 0) ≡ true → xs ≡ []
nothing_in [] e = refl
nothing_in (x ∷ xs) e = let none : length (x ∷ xs) ≡ 0 = eqb-true (length (x ∷ xs)) 0 e in absurd (omega (arith, none))

append_nothing : (xs : List ℕ) → xs ++ [] ≡ xs
append_nothing [] = refl
append_nothing (x ∷ xs) = ap (λ ys. x ∷ ys) (append_nothing xs)

-- where bytes are added
pub added_or_not : (g : Grid) (c : Cell) (text : List ℕ) → IsGrid g → is_cell g c ≡ true → IsSameOrNot (not (length text == 0)) (with_bytes g c ((content_of g c).bytes ++ text)) g
added_or_not g c text is has = by_test (length text == 0) refl
  where
    by_test : (b : Bool) → (length text == 0) ≡ b → IsSameOrNot (not b) (with_bytes g c ((content_of g c).bytes ++ text)) g
    by_test true e = same_bytes g c ((content_of g c).bytes ++ text) (sym (append_nothing (content_of g c).bytes) ∙ ap (λ ys. (content_of g c).bytes ++ ys) (sym (nothing_in text e)))
    by_test false e = λ same.
        let long : length (content_of g c).bytes ≡ length ((content_of g c).bytes ++ text) = ap length (other_bytes g c ((content_of g c).bytes ++ text) is has same) in
        let sum : length ((content_of g c).bytes ++ text) ≡ length (content_of g c).bytes + length text = length-append (content_of g c).bytes text in
        false≢true (sym e ∙ eq-eqb (length text) 0 (omega (arith, long, sum)))

-- where there are bytes that are taken away
pub cleared_or_not : (g : Grid) (c : Cell) (bytes : List ℕ) → bytes ≡ (content_of g c).bytes → IsGrid g → is_cell g c ≡ true → IsSameOrNot (not (length bytes == 0)) (with_bytes g c []) g
cleared_or_not g c bytes are is has = by_test (length bytes == 0) refl
  where
    by_test : (b : Bool) → (length bytes == 0) ≡ b → IsSameOrNot (not b) (with_bytes g c []) g
    by_test true e = same_bytes g c [] (sym are ∙ nothing_in bytes e)
    by_test false e = λ same. false≢true (sym e ∙ eq-eqb (length bytes) 0 (ap length (are ∙ other_bytes g c [] is has same)))

-- ---- what holds between calls

-- other data leave the lines and the selection
given_bytes : {flags : SelectionFlags} (g : Grid) (c : Cell) (text : List ℕ) → IsGrid (with_bytes g c text) → MayBecomeWider flags g (with_bytes g c text)
given_bytes g c text is = record {
  cells = record { grid = is; single = λ only few. let less = bytes_selected g c text in omega (arith, less, few) };
  columns = omega arith;
  rows = omega arith;
}

pub set_grid : {flags : SelectionFlags} (g : Grid) (c : Cell) (text : List ℕ) → IsGrid g → first_refusal (data_refusals g c (length (content_of g c).bytes) (length text)) ≡ None → MayBecomeWider flags g (with_bytes g c text)
set_grid g c text is allowed =
    given_bytes g c text
    (data_set g g c (place_of g c) (length text) (record (content_of g c) { bytes = text }) is refl allowed refl
    (place_low g c (cell_of_allowed g c (length (content_of g c).bytes) (length text) allowed)) refl)

pub added_grid : {flags : SelectionFlags} (g : Grid) (c : Cell) (text : List ℕ) → IsGrid g → first_refusal (data_refusals g c 0 (length text)) ≡ None
    → MayBecomeWider flags g (with_bytes g c ((content_of g c).bytes ++ text))
added_grid g c text is allowed =
    let has = cell_of_allowed g c 0 (length text) allowed in
    given_bytes g c ((content_of g c).bytes ++ text)
    (data_added g g c (place_of g c) (length text) (content_of g c) (record (content_of g c) { bytes = (content_of g c).bytes ++ text }) is refl allowed
    (place_low g c has) (get_or_default g.contents (place_of g c) empty_content (content_of g c) (in_contents g c is has)) (length-append (content_of g c).bytes text))

pub cleared_grid : {flags : SelectionFlags} (g : Grid) (c : Cell) → IsGrid g → is_cell g c ≡ true → MayBecomeWider flags g (with_bytes g c [])
cleared_grid g c is has = set_grid g c [] is (clearing_allowed g c is has)
