-- What a call makes of the selection, cell by cell.
use Rattle.std.proofs.Common.{◌≡◌, ℕ, zero, suc, [], ◌∷◌, ◌<◌, ◌+◌, ◌*◌, nat_lt, List, Bool, true, false, not, if◌then◌else◌, cond, length, refl, sym, ap, ◌∙◌, subst, arith}
use Rattle.std.specs.Prelude.{get_or}
use Rattle.std.specs.Bool.{beq}
use Rattle.std.proofs.lemmas.Bool.{false≢true}
use Rattle.std.proofs.lemmas.Bool.Decides.{nat_tests}
use Rattle.std.proofs.Math.Nat.{mul-zero}
use Rattle.std.proofs.lemmas.List.{ext_get_or}
use Rattle.std.proofs.lemmas.List.FromFn.{get_or-map-range_with_len, length-map-range_with_len}
use Rattle.list_cells.specs.Contents.{Content, empty_content, bytes_held}
use Rattle.list_cells.specs.declared.block.Block.{Block}
use Rattle.list_cells.specs.declared.click.Click.TheVariants.{Extends}
use Rattle.list_cells.specs.declared.selecting.Selecting.{Selecting}
use Rattle.list_cells.specs.Blocks.{content_at, is_in, smallest, with_block, clicked}
use Rattle.list_cells.specs.Grids.{Grid, IsGrid}
use Rattle.list_cells.proofs.ByteLemmas.{same_held}
use Rattle.list_cells.specs.Selections.{alone, content_after, is_selected_after, is_toggled_at, selected_by, AreToggled, IsChange, IsSelecting}

-- the cells of a block selected, and no others
with_block_at : (columns : ℕ) (b : Block) (cells : List Content) (place : ℕ) → place < length cells
    → content_at (with_block columns b cells) place ≡ content_after columns (alone b) place (content_at cells place)
unfolding with_block
with_block_at columns b cells place h =
    get_or-map-range_with_len (λ k. record (content_at cells k) { selected = is_in columns b k }) 0 (length cells) place place empty_content h (omega arith)
    ∙ ap (λ (t : Bool). record (content_at cells place) { selected = t }) (either (is_in columns b place))
  where
    either : (t : Bool) → t ≡ cond t true false
    either true = refl
    either false = refl

block_selected : (g : Grid) (b : Block) → IsSelecting g (record g { contents = with_block g.columns b g.contents }) (alone b)
unfolding with_block
block_selected g b = record {
  columns = refl;
  rows = refl;
  many = length-map-range_with_len (λ k. record (content_at g.contents k) { selected = is_in g.columns b k }) 0 (length g.contents);
  each = λ place h. with_block_at g.columns b g.contents place h;
}

-- a click that extends the selection
pub extended : (g : Grid) (place : ℕ) (b : Block) → b ≡ smallest g.columns g.contents place → IsSelecting g (record g { contents = clicked Extends g.columns place g.contents }) (alone b)
unfolding clicked
extended g place b e = subst (λ (c : Block). IsSelecting g (record g { contents = with_block g.columns c g.contents }) (alone b)) e (block_selected g b)

-- cells that were selected as was said are those that a call was said to leave
pub selected_as_said : (before seen after : Grid) (old now : List Content) (s : Selecting) → before ≡ seen → old ≡ before.contents → length now ≡ length old
    → ((place : ℕ) → place < length old → content_at now place ≡ content_after before.columns s place (content_at old place)) → IsSelecting seen after s → record before { contents = now } ≡ after
selected_as_said before seen after old now s view old_is len each said =
    let h = subst (λ (g : Grid). IsSelecting g after s) (sym view) said in
    let many : length old ≡ length before.contents = ap length old_is in
    let contents : now ≡ after.contents =
    ext_get_or empty_content now after.contents (omega (arith, h.many)) (λ k l.
    each k (omega arith) ∙ ap (λ (cells : List Content). content_after before.columns s k (content_at cells k)) old_is ∙ sym (h.each k (omega arith))) in
    λ i. record { columns = sym h.columns i; rows = sym h.rows i; contents = contents i }

-- a list whose cells were selected as was said is one still, since they hold the same bytes
pub selected_grid : (g : Grid) (old now : List Content) (s : Selecting) → IsGrid g → old ≡ g.contents → length now ≡ length old
    → ((place : ℕ) → place < length old → content_at now place ≡ content_after g.columns s place (content_at old place)) → IsGrid (record g { contents = now })
selected_grid g old now s is old_is len each = record {
  shape = len ∙ ap length old_is ∙ is.shape;
  columns_within = is.columns_within;
  rows_within = is.rows_within;
  cells_within = omega (arith, len, ap length old_is, is.cells_within);
  bytes_within = omega (arith, same_held now old len (λ place low. ap (λ (c : Content). c.bytes) (each place low)), ap bytes_held old_is, is.bytes_within);
}

-- ---- whether some cell is toggled

-- the element at a place, whatever would stand for one that is not there
read_any : {X : Type 0} (xs : List X) (i : ℕ) (d x : X) → i < length xs → x ≡ get_or xs i x → get_or xs i d ≡ x
read_any [] i d x low e = absurd (omega (arith, low))
read_any (y ∷ ys) zero d x low e = sym e
read_any (y ∷ ys) (suc i) d x low e = read_any ys i d x (omega (arith, low)) e

-- none of the cells up to one, and not that one
pub none_more : (columns : ℕ) (s : Selecting) (cells : List Content) (place : ℕ) (c : Content) (was is : Bool) → place < length cells → c ≡ get_or cells place c → was ≡ c.selected
    → is ≡ is_selected_after columns s place was → not (beq is was) ≡ false → ((k : ℕ) → k < place → is_toggled_at columns s cells k ≡ false)
    → (k : ℕ) → k < place + 1 → is_toggled_at columns s cells k ≡ false
none_more columns s cells place c was is low read was_is is_is same before k below = by_test (nat_lt k place) refl
  where
    its : content_at cells place ≡ c
    its = read_any cells place empty_content c low read

    here : is_toggled_at columns s cells place ≡ false
    here =
        ap (λ (x : Content). if is_selected_after columns s place x.selected then not x.selected else x.selected) its
        ∙ (λ i. if is_selected_after columns s place (sym was_is i) then not (sym was_is i) else sym was_is i)
        ∙ (λ i. if sym is_is i then not was else was)
        ∙ table is was same
      where
        table : (a b : Bool) → not (beq a b) ≡ false → (if a then not b else b) ≡ false
        table true true e = refl
        table true false e = absurd (false≢true (sym e))
        table false true e = absurd (false≢true (sym e))
        table false false e = refl

    by_test : (b : Bool) → nat_lt k place ≡ b → is_toggled_at columns s cells k ≡ false
    by_test true e = before k (grind (arith, nat_tests, e))
    by_test false e = let at : k ≡ place = grind (arith, nat_tests, e, below) in subst (λ n. is_toggled_at columns s cells n ≡ false) (sym at) here

-- the call that was said makes the list that it was said to make
pub selecting_by : (g : Grid) (s : Selecting) → IsSelecting g (selected_by s g) s
selecting_by g s = record {
  columns = refl;
  rows = refl;
  many = length-map-range_with_len (λ k. content_after g.columns s k (content_at g.contents k)) 0 (length g.contents);
  each = λ place h. get_or-map-range_with_len (λ k. content_after g.columns s k (content_at g.contents k)) 0 (length g.contents) place place empty_content h (omega arith);
}

-- where no cell is toggled it makes the same list
unchanged_by : (g after : Grid) (s : Selecting) → IsSelecting g after s → ((place : ℕ) → place < length g.contents → is_toggled_at g.columns s g.contents place ≡ false) → g ≡ after
unchanged_by g after s h none =
    let contents : g.contents ≡ after.contents = ext_get_or empty_content g.contents after.contents (sym h.many) (λ k low. sym (h.each k low ∙ same k low)) in
    λ i. record { columns = sym h.columns i; rows = sym h.rows i; contents = contents i }
  where
    table : (a b : Bool) → (if a then not b else b) ≡ false → a ≡ b
    table true true e = refl
    table true false e = absurd (false≢true (sym e))
    table false true e = absurd (false≢true (sym e))
    table false false e = refl

    same : (k : ℕ) → k < length g.contents → content_after g.columns s k (content_at g.contents k) ≡ content_at g.contents k
    same k low = ap (λ (b : Bool). record (content_at g.contents k) { selected = b }) (table (is_selected_after g.columns s k (content_at g.contents k).selected) (content_at g.contents k).selected (none k low))

-- where one is, another
changed_by : (g after : Grid) (s : Selecting) → IsSelecting g after s → (place : ℕ) → place < length g.contents → is_toggled_at g.columns s g.contents place ≡ true → g ≡ after → ⊥
changed_by g after s h place low toggled same =
    differ (is_selected_after g.columns s place (content_at g.contents place).selected) (content_at g.contents place).selected toggled
    (ap (λ (c : Content). c.selected) (sym (h.each place low) ∙ ap (λ (x : Grid). content_at x.contents place) (sym same)))
  where
    differ : (a b : Bool) → (if a then not b else b) ≡ true → a ≡ b → ⊥
    differ true true e f = false≢true e
    differ true false e f = false≢true (sym f)
    differ false true e f = false≢true f
    differ false false e f = false≢true e

-- what a call makes of a list, by whether some cell is toggled
pub change_by : (b : Bool) (g after : Grid) (s : Selecting) → AreToggled b g.columns s g.contents → IsSelecting g after s → IsChange b g after
change_by true g after s toggled h = changed_by g after s h toggled.0 toggled.1 toggled.2
change_by false g after s none h = unchanged_by g after s h none

-- in a list without columns no cell is
pub none_without_columns : (g after : Grid) (s : Selecting) → IsGrid g → g.columns ≡ 0 → IsSelecting g after s → g ≡ after
none_without_columns g after s grid none h =
    let empty : length g.contents ≡ 0 = grid.shape ∙ ap (λ n. g.rows * n) none ∙ mul-zero g.rows in
    unchanged_by g after s h (λ place low. absurd (omega (arith, low, empty)))
