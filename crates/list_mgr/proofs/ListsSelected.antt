-- What selecting a cell and clicking on one make of the selection: cells of a block, and the others as they were or deselected.
use Rattle.std.proofs.Common.{◌≡◌, ℕ, ◌<◌, ◌*◌, ◌/◌, ◌%◌, ◌+◌, nat_le, Bool, true, false, ◌&&◌, List, length, refl, sym, ap, ◌∙◌, subst, arith}
use Rattle.std.specs.Prelude.{if◌then◌else◌}
use Rattle.std.proofs.lemmas.Bool.{and_parts, false≢true}
use Rattle.std.proofs.lemmas.Bool.Decides.{nat_tests}
use Rattle.std.proofs.lemmas.List.{get_or-map, get_or-set_other, get_or-set_same, length-map, length-set}
use Rattle.std.proofs.Math.Nat.{div-add-mod}
use Rattle.list_cells.specs.declared.cell.Cell.{Cell}
use Rattle.list_cells.specs.declared.click.Click.{Click}
use Rattle.list_cells.specs.declared.click.Click.TheVariants.{Deselects, Extends, SelectsAlone, Toggles}
use Rattle.list_cells.specs.declared.click.ClickKeys.{ClickKeys}
use Rattle.list_cells.specs.declared.click.SelectionFlags.{SelectionFlags}
use Rattle.list_cells.specs.declared.selecting.Selecting.{Selecting}
use Rattle.list_cells.specs.Blocks.{block_at, clicked, clicked_cell, content_at, is_in, smallest, with_selected}
use Rattle.list_cells.specs.Clicks.{click_of}
use Rattle.list_cells.specs.Contents.{Content, deselected_content, deselected_contents, empty_content}
use Rattle.list_cells.specs.Grids.{Grid, IsGrid, content_of, is_cell, place_of}
use Rattle.list_cells.specs.Selections.{IsSelecting, alone, beside_others, chosen_cell, content_after, is_selected_after}
use Rattle.list_cells.proofs.SelectionLemmas.{extended}
use Rattle.list_mgr.proofs.Cells.{place_low}

-- ---- the block of one cell

between : (a b : ℕ) → (nat_le a b && nat_le b a) ≡ true → b ≡ a
between a b e = let parts = and_parts (nat_le a b) (nat_le b a) e in grind (arith, nat_tests)

-- it has that cell
has_itself : (columns place : ℕ) → is_in columns (block_at columns place) place ≡ true
has_itself columns place = by_self (place % columns) (place / columns)
  where
    by_self : (a b : ℕ) → ((nat_le a a && nat_le a a) && (nat_le b b && nat_le b b)) ≡ true
    by_self a b = let first : nat_le a a ≡ true = grind (arith, nat_tests) in let second : nat_le b b ≡ true = grind (arith, nat_tests) in λ i. (first i && first i) && (second i && second i)

-- and no other
has_no_other : (columns place k : ℕ) → is_in columns (block_at columns place) k ≡ true → k ≡ place
has_no_other columns place k e =
    let parts = and_parts (nat_le (place % columns) (k % columns) && nat_le (k % columns) (place % columns)) (nat_le (place / columns) (k / columns) && nat_le (k / columns) (place / columns)) e in
    let across = between (place % columns) (k % columns) parts.0 in
    let down = between (place / columns) (k / columns) parts.1 in
    sym (div-add-mod k columns) ∙ (λ i. columns * down i + across i) ∙ div-add-mod place columns

-- ---- one cell that is selected or deselected

module _ (g : Grid) (place : ℕ) (selected : Bool) (within : place < length g.contents) where
  -- the content of each cell, where that at this place is said to be so, and others were before
  each_set : (cells : List Content) (s : Selecting) → length cells ≡ length g.contents → s.block ≡ block_at g.columns place → s.selected ≡ selected
      → (record (content_at cells place) { selected = selected } ≡ record (content_at g.contents place) { selected = selected })
      → ((k : ℕ) → k < length g.contents → content_at cells k ≡ record (content_at g.contents k) { selected = s.keeps_others && (content_at g.contents k).selected })
      → (k : ℕ) → k < length g.contents → content_at (with_selected place selected cells) k ≡ content_after g.columns s k (content_at g.contents k)
  each_set cells s many block is here others k low = by_block (is_in g.columns (block_at g.columns place) k) refl
    where
      after : (b : Bool) → is_in g.columns (block_at g.columns place) k ≡ b → is_selected_after g.columns s k (content_at g.contents k).selected ≡ (if b then selected else (s.keeps_others && (content_at g.contents k).selected))
      after b e = λ i. if ((λ j. is_in g.columns (block j) k) ∙ e) i then is i else (s.keeps_others && (content_at g.contents k).selected)

      by_block : (b : Bool) → is_in g.columns (block_at g.columns place) k ≡ b → content_at (with_selected place selected cells) k ≡ content_after g.columns s k (content_at g.contents k)
      by_block true e =
          let same : k ≡ place = has_no_other g.columns place k e in
          ap (λ n. content_at (with_selected place selected cells) n) same
          ∙ get_or-set_same cells place (record (content_at cells place) { selected = selected }) empty_content (subst (λ n. place < n) (sym many) within)
          ∙ here
          ∙ ap (λ n. record (content_at g.contents n) { selected = selected }) (sym same)
          ∙ ap (λ (b : Bool). record (content_at g.contents k) { selected = b }) (sym (after true e))
      by_block false e =
          get_or-set_other cells place k (record (content_at cells place) { selected = selected }) empty_content (λ same. false≢true (sym e ∙ ap (is_in g.columns (block_at g.columns place)) same ∙ has_itself g.columns place))
          ∙ others k low
          ∙ ap (λ (b : Bool). record (content_at g.contents k) { selected = b }) (sym (after false e))

  -- the others as they are
  one_selecting : IsSelecting g (record g { contents = with_selected place selected g.contents }) (beside_others (block_at g.columns place) selected)
  one_selecting = record {
    columns = refl;
    rows = refl;
    many = length-set g.contents place (record (content_at g.contents place) { selected = selected });
    each = each_set g.contents (beside_others (block_at g.columns place) selected) refl refl refl refl (λ k low. refl);
  }

-- the others deselected
alone_selecting : (g : Grid) (place : ℕ) → place < length g.contents → IsSelecting g (record g { contents = with_selected place true (deselected_contents g.contents) }) (alone (block_at g.columns place))
alone_selecting g place within = record {
  columns = refl;
  rows = refl;
  many = length-set (deselected_contents g.contents) place (record (content_at (deselected_contents g.contents) place) { selected = true }) ∙ many;
  each = each_set g place true within (deselected_contents g.contents) (alone (block_at g.columns place)) many refl refl
      (ap (λ (c : Content). record c { selected = true }) (get_or-map deselected_content g.contents place empty_content empty_content within))
      (λ k low. get_or-map deselected_content g.contents k empty_content empty_content low);
}
  where
    many : length (deselected_contents g.contents) ≡ length g.contents
    many = length-map g.contents deselected_content

-- ---- calls

-- a click on a cell selects the cells of a block, and leaves the others or deselects them
clicked_selecting : (g : Grid) (place : ℕ) → place < length g.contents → (k : Click) → (s : Selecting) × IsSelecting g (record g { contents = clicked k g.columns place g.contents }) s
unfolding clicked
clicked_selecting g place within SelectsAlone = (alone (block_at g.columns place), alone_selecting g place within)
clicked_selecting g place within Toggles = (_, one_selecting g place _ within)
clicked_selecting g place within Deselects = (_, one_selecting g place false within)
clicked_selecting g place within Extends = (_, extended g place (smallest g.columns g.contents place) refl)

module _ (g : Grid) (c : Cell) (grid : IsGrid g) (has : is_cell g c ≡ true) where
  within : place_of g c < length g.contents
  within = subst (λ n. place_of g c < n) (sym grid.shape) (place_low g c has)

  pub click_selects : (flags : SelectionFlags) (keys : ClickKeys) → (s : Selecting) × IsSelecting g (clicked_cell flags keys c g) s
  click_selects flags keys = clicked_selecting g (place_of g c) within (click_of flags keys (content_of g c).selected)

  pub choice_selects : (selected only : Bool) → (s : Selecting) × IsSelecting g (chosen_cell c selected only g) s
  choice_selects true true = (_, alone_selecting g (place_of g c) within)
  choice_selects true false = (_, one_selecting g (place_of g c) true within)
  choice_selects false only = (_, one_selecting g (place_of g c) false within)
