-- What a change of the selection turns.
use Rattle.std.proofs.Common.{◌≡◌, ◌≤◌, ℕ, ◌+◌, ◌*◌, Bool, true, false, not, ◌&&◌, if◌then◌else◌, List, length, Option, Some, None, refl, sym, ap, ◌∙◌, subst, cond, replicate, inl, inr, arith}
use Rattle.std.specs.Prelude.{nat_abs, slice_index}
use Rattle.std.specs.Option.{option_map_or}
use Rattle.std.proofs.lemmas.List.{get_or_past, get_or-replicate}
use Rattle.std.proofs.lemmas.List.FromFn.{get_or-map-range_with_len, length-map-range_with_len}
use Rattle.std.proofs.lemmas.Bool.{cases_lt}
use Rattle.tb_geom.specs.declared.point.Point.{Point}
use Rattle.tb_geom.specs.Points.{PixelSet, minus}
use Rattle.tb_geom.specs.Rects.{rect_holds}
use Rattle.scan_region.specs.Cuts.{cut_holds}
use Rattle.bit_map.specs.declared.pattern.Pattern.{Pattern}
use Rattle.bit_map.specs.Patterns.{pattern_bit, bit_of, eighth_of}
use Rattle.bit_map.specs.Bits.{Bits, bit}
use Rattle.bit_blit.specs.Draws.{Draws}
use Rattle.bit_blit.proofs.DrawsLemmas.{Draws-over, Draws-same, Draws-value}
use Rattle.draw_port.specs.declared.canvas.Canvas.{Canvas}
use Rattle.draw_port.specs.Canvases.{canvas_holds, canvas_point, SameFrame}
use Rattle.def_iface.specs.ListMeaning.{ListDefinition, no_list_news, cell_bit}
use Rattle.list_cells.specs.declared.cell.Cell.{Cell}
use Rattle.list_cells.specs.declared.selecting.Selecting.{Selecting}
use Rattle.list_cells.specs.Contents.{Content, empty_content}
use Rattle.list_cells.specs.Blocks.{content_at}
use Rattle.list_cells.specs.Grids.{Grid, place_of, content_of}
use Rattle.list_cells.specs.Selections.{content_after, is_toggled, IsSelecting}
use Rattle.list_cells.proofs.SelectionLemmas.{selected_as_said}
use Rattle.list_view.specs.Views.{View, cell_at}
use Rattle.list_view.specs.Shown.{in_cell, cell_shown, list_shown, is_turned}
use Rattle.list_view.specs.Walks.{shown_value, selected_as}

-- ---- white

abbrev pub white : Pattern
white = record { rows = replicate 8 0 }

zero_at : (k : ℕ) → slice_index (replicate 8 0) k ≡ 0
zero_at k = elim (cases_lt k 8) [ inl l ↦ get_or-replicate 8 k 0 0 l | inr m ↦ get_or_past (replicate 8 0) k 0 m ]

bit_of-zero : (place : ℕ) → bit_of 0 place ≡ false
bit_of-zero place = grind arith

-- the white pattern is white
pattern_bit-white : (p : Point) → pattern_bit white p ≡ false
pattern_bit-white p = ap (λ n. bit_of n (eighth_of p.h)) (zero_at (eighth_of p.v)) ∙ bit_of-zero (eighth_of p.h)

-- ---- cells before and after

-- a cell holds the same bytes after a call that selects cells
bytes_stay : (before after : Grid) (s : Selecting) (c : Cell) → IsSelecting before after s → (content_of after c).bytes ≡ (content_of before c).bytes
bytes_stay before after s c h =
    let place : place_of after c ≡ place_of before c = ap (λ (n : ℕ). nat_abs c.row * n + nat_abs c.column) h.columns in
    ap (λ (k : ℕ). (content_at after.contents k).bytes) place ∙ at_place
  where
    past : length before.contents ≤ place_of before c → (content_at after.contents (place_of before c)).bytes ≡ (content_of before c).bytes
    past m =
        let far : length after.contents ≤ place_of before c = omega (arith, h.many) in
        ap (λ (x : Content). x.bytes) (get_or_past after.contents (place_of before c) empty_content far ∙ sym (get_or_past before.contents (place_of before c) empty_content m))

    at_place : (content_at after.contents (place_of before c)).bytes ≡ (content_of before c).bytes
    at_place = elim (cases_lt (place_of before c) (length before.contents)) [ inl l ↦ ap (λ (x : Content). x.bytes) (h.each (place_of before c) l) | inr m ↦ past m ]

-- the list after a call is such a one
pub is_selected_as : (g : Grid) (s : Selecting) → IsSelecting g (selected_as s g) s
is_selected_as g s = record {
  columns = refl;
  rows = refl;
  many = length-map-range_with_len (λ k. content_after g.columns s k (content_at g.contents k)) 0 (length g.contents);
  each = λ place h. get_or-map-range_with_len (λ k. content_after g.columns s k (content_at g.contents k)) 0 (length g.contents) place place empty_content h (omega arith);
}

-- and there is no other
pub selected_as_is : (g after : Grid) (s : Selecting) → IsSelecting g after s → selected_as s g ≡ after
selected_as_is g after s h =
    let is = is_selected_as g s in
    selected_as_said g g after g.contents (selected_as s g).contents s refl refl is.many is.each h

-- ---- points

table : (was now h x : Bool)
    → (if now && h then not x else x) ≡ (if (if now then not was else was) && h then not (if was && h then not x else x) else (if was && h then not x else x))
table true true true x = refl
table true true false x = refl
table true false true true = refl
table true false true false = refl
table true false false x = refl
table false true true x = refl
table false true false x = refl
table false false h x = refl

cell_turned : (font : List ℕ) (d : ListDefinition) (v : View) (before after : Grid) (s : Selecting) (c : Cell) (p : Point) → IsSelecting before after s
    → cell_shown font d v after c p
    ≡ (if is_toggled before after c && d.highlight no_list_news font (content_of before c).bytes (in_cell v c p) then not (cell_shown font d v before c p) else cell_shown font d v before c p)
cell_turned font d v before after s c p h =
    ap (λ (bytes : List ℕ). cell_bit d (content_of after c).selected font bytes (in_cell v c p)) (bytes_stay before after s c h)
    ∙ table (content_of before c).selected (content_of after c).selected (d.highlight no_list_news font (content_of before c).bytes (in_cell v c p)) (d.picture no_list_news font (content_of before c).bytes (in_cell v c p))

-- what the list showed, turned, is what it shows
pub turned_shows : (font : List ℕ) (d : ListDefinition) (v : View) (before after : Grid) (s : Selecting) (p : Point) → IsSelecting before after s
    → list_shown font d v after p ≡ (if is_turned font d v before after p then not (list_shown font d v before p) else list_shown font d v before p)
turned_shows font d v before after s p h =
    (λ i. option_map_or (λ c. cell_shown font d v after c p) (cell_at (h.columns i) (h.rows i) v p) false) ∙ by_cell (cell_at before.columns before.rows v p)
  where
    by_cell : (o : Option Cell) → option_map_or (λ c. cell_shown font d v after c p) o false
        ≡ (if option_map_or (λ c. is_toggled before after c && d.highlight no_list_news font (content_of before c).bytes (in_cell v c p)) o false
        then not (option_map_or (λ c. cell_shown font d v before c p) o false) else option_map_or (λ c. cell_shown font d v before c p) o false)
    by_cell None = refl
    by_cell (Some c) = cell_turned font d v before after s c p h

-- ---- drawings

neither : (t d : Bool) → d ≡ cond t d d
neither true d = refl
neither false d = refl

-- a cell that is toggled is turned where its highlight is
pub turned_cell : (holds : PixelSet) (toggled : Bool) (highlight hilited : PixelSet) (at : Point → Point) (a b : Bits) → toggled ≡ true → highlight ≡ hilited
    → Draws holds (λ p d. if highlight (at p) then not d else d) a b → Draws holds (λ p d. if toggled && hilited (at p) then not d else d) a b
turned_cell holds toggled highlight hilited at a b is same drawn = Draws-value holds _ _ a b (λ p d i. if sym is i && same i (at p) then not d else d) drawn

-- and one that is not, nowhere
pub unturned_cell : (holds : PixelSet) (toggled : Bool) (hilited : PixelSet) (at : Point → Point) (a : Bits) → toggled ≡ false
    → Draws holds (λ p d. if toggled && hilited (at p) then not d else d) a a
unturned_cell holds toggled hilited at a is = record {
  pixels = λ p on. neither (holds p) (bit a p) ∙ (λ i. cond (holds p) (if sym is i && hilited (at p) then not (bit a p) else bit a p) (bit a p));
  width = refl;
  height = refl;
}

-- cells that are turned one by one are turned as the list is
pub turned_list : (font : List ℕ) (d : ListDefinition) (v : View) (before after : Grid) (s : Selecting) (holds : PixelSet) (at : Point → Point) (a b : Bits) → IsSelecting before after s
    → Draws holds (λ p x. shown_value (λ c q y. if is_toggled before (selected_as s before) c && d.highlight no_list_news font (content_of before c).bytes q then not y else y) v before (at p) x) a b
    → Draws holds (λ p x. if is_turned font d v before after (at p) then not x else x) a b
turned_list font d v before after s holds at a b h drawn =
    subst (λ (g : Grid). Draws holds (λ p x. if is_turned font d v before g (at p) then not x else x) a b) (selected_as_is before after s h)
    (Draws-value holds _ _ a b (λ p x. by_cell (at p) x (cell_at before.columns before.rows v (at p))) drawn)
  where
    turns : Point → Cell → Bool
    turns p c = is_toggled before (selected_as s before) c && d.highlight no_list_news font (content_of before c).bytes (in_cell v c p)

    by_cell : (p : Point) (x : Bool) (o : Option Cell) → option_map_or (λ c. if turns p c then not x else x) o x ≡ (if option_map_or (turns p) o false then not x else x)
    by_cell p x None = refl
    by_cell p x (Some c) = refl

over_white : (t : Bool) (f : Bool → Bool) (base d : Bool) → base ≡ false → cond t (f (cond t base d)) (cond t base d) ≡ cond t (f false) d
over_white true f base d e = ap f e
over_white false f base d e = refl

-- cells that are drawn one by one over white show what the list shows
pub shown_list : (old mid : Canvas) (d : ListDefinition) (v : View) (g : Grid) (a b c : Bits) → SameFrame old mid
    → Draws (canvas_holds old) (λ p _. pattern_bit white (canvas_point old p)) a b
    → Draws (canvas_holds mid) (λ p x. shown_value (λ cell q _. cell_bit d (content_of g cell).selected mid.font.now (content_of g cell).bytes q) v g (canvas_point mid p) x) b c
    → Draws (canvas_holds old) (λ p _. list_shown old.font.now d v g (canvas_point old p)) a c
shown_list old mid d v g a b c f first second =
    Draws-over (canvas_holds old) (canvas_holds old) (canvas_holds old) _ (λ p x. shown (old.font.now) (canvas_point old p) x) _ a b c
    (λ p x on. over_white (canvas_holds old p) (shown (old.font.now) (canvas_point old p)) (pattern_bit white (canvas_point old p)) x (pattern_bit-white (canvas_point old p)))
    first
    (Draws-same _ _ _ _ b c (λ p x on i. cond (rect_holds (f.clip i) p && cut_holds ((f.cut i).now) p) (shown ((f.font i).now) (minus p (f.origin i)) x) x) second)
  where
    shown : List ℕ → Point → Bool → Bool
    shown font p x = shown_value (λ cell q _. cell_bit d (content_of g cell).selected font (content_of g cell).bytes q) v g p x
