-- Cells, drawn one after another.
use Rattle.std.proofs.Common.{◌≡◌, ◌≤◌, ◌<◌, ℕ, ◌+◌, Bool, true, false, ◌&&◌, ◌||◌, cond, ℤ, pos, negsuc, ◌+ℤ◌, ◌-ℤ◌, ◌≤ℤ◌, ◌<ℤ◌, List, Option, Some, None, refl, sym, ap, ◌∙◌, subst, SFits, w32, arith}
use Rattle.std.specs.Prelude.{nat_abs, int_le, int_lt}
use Rattle.std.specs.Option.{option_map_or}
use Rattle.std.specs.Ordering.{int_eq}
use Rattle.std.proofs.lemmas.Bool.{and_parts, false≢true}
use Rattle.std.proofs.lemmas.Int.{ints}
use Rattle.tb_geom.specs.declared.point.Point.{Point}
use Rattle.tb_geom.specs.declared.rect.Rect.{Rect}
use Rattle.tb_geom.specs.Points.{minus, plus}
use Rattle.tb_geom.specs.Rects.{between, is_coordinate, in_plane, rect_holds}
use Rattle.bit_map.specs.Bits.{Bits}
use Rattle.bit_blit.specs.Draws.{Draws}
use Rattle.bit_blit.proofs.DrawsLemmas.{Draws-same, Draws-where, Draws-more, Draws-none}
use Rattle.scan_region.specs.Cuts.{cut_holds}
use Rattle.draw_port.specs.declared.canvas.Canvas.{Canvas}
use Rattle.draw_port.specs.Origins.{is_near_origin}
use Rattle.draw_port.specs.Canvases.{canvas_holds, canvas_point, SameFrame}
use Rattle.list_cells.specs.declared.cell.Cell.{Cell}
use Rattle.list_cells.specs.Grids.{Grid, is_cell}
use Rattle.list_view.specs.Axes.{IsNear}
use Rattle.list_view.specs.Views.{View, IsView, cell_rect, cell_at}
use Rattle.list_view.proofs.LawLemmas.{holder_is_found, found_is_cell}
use Rattle.list_view.specs.Shown.{in_cell}
use Rattle.list_view.specs.Walks.{CellValue, shown_value, shows_some, is_in_row, AreDrawn}

-- ---- a canvas for a cell

-- the place of a corner that lies near is one of 32 bits, and near enough for a canvas
pub sum_fits : (a b : ℤ) → is_coordinate a ≡ true → IsNear b → SFits w32 (a +ℤ b)
sum_fits a b e near =
    let least = near.least in
    let most = near.most in
    let low : negsuc 16383 ≤ℤ a = grind (arith, ints) in
    let high : a ≤ℤ pos 16383 = grind (arith, ints) in
    search (arith, ints)

sum_is_near : (a b : ℤ) → is_coordinate a ≡ true → IsNear b → between (negsuc 999999999) (a +ℤ b) (pos 1000000000) ≡ true
sum_is_near a b e near =
    let least = near.least in
    let most = near.most in
    grind (arith, ints)

pub plus_is_near : (origin corner : Point) → in_plane origin ≡ true → IsNear corner.h → IsNear corner.v → is_near_origin (plus origin corner) ≡ true
plus_is_near origin corner e across down =
    let both = and_parts (is_coordinate origin.h) (is_coordinate origin.v) e in
    λ i. sum_is_near origin.h corner.h both.0 across i && sum_is_near origin.v corner.v both.1 down i

minus_sum : (x a b : ℤ) → x -ℤ (a +ℤ b) ≡ (x -ℤ a) -ℤ b
minus_sum x a b = omega (arith, ints)

-- seen from a corner of the window, as from the window and then from the corner
minus_twice : (p origin corner : Point) → minus p (plus origin corner) ≡ minus (minus p origin) corner
minus_twice p origin corner = λ i. record { h = minus_sum p.h origin.h corner.h i; v = minus_sum p.v origin.v corner.v i }

turned : (k r u : Bool) → ((k && r) && u) ≡ ((k && u) && r)
turned true true true = refl
turned true true false = refl
turned true false true = refl
turned true false false = refl
turned false r u = refl

-- what is drawn on a cell's own canvas is drawn on the window's, in the cell's rectangle
pub cell_placed : (c : Canvas) (clip rect : Rect) (origin corner : Point) (value : Point → Bool → Bool) (old new : Bits)
    → ((p : Point) → rect_holds clip p ≡ (rect_holds c.clip p && rect_holds rect (minus p c.origin))) → origin ≡ plus c.origin corner
    → Draws (λ p. rect_holds clip p && cut_holds c.cut.now p) (λ p d. value (minus p origin) d) old new
    → Draws (λ p. canvas_holds c p && rect_holds rect (canvas_point c p)) (λ p d. value (minus (canvas_point c p) corner) d) old new
cell_placed c clip rect origin corner value old new shared lies drawn = Draws-same _ _ _ _ old new (λ p d on. one p d) drawn
  where
    one : (p : Point) (d : Bool) → cond (rect_holds clip p && cut_holds c.cut.now p) (value (minus p origin) d) d
        ≡ cond (canvas_holds c p && rect_holds rect (canvas_point c p)) (value (minus (canvas_point c p) corner) d) d
    one p d =
        let at : minus p origin ≡ minus (canvas_point c p) corner = ap (minus p) lies ∙ minus_twice p c.origin corner in
        let there : (rect_holds clip p && cut_holds c.cut.now p) ≡ (canvas_holds c p && rect_holds rect (canvas_point c p)) =
        ap (λ (b : Bool). b && cut_holds c.cut.now p) (shared p) ∙ turned (rect_holds c.clip p) (rect_holds rect (minus p c.origin)) (cut_holds c.cut.now p) in
        λ i. cond (there i) (value (at i) d) d

-- of what a canvas has no pixel, nothing is drawn
pub drawn_nowhere : (c : Canvas) (clip rect : Rect) (value : Point → Bool → Bool)
    → ((p : Point) → rect_holds clip p ≡ (rect_holds c.clip p && rect_holds rect (minus p c.origin))) → ((p : Point) → rect_holds clip p ≡ false)
    → Draws (λ p. canvas_holds c p && rect_holds rect (canvas_point c p)) value c.map.now c.map.now
drawn_nowhere c clip rect value shared none =
    Draws-none _ value c.map.now
    (λ p on. sym (turned (rect_holds c.clip p) (rect_holds rect (minus p c.origin)) (cut_holds c.cut.now p))
    ∙ ap (λ (b : Bool). b && cut_holds c.cut.now p) (sym (shared p) ∙ none p))

-- ---- the cell at a point

-- a cell and another are the same
abbrev pub is_same : Cell → Cell → Bool
is_same c e = int_eq e.column c.column && int_eq e.row c.row

int_eq-is : (x y : ℤ) → int_eq x y ≡ true → x ≡ y
int_eq-is x y e = grind (arith, ints)

int_eq-same : (x : ℤ) → int_eq x x ≡ true
int_eq-same x = grind (arith, ints)

same_is : (c e : Cell) → is_same c e ≡ true → e ≡ c
same_is c e same =
    let both = and_parts (int_eq e.column c.column) (int_eq e.row c.row) same in
    λ i. record { column = int_eq-is e.column c.column both.0 i; row = int_eq-is e.row c.row both.1 i }

same_refl : (c : Cell) → is_same c c ≡ true
same_refl c = λ i. int_eq-same c.column i && int_eq-same c.row i

-- a cell that is found at a point lies in its row and its column of the list, and holds the point
pub record IsThere (v : View) (g : Grid) (e : Cell) (p : Point) : Type 0 where
  pub holds : rect_holds (cell_rect v e) p ≡ true
  pub column : e.column <ℤ pos g.columns
  pub row : e.row <ℤ pos g.rows

before_is : (x : ℤ) (n : ℕ) → (int_le (pos 0) x && int_lt x (pos n)) ≡ true → x <ℤ pos n
before_is x n e = grind (arith, ints)

pub is_there : (v : View) (g : Grid) (e : Cell) (p : Point) → IsView v → cell_at g.columns g.rows v p ≡ Some e → IsThere v g e p
is_there v g e p h found =
    let cell = found_is_cell v g e p h found in
    let both = and_parts (int_le (pos 0) e.column && int_lt e.column (pos g.columns)) (int_le (pos 0) e.row && int_lt e.row (pos g.rows)) cell in
    record {
      holds = (holder_is_found v g e p h cell).0 found;
      column = before_is e.column g.columns both.0;
      row = before_is e.row g.rows both.1;
    }

-- a cell that is drawn in its rectangle is drawn where it shows
pub cell_drawn : (c : Canvas) (value : List ℕ → CellValue) (v : View) (g : Grid) (cell : Cell) (old new : Bits) → IsView v → is_cell g cell ≡ true
    → Draws (λ p. canvas_holds c p && rect_holds (cell_rect v cell) (canvas_point c p)) (λ p d. value c.font.now cell (in_cell v cell (canvas_point c p)) d) old new
    → AreDrawn c value v g (is_same cell) old new
cell_drawn c value v g cell old new h is drawn = Draws-same _ _ _ _ old new (λ p d on. one (canvas_holds c p) (canvas_point c p) d (cell_at g.columns g.rows v (canvas_point c p)) refl (rect_holds (cell_rect v cell) (canvas_point c p)) refl) drawn
  where
    Goal : Bool → Point → Bool → Option Cell → Bool → Type 0
    Goal k q d o b = cond (k && b) (value c.font.now cell (in_cell v cell q) d) d
        ≡ cond (k && option_map_or (is_same cell) o false) (option_map_or (λ e. value c.font.now e (in_cell v e q) d) o d) d

    found : (q : Point) → rect_holds (cell_rect v cell) q ≡ true → cell_at g.columns g.rows v q ≡ Some cell
    found q e = (holder_is_found v g cell q h is).1 e

    in_both : (k : Bool) (q : Point) (d : Bool) (e : Cell) → e ≡ cell → Goal k q d (Some e) true
    in_both k q d e same =
        (λ i. cond (k && sym (same_refl cell) i) (value c.font.now cell (in_cell v cell q) d) d)
        ∙ (λ i. cond (k && is_same cell (sym same i)) (value c.font.now (sym same i) (in_cell v (sym same i) q) d) d)

    in_none : (k : Bool) (q : Point) (d : Bool) (e : Cell) → is_same cell e ≡ false → Goal k q d (Some e) false
    in_none k q d e other = neither k _ _ d ∙ ap (λ (t : Bool). cond (k && t) (value c.font.now e (in_cell v e q) d) d) (sym other)
      where
        neither : (k x y d : Bool) → cond (k && false) x d ≡ cond (k && false) y d
        neither true x y d = refl
        neither false x y d = refl

    one : (k : Bool) (q : Point) (d : Bool) (o : Option Cell) → cell_at g.columns g.rows v q ≡ o → (b : Bool) → rect_holds (cell_rect v cell) q ≡ b → Goal k q d o b
    one k q d None none true e = absurd (cc (none, found q e))
    one true q d None none false e = refl
    one false q d None none false e = refl
    one k q d (Some x) at true e = in_both k q d x (let both : Some x ≡ Some cell = sym at ∙ found q e in cc)
    one k q d (Some x) at false e = by_same (is_same cell x) refl
      where
        by_same : (t : Bool) → is_same cell x ≡ t → Goal k q d (Some x) false
        by_same false other = in_none k q d x other
        by_same true same =
            let is_x : x ≡ cell = same_is cell x same in
            let holds = (is_there v g x q h at).holds in
            absurd (false≢true (sym e ∙ ap (λ (y : Cell). rect_holds (cell_rect v y) q) (sym is_x) ∙ holds))

-- ---- one cell after another

-- a point seen on a canvas whose frame is another's is seen on that one
frame_cells : (old mid : Canvas) (value : List ℕ → CellValue) (v : View) (g : Grid) (is : Cell → Bool) (p : Point) (d : Bool) → SameFrame old mid
    → cond (canvas_holds mid p && shows_some is v g (canvas_point mid p)) (shown_value (value mid.font.now) v g (canvas_point mid p) d) d
    ≡ cond (canvas_holds old p && shows_some is v g (canvas_point old p)) (shown_value (value old.font.now) v g (canvas_point old p) d) d
frame_cells old mid value v g is p d f =
    λ i. cond ((rect_holds (f.clip i) p && cut_holds ((f.cut i).now) p) && shows_some is v g (minus p (f.origin i))) (shown_value (value ((f.font i).now)) v g (minus p (f.origin i)) d) d

-- cells that are drawn beside others, and none of them is one of those
pub cells_more : (old mid : Canvas) (value : List ℕ → CellValue) (v : View) (g : Grid) (these those all : Cell → Bool) (a b c : Bits) → SameFrame old mid
    → ((e : Cell) → those e ≡ true → these e ≡ false) → ((e : Cell) → all e ≡ (those e || these e))
    → AreDrawn old value v g these a b → AreDrawn mid value v g those b c → AreDrawn old value v g all a c
cells_more old mid value v g these those all a b c frame apart either first second =
    Draws-more _ _ _ _ a b c (λ p. both_apart (canvas_holds old p) (cell_at g.columns g.rows v (canvas_point old p))) (λ p. in_either (canvas_holds old p) (cell_at g.columns g.rows v (canvas_point old p))) first
    (Draws-same _ _ _ _ b c (λ p d on. frame_cells old mid value v g those p d frame) second)
  where
    both_apart : (k : Bool) (o : Option Cell) → (k && option_map_or those o false) ≡ true → (k && option_map_or these o false) ≡ false
    both_apart false o e = refl
    both_apart true None e = refl
    both_apart true (Some x) e = apart x e

    in_either : (k : Bool) (o : Option Cell) → (k && option_map_or all o false) ≡ ((k && option_map_or those o false) || (k && option_map_or these o false))
    in_either false o = refl
    in_either true None = refl
    in_either true (Some x) = either x

-- cells of which none shows
pub cells_none : (c : Canvas) (value : List ℕ → CellValue) (v : View) (g : Grid) (is : Cell → Bool) (a : Bits) → IsView v → ((e : Cell) (p : Point) → IsThere v g e p → is e ≡ false) → AreDrawn c value v g is a a
cells_none c value v g is a h none = Draws-none _ _ a (λ p on. one (canvas_holds c p) (canvas_point c p) (cell_at g.columns g.rows v (canvas_point c p)) refl)
  where
    one : (k : Bool) (p : Point) (o : Option Cell) → cell_at g.columns g.rows v p ≡ o → (k && option_map_or is o false) ≡ false
    one false p o e = refl
    one true p None e = refl
    one true p (Some x) e = none x p (is_there v g x p h e)

-- cells that are the same where they show
pub cells_same : (c : Canvas) (value : List ℕ → CellValue) (v : View) (g : Grid) (these those : Cell → Bool) (a b : Bits) → IsView v
    → ((e : Cell) (p : Point) → IsThere v g e p → these e ≡ those e) → AreDrawn c value v g these a b → AreDrawn c value v g those a b
cells_same c value v g these those a b h same drawn = Draws-where _ _ _ a b (λ p on. ap (λ t. canvas_holds c p && t) (one (canvas_point c p) (cell_at g.columns g.rows v (canvas_point c p)) refl)) drawn
  where
    one : (p : Point) (o : Option Cell) → cell_at g.columns g.rows v p ≡ o → option_map_or these o false ≡ option_map_or those o false
    one p None e = refl
    one p (Some x) e = same x p (is_there v g x p h e)

-- ---- the cells of a row, and rows

-- whether a cell is in a row, before a column; and whether it is in a row before one
abbrev pub is_in_part : ℕ → ℕ → Cell → Bool
is_in_part row k e = is_in_row row e && int_lt e.column (pos k)

abbrev pub is_above : ℕ → Cell → Bool
is_above k e = int_lt e.row (pos k)

-- how far the cells reach that show, of so many columns and of so many rows
abbrev pub AcrossReach : View → ℕ → ℕ → Type 0
AcrossReach v n end = (cell : Cell) (p : Point) → cell.column <ℤ pos n → rect_holds (cell_rect v cell) p ≡ true → (v.first.column ≤ℤ cell.column) × (cell.column <ℤ pos end)

abbrev pub DownReach : View → ℕ → ℕ → Type 0
DownReach v n end = (cell : Cell) (p : Point) → cell.row <ℤ pos n → rect_holds (cell_rect v cell) p ≡ true → (v.first.row ≤ℤ cell.row) × (cell.row <ℤ pos end)

not_before : (z first from : ℤ) → pos 0 ≤ℤ from → first ≡ from → from ≤ℤ z → int_lt z (pos (nat_abs first)) ≡ false
not_before z first from least e l = grind (arith, ints)

is_before : (z : ℤ) (end k : ℕ) → z <ℤ pos end → end ≤ k → int_lt z (pos k) ≡ true
is_before z end k l m = grind (arith, ints)

one_more : (z : ℤ) (k : ℕ) → int_lt z (pos (k + 1)) ≡ (int_eq z (pos k) || int_lt z (pos k))
one_more z k = grind (arith, ints)

itself_not : (k : ℕ) → int_lt (pos k) (pos k) ≡ false
itself_not k = grind (arith, ints)

and_false : (b : Bool) → (b && false) ≡ false
and_false true = refl
and_false false = refl

and_true : (b : Bool) → (b && true) ≡ b
and_true true = refl
and_true false = refl

pub row_begun : (c : Canvas) (value : List ℕ → CellValue) (v : View) (g : Grid) (row n end : ℕ) (first : ℤ) (a : Bits) → IsView v → n ≡ g.columns → first ≡ v.first.column → AcrossReach v n end
    → AreDrawn c value v g (is_in_part row (nat_abs first)) a a
row_begun c value v g row n end first a h many is reaches =
    cells_none c value v g (is_in_part row (nat_abs first)) a h
    (λ e p there.
    let from = (reaches e p (subst (λ (m : ℕ). e.column <ℤ pos m) (sym many) there.column) there.holds).0 in
    ap (λ (b : Bool). is_in_row row e && b) (not_before e.column first v.first.column h.first.column.least is from) ∙ and_false (is_in_row row e))

pub row_ended : (c : Canvas) (value : List ℕ → CellValue) (v : View) (g : Grid) (row n end k : ℕ) (a b : Bits) → IsView v → n ≡ g.columns → AcrossReach v n end → end ≤ k
    → AreDrawn c value v g (is_in_part row k) a b → AreDrawn c value v g (is_in_row row) a b
row_ended c value v g row n end k a b h many reaches all drawn =
    cells_same c value v g (is_in_part row k) (is_in_row row) a b h
    (λ e p there.
    let before = (reaches e p (subst (λ (m : ℕ). e.column <ℤ pos m) (sym many) there.column) there.holds).1 in
    ap (λ (t : Bool). is_in_row row e && t) (is_before e.column end k before all) ∙ and_true (is_in_row row e))
    drawn

-- the cell of a column more
pub row_more : (old mid : Canvas) (value : List ℕ → CellValue) (v : View) (g : Grid) (row k : ℕ) (cell : Cell) (a b c : Bits) → IsView v → is_cell g cell ≡ true → cell ≡ record { column = pos k; row = pos row }
    → SameFrame old mid → AreDrawn old value v g (is_in_part row k) a b
    → Draws (λ p. canvas_holds mid p && rect_holds (cell_rect v cell) (canvas_point mid p)) (λ p d. value mid.font.now cell (in_cell v cell (canvas_point mid p)) d) b c
    → AreDrawn old value v g (is_in_part row (k + 1)) a c
row_more old mid value v g row k cell a b c h listed is frame drawn over =
    cells_more old mid value v g (is_in_part row k) (is_same cell) (is_in_part row (k + 1)) a b c frame apart either drawn (cell_drawn mid value v g cell b c h listed over)
  where
    apart : (e : Cell) → is_same cell e ≡ true → is_in_part row k e ≡ false
    apart e same =
        ap (is_in_part row k) (same_is cell e same ∙ is)
        ∙ ap (λ (t : Bool). is_in_row row (record { column = pos k; row = pos row }) && t) (itself_not k) ∙ and_false (is_in_row row (record { column = pos k; row = pos row }))

    split : (r x y : Bool) → (r && (x || y)) ≡ ((x && r) || (r && y))
    split true true y = refl
    split true false y = refl
    split false true y = refl
    split false false y = refl

    either : (e : Cell) → is_in_part row (k + 1) e ≡ (is_same cell e || is_in_part row k e)
    either e =
        ap (λ (t : Bool). is_in_row row e && t) (one_more e.column k) ∙ split (is_in_row row e) (int_eq e.column (pos k)) (int_lt e.column (pos k))
        ∙ ap (λ (d : Cell). is_same d e || is_in_part row k e) (sym is)

-- a cell of a row and a column of the list is the list's
pub is_listed : (g : Grid) (k row n end : ℕ) (cell : Cell) → cell ≡ record { column = pos k; row = pos row } → k < end → end ≤ n → n ≡ g.columns → row < g.rows → is_cell g cell ≡ true
is_listed g k row n end cell is l within many m =
    ap (is_cell g) is ∙ (λ i. (counted k i && below k g.columns (omega (arith, many)) i) && (counted row i && below row g.rows m i))
  where
    counted : (x : ℕ) → int_le (pos 0) (pos x) ≡ true
    counted x = grind (arith, ints)

    below : (x y : ℕ) → x < y → int_lt (pos x) (pos y) ≡ true
    below x y l = grind (arith, ints)

pub rows_begun : (c : Canvas) (value : List ℕ → CellValue) (v : View) (g : Grid) (n end : ℕ) (first : ℤ) (a : Bits) → IsView v → n ≡ g.rows → first ≡ v.first.row → DownReach v n end
    → AreDrawn c value v g (is_above (nat_abs first)) a a
rows_begun c value v g n end first a h many is reaches =
    cells_none c value v g (is_above (nat_abs first)) a h
    (λ e p there.
    let from = (reaches e p (subst (λ (m : ℕ). e.row <ℤ pos m) (sym many) there.row) there.holds).0 in
    not_before e.row first v.first.row h.first.row.least is from)

-- a row more
pub rows_more : (old mid : Canvas) (value : List ℕ → CellValue) (v : View) (g : Grid) (k : ℕ) (a b c : Bits) → SameFrame old mid
    → AreDrawn old value v g (is_above k) a b → AreDrawn mid value v g (is_in_row k) b c → AreDrawn old value v g (is_above (k + 1)) a c
rows_more old mid value v g k a b c frame first second = cells_more old mid value v g (is_above k) (is_in_row k) (is_above (k + 1)) a b c frame apart (λ e. one_more e.row k) first second
  where
    apart : (e : Cell) → is_in_row k e ≡ true → is_above k e ≡ false
    apart e in_row = ap (λ (z : ℤ). int_lt z (pos k)) (int_eq-is e.row (pos k) in_row) ∙ itself_not k

-- all rows that show were drawn, and where no cell shows nothing
pub rows_ended : (c : Canvas) (value : List ℕ → CellValue) (v : View) (g : Grid) (n end k : ℕ) (a b : Bits) → IsView v → n ≡ g.rows → DownReach v n end → end ≤ k
    → AreDrawn c value v g (is_above k) a b → Draws (canvas_holds c) (λ p d. shown_value (value c.font.now) v g (canvas_point c p) d) a b
rows_ended c value v g n end k a b h many reaches all drawn = Draws-same _ _ _ _ a b (λ p d on. one (canvas_holds c p) (canvas_point c p) d (cell_at g.columns g.rows v (canvas_point c p)) refl) drawn
  where
    one : (t : Bool) (p : Point) (d : Bool) (o : Option Cell) → cell_at g.columns g.rows v p ≡ o
        → cond (t && option_map_or (is_above k) o false) (option_map_or (λ e. value c.font.now e (in_cell v e p) d) o d) d ≡ cond t (option_map_or (λ e. value c.font.now e (in_cell v e p) d) o d) d
    one t p d None e = ap (λ (u : Bool). cond u d d) (and_false t) ∙ none t
      where
        none : (t : Bool) → d ≡ cond t d d
        none true = refl
        none false = refl
    one t p d (Some x) e =
        let there = is_there v g x p h e in
        let before = (reaches x p (subst (λ (m : ℕ). x.row <ℤ pos m) (sym many) there.row) there.holds).1 in
        ap (λ (u : Bool). cond u (value c.font.now x (in_cell v x p) d) d) (ap (λ (u : Bool). t && u) (is_before x.row end k before all) ∙ and_true t)
