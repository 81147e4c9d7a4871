-- Lemmas behind the laws.
use Rattle.std.proofs.Common.{◌≡◌, ℕ, zero, suc, ◌+◌, ◌*◌, ◌-◌, ◌<◌, ◌≤◌, List, [], ◌∷◌, ◌++◌, Bool, true, false, cond, length, take, drop, replicate, refl, sym, ap, ◌∙◌, subst, arith, ◌⊎◌, inl, inr, length-append, length-drop}
use Rattle.std.specs.Prelude.{ℤ, pos, ◌+ℤ◌, ◌-ℤ◌, int_le, int_lt, if◌then◌else◌, Option, Some, None}
use Rattle.std.specs.List.{position_from}
use Rattle.std.specs.Option.{option_map}
use Rattle.std.proofs.lemmas.Bool.{cases_lt, cases_eq, false≢true}
use Rattle.std.proofs.lemmas.Bool.Decides.{nat_tests}
use Rattle.std.proofs.lemmas.Grind.{common_steps}
use Rattle.std.proofs.Math.ListN.{length-replicate}
use Rattle.std.proofs.Math.ListN.{get_or-map as map_at}
use Rattle.std.proofs.Math.Nat.{suc-mul, zero-mul, mul-le-mul_right}
use Rattle.std.proofs.lemmas.List.Quantifiers.{position-Some}
use Rattle.std.proofs.lemmas.Iterator.Adapters.{position_from-zero}
use Rattle.std.proofs.lemmas.List.{drop-drop, get_or-set_other, get_or-replicate, get_or-append_right, get_or_append_left, get_or-drop, get_or-take}
use Rattle.list_cells.specs.Contents.{Content, empty_content, deselected_content, deselected_contents, opened, closed, in_rows}
use Rattle.list_cells.specs.declared.block.Block.{Block}
use Rattle.list_cells.specs.declared.cell.Cell.{Cell}
use Rattle.list_cells.specs.declared.click.Click.TheVariants.{SelectsAlone}
use Rattle.list_cells.specs.declared.click.ClickKeys.{ClickKeys}
use Rattle.list_cells.specs.declared.click.SelectionFlags.{SelectionFlags}
use Rattle.list_cells.specs.Blocks.{IsFirst, content_at, block_at, with_place, is_in, smallest, clicked, clicked_cell}
use Rattle.list_cells.specs.Clicks.{click_of, flags_number}
use Rattle.list_cells.specs.Grids.{Grid, IsGrid, place_of, cell_of, content_of, first_from, rows_added, rows_deleted, columns_added, columns_deleted}
use Rattle.list_cells.proofs.BlockLemmas.{smallest_below, smallest_below_suc}

-- ---- the smallest block

with_place_holds : (columns : ℕ) (b : Block) (n : ℕ) → is_in columns (with_place columns b n) n ≡ true
with_place_holds columns b n = grind (arith, nat_tests)

with_place_keeps : (columns : ℕ) (b : Block) (n k : ℕ) → is_in columns b k ≡ true → is_in columns (with_place columns b n) k ≡ true
with_place_keeps columns b n k h = grind (arith, nat_tests)

block_at_holds : (columns n : ℕ) → is_in columns (block_at columns n) n ≡ true
block_at_holds columns n = grind (arith, nat_tests)

-- whether a block lies in another
abbrev lies_in : Block → Block → Type 0
lies_in b c = (c.first_column ≤ b.first_column) × (b.last_column ≤ c.last_column) × (c.first_row ≤ b.first_row) × (b.last_row ≤ c.last_row)

within_of : (columns : ℕ) (b : Block) (n : ℕ) → is_in columns b n ≡ true → lies_in (block_at columns n) b
within_of columns b n h = grind (arith, nat_tests)

with_place_within : (columns : ℕ) (b c : Block) (n : ℕ) → lies_in b c → is_in columns c n ≡ true → lies_in (with_place columns b n) c
with_place_within columns b c n l h = grind (arith, nat_tests)

is_in_within : (columns : ℕ) (b c : Block) (k : ℕ) → lies_in b c → is_in columns b k ≡ true → is_in columns c k ≡ true
is_in_within columns b c k l h = grind (arith, nat_tests)

below_holds_clicked : (columns : ℕ) (cells : List Content) (place n : ℕ) → is_in columns (smallest_below columns cells place n) place ≡ true
below_holds_clicked columns cells place zero = block_at_holds columns place
below_holds_clicked columns cells place (suc n) =
    let was : is_in columns (smallest_below columns cells place n) place ≡ true = below_holds_clicked columns cells place n in
    ap (λ b. is_in columns b place) (smallest_below_suc columns cells place n) ∙ either ((content_at cells n).selected) was
  where
    either : (t : Bool) → is_in columns (smallest_below columns cells place n) place ≡ true → is_in columns (cond t (with_place columns (smallest_below columns cells place n) n) (smallest_below columns cells place n)) place ≡ true
    either true was = with_place_keeps columns (smallest_below columns cells place n) n place was
    either false was = was

pub smallest_holds_clicked : (columns : ℕ) (cells : List Content) (place : ℕ) → is_in columns (smallest columns cells place) place ≡ true
unfolding smallest
smallest_holds_clicked columns cells place = below_holds_clicked columns cells place (length cells)

below_holds : (columns : ℕ) (cells : List Content) (place n k : ℕ) → k < n → (content_at cells k).selected ≡ true → is_in columns (smallest_below columns cells place n) k ≡ true
below_holds columns cells place zero k h sel = absurd (omega arith)
below_holds columns cells place (suc n) k h sel =
    ap (λ b. is_in columns b k) (smallest_below_suc columns cells place n) ∙ either ((content_at cells n).selected) refl (λ l. below_holds columns cells place n k l sel) (cases_lt k n)
  where
    either : (t : Bool) → (content_at cells n).selected ≡ t → (k < n → is_in columns (smallest_below columns cells place n) k ≡ true) → (k < n) ⊎ (n ≤ k) → is_in columns (cond t (with_place columns (smallest_below columns cells place n) n) (smallest_below columns cells place n)) k ≡ true
    either true e was (inl l) = with_place_keeps columns (smallest_below columns cells place n) n k (was l)
    either true e was (inr l) = let here : n ≡ k = omega arith in subst (λ m. is_in columns (with_place columns (smallest_below columns cells place n) n) m ≡ true) here (with_place_holds columns (smallest_below columns cells place n) n)
    either false e was (inl l) = was l
    either false e was (inr l) = let here : n ≡ k = omega arith in absurd (false≢true (sym e ∙ ap (λ m. (content_at cells m).selected) here ∙ sel))

pub smallest_holds : (columns : ℕ) (cells : List Content) (place k : ℕ) → k < length cells → (content_at cells k).selected ≡ true → is_in columns (smallest columns cells place) k ≡ true
unfolding smallest
smallest_holds columns cells place k h sel = below_holds columns cells place (length cells) k h sel

below_within : (columns : ℕ) (cells : List Content) (place : ℕ) (block : Block) (n : ℕ) → n ≤ length cells → is_in columns block place ≡ true
    → ((k : ℕ) → k < length cells → (content_at cells k).selected ≡ true → is_in columns block k ≡ true) → lies_in (smallest_below columns cells place n) block
below_within columns cells place block zero l here all = within_of columns block place here
below_within columns cells place block (suc n) l here all =
    subst (λ b. lies_in b block) (sym (smallest_below_suc columns cells place n))
    (either ((content_at cells n).selected) refl (below_within columns cells place block n (omega arith) here all))
  where
    either : (t : Bool) → (content_at cells n).selected ≡ t → lies_in (smallest_below columns cells place n) block
        → lies_in (cond t (with_place columns (smallest_below columns cells place n) n) (smallest_below columns cells place n)) block
    either true e was = with_place_within columns (smallest_below columns cells place n) block n was (all n (omega arith) e)
    either false e was = was

pub smallest_is_least : (columns : ℕ) (cells : List Content) (place : ℕ) (block : Block) → is_in columns block place ≡ true
    → ((k : ℕ) → k < length cells → (content_at cells k).selected ≡ true → is_in columns block k ≡ true) → (k : ℕ) → is_in columns (smallest columns cells place) k ≡ true → is_in columns block k ≡ true
unfolding smallest
smallest_is_least columns cells place block here all k = is_in_within columns (smallest_below columns cells place (length cells)) block k (below_within columns cells place block (length cells) (omega arith) here all)

-- ---- one cell alone

deselected_at : (cells : List Content) (k : ℕ) → (content_at (deselected_contents cells) k).selected ≡ false
deselected_at cells k = ap (λ (c : Content). c.selected) (map_at deselected_content cells k empty_content)

pub alone : (columns place : ℕ) (cells : List Content) (k : ℕ) → (content_at (clicked SelectsAlone columns place cells) k).selected ≡ true → k ≡ place
unfolding clicked
alone columns place cells k sel = either (cases_eq k place)
  where
    either : (k ≡ place) ⊎ (k ≡ place → ⊥) → k ≡ place
    either (inl e) = e
    either (inr ne) =
        let stays : content_at (clicked SelectsAlone columns place cells) k ≡ content_at (deselected_contents cells) k = get_or-set_other (deselected_contents cells) place k _ empty_content ne in
        absurd (false≢true (sym (deselected_at cells k) ∙ ap (λ (c : Content). c.selected) (sym stays) ∙ sel))

pub only_one_alone : (flags : SelectionFlags) (keys : ClickKeys) (c : Cell) (g : Grid) (k : ℕ) → flags.only_one ≡ true
    → (content_at (clicked_cell flags keys c g).contents k).selected ≡ true → k ≡ place_of g c
only_one_alone flags keys c g k only sel =
    let is : click_of flags keys (content_of g c).selected ≡ SelectsAlone = rw only refl in
    alone g.columns (place_of g c) g.contents k (subst (λ x. (content_at (clicked x g.columns (place_of g c) g.contents) k).selected ≡ true) is sel)

-- ---- a search

option_map_some : {A B : Type 0} (f : A → B) (o : Option A) (y : B) → option_map f o ≡ Some y → (x : A) × (o ≡ Some x) × (f x ≡ y)
option_map_some f None y e = absurd (cc e)
option_map_some f (Some x) y e = (x, refl, cc e)

first_at : (test : Content → Bool) (g : Grid) (place far : ℕ) → position_from test 0 (drop place g.contents) ≡ Some far → IsFirst test g place (place + far)
first_at test g place far e =
    let found = position-Some test (drop place g.contents) far empty_content (position_from-zero test (drop place g.contents) ∙ e) in
    let at : (k : ℕ) → content_at (drop place g.contents) k ≡ content_at g.contents (place + k) = λ k. get_or-drop place g.contents k empty_content in
    record {
      passes = ap test (sym (at far)) ∙ found.1;
      behind = omega arith;
      none_before = λ k l h. let there : place + (k - place) ≡ k = omega arith in
          ap (λ n. test (content_at g.contents n)) (sym there) ∙ ap test (sym (at (k - place))) ∙ found.2 (k - place) (omega arith);
    }

place_of_cell : (g : Grid) (n : ℕ) → 0 < g.columns → place_of g (cell_of g n) ≡ n
place_of_cell g n h = omega arith

pub search_first : (test : Content → Bool) (g : Grid) (from found : Cell) → 0 < g.columns → first_from test g from ≡ Some found → IsFirst test g (place_of g from) (place_of g found)
search_first test g from found h e =
    let s = option_map_some (λ far. cell_of g (place_of g from + far)) (position_from test 0 (drop (place_of g from) g.contents)) found e in
    let place : place_of g found ≡ place_of g from + s.0 = ap (place_of g) (sym s.2) ∙ place_of_cell g (place_of g from + s.0) h in
    subst (λ n. IsFirst test g (place_of g from) n) (sym place) (first_at test g (place_of g from) s.0 s.1)

option_map_none : {A B : Type 0} (f : A → B) (o : Option A) → option_map f o ≡ None → o ≡ None
option_map_none f None e = refl
option_map_none f (Some x) e = absurd (cc e)

none_passes : (test : Content → Bool) (cells : List Content) (i k : ℕ) → position_from test i cells ≡ None → k < length cells → test (content_at cells k) ≡ false
none_passes test [] i k e h = absurd (omega arith)
none_passes test (x ∷ xs) i k e h = either (test x) refl (λ j. none_passes test xs (i + 1) j) e k h
  where
    either : (t : Bool) → test x ≡ t → ((j : ℕ) → position_from test (i + 1) xs ≡ None → j < length xs → test (content_at xs j) ≡ false)
        → cond t (Some i) (position_from test (i + 1) xs) ≡ None → (k : ℕ) → k < length (x ∷ xs) → test (content_at (x ∷ xs) k) ≡ false
    either true is rest e k h = absurd (cc e)
    either false is rest e zero h = is
    either false is rest e (suc k) h = rest k e (omega arith)

pub search_nothing : (test : Content → Bool) (g : Grid) (from : Cell) → first_from test g from ≡ None
    → (k : ℕ) → place_of g from ≤ k → k < length g.contents → test (content_at g.contents k) ≡ false
search_nothing test g from e k l h =
    let nowhere = option_map_none (λ far. cell_of g (place_of g from + far)) (position_from test 0 (drop (place_of g from) g.contents)) e in
    let there : place_of g from + (k - place_of g from) ≡ k = omega arith in
    ap (λ n. test (content_at g.contents n)) (sym there) ∙ ap test (sym (get_or-drop (place_of g from) g.contents (k - place_of g from) empty_content))
    ∙ none_passes test (drop (place_of g from) g.contents) 0 (k - place_of g from) nowhere (omega (arith, length-drop (place_of g from) g.contents))

-- ---- the number of a choice of flags

-- the flags of a number
abbrev flags_of : ℤ → SelectionFlags
flags_of n =
    let only = int_lt n (pos 0) in
    let rest = if only then n +ℤ pos 128 else n in
    let extend = int_le (pos 16) rest in
    let less = if extend then rest -ℤ pos 16 else rest in
    let sense = int_le (pos 4) less in
    record { only_one = only; no_extend = extend; use_sense = sense; no_nil_hilite = int_le (pos 2) (if sense then less -ℤ pos 4 else less) }

flags_again : (o e s h : Bool) → let f : SelectionFlags = record { only_one = o; no_extend = e; use_sense = s; no_nil_hilite = h } in flags_of (flags_number f) ≡ f
flags_again true true true true = refl
flags_again true true true false = refl
flags_again true true false true = refl
flags_again true true false false = refl
flags_again true false true true = refl
flags_again true false true false = refl
flags_again true false false true = refl
flags_again true false false false = refl
flags_again false true true true = refl
flags_again false true true false = refl
flags_again false true false true = refl
flags_again false true false false = refl
flags_again false false true true = refl
flags_again false false true false = refl
flags_again false false false true = refl
flags_again false false false false = refl

pub one_choice : (f g : SelectionFlags) → flags_number f ≡ flags_number g → f ≡ g
one_choice f g e =
    sym (flags_again f.only_one f.no_extend f.use_sense f.no_nil_hilite) ∙ ap flags_of e ∙ flags_again g.only_one g.no_extend g.use_sense g.no_nil_hilite

-- ---- rows and columns that are put in and taken out

length_take : (n : ℕ) (cells : List Content) → n ≤ length cells → length (take n cells) ≡ n
length_take n cells l = grind (arith, common_steps)

opened_at : (at n k : ℕ) (cells : List Content) → at ≤ length cells → at ≤ k → k < at + n → content_at (opened at n cells) k ≡ empty_content
unfolding opened
opened_at at n k cells l from to =
    get_or-append_right (take at cells) (replicate n empty_content ++ drop at cells) at k empty_content (length_take at cells l) from
    ∙ get_or_append_left (replicate n empty_content) (drop at cells) empty_content (k - at) (omega (arith, length-replicate {A = Content}))
    ∙ get_or-replicate n (k - at) empty_content empty_content (omega arith)

opened_before : (at n k : ℕ) (cells : List Content) → at ≤ length cells → k < at → content_at (opened at n cells) k ≡ content_at cells k
unfolding opened
opened_before at n k cells l h =
    get_or_append_left (take at cells) (replicate n empty_content ++ drop at cells) empty_content k (omega (arith, length_take at cells l)) ∙ get_or-take at cells k empty_content h

opened_after : (at n k : ℕ) (cells : List Content) → at ≤ length cells → at ≤ k → content_at (opened at n cells) (k + n) ≡ content_at cells k
unfolding opened
opened_after at n k cells l h =
    get_or-append_right (take at cells) (replicate n empty_content ++ drop at cells) at (k + n) empty_content (length_take at cells l) (omega arith)
    ∙ get_or-append_right (replicate n empty_content) (drop at cells) n (k + n - at) empty_content (length-replicate {A = Content} n empty_content) (omega arith)
    ∙ get_or-drop at cells (k + n - at - n) empty_content ∙ ap (content_at cells) (omega arith)

closed_before : (at n k : ℕ) (cells : List Content) → at ≤ length cells → k < at → content_at (closed at n cells) k ≡ content_at cells k
unfolding closed
closed_before at n k cells l h =
    get_or_append_left (take at cells) (drop (at + n) cells) empty_content k (omega (arith, length_take at cells l)) ∙ get_or-take at cells k empty_content h

closed_after : (at n k : ℕ) (cells : List Content) → at ≤ length cells → at ≤ k → content_at (closed at n cells) k ≡ content_at cells (k + n)
unfolding closed
closed_after at n k cells l h =
    get_or-append_right (take at cells) (drop (at + n) cells) at k empty_content (length_take at cells l) h
    ∙ get_or-drop (at + n) cells (k - at) empty_content ∙ ap (content_at cells) (omega arith)

-- where a cell of a row lies beside the first of another
row_before : (row at across column : ℕ) → row < at → column < across → row * across + column < at * across
row_before row at across column r c = let h : (row + 1) * across ≤ at * across = mul-le-mul_right across (omega arith) in grind arith

row_behind : (row at across column : ℕ) → at ≤ row → at * across ≤ row * across + column
row_behind row at across column r = let h : at * across ≤ row * across = mul-le-mul_right across r in omega arith

-- the rows above one are all there
rows_there : (g : Grid) (at : ℕ) → IsGrid g → at ≤ g.rows → at * g.columns ≤ length g.contents
rows_there g at is l = let h : at * g.columns ≤ g.rows * g.columns = mul-le-mul_right g.columns l in omega (arith, is.shape)

pub added_row_empty : (g : Grid) (at n row column : ℕ) → IsGrid g → at ≤ g.rows → at ≤ row → row < at + n → column < g.columns
    → content_at (rows_added at n g).contents (row * g.columns + column) ≡ empty_content
added_row_empty g at n row column is l from to c =
    let end : row * g.columns + column < (at + n) * g.columns = row_before row (at + n) g.columns column to c in
    opened_at (at * g.columns) (n * g.columns) (row * g.columns + column) g.contents (rows_there g at is l) (row_behind row at g.columns column from) (grind arith)

pub row_above_kept : (g : Grid) (at n row column : ℕ) → IsGrid g → at ≤ g.rows → row < at → column < g.columns
    → content_at (rows_added at n g).contents (row * g.columns + column) ≡ content_at g.contents (row * g.columns + column)
row_above_kept g at n row column is l r c =
    opened_before (at * g.columns) (n * g.columns) (row * g.columns + column) g.contents (rows_there g at is l) (row_before row at g.columns column r c)

pub row_below_pushed : (g : Grid) (at n row column : ℕ) → IsGrid g → at ≤ g.rows → at ≤ row
    → content_at (rows_added at n g).contents ((row + n) * g.columns + column) ≡ content_at g.contents (row * g.columns + column)
row_below_pushed g at n row column is l r =
    ap (content_at (rows_added at n g).contents) (grind arith)
    ∙ opened_after (at * g.columns) (n * g.columns) (row * g.columns + column) g.contents (rows_there g at is l) (row_behind row at g.columns column r)

pub row_above_stays : (g : Grid) (at n row column : ℕ) → IsGrid g → at ≤ g.rows → row < at → column < g.columns
    → content_at (rows_deleted at n g).contents (row * g.columns + column) ≡ content_at g.contents (row * g.columns + column)
row_above_stays g at n row column is l r c =
    closed_before (at * g.columns) (n * g.columns) (row * g.columns + column) g.contents (rows_there g at is l) (row_before row at g.columns column r c)

pub row_below_moves : (g : Grid) (at n row column : ℕ) → IsGrid g → at ≤ g.rows → at ≤ row → column < g.columns
    → content_at (rows_deleted at n g).contents (row * g.columns + column) ≡ content_at g.contents ((row + n) * g.columns + column)
row_below_moves g at n row column is l r c =
    closed_after (at * g.columns) (n * g.columns) (row * g.columns + column) g.contents (rows_there g at is l) (row_behind row at g.columns column r)
    ∙ ap (content_at g.contents) (omega arith)

in_row : (width less : ℕ) (change : List Content → List Content) → ((xs : List Content) → length xs ≡ width → length (change xs) ≡ less)
    → (rows row column : ℕ) (cells : List Content) → length cells ≡ rows * width → row < rows → column < less
    → content_at (in_rows width change rows cells) (row * less + column) ≡ content_at (change (take width (drop (row * width) cells))) column
unfolding in_rows
in_row width less change len zero row column cells e r c = absurd (omega arith)
in_row width less change len (suc rows) zero column cells e r c =
    let all : suc rows * width ≡ rows * width + width = suc-mul rows width in
    let long : length (change (take width cells)) ≡ less = len (take width cells) (length_take width cells (omega arith)) in
    ap (content_at (change (take width cells) ++ in_rows width change rows (drop width cells))) (ap (λ n. n + column) (zero-mul less) ∙ omega arith)
    ∙ get_or_append_left (change (take width cells)) (in_rows width change rows (drop width cells)) empty_content column (omega arith)
    ∙ ap (λ n. content_at (change (take width (drop n cells))) column) (sym (zero-mul width))
in_row width less change len (suc rows) (suc row) column cells e r c =
    let all : suc rows * width ≡ rows * width + width = suc-mul rows width in
    let long : length (change (take width cells)) ≡ less = len (take width cells) (length_take width cells (omega arith)) in
    let more : suc row * less ≡ row * less + less = suc-mul row less in
    let wide : suc row * width ≡ row * width + width = suc-mul row width in
    get_or-append_right (change (take width cells)) (in_rows width change rows (drop width cells)) less (suc row * less + column) empty_content long (omega arith)
    ∙ ap (content_at (in_rows width change rows (drop width cells))) (omega arith)
    ∙ in_row width less change len rows row column (drop width cells) (omega (arith, length-drop width cells)) (omega arith) c
    ∙ ap (λ ys. content_at (change (take width ys)) column) (drop-drop (row * width) width cells ∙ ap (λ n. drop n cells) (omega arith))

length_closed : (at n : ℕ) (cells : List Content) → at + n ≤ length cells → length (closed at n cells) + n ≡ length cells
unfolding closed
length_closed at n cells l = omega (arith, length-append (take at cells) (drop (at + n) cells), length_take at cells (omega arith), length-drop (at + n) cells)

row_long : (g : Grid) (row : ℕ) → IsGrid g → row < g.rows → g.columns ≤ length (drop (row * g.columns) g.contents)
row_long g row is r =
    let h : (row + 1) * g.columns ≤ g.rows * g.columns = mul-le-mul_right g.columns (omega arith) in
    let e : (row + 1) * g.columns ≡ row * g.columns + g.columns = omega arith in
    omega (arith, is.shape, length-drop (row * g.columns) g.contents)

-- a row by itself has its columns
row_wide : (g : Grid) (at row : ℕ) → IsGrid g → at ≤ g.columns → row < g.rows → at ≤ length (take g.columns (drop (row * g.columns) g.contents))
row_wide g at row is l r = omega (arith, length_take g.columns (drop (row * g.columns) g.contents) (row_long g row is r))

-- and is a part of all cells
row_part : (g : Grid) (row column : ℕ) → column < g.columns → content_at (take g.columns (drop (row * g.columns) g.contents)) column ≡ content_at g.contents (row * g.columns + column)
row_part g row column c =
    get_or-take g.columns (drop (row * g.columns) g.contents) column empty_content c ∙ get_or-drop (row * g.columns) g.contents column empty_content

narrowed : (g : Grid) (at n row column : ℕ) → IsGrid g → at + n ≤ g.columns → row < g.rows → column + n < g.columns
    → content_at (columns_deleted at n g).contents (row * (g.columns - n) + column) ≡ content_at (closed at n (take g.columns (drop (row * g.columns) g.contents))) column
narrowed g at n row column is l r c =
    in_row g.columns (g.columns - n) (closed at n) (λ xs e. omega (arith, length_closed at n xs (omega arith))) g.rows row column g.contents is.shape r (omega arith)

pub column_left_stays : (g : Grid) (at n row column : ℕ) → IsGrid g → at + n ≤ g.columns → row < g.rows → column < at
    → content_at (columns_deleted at n g).contents (row * (g.columns - n) + column) ≡ content_at g.contents (row * g.columns + column)
column_left_stays g at n row column is l r c =
    narrowed g at n row column is l r (omega arith)
    ∙ closed_before at n column (take g.columns (drop (row * g.columns) g.contents)) (row_wide g at row is (omega arith) r) c
    ∙ row_part g row column (omega arith)

pub column_right_moves : (g : Grid) (at n row column : ℕ) → IsGrid g → at + n ≤ g.columns → row < g.rows → at ≤ column → column + n < g.columns
    → content_at (columns_deleted at n g).contents (row * (g.columns - n) + column) ≡ content_at g.contents (row * g.columns + (column + n))
column_right_moves g at n row column is l r from c =
    narrowed g at n row column is l r c
    ∙ closed_after at n column (take g.columns (drop (row * g.columns) g.contents)) (row_wide g at row is (omega arith) r) from
    ∙ row_part g row (column + n) c

length_opened : (at n : ℕ) (cells : List Content) → at ≤ length cells → length (opened at n cells) ≡ length cells + n
unfolding opened
length_opened at n cells l = omega (
  arith,
  length-append (take at cells) (replicate n empty_content ++ drop at cells),
  length-append (replicate n empty_content) (drop at cells),
  length-replicate {A = Content} n empty_content,
  length_take at cells l,
  length-drop at cells,
)

widened : (g : Grid) (at n row column : ℕ) → IsGrid g → at ≤ g.columns → row < g.rows → column < g.columns + n
    → content_at (columns_added at n g).contents (row * (g.columns + n) + column) ≡ content_at (opened at n (take g.columns (drop (row * g.columns) g.contents))) column
widened g at n row column is l r c =
    in_row g.columns (g.columns + n) (opened at n) (λ xs e. omega (arith, length_opened at n xs (omega arith))) g.rows row column g.contents is.shape r c

pub added_column_empty : (g : Grid) (at n row column : ℕ) → IsGrid g → at ≤ g.columns → row < g.rows → at ≤ column → column < at + n
    → content_at (columns_added at n g).contents (row * (g.columns + n) + column) ≡ empty_content
added_column_empty g at n row column is l r from to =
    widened g at n row column is l r (omega arith) ∙ opened_at at n column (take g.columns (drop (row * g.columns) g.contents)) (row_wide g at row is l r) from to

pub column_left_kept : (g : Grid) (at n row column : ℕ) → IsGrid g → at ≤ g.columns → row < g.rows → column < at
    → content_at (columns_added at n g).contents (row * (g.columns + n) + column) ≡ content_at g.contents (row * g.columns + column)
column_left_kept g at n row column is l r c =
    widened g at n row column is l r (omega arith) ∙ opened_before at n column (take g.columns (drop (row * g.columns) g.contents)) (row_wide g at row is l r) c
    ∙ row_part g row column (omega arith)

pub column_right_pushed : (g : Grid) (at n row column : ℕ) → IsGrid g → at ≤ g.columns → row < g.rows → at ≤ column → column < g.columns
    → content_at (columns_added at n g).contents (row * (g.columns + n) + (column + n)) ≡ content_at g.contents (row * g.columns + column)
column_right_pushed g at n row column is l r from c =
    widened g at n row (column + n) is l r (omega arith) ∙ opened_after at n column (take g.columns (drop (row * g.columns) g.contents)) (row_wide g at row is l r) from
    ∙ row_part g row column c
