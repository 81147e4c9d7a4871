-- Polygons: their points and edges in two parts, and past their last point.
use Rattle.std.proofs.Common.{◌≡◌, ◌&&◌, ◌||◌, Bool, true, false, ℕ, ◌-◌, ◌≤◌, List, [], ◌∷◌, ◌++◌, length, take, drop, slice_index_or, ℤ, pos, ◌≤ℤ◌, refl, sym, ap, ◌∙◌, arith}
use Rattle.std.specs.Prelude.{⊤, int_le}
use Rattle.std.proofs.lemmas.Int.{ints}
use Rattle.std.proofs.lemmas.Bool.{and_parts, and_from}
use Rattle.std.proofs.lemmas.List.{take-append-drop, take_rest}
use Rattle.std.specs.List.{list_all}
use Rattle.tb_geom.specs.declared.point.Point.{Point}
use Rattle.tb_geom.specs.Rects.{between, in_plane, is_coordinate}
use Rattle.region_rows.specs.Edges.{differ}
use Rattle.region_bytes.proofs.Rows.{differ_assoc}
use Rattle.shape_strips.specs.declared.pen.Pen.{Pen}
use Rattle.shape_strips.specs.Bands.{passes, edge_turns}
use Rattle.shape_strips.specs.Lines.{line_holds}
use Rattle.shape_strips.proofs.RangeLemmas.{coordinate_high}
use Rattle.shape_strips.proofs.BandLemmas.{passes_right}
use Rattle.shape_region.specs.Polygons.{odd_edges, polygon_holds, some_line, frame_polygon_holds}

pub or_turned : (a b : Bool) → (a || b) ≡ (b || a)
or_turned true true = refl
or_turned true false = refl
or_turned false true = refl
or_turned false false = refl

-- ---- lists of points in two parts

-- a list before one of its items, and after it
pub parted_at : {X : Type 0} (xs f b : List X) (m : ℕ) (d : X) → f ≡ take m xs → b ≡ drop m xs → 1 ≤ length b
    → xs ≡ f ++ (slice_index_or b 0 d ∷ take (length b - 1) (drop 1 b))
parted_at xs f [] m d e g l = absurd (omega arith)
parted_at xs f (y ∷ ys) m d e g l =
    sym (take-append-drop m xs) ∙ (λ i. sym e i ++ sym g i) ∙ ap (λ t. f ++ (y ∷ t)) (sym (take_rest (y ∷ ys) 1))

-- what is so of all is so of the parts
pub all_parts : {X : Type 0} (test : X → Bool) (f : List X) (y : X) (t : List X) → list_all test (f ++ (y ∷ t)) ≡ true
    → (list_all test f ≡ true) × ((test y ≡ true) × (list_all test t ≡ true))
all_parts test [] y t e = (refl, and_parts (test y) (list_all test t) e)
all_parts test (x ∷ f) y t e =
    let p = and_parts (test x) (list_all test (f ++ (y ∷ t))) e in
    let q = all_parts test f y t p.1 in
    (and_from _ _ p.0 q.0, q.1)

-- edges in two parts
pub edges_split : (from : Point) (xs : List Point) (x : Point) (ys : List Point) (to p : Point)
    → odd_edges from (xs ++ (x ∷ ys)) to p ≡ differ (odd_edges from xs x p) (odd_edges x ys to p)
edges_split from [] x ys to p = refl
edges_split from (z ∷ zs) x ys to p =
    ap (differ (edge_turns from z p)) (edges_split z zs x ys to p)
    ∙ sym (differ_assoc (edge_turns from z p) (odd_edges z zs x p) (odd_edges x ys to p))

-- the odd sum of two sets up to a column
pub both_up_to : (a b r : Bool) → differ (a && r) (b && r) ≡ (differ a b && r)
both_up_to true true true = refl
both_up_to true true false = refl
both_up_to true false true = refl
both_up_to true false false = refl
both_up_to false true true = refl
both_up_to false true false = refl
both_up_to false false true = refl
both_up_to false false false = refl

-- lines in two parts
pub lines_split : (from : Point) (xs : List Point) (x : Point) (ys : List Point) (to : Point) (pen : Pen) (p : Point)
    → some_line from (xs ++ (x ∷ ys)) to pen p ≡ (some_line from xs x pen p || some_line x ys to pen p)
lines_split from [] x ys to pen p = refl
lines_split from (z ∷ zs) x ys to pen p =
    ap (λ b. line_holds from z pen p || b) (lines_split z zs x ys to pen p)
    ∙ or_joined (line_holds from z pen p) (some_line z zs x pen p) (some_line x ys to pen p)
  where
    or_joined : (a b c : Bool) → (a || (b || c)) ≡ ((a || b) || c)
    or_joined true b c = refl
    or_joined false b c = refl

-- a frame by its first point and the others
pub framed_by : (xs : List Point) (d : Point) (pen : Pen) → 1 ≤ length xs → (p : Point)
    → some_line (slice_index_or xs 0 d) (take (length xs - 1) (drop 1 xs)) (slice_index_or xs 0 d) pen p ≡ frame_polygon_holds xs pen p
framed_by [] d pen l p = absurd (omega arith)
framed_by (x ∷ xs) d pen l p = ap (λ ys. some_line x ys x pen p) (take_rest (x ∷ xs) 1)

-- ---- a chord

chord_first : (m a e f : Bool) → f ≡ e → differ m a ≡ differ (differ e a) (differ m f)
chord_first m a e f s = ap (λ t. differ m a) s ∙ sums m a e ∙ ap (λ t. differ (differ e a) (differ m t)) (sym s)
  where
    sums : (m a e : Bool) → differ m a ≡ differ (differ e a) (differ m e)
    sums true true true = refl
    sums true true false = refl
    sums true false true = refl
    sums true false false = refl
    sums false true true = refl
    sums false true false = refl
    sums false false true = refl
    sums false false false = refl

chord_later : (z m a e f : Bool) → f ≡ e → differ z (differ m a) ≡ differ (differ z (differ e a)) (differ m f)
chord_later z m a e f s = ap (differ z) (chord_first m a e f s) ∙ sym (differ_assoc z (differ e a) (differ m f))

pub cut_by_chord : (before : List Point) (a : Point) (middle : List Point) (b : Point) (after : List Point) (p : Point)
    → polygon_holds (before ++ (a ∷ (middle ++ (b ∷ after)))) p
    ≡ differ (polygon_holds (before ++ (a ∷ (b ∷ after))) p) (polygon_holds (a ∷ (middle ++ (b ∷ []))) p)
cut_by_chord [] a middle b after p =
    edges_split a middle b after a p
    ∙ chord_first (odd_edges a middle b p) (odd_edges b after a p) (edge_turns a b p) (edge_turns b a p) (or_turned (passes b a p) (passes a b p))
    ∙ ap (differ (differ (edge_turns a b p) (odd_edges b after a p))) (sym (edges_split a middle b [] a p))
cut_by_chord (z ∷ zs) a middle b after p =
    edges_split z zs a (middle ++ (b ∷ after)) z p
    ∙ ap (differ (odd_edges z zs a p)) (edges_split a middle b after z p)
    ∙ chord_later (odd_edges z zs a p) (odd_edges a middle b p) (odd_edges b after z p) (edge_turns a b p) (edge_turns b a p) (or_turned (passes b a p) (passes a b p))
    ∙ (λ i. differ (sym (edges_split z zs a (b ∷ after) z p) i) (sym (edges_split a middle b [] a p) i))

-- ---- edges by their ends

-- what is so of each point of a list
abbrev pub AreAll : (Point → Type 0) → List Point → Type 0
AreAll good [] = ⊤
AreAll good (x ∷ xs) = good x × AreAll good xs

-- ---- past the last point

one_side : (x y z : ℤ) → (between x z y || between y z x) ≡ differ (int_le x z) (int_le y z)
one_side x y z = grind (arith, ints)

pub edge_past : (a b p : Point) → a.h ≤ℤ p.h → b.h ≤ℤ p.h → edge_turns a b p ≡ differ (int_le a.v p.v) (int_le b.v p.v)
edge_past a b p l m = (λ i. passes_right a b p l m i || passes_right b a p m l i) ∙ one_side a.v b.v p.v

pub telescoped : (a x t : Bool) → differ (differ a x) (differ x t) ≡ differ a t
telescoped true true true = refl
telescoped true true false = refl
telescoped true false t = refl
telescoped false true true = refl
telescoped false true false = refl
telescoped false false t = refl

left_of_last : (q p : Point) → in_plane q ≡ true → pos 16383 ≤ℤ p.h → q.h ≤ℤ p.h
left_of_last q p e l = let high = coordinate_high q.h (and_parts (is_coordinate q.h) (is_coordinate q.v) e).0 in omega (arith, ints)

-- where all points are such that an edge turns a pixel where a test tells its ends apart, the way does so too
pub edges_by : (good : Point → Type 0) (test : Point → Bool) (p : Point) → ((a b : Point) → good a → good b → edge_turns a b p ≡ differ (test a) (test b))
    → (from : Point) (xs : List Point) (to : Point) → good from → AreAll good xs → good to → odd_edges from xs to p ≡ differ (test from) (test to)
edges_by good test p edge from [] to f e t = edge from to f t
edges_by good test p edge from (x ∷ xs) to f e t =
    (λ i. differ (edge from x f e.0 i) (edges_by good test p edge x xs to e.0 e.1 t i))
    ∙ telescoped (test from) (test x) (test to)

all_in_plane : (xs : List Point) → list_all in_plane xs ≡ true → AreAll (λ x. in_plane x ≡ true) xs
all_in_plane [] e = tt
all_in_plane (x ∷ xs) e = let both = and_parts (in_plane x) (list_all in_plane xs) e in (both.0, all_in_plane xs both.1)

edges_past : (from : Point) (xs : List Point) (to p : Point) → in_plane from ≡ true → list_all in_plane xs ≡ true → in_plane to ≡ true → pos 16383 ≤ℤ p.h
    → odd_edges from xs to p ≡ differ (int_le from.v p.v) (int_le to.v p.v)
edges_past from xs to p f e t l =
    edges_by (λ x. in_plane x ≡ true) (λ x. int_le x.v p.v) p (λ a b m n. edge_past a b p (left_of_last a p m l) (left_of_last b p n l)) from xs to f (all_in_plane xs e) t

-- past the last point each row has an even number of edges
pub none_past : (x : Point) (xs : List Point) (p : Point) → in_plane x ≡ true → list_all in_plane xs ≡ true → pos 16383 ≤ℤ p.h
    → odd_edges x xs x p ≡ false
none_past x xs p f e l = edges_past x xs x p f e f l ∙ even (int_le x.v p.v)
  where
    even : (a : Bool) → differ a a ≡ false
    even true = refl
    even false = refl
