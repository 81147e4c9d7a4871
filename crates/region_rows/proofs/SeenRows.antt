-- The rows of a region as they are seen.
use Rattle.std.proofs.Common.{◌≡◌, ◌⊎◌, ℕ, ◌-◌, ◌<◌, ◌≤◌, Bool, true, false, not, ◌&&◌, List, [], ◌∷◌, ◌++◌, length, get_or, map, reverse, ℤ, pos, negsuc, ◌-ℤ◌, ◌≤ℤ◌, int_le, refl, sym, ap, ◌∙◌, subst, inl, inr, arith, All, SFits, w32}
use Rattle.std.proofs.lemmas.Int.{ints}
use Rattle.std.proofs.lemmas.Bool.{cases_lt}
use Rattle.std.proofs.lemmas.List.{reverse-append, map-append, length-map, length-reverse, get_or-map, get_or-reverse}
use Rattle.std.proofs.lemmas.List.Elements.{All-head, All-tail, All-weaker, All-get_or}
use Rattle.tb_geom.specs.declared.rect.Rect.{Rect}
use Rattle.tb_geom.specs.declared.point.Point.{Point}
use Rattle.tb_geom.specs.Points.{PixelSet}
use Rattle.region_bytes.specs.Points.{IsPointRow, IsInRange, in_rows, top_of}
use Rattle.region_bytes.proofs.Written.{closed_rows}
use Rattle.region_rows.specs.Edges.{differ, inside, is_odd, IsRising, IsCoordinate}
use Rattle.region_rows.specs.Rows.{EdgeRow, AreRows}
use Rattle.region_rows.specs.Hull.{row_in, IsColumnOf, IsRowOf, IsRegion}
use Rattle.region_rows.specs.Seen.{sign, signed_row, seen, seen_point}
use Rattle.region_rows.specs.Layers.{HasRows, IsLayer}
use Rattle.region_rows.specs.declared.layers.Layer.{Layer}
use Rattle.region_rows.specs.Lines.{IsLine}

-- ---- seen from above, rows are what they are

plain_points : (xs : List ℤ) → map (sign false) xs ≡ xs
plain_points [] = refl
plain_points (x ∷ xs) = ap (λ ys. x ∷ ys) (plain_points xs)

pub plain : (rows : List EdgeRow) → seen false rows ≡ rows
plain [] = refl
plain (row ∷ rows) = λ i. (row.0, plain_points row.1 i) ∷ plain rows i

-- ---- their pixels from below

pair : (a b : List EdgeRow) (h v : ℤ) → in_rows (a ++ b) h v ≡ differ (in_rows a h v) (in_rows b h v)
unfolding in_rows
pair [] b h v = refl
pair (row ∷ a) b h v = ap (differ (int_le row.0 v && inside row.1 h)) (pair a b h v) ∙ grouped (int_le row.0 v && inside row.1 h) (in_rows a h v) (in_rows b h v)
  where
    grouped : (x y z : Bool) → differ x (differ y z) ≡ differ (differ x y) z
    grouped true true true = refl
    grouped true true false = refl
    grouped true false z = refl
    grouped false y z = refl

mirrored_le : (x h : ℤ) → int_le (negsuc 0 -ℤ x) h ≡ not (int_le x (negsuc 1 -ℤ h))
mirrored_le x h = grind (arith, ints)

both_odd : (a o b : Bool) → differ (not a) (differ o b) ≡ differ (not o) (differ a b)
both_odd true true b = refl
both_odd true false true = refl
both_odd true false false = refl
both_odd false true true = refl
both_odd false true false = refl
both_odd false false b = refl

mirrored_inside : (xs : List ℤ) (h : ℤ) → inside (map (sign true) xs) h ≡ differ (is_odd (length xs)) (inside xs (negsuc 1 -ℤ h))
unfolding inside is_odd
mirrored_inside [] h = refl
mirrored_inside (x ∷ xs) h = (λ i. differ (mirrored_le x h i) (mirrored_inside xs h i)) ∙ both_odd (int_le x (negsuc 1 -ℤ h)) (is_odd (length xs)) (inside xs (negsuc 1 -ℤ h))

-- whether the rows turn the column an odd number of times
turns_all : List EdgeRow → ℤ → Bool
turns_all [] h = false
turns_all (row ∷ rows) h = differ (inside row.1 h) (turns_all rows h)

turned : (t r a b : Bool) → differ (differ t r) (differ (not a && b) false) ≡ differ (differ b t) (differ (a && b) r)
turned true true true true = refl
turned true true true false = refl
turned true true false true = refl
turned true true false false = refl
turned true false true true = refl
turned true false true false = refl
turned true false false true = refl
turned true false false false = refl
turned false true true true = refl
turned false true true false = refl
turned false true false true = refl
turned false true false false = refl
turned false false true true = refl
turned false false true false = refl
turned false false false true = refl
turned false false false false = refl

last_first : (row : EdgeRow) (rows : List EdgeRow) → seen true (row ∷ rows) ≡ seen true rows ++ signed_row true row ∷ []
last_first row rows = ap (map (signed_row true)) (reverse-append (row ∷ []) rows) ∙ map-append (signed_row true) (reverse rows) (row ∷ [])

mirrored : (rows : List EdgeRow) (h v : ℤ) → All IsPointRow rows → in_rows (seen true rows) h v ≡ differ (turns_all rows (negsuc 1 -ℤ h)) (in_rows rows (negsuc 1 -ℤ h) (negsuc 1 -ℤ v))
unfolding in_rows turns_all
mirrored [] h v each = refl
mirrored (row ∷ rows) h v each =
    let even = (All-head IsPointRow row rows each).even in
    ap (λ all. in_rows all h v) (last_first row rows)
    ∙ pair (seen true rows) (signed_row true row ∷ []) h v
    ∙ (λ i. differ (mirrored rows h v (All-tail IsPointRow row rows each) i) (differ (mirrored_le row.0 v i && (mirrored_inside row.1 h ∙ ap (λ o. differ o (inside row.1 (negsuc 1 -ℤ h))) even) i) false))
    ∙ turned (turns_all rows (negsuc 1 -ℤ h)) (in_rows rows (negsuc 1 -ℤ h) (negsuc 1 -ℤ v)) (int_le row.0 (negsuc 1 -ℤ v)) (inside row.1 (negsuc 1 -ℤ h))

all_low : (rows : List EdgeRow) (h v : ℤ) → All (λ (row : EdgeRow). row.0 ≤ℤ v) rows → in_rows rows h v ≡ turns_all rows h
unfolding in_rows turns_all
all_low [] h v low = refl
all_low (row ∷ rows) h v low =
    let first = All-head (λ (row : EdgeRow). row.0 ≤ℤ v) row rows low in
    let le : int_le row.0 v ≡ true = grind (arith, ints) in
    λ i. differ (le i && inside row.1 h) (all_low rows h v (All-tail (λ (row : EdgeRow). row.0 ≤ℤ v) row rows low) i)

pub seen_pixels : (up : Bool) (rows : List EdgeRow) (h v : ℤ) → AreRows rows → in_rows (seen up rows) h v ≡ in_rows rows (seen_point up (record { h = h; v = v })).h (seen_point up (record { h = h; v = v })).v
seen_pixels false rows h v r = ap (λ all. in_rows all h v) (plain rows)
seen_pixels true rows h v r =
    let low : All (λ (row : EdgeRow). row.0 ≤ℤ pos 16383) rows = All-weaker IsInRange (λ (row : EdgeRow). row.0 ≤ℤ pos 16383) (λ row i. i.0.1) rows r.in_range in
    mirrored rows h v r.canonical.are_rows.each
    ∙ ap (λ b. differ b (in_rows rows (negsuc 1 -ℤ h) (negsuc 1 -ℤ v))) (sym (all_low rows (negsuc 1 -ℤ h) (pos 16383) low) ∙ closed_rows rows r.canonical (negsuc 1 -ℤ h) (pos 16383) low)

-- ---- their order, and their columns

top_at : (rows : List EdgeRow) (k : ℕ) → k < length rows → get_or (map top_of rows) k (pos 0) ≡ (row_in rows k).0
top_at rows k l = get_or-map top_of rows k (pos 0, []) (pos 0) l

seen_length : (rows : List EdgeRow) → length (seen true rows) ≡ length rows
seen_length rows = length-map (reverse rows) (signed_row true) ∙ length-reverse rows

seen_at : (rows : List EdgeRow) (k : ℕ) → k < length rows → get_or (map top_of (seen true rows)) k (pos 0) ≡ negsuc 0 -ℤ (row_in rows (length rows - 1 - k)).0
seen_at rows k l =
    let same = seen_length rows in
    let turned = length-reverse rows in
    top_at (seen true rows) k (omega arith)
    ∙ ap (λ (row : EdgeRow). row.0) (get_or-map (signed_row true) (reverse rows) k (pos 0, []) (pos 0, []) (omega arith))
    ∙ ap (λ (row : EdgeRow). negsuc 0 -ℤ row.0) (get_or-reverse rows k (pos 0, []) l)

pub seen_rising : (up : Bool) (rows : List EdgeRow) → IsRising (map top_of rows) → IsRising (map top_of (seen up rows))
seen_rising false rows r = subst (λ all. IsRising (map top_of all)) (sym (plain rows)) r
seen_rising true rows r = record {
  rises = λ i j l m.
      let tops = length-map rows top_of in
      let all = length-map (seen true rows) top_of in
      let same = seen_length rows in
      let before = r.rises (length rows - 1 - j) (length rows - 1 - i) (omega arith) (omega arith) in
      let a = top_at rows (length rows - 1 - j) (omega arith) in
      let b = top_at rows (length rows - 1 - i) (omega arith) in
      let c = seen_at rows i (omega arith) in
      let d = seen_at rows j (omega arith) in
      omega (arith, ints);
}

-- ---- the box lies in range

column_coordinate : (rows : List EdgeRow) (x : ℤ) → All IsInRange rows → IsColumnOf rows (length rows) x → IsCoordinate x
column_coordinate rows x all c = subst IsCoordinate c.here ((All-get_or IsInRange rows c.row (pos 0, []) c.there all).1 c.place (pos 0) c.in_row)

pub sides_in : (rows : List EdgeRow) (r : Rect) → IsRegion rows r → IsCoordinate r.left × IsCoordinate r.right
sides_in rows r g = by (cases_lt 0 (length rows))
  where
    by : (0 < length rows) ⊎ (length rows ≤ 0) → IsCoordinate r.left × IsCoordinate r.right
    by (inl some) = (column_coordinate rows r.left g.are_rows.in_range (g.hull.left some), column_coordinate rows r.right g.are_rows.in_range (g.hull.right some))
    by (inr none) =
        let e = g.hull.none (omega arith) in
        (subst (λ (q : Rect). IsCoordinate q.left) (sym e) (omega (arith, ints), omega (arith, ints)), subst (λ (q : Rect). IsCoordinate q.right) (sym e) (omega (arith, ints), omega (arith, ints)))

-- ---- the layer of a region

pub region_rows : (l : Layer) → AreRows l.rows.now → HasRows l
region_rows l r = record { in_range = r.in_range; rising = seen_rising l.up l.rows.now r.canonical.are_rows.rising }

pub region_layer : (words : List ℕ) (l : Layer) (v : ℤ) → AreRows l.rows.now → IsLine words l.line (λ h. l.line.first)
    → IsLayer words l (λ p. differ l.line.first (in_rows l.rows.now (seen_point l.up p).h (seen_point l.up p).v)) v l.line.right
region_layer words l v g line = record {
  f = λ h. l.line.first;
  to = record { line = line; rest = λ h w m. ap (differ l.line.first) (sym (seen_pixels l.up l.rows.now h w g)) };
  row = λ m. absurd (omega (arith, ints));
  counts = λ m. absurd (omega (arith, ints));
}

pub layer_same : (words : List ℕ) (l : Layer) (s t : PixelSet) (v at : ℤ) → ((p : Point) → t p ≡ s p) → IsLayer words l s v at → IsLayer words l t v at
layer_same words l s t v at e r = record {
  f = r.f;
  to = record { line = r.to.line; rest = λ h w m. e (record { h = h; v = w }) ∙ r.to.rest h w m };
  row = λ m x. r.row m x ∙ sym (e (record { h = x; v = v }));
  counts = r.counts;
}

-- ---- numbers of 32 bits

pub mirrored_fits : (x : ℤ) → negsuc 16383 ≤ℤ x → x ≤ℤ pos 16383 → SFits w32 (negsuc 0 -ℤ x)
mirrored_fits x low high = search (arith, ints)

row_coordinate : (rows : List EdgeRow) (v : ℤ) → All IsInRange rows → IsRowOf rows v → IsCoordinate v
row_coordinate rows v all c = subst IsCoordinate c.here (All-get_or IsInRange rows c.row (pos 0, []) c.there all).0

pub ends_in : (rows : List EdgeRow) (r : Rect) → IsRegion rows r → IsCoordinate r.top × IsCoordinate r.bottom
ends_in rows r g = by (cases_lt 0 (length rows))
  where
    by : (0 < length rows) ⊎ (length rows ≤ 0) → IsCoordinate r.top × IsCoordinate r.bottom
    by (inl some) = (row_coordinate rows r.top g.are_rows.in_range (g.hull.top some), row_coordinate rows r.bottom g.are_rows.in_range (g.hull.bottom some))
    by (inr none) =
        let e = g.hull.none (omega arith) in
        (subst (λ (q : Rect). IsCoordinate q.top) (sym e) (omega (arith, ints), omega (arith, ints)), subst (λ (q : Rect). IsCoordinate q.bottom) (sym e) (omega (arith, ints), omega (arith, ints)))
