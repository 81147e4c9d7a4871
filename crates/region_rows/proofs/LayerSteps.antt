-- A layer from row to row, and from column to column.
use Rattle.std.proofs.Common.{◌≡◌, ◌⊎◌, ℕ, zero, suc, ◌+◌, ◌<◌, ◌≤◌, Bool, true, false, ◌&&◌, List, [], ◌∷◌, length, get_or, map, take, reverse, ℤ, pos, ◌-ℤ◌, ◌<ℤ◌, ◌≤ℤ◌, refl, sym, ap, ◌∙◌, subst, arith, All}
use Rattle.std.specs.Prelude.{int_le}
use Rattle.std.proofs.lemmas.Int.{ints}
use Rattle.std.proofs.lemmas.List.{length-map, length-reverse, map_more}
use Rattle.tb_geom.specs.Points.{PixelSet}
use Rattle.region_bytes.specs.Points.{IsInRange, in_rows, top_of}
use Rattle.region_bytes.proofs.Edges.{inside-nil, int_le-true, int_le-false, rising_tail, rising_head, inside-push}
use Rattle.region_bytes.proofs.Rows.{nil_has}
use Rattle.region_rows.specs.Edges.{differ, inside, IsRising}
use Rattle.region_rows.specs.Rows.{EdgeRow}
use Rattle.region_rows.specs.Seen.{seen, sign, signed_row}
use Rattle.region_rows.specs.Lines.{IsLine}
use Rattle.region_rows.specs.Layers.{HasRows, IsLayerTo, IsLayer}
use Rattle.region_rows.specs.Counts.{count_to}
use Rattle.region_rows.specs.declared.line.Line.{Line}
use Rattle.region_rows.specs.declared.layers.Layer.{Layer}

-- ---- lines

-- a line of the same columns
pub line_same : (words : List ℕ) (l : Line) (f g : ℤ → Bool) → ((x : ℤ) → f x ≡ g x) → IsLine words l f → IsLine words l g
line_same words l f g e s = record {
  first = s.first ∙ e l.left;
  turns = λ x a b. s.turns x a b ∙ (λ i. differ (e x i) (e (x -ℤ pos 1) i));
}

none_differ : (b : Bool) → b ≡ differ b false
none_differ true = refl
none_differ false = refl

differ_of : (a b c : Bool) → differ a (differ b c) ≡ differ (differ b a) c
differ_of true true true = refl
differ_of true true false = refl
differ_of true false true = refl
differ_of true false false = refl
differ_of false true c = refl
differ_of false false c = refl

-- before any point of a row is read
pub points_none : (words : List ℕ) (l : Line) (f : ℤ → Bool) → IsLine words l f → IsLine words l (λ h. differ (inside [] h) (f h))
points_none words l f s = line_same words l f (λ h. differ (inside [] h) (f h)) (λ x. sym (ap (λ t. differ t (f x)) (inside-nil x))) s

swapped : (a b c : Bool) → differ a (differ b c) ≡ differ (differ a b) c
swapped true true true = refl
swapped true true false = refl
swapped true false c = refl
swapped false b c = refl

-- and after one more
pub points_more : (words : List ℕ) (l : Line) (f : ℤ → Bool) (up : Bool) (xs : List ℤ) (n : ℕ) → n < length xs → IsLine words l (λ h. differ (int_le (sign up (get_or xs n (pos 0))) h) (differ (inside (map (sign up) (take n xs)) h) (f h)))
    → IsLine words l (λ h. differ (inside (map (sign up) (take (n + 1) xs)) h) (f h))
points_more words l f up xs n l2 s =
    line_same words l (λ h. differ (int_le (sign up (get_or xs n (pos 0))) h) (differ (inside (map (sign up) (take n xs)) h) (f h))) (λ h. differ (inside (map (sign up) (take (n + 1) xs)) h) (f h))
    (λ h. swapped (int_le (sign up (get_or xs n (pos 0))) h) (inside (map (sign up) (take n xs)) h) (f h)
    ∙ ap (λ t. differ t (f h)) (sym (ap (λ ys. inside ys h) (map_more (sign up) xs n (pos 0) l2) ∙ inside-push (map (sign up) (take n xs)) (sign up (get_or xs n (pos 0))) h))) s

-- the places of others are those of a line that lies there too
pub apart_same : (l n : Line) (k : ℕ) → n.left ≡ l.left → n.right ≡ l.right → n.base ≡ l.base → (k < l.base) ⊎ (l.base + count_to l.left l.right ≤ k) → (k < n.base) ⊎ (n.base + count_to n.left n.right ≤ k)
apart_same l n k el er eb o = subst (λ b. (k < b) ⊎ (b + count_to n.left n.right ≤ k)) (sym eb) (subst (λ c. (k < l.base) ⊎ (l.base + c ≤ k)) (λ i. count_to (sym el i) (sym er i)) o)

-- ---- rows

pub seen-nil : (up : Bool) → seen up [] ≡ []
seen-nil true = refl
seen-nil false = refl

pub none_left : (up : Bool) (h v : ℤ) → in_rows (seen up []) h v ≡ false
none_left up h v = ap (λ rows. in_rows rows h v) (seen-nil up) ∙ nil_has h v

rising_first : (w : ℤ) (points : List ℤ) (rows : List EdgeRow) → IsRising (map top_of ((w, points) ∷ rows)) → (v h : ℤ) → v <ℤ w → in_rows ((w, points) ∷ rows) h v ≡ false
unfolding in_rows
rising_first w points rows r v h l = (λ i. differ (int_le-false w v l i && inside points h) (below rows v h (λ k m. let up = rising_head w (map top_of rows) r k m in omega (arith, ints)) i))
  where
    below : (rows : List EdgeRow) (v h : ℤ) → ((k : ℕ) → k < length (map top_of rows) → v <ℤ get_or (map top_of rows) k (pos 0)) → in_rows rows h v ≡ false
    below [] v h f = nil_has h v
    below (row ∷ rows) v h f = (λ i. differ (int_le-false row.0 v (f zero (omega arith)) i && inside row.1 h) (below rows v h (λ k m. f (suc k) (omega arith)) i))

-- where the next row lies further down, or there is none, the row v is read
row_read : (words : List ℕ) (l : Layer) (s : PixelSet) (g : ℤ → Bool) (v : ℤ) → IsLayerTo words l s g v → ((h : ℤ) → in_rows (seen l.up l.rows.now) h v ≡ false) → IsLayerTo words l s (λ h. s (record { h = h; v = v })) v
row_read words l s g v t none =
    let same : (h : ℤ) → g h ≡ s (record { h = h; v = v }) = λ h. none_differ (g h) ∙ ap (differ (g h)) (sym (none h)) ∙ sym (t.rest h v (omega (arith, ints))) in
    record { line = line_same words l.line g (λ h. s (record { h = h; v = v })) same t.line; rest = λ h w m. t.rest h w m ∙ ap (λ b. differ b (in_rows (seen l.up l.rows.now) h w)) (same h) }

pub read_before : (words : List ℕ) (l : Layer) (s : PixelSet) (g : ℤ → Bool) (v w : ℤ) (points : List ℤ) (rest : List EdgeRow) → IsLayerTo words l s g v → HasRows l → seen l.up l.rows.now ≡ (w, points) ∷ seen l.up rest → v <ℤ w → IsLayerTo words l s (λ h. s (record { h = h; v = v })) v
read_before words l s g v w points rest t r e m =
    row_read words l s g v t (λ h. ap (λ rows. in_rows rows h v) e ∙ rising_first w points (seen l.up rest) (subst (λ rows. IsRising (map top_of rows)) e r.rising) v h m)

pub read_all : (words : List ℕ) (l : Layer) (s : PixelSet) (g : ℤ → Bool) (v : ℤ) → IsLayerTo words l s g v → l.rows.now ≡ [] → IsLayerTo words l s (λ h. s (record { h = h; v = v })) v
read_all words l s g v t e = row_read words l s g v t (λ h. ap (λ rows. in_rows (seen l.up rows) h v) e ∙ none_left l.up h v)

-- a layer that is to read rows from an earlier row on
pub later : (words : List ℕ) (l : Layer) (s : PixelSet) (g : ℤ → Bool) (w v : ℤ) → w ≤ℤ v → IsLayerTo words l s g w → IsLayerTo words l s g v
later words l s g w v m t = record { line = t.line; rest = λ h u n. t.rest h u (omega (arith, ints)) }

-- one more row is read
pub read_more : (words after : List ℕ) (l n : Layer) (s : PixelSet) (g : ℤ → Bool) (v w : ℤ) (points : List ℤ) (rest : List EdgeRow) → n.up ≡ l.up → n.rows.now ≡ rest → seen l.up l.rows.now ≡ (w, points) ∷ seen l.up rest → w ≤ℤ v → IsLine after n.line (λ h. differ (inside points h) (g h))
    → IsLayerTo words l s g v → IsLayerTo after n s (λ h. differ (inside points h) (g h)) v
unfolding in_rows
read_more words after l n s g v w points rest eu er e m line t = record {
  line = line;
  rest = λ h u k.
      t.rest h u k ∙ ap (λ rows. differ (g h) (in_rows rows h u)) e
      ∙ (λ i. differ (g h) (differ (int_le-true w u (omega (arith, ints)) i && inside points h) (in_rows (seen l.up rest) h u)))
      ∙ differ_of (g h) (inside points h) (in_rows (seen l.up rest) h u)
      ∙ ap (λ rows. differ (differ (inside points h) (g h)) (in_rows rows h u)) (λ i. seen (sym eu i) (sym er i));
}

pub rows_more : (l n : Layer) (w : ℤ) (points : List ℤ) (rest : List EdgeRow) → n.up ≡ l.up → n.rows.now ≡ rest → seen l.up l.rows.now ≡ (w, points) ∷ seen l.up rest → All IsInRange rest → HasRows l → HasRows n
rows_more l n w points rest eu er e all r =
    let now : seen l.up rest ≡ seen n.up n.rows.now = λ i. seen (sym eu i) (sym er i) in
    record {
      in_range = subst (All IsInRange) (sym er) all;
      rising = subst (λ rows. IsRising (map top_of rows)) now (rising_tail w (map top_of (seen l.up rest)) (subst (λ rows. IsRising (map top_of rows)) e r.rising));
    }

-- up to the next row the set is what the line has, and where there is none, all the way down
pub until_next : (words : List ℕ) (l : Layer) (s : PixelSet) (f : ℤ → Bool) (v n : ℤ) (points : List ℤ) (rest : List EdgeRow) → IsLayerTo words l s f v → HasRows l → seen l.up l.rows.now ≡ (n, points) ∷ seen l.up rest
    → (h w : ℤ) → v ≤ℤ w → w <ℤ n → s (record { h = h; v = w }) ≡ f h
until_next words l s f v n points rest t r e h w a b =
    t.rest h w a ∙ ap (λ rows. differ (f h) (in_rows rows h w)) e
    ∙ ap (differ (f h)) (rising_first n points (seen l.up rest) (subst (λ rows. IsRising (map top_of rows)) e r.rising) w h b) ∙ sym (none_differ (f h))

pub until_last : (words : List ℕ) (l : Layer) (s : PixelSet) (f : ℤ → Bool) (v : ℤ) → IsLayerTo words l s f v → l.rows.now ≡ [] → (h w : ℤ) → v ≤ℤ w → s (record { h = h; v = w }) ≡ f h
until_last words l s f v t e h w a = t.rest h w a ∙ ap (differ (f h)) (ap (λ rows. in_rows (seen l.up rows) h w) e ∙ none_left l.up h w) ∙ sym (none_differ (f h))

-- ---- columns

turned_count : (t a b : Bool) → t ≡ differ a b → differ t b ≡ a
turned_count t a b e = ap (λ u. differ u b) e ∙ twice a b
  where
    twice : (a b : Bool) → differ (differ a b) b ≡ a
    twice true true = refl
    twice true false = refl
    twice false true = refl
    twice false false = refl

-- a layer whose pixel is passed counts the next one
pub passed : (words : List ℕ) (l : Layer) (s : PixelSet) (v at to : ℤ) (t c : Bool) → c ≡ differ t l.counts → ((f : ℤ → Bool) → IsLine words l.line f → t ≡ differ (f to) (f (to -ℤ pos 1))) → at <ℤ to → to <ℤ l.line.right
    → ((x : ℤ) → at ≤ℤ x → x <ℤ to → s (record { h = x; v = v }) ≡ s (record { h = at; v = v })) → IsLayer words l s v at → IsLayer words (record l { counts = c }) s v to
passed words l s v at to t c e turn on right steady r =
    let within : at <ℤ l.line.right = omega (arith, ints) in
    let before : r.f (to -ℤ pos 1) ≡ l.counts = r.row within (to -ℤ pos 1) ∙ steady (to -ℤ pos 1) (omega (arith, ints)) (omega (arith, ints)) ∙ sym (r.row within at) ∙ sym (r.counts within) in
    record {
      f = r.f;
      to = record { line = r.to.line; rest = r.to.rest };
      row = λ m. r.row within;
      counts = λ m. e ∙ turned_count t (r.f to) l.counts (turn r.f r.to.line ∙ ap (differ (r.f to)) before);
    }

-- at the first pixel of a row that is read
pub begun : (words : List ℕ) (l : Layer) (s : PixelSet) (v : ℤ) → IsLayerTo words l s (λ h. s (record { h = h; v = v })) v → IsLayer words (record l { counts = l.line.first }) s v l.line.left
begun words l s v t = record {
  f = λ h. s (record { h = h; v = v });
  to = record { line = t.line; rest = t.rest };
  row = λ m x. refl;
  counts = λ m. t.line.first;
}

-- ---- there is always less to read

seen_length : (up : Bool) (rows : List EdgeRow) → length (seen up rows) ≡ length rows
seen_length true rows = length-map (reverse rows) (signed_row true) ∙ length-reverse rows
seen_length false rows = length-map rows (signed_row false)

pub shorter : (up : Bool) (rows : List EdgeRow) (w : ℤ) (points : List ℤ) (rest : List EdgeRow) → seen up rows ≡ (w, points) ∷ seen up rest → length rest < length rows
shorter up rows w points rest e =
    let all = seen_length up rows in
    let other = seen_length up rest in
    let more : length (seen up rows) ≡ suc (length (seen up rest)) = ap length e in
    omega arith
