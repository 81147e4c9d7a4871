-- The spans of a region, from above and from below.
use Rattle.std.proofs.Common.{◌≡◌, ℕ, ◌-◌, ◌<◌, Bool, true, false, ◌&&◌, ◌||◌, List, [], ◌∷◌, length, get_or, map, reverse, ℤ, pos, negsuc, ◌-ℤ◌, ◌<ℤ◌, ◌≤ℤ◌, int_le, int_lt, refl, sym, ap, ◌∙◌, subst, inl, inr, arith, All, SFits, w32}
use Rattle.std.specs.List.{list_any, AllPairs}
use Rattle.std.specs.Ordering.{int_eq}
use Rattle.std.proofs.Math.Bool.{and-false}
use Rattle.std.proofs.lemmas.Int.{ints, by_lt_z}
use Rattle.std.proofs.lemmas.Bool.{true≢false, and_parts}
use Rattle.std.proofs.lemmas.List.{reverse-append, length-map, length-reverse, get_or-map, get_or-reverse}
use Rattle.std.proofs.lemmas.List.Folds.{list_any-append, list_any_at}
use Rattle.std.proofs.lemmas.List.Elements.{All-nil, All-cons, All-head, All-tail, All-append, All-map, All-weaker}
use Rattle.tb_geom.specs.declared.point.Point.{Point}
use Rattle.tb_geom.specs.declared.rect.Rect.{Rect}
use Rattle.tb_geom.specs.Points.{PixelSet}
use Rattle.tb_geom.specs.Pixels.{Pixels, holds, pixels_where}
use Rattle.tb_geom.specs.Rects.{between, rect_holds}
use Rattle.tb_geom.proofs.RectLemmas.{sides_of}
use Rattle.region_bytes.specs.Points.{in_rows}
use Rattle.region_rows.specs.Hull.{IsRegion}
use Rattle.region_rows.specs.Rows.{EdgeRow}
use Rattle.scan_region.specs.Scan.{span_holds, IsRun, Precedes, IsScanOf, IsScan}
use Rattle.region_rows.specs.Seen.{seen_point, seen_set}
use Rattle.scan_region.specs.Turned.{turned, IsNear}
use Rattle.scan_region.specs.declared.spans.Span.{Span}
use Rattle.region_rows.proofs.Hulls.{held}
use Rattle.region_rows.proofs.Plane.{has_viewed}
use Rattle.region_rows.proofs.Merged.{int_eq-same, int_eq-apart}
use Rattle.region_rows.proofs.SeenRows.{sides_in, ends_in}
use Rattle.scan_region.proofs.WalkScan.{IsScanOf-same}

-- ---- the box keeps all

pub alone : (b : Bool) → ((b && (true && (true && true))) && true) ≡ b
alone true = refl
alone false = refl

pub boxed : (rows : List EdgeRow) (r : Rect) (s : Pixels) → IsRegion rows r → pixels_where (in_rows rows) ≡ s → (p : Point) → holds s p ≡ (rect_holds r p && holds s p)
boxed rows r s g e p = by (holds s p) refl
  where
    by : (b : Bool) → holds s p ≡ b → holds s p ≡ (rect_holds r p && holds s p)
    by true h = h ∙ sym (λ i. held rows r g p (sym (has_viewed rows s e g.are_rows p.h p.v) ∙ h) i && h i)
    by false h = h ∙ sym (ap (λ b. rect_holds r p && b) h ∙ and-false (rect_holds r p))

pub region_scan : (rows : List EdgeRow) (r : Rect) (s : Pixels) (q : PixelSet) (spans : List Span) → IsRegion rows r → pixels_where (in_rows rows) ≡ s → ((p : Point) → q p ≡ holds s p) → IsScanOf spans (λ p. rect_holds r p && q p) → IsScan spans s
region_scan rows r s q spans g e same scan = IsScanOf-same spans (λ p. rect_holds r p && q p) (holds s) (λ p. boxed rows r s g e p ∙ ap (λ b. rect_holds r p && b) (sym (same p))) scan

-- ---- whether there are spans at all

in_first : (x : Span) (rest : List Span) → IsRun x → list_any (λ span. span_holds span (record { h = x.left; v = x.v })) (x ∷ rest) ≡ true
in_first x rest run =
    let within : between x.left x.left x.right ≡ true = grind (arith, ints) in
    λ i. (int_eq-same x.v i && within i) || list_any (λ span. span_holds span (record { h = x.left; v = x.v })) rest

pub some_meets : (spans rest : List Span) (x : Span) (s : Pixels) (area : Rect) (q : PixelSet) → IsScanOf spans (λ p. rect_holds area p && q p) → spans ≡ x ∷ rest → ((p : Point) → q p ≡ holds s p) → (p : Point) × (rect_holds area p ≡ true) × (holds s p ≡ true)
some_meets spans rest x s area q scan e same =
    let p : Point = record { h = x.left; v = x.v } in
    let run = All-head IsRun x rest (subst (All IsRun) e scan.runs) in
    let t = and_parts (rect_holds area p) (q p) (scan.pixels p ∙ ap (λ l. list_any (λ span. span_holds span p) l) e ∙ in_first x rest run) in
    (p, t.0, sym (same p) ∙ t.1)

pub none_meet : (spans : List Span) (s : Pixels) (area : Rect) (q : PixelSet) → IsScanOf spans (λ p. rect_holds area p && q p) → spans ≡ [] → ((p : Point) → q p ≡ holds s p) → (p : Point) → rect_holds area p ≡ true → holds s p ≡ true → ⊥
none_meet spans s area q scan none same p within h =
    true≢false (sym (λ i. within i && (same p ∙ h) i) ∙ scan.pixels p ∙ ap (λ l. list_any (λ span. span_holds span p) l) none)

-- ---- turned by half a turn

pub twice : (p : Point) → seen_point true (seen_point true p) ≡ p
twice p =
    let a : (negsuc 1 -ℤ (negsuc 1 -ℤ p.h)) ≡ p.h = omega (arith, ints) in
    let b : (negsuc 1 -ℤ (negsuc 1 -ℤ p.v)) ≡ p.v = omega (arith, ints) in
    λ i. record { h = a i; v = b i }

turned_row : (v w : ℤ) → int_eq (negsuc 1 -ℤ v) w ≡ int_eq v (negsuc 1 -ℤ w)
turned_row v w = by_lt_z v (negsuc 1 -ℤ w)
    (λ l. int_eq-apart (negsuc 1 -ℤ v) w (λ e. omega (arith, ints)) ∙ sym (int_eq-apart v (negsuc 1 -ℤ w) (λ e. omega (arith, ints))))
    (λ l. by_lt_z (negsuc 1 -ℤ w) v
    (λ m. int_eq-apart (negsuc 1 -ℤ v) w (λ e. omega (arith, ints)) ∙ sym (int_eq-apart v (negsuc 1 -ℤ w) (λ e. omega (arith, ints))))
    (λ m.
    let e : w ≡ (negsuc 1 -ℤ v) = omega (arith, ints) in
    let f : (negsuc 1 -ℤ w) ≡ v = omega (arith, ints) in
    ap (int_eq (negsuc 1 -ℤ v)) e ∙ int_eq-same (negsuc 1 -ℤ v) ∙ sym (ap (int_eq v) f ∙ int_eq-same v)))

turned_columns : (left right h : ℤ) → between (negsuc 0 -ℤ right) h (negsuc 0 -ℤ left) ≡ between left (negsuc 1 -ℤ h) right
turned_columns left right h =
    let a : int_le (negsuc 0 -ℤ right) h ≡ int_lt (negsuc 1 -ℤ h) right = by_lt_z (negsuc 1 -ℤ h) right (λ l. le_yes (negsuc 0 -ℤ right) h (omega (arith, ints)) ∙ sym (lt_yes (negsuc 1 -ℤ h) right l)) (λ l. le_no (negsuc 0 -ℤ right) h (omega (arith, ints)) ∙ sym (lt_no (negsuc 1 -ℤ h) right l)) in
    let b : int_lt h (negsuc 0 -ℤ left) ≡ int_le left (negsuc 1 -ℤ h) = by_lt_z h (negsuc 0 -ℤ left) (λ l. lt_yes h (negsuc 0 -ℤ left) l ∙ sym (le_yes left (negsuc 1 -ℤ h) (omega (arith, ints)))) (λ l. lt_no h (negsuc 0 -ℤ left) l ∙ sym (le_no left (negsuc 1 -ℤ h) (omega (arith, ints)))) in
    (λ i. a i && b i) ∙ swapped (int_lt (negsuc 1 -ℤ h) right) (int_le left (negsuc 1 -ℤ h))
  where
    le_yes : (x y : ℤ) → x ≤ℤ y → int_le x y ≡ true
    le_yes x y l = grind (arith, ints)

    le_no : (x y : ℤ) → y <ℤ x → int_le x y ≡ false
    le_no x y l = grind (arith, ints)

    lt_yes : (x y : ℤ) → x <ℤ y → int_lt x y ≡ true
    lt_yes x y l = grind (arith, ints)

    lt_no : (x y : ℤ) → y ≤ℤ x → int_lt x y ≡ false
    lt_no x y l = grind (arith, ints)

    swapped : (x y : Bool) → (x && y) ≡ (y && x)
    swapped true true = refl
    swapped true false = refl
    swapped false true = refl
    swapped false false = refl

turned_holds : (x : Span) (p : Point) → span_holds (turned x) p ≡ span_holds x (seen_point true p)
turned_holds x p = λ i. turned_row x.v p.v i && turned_columns x.left x.right p.h i

or_last : (a b : Bool) → (a || (b || false)) ≡ (b || a)
or_last true true = refl
or_last true false = refl
or_last false true = refl
or_last false false = refl

any_turned : (inner : List Span) (p : Point) → list_any (λ s. span_holds s p) (reverse (map turned inner)) ≡ list_any (λ s. span_holds s (seen_point true p)) inner
any_turned [] p = refl
any_turned (x ∷ inner) p =
    ap (λ l. list_any (λ s. span_holds s p) l) (reverse-append (turned x ∷ []) (map turned inner))
    ∙ list_any-append (λ s. span_holds s p) (reverse (map turned inner)) (turned x ∷ [])
    ∙ (λ i. any_turned inner p i || (turned_holds x p i || false))
    ∙ or_last (list_any (λ s. span_holds s (seen_point true p)) inner) (span_holds x (seen_point true p))

all_turned : (P : Span → Type 0) (xs : List Span) → All P xs → All P (reverse xs)
all_turned P [] all = all
all_turned P (x ∷ xs) all = subst (All P) (sym (reverse-append (x ∷ []) xs)) (All-append P (reverse xs) (x ∷ []) (all_turned P xs (All-tail P x xs all)) (All-cons P x [] (All-head P x xs all) (All-nil P)))

turned_precedes : (a b : Span) → Precedes b a → Precedes (turned a) (turned b)
turned_precedes a b (inl l) = inl (omega (arith, ints, l))
turned_precedes a b (inr m) =
    let e = m.0 in
    let l = m.1 in
    inr (omega (arith, ints), omega (arith, ints))

turned_order : (inner : List Span) → AllPairs Precedes inner → AllPairs Precedes (reverse (map turned inner))
turned_order inner order i j d m n =
    let one = length-map inner turned in
    let two = length-reverse (map turned inner) in
    let at : (k : ℕ) → k < length inner → get_or (reverse (map turned inner)) k d ≡ turned (get_or inner (length inner - 1 - k) d) = λ k l.
    get_or-reverse (map turned inner) k d (omega arith) ∙ ap (λ z. get_or (map turned inner) (z - 1 - k) d) one ∙ get_or-map turned inner (length inner - 1 - k) d d (omega arith) in
    rw (at i (omega arith), at j (omega arith)) (turned_precedes (get_or inner (length inner - 1 - i) d) (get_or inner (length inner - 1 - j) d) (order (length inner - 1 - j) (length inner - 1 - i) d (omega arith) (omega arith)))

pub turned_box : (r area : Rect) (p : Point) → area.left ≡ (negsuc 0 -ℤ r.right) → area.right ≡ (negsuc 0 -ℤ r.left) → area.top ≡ (negsuc 0 -ℤ r.bottom) → area.bottom ≡ (negsuc 0 -ℤ r.top) → rect_holds area (seen_point true p) ≡ rect_holds r p
turned_box r area p a b c d =
    let p2 = twice p in
    (λ i. between (a i) (negsuc 1 -ℤ p.h) (b i) && between (c i) (negsuc 1 -ℤ p.v) (d i))
    ∙ (λ i. turned_columns r.left r.right (negsuc 1 -ℤ p.h) i && turned_columns r.top r.bottom (negsuc 1 -ℤ p.v) i)
    ∙ (λ i. between r.left (p2 i).h r.right && between r.top (p2 i).v r.bottom)

pub up_scan : (rows : List EdgeRow) (r area : Rect) (s : Pixels) (q : PixelSet) (inner : List Span) → IsRegion rows r → pixels_where (in_rows rows) ≡ s → ((p : Point) → q p ≡ holds s p)
    → area.left ≡ (negsuc 0 -ℤ r.right) → area.right ≡ (negsuc 0 -ℤ r.left) → area.top ≡ (negsuc 0 -ℤ r.bottom) → area.bottom ≡ (negsuc 0 -ℤ r.top)
    → IsScanOf inner (λ p. rect_holds area p && seen_set true q p) → IsScan (reverse (map turned inner)) s
up_scan rows r area s q inner g e same a b c d scan = record {
  pixels = λ p. boxed rows r s g e p ∙ (λ i. sym (turned_box r area p a b c d) i && (sym (same p) ∙ ap q (sym (twice p))) i) ∙ scan.pixels (seen_point true p) ∙ sym (any_turned inner p);
  runs = all_turned IsRun (map turned inner) (All-map IsRun turned inner (All-weaker IsRun (λ x. IsRun (turned x)) (λ x l. omega (arith, ints, l)) inner scan.runs));
  order = turned_order inner scan.order;
}

-- the turned spans lie in the plane
pub up_near : (rows : List EdgeRow) (r area : Rect) (q : PixelSet) (inner : List Span) → IsRegion rows r
    → area.left ≡ (negsuc 0 -ℤ r.right) → area.right ≡ (negsuc 0 -ℤ r.left) → area.top ≡ (negsuc 0 -ℤ r.bottom) → area.bottom ≡ (negsuc 0 -ℤ r.top)
    → IsScanOf inner (λ p. rect_holds area p && q p) → All IsNear inner
up_near rows r area q inner g ea eb ec ed scan = λ k d l.
    let x = get_or inner k d in
    let run = scan.runs k d l in
    let within : between x.left x.left x.right ≡ true = grind (arith, ints) in
    let last : between x.left (x.right -ℤ pos 1) x.right ≡ true = grind (arith, ints) in
    let p : Point = record { h = x.left; v = x.v } in
    let z : Point = record { h = x.right -ℤ pos 1; v = x.v } in
    let a = sides_of area p (and_parts (rect_holds area p) (q p) (scan.pixels p ∙ list_any_at (λ s. span_holds s p) inner k d l (λ i. int_eq-same x.v i && within i))).0 in
    let b = sides_of area z (and_parts (rect_holds area z) (q z) (scan.pixels z ∙ list_any_at (λ s. span_holds s z) inner k d l (λ i. int_eq-same x.v i && last i))).0 in
    let c = sides_in rows r g in
    let f = ends_in rows r g in
    let c1 = c.0.0 in
    let c2 = c.0.1 in
    let c3 = c.1.0 in
    let c4 = c.1.1 in
    let f1 = f.0.0 in
    let f2 = f.0.1 in
    let f3 = f.1.0 in
    let f4 = f.1.1 in
    let a1 = a.left in
    let a2 = a.right in
    let a3 = a.top in
    let a4 = a.bottom in
    let b1 = b.left in
    let b2 = b.right in
    ((omega (arith, ints), omega (arith, ints)), (omega (arith, ints), omega (arith, ints)), (omega (arith, ints), omega (arith, ints)))

pub near_v : (x : ℤ) → negsuc 16384 ≤ℤ x → x ≤ℤ pos 16384 → SFits w32 (negsuc 1 -ℤ x)
near_v x low high = search (arith, ints)

pub near_side : (x : ℤ) → negsuc 16384 ≤ℤ x → x ≤ℤ pos 16384 → SFits w32 (negsuc 0 -ℤ x)
near_side x low high = search (arith, ints)
