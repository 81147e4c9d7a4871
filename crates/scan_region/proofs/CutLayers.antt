-- A cut as layers of one row.
use Rattle.std.proofs.Common.{◌≡◌, ◌⊎◌, inl, inr, ℕ, zero, suc, ◌≤◌, Bool, true, false, not, ◌&&◌, List, [], ◌∷◌, ◌++◌, Option, Some, None, length, get_or, drop, ℤ, ◌<ℤ◌, refl, sym, ap, ◌∙◌, subst, arith}
use Rattle.std.specs.List.{list_all}
use Rattle.std.specs.Option.{is_some}
use Rattle.std.proofs.lemmas.Bool.{true≢false}
use Rattle.std.proofs.lemmas.Int.{ints}
use Rattle.std.specs.Borrow.{Bor}
use Rattle.tb_geom.specs.declared.point.Point.{Point}
use Rattle.tb_geom.specs.declared.rect.Rect.{Rect}
use Rattle.tb_geom.specs.Points.{PixelSet}
use Rattle.tb_geom.specs.Rects.{rect_holds}
use Rattle.tb_geom.specs.Pixels.{Pixels}
use Rattle.scan_region.specs.Cuts.{cut_holds, in_part, in_hole}
use Rattle.scan_region.specs.Descents.{spans_of, IsUpright}
use Rattle.scan_region.specs.Parts.{lets, IsPart, IsFit, IsWalk}
use Rattle.scan_region.specs.Scan.{IsScanOf}
use Rattle.scan_region.specs.SpanRows.{all_pixels}
use Rattle.region_rows.specs.Seen.{seen_point, seen_set}
use Rattle.region_rows.specs.Counts.{count_to}
use Rattle.scan_region.specs.Walks.{runs_on, rows_runs}
use Rattle.scan_region.specs.declared.cut.Cut.{Cut}
use Rattle.scan_region.specs.declared.descent.Run.{Run}
use Rattle.scan_region.specs.declared.part.Part.{Part}
use Rattle.scan_region.specs.declared.part.Part.TheVariants.{Open, Lined, Tested}
use Rattle.scan_region.specs.declared.spans.Span.{Span}
use Rattle.scan_region.specs.declared.walk.Walk.{Walk}
use Rattle.scan_region.proofs.WalkRuns.{runs-end, rows-end}
use Rattle.scan_region.proofs.WalkScan.{IsScanOf-rows_runs, IsScanOf-same}

-- a list of three is its elements
three : (parts : List (Option (Bor Pixels))) (a b c : Option (Bor Pixels)) → length parts ≡ 3 → a ≡ get_or parts 0 a → b ≡ get_or parts 1 b → c ≡ get_or parts 2 c → parts ≡ a ∷ b ∷ c ∷ []
three [] a b c l d e f = absurd (omega (arith, l))
three (x ∷ []) a b c l d e f = absurd (omega (arith, l))
three (x ∷ y ∷ []) a b c l d e f = absurd (omega (arith, l))
three (x ∷ y ∷ z ∷ []) a b c l d e f = sym (λ i. d i ∷ e i ∷ f i ∷ [])
three (x ∷ y ∷ z ∷ u ∷ rest) a b c l d e f = absurd (omega (arith, l))

grouped : (a b c d : Bool) → ((a && (b && (c && true))) && d) ≡ (a && (b && (c && d)))
grouped true true true d = refl
grouped true true false d = refl
grouped true false c d = refl
grouped false b c d = refl

parted : (cut : Cut) (a b c : Option (Bor Pixels)) (p : Point) → length cut.inside ≡ 3 → a ≡ get_or cut.inside 0 a → b ≡ get_or cut.inside 1 b → c ≡ get_or cut.inside 2 c
    → cut_holds cut p ≡ (in_part a p && (in_part b p && (in_part c p && not (in_hole cut.outside p))))
unfolding cut_holds
parted cut a b c p l d e f =
    ap (λ parts. list_all (λ part. in_part part p) parts && not (in_hole cut.outside p)) (three cut.inside a b c l d e f)
    ∙ grouped (in_part a p) (in_part b p) (in_part c p) (not (in_hole cut.outside p))

as_part : (r : Option (Bor Pixels)) (p : Point) → in_part r p ≡ lets false r p
as_part None p = refl
as_part (Some r) p = refl

as_hole : (r : Option (Bor Pixels)) (p : Point) → not (in_hole r p) ≡ lets true r p
as_hole None p = refl
as_hole (Some r) p = refl

-- a cut is what each of its parts lets through
pub cut_parts : (cut : Cut) (a b c : Option (Bor Pixels)) (p : Point) → length cut.inside ≡ 3 → a ≡ get_or cut.inside 0 a → b ≡ get_or cut.inside 1 b → c ≡ get_or cut.inside 2 c
    → cut_holds cut p ≡ (lets false a p && (lets false b p && (lets false c p && lets true cut.outside p)))
cut_parts cut a b c p l d e f = parted cut a b c p l d e f ∙ (λ i. as_part a p i && (as_part b p i && (as_part c p i && as_hole cut.outside p i)))

none_open : (lacks : Bool) (r : Option (Bor Pixels)) (p : Point) → is_some r ≡ false → lets lacks r p ≡ true
none_open lacks None p e = refl
none_open lacks (Some r) p e = absurd (true≢false e)

-- a cut of no region leaves each pixel
pub open_cut : (cut : Cut) (a b c : Option (Bor Pixels)) (p : Point) → length cut.inside ≡ 3 → a ≡ get_or cut.inside 0 a → b ≡ get_or cut.inside 1 b → c ≡ get_or cut.inside 2 c
    → is_some a ≡ false → is_some b ≡ false → is_some c ≡ false → is_some cut.outside ≡ false → cut_holds cut p ≡ true
open_cut cut a b c p l d e f g h i j =
    cut_parts cut a b c p l d e f ∙ (λ k. none_open false a p g k && (none_open false b p h k && (none_open false c p i k && none_open true cut.outside p j k)))

-- where each pixel is left, the rows of an area are its spans
pub full_scan : (s : PixelSet) (area : Rect) → ((p : Point) → s p ≡ true) → IsScanOf (rows_runs all_pixels area.top area.left area.right (count_to area.top area.bottom)) (λ p. rect_holds area p && s p)
full_scan s area all =
    IsScanOf-same _ (λ p. rect_holds area p && all_pixels p) (λ p. rect_holds area p && s p) (λ p. ap (λ b. rect_holds area p && b) (all p)) (IsScanOf-rows_runs all_pixels area.left area.top area.right area.bottom)

-- a walk of parts that let through what those of a cut have, and not what its hole has
pub cut_walk : (w : Walk) (cut : Cut) (up : Bool) (a b c : Option (Bor Pixels)) → length cut.inside ≡ 3 → a ≡ get_or cut.inside 0 a → b ≡ get_or cut.inside 1 b → c ≡ get_or cut.inside 2 c
    → IsPart w.words w.first (seen_set up (lets false a)) w.v w.at → IsPart w.words w.second (seen_set up (lets false b)) w.v w.at → IsPart w.words w.third (seen_set up (lets false c)) w.v w.at
    → IsPart w.words w.hole (seen_set up (lets true cut.outside)) w.v w.at → IsWalk w (seen_set up (cut_holds cut))
cut_walk w cut up a b c l d e f first second third hole = record {
  first_set = seen_set up (lets false a);
  second_set = seen_set up (lets false b);
  third_set = seen_set up (lets false c);
  hole_set = seen_set up (lets true cut.outside);
  all = λ h v. cut_parts cut a b c (seen_point up (record { h = h; v = v })) l d e f;
  first = first;
  second = second;
  third = third;
  hole = hole;
}

-- a part fits a longer row of places
pub fit_up : (left right : ℤ) (low high top : ℕ) (part : Part) → high ≤ top → IsFit left right low high part → IsFit left right low top part
fit_up left right low high top Open l fit = omega (arith, fit)
fit_up left right low high top (Lined r) l fit =
    let to = fit.3 in
    (fit.0, fit.1, fit.2, omega arith, fit.4)
fit_up left right low high top (Tested t) l fit =
    let to = fit.1 in
    (fit.0, omega arith)

none_dropped : (n : ℕ) (v : ℤ) (runs : List Run) → runs ≡ [] → spans_of v (drop n runs) ≡ []
none_dropped zero v [] e = refl
none_dropped (suc n) v [] e = refl
none_dropped n v (x ∷ runs) e = absurd (omega (arith, ap length e))

-- before its first row a walk has the spans of the whole area left
pub new_scan : (s : PixelSet) (area : Rect) (v row : ℤ) (told : ℕ) (kept : List Run) → kept ≡ []
    → IsScanOf (spans_of v (drop told kept) ++ (runs_on (λ h. s (record { h = h; v = row })) row None area.right (count_to area.right area.right) ++ rows_runs s area.top area.left area.right (count_to area.top area.bottom))) (λ p. rect_holds area p && s p)
new_scan s area v row told kept none =
    subst (λ spans. IsScanOf spans (λ p. rect_holds area p && s p))
    (sym (λ i. none_dropped told v kept none i ++ (runs-end (λ h. s (record { h = h; v = row })) row area.right area.right (omega (arith, ints)) i ++ rows_runs s area.top area.left area.right (count_to area.top area.bottom))))
    (IsScanOf-rows_runs s area.left area.top area.right area.bottom)

no_more : (xs ys : List Span) → ys ≡ [] → xs ++ ys ≡ xs
no_more [] ys e = e
no_more (x ∷ xs) ys e = ap (λ rest. x ∷ rest) (no_more xs ys e)

-- the rows up to the row `asked` are full, and those from there on are to be walked
pub split_scan : (s : PixelSet) (area : Rect) (asked v row : ℤ) (told : ℕ) (kept : List Run) → kept ≡ [] → (asked ≡ area.top) ⊎ ((asked ≡ area.bottom) × ((p : Point) → s p ≡ true))
    → IsScanOf (rows_runs all_pixels area.top area.left area.right (count_to area.top asked) ++ (spans_of v (drop told kept) ++ (runs_on (λ h. s (record { h = h; v = row })) row None area.right (count_to area.right area.right) ++ rows_runs s asked area.left area.right (count_to asked area.bottom))))
    (λ p. rect_holds area p && s p)
split_scan s area asked v row told kept none (inl e) =
    subst (λ spans. IsScanOf spans (λ p. rect_holds area p && s p))
    (sym (λ i. rows-end all_pixels area.top area.left area.right asked (omega (arith, ints, e)) i ++ (spans_of v (drop told kept) ++ (runs_on (λ h. s (record { h = h; v = row })) row None area.right (count_to area.right area.right) ++ rows_runs s (e i) area.left area.right (count_to (e i) area.bottom)))))
    (new_scan s area v row told kept none)
split_scan s area asked v row told kept none (inr m) =
    let e = m.0 in
    subst (λ spans. IsScanOf spans (λ p. rect_holds area p && s p))
    (sym (no_more (rows_runs all_pixels area.top area.left area.right (count_to area.top asked)) _
    (λ i. none_dropped told v kept none i ++ (runs-end (λ h. s (record { h = h; v = row })) row area.right area.right (omega (arith, ints)) i ++ rows-end s asked area.left area.right area.bottom (omega (arith, ints, e)) i))
    ∙ ap (λ z. rows_runs all_pixels area.top area.left area.right (count_to area.top z)) e))
    (full_scan s area m.1)

-- a cut that leaves each pixel leaves each that is seen
pub seen_split : (up : Bool) (cut : Cut) (area : Rect) (asked : ℤ) → (asked ≡ area.top) ⊎ ((asked ≡ area.bottom) × ((p : Point) → cut_holds cut p ≡ true)) → (asked ≡ area.top) ⊎ ((asked ≡ area.bottom) × ((p : Point) → seen_set up (cut_holds cut) p ≡ true))
seen_split up cut area asked (inl e) = inl e
seen_split up cut area asked (inr m) = inr (m.0, λ p. m.1 (seen_point up p))

-- the full rows of an upright area have pixels
pub are_full : (area : Rect) (asked : ℤ) (P : Type 0) → IsUpright area → (asked ≡ area.top) ⊎ ((asked ≡ area.bottom) × P) → area.top <ℤ asked → area.left <ℤ area.right
are_full area asked P u (inl e) m = absurd (omega (arith, ints, e))
are_full area asked P u (inr t) m = let e = t.0 in u.2 (omega (arith, ints, e))

-- ---- an area that is cut to the boxes of the parts

-- one part after another
pub one_more : (a0 a1 f0 f1 rest : Bool) → (a1 && f1) ≡ (a0 && f0) → (a1 && (f1 && rest)) ≡ (a0 && (f0 && rest))
one_more a0 a1 f0 f1 rest e = sym (grouped_and a1 f1 rest) ∙ ap (λ x. x && rest) e ∙ grouped_and a0 f0 rest
  where
    grouped_and : (x y z : Bool) → ((x && y) && z) ≡ (x && (y && z))
    grouped_and true y z = refl
    grouped_and false y z = refl

swapped : (x y z : Bool) → (x && (y && z)) ≡ (y && (x && z))
swapped true true z = refl
swapped true false z = refl
swapped false true z = refl
swapped false false z = refl

pub all_narrowed : (a0 a1 a2 a3 f0 f1 s0 s1 t0 t1 h0 h1 : Bool) → (a1 && f1) ≡ (a0 && f0) → (a2 && s1) ≡ (a1 && s0) → (a3 && t1) ≡ (a2 && t0) → (a3 && h1) ≡ (a3 && h0)
    → (a3 && (f1 && (s1 && (t1 && h1)))) ≡ (a0 && (f0 && (s0 && (t0 && h0))))
all_narrowed a0 a1 a2 a3 f0 f1 s0 s1 t0 t1 h0 h1 e1 e2 e3 e4 =
    swapped a3 f1 (s1 && (t1 && h1))
    ∙ ap (λ x. f1 && x) (swapped a3 s1 (t1 && h1) ∙ ap (λ x. s1 && x) (swapped a3 t1 h1 ∙ ap (λ x. t1 && x) e4 ∙ sym (swapped a3 t1 h0) ∙ one_more a2 a3 t0 t1 h0 e3) ∙ sym (swapped a2 s1 (t0 && h0)) ∙ one_more a1 a2 s0 s1 (t0 && h0) e2)
    ∙ sym (swapped a1 f1 (s0 && (t0 && h0)))
    ∙ one_more a0 a1 f0 f1 (s0 && (t0 && h0)) e1

-- an area is what it shares with itself
pub both_same : (a b : Bool) → b ≡ (a && a) → a ≡ b
both_same true b e = sym e
both_same false b e = sym e
