-- Each set of pixels has one list of spans.
use Rattle.std.proofs.Common.{◌≡◌, ◌⊎◌, zero, suc, Bool, true, false, ◌&&◌, ◌||◌, List, [], ◌∷◌, ℤ, ◌<ℤ◌, ◌≤ℤ◌, refl, sym, ap, ◌∙◌, subst, inl, inr, arith}
use Rattle.std.specs.List.{list_any, All, AllPairs}
use Rattle.std.specs.Ordering.{int_eq}
use Rattle.std.proofs.Math.Bool.{and-false}
use Rattle.std.proofs.lemmas.Int.{ints, by_lt_z}
use Rattle.std.proofs.lemmas.Bool.{true≢false, false≢true}
use Rattle.std.proofs.lemmas.List.Elements.{All-head, All-tail, All-weaker}
use Rattle.std.proofs.lemmas.List.Folds.{list_any_none}
use Rattle.tb_geom.specs.declared.point.Point.{Point}
use Rattle.tb_geom.specs.Rects.{between}
use Rattle.tb_geom.specs.Pixels.{Pixels}
use Rattle.scan_region.specs.declared.spans.Span.{Span}
use Rattle.scan_region.specs.Scan.{span_holds, IsRun, Precedes, IsScan}
use Rattle.region_rows.proofs.Merged.{int_eq-same, int_eq-apart}

-- spans that are runs, in their order
record AreRuns (spans : List Span) : Type 0 where
  runs : All IsRun spans
  order : AllPairs Precedes spans

-- whether one of the spans has the pixel
abbrev any : List Span → Point → Bool
any spans p = list_any (λ s. span_holds s p) spans

rest_runs : (x : Span) (a : List Span) → AreRuns (x ∷ a) → AreRuns a
rest_runs x a r = record {
  runs = All-tail IsRun x a r.runs;
  order = λ i j d m n. r.order (suc i) (suc j) d (omega arith) (omega arith);
}

-- the first span lies before each other
first_precedes : (x : Span) (a : List Span) → AreRuns (x ∷ a) → All (Precedes x) a
first_precedes x a r = λ i d n. r.order zero (suc i) d (omega arith) (omega arith)

-- the point lies above the span's row, or in it up to the span's end
abbrev IsUpTo : Span → Point → Type 0
IsUpTo x p = (p.v <ℤ x.v) ⊎ ((p.v ≡ x.v) × (p.h ≤ℤ x.right))

-- a span has no pixel above its row, nor left of it, nor at its end
out_above : (s : Span) (p : Point) → p.v <ℤ s.v → span_holds s p ≡ false
out_above s p l = ap (λ b. b && between s.left p.h s.right) (int_eq-apart s.v p.v (λ same. omega (arith, ints)))

out_left : (s : Span) (p : Point) → p.h <ℤ s.left → span_holds s p ≡ false
out_left s p l =
    let out : between s.left p.h s.right ≡ false = grind (arith, ints) in
    ap (λ b. int_eq s.v p.v && b) out ∙ and-false _

out_right : (s : Span) (p : Point) → s.right ≤ℤ p.h → span_holds s p ≡ false
out_right s p l =
    let out : between s.left p.h s.right ≡ false = grind (arith, ints) in
    ap (λ b. int_eq s.v p.v && b) out ∙ and-false _

in_run : (s : Span) (h : ℤ) → s.left ≤ℤ h → h <ℤ s.right → span_holds s (record { h = h; v = s.v }) ≡ true
in_run s h l m =
    let within : between s.left h s.right ≡ true = grind (arith, ints) in
    λ i. int_eq-same s.v i && within i

-- up to the end of a span, those after it have no pixel
later_out : (x s : Span) (p : Point) → IsUpTo x p → Precedes x s → span_holds s p ≡ false
later_out x s p (inl l) (inl m) = out_above s p (omega (arith, ints))
later_out x s p (inl l) (inr m) = let same = m.0 in out_above s p (omega (arith, ints))
later_out x s p (inr l) (inl m) = let same = l.0 in out_above s p (omega (arith, ints))
later_out x s p (inr l) (inr m) = let high = l.1 in let gap = m.1 in out_left s p (omega (arith, ints))

rest_out : (x : Span) (a : List Span) (p : Point) → AreRuns (x ∷ a) → IsUpTo x p → any a p ≡ false
rest_out x a p r u =
    list_any_none (λ s. span_holds s p) a (All-weaker (Precedes x) (λ s. span_holds s p ≡ false) (λ s m. later_out x s p u m) a (first_precedes x a r))

or_false : (a b : Bool) → a ≡ false → b ≡ false → (a || b) ≡ false
or_false a b e f = λ i. e i || f i

-- above the row of the first span there is no pixel, nor in its row left of it, nor at its end
none_above : (x : Span) (a : List Span) (p : Point) → AreRuns (x ∷ a) → p.v <ℤ x.v → any (x ∷ a) p ≡ false
none_above x a p r l = or_false _ _ (out_above x p l) (rest_out x a p r (inl l))

none_left : (x : Span) (a : List Span) (p : Point) → AreRuns (x ∷ a) → p.v ≡ x.v → p.h <ℤ x.left → any (x ∷ a) p ≡ false
none_left x a p r e l =
    let run = All-head IsRun x a r.runs in
    or_false _ _ (out_left x p l) (rest_out x a p r (inr (e, omega (arith, ints))))

none_right : (x : Span) (a : List Span) (p : Point) → AreRuns (x ∷ a) → p.v ≡ x.v → p.h ≡ x.right → any (x ∷ a) p ≡ false
none_right x a p r e f = or_false _ _ (out_right x p (omega (arith, ints, f))) (rest_out x a p r (inr (e, omega (arith, ints, f))))

-- in the first span there is one
some_first : (x : Span) (a : List Span) (h v : ℤ) → v ≡ x.v → x.left ≤ℤ h → h <ℤ x.right → any (x ∷ a) (record { h = h; v = v }) ≡ true
some_first x a h v e l m = ap (λ w. any (x ∷ a) (record { h = h; v = w })) e ∙ ap (λ b. b || any a (record { h = h; v = x.v })) (in_run x h l m)

-- lists with the same pixels
abbrev Same : List Span → List Span → Type 0
Same a b = (p : Point) → any a p ≡ any b p

-- neither list begins in a higher row
not_above : (x y : Span) (a b : List Span) → AreRuns (x ∷ a) → AreRuns (y ∷ b) → Same (x ∷ a) (y ∷ b) → x.v <ℤ y.v → ⊥
not_above x y a b r s e l =
    let run = All-head IsRun x a r.runs in
    true≢false (sym (some_first x a x.left x.v refl (omega (arith, ints)) run) ∙ e _ ∙ none_above y b _ s l)

not_left : (x y : Span) (a b : List Span) → AreRuns (x ∷ a) → AreRuns (y ∷ b) → Same (x ∷ a) (y ∷ b) → x.v ≡ y.v → x.left <ℤ y.left → ⊥
not_left x y a b r s e v l =
    let run = All-head IsRun x a r.runs in
    true≢false (sym (some_first x a x.left x.v refl (omega (arith, ints)) run) ∙ e _ ∙ none_left y b _ s v l)

not_shorter : (x y : Span) (a b : List Span) → AreRuns (x ∷ a) → AreRuns (y ∷ b) → Same (x ∷ a) (y ∷ b) → x.v ≡ y.v → x.left ≡ y.left → x.right <ℤ y.right → ⊥
not_shorter x y a b r s e v f l =
    let run = All-head IsRun x a r.runs in
    false≢true (sym (none_right x a (record { h = x.right; v = x.v }) r refl refl) ∙ e _ ∙ some_first y b x.right x.v v (omega (arith, ints, f)) l)

equal : (x y : ℤ) → (x <ℤ y → ⊥) → (y <ℤ x → ⊥) → x ≡ y
equal x y f g = by_lt_z x y (λ l. absurd (f l)) (λ l. by_lt_z y x (λ m. absurd (g m)) (λ m. omega (arith, ints)))

turned : (a b : List Span) → Same a b → Same b a
turned a b e p = sym (e p)

same_first : (x y : Span) (a b : List Span) → AreRuns (x ∷ a) → AreRuns (y ∷ b) → Same (x ∷ a) (y ∷ b) → x ≡ y
same_first x y a b r s e =
    let back = turned (x ∷ a) (y ∷ b) e in
    let v = equal x.v y.v (not_above x y a b r s e) (not_above y x b a s r back) in
    let left = equal x.left y.left (not_left x y a b r s e v) (not_left y x b a s r back (sym v)) in
    let right = equal x.right y.right (not_shorter x y a b r s e v left) (not_shorter y x b a s r back (sym v) (sym left)) in
    λ i. record { v = v i; left = left i; right = right i }

-- a pixel of the first span is in no other
held_first : (x : Span) (a : List Span) (p : Point) → AreRuns (x ∷ a) → span_holds x p ≡ true → any a p ≡ false
held_first x a p r held = rest_out x a p r (up_to (int_eq x.v p.v) (between x.left p.h x.right) refl refl held)
  where
    up_to : (e w : Bool) → int_eq x.v p.v ≡ e → between x.left p.h x.right ≡ w → (e && w) ≡ true → IsUpTo x p
    up_to true true f g h = inr (grind (arith, ints), grind (arith, ints))
    up_to true false f g h = absurd (cc)
    up_to false w f g h = absurd (cc)

same_rest : (x : Span) (a b : List Span) → AreRuns (x ∷ a) → AreRuns (x ∷ b) → Same (x ∷ a) (x ∷ b) → Same a b
same_rest x a b r s e p = by_first (span_holds x p) refl
  where
    by_first : (held : Bool) → span_holds x p ≡ held → any a p ≡ any b p
    by_first true f = held_first x a p r f ∙ sym (held_first x b p s f)
    by_first false f = sym (ap (λ c. c || any a p) f) ∙ e p ∙ ap (λ c. c || any b p) f

same_runs : (a b : List Span) → AreRuns a → AreRuns b → Same a b → a ≡ b
same_runs [] [] r s e = refl
same_runs [] (y ∷ b) r s e =
    let run = All-head IsRun y b s.runs in
    absurd (false≢true (e _ ∙ some_first y b y.left y.v refl (omega (arith, ints)) run))
same_runs (x ∷ a) [] r s e =
    let run = All-head IsRun x a r.runs in
    absurd (false≢true (sym (e _) ∙ some_first x a x.left x.v refl (omega (arith, ints)) run))
same_runs (x ∷ a) (y ∷ b) r s e =
    let first = same_first x y a b r s e in
    let like : y ∷ b ≡ x ∷ b = ap (λ z. z ∷ b) (sym first) in
    let rest = same_runs a b (rest_runs x a r) (rest_runs y b s)
    (same_rest x a b r (subst AreRuns like s) (λ p. e p ∙ ap (λ z. any z p) like)) in
    λ i. first i ∷ rest i

-- the spans of a set are given by the set
pub same_scan : (a b : List Span) (s : Pixels) → IsScan a s → IsScan b s → a ≡ b
same_scan a b s f g =
    same_runs a b (record { runs = f.runs; order = f.order }) (record { runs = g.runs; order = g.order }) (λ p. sym (f.pixels p) ∙ g.pixels p)
