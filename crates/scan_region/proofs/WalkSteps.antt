-- A walk from column to column, and from row to row.
use Rattle.std.proofs.Common.{◌≡◌, ◌⊎◌, ℕ, Bool, true, false, ◌&&◌, ◌<◌, ◌≤◌, ◌∷◌, List, ℤ, pos, ◌<ℤ◌, ◌≤ℤ◌, refl, sym, ap, ◌∙◌, subst, arith, inl, inr, None}
use Rattle.std.proofs.lemmas.Int.{ints, by_lt_z}
use Rattle.std.proofs.lemmas.Bool.{and_parts}
use Rattle.tb_geom.specs.declared.point.Point.{Point}
use Rattle.tb_geom.specs.Points.{PixelSet}
use Rattle.region_rows.specs.Bits.{has_bit}
use Rattle.scan_region.specs.Parts.{IsPart, IsFit, IsWalk, HasSides, IsWalkTurn, all_count, part_counts, runs_left}
use Rattle.region_rows.specs.Counts.{count_to}
use Rattle.scan_region.specs.Walks.{runs_on}
use Rattle.scan_region.specs.declared.part.Part.{Part}
use Rattle.scan_region.specs.declared.part.Part.TheVariants.{Open, Lined, Tested}
use Rattle.scan_region.specs.declared.walk.Walk.{Walk}
use Rattle.scan_region.proofs.PartSteps.{Turns, counted, part_apart}
use Rattle.region_rows.proofs.Counts.{count-is}
use Rattle.scan_region.proofs.WalkRuns.{gap-to, run-to}

-- ---- where the parts turn

none-1 : (a b c d : Bool) → a ≡ false → (a && (b && (c && d))) ≡ false
none-1 a b c d e = λ i. e i && (b && (c && d))

and-false : (a : Bool) → (a && false) ≡ false
and-false true = refl
and-false false = refl

none-2 : (a b c d : Bool) → b ≡ false → (a && (b && (c && d))) ≡ false
none-2 a b c d e = (λ i. a && (e i && (c && d))) ∙ and-false a

none-3 : (a b c d : Bool) → c ≡ false → (a && (b && (c && d))) ≡ false
none-3 a b c d e = (λ i. a && (b && (e i && d))) ∙ ap (λ t. a && t) (and-false b) ∙ and-false a

none-4 : (a b c d : Bool) → d ≡ false → (a && (b && (c && d))) ≡ false
none-4 a b c d e = (λ i. a && (b && (c && e i))) ∙ ap (λ t. a && (b && t)) (and-false c) ∙ ap (λ t. a && t) (and-false b) ∙ and-false a

module _ (w : Walk) (t4 t3 t2 to : ℤ) (h4 : Turns w.words w.hole w.v w.at w.right t4) (h3 : Turns w.words w.third w.v w.at t4 t3) (h2 : Turns w.words w.second w.v w.at t3 t2) (h1 : Turns w.words w.first w.v w.at t2 to) where
  turned : (s : PixelSet) → IsWalk w s → to <ℤ w.right → all_count w ≡ true → s (record { h = to; v = w.v }) ≡ false
  turned s r m counts =
      let p : Point = record { h = to; v = w.v } in
      let a = r.first_set p in
      let b = r.second_set p in
      let c = r.third_set p in
      let d = r.hole_set p in
      let c1 = and_parts (part_counts w.first) (part_counts w.second && (part_counts w.third && part_counts w.hole)) counts in
      let c2 = and_parts (part_counts w.second) (part_counts w.third && part_counts w.hole) c1.1 in
      let c3 = and_parts (part_counts w.third) (part_counts w.hole) c2.1 in
      let u1 = h1.up in
      let u2 = h2.up in
      let u3 = h3.up in
      r.all to w.v ∙ by_lt_z to t2
      (λ l. none-1 a b c d (h1.turned l c1.0 r.first_set r.first))
      (λ l. let e2 : t2 ≡ to = omega (arith, ints) in by_lt_z t2 t3
      (λ k. none-2 a b c d (subst (λ z. r.second_set (record { h = z; v = w.v }) ≡ false) e2 (h2.turned k c2.0 r.second_set r.second)))
      (λ k. let e3 : t3 ≡ to = omega (arith, ints) in by_lt_z t3 t4
      (λ j. none-3 a b c d (subst (λ z. r.third_set (record { h = z; v = w.v }) ≡ false) e3 (h3.turned j c3.0 r.third_set r.third)))
      (λ j. let e4 : t4 ≡ to = omega (arith, ints) in none-4 a b c d (subst (λ z. r.hole_set (record { h = z; v = w.v }) ≡ false) e4 (h4.turned (omega (arith, ints)) c3.1 r.hole_set r.hole)))))

  pub walk_turn : IsWalkTurn w to
  walk_turn =
      let u1 = h1.up in
      let u2 = h2.up in
      let u3 = h3.up in
      let u4 = h4.up in
      record {
        onward = h1.on;
        within = omega (arith, ints);
        first = h1.steady;
        second = λ s r x a b. h2.steady s r x a (omega (arith, ints));
        third = λ s r x a b. h3.steady s r x a (omega (arith, ints));
        hole = λ s r x a b. h4.steady s r x a (omega (arith, ints));
        turned = turned;
      }

-- ---- a step

-- at the pixel at hand the set is what the parts count
pub at_hand : (w : Walk) (left : ℤ) (s : PixelSet) → HasSides w left w.right → w.at <ℤ w.right → IsWalk w s → s (record { h = w.at; v = w.v }) ≡ all_count w
at_hand w left s sides room r =
    r.all w.at w.v
    ∙ (λ i. counted w.words w.first left w.right 0 sides.after_first r.first_set w.v w.at sides.first room r.first i
    && (counted w.words w.second left w.right sides.after_first sides.after_second r.second_set w.v w.at sides.second room r.second i
    && (counted w.words w.third left w.right sides.after_second sides.after_third r.third_set w.v w.at sides.third room r.third i
    && counted w.words w.hole left w.right sides.after_third 8192 r.hole_set w.v w.at sides.hole room r.hole i)))

-- and so up to the next turn
pub steady_walk : (w : Walk) (left : ℤ) (s : PixelSet) (to : ℤ) → HasSides w left w.right → w.at <ℤ w.right → IsWalkTurn w to → IsWalk w s → (x : ℤ) → w.at ≤ℤ x → x <ℤ to → s (record { h = x; v = w.v }) ≡ all_count w
steady_walk w left s to sides room t r x a b =
    r.all x w.v ∙ (λ i. t.first r.first_set r.first x a b i && (t.second r.second_set r.second x a b i && (t.third r.third_set r.third x a b i && t.hole r.hole_set r.hole x a b i)))
    ∙ sym (r.all w.at w.v) ∙ at_hand w left s sides room r

-- where all count, a run is the first of those that were left
pub step-run : (w : Walk) (left : ℤ) (s : PixelSet) (to : ℤ) → HasSides w left w.right → w.at <ℤ w.right → IsWalkTurn w to → IsWalk w s → all_count w ≡ true
    → runs_left w s ≡ record { v = w.v; left = w.at; right = to } ∷ runs_on (λ h. s (record { h = h; v = w.v })) w.v None to (count_to to w.right)
step-run w left s to sides room t r counts =
    run-to (λ h. s (record { h = h; v = w.v })) w.v w.at to w.right t.onward t.within (λ x a b. steady_walk w left s to sides room t r x a b ∙ counts) (λ m. t.turned s r m counts)

-- where not all count, no run is passed
pub step-gap : (w : Walk) (left : ℤ) (s : PixelSet) (to : ℤ) → HasSides w left w.right → w.at <ℤ w.right → IsWalkTurn w to → IsWalk w s → all_count w ≡ false
    → runs_left w s ≡ runs_on (λ h. s (record { h = h; v = w.v })) w.v None to (count_to to w.right)
step-gap w left s to sides room t r counts =
    let on = t.onward in
    gap-to (λ h. s (record { h = h; v = w.v })) w.v w.at to w.right (omega (arith, ints)) t.within (λ x a b. steady_walk w left s to sides room t r x a b ∙ counts)

-- and there is less of the row left
pub step-less : (w : Walk) (to : ℤ) → IsWalkTurn w to → count_to to w.right < count_to w.at w.right
step-less w to t =
    let onward = t.onward in
    let within = t.within in
    let a = count-is to w.right within in
    let b = count-is w.at w.right (omega (arith, ints)) in
    omega (arith, ints)

-- ---- the walk after a step

-- a walk of other parts, which let the same sets through
pub walk_of : (w n : Walk) (s : PixelSet) → (r : IsWalk w s) → IsPart n.words n.first r.first_set n.v n.at → IsPart n.words n.second r.second_set n.v n.at → IsPart n.words n.third r.third_set n.v n.at → IsPart n.words n.hole r.hole_set n.v n.at → IsWalk n s
walk_of w n s r a b c d = record { first_set = r.first_set; second_set = r.second_set; third_set = r.third_set; hole_set = r.hole_set; all = r.all; first = a; second = b; third = c; hole = d }

-- what a part that goes down does to itself and to the bits of others
pub record Goes (words after : List ℕ) (part next : Part) (left right v : ℤ) (low high : ℕ) : Type 0 where
  pub part_is : (s : PixelSet) (w at : ℤ) → w ≤ℤ v → IsPart words part s w at → IsPart after next s v left
  pub apart : (k : ℕ) → (k < low) ⊎ (high ≤ k) → has_bit after k ≡ has_bit words k
  pub before : IsFit left right low high part
  pub fit : IsFit left right low high next

-- the parts of a walk, one after another
module _ (w : Walk) (words1 words2 words3 words4 : List ℕ) (p1 p2 p3 p4 : Part) (left v : ℤ) (sides : HasSides w left w.right)
    (g1 : Goes w.words words1 w.first p1 left w.right v 0 sides.after_first) (g2 : Goes words1 words2 w.second p2 left w.right v sides.after_first sides.after_second)
    (g3 : Goes words2 words3 w.third p3 left w.right v sides.after_second sides.after_third) (g4 : Goes words3 words4 w.hole p4 left w.right v sides.after_third 8192) (order : w.v ≤ℤ v) where
  low_of : (part : Part) (low high : ℕ) → IsFit left w.right low high part → low ≤ high
  low_of Open low high fit = fit
  low_of (Lined l) low high fit = let a = fit.2 in let b = fit.3 in omega arith
  low_of (Tested t) low high fit = fit.1

  pub gone_first : (s : PixelSet) → IsPart w.words w.first s w.v w.at → IsPart words4 p1 s v left
  gone_first s r =
      let b2 = low_of p2 sides.after_first sides.after_second g2.fit in
      let b3 = low_of p3 sides.after_second sides.after_third g3.fit in
      part_apart words1 words4 p1 left w.right 0 sides.after_first s v left g1.fit (λ k a b. g4.apart k (inl (omega arith)) ∙ g3.apart k (inl (omega arith)) ∙ g2.apart k (inl b)) (g1.part_is s w.v w.at order r)

  pub gone_second : (s : PixelSet) → IsPart w.words w.second s w.v w.at → IsPart words4 p2 s v left
  gone_second s r =
      let b3 = low_of p3 sides.after_second sides.after_third g3.fit in
      part_apart words2 words4 p2 left w.right sides.after_first sides.after_second s v left g2.fit (λ k a b. g4.apart k (inl (omega arith)) ∙ g3.apart k (inl b))
      (g2.part_is s w.v w.at order (part_apart w.words words1 w.second left w.right sides.after_first sides.after_second s w.v w.at sides.second (λ k a b. g1.apart k (inr a)) r))

  pub gone_third : (s : PixelSet) → IsPart w.words w.third s w.v w.at → IsPart words4 p3 s v left
  gone_third s r =
      let b2 = low_of p2 sides.after_first sides.after_second g2.fit in
      part_apart words3 words4 p3 left w.right sides.after_second sides.after_third s v left g3.fit (λ k a b. g4.apart k (inl b))
      (g3.part_is s w.v w.at order (part_apart w.words words2 w.third left w.right sides.after_second sides.after_third s w.v w.at sides.third (λ k a b. g2.apart k (inr a) ∙ g1.apart k (inr (omega arith))) r))

  pub gone_hole : (s : PixelSet) → IsPart w.words w.hole s w.v w.at → IsPart words4 p4 s v left
  gone_hole s r =
      let b2 = low_of p2 sides.after_first sides.after_second g2.fit in
      let b3 = low_of p3 sides.after_second sides.after_third g3.fit in
      g4.part_is s w.v w.at order (part_apart w.words words3 w.hole left w.right sides.after_third 8192 s w.v w.at sides.hole (λ k a b. g3.apart k (inr a) ∙ g2.apart k (inr (omega arith)) ∙ g1.apart k (inr (omega arith))) r)

-- the runs that are left after a step
pub after_pass : (n w : Walk) (s : PixelSet) (to : ℤ) → n.v ≡ w.v → n.at ≡ to → n.right ≡ w.right → runs_left n s ≡ runs_on (λ h. s (record { h = h; v = w.v })) w.v None to (count_to to w.right)
after_pass n w s to ev ea er = λ i. runs_on (λ h. s (record { h = h; v = ev i })) (ev i) None (ea i) (count_to (ea i) (er i))

pub run_first : (n w : Walk) (left : ℤ) (s : PixelSet) (to : ℤ) → HasSides w left w.right → w.at <ℤ w.right → IsWalkTurn w to → IsWalk w s → all_count w ≡ true → n.v ≡ w.v → n.at ≡ to → n.right ≡ w.right
    → runs_left w s ≡ record { v = n.v; left = w.at; right = to } ∷ runs_left n s
run_first n w left s to sides room t r counts ev ea er =
    step-run w left s to sides room t r counts ∙ (λ i. record { v = sym ev i; left = w.at; right = to } ∷ sym (after_pass n w s to ev ea er) i)

pub gap_first : (n w : Walk) (left : ℤ) (s : PixelSet) (to : ℤ) → HasSides w left w.right → w.at <ℤ w.right → IsWalkTurn w to → IsWalk w s → all_count w ≡ false → n.v ≡ w.v → n.at ≡ to → n.right ≡ w.right
    → runs_left w s ≡ runs_left n s
gap_first n w left s to sides room t r counts ev ea er = step-gap w left s to sides room t r counts ∙ sym (after_pass n w s to ev ea er)

pub less_left : (n w : Walk) (to : ℤ) → IsWalkTurn w to → n.at ≡ to → n.right ≡ w.right → count_to n.at n.right < count_to w.at w.right
less_left n w to t ea er = subst (λ k. k < count_to w.at w.right) (sym (λ i. count_to (ea i) (er i))) (step-less w to t)

-- the sides of a walk whose parts keep theirs
pub sides_of : (w n : Walk) (left right : ℤ) → (s : HasSides w left right) → n.right ≡ right → left ≤ℤ n.at → n.v <ℤ pos 2147483647 → IsFit left right 0 s.after_first n.first → IsFit left right s.after_first s.after_second n.second
    → IsFit left right s.after_second s.after_third n.third → IsFit left right s.after_third 8192 n.hole → HasSides n left right
sides_of w n left right s end begun row a b c d = record { end = end; begun = begun; row = row; after_first = s.after_first; after_second = s.after_second; after_third = s.after_third; first = a; second = b; third = c; hole = d }

-- the sides of a walk whose end is told in another way
pub sides_along : (w n : Walk) (left right : ℤ) → w.right ≡ right → (HasSides w left w.right → HasSides n left w.right) → HasSides w left right → HasSides n left right
sides_along w n left right e f h = subst (HasSides n left) e (f (subst (HasSides w left) (sym e) h))

-- the sides of a walk, told by its own end
pub own_sides : (w n : Walk) (left : ℤ) → HasSides n left w.right → HasSides n left n.right
own_sides w n left h = subst (HasSides n left) (sym h.end) h

pub lower : (w n : Walk) (next : ℤ) → n.v ≡ w.v → w.v ≤ℤ next → n.v ≤ℤ next
lower w n next e l = subst (λ v. v ≤ℤ next) (sym e) l
