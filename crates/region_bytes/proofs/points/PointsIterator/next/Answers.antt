use Rattle.std.proofs.Common.{◌≡◌, ℕ, zero, suc, ◌+◌, ◌<◌, ◌≤◌, List, [], ◌∷◌, ◌++◌, length, drop, get_or, sym, ap, ◌∙◌, refl, arith, add-one, subst}
use Rattle.std.proofs.Math.Seq.{drop-cons}
use Rattle.std.specs.Iterator.{YieldsFirst}
use Rattle.tb_geom.specs.declared.point.Point.{Point}
use Rattle.region_bytes.proofs.points.PointsIterator.next.Goals as goal

one_given : (xs rest : List Point) (i : ℕ) (d : Point) → i < length xs → drop i xs ++ rest ≡ get_or xs i d ∷ (drop (i + 1) xs ++ rest)
one_given xs rest i d l = rw (add-one, drop-cons xs i d) refl

all_given : (xs rest : List Point) (i : ℕ) → length xs ≤ i → drop i xs ++ rest ≡ rest
all_given [] rest zero l = refl
all_given [] rest (suc i) l = refl
all_given (x ∷ xs) rest zero l = absurd (omega arith)
all_given (x ∷ xs) rest (suc i) l = all_given xs rest i (omega arith)

pub returns-then-self-lt4-clause-steps : goal.returns-then-self-lt4-clause-steps
returns-then-self-lt4-clause-steps c =
    let size = c.self.invariant in
    sym c.self.view_is ∙ one_given c.self.inside.corners c.self.inside.rest c.self.inside.given _ (omega arith)

pub returns-then-self-lt4-clause-goes : goal.returns-then-self-lt4-clause-goes
returns-then-self-lt4-clause-goes c =
    let longer = ap length (returns-then-self-lt4-clause-steps c) in
    record { on = λ _. (tt, tt, omega (arith, longer)); keeps = tt; rests = λ _. tt }

pub returns-clause-steps : goal.returns-clause-steps
returns-clause-steps c =
    let size = c.self.invariant in
    let g : length c.self.inside.corners ≤ c.self.inside.given = omega arith in
    let before = sym (all_given c.self.inside.corners c.self.inside.rest c.self.inside.given g) ∙ c.self.view_is in
    let after = all_given c.self.inside.corners c.next.new.self c.self.inside.given g in
    subst (λ s. YieldsFirst (λ (rest : List Point). rest) s c.next.result (drop c.self.inside.given c.self.inside.corners ++ c.next.new.self)) before
    (subst (λ n. YieldsFirst (λ (rest : List Point). rest) c.self.inside.rest c.next.result n) (sym after) c.next.ensures.steps)
