-- How rows of edges, and regions, are combined.
use Rattle.std.proofs.Common.{◌≡◌, ◌&&◌, ◌<◌, ◌≤◌, Bool, true, false, List, [], ◌∷◌, ◌++◌, length, ℤ, refl, sym, ap, ◌∙◌, arith}
use Rattle.std.specs.Prelude.{Result, Ok, Err, OnOk}
use mathlib.Core.Bool.{beq}
use lib.Pointwise.{pointwise}
use Rattle.std.specs.Ordering.{int_eq}
use Rattle.std.proofs.lemmas.Bool.{and_parts, false≢true}
use Rattle.std.proofs.lemmas.Bool.Decides.{Decides-int_eq}
use Rattle.region_rows.specs.Edges.{differ, inside, alike, kept, applied, by_first, by_second, is_odd}
use Rattle.region_bytes.proofs.Edges.{inside-nil}
use Rattle.region_rows.specs.declared.kernel.Kept.{Kept}
use Rattle.region_rows.specs.declared.kernel.Kept.TheVariants.{Shared, Alone, All}
use Rattle.region_rows.specs.declared.operator.Operator.{Operator}
use Rattle.region_rows.specs.declared.operator.Operator.TheVariants.{Union, Intersection, Difference, SymmetricDifference}

-- the test for two equal values
pub beq-alike : (a b : Bool) → beq a b ≡ alike a b
beq-alike true true = refl
beq-alike true false = refl
beq-alike false true = refl
beq-alike false false = refl

-- ---- operators

-- what is in neither side is not in the combination
pub applied-none : (o : Operator) → applied o false false ≡ false
applied-none Union = refl
applied-none Intersection = refl
applied-none Difference = refl
applied-none SymmetricDifference = refl

-- where the first side turns by p and the second by q, the combination turns by what is kept of these
pub turned : (o : Operator) (p q d e : Bool) → differ (differ (kept (by_first o) p e) (kept (by_second o) q (differ d p))) (applied o d e) ≡ applied o (differ p d) (differ q e)
turned Union true true true true = refl
turned Union true true true false = refl
turned Union true true false true = refl
turned Union true true false false = refl
turned Union true false true true = refl
turned Union true false true false = refl
turned Union true false false true = refl
turned Union true false false false = refl
turned Union false true true true = refl
turned Union false true true false = refl
turned Union false true false true = refl
turned Union false true false false = refl
turned Union false false true true = refl
turned Union false false true false = refl
turned Union false false false true = refl
turned Union false false false false = refl
turned Intersection true true true true = refl
turned Intersection true true true false = refl
turned Intersection true true false true = refl
turned Intersection true true false false = refl
turned Intersection true false true true = refl
turned Intersection true false true false = refl
turned Intersection true false false true = refl
turned Intersection true false false false = refl
turned Intersection false true true true = refl
turned Intersection false true true false = refl
turned Intersection false true false true = refl
turned Intersection false true false false = refl
turned Intersection false false true true = refl
turned Intersection false false true false = refl
turned Intersection false false false true = refl
turned Intersection false false false false = refl
turned Difference true true true true = refl
turned Difference true true true false = refl
turned Difference true true false true = refl
turned Difference true true false false = refl
turned Difference true false true true = refl
turned Difference true false true false = refl
turned Difference true false false true = refl
turned Difference true false false false = refl
turned Difference false true true true = refl
turned Difference false true true false = refl
turned Difference false true false true = refl
turned Difference false true false false = refl
turned Difference false false true true = refl
turned Difference false false true false = refl
turned Difference false false false true = refl
turned Difference false false false false = refl
turned SymmetricDifference true true true true = refl
turned SymmetricDifference true true true false = refl
turned SymmetricDifference true true false true = refl
turned SymmetricDifference true true false false = refl
turned SymmetricDifference true false true true = refl
turned SymmetricDifference true false true false = refl
turned SymmetricDifference true false false true = refl
turned SymmetricDifference true false false false = refl
turned SymmetricDifference false true true true = refl
turned SymmetricDifference false true true false = refl
turned SymmetricDifference false true false true = refl
turned SymmetricDifference false true false false = refl
turned SymmetricDifference false false true true = refl
turned SymmetricDifference false false true false = refl
turned SymmetricDifference false false false true = refl
turned SymmetricDifference false false false false = refl

-- ---- beside an empty row

-- of nothing nothing is kept
kept-none : (k : Kept) (b : Bool) → kept k false b ≡ false
kept-none Shared b = refl
kept-none Alone b = refl
kept-none All b = refl

differ-none : (b : Bool) → b ≡ differ b false
differ-none true = refl
differ-none false = refl

pub none_in : (xs : List ℤ) (h : ℤ) → xs ≡ [] → inside xs h ≡ false
none_in xs h e = ap (λ l. inside l h) e ∙ inside-nil h

-- without columns a row is not turned
pub not_turned : (xs columns : List ℤ) (h : ℤ) → columns ≡ [] → inside xs h ≡ differ (inside xs h) (inside columns h)
not_turned xs columns h e = differ-none (inside xs h) ∙ ap (differ (inside xs h)) (sym (none_in columns h e))

-- what is kept of the first side is all where the second one has no points
pub first_alone : (k : Kept) (x b : Bool) (q : List ℤ) (h : ℤ) → q ≡ [] → x ≡ differ x (kept k (inside q h) b)
first_alone k x b q h e = differ-none x ∙ ap (differ x) (sym (ap (λ t. kept k t b) (none_in q h e) ∙ kept-none k b))

-- and what is kept of the second one where the first has none
pub second_alone : (k : Kept) (x b : Bool) (p : List ℤ) (h : ℤ) → p ≡ [] → x ≡ differ (kept k (inside p h) b) x
second_alone k x b p h e = ap (λ t. differ t x) (sym (ap (λ t. kept k t b) (none_in p h e) ∙ kept-none k b))

-- a row that is turned at its own edges is empty
pub same_turned : (xs ys : List ℤ) (h : ℤ) → xs ≡ ys → inside [] h ≡ differ (inside xs h) (inside ys h)
same_turned xs ys h e = inside-nil h ∙ sym (ap (λ l. differ (inside l h) (inside ys h)) e ∙ itself (inside ys h))
  where
    itself : (b : Bool) → differ b b ≡ false
    itself true = refl
    itself false = refl

-- and an empty one that is turned has the columns as edges
pub nothing_turned : (xs ys : List ℤ) (h : ℤ) → xs ≡ [] → inside (xs ++ ys) h ≡ differ (inside xs h) (inside ys h)
nothing_turned xs ys h e = ap (λ l. inside (l ++ ys) h) e ∙ sym (ap (λ t. differ t (inside ys h)) (none_in xs h e))

-- ---- equal rows

-- lists that pass the test for equal ones are equal
pub same_from_test : (xs ys : List ℤ) → pointwise int_eq xs ys ≡ true → xs ≡ ys
same_from_test [] [] e = refl
same_from_test [] (y ∷ ys) e = absurd (false≢true e)
same_from_test (x ∷ xs) [] e = absurd (false≢true e)
same_from_test (x ∷ xs) (y ∷ ys) e =
    let p = and_parts (int_eq x y) (pointwise int_eq xs ys) e in
    λ i. (Decides-int_eq x y).0 p.0 i ∷ same_from_test xs ys p.1 i

-- and a list passes it beside itself
pub test_itself : (xs : List ℤ) → pointwise int_eq xs xs ≡ true
test_itself [] = refl
test_itself (x ∷ xs) = λ i. (Decides-int_eq x x).1 refl i && test_itself xs i

-- ---- what a call says that may fail

-- what it says where it is Ok can be replaced by what follows from that
pub OnOk-weaker : {T E : Type 0} (r : Result T E) (P Q : Type 0) → (P → Q) → OnOk r P → OnOk r Q
OnOk-weaker (Ok x) P Q f h = f h
OnOk-weaker (Err e) P Q f h = h

-- ---- the ends of a row

-- a row with edges has two
pub two_at_least : (xs : List ℤ) → 0 < length xs → is_odd (length xs) ≡ false → 2 ≤ length xs
unfolding is_odd
two_at_least [] l e = absurd (omega arith)
two_at_least (x ∷ []) l e = cc
two_at_least (x ∷ y ∷ xs) l e = omega arith
